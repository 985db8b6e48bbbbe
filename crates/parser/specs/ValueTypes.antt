-- The types of names and of expressions.
use Rattle.std.specs.Prelude.{ℕ, List, codes}
use Rattle.lexer.specs.declared.token.Radix.{Radix}
use Rattle.lexer.specs.declared.token.Radix.TheVariants.{Decimal, Octal}
use Rattle.parser.specs.declared.value_type.ValueType.{ValueType}
use Rattle.parser.specs.declared.value_type.ValueType.TheVariants.{Integer, Logical}

-- The type of a number, by how it is written.
abbrev pub numeral_type : Radix → ValueType
numeral_type Decimal = Integer
numeral_type Octal = Logical

-- How a declaration writes a type.
abbrev pub type_text : ValueType → List ℕ
type_text Integer = codes "INTEGER"
type_text Logical = codes "LOGICAL"
