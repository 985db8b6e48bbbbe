-- Tokens as the grammar looks at them, and the classes of tokens that it tells apart.
use Rattle.std.specs.Prelude.{◌≡◌, ℕ, ◌-◌, ◌<◌, Bool, true, false, cond, List, Some, None, Ok, Err, Option, Result, ◌==◌, OnSome}
use Rattle.lexer.specs.declared.token.Radix.{Radix}
use Rattle.lexer.specs.declared.token.Radix.TheVariants as radix
use Rattle.lexer.specs.declared.token.Keyword.{Keyword}
use Rattle.lexer.specs.declared.token.Keyword.TheVariants as word
use Rattle.lexer.specs.declared.token.Symbol.{Symbol}
use Rattle.lexer.specs.declared.token.Symbol.TheVariants as sign
use Rattle.lexer.specs.contracts.token.KeywordPartialEq.TheImpl as keyword_eq
use Rattle.lexer.specs.contracts.token.SymbolPartialEq.TheImpl as symbol_eq
use Rattle.lexer.specs.Names.{name_of}
use Rattle.lexer.specs.Reserved.{keyword_of}
use Rattle.lexer.specs.Cut.{Piece}
use Rattle.lexer.specs.Cut as piece
use Rattle.parser.specs.declared.value_type.ValueType.{ValueType}
use Rattle.parser.specs.declared.value_type.ValueType.TheVariants as types
use Rattle.parser.specs.ValueTypes.{numeral_type}
use Rattle.parser.specs.declared.fault.GrammarFault.{GrammarFault}
use Rattle.parser.specs.declared.fault.GrammarFault.TheVariants.{TooDeep}
use Rattle.parser.specs.declared.node.Operator.{Operator}
use Rattle.parser.specs.declared.node.Operator.TheVariants as operator
use Rattle.arith.specs.declared.shift.Kind.{Kind as ShiftKind}
use Rattle.arith.specs.declared.shift.Kind.TheVariants as shift
use Rattle.parser.specs.declared.lexeme.Sort.{Sort}
use Rattle.parser.specs.declared.lexeme.Sort.TheVariants as sort
use Rattle.parser.specs.declared.lexeme.Lexeme.{Lexeme}
use Rattle.parser.specs.declared.lexeme.Strength.{Strength}
use Rattle.parser.specs.declared.lexeme.Strength.TheVariants as strength
use Rattle.parser.specs.contracts.lexeme.StrengthPartialEq.TheImpl as strength_eq
use Rattle.parser.specs.declared.lexeme.Opening.{Opening}
use Rattle.parser.specs.declared.lexeme.Opening.TheVariants as opening

-- What a token is to the grammar; `stop` is the end of the text.
pub data Mark : Type 0 where
  keyword : Keyword → Mark
  symbol : Symbol → Mark
  name : List ℕ → Mark
  number : Radix → (value : ℕ) → Mark
  stop : Mark

-- A token as the grammar looks at it, with its offset.
pub record Tok : Type 0 where
  pub sort : Mark
  pub offset : ℕ

-- What a token of the code is to the grammar.
abbrev pub mark_of : Sort → Mark
mark_of (sort.Keyword w) = keyword w
mark_of (sort.Symbol s) = symbol s
mark_of (sort.Name n) = name (name_of n)
mark_of (sort.Number r v) = number r v
mark_of sort.Stop = stop

-- A token of the code as the grammar looks at it.
abbrev pub tok_of : Lexeme → Tok
tok_of x = record { sort = mark_of x.sort; offset = x.offset }

-- A word is a reserved word, or else a name.
abbrev pub word_mark : List ℕ → Option Keyword → Mark
word_mark w None = name w
word_mark w (Some k) = keyword k

-- The word w at the offset p as the grammar looks at it.
abbrev pub word_tok : List ℕ → ℕ → Tok
word_tok w p = record { sort = word_mark w (keyword_of w); offset = p }

-- A token that the text was cut into, as the grammar looks at it.
abbrev pub piece_tok : Piece → Tok
piece_tok (piece.word w p) = word_tok w p
piece_tok (piece.number w r v p) = record { sort = number r v; offset = p }
piece_tok (piece.symbol s p) = record { sort = symbol s; offset = p }

-- 1 for a token, and 0 for the end of the text, which is not a token.
abbrev pub live : Mark → ℕ
live stop = 0
live _ = 1

-- Whether two symbols are the same, by their derived `==`.
abbrev pub same_symbol : Symbol → Symbol → Bool
same_symbol = symbol_eq.ghosts.eq

-- Whether two reserved words are the same, by their derived `==`.
abbrev pub same_keyword : Keyword → Keyword → Bool
same_keyword = keyword_eq.ghosts.eq

-- Whether two strengths are the same, by their derived `==`.
abbrev pub same_strength : Strength → Strength → Bool
same_strength = strength_eq.ghosts.eq

-- The token is this symbol.
abbrev pub is_symbol : Symbol → Mark → Bool
is_symbol s (symbol x) = same_symbol s x
is_symbol s _ = false

-- The token is this reserved word.
abbrev pub is_keyword : Keyword → Mark → Bool
is_keyword w (keyword x) = same_keyword w x
is_keyword w _ = false

-- Which reserved word the token is, if it is one.
abbrev pub word_at : Mark → Option Keyword
word_at (keyword w) = Some w
word_at _ = None

-- What f gives for a reserved word, if there is one.
abbrev pub and_then : {A : Type 0} → (Keyword → Option A) → Option Keyword → Option A
and_then f None = None
and_then f (Some w) = f w

-- The value of a decimal number, if the token is one.
abbrev pub decimal_of : Mark → Option ℕ
decimal_of (number radix.Decimal v) = Some v
decimal_of (number radix.Octal v) = None
decimal_of (keyword w) = None
decimal_of (symbol s) = None
decimal_of (name n) = None
decimal_of stop = None

-- The bytes of a name, if the token is one.
abbrev pub spelled_of : Mark → Option (List ℕ)
spelled_of (name n) = Some n
spelled_of _ = None

-- The type that a reserved word names, if it names one.
abbrev pub type_word : Keyword → Option ValueType
type_word word.Integer = Some types.Integer
type_word word.Logical = Some types.Logical
type_word _ = None

-- The kind of shift that a reserved word names, if it names one.
abbrev pub shift_word : Keyword → Option ShiftKind
shift_word word.Lsl = Some shift.Lsl
shift_word word.Lsr = Some shift.Lsr
shift_word word.Asr = Some shift.Asr
shift_word word.Csl = Some shift.Csl
shift_word word.Csr = Some shift.Csr
shift_word _ = None

-- The operator that a reserved word is, if it is one.
abbrev pub operator_word : Keyword → Option Operator
operator_word word.Mod = Some operator.Mod
operator_word word.Land = Some operator.Land
operator_word word.Xor = Some operator.Xor
operator_word word.Lor = Some operator.Lor
operator_word _ = None

-- The operator that a symbol is, if it is one.
abbrev pub operator_sign : Symbol → Option Operator
operator_sign sign.Unequal = Some operator.Unequal
operator_sign sign.AtMost = Some operator.AtMost
operator_sign sign.AtLeast = Some operator.AtLeast
operator_sign sign.Equal = Some operator.Equal
operator_sign sign.Less = Some operator.Less
operator_sign sign.Greater = Some operator.Greater
operator_sign sign.Plus = Some operator.Plus
operator_sign sign.Minus = Some operator.Minus
operator_sign sign.Times = Some operator.Times
operator_sign sign.Divide = Some operator.Divide
operator_sign _ = None

-- The value of TRUE and of FALSE.
abbrev pub truth_word : Keyword → Option ℕ
truth_word word.True = Some 65535
truth_word word.False = Some 0
truth_word _ = None

-- Which statement a reserved word begins, if it begins one that opens a level.
abbrev pub opening_word : Keyword → Option Opening
opening_word word.Begin = Some opening.Block
opening_word word.If = Some opening.Conditional
opening_word word.Case = Some opening.Choice
opening_word word.While = Some opening.While
opening_word word.Do = Some opening.Do
opening_word word.For = Some opening.For
opening_word _ = None

-- The type that the token names, if it names one.
abbrev pub type_of : Mark → Option ValueType
type_of m = and_then type_word (word_at m)

-- The kind of shift that the token names, if it names one.
abbrev pub shift_of : Mark → Option ShiftKind
shift_of m = and_then shift_word (word_at m)

-- The operator that the token is, if it is one.
abbrev pub operator_of : Mark → Option Operator
operator_of (keyword w) = operator_word w
operator_of (symbol s) = operator_sign s
operator_of (name n) = None
operator_of (number k v) = None
operator_of stop = None

-- A value of TRUE or FALSE with its type.
abbrev pub truth_at : Option ℕ → Option (ℕ × ValueType)
truth_at None = None
truth_at (Some v) = Some (v, types.Logical)

-- The value and the type of a number, of TRUE and of FALSE, if the token is one of these.
abbrev pub literal_of : Mark → Option (ℕ × ValueType)
literal_of (number r v) = Some (v, numeral_type r)
literal_of (keyword w) = truth_at (truth_word w)
literal_of (symbol s) = None
literal_of (name n) = None
literal_of stop = None

-- Which statement the token begins, if it begins one that opens a level.
abbrev pub opening_of : Mark → Option Opening
opening_of m = and_then opening_word (word_at m)

-- The text is at its end.
abbrev pub is_stop : Mark → Bool
is_stop stop = true
is_stop _ = false

-- The strength of each operator.
abbrev pub strength_of : Operator → Strength
strength_of operator.Times = strength.Term
strength_of operator.Divide = strength.Term
strength_of operator.Mod = strength.Term
strength_of operator.Plus = strength.Sum
strength_of operator.Minus = strength.Sum
strength_of operator.Equal = strength.Relation
strength_of operator.Unequal = strength.Relation
strength_of operator.Less = strength.Relation
strength_of operator.AtMost = strength.Relation
strength_of operator.Greater = strength.Relation
strength_of operator.AtLeast = strength.Relation
strength_of operator.Land = strength.Land
strength_of operator.Xor = strength.Xor
strength_of operator.Lor = strength.Lor

-- The operator, if it has this strength.
abbrev pub of_strength : Strength → Option Operator → Option Operator
of_strength s None = None
of_strength s (Some o) = cond (same_strength s (strength_of o)) (Some o) None

-- The operator that the token is, if it is one of this strength.
abbrev pub operator_at : Strength → Mark → Option Operator
operator_at s m = of_strength s (operator_of m)

-- What a class of tokens answers for a token of the code. The end of the text is in no class.
abbrev pub IsClassed : {A : Type 0} → (Mark → Option A) → Lexeme → Option A → Type 0
IsClassed class x r = (r ≡ class (mark_of x.sort)) × OnSome r (live (mark_of x.sort) ≡ 1)

-- The token opens a level: n levels are left then, or it is refused, since no level was left.
abbrev pub OpensLevel : Lexeme → (l : ℕ) → Result ℕ GrammarFault → Type 0
OpensLevel x l (Ok n) = ((l == 0) ≡ false) × (l - 1 ≡ n) × (n < l)
OpensLevel x l (Err e) = ((l == 0) ≡ true) × (e ≡ TooDeep x.offset)
