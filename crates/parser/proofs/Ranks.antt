-- How deep the readers of expressions call one another within a level. Assumes nothing.
use Rattle.std.proofs.Common.{ℕ}
use Rattle.parser.specs.declared.lexeme.Strength.{Strength}
use Rattle.parser.specs.declared.lexeme.Strength.TheVariants.{Lor, Xor, Land, Relation, Sum, Term}

abbrev pub depth : Strength → ℕ
depth Lor = 40
depth Xor = 36
depth Land = 32
depth Relation = 26
depth Sum = 22
depth Term = 16
