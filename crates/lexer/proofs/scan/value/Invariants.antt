use Rattle.std.proofs.Common.{◌≡◌, drop}
use Rattle.lexer.specs.Lexemes.{value_of, base_of}
use Rattle.lexer.proofs.scan.value.Given as goal

abbrev pub invariant-loop-d : goal.invariant-loop-d
invariant-loop-d l = value_of (base_of l.radix) 0 l.digits ≡ value_of (base_of l.radix) l.n (drop l.d-index l.digits)
