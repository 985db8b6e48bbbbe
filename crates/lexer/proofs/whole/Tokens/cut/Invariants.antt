use Rattle.std.proofs.Common.{◌≡◌, ◌+◌, ◌≤◌, ◌++◌, map, length}
use Rattle.lexer.specs.Cut.{piece, tokens_left}
use Rattle.lexer.proofs.whole.Tokens.cut.Given as goal

abbrev pub invariant-loop-t : goal.invariant-loop-t
invariant-loop-t l = (tokens_left l.end l.initial.rest ≡ map piece l.self-inside.list ++ tokens_left l.end l.rest) × (length l.self-inside.list + length l.rest ≤ 32768)

abbrev pub decreases-loop-t : goal.decreases-loop-t
decreases-loop-t l = length l.rest
