use Rattle.std.proofs.Common.{◌≡◌, length}
use Rattle.lexer.specs.Cut.{past}
use Rattle.lexer.proofs.scan.trimmed.Given as goal

abbrev pub invariant-loop-n : goal.invariant-loop-n
invariant-loop-n l = past 0 l.rest ≡ past 0 l.initial.rest

abbrev pub decreases-loop-n : goal.decreases-loop-n
decreases-loop-n l = length l.rest
