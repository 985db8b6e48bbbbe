use Rattle.std.proofs.Common.{◌≡◌, length}
use Rattle.lexer.specs.Cut.{fault}
use Rattle.lexer.proofs.whole.check.Given as goal

abbrev pub invariant-loop-after : goal.invariant-loop-after
invariant-loop-after l = fault l.end l.initial.rest ≡ fault l.end l.rest

abbrev pub decreases-loop-after : goal.decreases-loop-after
decreases-loop-after l = length l.rest
