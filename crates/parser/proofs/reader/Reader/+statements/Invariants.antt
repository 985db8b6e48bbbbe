use Rattle.std.proofs.Common.{◌+◌, ◌*◌, [], ◌∷◌}
use Rattle.parser.specs.Machine.{block, arms}
use Rattle.parser.specs.Readers.{weight}
use Rattle.parser.proofs.Sofar.{Sofar}
use Rattle.parser.proofs.reader.Reader.+statements.Given as goal

abbrev pub decreases-statement : goal.decreases-statement
decreases-statement l = 16 * l.levels + 1

abbrev pub decreases-inner : goal.decreases-inner
decreases-inner l = 16 * l.levels + 10

abbrev pub decreases-block : goal.decreases-block
decreases-block l = 16 * l.levels + 8

abbrev pub decreases-conditional : goal.decreases-conditional
decreases-conditional l = 16 * l.levels + 8

abbrev pub decreases-choice : goal.decreases-choice
decreases-choice l = 16 * l.levels + 8

abbrev pub decreases-repeat_while : goal.decreases-repeat_while
decreases-repeat_while l = 16 * l.levels + 8

abbrev pub decreases-repeat_until : goal.decreases-repeat_until
decreases-repeat_until l = 16 * l.levels + 8

abbrev pub decreases-counted : goal.decreases-counted
decreases-counted l = 16 * l.levels + 8

abbrev pub decreases-stepped : goal.decreases-stepped
decreases-stepped l = 16 * l.levels + 6

abbrev pub decreases-otherwise : goal.decreases-otherwise
decreases-otherwise l = 16 * l.levels + 4

abbrev pub decreases-arms : goal.decreases-arms
decreases-arms l = 16 * l.levels + 4

abbrev pub decreases-turns : goal.decreases-turns
decreases-turns l = 16 * l.levels + 4

abbrev pub invariant-block-loop-self : goal.invariant-block-loop-self
invariant-block-loop-self l = Sofar (block l.levels ∷ []) l.initial.self l.self

abbrev pub decreases-block-loop-self : goal.decreases-block-loop-self
decreases-block-loop-self l = weight l.self

abbrev pub invariant-arms-loop-self : goal.invariant-arms-loop-self
invariant-arms-loop-self l = Sofar (arms l.levels ∷ []) l.initial.self l.self

abbrev pub decreases-arms-loop-self : goal.decreases-arms-loop-self
decreases-arms-loop-self l = weight l.self

abbrev pub decreases-begun : goal.decreases-begun
decreases-begun l = 16 * l.levels
