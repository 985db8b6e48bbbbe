use Rattle.std.proofs.Common.{◌+◌, ◌-◌, ◌*◌, [], ◌∷◌}
use Rattle.parser.specs.Machine.{more}
use Rattle.parser.specs.Readers.{weight}
use Rattle.parser.proofs.Sofar.{Sofar}
use Rattle.parser.proofs.Ranks.{depth}
use Rattle.parser.proofs.reader.Reader.+expressions.Given as goal

abbrev pub decreases-chain : goal.decreases-chain
decreases-chain l = 48 * l.levels + depth l.s

abbrev pub decreases-first : goal.decreases-first
decreases-first l = 48 * l.levels + (depth l.s - 1)

abbrev pub decreases-operand : goal.decreases-operand
decreases-operand l = 48 * l.levels + (depth l.s - 2)

abbrev pub decreases-relation : goal.decreases-relation
decreases-relation l = 48 * l.levels + 28

abbrev pub decreases-compare : goal.decreases-compare
decreases-compare l = 48 * l.levels + 26

abbrev pub decreases-lead : goal.decreases-lead
decreases-lead l = 48 * l.levels + 18

abbrev pub decreases-factor : goal.decreases-factor
decreases-factor l = 48 * l.levels + 12

abbrev pub decreases-primary : goal.decreases-primary
decreases-primary l = 48 * l.levels + 10

abbrev pub decreases-named : goal.decreases-named
decreases-named l = 48 * l.levels + 8

abbrev pub decreases-paren : goal.decreases-paren
decreases-paren l = 48 * l.levels + 6

abbrev pub invariant-chain-loop-o : goal.invariant-chain-loop-o
invariant-chain-loop-o l = Sofar (more l.s l.levels ∷ []) l.initial.self l.self

abbrev pub decreases-chain-loop-o : goal.decreases-chain-loop-o
decreases-chain-loop-o l = weight l.self
