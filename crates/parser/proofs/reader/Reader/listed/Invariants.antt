use Rattle.std.proofs.Common.{[], ◌∷◌}
use Rattle.parser.specs.Machine.{comma}
use Rattle.parser.specs.Readers.{weight}
use Rattle.parser.proofs.Sofar.{Sofar}
use Rattle.parser.proofs.reader.Reader.listed.Given as goal

abbrev pub invariant-loop-value_type : goal.invariant-loop-value_type
invariant-loop-value_type l = Sofar (comma l.array l.value_type ∷ []) l.initial.self l.self

abbrev pub decreases-loop-value_type : goal.decreases-loop-value_type
decreases-loop-value_type l = weight l.self
