use Rattle.std.proofs.Common.{[], ◌∷◌}
use Rattle.parser.specs.Machine.{fields}
use Rattle.parser.specs.Readers.{weight}
use Rattle.parser.proofs.Sofar.{Sofar}
use Rattle.parser.proofs.reader.Reader.fields.Given as goal

abbrev pub invariant-loop-self : goal.invariant-loop-self
invariant-loop-self l = Sofar (fields ∷ []) l.initial.self l.self

abbrev pub decreases-loop-self : goal.decreases-loop-self
decreases-loop-self l = weight l.self
