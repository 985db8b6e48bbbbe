use Rattle.correctness.proofs.Admitted.{ruled_within}
use Rattle.correctness.proofs.laws.cells_are_within.Goals as goal

pub returns : goal.returns
returns c = ruled_within
