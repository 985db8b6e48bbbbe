use Rattle.correctness.proofs.Heights.{heights}
use Rattle.correctness.proofs.laws.heights_stand.Goals as goal

pub returns : goal.returns
returns c = heights
