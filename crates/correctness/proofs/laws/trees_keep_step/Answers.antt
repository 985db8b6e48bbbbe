use Rattle.correctness.proofs.Calls.{kept}
use Rattle.correctness.proofs.laws.trees_keep_step.Goals as goal

pub returns : goal.returns
returns c = kept
