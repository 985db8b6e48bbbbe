use Rattle.correctness.proofs.Whole.{agreement}
use Rattle.correctness.proofs.laws.trees_agree.Goals as goal

pub returns : goal.returns
returns c = agreement
