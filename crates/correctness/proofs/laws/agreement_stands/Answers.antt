use Rattle.correctness.proofs.Ruled.{agrees}
use Rattle.correctness.proofs.laws.agreement_stands.Goals as goal

pub returns : goal.returns
returns c = agrees
