use Rattle.sema.proofs.Least.{least_decides}
use Rattle.sema.proofs.laws.least_stands.Goals as goal

pub returns : goal.returns
returns c = least_decides
