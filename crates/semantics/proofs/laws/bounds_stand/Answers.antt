use Rattle.semantics.proofs.Bounds.{bounded}
use Rattle.semantics.proofs.laws.bounds_stand.Goals as goal

pub returns : goal.returns
returns c = bounded
