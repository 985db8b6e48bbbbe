use Rattle.sema.proofs.Verdicts.{refused_exactly}
use Rattle.sema.proofs.laws.refused_exactly.Goals as goal

pub returns : goal.returns
returns c = refused_exactly
