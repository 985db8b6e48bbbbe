use Rattle.compiler.proofs.Exact.{compiles_exactly}
use Rattle.compiler.proofs.laws.compiles_exactly.Goals as goal

pub returns : goal.returns
returns c = compiles_exactly
