use Rattle.compiler.proofs.Enclosed.{enclosed}
use Rattle.compiler.proofs.laws.code_is_enclosed.Goals as goal

pub returns : goal.returns
returns c = enclosed
