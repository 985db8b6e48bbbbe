use Rattle.arith.proofs.Standing.{stands}
use Rattle.arith.proofs.laws.arithmetic_stands.Goals as goal

pub returns : goal.returns
returns c = stands
