use Rattle.compiler.proofs.Heights.{deep}
use Rattle.compiler.proofs.laws.depth_is_the_largest.Goals as goal

pub returns : goal.returns
returns c = deep
