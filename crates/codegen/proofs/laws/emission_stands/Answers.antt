use Rattle.codegen.proofs.Sizes.{stands}
use Rattle.codegen.proofs.laws.emission_stands.Goals as goal

pub returns : goal.returns
returns c = stands
