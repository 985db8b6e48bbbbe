use Rattle.compiler.proofs.Examples.{examples}
use Rattle.compiler.proofs.laws.examples_stand.Goals as goal

pub returns : goal.returns
returns c = examples
