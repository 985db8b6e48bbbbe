use Rattle.correctness.proofs.Examples.{examples}
use Rattle.correctness.proofs.laws.examples_stand.Goals as goal

pub returns : goal.returns
returns c = examples
