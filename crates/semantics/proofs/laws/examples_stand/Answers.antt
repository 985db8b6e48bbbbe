use Rattle.semantics.proofs.Examples.{examples}
use Rattle.semantics.proofs.laws.examples_stand.Goals as goal

pub returns : goal.returns
returns c = examples
