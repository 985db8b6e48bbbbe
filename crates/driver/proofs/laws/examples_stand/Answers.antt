use Rattle.driver.proofs.Examples.{examples}
use Rattle.driver.proofs.laws.examples_stand.Goals as goal

pub returns : goal.returns
returns c = examples
