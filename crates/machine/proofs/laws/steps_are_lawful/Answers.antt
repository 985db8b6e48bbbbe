use Rattle.machine.proofs.Runs.{lawful}
use Rattle.machine.proofs.laws.steps_are_lawful.Goals as goal

pub returns : goal.returns
returns c = lawful
