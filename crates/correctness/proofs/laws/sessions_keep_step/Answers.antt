use Rattle.correctness.proofs.Ruled.{keeps_step}
use Rattle.correctness.proofs.laws.sessions_keep_step.Goals as goal

pub returns : goal.returns
returns c = keeps_step
