use Rattle.driver.proofs.Kept.{promised}
use Rattle.driver.proofs.laws.sessions_keep_the_promise.Goals as goal

pub returns : goal.returns
returns c = promised
