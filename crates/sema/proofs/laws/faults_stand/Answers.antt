use Rattle.sema.proofs.Verdicts.{faults_stand}
use Rattle.sema.proofs.laws.faults_stand.Goals as goal

pub returns : goal.returns
returns c = faults_stand
