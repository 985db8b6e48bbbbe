-- The number and the place of each refusal of a trial.
use Rattle.base.specs.declared.refusal.Refusal.{Refusal}
use Rattle.compiler.specs.Faults.{refusal_of as compile_refusal}
use Rattle.machine.specs.Faults.{refusal_of as session_refusal}
use Rattle.driver.specs.declared.fault.TrialFault.{TrialFault}
use Rattle.driver.specs.declared.fault.TrialFault.TheVariants.{Compile, Session}

-- The number and the place of each fault of a trial: that of the compiler or that of a session.
abbrev pub refusal_of : TrialFault → Refusal
refusal_of (Compile e) = compile_refusal e
refusal_of (Session e) = session_refusal e
