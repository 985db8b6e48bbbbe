-- The number and the place of each refusal of a session, and of a call.
use Rattle.std.specs.Prelude.{ℕ}
use Rattle.base.specs.declared.refusal.Refusal.{Refusal}
use Rattle.base.specs.Refusals.{refusal_at}
use Rattle.base.specs.Stores.{refusal_of as store_refusal}
use Rattle.machine.specs.declared.fault.SessionFault.{SessionFault}
use Rattle.machine.specs.declared.fault.SessionFault.TheVariants.{BadCode, ShortStack, ShortStore, NoSteps, Ended, UsedUp}
use Rattle.machine.specs.declared.fault.CallFault.{CallFault}
use Rattle.machine.specs.declared.fault.CallFault.TheVariants.{Session, Store}

-- The number of each refusal of a session.
abbrev pub number_of : SessionFault → ℕ
number_of BadCode = 30
number_of ShortStack = 31
number_of ShortStore = 32
number_of NoSteps = 33
number_of Ended = 34
number_of UsedUp = 35

-- The number and the place of each refusal of a session. The place is always 0.
abbrev pub refusal_of : SessionFault → Refusal
refusal_of e = refusal_at (number_of e) 0

-- The number and the place of each refusal of a call: that of a resume or of a look.
abbrev pub call_refusal : CallFault → Refusal
call_refusal (Session e) = refusal_of e
call_refusal (Store e) = store_refusal e
