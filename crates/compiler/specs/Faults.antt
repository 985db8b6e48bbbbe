-- The number and the place of each refusal of the compiler.
use Rattle.base.specs.declared.refusal.Refusal.{Refusal}
use Rattle.base.specs.Refusals.{refusal_at}
use Rattle.sema.specs.Faults.{refusal_of as of_check}
use Rattle.compiler.specs.declared.fault.CompileFault.{CompileFault}
use Rattle.compiler.specs.declared.fault.CompileFault.TheVariants.{Check, TooLong}

-- The number and the place of each fault of the compiler. A fault of an earlier stage keeps its own.
abbrev pub refusal_of : CompileFault → Refusal
refusal_of (Check e) = of_check e
refusal_of (TooLong p) = refusal_at 14 p
