-- Two sources on the machine.
use Rattle.std.specs.Prelude.{◌≡◌, [], ◌∷◌, Some}
use Rattle.arith.specs.declared.stop.Stop.TheVariants.{BadIndex}
use Rattle.base.specs.declared.op.Op.TheVariants as op
use Rattle.ir.specs.Instrs.{of, HALT, LIT, STOR}
use Rattle.codegen.specs.Code.{program, depth}
use Rattle.machine.specs.declared.ending.Ending.TheVariants.{Halted, Stopped}
use Rattle.machine.specs.Machine.{state}
use Rattle.semantics.specs.Meaning.{Within}
use Rattle.semantics.specs.Examples.{plain, filling}
use Rattle.machine.specs.declared.call.Call.TheVariants.{Resume, Look, Report}
use Rattle.machine.specs.Sessions.{initial_registers}
use Rattle.machine.specs.Calls.{state_after_calls}
use Rattle.correctness.specs.Agreement.{after, Keeps}

-- What the machine does on the code of these two sources.
pub record Examples : Type 0 where
  -- N := 7 - 2 * 3
  pub code : program plain ≡ LIT 7 ∷ LIT 2 ∷ LIT 3 ∷ of op.Mul 0 0 ∷ of op.Sub 0 0 ∷ STOR 0 ∷ HALT ∷ []
  pub deep : depth plain ≡ 3
  pub runs : after plain (0 ∷ 0 ∷ 0 ∷ []) (9 ∷ []) 7 ≡ state record { pc = 6; height = 0; steps = 7; writes = 1; ending = Some Halted } (1 ∷ 6 ∷ 3 ∷ []) (1 ∷ [])
  -- the same in three resumes, of which the last asks for more steps than there are; a fourth is refused
  pub calls : state_after_calls 1 3 (program plain) (Resume 2 ∷ Report ∷ Resume 3 ∷ Look 0 ∷ Resume 9 ∷ Resume 9 ∷ []) (state initial_registers (0 ∷ 0 ∷ 0 ∷ []) (9 ∷ [])) ≡ after plain (0 ∷ 0 ∷ 0 ∷ []) (9 ∷ []) 7
  -- a loop that stops at a subscript, after seven writes
  pub stops : (after filling (0 ∷ 0 ∷ 0 ∷ 0 ∷ []) (7 ∷ 0 ∷ 0 ∷ 0 ∷ 0 ∷ []) 60).registers.ending ≡ Some (Stopped BadIndex)
  pub cells : (after filling (0 ∷ 0 ∷ 0 ∷ 0 ∷ []) (7 ∷ 0 ∷ 0 ∷ 0 ∷ 0 ∷ []) 60).cells ≡ 4 ∷ 0 ∷ 1 ∷ 2 ∷ 3 ∷ []
  pub writes : (after filling (0 ∷ 0 ∷ 0 ∷ 0 ∷ []) (7 ∷ 0 ∷ 0 ∷ 0 ∷ 0 ∷ []) 60).registers.writes ≡ 7
  -- It names its own five cells only, so the theorem holds of it: what the theorem asks for can be met.
  pub within : Within filling 5
  pub keeps : Keeps filling (0 ∷ 0 ∷ 0 ∷ 0 ∷ []) (7 ∷ 0 ∷ 0 ∷ 0 ∷ 0 ∷ [])
