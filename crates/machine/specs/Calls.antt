-- Lists of calls: what each call answers, and what it leaves for the next one.
use Rattle.std.specs.Prelude.{ℕ, List, [], ◌∷◌, map, Ok, Result}
use Rattle.base.specs.declared.instr.Instr.{Instr}
use Rattle.base.specs.declared.refusal.Refusal.{Refusal}
use Rattle.base.specs.Refusals.{told, then}
use Rattle.base.specs.Stores.{read_of}
use Rattle.machine.specs.Machine.{State}
use Rattle.machine.specs.declared.call.Call.{Call}
use Rattle.machine.specs.declared.call.Call.TheVariants.{Resume, Look, Report}
use Rattle.machine.specs.declared.call.Answer.{Answer}
use Rattle.machine.specs.declared.call.Answer.TheVariants.{Registers, Word}
use Rattle.machine.specs.declared.call.Exchange.{Exchange}
use Rattle.machine.specs.Faults.{call_refusal}
use Rattle.machine.specs.Sessions.{resume_answer, state_after}

-- on the code P, if the session was started with c cells and the depth d
module _ (c d : ℕ) (P : List Instr) where
  -- What a call answers, if s is the state before it.
  abbrev pub answer_of : Call → State → Result Answer Refusal
  answer_of (Resume limit) s = then (resume_answer c d P limit s) (λ t. Ok (Registers t.registers))
  answer_of (Look cell) s = then (read_of s.cells cell) (λ w. Ok (Word w))
  answer_of Report s = Ok (Registers s.registers)

  -- The state after a call. Look and report change nothing.
  abbrev pub state_after_call : Call → State → State
  state_after_call (Resume limit) s = state_after (resume_answer c d P limit s) s
  state_after_call (Look cell) s = s
  state_after_call Report s = s

  -- The state after a list of calls. Each call works on what the one before it left.
  unfoldable pub state_after_calls : List Call → State → State
  state_after_calls [] s = s
  state_after_calls (x ∷ xs) s = state_after_calls xs (state_after_call x s)

  -- The answers to a list of calls.
  unfoldable pub answers_of : List Call → State → List (Result Answer Refusal)
  answers_of [] s = []
  answers_of (x ∷ xs) s = answer_of x s ∷ answers_of xs (state_after_call x s)

-- A call that is not made yet. Its answer has no meaning.
abbrev pub open_exchange : Call → Exchange
open_exchange x = record { call = x; answer = Ok (Word 0) }

-- The calls of a list of exchanges.
abbrev pub calls_in : List Exchange → List Call
calls_in xs = map (λ x. x.call) xs

-- The answers of a list of exchanges, with the number and place of each refusal.
abbrev pub answers_in : List Exchange → List (Result Answer Refusal)
answers_in xs = map (λ x. told call_refusal x.answer) xs
