-- A session and what is lent to it at a call.
use Rattle.std.specs.Prelude.{◌≡◌, ℕ, List, length, Result}
use Rattle.base.specs.declared.refusal.Refusal.{Refusal}
use Rattle.machine.specs.Machine.{State, state}
use Rattle.machine.specs.Sessions.{start_refusal, resume_answer, state_after}
use Rattle.machine.specs.Calls.{answer_of, state_after_call, answers_of, state_after_calls}
use Rattle.machine.specs.declared.call.Call.{Call}
use Rattle.machine.specs.declared.call.Answer.{Answer}
use Rattle.machine.specs.declared.resources.Resources.{Resources}
use Rattle.machine.specs.declared.session.Session.{Session}

-- `words` gives the cells of a store
module _ {S : Type 0} (words : S → List ℕ) where
  -- Whether what is lent is enough for a code with c cells and the depth d; or the refusal.
  abbrev pub fit : (c d : ℕ) → Resources S → Result (Unit {0}) Refusal
  fit c d l = start_refusal c d (length l.code.now) (length l.stack.now) (length (words l.store.now))

  -- The state: the registers of the session, the stack and the cells.
  abbrev pub state_of : Session → Resources S → State
  state_of s l = state s.registers l.stack.now (words l.store.now)

  -- The state after a resume, or its refusal.
  abbrev pub resume_of : Session → Resources S → (limit : ℕ) → Result State Refusal
  resume_of s l limit = resume_answer s.cells s.depth l.code.now limit (state_of s l)

  -- The state that a resume leaves, also if it is refused.
  abbrev pub resume_leaves : Session → Resources S → (limit : ℕ) → State
  resume_leaves s l limit = state_after (resume_of s l limit) (state_of s l)

  -- What a call answers.
  abbrev pub call_of : Session → Resources S → Call → Result Answer Refusal
  call_of s l x = answer_of s.cells s.depth l.code.now x (state_of s l)

  -- The state that a call leaves.
  abbrev pub call_leaves : Session → Resources S → Call → State
  call_leaves s l x = state_after_call s.cells s.depth l.code.now x (state_of s l)

  -- What a list of calls answers.
  abbrev pub calls_of : Session → Resources S → List Call → List (Result Answer Refusal)
  calls_of s l xs = answers_of s.cells s.depth l.code.now xs (state_of s l)

  -- The state that a list of calls leaves.
  abbrev pub calls_leave : Session → Resources S → List Call → State
  calls_leave s l xs = state_after_calls s.cells s.depth l.code.now xs (state_of s l)

-- What no call changes: the cells and the depth of the session, the code, the loans, and what `keeps` says of the
-- store.
pub record Lasts {S : Type 0} (keeps : S → S → Type 0) (s t : Session) (l m : Resources S) : Type 0 where
  pub cells : t.cells ≡ s.cells
  pub depth : t.depth ≡ s.depth
  pub code : m.code ≡ l.code
  pub stack : m.stack.ghost_name ≡ l.stack.ghost_name
  pub store : m.store.ghost_name ≡ l.store.ghost_name
  pub kept : keeps l.store.now m.store.now
