-- What each call of a session answers and leaves. A refusal is written by its number and place.
use Rattle.std.specs.Prelude.{◌≡◌, ℕ, ◌-◌, min, cond, ◌||◌, List, length, is_some, None, Ok, Err, Result, ◌==◌, nat_le, nat_lt}
use Rattle.base.specs.Limits.{most_instructions, most_steps}
use Rattle.base.specs.declared.code.Code.{Code}
use Rattle.base.specs.declared.instr.Instr.{Instr}
use Rattle.base.specs.declared.refusal.Refusal.{Refusal}
use Rattle.base.specs.Refusals.{refuse, then}
use Rattle.machine.specs.declared.registers.Registers.{Registers}
use Rattle.machine.specs.Machine.{State, state, run}
use Rattle.machine.specs.declared.session.Session.{Session}

-- Whether a code that uses c cells and the depth d may start: it has from 1 to 16,383 instructions, the stack has at
-- least d words and the store at least c cells. Otherwise the refusal.
abbrev pub start_refusal : (c d : ℕ) (instructions stack size : ℕ) → Result (Unit {0}) Refusal
start_refusal c d n w size =
    cond (n == 0 || nat_lt most_instructions n) (refuse 30 0) (cond (nat_lt w d) (refuse 31 0) (cond (nat_lt size c) (refuse 32 0) (Ok tt)))

-- The refusals of a resume by itself: a limit of 0, a run that has ended, and all steps used up.
abbrev pub resume_refusal : (limit : ℕ) → State → Result (Unit {0}) Refusal
resume_refusal limit s =
    cond (limit == 0) (refuse 33 0) (cond (is_some s.registers.ending) (refuse 34 0) (cond (nat_le most_steps s.registers.steps) (refuse 35 0) (Ok tt)))

-- How many steps a resume makes at most: its limit, but no more than are left of the most in all.
abbrev pub grant : (limit : ℕ) → State → ℕ
grant limit s = min limit (most_steps - s.registers.steps)

-- The state after a resume, or its refusal. A resume judges first what is lent, as start does, then its own refusals,
-- and then makes the steps.
abbrev pub resume_answer : (c d : ℕ) → List Instr → (limit : ℕ) → State → Result State Refusal
resume_answer c d P limit s =
    then (start_refusal c d (length P) (length s.stack) (length s.cells)) (λ _. then (resume_refusal limit s) (λ _. Ok (run P d (grant limit s) s)))

-- The registers after a resume, if it is not refused.
abbrev pub registers_after : Result State Refusal → Result Registers Refusal
registers_after o = then o (λ t. Ok t.registers)

-- The state after a resume. If it is refused, the state is as it was.
abbrev pub state_after : Result State Refusal → State → State
state_after (Ok t) s = t
state_after (Err r) s = s

-- The registers at the start: instruction 0, an empty stack, and no step and no write yet.
abbrev pub initial_registers : Registers
initial_registers = record { pc = 0; height = 0; steps = 0; writes = 0; ending = None }

-- What start answers: the session, if nothing is refused, else the refusal.
abbrev pub Starts : Result Session Refusal → (c d : ℕ) → Result (Unit {0}) Refusal → Type 0
Starts (Ok x) c d o = (o ≡ Ok tt) × (x.cells ≡ c) × (x.depth ≡ d) × (x.registers ≡ initial_registers)
Starts (Err r) c d o = o ≡ Err r

-- The state after a start and one resume, or the refusal.
abbrev pub single : Code → (limit : ℕ) → List ℕ → List ℕ → Result State Refusal
single c limit st σ = resume_answer c.cells c.depth c.instructions.now limit (state initial_registers st σ)

-- The cells after a single run.
abbrev pub single_leaves : Code → (limit : ℕ) → List ℕ → List ℕ → List ℕ
single_leaves c limit st σ = (state_after (single c limit st σ) (state initial_registers st σ)).cells
