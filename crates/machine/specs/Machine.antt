-- One step of the machine, and runs of several steps.
use Rattle.std.specs.Prelude.{◌≡◌, ℕ, zero, suc, ◌+◌, ◌-◌, cond, List, length, Some, None, Ok, Err, Option, Result, nat_lt, slice_index_or, slice_set}
use Rattle.base.specs.declared.instr.Instr.{Instr}
use Rattle.machine.specs.declared.ending.Ending.{Ending}
use Rattle.machine.specs.Endings.{ends}
use Rattle.machine.specs.declared.registers.Move.{Move}
use Rattle.machine.specs.declared.registers.Move.TheVariants.{On, Push, Write}
use Rattle.machine.specs.declared.registers.Registers.{Registers}
use Rattle.machine.specs.Table.{move_at, then}

-- The state of a machine: its registers, every lent word of the stack, and the cells.
pub record State : Type 0 where
  pub registers : Registers
  pub stack : List ℕ
  pub cells : List ℕ

-- The state with these registers, stack words and cells.
abbrev pub state : Registers → List ℕ → List ℕ → State
state v st σ = record { registers = v; stack = st; cells = σ }

-- The registers with a new program counter, height and count of writes.
abbrev pub registers_with : Registers → ℕ → ℕ → ℕ → Registers
registers_with v p h w = record { pc = p; height = h; steps = v.steps; writes = w; ending = v.ending }

-- The state after a move. A push has to stay within the depth d, and a cell that is written has to be in the store.
abbrev pub after_move : ℕ → Move → State → Result State Ending
after_move d (On k q) s =
    Ok (state (registers_with s.registers q (s.registers.height - k) s.registers.writes) s.stack s.cells)
after_move d (Push k w) s =
    cond (nat_lt (s.registers.height - k) d) (Ok (state (registers_with s.registers (s.registers.pc + 1) (s.registers.height - k + 1) s.registers.writes) (slice_set s.stack (s.registers.height - k) w) s.cells)) (ends 7)
after_move d (Write k c w q) s =
    cond (nat_lt c (length s.cells)) (Ok (state (registers_with s.registers q (s.registers.height - k) (s.registers.writes + 1)) s.stack (slice_set s.cells c w))) (ends 9)

-- The move of the instruction at the program counter. Past the code there is none, and the run ends with 9.
abbrev pub move_of : List Instr → State → Result Move Ending
move_of P s =
    cond (nat_lt s.registers.pc (length P)) (move_at (slice_index_or P s.registers.pc record { number = 0; a = 0; b = 0 }) s.registers.pc s.registers.height s.stack s.cells) (ends 9)

-- What a step does apart from counting: it makes this move, or the run ends.
unfoldable pub goes : List Instr → ℕ → State → Result State Ending
goes P d s = then (move_of P s) (λ m. after_move d m s)

-- The state with one more step counted.
abbrev pub one_step_more : State → State
one_step_more s =
    state record { pc = s.registers.pc; height = s.registers.height; steps = s.registers.steps + 1; writes = s.registers.writes; ending = s.registers.ending } s.stack s.cells

-- The state with the ending e.
abbrev pub with_ending : Ending → State → State
with_ending e s =
    state record { pc = s.registers.pc; height = s.registers.height; steps = s.registers.steps; writes = s.registers.writes; ending = Some e } s.stack s.cells

-- The state after a step. A step that ends the run changes only the ending and the count of steps.
abbrev pub state_or_ending : Result State Ending → State → State
state_or_ending (Ok t) s = t
state_or_ending (Err e) s = with_ending e s

-- The state after a step, from the ending that the machine has before it, if any.
abbrev pub unless_ended : List Instr → ℕ → State → Option Ending → State
unless_ended P d s None = state_or_ending (goes P d (one_step_more s)) (one_step_more s)
unless_ended P d s (Some e) = s

-- The state after one step. A machine that has ended stays as it is.
unfoldable pub step : List Instr → ℕ → State → State
step P d s = unless_ended P d s s.registers.ending

-- The state after n steps.
unfoldable pub run : List Instr → ℕ → ℕ → State → State
run P d zero s = s
run P d (suc n) s = step P d (run P d n s)

-- How many words a move pops.
abbrev pub pops : Move → ℕ
pops (On k q) = k
pops (Push k w) = k
pops (Write k c w q) = k

-- The answer r of the code, with the state s before and t after, is what the definition o says.
abbrev pub Makes : {U : Type 0} → Result U Ending → State → State → Result State Ending → Type 0
Makes (Ok u) s t o = o ≡ Ok t
Makes (Err e) s t o = (o ≡ Err e) × (t ≡ s)
