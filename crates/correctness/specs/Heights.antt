-- The table of pushes and pops, by which the depth of a code is counted, agrees with the steps of the machine.
use Rattle.std.specs.Prelude.{◌≡◌, ℕ, List, None, slice_index_or}
use Rattle.base.specs.declared.instr.Instr.{Instr}
use Rattle.base.specs.Heights.{height}
use Rattle.machine.specs.Machine.{State, step}

-- The instruction at the program counter.
abbrev pub instruction_at : List Instr → State → Instr
instruction_at P s = slice_index_or P s.registers.pc record { number = 0; a = 0; b = 0 }

-- A step that does not end the run changes the number of words stacked as the table says.
abbrev pub Heights : Type 0
Heights =
    (P : List Instr) (d : ℕ) (s : State) → (step P d s).registers.ending ≡ None → (step P d s).registers.height ≡ height (instruction_at P s) s.registers.height
