-- What holds of every step, whatever the instruction.
use Rattle.std.specs.Prelude.{◌≡◌, ℕ, zero, suc, ◌+◌, ◌-◌, ◌<◌, ◌≤◌, true, ◌⊎◌, List, [], ◌∷◌, length, Some, None, Option, slice_index, slice_set}
use Rattle.base.specs.Ops.{ops, operands_of}
use Rattle.base.specs.declared.instr.Instr.{Instr}
use Rattle.base.specs.declared.op.Op.{Op}
use Rattle.machine.specs.declared.ending.Ending.{Ending}
use Rattle.machine.specs.Endings.{ending_of_number, number_of}
use Rattle.machine.specs.declared.registers.Move.{Move}
use Rattle.machine.specs.Table.{fine}
use Rattle.machine.specs.Machine.{State, after_move, pops, step, run}
use Rattle.machine.specs.Stacks.{hd, tl, stack_of_state, Shows}

-- The states s and t differ only in the ending and the count of steps.
pub record Stays (s t : State) : Type 0 where
  pub pc : t.registers.pc ≡ s.registers.pc
  pub height : t.registers.height ≡ s.registers.height
  pub writes : t.registers.writes ≡ s.registers.writes
  pub stack : t.stack ≡ s.stack
  pub cells : t.cells ≡ s.cells

-- At most one cell is written. It is a cell that the store has, and the write is counted.
abbrev pub WritesAtMostOne : State → State → Type 0
WritesAtMostOne s t =
    ((t.cells ≡ s.cells) × (t.registers.writes ≡ s.registers.writes))
    ⊎ ((c : ℕ) × (w : ℕ) × (c < length s.cells) × (t.cells ≡ slice_set s.cells c w) × (t.registers.writes ≡ s.registers.writes + 1))

-- At most one word of the stack is written. It is the new top, and it lies below the depth d.
abbrev pub PushesAtMostOne : ℕ → State → State → Type 0
PushesAtMostOne d s t =
    (t.stack ≡ s.stack) ⊎ ((k : ℕ) × (w : ℕ) × (k < d) × (t.stack ≡ slice_set s.stack k w) × (t.registers.height ≡ k + 1))

-- An operand that an instruction does not name is 0. The number says how many operands it names: none, `a` alone, or
-- `a` and `b`.
abbrev pub UnnamedIsZero : Option ℕ → ℕ → ℕ → Type 0
UnnamedIsZero None a b = ⊥
UnnamedIsZero (Some zero) a b = (a ≡ 0) × (b ≡ 0)
UnnamedIsZero (Some (suc zero)) a b = b ≡ 0
UnnamedIsZero (Some (suc (suc n))) a b = Unit {0}

-- The instructions of the list have the numbers from n on. Where the operands of one keep its rules, those that it
-- does not name are 0. No instruction has a number after theirs.
abbrev pub UnnamedAreZero : ℕ → List Op → Type 0
UnnamedAreZero n [] = operands_of n ≡ None
UnnamedAreZero n (o ∷ os) =
    ((a b : ℕ) → fine o a b ≡ true → UnnamedIsZero (operands_of n) a b) × UnnamedAreZero (suc n) os

-- What holds of every step, and of the numbers of endings.
pub record Lawful : Type 0 where
  -- an ending has the number by which the definitions name it
  pub numbers : (e : Ending) → ending_of_number (number_of e) ≡ e
  pub numbers_back :
      (number_of (ending_of_number 0) ≡ 0) × (number_of (ending_of_number 1) ≡ 1) × (number_of (ending_of_number 2) ≡ 2) × (number_of (ending_of_number 3) ≡ 3)
      × (number_of (ending_of_number 4) ≡ 4) × (number_of (ending_of_number 6) ≡ 6) × (number_of (ending_of_number 7) ≡ 7) × (number_of (ending_of_number 8) ≡ 8)
      × (number_of (ending_of_number 9) ≡ 9)
  -- the rules of the operands agree with the number of operands that each instruction names
  pub named : UnnamedAreZero 0 ops
  -- each step of a machine that has not ended counts one
  pub counts : (P : List Instr) (d : ℕ) (s : State) → s.registers.ending ≡ None → (step P d s).registers.steps ≡ s.registers.steps + 1
  -- an ending step changes only the ending and the count
  pub ends : (P : List Instr) (d : ℕ) (s : State) (e : Ending) → s.registers.ending ≡ None → (step P d s).registers.ending ≡ Some e → Stays s (step P d s)
  pub writes : (P : List Instr) (d : ℕ) (s : State) → WritesAtMostOne s (step P d s)
  pub pushes : (P : List Instr) (d : ℕ) (s : State) → PushesAtMostOne d s (step P d s)
  -- the stack stays within the depth
  pub low : (P : List Instr) (d : ℕ) (s : State) → s.registers.height ≤ d → (step P d s).registers.height ≤ d
  -- past the code there is nothing to do
  pub past : (P : List Instr) (d : ℕ) (s : State) → s.registers.ending ≡ None → length P ≤ s.registers.pc → (step P d s).registers.ending ≡ Some (ending_of_number 9)
  -- an ended machine stays as it is, for any number of steps
  pub ended : (P : List Instr) (d n : ℕ) (s : State) (e : Ending) → s.registers.ending ≡ Some e → run P d n s ≡ s
  -- a run goes on from where it was
  pub on : (P : List Instr) (d m n : ℕ) (s : State) → run P d (m + n) s ≡ run P d m (run P d n s)
  -- the two words that an instruction looks at are the top of the list and the word below it
  pub top : (s : State) → 1 ≤ s.registers.height → slice_index s.stack (s.registers.height - 1) ≡ hd (stack_of_state s)
  pub below : (s : State) → 2 ≤ s.registers.height → slice_index s.stack (s.registers.height - 2) ≡ hd (tl (stack_of_state s))
  -- on the stack as a list, pops take from the front and a push adds there
  pub shows : (d : ℕ) (m : Move) (s : State) → pops m ≤ s.registers.height → d ≤ length s.stack → Shows m s (after_move d m s)
