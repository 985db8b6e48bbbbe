-- A machine and what it is lent.
use Rattle.std.specs.Prelude.{◌≡◌, ℕ, List}
use Rattle.base.specs.Lists.{room, Lends}
use Rattle.machine.specs.declared.machine.Machine.{Machine}
use Rattle.machine.specs.declared.registers.Registers.{Registers}
use Rattle.machine.specs.Machine.{State, state}

-- The registers of a machine. The height is the length of the list of its stack.
abbrev pub registers_of : {S : Type 0} → Machine S → Registers
registers_of m = record { pc = m.pc; height = m.stack.now.len; steps = m.steps; writes = m.writes; ending = m.ending }

-- The state of a machine: its registers, every lent word of the stack, and the cells, which `words` gives for a
-- store.
abbrev pub state_of : {S : Type 0} → (S → List ℕ) → Machine S → State
state_of words m = state (registers_of m) (room m.stack.now) (words m.store.now)

-- What no step changes: the code, the depth, the loans, and what `keeps` says of the store.
pub record Lasts {S : Type 0} (keeps : S → S → Type 0) (m n : Machine S) : Type 0 where
  pub code : n.code ≡ m.code
  pub depth : n.depth ≡ m.depth
  pub stack : n.stack.ghost_name ≡ m.stack.ghost_name
  pub words : Lends m.stack.now n.stack.now
  pub store : n.store.ghost_name ≡ m.store.ghost_name
  pub kept : keeps m.store.now n.store.now
