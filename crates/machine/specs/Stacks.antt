-- The operand stack as a list with the top first. Proofs about code use this form.
use Rattle.std.specs.Prelude.{◌≡◌, ℕ, zero, suc, List, [], ◌∷◌, Ok, Err, Result, slice_index}
use Rattle.machine.specs.declared.ending.Ending.{Ending}
use Rattle.machine.specs.declared.registers.Move.{Move}
use Rattle.machine.specs.declared.registers.Move.TheVariants.{On, Push, Write}
use Rattle.machine.specs.Machine.{State}

-- The lowest h words, with the top first.
abbrev pub stack_of : ℕ → List ℕ → List ℕ
stack_of zero st = []
stack_of (suc h) st = slice_index st h ∷ stack_of h st

-- The top of a stack; 0 if it is empty.
abbrev pub hd : List ℕ → ℕ
hd [] = 0
hd (x ∷ xs) = x

-- What is below the top.
abbrev pub tl : List ℕ → List ℕ
tl [] = []
tl (x ∷ xs) = xs

-- What is left of a stack when k words are popped.
abbrev pub off : ℕ → List ℕ → List ℕ
off zero st = st
off (suc k) st = off k (tl st)

-- The stack after a move.
abbrev pub after : Move → List ℕ → List ℕ
after (On k q) st = off k st
after (Push k w) st = w ∷ off k st
after (Write k c w q) st = off k st

-- The stack of a machine.
abbrev pub stack_of_state : State → List ℕ
stack_of_state s = stack_of s.registers.height s.stack

-- A move that is made on the lent words is the same move on the list.
abbrev pub Shows : Move → State → Result State Ending → Type 0
Shows m s (Ok t) = stack_of_state t ≡ after m (stack_of_state s)
Shows m s (Err e) = Unit {0}
