-- The machine with its stack as a list: what the proofs about code speak of.
use Rattle.std.proofs.Common.{ℕ, suc, cond, ltb, List, [], ◌∷◌, length, get_or, Ok, Err, Result}
use Rattle.base.specs.declared.instr.Instr.{Instr}
use Rattle.machine.specs.declared.ending.Ending.{Ending}
use Rattle.machine.specs.declared.ending.Ending.TheVariants.{Stopped, TooHigh, Outside}
use Rattle.machine.specs.declared.registers.Move.{Move}
use Rattle.machine.specs.declared.registers.Move.TheVariants.{On, Push, Write as Puts}
use Rattle.machine.specs.Table.{op_of_number, then, readiness, act}
use Rattle.machine.specs.Stacks.{hd, tl, off}
use Rattle.semantics.specs.Effects.{Store, Write, put, ActAnswer, did, fails}

-- a place in the code, and the stack
pub data Pos : Type 0 where
  at : ℕ → List ℕ → Pos

-- a step: writes, and where it leads; or an ending
pub data Way : Type 0 where
  on : List Write → Pos → Way
  halt : Ending → Way

-- a move is made, at the place p
abbrev pub laid : ℕ → Move → ℕ → List ℕ → Store → Way
laid d (On k q) p st σ = on [] (at q (off k st))
laid d (Push k w) p st σ = cond (ltb (length (off k st)) d) (on [] (at (suc p) (w ∷ off k st))) (halt TooHigh)
laid d (Puts k c w q) p st σ = cond (ltb c (length σ)) (on (put c w ∷ []) (at q (off k st))) (halt Outside)

abbrev pub lay : ℕ → ℕ → List ℕ → Store → Result Move Ending → Way
lay d p st σ (Ok m) = laid d m p st σ
lay d p st σ (Err e) = halt e

-- what an instruction does
abbrev pub acting : Instr → ℕ → List ℕ → Store → Result Move Ending
acting i p st σ = then (op_of_number i.number) (λ o. then (readiness o i.a i.b (length st)) (λ _. act o i.a i.b p (hd st) (hd (tl st)) σ))

abbrev pub blank : Instr
blank = record { number = 0; a = 0; b = 0 }

abbrev pub fetched : List Instr → ℕ → List ℕ → Store → Result Move Ending
fetched P p st σ = cond (ltb p (length P)) (acting (get_or P p blank) p st σ) (Err Outside)

unfoldable pub move : List Instr → ℕ → Pos → Store → Way
move P d (at p st) σ = lay d p st σ (fetched P p st σ)

-- a basic act that leads to g of its answer
abbrev pub leads : {A : Type 0} → ActAnswer A → (A → Pos) → Way
leads (did ws a) g = on ws (g a)
leads (fails e) g = halt (Stopped e)
