-- Runs that go on by a step, and runs that end early.
use Rattle.std.proofs.Common.{◌≡◌, ℕ, suc, ◌+◌, ◌-◌, ◌≤◌, List, Some, None, Option, sym, refl, ap, ◌∙◌, arith}
use Rattle.base.specs.declared.instr.Instr.{Instr}
use Rattle.machine.specs.declared.ending.Ending.{Ending}
use Rattle.machine.specs.Machine.{State, step, run}
use Rattle.machine.proofs.Runs.{run_ended, run_on}

-- one more step of a run
pub run_more : (P : List Instr) (d i : ℕ) (s t u : State) → t ≡ run P d i s → u ≡ step P d t → u ≡ run P d (i + 1) s
unfolding run
run_more P d i s t u p q = let e : i + 1 ≡ suc i = omega arith in q ∙ ap (step P d) p ∙ ap (λ (k : ℕ). run P d k s) (sym e)

ended_early : (P : List Instr) (d i n : ℕ) (s t : State) (o : Option Ending) → t ≡ run P d i s → i ≤ n → t.registers.ending ≡ o → (o ≡ None → ⊥) → t ≡ run P d n s
ended_early P d i n s t None p h e a = absurd (a refl)
ended_early P d i n s t (Some x) p h e a =
    let k : n ≡ (n - i) + i = omega arith in
    sym (ap (λ (m : ℕ). run P d m s) k ∙ run_on P d (n - i) i s ∙ ap (run P d (n - i)) (sym p) ∙ run_ended P d (n - i) t x e)

pub early : (P : List Instr) (d i n : ℕ) (s t : State) → t ≡ run P d i s → i ≤ n → (t.registers.ending ≡ None → ⊥) → t ≡ run P d n s
early P d i n s t p h a = ended_early P d i n s t t.registers.ending p h refl a
