-- Steps are counted until the machine ends.
use Rattle.std.proofs.Common.{◌≡◌, ℕ, zero, suc, ◌+◌, ◌-◌, ◌<◌, ◌≤◌, List, Some, None, Option, sym, refl, ap, ◌∙◌, subst, ⊎_elim, arith}
use Rattle.std.proofs.lemmas.Bool.{cases_lt}
use Rattle.base.specs.declared.instr.Instr.{Instr}
use Rattle.machine.specs.declared.ending.Ending.{Ending}
use Rattle.machine.specs.Machine.{State, run}
use Rattle.machine.proofs.Runs.{lawful}

module _ (P : List Instr) (d : ℕ) (s : State) where
  -- after m steps the machine has not ended, and has counted them all; or it ended after n of them
  pub data Count (m : ℕ) : Type 0 where
    going : (run P d m s).registers.ending ≡ None → (run P d m s).registers.steps ≡ m → ((j : ℕ) → j ≤ m → (run P d j s).registers.ending ≡ None) → Count m
    over : (e : Ending) (n : ℕ) → (run P d m s).registers.ending ≡ Some e → n ≤ m → (run P d m s).registers.steps ≡ n → ((j : ℕ) → j < n → (run P d j s).registers.ending ≡ None) → ((j : ℕ) → n ≤ j → run P d j s ≡ run P d m s) → Count m

  stays : (m j : ℕ) (e : Ending) → (run P d m s).registers.ending ≡ Some e → m ≤ j → run P d j s ≡ run P d m s
  stays m j e q l =
      let r : j ≡ (j - m) + m = omega arith in
      ap (λ (k : ℕ). run P d k s) r ∙ lawful.on P d (j - m) m s ∙ lawful.ended P d (j - m) (run P d m s) e q

  one_more : (m : ℕ) → Count m → (o : Option Ending) → (run P d (suc m) s).registers.ending ≡ o → Count (suc m)
  unfolding run
  one_more m (going q c f) None r = going r (omega (arith, lawful.counts P d (run P d m s) q)) (λ j l. ⊎_elim (λ h. f j (omega arith)) (λ h. let e : suc m ≡ j = omega arith in subst (λ (k : ℕ). (run P d k s).registers.ending ≡ None) e r) (cases_lt j (suc m)))
  one_more m (going q c f) (Some e) r =
      over e (suc m) r (omega arith) (omega (arith, lawful.counts P d (run P d m s) q)) (λ j l. f j (omega arith)) (λ j l. stays (suc m) j e r l)
  one_more m (over e n q l c f g) o r =
      let k = g (suc m) (omega arith) in
      over e n (ap (λ (x : State). x.registers.ending) k ∙ q) (omega arith) (ap (λ (x : State). x.registers.steps) k ∙ c) f (λ j h. g j h ∙ sym k)

  pub count : s.registers.ending ≡ None → s.registers.steps ≡ 0 → (m : ℕ) → Count m
  unfolding run
  count q c zero = going q c (λ j l. let e : zero ≡ j = omega arith in subst (λ (k : ℕ). (run P d k s).registers.ending ≡ None) e q)
  count q c (suc m) = one_more m (count q c m) (run P d (suc m) s).registers.ending refl
