-- The lent words with a height, and the stack as a list.
use Rattle.std.proofs.Common.{◌≡◌, ℕ, zero, suc, ◌+◌, ◌-◌, ◌<◌, ◌≤◌, Bool, true, false, cond, ltb, ◌≢◌, List, ◌∷◌, length, get_or, set, Ok, Err, sym, refl, ap, ◌∙◌, arith, get_or-set_other, get_or-set_same}
use Rattle.std.proofs.lemmas.Bool.{ltb-true}
use Rattle.machine.specs.declared.ending.Ending.{Ending}
use Rattle.machine.specs.declared.registers.Move.{Move}
use Rattle.machine.specs.declared.registers.Move.TheVariants.{On, Push, Write}
use Rattle.machine.specs.Machine.{State, after_move, pops}
use Rattle.machine.specs.Stacks.{stack_of, hd, tl, off, Shows}

pub length_stack_of : (h : ℕ) (st : List ℕ) → length (stack_of h st) ≡ h
length_stack_of zero st = refl
length_stack_of (suc h) st = omega (arith, length_stack_of h st)

-- the two words that an instruction looks at
pub top_is : (h : ℕ) (st : List ℕ) → 1 ≤ h → get_or st (h - 1) 0 ≡ hd (stack_of h st)
top_is zero st l = absurd (omega arith)
top_is (suc h) st l = let e : suc h - 1 ≡ h = omega arith in ap (λ (k : ℕ). get_or st k 0) e

pub next_is : (h : ℕ) (st : List ℕ) → 2 ≤ h → get_or st (h - 2) 0 ≡ hd (tl (stack_of h st))
next_is zero st l = absurd (omega arith)
next_is (suc zero) st l = absurd (omega arith)
next_is (suc (suc h)) st l = let e : suc (suc h) - 2 ≡ h = omega arith in ap (λ (k : ℕ). get_or st k 0) e

pub off_stack_of : (k h : ℕ) (st : List ℕ) → off k (stack_of h st) ≡ stack_of (h - k) st
off_stack_of zero h st = let e : h ≡ h - 0 = omega arith in ap (λ (j : ℕ). stack_of j st) e
off_stack_of (suc k) zero st = let e : zero - k ≡ zero - suc k = omega arith in off_stack_of k zero st ∙ ap (λ (j : ℕ). stack_of j st) e
off_stack_of (suc k) (suc h) st = let e : h - k ≡ suc h - suc k = omega arith in off_stack_of k h st ∙ ap (λ (j : ℕ). stack_of j st) e

-- what lies at h and above does not show
pub set_above : (h j w : ℕ) (st : List ℕ) → h ≤ j → stack_of h (set st j w) ≡ stack_of h st
set_above zero j w st l = refl
set_above (suc h) j w st l =
    let ne : h ≢ j = omega arith in
    let e : get_or (set st j w) h 0 ≡ get_or st h 0 = rw get_or-set_other refl in
    rw (e, set_above h j w st (omega arith))

pub push_stack_of : (h w : ℕ) (st : List ℕ) → h < length st → stack_of (h + 1) (set st h w) ≡ w ∷ stack_of h st
push_stack_of h w st l =
    let f : h + 1 ≡ suc h = omega arith in
    let e : get_or (set st h w) h 0 ≡ w = rw get_or-set_same refl in
    ap (λ (j : ℕ). stack_of j (set st h w)) f ∙ rw (e, set_above h h w st (omega arith))

shows_cond : (m : Move) (s t : State) (b : Bool) (e : Ending) → (b ≡ true → Shows m s (Ok t)) → Shows m s (cond b (Ok t) (Err e))
shows_cond m s t true e h = h refl
shows_cond m s t false e h = tt

pub shows : (d : ℕ) (m : Move) (s : State) → pops m ≤ s.registers.height → d ≤ length s.stack → Shows m s (after_move d m s)
shows d (On k q) s p l = sym (off_stack_of k s.registers.height s.stack)
shows d (Push k w) s p l =
    shows_cond (Push k w) s _ (ltb (s.registers.height - k) d) _
    (λ e. push_stack_of (s.registers.height - k) w s.stack (omega (arith, ltb-true (s.registers.height - k) d e)) ∙ ap (λ (r : List ℕ). w ∷ r) (sym (off_stack_of k s.registers.height s.stack)))
shows d (Write k c w q) s p l = shows_cond (Write k c w q) s _ (ltb c (length s.cells)) _ (λ e. sym (off_stack_of k s.registers.height s.stack))
