-- What one step keeps, whatever the instruction.
use Rattle.std.proofs.Common.{◌≡◌, ℕ, ◌+◌, ◌-◌, ◌≤◌, Bool, true, false, cond, ltb, List, length, is_some, Some, None, Ok, Err, Option, Result, sym, refl, ap, ◌∙◌, inl, inr, arith}
use Rattle.std.proofs.lemmas.Bool.{ltb-true, le-ltb, cond-false, true≢false, false≢true}
use Rattle.base.specs.declared.instr.Instr.{Instr}
use Rattle.machine.specs.declared.ending.Ending.{Ending}
use Rattle.machine.specs.declared.ending.Ending.TheVariants.{TooHigh, Outside}
use Rattle.machine.specs.declared.registers.Move.{Move}
use Rattle.machine.specs.declared.registers.Move.TheVariants.{On, Push, Write}
use Rattle.machine.specs.Table.{then}
use Rattle.machine.specs.Machine.{State, after_move, move_of, goes, one_step_more, with_ending, state_or_ending, unless_ended, step}
use Rattle.machine.specs.Laws.{Stays, WritesAtMostOne, PushesAtMostOne}

-- a move that is made has Q
abbrev Has : (State → Type 0) → Result State Ending → Type 0
Has Q (Ok t) = Q t
Has Q (Err e) = Unit {0}

has_cond : (Q : State → Type 0) (t : State) (b : Bool) (e : Ending) → (b ≡ true → Q t) → Has Q (cond b (Ok t) (Err e))
has_cond Q t true e h = h refl
has_cond Q t false e h = tt

has_then : (Q : State → Type 0) (r : Result Move Ending) (f : Move → Result State Ending) → ((m : Move) → Has Q (f m)) → Has Q (then r f)
has_then Q (Ok m) f h = h m
has_then Q (Err e) f h = tt

has_goes : (Q : State → Type 0) (P : List Instr) (d : ℕ) (s : State) → ((m : Move) → Has Q (after_move d m s)) → Has Q (goes P d s)
unfolding goes
has_goes Q P d s h = has_then Q (move_of P s) (λ m. after_move d m s) h

-- what a move does
record Did (d : ℕ) (s t : State) : Type 0 where
  steps : t.registers.steps ≡ s.registers.steps
  ending : t.registers.ending ≡ s.registers.ending
  low : s.registers.height ≤ d → t.registers.height ≤ d
  wrote : WritesAtMostOne s t
  pushed : PushesAtMostOne d s t

did_by : (d : ℕ) (m : Move) (s : State) → Has (Did d s) (after_move d m s)
did_by d (On k q) s = record { steps = refl; ending = refl; low = λ h. omega arith; wrote = inl (refl, refl); pushed = inl refl }
did_by d (Push k w) s =
    has_cond (Did d s) _ (ltb (s.registers.height - k) d) TooHigh
    (λ e.
    let l = ltb-true (s.registers.height - k) d e in
    record { steps = refl; ending = refl; low = λ h. omega arith; wrote = inl (refl, refl); pushed = inr (s.registers.height - k, w, l, refl, refl) })
did_by d (Write k c w q) s =
    has_cond (Did d s) _ (ltb c (length s.cells)) Outside
    (λ e.
    let l = ltb-true c (length s.cells) e in
    record { steps = refl; ending = refl; low = λ h. omega arith; wrote = inr (c, w, l, refl, refl); pushed = inl refl })

did_goes : (P : List Instr) (d : ℕ) (s : State) → Has (Did d s) (goes P d s)
did_goes P d s = has_goes (Did d s) P d s (λ m. did_by d m s)

-- a step moves or ends
by_settled : (Q : State → Type 0) (s : State) (r : Result State Ending) → Has Q r → ((e : Ending) → Q (with_ending e s)) → Q (state_or_ending r s)
by_settled Q s (Ok t) h f = h
by_settled Q s (Err e) h f = f e

has_weaker : (Q R : State → Type 0) (r : Result State Ending) → ((t : State) → Q t → R t) → Has Q r → Has R r
has_weaker Q R (Ok t) f h = f t h
has_weaker Q R (Err e) f h = tt

by_stepped : (Q : State → Type 0) (P : List Instr) (d : ℕ) (s : State) (o : Option Ending) → ((t : State) → Did d (one_step_more s) t → Q t) → ((e : Ending) → Q (with_ending e (one_step_more s))) → Q s → Q (unless_ended P d s o)
by_stepped Q P d s None f g h = by_settled Q (one_step_more s) (goes P d (one_step_more s)) (has_weaker (Did d (one_step_more s)) Q (goes P d (one_step_more s)) f (did_goes P d (one_step_more s))) g
by_stepped Q P d s (Some e) f g h = h

-- what holds of a machine that moved, of one that ends and of one that stays, holds after a step
by_step : (Q : State → Type 0) (P : List Instr) (d : ℕ) (s : State) → ((t : State) → Did d (one_step_more s) t → Q t) → ((e : Ending) → Q (with_ending e (one_step_more s))) → Q s → Q (step P d s)
unfolding step
by_step Q P d s f g h = by_stepped Q P d s s.registers.ending f g h

pub wrote_step : (P : List Instr) (d : ℕ) (s : State) → WritesAtMostOne s (step P d s)
wrote_step P d s = by_step (WritesAtMostOne s) P d s (λ t h. h.wrote) (λ e. inl (refl, refl)) (inl (refl, refl))

pub pushed_step : (P : List Instr) (d : ℕ) (s : State) → PushesAtMostOne d s (step P d s)
pushed_step P d s = by_step (PushesAtMostOne d s) P d s (λ t h. h.pushed) (λ e. inl refl) (inl refl)

pub low_step : (P : List Instr) (d : ℕ) (s : State) → s.registers.height ≤ d → (step P d s).registers.height ≤ d
low_step P d s l = by_step (λ t. t.registers.height ≤ d) P d s (λ t h. h.low l) (λ e. l) l

pub steps_step : (P : List Instr) (d : ℕ) (s : State) → s.registers.ending ≡ None → (step P d s).registers.steps ≡ s.registers.steps + 1
unfolding step
steps_step P d s e =
    let Q : State → Type 0 = λ t. t.registers.steps ≡ s.registers.steps + 1 in
    ap (λ (o : Option Ending). (unless_ended P d s o).registers.steps) e
    ∙ by_settled Q (one_step_more s) (goes P d (one_step_more s)) (has_weaker (Did d (one_step_more s)) Q (goes P d (one_step_more s)) (λ t h. h.steps) (did_goes P d (one_step_more s))) (λ e. refl)

some≢none : (e : Ending) → Some e ≡ None → ⊥
some≢none e h = true≢false (ap is_some h)

-- a step that ends changes only the ending and the count
pub ends_step : (P : List Instr) (d : ℕ) (s : State) (e : Ending) → s.registers.ending ≡ None → (step P d s).registers.ending ≡ Some e → Stays s (step P d s)
ends_step P d s e n =
    by_step (λ t. t.registers.ending ≡ Some e → Stays s t) P d s
    (λ t h q. absurd (some≢none e (sym q ∙ h.ending ∙ n)))
    (λ f q. record { pc = refl; height = refl; writes = refl; stack = refl; cells = refl })
    (λ q. absurd (some≢none e (sym q ∙ n)))

-- what the code finds is what is defined

pub goes_by : (P : List Instr) (d : ℕ) (s : State) (r : Result Move Ending) → r ≡ move_of P s → goes P d s ≡ then r (λ m. after_move d m s)
unfolding goes
goes_by P d s r e = ap (λ (q : Result Move Ending). then q (λ m. after_move d m s)) (sym e)

goes_past : (P : List Instr) (d : ℕ) (s : State) → length P ≤ s.registers.pc → goes P d s ≡ Err Outside
unfolding goes
goes_past P d s h = ap (λ (q : Result Move Ending). then q (λ m. after_move d m s)) (cond-false (ltb s.registers.pc (length P)) _ _ (le-ltb _ _ h))

pub step_ok : (P : List Instr) (d : ℕ) (s t : State) → s.registers.ending ≡ None → goes P d (one_step_more s) ≡ Ok t → t ≡ step P d s
unfolding step
step_ok P d s t n h = sym (ap (λ (o : Option Ending). unless_ended P d s o) n ∙ ap (λ (r : Result State Ending). state_or_ending r (one_step_more s)) h)

pub step_err : (P : List Instr) (d : ℕ) (s t : State) (e : Ending) → s.registers.ending ≡ None → goes P d (one_step_more s) ≡ Err e → t ≡ one_step_more s → with_ending e t ≡ step P d s
unfolding step
step_err P d s t e n h q = ap (with_ending e) q ∙ sym (ap (λ (o : Option Ending). unless_ended P d s o) n ∙ ap (λ (r : Result State Ending). state_or_ending r (one_step_more s)) h)

-- an ended machine stays as it is
pub stay : (P : List Instr) (d : ℕ) (s : State) (e : Ending) → s.registers.ending ≡ Some e → step P d s ≡ s
unfolding step
stay P d s e q = ap (λ (o : Option Ending). unless_ended P d s o) q

stays_of : (P : List Instr) (d : ℕ) (s : State) (o : Option Ending) → s.registers.ending ≡ o → is_some o ≡ true → s ≡ step P d s
stays_of P d s None q h = absurd (false≢true h)
stays_of P d s (Some e) q h = sym (stay P d s e q)

pub stays : (P : List Instr) (d : ℕ) (s : State) → is_some s.registers.ending ≡ true → s ≡ step P d s
stays P d s h = stays_of P d s s.registers.ending refl h

pub past_step : (P : List Instr) (d : ℕ) (s : State) → s.registers.ending ≡ None → length P ≤ s.registers.pc → (step P d s).registers.ending ≡ Some Outside
past_step P d s n h = ap (λ (t : State). t.registers.ending) (sym (step_err P d s (one_step_more s) Outside n (goes_past P d (one_step_more s) h) refl))
