-- The fault that `least` answers. Assumes nothing.
use Rattle.std.proofs.Common.{◌≡◌, zero, suc, ◌<◌, ◌≤◌, true, false, ltb, eqb, ◌&&◌, ◌⊎◌, List, [], ◌∷◌, Contains, Some, None, sym, refl, ap, ◌∙◌, subst, inl, inr, ⊎_elim, arith}
use Rattle.std.proofs.lemmas.Bool.{cases_Bool, ltb-true, ltb-false, le-ltb, eqb-true, eqb-false, ne_eqb, or_parts, or_from, and_cases, and_left, and_right, or_cases, and_parts, cases_lt}
use Rattle.base.specs.declared.refusal.Refusal.{Refusal}
use Rattle.sema.specs.Faults.{before, least_from, least}
use Rattle.sema.specs.Deciding.{Precedes, Decides, Free, LeastDecides}
use Rattle.sema.proofs.Laying.{some_none}

-- an element is the first or one of the others
pub held : {X : Type 0} (y : X) (ys : List X) (x : X) → Contains (y ∷ ys) x → (x ≡ y) ⊎ Contains ys x
held y ys x (zero, l, e) = inl (sym e)
held y ys x (suc k, l, e) = inr (k, omega (arith, l), e)

pub first_held : {X : Type 0} (y : X) (ys : List X) (x : X) → x ≡ y → Contains (y ∷ ys) x
first_held y ys x e = (0, omega arith, sym e)

pub later_held : {X : Type 0} (y : X) (ys : List X) (x : X) → Contains ys x → Contains (y ∷ ys) x
later_held y ys x (k, l, e) = (suc k, omega (arith, l), e)

pub none_held : {X : Type 0} (x : X) → Contains [] x → ⊥
none_held x (k, l, e) = absurd (omega (arith, l))

told_there : (f g : Refusal) → before g f ≡ false → Precedes f g
told_there f g e =
    let x = or_parts (ltb g.place f.place) (eqb g.place f.place && ltb g.number f.number) e in
    let l : f.place ≤ g.place = ltb-false g.place f.place x.0 in
    ⊎_elim
    (λ d. let n : (g.place ≡ f.place → ⊥) = eqb-false g.place f.place d in inl (⊎_elim (λ m. m) (λ m. absurd (n (omega (arith, l, m)))) (cases_lt f.place g.place)))
    (λ d. let m : f.number ≤ g.number = ltb-false g.number f.number d in ⊎_elim (λ u. inl u) (λ u. inr (omega (arith, l, u), m)) (cases_lt f.place g.place))
    (and_cases (eqb g.place f.place) (ltb g.number f.number) x.1)

told_back : (f g : Refusal) → Precedes f g → before g f ≡ false
told_back f g (inl l) = or_from _ _ (le-ltb g.place f.place (omega (arith, l))) (and_left _ _ (ne_eqb g.place f.place (λ e. omega (arith, e, l))))
told_back f g (inr h) = or_from _ _ (le-ltb g.place f.place (omega (arith, h.0))) (and_right _ _ (le-ltb g.number f.number (omega (arith, h.1))))

-- of two, the second before the first
turned : (f g : Refusal) → before g f ≡ true → Precedes g f
turned f g e =
    ⊎_elim
    (λ l. inl (ltb-true g.place f.place l))
    (λ h. let x = and_parts (eqb g.place f.place) (ltb g.number f.number) h in inr (eqb-true g.place f.place x.0, (let l : g.number < f.number = ltb-true g.number f.number x.1 in omega (arith, l))))
    (or_cases (ltb g.place f.place) (eqb g.place f.place && ltb g.number f.number) e)

itself : (f : Refusal) → Precedes f f
itself f = inr (refl, omega arith)

through : (f g h : Refusal) → Precedes f g → Precedes g h → Precedes f h
through f g h (inl a) (inl b) = inl (omega (arith, a, b))
through f g h (inl a) (inr b) = inl (omega (arith, a, b.0))
through f g h (inr a) (inl b) = inl (omega (arith, a.0, b))
through f g h (inr a) (inr b) = inr (omega (arith, a.0, b.0), omega (arith, a.1, b.1))

same_refusal : (f g : Refusal) → f.number ≡ g.number → f.place ≡ g.place → f ≡ g
same_refusal f g a b = (let h : ◌≡◌ {A = Refusal} record { number = f.number; place = f.place } record { number = g.number; place = g.place } = rw (a, b) in h)

one : (f g : Refusal) → Precedes f g → Precedes g f → f ≡ g
one f g (inl a) (inl b) = absurd (omega (arith, a, b))
one f g (inl a) (inr b) = absurd (omega (arith, a, b.0))
one f g (inr a) (inl b) = absurd (omega (arith, a.0, b))
one f g (inr a) (inr b) = same_refusal f g (omega (arith, a.1, b.1)) a.0

-- what is answered is the fault so far or one of the list, and precedes all of them
abbrev Answers : Refusal → List Refusal → Refusal → Type 0
Answers f gs r = (least_from (Some f) gs ≡ Some r) × ((r ≡ f) ⊎ Contains gs r) × Precedes r f × ((g : Refusal) → Contains gs g → Precedes r g)

module _ (f g : Refusal) (gs : List Refusal) where
  kept : before g f ≡ false → (r : Refusal) → Answers f gs r → Answers f (g ∷ gs) r
  kept e r a = (
    rw e a.0,
    ⊎_elim (λ x. inl x) (λ x. inr (later_held g gs r x)) a.1,
    a.2,
    λ h c. ⊎_elim (λ x. subst (Precedes r) (sym x) (through r f g a.2 (told_there f g e))) (λ x. a.3 h x) (held g gs h c),
  )

  replaced : before g f ≡ true → (r : Refusal) → Answers g gs r → Answers f (g ∷ gs) r
  replaced e r a = (
    rw e a.0,
    inr (⊎_elim (λ x. first_held g gs r x) (λ x. later_held g gs r x) a.1),
    through r g f a.2 (turned f g e),
    λ h c. ⊎_elim (λ x. subst (Precedes r) (sym x) a.2) (λ x. a.3 h x) (held g gs h c),
  )

answers : (gs : List Refusal) (f : Refusal) → (r : Refusal) × Answers f gs r
answers [] f = (f, (refl, inl refl, itself f, λ g c. absurd (none_held g c)))
answers (g ∷ gs) f =
    ⊎_elim
    (λ e. let x = answers gs g in (x.0, replaced f g gs e x.0 x.1))
    (λ e. let x = answers gs f in (x.0, kept f g gs e x.0 x.1))
    (cases_Bool (before g f))

none_there : (fs : List Refusal) → least fs ≡ None → Free (Contains fs)
none_there [] e f c = none_held f c
none_there (g ∷ gs) e f c = let x = answers gs g in some_none x.0 (sym x.1.0 ∙ e)

none_back : (fs : List Refusal) → Free (Contains fs) → least fs ≡ None
none_back [] n = refl
none_back (g ∷ gs) n = absurd (n g (first_held g gs g refl))

some_same : {A : Type 0} (x y : A) → Some x ≡ Some y → x ≡ y
some_same x y e = cc

-- what is answered of a list that has a fault
found : (g : Refusal) (gs : List Refusal) → (r : Refusal) × (least (g ∷ gs) ≡ Some r) × Decides (Contains (g ∷ gs)) r
found g gs =
    let x = answers gs g in (
      x.0,
      x.1.0,
      (
        ⊎_elim (λ e. first_held g gs x.0 e) (λ c. later_held g gs x.0 c) x.1.1,
        λ h c. ⊎_elim (λ e. subst (Precedes x.0) (sym e) x.1.2) (λ d. x.1.3 h d) (held g gs h c),
      ),
    )

only_one : (fs : List Refusal) (f g : Refusal) → Decides (Contains fs) f → Decides (Contains fs) g → f ≡ g
only_one fs f g a b = one f g (a.1 g b.0) (b.1 f a.0)

some_there : (fs : List Refusal) (f : Refusal) → least fs ≡ Some f → Decides (Contains fs) f
some_there [] f e = some_none f (sym e)
some_there (g ∷ gs) f e = let x = found g gs in subst (Decides (Contains (g ∷ gs))) (some_same x.0 f (sym x.1 ∙ e)) x.2

some_back : (fs : List Refusal) (f : Refusal) → Decides (Contains fs) f → least fs ≡ Some f
some_back [] f d = absurd (none_held f d.0)
some_back (g ∷ gs) f d = let x = found g gs in x.1 ∙ ap Some (only_one (g ∷ gs) x.0 f x.2 d)

pub least_decides : LeastDecides
least_decides =
    record {
      none = λ fs. (none_there fs, none_back fs);
      some = λ fs f. (some_there fs f, some_back fs f);
      only = only_one;
      told = λ f g. (told_there f g, told_back f g);
    }
