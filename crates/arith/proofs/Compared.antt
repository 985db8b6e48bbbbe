-- Comparisons say TRUE of the relation, or FALSE.
use Rattle.std.proofs.Common.{◌≡◌, ℕ, Bool, true, false, not, ◌||◌, eqb, ℤ, pos, nat_abs, ◌≤ℤ◌, ◌<ℤ◌, refl, ap, inl, inr, ⊎_elim, arith}
use lib.Signed.{lt_z}
use Rattle.std.proofs.lemmas.Int.{ints, by_lt_z}
use Rattle.std.proofs.lemmas.Bool.{not-true, not-false, or_cases, or_parts, eqb-true, eqb-false}
use Rattle.arith.specs.declared.relation.Relation.{Relation}
use Rattle.arith.specs.declared.relation.Relation.TheVariants.{Equal, Unequal, Less, AtMost, Greater, AtLeast}
use Rattle.arith.specs.Integers.{int}
use Rattle.arith.specs.Logicals.{truth}
use Rattle.arith.specs.Relations.{holds, comparison, lcomparison}
use Rattle.arith.specs.Laws.{IsRelated, Says}

says : (P : Type 0) (b : Bool) → (b ≡ true → P) → (b ≡ false → P → ⊥) → Says (truth b) P
says P true f g = inl (refl, f refl)
says P false f g = inr (refl, g refl)

less : (a b : ℤ) → lt_z a b ≡ true → a <ℤ b
less a b e = grind (arith, ints)

not_less : (a b : ℤ) → lt_z a b ≡ false → b ≤ℤ a
not_less a b e = grind (arith, ints)

-- where `same` tells whether the two are equal
holds_says : (r : Relation) (a b : ℤ) (same : Bool) → (same ≡ true → a ≡ b) → (same ≡ false → a ≡ b → ⊥) → Says (truth (holds r (lt_z a b) same)) (IsRelated r a b)
holds_says Equal a b same t f = says (a ≡ b) same t f
holds_says Unequal a b same t f = says (a ≡ b → ⊥) (not same) (λ e. f (not-true same e)) (λ e g. g (t (not-false same e)))
holds_says Less a b same t f = says (a <ℤ b) (lt_z a b) (less a b) (λ e g. let h = not_less a b e in omega (arith, ints))
holds_says AtMost a b same t f =
    says (a ≤ℤ b) (lt_z a b || same)
    (λ e. ⊎_elim (λ p. let h = less a b p in omega (arith, ints)) (λ p. let h = t p in omega (arith, ints)) (or_cases (lt_z a b) same e))
    (λ e g. let p = or_parts (lt_z a b) same e in let h = not_less a b p.0 in f p.1 (omega (arith, ints)))
holds_says Greater a b same t f =
    says (b <ℤ a) (not (lt_z a b || same))
    (λ e.
    let p = or_parts (lt_z a b) same (not-true (lt_z a b || same) e) in
    let h = not_less a b p.0 in
    by_lt_z b a (λ g. g) (λ g. absurd (f p.1 (omega (arith, ints)))))
    (λ e g.
    ⊎_elim (λ p. let h = less a b p in omega (arith, ints)) (λ p. let h = t p in omega (arith, ints)) (or_cases (lt_z a b) same (not-false (lt_z a b || same) e)))
holds_says AtLeast a b same t f = says (b ≤ℤ a) (not (lt_z a b)) (λ e. not_less a b (not-true (lt_z a b) e)) (λ e g. let h = less a b (not-false (lt_z a b) e) in omega (arith, ints))

pub compared_says : (r : Relation) (y x : ℕ) → (int y ≡ int x → y ≡ x) → Says (comparison r y x) (IsRelated r (int y) (int x))
unfolding comparison
compared_says r y x apart = holds_says r (int y) (int x) (eqb y x) (λ e. ap int (eqb-true y x e)) (λ e h. eqb-false y x e (apart h))

pub lcompared_says : (r : Relation) (y x : ℕ) → Says (lcomparison r y x) (IsRelated r (pos y) (pos x))
unfolding lcomparison
lcompared_says r y x = holds_says r (pos y) (pos x) (eqb y x) (λ e. ap pos (eqb-true y x e)) (λ e h. eqb-false y x e (ap nat_abs h))
