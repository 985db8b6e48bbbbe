-- Tokens have one first with which they are no longer begun, so that each refusal stands exactly where the grammar says.
-- Assumes nothing.
use Rattle.std.proofs.Common.{◌≡◌, ℕ, ◌⊎◌, List, [], ◌∷◌, ◌++◌, sym, refl, ap, ◌∙◌, subst, inl, inr, ⊎_elim, append_assoc, ap₂}
use Rattle.parser.specs.Marks.{Tok}
use Rattle.grammar.specs.Grammar.{ProgramWritten}
use Rattle.grammar.specs.Prefixes.{Begins, EndsInConversion, IsBegun}

-- lists that are split twice
shorter : (xs us ys : List Tok) (y : Tok) → xs ++ us ≡ ys ++ y ∷ [] → (xs ≡ ys ++ y ∷ []) ⊎ ((vs : List Tok) × (ys ≡ xs ++ vs))
shorter [] us ys y e = inr (ys, refl)
shorter (x ∷ []) us [] y e = inl (ap (λ h. h ∷ []) (let h : x ≡ y = cc in h))
shorter (x ∷ z ∷ xs) us [] y e = absurd cc
shorter (x ∷ xs) us (z ∷ ys) y e =
    let h : x ≡ z = cc in
    let t : xs ++ us ≡ ys ++ y ∷ [] = cc in
    ⊎_elim (λ i. inl (ap₂ (λ a b. a ∷ b) h i)) (λ i. inr (i.0, ap₂ (λ a b. a ∷ b) (sym h) i.1)) (shorter xs us ys y t)

abbrev Splits : (xs ys : List Tok) (x y : Tok) → Type 0
Splits xs ys x y = ((ws : List Tok) × (ys ≡ (xs ++ x ∷ []) ++ ws)) ⊎ (((xs ≡ ys) × (x ≡ y)) ⊎ ((ws : List Tok) × (xs ≡ (ys ++ y ∷ []) ++ ws)))

splits : (xs ys us vs : List Tok) (x y : Tok) → xs ++ x ∷ us ≡ ys ++ y ∷ vs → Splits xs ys x y
splits [] [] us vs x y e = inr (inl (refl, let h : x ≡ y = cc in h))
splits [] (z ∷ ys) us vs x y e = inl (ys, ap (λ h. h ∷ ys) (let h : z ≡ x = cc in h))
splits (z ∷ xs) [] us vs x y e = inr (inr (xs, ap (λ h. h ∷ xs) (let h : z ≡ y = cc in h)))
splits (z ∷ xs) (w ∷ ys) us vs x y e =
    let h : z ≡ w = cc in
    let t : xs ++ x ∷ us ≡ ys ++ y ∷ vs = cc in
    ⊎_elim
    (λ i. inl (i.0, ap₂ (λ a b. a ∷ b) (sym h) i.1))
    (λ r. ⊎_elim (λ i. inr (inl (ap₂ (λ a b. a ∷ b) h i.0, i.1))) (λ i. inr (inr (i.0, ap₂ (λ a b. a ∷ b) h i.1))) r)
    (splits xs ys us vs x y t)

-- fewer tokens are begun too
begins_fewer : (l : ℕ) (ts us : List Tok) → Begins l (ts ++ us) → Begins l ts
begins_fewer l ts us b = (b.0, us ++ b.1, subst (ProgramWritten l b.0) (append_assoc ts us b.1) b.2)

converting_fewer : (ts us : List Tok) → EndsInConversion (ts ++ us) → Begins 32 ts ⊎ EndsInConversion ts
converting_fewer ts us c =
    ⊎_elim
    (λ e. inr record { before = c.before; word = c.word; value_type = c.value_type; tokens = e; is = c.is; begun = c.begun })
    (λ x. inl (begins_fewer 32 ts x.0 (subst (Begins 32) x.1 c.begun)))
    (shorter ts us c.before c.word c.tokens)

begun_fewer : (ts us : List Tok) → IsBegun (ts ++ us) → IsBegun ts
begun_fewer ts us b = (begins_fewer 33 ts us b.0, ⊎_elim (λ c. inl (begins_fewer 32 ts us c)) (λ c. converting_fewer ts us c) b.1)

-- tokens that are split at a token
at_token : (ts b a : List Tok) (t : Tok) → ts ≡ b ++ t ∷ a → ts ≡ (b ++ t ∷ []) ++ a
at_token ts b a t e = e ∙ sym (append_assoc b (t ∷ []) a)

pub begins_to : (l : ℕ) (ts b a : List Tok) (t : Tok) → ts ≡ b ++ t ∷ a → Begins l ts → Begins l (b ++ t ∷ [])
begins_to l ts b a t e x = begins_fewer l (b ++ t ∷ []) a (subst (Begins l) (at_token ts b a t e) x)

pub begun_to : (ts b a : List Tok) (t : Tok) → ts ≡ b ++ t ∷ a → IsBegun ts → IsBegun (b ++ t ∷ [])
begun_to ts b a t e x = begun_fewer (b ++ t ∷ []) a (subst IsBegun (at_token ts b a t e) x)

-- there is one first token with which they are not
pub one_first : (ts b c a d : List Tok) (t u : Tok) → ts ≡ b ++ t ∷ a → ts ≡ c ++ u ∷ d → IsBegun b → IsBegun c →
    (IsBegun (b ++ t ∷ []) → ⊥) → (IsBegun (c ++ u ∷ []) → ⊥) → (b ≡ c) × (t ≡ u)
one_first ts b c a d t u e f x y n o =
    ⊎_elim
    (λ i. absurd (n (begun_fewer (b ++ t ∷ []) i.0 (subst IsBegun i.1 y))))
    (λ r. ⊎_elim (λ i. i) (λ i. absurd (o (begun_fewer (c ++ u ∷ []) i.0 (subst IsBegun i.1 x)))) r)
    (splits b c a d t u (sym e ∙ f))
