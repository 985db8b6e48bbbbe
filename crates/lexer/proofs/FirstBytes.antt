-- What has the form of a token, by its first byte. Assumes nothing.
use Rattle.std.proofs.Common.{Bool, ◌≡◌, ℕ, ◌+◌, ◌<◌, ◌≤◌, true, false, cond, eqb, leb, List, [], ◌∷◌, ◌++◌, length, take, sym, refl, ap, ◌∙◌, subst, inl, inr, ⊎_elim, one-add, arith}
use Rattle.std.proofs.lemmas.Bool.{cases_Bool, or_from, ne_eqb, and_parts, and_left, leb-true, lt-leb, cond_both, eqb-true}
use Rattle.std.specs.List.{prefix_len}
use Rattle.lexer.specs.declared.token.Symbol.{Symbol}
use Rattle.lexer.specs.declared.token.Symbol.TheVariants as sym·
use Rattle.lexer.specs.Lexemes.{Start, Letter, Digit, Percent, Comment, Other, blank, capital, digit, opens, symbol_text}
use Rattle.lexer.specs.Forms.{AllOf, WordForm, DecimalForm, OctalForm, SymbolForm, Form}

-- what the first byte says
abbrev pub kind_of : ℕ → Start
kind_of b = cond (capital b) Letter (cond (digit b) Digit (cond (eqb b 37) Percent Other))

-- a digit is no capital
digit_small : (b : ℕ) → digit b ≡ true → capital b ≡ false
digit_small b h = let l : b ≤ 57 = leb-true b 57 (and_parts (leb 48 b) (leb b 57) h).1 in and_left (leb 65 b) (leb b 90) (lt-leb 65 b (omega arith))

pub kind_letter : (b : ℕ) → capital b ≡ true → kind_of b ≡ Letter
kind_letter b h = rw h

pub kind_digit : (b : ℕ) → digit b ≡ true → kind_of b ≡ Digit
kind_digit b h = rw (digit_small b h, h)

pub kind_percent : (b : ℕ) → b ≡ 37 → kind_of b ≡ Percent
kind_percent b h = rw h

pub kind_other : (b : ℕ) → capital b ≡ false → digit b ≡ false → (b ≡ 37 → ⊥) → kind_of b ≡ Other
kind_other b c d p = rw (c, d, ne_eqb b 37 p)

-- the first byte of each form
abbrev pub FormAs : Start → List ℕ → Type 0
FormAs Letter w = WordForm w
FormAs Digit w = DecimalForm w
FormAs Percent w = OctalForm w
FormAs Comment w = ⊥
FormAs Other w = SymbolForm w

-- a symbol has a first byte, which is none of a letter, a digit, `%` and a blank
abbrev pub Head : List ℕ → Type 0
Head [] = ⊥
Head (b ∷ bs) = (kind_of b ≡ Other) × (blank b ≡ false)

pub symbol_head : (s : Symbol) → Head (symbol_text s)
symbol_head sym·.Becomes = (refl, refl)
symbol_head sym·.Unequal = (refl, refl)
symbol_head sym·.AtMost = (refl, refl)
symbol_head sym·.AtLeast = (refl, refl)
symbol_head sym·.Semicolon = (refl, refl)
symbol_head sym·.Comma = (refl, refl)
symbol_head sym·.Dot = (refl, refl)
symbol_head sym·.Open = (refl, refl)
symbol_head sym·.Close = (refl, refl)
symbol_head sym·.Colon = (refl, refl)
symbol_head sym·.Equal = (refl, refl)
symbol_head sym·.Less = (refl, refl)
symbol_head sym·.Greater = (refl, refl)
symbol_head sym·.Plus = (refl, refl)
symbol_head sym·.Minus = (refl, refl)
symbol_head sym·.Times = (refl, refl)
symbol_head sym·.Divide = (refl, refl)
symbol_head sym·.Ampersand = (refl, refl)

head_long : (w : List ℕ) → Head w → 0 < length w
head_long [] h = absurd h
head_long (b ∷ bs) h = omega arith

pub symbol_long : (s : Symbol) → 0 < length (symbol_text s)
symbol_long s = head_long (symbol_text s) (symbol_head s)

pub form_as : (b : ℕ) (bs : List ℕ) → Form (b ∷ bs) → FormAs (kind_of b) (b ∷ bs)
form_as b bs (inl w) = rw (kind_letter b w.0) w
form_as b bs (inr (inl w)) = rw (kind_digit b w.0) w
form_as b bs (inr (inr (inl w))) = rw (kind_percent b w.0) w
form_as b bs (inr (inr (inr w))) = rw (subst Head (sym w.1) (symbol_head w.0)).0 w

pub no_form : Form [] → ⊥
no_form (inl w) = w
no_form (inr (inl w)) = w
no_form (inr (inr (inl w))) = w
no_form (inr (inr (inr w))) = let l = symbol_long w.0 in let e : length (symbol_text w.0) ≡ 0 = ap length (sym w.1) in omega arith

-- as many at the front as pass
pub lead_all : (k : ℕ → Bool) (xs : List ℕ) → AllOf k (take (prefix_len k xs) xs)
lead_all k [] = tt
lead_all k (b ∷ bs) =
    cond_both (k b) (1 + prefix_len k bs) 0 (λ (n : ℕ). AllOf k (take n (b ∷ bs))) (λ e. rw (one-add (prefix_len k bs)) (e, lead_all k bs)) (λ e. tt)

pub lead_most : (k : ℕ → Bool) (v later : List ℕ) → AllOf k v → length v ≤ prefix_len k (v ++ later)
lead_most k [] later h = omega arith
lead_most k (b ∷ bs) later h = rw h.0 (omega (arith, lead_most k bs later h.1))

-- whatever has the form of a token at the front of a text has the form that its first byte says
pub by_form : (b : ℕ) (bs v later : List ℕ) (k : Start) → kind_of b ≡ k → b ∷ bs ≡ v ++ later → Form v → FormAs k v
by_form b bs [] later k h e f = absurd (no_form f)
by_form b bs (c ∷ cs) later k h e f =
    let same : c ≡ b = cc in
    let is : kind_of c ≡ k = ap kind_of same ∙ h in
    subst (λ (s : Start). FormAs s (c ∷ cs)) is (form_as c cs f)

-- `<<` begins with no letter, no digit and no `%`
pub not_opens : (b : ℕ) (bs : List ℕ) (k : Start) → kind_of b ≡ k → (k ≡ Other → ⊥) → opens (b ∷ bs) ≡ false
not_opens b [] k h not = refl
not_opens b (d ∷ bs) k h not =
    ⊎_elim (λ e. let is : kind_of b ≡ Other = ap kind_of (eqb-true b 60 e) in absurd (not (sym h ∙ is))) (λ e. and_left (eqb b 60) (eqb d 60) e) (cases_Bool (eqb b 60))

-- no token begins with a blank
large_blank : (b : ℕ) → 32 < b → blank b ≡ false
large_blank b h = or_from (eqb b 32) _ (ne_eqb b 32 (λ e. omega arith)) (or_from (eqb b 13) _ (ne_eqb b 13 (λ e. omega arith)) (ne_eqb b 10 (λ e. omega arith)))

pub kind_blank : (b : ℕ) (bs : List ℕ) → Form (b ∷ bs) → blank b ≡ false
kind_blank b bs (inl w) = large_blank b (omega (arith, leb-true 65 b (and_parts (leb 65 b) (leb b 90) w.0).0))
kind_blank b bs (inr (inl w)) = large_blank b (omega (arith, leb-true 48 b (and_parts (leb 48 b) (leb b 57) w.0).0))
kind_blank b bs (inr (inr (inl w))) = large_blank b (omega (arith, w.0))
kind_blank b bs (inr (inr (inr w))) = (subst Head (sym w.1) (symbol_head w.0)).1
