-- A source has one reading. Assumes nothing.
use Rattle.std.proofs.Common.{◌≡◌, ℕ, ◌+◌, true, false, eqb, ◌⊎◌, List, [], ◌∷◌, ◌++◌, length, take, drop, Some, Ok, Err, Option, Result, sym, refl, ap, ◌∙◌, subst, inl, inr, arith}
use Rattle.std.proofs.lemmas.List.{append_assoc, take_at, drop_at}
use Rattle.std.proofs.lemmas.Bool.{and_parts, both_ways, eqb-true}
use Rattle.std.specs.Option.{option_map}
use Rattle.std.specs.List.{flat_map}
use Rattle.base.specs.declared.refusal.Refusal.{Refusal}
use Rattle.lexer.specs.declared.token.Radix.TheVariants.{Decimal, Octal}
use Rattle.lexer.specs.declared.token.Symbol.{Symbol}
use Rattle.lexer.specs.declared.token.Symbol.TheVariants as sym·
use Rattle.lexer.specs.Lexemes.{Other, blank, opens, sign_of, symbol_text}
use Rattle.lexer.specs.Cut.{Piece, word, number, symbol}
use Rattle.lexer.specs.Forms.{Form, SymbolForm, Spells, offset_of}
use Rattle.lexer.specs.Theorems.{Part, token, gap, comment, spelling, tokens_in, IsRightPart, AreRightParts, NoToken, BadToken, OpenComment, IsRefusedAt, Ending, Reading}
use Rattle.lexer.proofs.FirstBytes.{kind_of, no_form, by_form, kind_blank}
use Rattle.lexer.proofs.Sound.{spells_kind}

-- two fronts of one text that are equally long
same_front : (u v a b : List ℕ) → u ++ a ≡ v ++ b → length u ≡ length v → (u ≡ v) × (a ≡ b)
same_front u v a b e l = (
  sym (take_at u a (length u) refl) ∙ ap (take (length u)) e ∙ take_at v b (length u) (sym l),
  sym (drop_at u a (length u) refl) ∙ ap (drop (length u)) e ∙ drop_at v b (length u) (sym l),
)

spells_form : (t : Piece) (w : List ℕ) → Spells t w → Form w
spells_form (word text p) w h = inl h.1
spells_form (number text Decimal v p) w h = inr (inl h.1)
spells_form (number text Octal v p) w h = inr (inr (inl h.1))
spells_form (symbol s p) w h = inr (inr (inr (s, h)))

abbrev signed : List ℕ → Option Symbol
signed w = option_map (λ f. f.0) (sign_of w)

sign_is : (s : Symbol) → signed (symbol_text s) ≡ Some s
sign_is sym·.Becomes = refl
sign_is sym·.Unequal = refl
sign_is sym·.AtMost = refl
sign_is sym·.AtLeast = refl
sign_is sym·.Semicolon = refl
sign_is sym·.Comma = refl
sign_is sym·.Dot = refl
sign_is sym·.Open = refl
sign_is sym·.Close = refl
sign_is sym·.Colon = refl
sign_is sym·.Equal = refl
sign_is sym·.Less = refl
sign_is sym·.Greater = refl
sign_is sym·.Plus = refl
sign_is sym·.Minus = refl
sign_is sym·.Times = refl
sign_is sym·.Divide = refl
sign_is sym·.Ampersand = refl

symbol_one : (s t : Symbol) → symbol_text s ≡ symbol_text t → s ≡ t
symbol_one s t e = let h : Some s ≡ Some t = sym (sign_is s) ∙ ap signed e ∙ sign_is t in cc

-- bytes spell one token at an offset
spells_one : (t u : Piece) (b : ℕ) (bs : List ℕ) → Spells t (b ∷ bs) → Spells u (b ∷ bs) → offset_of t ≡ offset_of u → t ≡ u
spells_one (word a p) (word a' p') b bs h g e = let c : a ≡ a' = h.0 ∙ sym g.0 in let q : p ≡ p' = e in rw (c, q)
spells_one (word a p) (number a' Decimal v' p') b bs h g e = let k = spells_kind (word a p) b bs h in let l = spells_kind (number a' Decimal v' p') b bs g in cc
spells_one (word a p) (number a' Octal v' p') b bs h g e = let k = spells_kind (word a p) b bs h in let l = spells_kind (number a' Octal v' p') b bs g in cc
spells_one (word a p) (symbol s' p') b bs h g e = let k = spells_kind (word a p) b bs h in let l = spells_kind (symbol s' p') b bs g in cc
spells_one (number a Decimal v p) (word a' p') b bs h g e = let k = spells_kind (number a Decimal v p) b bs h in let l = spells_kind (word a' p') b bs g in cc
spells_one (number a Decimal v p) (number a' Decimal v' p') b bs h g e = let c : a ≡ a' = h.0 ∙ sym g.0 in let d : v ≡ v' = h.2 ∙ sym g.2 in let q : p ≡ p' = e in rw (c, d, q)
spells_one (number a Decimal v p) (number a' Octal v' p') b bs h g e = let k = spells_kind (number a Decimal v p) b bs h in let l = spells_kind (number a' Octal v' p') b bs g in cc
spells_one (number a Decimal v p) (symbol s' p') b bs h g e = let k = spells_kind (number a Decimal v p) b bs h in let l = spells_kind (symbol s' p') b bs g in cc
spells_one (number a Octal v p) (word a' p') b bs h g e = let k = spells_kind (number a Octal v p) b bs h in let l = spells_kind (word a' p') b bs g in cc
spells_one (number a Octal v p) (number a' Decimal v' p') b bs h g e = let k = spells_kind (number a Octal v p) b bs h in let l = spells_kind (number a' Decimal v' p') b bs g in cc
spells_one (number a Octal v p) (number a' Octal v' p') b bs h g e = let c : a ≡ a' = h.0 ∙ sym g.0 in let d : v ≡ v' = h.2 ∙ sym g.2 in let q : p ≡ p' = e in rw (c, d, q)
spells_one (number a Octal v p) (symbol s' p') b bs h g e = let k = spells_kind (number a Octal v p) b bs h in let l = spells_kind (symbol s' p') b bs g in cc
spells_one (symbol s p) (word a' p') b bs h g e = let k = spells_kind (symbol s p) b bs h in let l = spells_kind (word a' p') b bs g in cc
spells_one (symbol s p) (number a' Decimal v' p') b bs h g e = let k = spells_kind (symbol s p) b bs h in let l = spells_kind (number a' Decimal v' p') b bs g in cc
spells_one (symbol s p) (number a' Octal v' p') b bs h g e = let k = spells_kind (symbol s p) b bs h in let l = spells_kind (number a' Octal v' p') b bs g in cc
spells_one (symbol s p) (symbol s' p') b bs h g e = let c = symbol_one s s' (sym h ∙ g) in let q : p ≡ p' = e in rw (c, q)

-- a token is no blank, and a comment is none
form_blank : (b : ℕ) (bs v later : List ℕ) → b ∷ bs ≡ v ++ later → Form v → blank b ≡ true → ⊥
form_blank b bs [] later e f h = no_form f
form_blank b bs (c ∷ cs) later e f h =
    let same : c ≡ b = cc in
    both_ways (blank b) (subst (λ (x : ℕ). blank x ≡ false) same (kind_blank c cs f)) h

opens_blank : (b : ℕ) (bs : List ℕ) → opens (b ∷ bs) ≡ true → blank b ≡ true → ⊥
opens_blank b [] o h = cc
opens_blank b (d ∷ bs) o h =
    let e : b ≡ 60 = eqb-true b 60 (and_parts (eqb b 60) (eqb d 60) o).0 in
    both_ways (blank b) (ap blank e) h

bad_opens : (xs : List ℕ) → BadToken xs → opens xs ≡ true → ⊥
bad_opens [] t o = cc
bad_opens (b ∷ []) t o = cc
bad_opens (b ∷ d ∷ xs) t o =
    let e : b ≡ 60 = eqb-true b 60 (and_parts (eqb b 60) (eqb d 60) o).0 in
    let f : SymbolForm t.run = by_form b (d ∷ xs) t.run t.later Other (ap kind_of e) t.front t.form in
    t.spells_none (symbol f.0 0) f.1

-- where a text stops no part begins
abbrev Halt : List ℕ → Type 0
Halt xs = (xs ≡ []) ⊎ (NoToken xs ⊎ (BadToken xs ⊎ OpenComment xs))

no_part : (p : ℕ) (x : Part) (rest : List ℕ) → IsRightPart p x rest → Halt (spelling x ++ rest) → ⊥
no_part p (token t []) rest r h = no_form (spells_form t [] r.1)
no_part p (token t (b ∷ bs)) rest r (inl e) = cc
no_part p (token t (b ∷ bs)) rest r (inr (inl n)) = n.3 (b ∷ bs) rest refl (spells_form t (b ∷ bs) r.1)
no_part p (token t (b ∷ bs)) rest r (inr (inr (inl n))) =
    let w = b ∷ bs in
    let l : length w ≡ length n.run = omega (arith, r.2 n.run n.later n.front n.form, n.longest w rest (sym n.front) (spells_form t w r.1)) in
    n.spells_none t (subst (Spells t) (same_front w n.run rest n.later n.front l).0 r.1)
no_part p (token t (b ∷ bs)) rest r (inr (inr (inr n))) = both_ways (opens ((b ∷ bs) ++ rest)) r.3 n.0
no_part p (gap b) rest r (inl e) = cc
no_part p (gap b) rest r (inr (inl n)) = both_ways (blank b) n.1 r
no_part p (gap b) rest r (inr (inr (inl n))) = form_blank b rest n.run n.later n.front n.form r
no_part p (gap b) rest r (inr (inr (inr n))) = opens_blank b rest n.0 r
no_part p (comment body) rest r (inl e) = cc
no_part p (comment body) rest r (inr (inl n)) = both_ways true n.2 refl
no_part p (comment body) rest r (inr (inr (inl n))) = bad_opens _ n refl
no_part p (comment body) rest r (inr (inr (inr n))) = n.1 body rest (append_assoc body (62 ∷ 62 ∷ []) rest)

-- one part begins
token_gap : (p : ℕ) (t : Piece) (w : List ℕ) (b : ℕ) (xs ys : List ℕ) → IsRightPart p (token t w) xs → blank b ≡ true → w ++ xs ≡ b ∷ ys → ⊥
token_gap p t w b xs ys r h e = form_blank b ys w xs (sym e) (spells_form t w r.1) h

token_comment : (p : ℕ) (t : Piece) (w body xs ys : List ℕ) → IsRightPart p (token t w) xs → w ++ xs ≡ spelling (comment body) ++ ys → ⊥
token_comment p t w body xs ys r e = both_ways true (sym (ap opens e) ∙ r.3) refl

same_token : (p : ℕ) (t u : Piece) (v w xs ys : List ℕ) → IsRightPart p (token t v) xs → IsRightPart p (token u w) ys → v ++ xs ≡ w ++ ys → (token t v ≡ token u w) × (xs ≡ ys)
same_token p t u v w xs ys r s e =
    let l : length v ≡ length w = omega (arith, r.2 w ys e (spells_form u w s.1), s.2 v xs (sym e) (spells_form t v r.1)) in
    let f = same_front v w xs ys e l in
    let g : Spells t w = subst (Spells t) f.0 r.1 in
    let q : offset_of t ≡ offset_of u = r.0 ∙ sym s.0 in
    let i : t ≡ u = by w g s.1 q in
    (rw (i, f.0), f.1)
  where
    by : (w : List ℕ) → Spells t w → Spells u w → offset_of t ≡ offset_of u → t ≡ u
    by [] g h q = absurd (no_form (spells_form t [] g))
    by (b ∷ bs) g h q = spells_one t u b bs g h q

same_comment : (p : ℕ) (u v xs ys : List ℕ) → IsRightPart p (comment u) xs → IsRightPart p (comment v) ys → spelling (comment u) ++ xs ≡ spelling (comment v) ++ ys → (comment u ≡ comment v) × (xs ≡ ys)
same_comment p u v xs ys r s e =
    let a : (u ++ 62 ∷ 62 ∷ []) ++ xs ≡ (v ++ 62 ∷ 62 ∷ []) ++ ys = cc in
    let c : u ++ 62 ∷ 62 ∷ xs ≡ v ++ 62 ∷ 62 ∷ ys = sym (append_assoc u (62 ∷ 62 ∷ []) xs) ∙ a ∙ append_assoc v (62 ∷ 62 ∷ []) ys in
    let l : length u ≡ length v = omega (arith, r v ys c, s u xs (sym c)) in
    let f = same_front u v (62 ∷ 62 ∷ xs) (62 ∷ 62 ∷ ys) c l in
    let t = f.1 in
    let i : xs ≡ ys = cc in
    (rw f.0, i)

same_part : (p : ℕ) (x y : Part) (xs ys : List ℕ) → IsRightPart p x xs → IsRightPart p y ys → spelling x ++ xs ≡ spelling y ++ ys → (x ≡ y) × (xs ≡ ys)
same_part p (token t v) (token u w) xs ys r s e = same_token p t u v w xs ys r s e
same_part p (token t v) (gap b) xs ys r s e = absurd (token_gap p t v b xs ys r s e)
same_part p (token t v) (comment c) xs ys r s e = absurd (token_comment p t v c xs ys r e)
same_part p (gap b) (token t v) xs ys r s e = absurd (token_gap p t v b ys xs s r (sym e))
same_part p (gap b) (gap c) xs ys r s e = let h : b ≡ c = cc in let i : xs ≡ ys = cc in (rw h, i)
same_part p (gap b) (comment c) xs ys r s e = let h : b ≡ 60 = cc in absurd (both_ways (blank b) (ap blank h) r)
same_part p (comment c) (token t v) xs ys r s e = absurd (token_comment p t v c ys xs s (sym e))
same_part p (comment c) (gap b) xs ys r s e = let h : b ≡ 60 = cc in absurd (both_ways (blank b) (ap blank h) s)
same_part p (comment c) (comment d) xs ys r s e = same_comment p c d xs ys r s e

tokens_more : (x : Part) (ps qs : List Part) → tokens_in ps ≡ tokens_in qs → tokens_in (x ∷ ps) ≡ tokens_in (x ∷ qs)
tokens_more (token t w) ps qs e = rw e
tokens_more (gap b) ps qs e = e
tokens_more (comment c) ps qs e = e

-- the parts of a text, up to where it stops
same_parts : (ps qs : List Part) (p : ℕ) (r s : List ℕ) → flat_map spelling ps ++ r ≡ flat_map spelling qs ++ s → AreRightParts p ps r → AreRightParts p qs s → Halt r → Halt s →
    (tokens_in ps ≡ tokens_in qs) × (flat_map spelling ps ≡ flat_map spelling qs) × (r ≡ s)
same_parts [] [] p r s e a b h k = (refl, refl, e)
same_parts [] (y ∷ qs) p r s e a b h k =
    absurd (no_part p y (flat_map spelling qs ++ s) b.0 (subst Halt (e ∙ append_assoc (spelling y) (flat_map spelling qs) s) h))
same_parts (x ∷ ps) [] p r s e a b h k =
    absurd (no_part p x (flat_map spelling ps ++ r) a.0 (subst Halt (sym e ∙ append_assoc (spelling x) (flat_map spelling ps) r) k))
same_parts (x ∷ ps) (y ∷ qs) p r s e a b h k =
    let c : spelling x ++ (flat_map spelling ps ++ r) ≡ spelling y ++ (flat_map spelling qs ++ s) =
    sym (append_assoc (spelling x) (flat_map spelling ps) r) ∙ e ∙ append_assoc (spelling y) (flat_map spelling qs) s in
    let i = same_part p x y (flat_map spelling ps ++ r) (flat_map spelling qs ++ s) a.0 b.0 c in
    let b' : AreRightParts (p + length (spelling x)) qs s = subst (λ (z : Part). AreRightParts (p + length (spelling z)) qs s) (sym i.0) b.1 in
    let m = same_parts ps qs (p + length (spelling x)) r s i.1 a.1 b' h k in (
      tokens_more x ps qs m.0 ∙ ap (λ (z : Part). tokens_in (z ∷ qs)) i.0,
      ap (λ (v : List ℕ). spelling x ++ v) m.1 ∙ ap (λ (z : Part). spelling z ++ flat_map spelling qs) i.0,
      m.2,
    )

-- one refusal stands at a place
abbrev told : ℕ → ℕ → Refusal
told n p = record { number = n; place = p }

number_one : (e f : Refusal) (p : ℕ) (r : List ℕ) → IsRefusedAt e p r → IsRefusedAt f p r → e.number ≡ f.number
number_one e f p r (a, inl (x, n)) (b, inl (y, m)) = x ∙ sym y
number_one e f p r (a, inl (x, n)) (b, inr (inl (y, m))) = absurd (n.3 m.run m.later m.front m.form)
number_one e f p r (a, inl (x, n)) (b, inr (inr (y, m))) = absurd (both_ways (opens r) n.2 m.0)
number_one e f p r (a, inr (inl (x, n))) (b, inl (y, m)) = absurd (m.3 n.run n.later n.front n.form)
number_one e f p r (a, inr (inl (x, n))) (b, inr (inl (y, m))) = x ∙ sym y
number_one e f p r (a, inr (inl (x, n))) (b, inr (inr (y, m))) = absurd (bad_opens r n m.0)
number_one e f p r (a, inr (inr (x, n))) (b, inl (y, m)) = absurd (both_ways (opens r) m.2 n.0)
number_one e f p r (a, inr (inr (x, n))) (b, inr (inl (y, m))) = absurd (bad_opens r m n.0)
number_one e f p r (a, inr (inr (x, n))) (b, inr (inr (y, m))) = x ∙ sym y

refusal_one : (e f : Refusal) (p : ℕ) (r : List ℕ) → IsRefusedAt e p r → IsRefusedAt f p r → e ≡ f
refusal_one e f p r a b =
    let n = number_one e f p r a b in
    let q : e.place ≡ f.place = a.0 ∙ sym b.0 in
    ap (λ (k : ℕ). told k e.place) n ∙ ap (told f.number) q

halts : (a : Result (List Piece) Refusal) (ps : List Part) (r : List ℕ) → Ending a ps r → Halt r
halts (Ok ts) ps r h = inl h.1
halts (Err e) ps r (q, inl (x, n)) = inr (inl n)
halts (Err e) ps r (q, inr (inl (x, n))) = inr (inr (inl n))
halts (Err e) ps r (q, inr (inr (x, n))) = inr (inr (inr n))

-- the end of a text is no refusal
end_none : (e : Refusal) (p : ℕ) (r : List ℕ) → IsRefusedAt e p r → r ≡ [] → ⊥
end_none e p (b ∷ r) h z = cc
end_none e p [] (q, inl (x, n)) z = omega (arith, n.0)
end_none e p [] (q, inr (inl (x, n))) z = by n.run n.front n.form
  where
    by : (w : List ℕ) → [] ≡ w ++ n.later → Form w → ⊥
    by [] e f = no_form f
    by (c ∷ w) e f = cc
end_none e p [] (q, inr (inr (x, n))) z = both_ways false refl n.0

answers : (a b : Result (List Piece) Refusal) (ps qs : List Part) (r s : List ℕ) → Ending a ps r → Ending b qs s →
    tokens_in ps ≡ tokens_in qs → flat_map spelling ps ≡ flat_map spelling qs → r ≡ s → a ≡ b
answers (Ok ts) (Ok us) ps qs r s h k t j e = ap (λ (v : List Piece). Ok v) (h.0 ∙ t ∙ sym k.0)
answers (Ok ts) (Err f) ps qs r s h k t j e = absurd (end_none f _ s k (sym e ∙ h.1))
answers (Err e') (Ok us) ps qs r s h k t j e = absurd (end_none e' _ r h (e ∙ k.1))
answers (Err e') (Err f) ps qs r s h k t j e =
    let g : IsRefusedAt f (length (flat_map spelling ps)) r = rw (j, e) k in
    ap (λ (v : Refusal). Err v) (refusal_one e' f (length (flat_map spelling ps)) r h g)

pub reading_one : (source : List ℕ) (a b : Result (List Piece) Refusal) → Reading source a → Reading source b → a ≡ b
reading_one source a b x y =
    let m = same_parts x.parts y.parts 0 x.rest y.rest (x.whole ∙ sym y.whole) x.right y.right (halts a x.parts x.rest x.ending) (halts b y.parts y.rest y.ending) in
    answers a b x.parts y.parts x.rest y.rest x.ending y.ending m.0 m.1 m.2
