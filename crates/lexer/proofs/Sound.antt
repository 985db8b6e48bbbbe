-- The token at the front is right at its place, or the refusal is. Assumes nothing.
use Rattle.std.proofs.Common.{Bool, ◌≡◌, ℕ, zero, suc, ◌+◌, ◌<◌, ◌≤◌, true, false, ◌&&◌, eqb, ltb, leb, ◌⊎◌, List, [], ◌∷◌, ◌++◌, length, take, drop, Some, None, Ok, Err, Option, sym, refl, ap, ◌∙◌, subst, inl, inr, ⊎_elim, one-add, arith}
use Rattle.std.proofs.lemmas.List.{take-append-drop, length-take-le, length-append, append_assoc, take_at, drop_at}
use Rattle.std.proofs.lemmas.List.Sums.{prefix_len-le-length}
use Rattle.std.proofs.lemmas.Bool.{cases_Bool, and_parts, leb-true, leb-false, ltb-true, ltb-false, cond_both, eqb-true, eqb-false, or_left}
use Rattle.std.specs.List.{prefix_len}
use Rattle.base.specs.Refusals.{refuse}
use Rattle.lexer.specs.declared.token.Radix.TheVariants.{Decimal, Octal}
use Rattle.lexer.specs.declared.token.Symbol.{Symbol}
use Rattle.lexer.specs.Lexemes.{Start, Letter, Digit, Percent, Comment, Other, blank, capital, digit, octal, word_byte, value_of, within, opens, blanks, start_of, symbol_text, sign_of, gap_of, closing}
use Rattle.lexer.proofs.Fronts.{gap_blank, gap_none, gap_comment}
use Rattle.std.specs.Option.{option_map}
use Rattle.lexer.specs.Cut.{Piece, word, number, symbol, Front, good, word_of, number_of, number_with_value, symbol_of, front_from, lexeme}
use Rattle.lexer.specs.Forms.{AllOf, WordForm, DecimalForm, OctalForm, SymbolForm, Spells, Longest}
use Rattle.lexer.specs.Theorems.{Part, token, gap, comment, spelling, tokens_in, IsRightPart, IsRefusedAt, BadToken, OpenComment}
use Rattle.lexer.proofs.Cutting.{Starts, starts}
use Rattle.lexer.proofs.Signs.{Stands, sign_stands, Reaches, sign_longest}
use Rattle.lexer.proofs.FirstBytes.{kind_of, kind_letter, kind_digit, kind_percent, kind_other, FormAs, Head, symbol_head, by_form, not_opens, lead_all, lead_most}

abbrev pub Sound : ℕ → List ℕ → Front → Type 0
Sound p xs (Ok f) = IsRightPart p (token f.0 (take f.1 xs)) (drop f.1 xs)
Sound p xs (Err r) = IsRefusedAt r p xs

-- the longest front, by the form that its first byte says
longest_by : (b : ℕ) (bs : List ℕ) (n : ℕ) (k : Start) → kind_of b ≡ k → n ≤ length (b ∷ bs) →
    ((v later : List ℕ) → b ∷ bs ≡ v ++ later → FormAs k v → length v ≤ n) → Longest (take n (b ∷ bs)) (drop n (b ∷ bs))
longest_by b bs n k h l most v later e f =
    let w : b ∷ bs ≡ v ++ later = sym (take-append-drop n (b ∷ bs)) ∙ e in
    rw (length-take-le n (b ∷ bs) l) (most v later w (by_form b bs v later k h w f))

-- a front of bytes of a class is no longer than all such bytes
run_most : (k : ℕ → Bool) (xs v later : List ℕ) (n : ℕ) → n ≡ prefix_len k xs → xs ≡ v ++ later → AllOf k v → length v ≤ n
run_most k xs v later n ne e h = rw (ne, e) (lead_most k v later h)

-- no comment begins at a token
closed : (b : ℕ) (bs : List ℕ) (n : ℕ) → opens (b ∷ bs) ≡ false → opens (take n (b ∷ bs) ++ drop n (b ∷ bs)) ≡ false
closed b bs n h = rw (take-append-drop n (b ∷ bs)) h

-- what the first byte of a token says
abbrev pub piece_kind : Piece → Start
piece_kind (word text p) = Letter
piece_kind (number text Decimal v p) = Digit
piece_kind (number text Octal v p) = Percent
piece_kind (symbol s p) = Other

pub spells_kind : (t : Piece) (b : ℕ) (bs : List ℕ) → Spells t (b ∷ bs) → kind_of b ≡ piece_kind t
spells_kind (word text p) b bs h = kind_letter b h.1.0
spells_kind (number text Decimal v p) b bs h = kind_digit b h.1.0
spells_kind (number text Octal v p) b bs h = kind_percent b h.1.0
spells_kind (symbol s p) b bs h = (subst Head (sym h) (symbol_head s)).0

-- a word

word_run : (v : List ℕ) → WordForm v → AllOf word_byte v
word_run [] h = absurd h
word_run (b ∷ bs) h = (or_left (capital b) _ h.0, h.1)

word_form : (b : ℕ) (bs : List ℕ) (n : ℕ) → capital b ≡ true → 0 < n → AllOf word_byte (take n (b ∷ bs)) → WordForm (take n (b ∷ bs))
word_form b bs zero c h a = absurd (omega arith)
word_form b bs (suc n) c h a = (c, a.1)

no_word : (b : ℕ) (bs : List ℕ) → capital b ≡ true → 15 < length (b ∷ bs) → (t : Piece) → Spells t (b ∷ bs) → ⊥
no_word b bs c h (word text p) s = let l : length (b ∷ bs) ≤ 15 = s.2 in omega arith
no_word b bs c h (number text Decimal v p) s = let k = kind_letter b c in let m = spells_kind (number text Decimal v p) b bs s in cc
no_word b bs c h (number text Octal v p) s = let k = kind_letter b c in let m = spells_kind (number text Octal v p) b bs s in cc
no_word b bs c h (symbol t p) s = let k = kind_letter b c in let m = spells_kind (symbol t p) b bs s in cc

sound_word : (p b : ℕ) (bs : List ℕ) (n : ℕ) → capital b ≡ true → n ≡ prefix_len word_byte (b ∷ bs) → Sound p (b ∷ bs) (word_of p n (b ∷ bs))
sound_word p b bs n c ne =
    let xs = b ∷ bs in
    let l : n ≤ length xs = omega (arith, prefix_len-le-length word_byte xs) in
    let o : 0 < n = rw (ne, c) (omega arith) in
    let a : AllOf word_byte (take n xs) = rw ne (lead_all word_byte xs) in
    let f = word_form b bs n c o a in
    let m : Longest (take n xs) (drop n xs) =
    longest_by b bs n Letter (kind_letter b c) l
    (λ v later e g. run_most word_byte xs v later n ne e (word_run v g)) in
    let k = length-take-le n xs l in
    cond_both (leb n 15) (good (word (take n xs) p) n) (refuse 3 p) (Sound p xs)
    (λ t. (refl, (refl, f, omega (arith, leb-true n 15 t)), m, closed b bs n (not_opens b bs Letter (kind_letter b c) (λ e. cc))))
    (λ t. (
      refl,
      inr (inl (
        refl,
        record {
          run = take n xs;
          later = drop n xs;
          front = sym (take-append-drop n xs);
          form = inl f;
          longest = m;
          spells_none = over n o (omega (arith, leb-false n 15 t)) k;
        },
      )),
    ))
  where
    over : (n : ℕ) → 0 < n → 15 < n → length (take n (b ∷ bs)) ≡ n → (t : Piece) → Spells t (take n (b ∷ bs)) → ⊥
    over zero o h k = absurd (omega arith)
    over (suc n) o h k = no_word b (take n bs) c (omega arith)

-- a number

decimal_run : (v : List ℕ) → DecimalForm v → AllOf digit v
decimal_run [] h = absurd h
decimal_run (b ∷ bs) h = (h.0, h.1)

decimal_form : (b : ℕ) (bs : List ℕ) (n : ℕ) → digit b ≡ true → 0 < n → AllOf digit (take n (b ∷ bs)) → DecimalForm (take n (b ∷ bs))
decimal_form b bs zero c h a = absurd (omega arith)
decimal_form b bs (suc n) c h a = (c, a.1)

no_decimal : (b : ℕ) (bs : List ℕ) → kind_of b ≡ Digit → 32767 < value_of 10 0 (b ∷ bs) → (t : Piece) → Spells t (b ∷ bs) → ⊥
no_decimal b bs k h (word text p) s = let m = spells_kind (word text p) b bs s in cc
no_decimal b bs k h (number text Decimal v p) s = let e : v ≡ value_of 10 0 (b ∷ bs) = s.2 in let l : v ≤ 32767 = s.3 in omega arith
no_decimal b bs k h (number text Octal v p) s = let m = spells_kind (number text Octal v p) b bs s in cc
no_decimal b bs k h (symbol t p) s = let m = spells_kind (symbol t p) b bs s in cc

sound_decimal : (p b : ℕ) (bs : List ℕ) (n : ℕ) → digit b ≡ true → n ≡ prefix_len digit (b ∷ bs) → Sound p (b ∷ bs) (number_of p 0 n Decimal (b ∷ bs))
sound_decimal p b bs n c ne =
    let xs = b ∷ bs in
    let l : n ≤ length xs = omega (arith, prefix_len-le-length digit xs) in
    let o : 0 < n = rw (ne, c) (omega arith) in
    let a : AllOf digit (take n xs) = rw ne (lead_all digit xs) in
    let f = decimal_form b bs n c o a in
    let kd = kind_digit b c in
    let m : Longest (take n xs) (drop n xs) = longest_by b bs n Digit kd l (λ v later e g. run_most digit xs v later n ne e (decimal_run v g)) in
    let z : 0 + n ≡ n = omega arith in
    let v = value_of 10 0 (take n xs) in
    cond_both (eqb n 0) (refuse 3 p) (number_with_value p (0 + n) Decimal xs (within 32767 v)) (Sound p xs)
    (λ t. absurd (omega (arith, eqb-true n 0 t)))
    (λ t. rw z (cond_both (ltb 32767 v) None (Some v) (λ (r : Option ℕ). Sound p xs (number_with_value p n Decimal xs r))
    (λ u. (
      refl,
      inr (inl (
        refl,
        record {
          run = take n xs;
          later = drop n xs;
          front = sym (take-append-drop n xs);
          form = inr (inl f);
          longest = m;
          spells_none = over n o (ltb-true 32767 v u);
        },
      )),
    ))
    (λ u. (refl, (refl, f, refl, ltb-false 32767 v u), m, closed b bs n (not_opens b bs Digit kd (λ e. cc))))))
  where
    over : (n : ℕ) → 0 < n → 32767 < value_of 10 0 (take n (b ∷ bs)) → (t : Piece) → Spells t (take n (b ∷ bs)) → ⊥
    over zero o h = absurd (omega arith)
    over (suc n) o h = no_decimal b (take n bs) (kind_digit b c) h

no_octal : (b : ℕ) (bs : List ℕ) → kind_of b ≡ Percent → (length bs ≡ 0) ⊎ (65535 < value_of 8 0 bs) → (t : Piece) → Spells t (b ∷ bs) → ⊥
no_octal b bs k h (word text p) s = let m = spells_kind (word text p) b bs s in cc
no_octal b bs k h (number text Decimal v p) s = let m = spells_kind (number text Decimal v p) b bs s in cc
no_octal b bs k (inl h) (number text Octal v p) s = let l : 1 < length (b ∷ bs) = s.4 in omega arith
no_octal b bs k (inr h) (number text Octal v p) s = let e : v ≡ value_of 8 0 bs = s.2 in let l : v ≤ 65535 = s.3 in omega arith
no_octal b bs k h (symbol t p) s = let m = spells_kind (symbol t p) b bs s in cc

octal_most : (b : ℕ) (bs : List ℕ) (n : ℕ) → n ≡ prefix_len octal bs → (v later : List ℕ) → b ∷ bs ≡ v ++ later → OctalForm v → length v ≤ suc n
octal_most b bs n ne [] later e h = omega arith
octal_most b bs n ne (c ∷ cs) later e h =
    let t : bs ≡ cs ++ later = cc in
    omega (arith, run_most octal bs cs later n ne t h.1)

sound_octal : (p b : ℕ) (bs : List ℕ) (n : ℕ) → b ≡ 37 → n ≡ prefix_len octal bs → Sound p (b ∷ bs) (number_of p 1 n Octal (b ∷ bs))
sound_octal p b bs n c ne =
    let xs = b ∷ bs in
    let l : n ≤ length bs = omega (arith, prefix_len-le-length octal bs) in
    let a : AllOf octal (take n bs) = rw ne (lead_all octal bs) in
    let f : OctalForm (take (suc n) xs) = (c, a) in
    let kd = kind_percent b c in
    let m : Longest (take (suc n) xs) (drop (suc n) xs) = longest_by b bs (suc n) Percent kd (omega arith) (octal_most b bs n ne) in
    let v = value_of 8 0 (take n bs) in
    let bad : ((length (take n bs) ≡ 0) ⊎ (65535 < v)) → BadToken xs =
    λ h. record {
      run = take (suc n) xs;
      later = drop (suc n) xs;
      front = sym (take-append-drop (suc n) xs);
      form = inr (inr (inl f));
      longest = m;
      spells_none = no_octal b (take n bs) kd h;
    } in
    let k = length-take-le n bs l in
    cond_both (eqb n 0) (refuse 3 p) (number_with_value p (1 + n) Octal xs (within 65535 v)) (Sound p xs)
    (λ t. (refl, inr (inl (refl, bad (inl (omega (arith, eqb-true n 0 t)))))))
    (λ t. rw (one-add n) (cond_both (ltb 65535 v) None (Some v) (λ (r : Option ℕ). Sound p xs (number_with_value p (suc n) Octal xs r))
    (λ u. (refl, inr (inl (refl, bad (inr (ltb-true 65535 v u))))))
    (λ u. (
      refl,
      (refl, f, refl, ltb-false 65535 v u, omega (arith, eqb-false n 0 t)),
      m,
      closed b bs (suc n) (not_opens b bs Percent kd (λ e. cc)),
    ))))

-- a symbol

sound_symbol : (p b : ℕ) (bs : List ℕ) → kind_of b ≡ Other → opens (b ∷ bs) ≡ false → blanks (b ∷ bs) ≡ false → Sound p (b ∷ bs) (symbol_of p (sign_of (b ∷ bs)))
sound_symbol p b bs kd oe be = by (sign_of xs) refl (sign_stands xs)
  where
    xs : List ℕ
    xs = b ∷ bs

    reaches : (v later : List ℕ) → xs ≡ v ++ later → SymbolForm v → Reaches (length v) (sign_of xs)
    reaches v later e g =
        let h : v ++ later ≡ symbol_text g.0 ++ later = ap (λ (u : List ℕ). u ++ later) g.1 in
        subst (λ (u : List ℕ). Reaches (length u) (sign_of xs)) (sym g.1) (subst (λ (u : List ℕ). Reaches (length (symbol_text g.0)) (sign_of u)) (sym (e ∙ h)) (sign_longest g.0 later))

    by : (o : Option (Symbol × ℕ)) → sign_of xs ≡ o → Stands xs o → Sound p xs (symbol_of p o)
    by None e s = (
      refl,
      inl (
        refl,
        (
          omega arith,
          be,
          oe,
          λ v later w f.
              subst (λ (o : Option (Symbol × ℕ)). Reaches (length v) o) e (reaches v later w (by_form b bs v later Other kd w f)),
        ),
      ),
    )
    by (Some f) e s =
        let t : take f.1 xs ≡ symbol_text f.0 = ap (take f.1) s.1.1 ∙ take_at (symbol_text f.0) s.1.0 f.1 (sym s.0) in
        let len : length xs ≡ length (symbol_text f.0) + length s.1.0 = ap length s.1.1 ∙ length-append (symbol_text f.0) s.1.0 in (
          refl,
          t,
          longest_by b bs f.1 Other kd (omega (arith, s.0)) (λ v later w g. subst (λ (o : Option (Symbol × ℕ)). Reaches (length v) o) e (reaches v later w g)),
          closed b bs f.1 oe,
        )

-- blanks and comments

-- no blank, and no comment that has an end
pub gap_zero : (xs : List ℕ) → gap_of xs ≡ 0 → (blanks xs ≡ false) × (opens xs ≡ true → closing (drop 2 xs) ≡ None)
gap_zero xs h = ⊎_elim (λ e. let g = gap_blank xs e in absurd (omega arith)) (λ e. (e, λ o. by (closing (drop 2 xs)) e o refl)) (cases_Bool (blanks xs))
  where
    by : (found : Option ℕ) → blanks xs ≡ false → opens xs ≡ true → closing (drop 2 xs) ≡ found → closing (drop 2 xs) ≡ None
    by None e o c = c
    by (Some n) e o c = let g : gap_of xs ≡ n + 2 = gap_comment xs (Some n) e o c in absurd (omega arith)

-- the first `>>` is found, and no later one
abbrev Before : ℕ → Option ℕ → Type 0
Before m None = ⊥
Before m (Some n) = n ≤ m

before_more : (m k : ℕ) (o : Option ℕ) → m < k → Before m o → Before k (option_map (λ n. n + 1) o)
before_more m k None l h = h
before_more m k (Some n) l h = omega arith

pub closing_first : (before after : List ℕ) → Before (length before + 2) (closing (before ++ 62 ∷ 62 ∷ after))
unfolding closing
closing_first [] after = omega arith
closing_first (x ∷ []) after = cond_both (eqb x 62 && true) (Some 2) (Some 3) (Before (1 + 2)) (λ e. omega arith) (λ e. omega arith)
closing_first (x ∷ y ∷ before) after =
    let l : length (y ∷ before) + 2 < length (x ∷ y ∷ before) + 2 = omega arith in
    cond_both (eqb x 62 && eqb y 62) (Some 2) (option_map (λ n. n + 1) (closing ((y ∷ before) ++ 62 ∷ 62 ∷ after))) (Before (length (x ∷ y ∷ before) + 2))
    (λ e. omega arith) (λ e. before_more _ _ (closing ((y ∷ before) ++ 62 ∷ 62 ∷ after)) l (closing_first (y ∷ before) after))

-- where it is found it stands
pub record ClosedAt (xs : List ℕ) (m : ℕ) : Type 0 where
  pub body : List ℕ
  pub later : List ℕ
  pub is : xs ≡ body ++ 62 ∷ 62 ∷ later
  pub size : m ≡ length body + 2

abbrev Closed : List ℕ → Option ℕ → Type 0
Closed xs None = Unit {0}
Closed xs (Some m) = ClosedAt xs m

closed_more : (b : ℕ) (xs : List ℕ) (o : Option ℕ) → Closed xs o → Closed (b ∷ xs) (option_map (λ n. n + 1) o)
closed_more b xs None h = tt
closed_more b xs (Some m) h = record { body = b ∷ h.body; later = h.later; is = ap (λ (v : List ℕ). b ∷ v) h.is; size = omega (arith, h.size) }

pub closing_stands : (xs : List ℕ) → Closed xs (closing xs)
unfolding closing
closing_stands [] = tt
closing_stands (b ∷ []) = tt
closing_stands (b ∷ d ∷ xs) =
    cond_both (eqb b 62 && eqb d 62) (Some 2) (option_map (λ n. n + 1) (closing (d ∷ xs))) (Closed (b ∷ d ∷ xs))
    (λ e. let p = and_parts (eqb b 62) (eqb d 62) e in record { body = []; later = xs; is = rw (eqb-true b 62 p.0, eqb-true d 62 p.1); size = omega arith })
    (λ e. closed_more b (d ∷ xs) (closing (d ∷ xs)) (closing_stands (d ∷ xs)))

-- a part that is no token stands at the front, and takes n bytes
pub record Gap (xs : List ℕ) (n : ℕ) : Type 0 where
  pub part : Part
  pub front : spelling part ++ drop n xs ≡ xs
  pub size : length (spelling part) ≡ n
  pub right : (p : ℕ) → IsRightPart p part (drop n xs)
  pub silent : (ps : List Part) → tokens_in (part ∷ ps) ≡ tokens_in ps

pub blank_gap : (b : ℕ) (bs : List ℕ) → blank b ≡ true → Gap (b ∷ bs) 1
blank_gap b bs h = record { part = gap b; front = refl; size = refl; right = λ p. h; silent = λ ps. refl }

pub comment_gap : (xs : List ℕ) (m : ℕ) → opens xs ≡ true → closing (drop 2 xs) ≡ Some m → Gap xs (m + 2)
comment_gap [] m o e = cc
comment_gap (b ∷ []) m o e = cc
comment_gap (b ∷ d ∷ xs) m o e =
    let c : ClosedAt xs m = subst (Closed xs) e (closing_stands xs) in
    let q = and_parts (eqb b 60) (eqb d 60) o in
    let bytes : List ℕ = c.body ++ 62 ∷ 62 ∷ [] in
    let tail : xs ≡ bytes ++ c.later = c.is ∙ sym (append_assoc c.body (62 ∷ 62 ∷ []) c.later) in
    let size : length bytes ≡ m = length-append c.body (62 ∷ 62 ∷ []) ∙ sym c.size in
    let z : m + 2 ≡ suc (suc m) = omega arith in
    let rest : drop (m + 2) (b ∷ d ∷ xs) ≡ c.later = rw z (ap (drop m) tail ∙ drop_at bytes c.later m size) in
    record {
      part = comment c.body;
      front = rw (rest, eqb-true b 60 q.0, eqb-true d 60 q.1) (ap (λ (v : List ℕ). 60 ∷ 60 ∷ v) (sym tail));
      size = omega (arith, size);
      right = λ p before after w.
          let u : xs ≡ before ++ 62 ∷ 62 ∷ after = c.is ∙ ap (λ (v : List ℕ). c.body ++ 62 ∷ 62 ∷ v) (sym rest) ∙ w in
          let f : Before (length before + 2) (closing xs) = subst (λ (v : List ℕ). Before (length before + 2) (closing v)) (sym u) (closing_first before after) in
          let l : m ≤ length before + 2 = subst (Before (length before + 2)) e f in
          omega (arith, c.size);
      silent = λ ps. refl;
    }

pub gap_part : (b : ℕ) (bs : List ℕ) (n : ℕ) → gap_of (b ∷ bs) ≡ n → (n ≡ 0 → ⊥) → Gap (b ∷ bs) n
gap_part b bs n h z =
    ⊎_elim (λ e. let f : 1 ≡ n = sym (gap_blank (b ∷ bs) e) ∙ h in subst (Gap (b ∷ bs)) f (blank_gap b bs e))
    (λ e. ⊎_elim (λ o. by (closing (drop 2 (b ∷ bs))) e o refl) (λ o. absurd (z (sym h ∙ gap_none (b ∷ bs) e o))) (cases_Bool (opens (b ∷ bs))))
    (cases_Bool (blanks (b ∷ bs)))
  where
    by : (found : Option ℕ) → blanks (b ∷ bs) ≡ false → opens (b ∷ bs) ≡ true → closing (drop 2 (b ∷ bs)) ≡ found → Gap (b ∷ bs) n
    by None e o c = absurd (z (sym h ∙ gap_comment (b ∷ bs) None e o c))
    by (Some m) e o c =
        let f : m + 2 ≡ n = sym (gap_comment (b ∷ bs) (Some m) e o c) ∙ h in
        subst (Gap (b ∷ bs)) f (comment_gap (b ∷ bs) m o c)

-- a comment that has no end
pub open_comment : (xs : List ℕ) → gap_of xs ≡ 0 → opens xs ≡ true → OpenComment xs
open_comment xs g o = (
  o,
  λ before after e.
      subst (Before (length before + 2)) ((gap_zero xs g).1 o) (subst (λ (v : List ℕ). Before (length before + 2) (closing v)) (sym e) (closing_first before after)),
)

-- what stands at the front is right
pub lexeme_sound : (p b : ℕ) (bs : List ℕ) → gap_of (b ∷ bs) ≡ 0 → Sound p (b ∷ bs) (lexeme p (b ∷ bs))
unfolding lexeme
lexeme_sound p b bs g = by (start_of xs) (starts b bs)
  where
    xs : List ℕ
    xs = b ∷ bs

    by : (s : Start) → Starts b bs s → Sound p xs (front_from p xs s)
    by Letter h = sound_word p b bs (prefix_len word_byte xs) h refl
    by Digit h = sound_decimal p b bs (prefix_len digit xs) h refl
    by Percent h = sound_octal p b bs (prefix_len octal bs) h refl
    by Comment h = (refl, inr (inr (refl, open_comment xs g h)))
    by Other h = sound_symbol p b bs (kind_other b h.0 h.1 h.2) h.3 (gap_zero xs g).0
