-- What stands at the front of a text: values, the ends of comments. Assumes nothing.
use Rattle.std.proofs.Common.{◌≡◌, ℕ, zero, suc, ◌+◌, ◌-◌, ◌*◌, ◌<◌, ◌≤◌, true, false, ◌&&◌, eqb, leb, List, [], ◌∷◌, length, get_or, drop, MatchOption, Some, None, Option, refl, ap, ◌∙◌, ⊎_elim, arith}
use Rattle.std.proofs.lemmas.List.{drop_more, drop_all}
use Rattle.std.proofs.lemmas.Bool.{lt-ltb, le-ltb, le-leb, lt-leb, eqb-true, and_parts, false_from_ne_true, cases_lt}
use Rattle.std.specs.Bool.{then_some}
use Rattle.std.specs.Option.{option_map}
use Rattle.lexer.specs.declared.token.Radix.{Radix}
use Rattle.lexer.specs.declared.token.Radix.TheVariants.{Decimal, Octal}
use Rattle.lexer.specs.Lexemes.{base_of, most_of, value_of, within, closing, blanks, opens, comment_width, gap_of}

-- a digit more makes no value smaller
pub grows : (radix : Radix) (v : ℕ) (ds : List ℕ) → v ≤ value_of (base_of radix) v ds
unfolding value_of
grows radix v [] = omega arith
grows Decimal v (d ∷ ds) = omega (arith, grows Decimal (v * 10 + (d - 48)) ds)
grows Octal v (d ∷ ds) = omega (arith, grows Octal (v * 8 + (d - 48)) ds)

most_small : (radix : Radix) → most_of radix ≤ 65535
most_small Decimal = omega arith
most_small Octal = omega arith

-- the loop over the digits: v so far, i digits in
module _ (radix : Radix) (v : ℕ) (xs : List ℕ) (i : ℕ) (so : value_of (base_of radix) 0 xs ≡ value_of (base_of radix) v (drop i xs)) where
  -- one digit on
  pub value_more : (d : ℕ) → i < length xs → d ≡ get_or xs i 0 - 48 → value_of (base_of radix) 0 xs ≡ value_of (base_of radix) (v * base_of radix + d) (drop (i + 1) xs)
  unfolding value_of
  value_more d h e = so ∙ rw (drop_more xs i 0 h, e)

  -- what is over 65,535 so far is over it in the end
  pub value_over : i < length xs → 65535 < v * base_of radix + (get_or xs i 0 - 48) → None ≡ within (most_of radix) (value_of (base_of radix) 0 xs)
  value_over h o =
      let d = get_or xs i 0 - 48 in
      let l : most_of radix < value_of (base_of radix) 0 xs = omega (arith, value_more d h refl, grows radix (v * base_of radix + d) (drop (i + 1) xs), most_small radix) in
      rw (lt-ltb (most_of radix) (value_of (base_of radix) 0 xs) l)

  pub value_whole : length xs ≤ i → value_of (base_of radix) 0 xs ≡ v
  unfolding value_of
  value_whole h = so ∙ rw (drop_all i xs h)

pub within_some : (most v : ℕ) → then_some (leb v most) v ≡ within most v
within_some most v = ⊎_elim (λ l. rw (lt-leb v most l, lt-ltb most v l)) (λ l. rw (le-leb v most l, le-ltb most v l)) (cases_lt most v)

-- `>>` stands at an offset
abbrev pub Ends : List ℕ → ℕ → Type 0
Ends s k = (get_or s k 0 ≡ 62) × (get_or s (k + 1) 0 ≡ 62)

-- the first offset where it stands, if it stands anywhere
abbrev pub FirstEnd : List ℕ → Option ℕ → Type 0
FirstEnd s r = MatchOption r ((k : ℕ) → k + 1 < length s → Ends s k → ⊥) (λ i. (i + 1 < length s) × Ends s i × ((k : ℕ) → k < i → Ends s k → ⊥))

ends_on : (b : ℕ) (xs : List ℕ) (k : ℕ) → Ends xs k → Ends (b ∷ xs) (suc k)
ends_on b xs k h = let e : suc k + 1 ≡ suc (k + 1) = omega arith in (h.0, rw e h.1)

ends_back : (b : ℕ) (xs : List ℕ) (k : ℕ) → Ends (b ∷ xs) (suc k) → Ends xs k
ends_back b xs k h = let e : suc k + 1 ≡ suc (k + 1) = omega arith in (h.0, rw e at h.1)

not_both : (b d : ℕ) → ((b ≡ 62) × (d ≡ 62) → ⊥) → (eqb b 62 && eqb d 62) ≡ false
not_both b d h = false_from_ne_true (eqb b 62 && eqb d 62) (λ t. let p = and_parts (eqb b 62) (eqb d 62) t in h (eqb-true b 62 p.0, eqb-true d 62 p.1))

pub closing_is : (s : List ℕ) (r : Option ℕ) → FirstEnd s r → option_map (λ n. n + 2) r ≡ closing s
unfolding closing
closing_is [] None h = refl
closing_is [] (Some i) h = absurd (omega (arith, h.0))
closing_is (b ∷ []) None h = refl
closing_is (b ∷ []) (Some i) h = absurd (omega (arith, h.0))
closing_is (b ∷ d ∷ xs) None h = rw (not_both b d (λ e. h 0 (omega arith) e), ← closing_is (d ∷ xs) None (λ k l e. h (suc k) (omega arith) (ends_on b (d ∷ xs) k e)))
closing_is (b ∷ d ∷ xs) (Some zero) h = rw (h.1.0, h.1.1)
closing_is (b ∷ d ∷ xs) (Some (suc i)) h =
    let f : suc i + 2 ≡ (i + 2) + 1 = omega arith in
    rw (not_both b d (λ e. h.2 0 (omega arith) e), ← closing_is (d ∷ xs) (Some i) (omega (arith, h.0), ends_back b (d ∷ xs) i h.1, λ k l e. h.2 (suc k) (omega arith) (ends_on b (d ∷ xs) k e))) (ap (λ (k : ℕ). Some k) f)

-- what the blank or the comment at the front takes
pub gap_blank : (xs : List ℕ) → blanks xs ≡ true → gap_of xs ≡ 1
unfolding gap_of
gap_blank xs h = rw h

pub gap_none : (xs : List ℕ) → blanks xs ≡ false → opens xs ≡ false → gap_of xs ≡ 0
unfolding gap_of
gap_none xs h o = rw (h, o)

pub gap_comment : (xs : List ℕ) (found : Option ℕ) → blanks xs ≡ false → opens xs ≡ true → closing (drop 2 xs) ≡ found → gap_of xs ≡ comment_width found
unfolding gap_of
gap_comment xs found h o e = rw (h, o, e)
