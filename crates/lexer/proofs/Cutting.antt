-- One token cut from a text. Assumes nothing.
use Rattle.std.proofs.Common.{◌≡◌, ℕ, zero, suc, ◌+◌, ◌-◌, ◌<◌, ◌≤◌, true, false, eqb, leb, List, [], ◌∷◌, length, take, drop, Some, None, Ok, Err, Option, Result, sym, refl, ap, ◌∙◌, subst, ⊎_elim, arith, Bor}
use Rattle.std.proofs.lemmas.List.{take_rest, length-drop, length-take, length-append, drop_all}
use Rattle.std.proofs.lemmas.Bool.{ne_eqb, eqb-true, eqb-false, leb-true, cases_Bool, cond_both}
use Rattle.std.proofs.lemmas.List.Sums.{prefix_len-le-length}
use Rattle.std.specs.List.{prefix_len}
use Rattle.std.specs.Option.{option_map}
use Rattle.base.specs.declared.refusal.Refusal.{Refusal}
use Rattle.base.specs.Refusals.{refuse}
use Rattle.lexer.specs.declared.token.Token.{Token}
use Rattle.lexer.specs.declared.fault.TextFault.{TextFault}
use Rattle.lexer.specs.declared.token.Symbol.{Symbol}
use Rattle.lexer.specs.declared.token.Radix.{Radix}
use Rattle.lexer.specs.declared.token.Radix.TheVariants.{Decimal, Octal}
use Rattle.lexer.proofs.FirstBytes.{symbol_long}
use Rattle.lexer.proofs.Signs.{Stands, sign_stands}
use Rattle.lexer.specs.Lexemes.{Start, Letter, Digit, Percent, Comment, Other, capital, digit, opens, symbol_text, start_of, sign_of, word_byte, digit_of, base_of, most_of, value_of, within, gap_of}
use Rattle.lexer.specs.Faults.{refusal_of}
use Rattle.lexer.specs.Cut.{Cut, Next, Short, with_rest, symbol, onward, width_of, after, first_of, piece, Piece, word, front_from, word_of, symbol_of, Front, good, next_of, Steps, number_of, number_with_value, past, lexeme, cut, tokens_left, fault}

-- to skip is to drop
past_skips : (k : ℕ) (bs : List ℕ) → past k bs ≡ past 0 (drop k bs)
unfolding past
past_skips zero bs = refl
past_skips (suc k) [] = refl
past_skips (suc k) (b ∷ bs) = past_skips k bs

pub past_here : (xs : List ℕ) → gap_of xs ≡ 0 → past 0 xs ≡ xs
unfolding past
past_here [] h = refl
past_here (b ∷ bs) h = rw h

pub past_more : (xs : List ℕ) (n : ℕ) → n ≡ gap_of xs → (n ≡ 0 → ⊥) → past 0 xs ≡ past 0 (drop n xs)
unfolding past
past_more [] n e h = ap (past 0) (sym (drop_all n [] (omega arith)))
past_more (b ∷ bs) zero e h = absurd (h refl)
past_more (b ∷ bs) (suc k) e h =
    let f : gap_of (b ∷ bs) - 1 ≡ k = omega arith in
    let g : eqb (gap_of (b ∷ bs)) 0 ≡ false = ne_eqb (gap_of (b ∷ bs)) 0 (λ z. h (e ∙ z)) in
    rw (g, f, past_skips k bs)

-- a number of n digits, as the code finds it
module _ (p lead n : ℕ) (radix : Radix) (xs : List ℕ) (ne : n ≡ prefix_len (digit_of radix) (take (length xs - lead) (drop lead xs))) where
  run : prefix_len (digit_of radix) (drop lead xs) ≡ n
  run = rw (← take_rest xs lead) (sym ne)

  pub number_none : n ≡ 0 → refuse 3 p ≡ number_of p lead (prefix_len (digit_of radix) (drop lead xs)) radix xs
  number_none z = rw (run, z)

  pub number_valued : (o : Option ℕ) → (n ≡ 0 → ⊥) → o ≡ within (most_of radix) (value_of (base_of radix) 0 (take n (take (length xs - lead) (drop lead xs)))) →
      number_with_value p (lead + n) radix xs o ≡ number_of p lead (prefix_len (digit_of radix) (drop lead xs)) radix xs
  number_valued o z e = rw (run, ne_eqb n 0 z) (ap (number_with_value p (lead + n) radix xs) (e ∙ rw (take_rest xs lead)))

-- a token and the text after it
abbrev pub got : Piece → List ℕ → Next
got t rest = Ok (Some (t, rest))

-- a symbol, as the code finds it
module _ (p : ℕ) (xs : List ℕ) where
  pub symbol_found : (s : Symbol) (rest : List ℕ) → Some (s, rest) ≡ option_map (with_rest xs) (sign_of xs) → Ok (Some (symbol s p, rest)) ≡ after xs (symbol_of p (sign_of xs))
  symbol_found s rest e = by (sign_of xs) e
    where
      by : (o : Option (Symbol × ℕ)) → Some (s, rest) ≡ option_map (with_rest xs) o → Ok (Some (symbol s p, rest)) ≡ after xs (symbol_of p o)
      by None q = cc
      by (Some r) q = let j : (s, rest) ≡ with_rest xs r = cc in ap (λ (v : Symbol × List ℕ). got (symbol v.0 p) v.1) j

  pub symbol_none : None ≡ option_map (with_rest xs) (sign_of xs) → refuse 2 p ≡ after xs (symbol_of p (sign_of xs))
  symbol_none e = by (sign_of xs) e
    where
      by : (o : Option (Symbol × ℕ)) → None ≡ option_map (with_rest xs) o → refuse 2 p ≡ after xs (symbol_of p o)
      by None q = refl
      by (Some s) q = cc

-- a token that is cut has a byte, and lies in the text
abbrev pub Wide : ℕ → Front → Type 0
Wide m (Ok f) = (0 < f.1) × (f.1 ≤ m)
Wide m (Err e) = Unit {0}

sign_wide : (p : ℕ) (xs : List ℕ) (o : Option (Symbol × ℕ)) → Stands xs o → Wide (length xs) (symbol_of p o)
sign_wide p xs None h = tt
sign_wide p xs (Some f) h =
    let e : length xs ≡ length (symbol_text f.0) + length h.1.0 = ap length h.1.1 ∙ length-append (symbol_text f.0) h.1.0 in
    (omega (arith, h.0, symbol_long f.0), omega (arith, h.0))

number_wide : (p lead n : ℕ) (radix : Radix) (xs : List ℕ) → lead + n ≤ length xs → Wide (length xs) (number_of p lead n radix xs)
number_wide p lead n radix xs h =
    cond_both (eqb n 0) (refuse 3 p) (number_with_value p (lead + n) radix xs found) (Wide (length xs)) (λ e. tt) (λ e. by found (eqb-false n 0 e))
  where
    found : Option ℕ
    found = within (most_of radix) (value_of (base_of radix) 0 (take n (drop lead xs)))

    by : (o : Option ℕ) → (n ≡ 0 → ⊥) → Wide (length xs) (number_with_value p (lead + n) radix xs o)
    by None z = tt
    by (Some v) z = (omega arith, h)

word_wide : (p n : ℕ) (xs : List ℕ) → 0 < n → n ≤ length xs → Wide (length xs) (word_of p n xs)
word_wide p n xs h l = cond_both (leb n 15) (good (word (take n xs) p) n) (refuse 3 p) (Wide (length xs)) (λ e. (h, l)) (λ e. tt)

-- what the first byte says
abbrev pub Starts : ℕ → List ℕ → Start → Type 0
Starts b bs Letter = capital b ≡ true
Starts b bs Digit = digit b ≡ true
Starts b bs Percent = b ≡ 37
Starts b bs Comment = opens (b ∷ bs) ≡ true
Starts b bs Other = (capital b ≡ false) × (digit b ≡ false) × (b ≡ 37 → ⊥) × (opens (b ∷ bs) ≡ false)

pub starts : (b : ℕ) (bs : List ℕ) → Starts b bs (start_of (b ∷ bs))
starts b bs =
    cond_both (capital b) Letter _ (Starts b bs) (λ e. e)
    (λ e. cond_both (digit b) Digit _ (Starts b bs) (λ f. f)
    (λ f. cond_both (eqb b 37) Percent _ (Starts b bs) (λ g. eqb-true b 37 g)
    (λ g. cond_both (opens (b ∷ bs)) Comment Other (Starts b bs) (λ h. h) (λ h. (e, f, eqb-false b 37 g, h)))))

letter_first : (xs : List ℕ) → start_of xs ≡ Letter → 0 < prefix_len word_byte xs
letter_first [] e = cc
letter_first (b ∷ bs) e = let c : capital b ≡ true = subst (Starts b bs) e (starts b bs) in rw c (omega arith)

lexed_wide : (p : ℕ) (xs : List ℕ) (st : Start) → start_of xs ≡ st → Wide (length xs) (front_from p xs st)
lexed_wide p xs Letter e = word_wide p (prefix_len word_byte xs) xs (letter_first xs e) (prefix_len-le-length word_byte xs)
lexed_wide p xs Digit e = number_wide p 0 (prefix_len (digit_of Decimal) xs) Decimal xs (omega (arith, prefix_len-le-length (digit_of Decimal) xs))
lexed_wide p [] Percent e = cc
lexed_wide p (b ∷ bs) Percent e = number_wide p 1 (prefix_len (digit_of Octal) bs) Octal (b ∷ bs) (omega (arith, prefix_len-le-length (digit_of Octal) bs))
lexed_wide p xs Comment e = tt
lexed_wide p xs Other e = sign_wide p xs (sign_of xs) (sign_stands xs)

pub lexeme_wide : (p : ℕ) (xs : List ℕ) → Wide (length xs) (lexeme p xs)
unfolding lexeme
lexeme_wide p xs = lexed_wide p xs (start_of xs) refl

-- a word that is cut is short
abbrev ShortFront : Front → Type 0
ShortFront (Ok f) = Short f.0
ShortFront (Err e) = Unit {0}

short_number : (p lead n : ℕ) (radix : Radix) (xs : List ℕ) → ShortFront (number_of p lead n radix xs)
short_number p lead n radix xs = cond_both (eqb n 0) (refuse 3 p) (number_with_value p (lead + n) radix xs found) ShortFront (λ e. tt) (λ e. by found)
  where
    found : Option ℕ
    found = within (most_of radix) (value_of (base_of radix) 0 (take n (drop lead xs)))

    by : (o : Option ℕ) → ShortFront (number_with_value p (lead + n) radix xs o)
    by None = tt
    by (Some v) = tt

short_symbol : (p : ℕ) (o : Option (Symbol × ℕ)) → ShortFront (symbol_of p o)
short_symbol p None = tt
short_symbol p (Some f) = tt

lexed_short : (p : ℕ) (xs : List ℕ) (st : Start) → ShortFront (front_from p xs st)
lexed_short p xs Letter =
    let n = prefix_len word_byte xs in
    cond_both (leb n 15) (good (word (take n xs) p) n) (refuse 3 p) ShortFront (λ e. omega (arith, leb-true n 15 e, length-take n xs)) (λ e. tt)
lexed_short p xs Digit = short_number p 0 (prefix_len (digit_of Decimal) (drop 0 xs)) Decimal xs
lexed_short p xs Percent = short_number p 1 (prefix_len (digit_of Octal) (drop 1 xs)) Octal xs
lexed_short p xs Comment = tt
lexed_short p xs Other = short_symbol p (sign_of xs)

pub same_front : {p q : ℕ} {xs ys : List ℕ} → xs ≡ ys → p ≡ q → after xs (lexeme p xs) ≡ after ys (lexeme q ys)
same_front e f = rw (e, f)

-- the token that was cut takes so many bytes
module _ (xs : List ℕ) where
  abbrev Taken : Piece → List ℕ → Front → Type 0
  Taken t rest f = (n : ℕ) × ((f ≡ good t n) × (rest ≡ drop n xs))

  taken : (t : Piece) (rest : List ℕ) (f : Front) → got t rest ≡ after xs f → Taken t rest f
  taken t rest (Ok g) e = let j : (t, rest) ≡ (g.0, drop g.1 xs) = cc in (g.1, (ap (λ (v : Piece × List ℕ). good v.0 g.1) (sym j), ap (λ (v : Piece × List ℕ). v.1) j))
  taken t rest (Err r) e = cc

  refused : (e : Refusal) (f : Front) → Err e ≡ after xs f → f ≡ Err e
  refused e (Ok g) q = cc
  refused e (Err r) q = cc

pub short_token : (p : ℕ) (xs : List ℕ) (t : Piece) (rest : List ℕ) → got t rest ≡ after xs (lexeme p xs) → Short t
unfolding lexeme
short_token p xs t rest e = subst ShortFront (taken xs t rest (lexeme p xs) e).1.0 (lexed_short p xs (start_of xs))

-- what stands first once blanks and comments are passed over
past_stops : (k : ℕ) (bs : List ℕ) → gap_of (past k bs) ≡ 0
unfolding past gap_of
past_stops k [] = refl
past_stops (suc k) (b ∷ bs) = past_stops k bs
past_stops zero (b ∷ bs) =
    cond_both (eqb (gap_of (b ∷ bs)) 0) (b ∷ bs) (past (gap_of (b ∷ bs) - 1) bs) (λ (v : List ℕ). gap_of v ≡ 0) (λ e. eqb-true (gap_of (b ∷ bs)) 0 e) (λ e. past_stops (gap_of (b ∷ bs) - 1) bs)

past_shorter : (k : ℕ) (bs : List ℕ) → length (past k bs) ≤ length bs
unfolding past
past_shorter k [] = omega arith
past_shorter (suc k) (b ∷ bs) = omega (arith, past_shorter k bs)
past_shorter zero (b ∷ bs) =
    cond_both (eqb (gap_of (b ∷ bs)) 0) (b ∷ bs) (past (gap_of (b ∷ bs) - 1) bs) (λ (v : List ℕ). length v ≤ length (b ∷ bs)) (λ e. omega arith) (λ e. omega (arith, past_shorter (gap_of (b ∷ bs) - 1) bs))

-- they leave the cut as it is
cut_past : (end k : ℕ) (bs : List ℕ) → cut end k bs ≡ cut end 0 (past k bs)
unfolding past cut
cut_past end k [] = refl
cut_past end (suc k) (b ∷ bs) = cut_past end k bs
cut_past end zero (b ∷ bs) = ⊎_elim (λ e. rw e (rw e)) (λ e. rw e (cut_past end (gap_of (b ∷ bs) - 1) bs)) (cases_Bool (eqb (gap_of (b ∷ bs)) 0))

cut_skips : (end k : ℕ) (bs : List ℕ) → cut end k bs ≡ cut end 0 (drop k bs)
unfolding cut
cut_skips end zero bs = refl
cut_skips end (suc k) [] = refl
cut_skips end (suc k) (b ∷ bs) = cut_skips end k bs

pub dropped : (b : ℕ) (bs : List ℕ) (n : ℕ) → 0 < n → drop (n - 1) bs ≡ drop n (b ∷ bs)
dropped b bs zero h = absurd (omega arith)
dropped b bs (suc k) h = let e : suc k - 1 ≡ k = omega arith in rw e

-- the cut by what stands at the front
cut_front : (end : ℕ) (xs : List ℕ) (f : Front) → gap_of xs ≡ 0 → (length xs ≡ 0 → ⊥) → lexeme (end - length xs) xs ≡ f → Wide (length xs) f → cut end 0 xs ≡ onward f (cut end 0 (drop (width_of f) xs))
unfolding cut
cut_front end [] f g l e w = absurd (l refl)
cut_front end (b ∷ bs) (Err r) g l e w = rw (g, e)
cut_front end (b ∷ bs) (Ok f) g l e w =
    let n = dropped b bs f.1 w.0 in
    rw (g, e) (ap (onward (Ok f)) (cut_skips end (f.1 - 1) bs ∙ ap (cut end 0) n))

-- what `next` says of the tokens that are left
pub first_is : (end : ℕ) (bs xs : List ℕ) → xs ≡ past 0 bs → (length xs ≡ 0 → ⊥) → next_of end bs ≡ after xs (lexeme (end - length xs) xs)
unfolding first_of
first_is end bs [] e h = absurd (h refl)
first_is end bs (x ∷ xs) e h = rw (← e)

pub first_none : (end : ℕ) (bs xs : List ℕ) → xs ≡ past 0 bs → length xs ≡ 0 → next_of end bs ≡ Ok None
unfolding first_of
first_none end bs [] e h = rw (← e)
first_none end bs (x ∷ xs) e h = absurd (omega arith)

abbrev Answer : Type 0
Answer = Result (Option (Token × Bor (List ℕ))) TextFault

pub steps_none : (end : ℕ) (bs xs : List ℕ) → xs ≡ past 0 bs → length xs ≡ 0 → Steps end bs (Ok None)
unfolding tokens_left fault cut
steps_none end bs [] e h = let c : cut end 0 bs ≡ cut end 0 [] = cut_past end 0 bs ∙ ap (cut end 0) (sym e) in (ap (λ (v : Cut). v.tokens) c, ap (λ (v : Cut). v.fault) c)
steps_none end bs (x ∷ xs) e h = absurd (omega arith)

module _ (end : ℕ) (bs xs : List ℕ) (e : xs ≡ past 0 bs) (h : length xs ≡ 0 → ⊥) where
  whole : (f : Front) → f ≡ lexeme (end - length xs) xs → cut end 0 bs ≡ onward f (cut end 0 (drop (width_of f) xs))
  whole f l =
      cut_past end 0 bs ∙ ap (cut end 0) (sym e)
      ∙ cut_front end xs f (ap gap_of e ∙ past_stops 0 bs) h (sym l) (subst (Wide (length xs)) (sym l) (lexeme_wide (end - length xs) xs))

  pub steps_refused : (f : TextFault) → Err (refusal_of f) ≡ after xs (lexeme (end - length xs) xs) → Steps end bs (Err f)
  unfolding tokens_left fault
  steps_refused f l =
      let c = whole (Err (refusal_of f)) (sym (refused xs (refusal_of f) (lexeme (end - length xs) xs) l)) in
      (ap (λ (v : Cut). v.tokens) c, ap (λ (v : Cut). v.fault) c)

  pub steps_token : (t : Token) (rest : List ℕ) → got (piece t) rest ≡ after xs (lexeme (end - length xs) xs) →
      (tokens_left end bs ≡ piece t ∷ tokens_left end rest) × (fault end bs ≡ fault end rest) × (length rest < length bs)
  unfolding tokens_left fault
  steps_token t rest l =
      let k = taken xs (piece t) rest (lexeme (end - length xs) xs) l in
      let n = k.0 in
      let c = whole (good (piece t) n) (sym k.1.0) in
      let w : Wide (length xs) (good (piece t) n) = subst (Wide (length xs)) k.1.0 (lexeme_wide (end - length xs) xs) in
      let s : length xs ≤ length bs = rw e (past_shorter 0 bs) in
      rw (k.1.1) (ap (λ (v : Cut). v.tokens) c, ap (λ (v : Cut). v.fault) c, omega (arith, length-drop n xs, w.0, w.1))

  pub next_is : (r : Next) → r ≡ after xs (lexeme (end - length xs) xs) → r ≡ next_of end bs
  next_is r l = l ∙ sym (first_is end bs xs e h)
