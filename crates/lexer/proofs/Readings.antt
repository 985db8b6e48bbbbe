-- The cut of a text is its reading. Assumes nothing.
use Rattle.std.proofs.Common.{◌≡◌, ℕ, zero, suc, ◌+◌, ◌-◌, ◌<◌, ◌≤◌, eqb, List, [], ◌∷◌, ◌++◌, length, take, drop, Some, None, Ok, Err, Option, sym, refl, ap, ◌∙◌, subst, ⊎_elim, arith}
use Rattle.std.proofs.lemmas.List.{append_assoc, length-append, length-drop, length-take-le, take-append-drop}
use Rattle.std.proofs.lemmas.Bool.{cond_both, eqb-true, eqb-false, lt-ltb, le-ltb, cases_lt}
use Rattle.std.specs.List.{flat_map}
use Rattle.base.specs.declared.refusal.Refusal.{Refusal}
use Rattle.base.specs.Refusals.{refuse}
use Rattle.lexer.specs.Lexemes.{gap_of}
use Rattle.lexer.specs.Cut.{Piece, Front, onward, width_of, Cut, lexeme, cut, tokens_left, fault, tokens_unless_fault, token_list}
use Rattle.lexer.specs.Theorems.{Part, token, spelling, tokens_in, IsRightPart, AreRightParts, IsRefusedAt, Reading, TextStands}
use Rattle.lexer.proofs.Cutting.{Wide, dropped, lexeme_wide}
use Rattle.lexer.proofs.Sound.{Sound, lexeme_sound, Gap, gap_part}
use Rattle.lexer.proofs.Unique.{reading_one}

abbrev Ended : Option Refusal → (offset : ℕ) → (rest : List ℕ) → Type 0
Ended None p rest = rest ≡ []
Ended (Some r) p rest = IsRefusedAt r p rest

-- the text xs at the offset p, cut so
record Read (p : ℕ) (xs : List ℕ) (c : Cut) : Type 0 where
  parts : List Part
  rest : List ℕ
  whole : flat_map spelling parts ++ rest ≡ xs
  right : AreRightParts p parts rest
  tokens : c.tokens ≡ tokens_in parts
  ending : Ended c.fault (p + length (flat_map spelling parts)) rest

-- no part is read
halt : (p : ℕ) (xs : List ℕ) (c : Cut) → c.tokens ≡ [] → Ended c.fault p xs → Read p xs c
halt p xs c t e =
    let z : p ≡ p + 0 = omega arith in
    record { parts = []; rest = xs; whole = refl; right = tt; tokens = t; ending = subst (λ (k : ℕ). Ended c.fault k xs) z e }

-- one part more
extend : (p : ℕ) (xs : List ℕ) (x : Part) (n : ℕ) (c c' : Cut) → spelling x ++ drop n xs ≡ xs → length (spelling x) ≡ n → IsRightPart p x (drop n xs) →
    ((ps : List Part) → c.tokens ≡ tokens_in ps → c'.tokens ≡ tokens_in (x ∷ ps)) → c.fault ≡ c'.fault → Read (p + n) (drop n xs) c → Read p xs c'
extend p xs x n c c' front size right tokens fault r =
    let ps = r.parts in
    let offset : (p + n) + length (flat_map spelling ps) ≡ p + length (flat_map spelling (x ∷ ps)) = omega (arith, length-append (spelling x) (flat_map spelling ps)) in
    let e : Ended c'.fault ((p + n) + length (flat_map spelling ps)) r.rest =
    subst (λ (o : Option Refusal). Ended o ((p + n) + length (flat_map spelling ps)) r.rest) fault r.ending in
    record {
      parts = x ∷ ps;
      rest = r.rest;
      whole = append_assoc (spelling x) (flat_map spelling ps) r.rest ∙ ap (λ (v : List ℕ). spelling x ++ v) r.whole ∙ front;
      right = (subst (IsRightPart p x) (sym r.whole) right, subst (λ (k : ℕ). AreRightParts (p + k) ps r.rest) (sym size) r.right);
      tokens = tokens ps r.tokens;
      ending = subst (λ (k : ℕ). Ended c'.fault k r.rest) offset e;
    }

-- by what stands at the front
by_front : (p : ℕ) (xs : List ℕ) (f : Front) → Sound p xs f → Wide (length xs) f → (later : ℕ → Cut) →
    ((n : ℕ) → 0 < n → n ≤ length xs → Read (p + n) (drop n xs) (later n)) → Read p xs (onward f (later (width_of f)))
by_front p xs (Err r) s w later ih = halt p xs _ refl s
by_front p xs (Ok f) s w later ih =
    extend p xs (token f.0 (take f.1 xs)) f.1 (later f.1) _
    (take-append-drop f.1 xs) (length-take-le f.1 xs w.1) s (λ ps e. ap (λ (v : List Piece). f.0 ∷ v) e) refl (ih f.1 w.0 w.1)

read : (end p k : ℕ) (bs : List ℕ) → p + length (drop k bs) ≡ end → Read p (drop k bs) (cut end k bs)
unfolding cut
read end p zero [] e = halt p [] _ refl refl
read end p (suc k) [] e = halt p [] _ refl refl
read end p (suc k) (b ∷ bs) e = read end p k bs e
read end p zero (b ∷ bs) e =
    let xs = b ∷ bs in
    let ih : (n : ℕ) → 0 < n → n ≤ length xs → Read (p + n) (drop n xs) (cut end (n - 1) bs) =
    λ n h l.
    let d = dropped b bs n h in
    let s : (p + n) + length (drop (n - 1) bs) ≡ end = omega (arith, ap length d, length-drop n xs) in
    subst (λ (v : List ℕ). Read (p + n) v (cut end (n - 1) bs)) d (read end (p + n) (n - 1) bs s) in
    let q : end - length xs ≡ p = omega arith in
    cond_both (eqb (gap_of xs) 0) (onward (lexeme (end - length xs) xs) (cut end (width_of (lexeme (end - length xs) xs) - 1) bs)) (cut end (gap_of xs - 1) bs) (Read p xs)
    (λ t. rw q (by_front p xs (lexeme p xs) (lexeme_sound p b bs (eqb-true (gap_of xs) 0 t)) (lexeme_wide p xs) (λ n. cut end (n - 1) bs) ih))
    (λ t.
    let g : Gap xs (gap_of xs) = gap_part b bs (gap_of xs) refl (eqb-false (gap_of xs) 0 t) in
    let l : gap_of xs ≤ length xs = omega (arith, ap length g.front, length-append (spelling g.part) (drop (gap_of xs) xs), g.size) in
    let h : 0 < gap_of xs = omega (arith, eqb-false (gap_of xs) 0 t) in
    extend p xs g.part (gap_of xs) (cut end (gap_of xs - 1) bs) _ g.front g.size (g.right p) (λ ps e. e ∙ sym (g.silent ps)) refl (ih (gap_of xs) h l))

-- the whole source
ended : (source : List ℕ) (c : Cut) → Read 0 source c → Reading source (tokens_unless_fault c.tokens c.fault)
ended source c r = by c.fault r.ending
  where
    by : (o : Option Refusal) → Ended o (0 + length (flat_map spelling r.parts)) r.rest → Reading source (tokens_unless_fault c.tokens o)
    by None e = record { parts = r.parts; rest = r.rest; whole = r.whole; right = r.right; ending = (r.tokens, e) }
    by (Some f) e =
        let z : 0 + length (flat_map spelling r.parts) ≡ length (flat_map spelling r.parts) = omega arith in
        record { parts = r.parts; rest = r.rest; whole = r.whole; right = r.right; ending = subst (λ (k : ℕ). IsRefusedAt f k r.rest) z e }

texted_long : (source : List ℕ) → 32768 < length source → token_list source ≡ refuse 1 32768
unfolding token_list
texted_long source h = rw (lt-ltb 32768 (length source) h)

-- a source that has tokens is no longer than a source may be
pub reads_short : (source : List ℕ) (ts : List Piece) → token_list source ≡ Ok ts → length source ≤ 32768
reads_short source ts e = ⊎_elim (λ l. let r = texted_long source l in cc) (λ l. l) (cases_lt 32768 (length source))

pub text_reads : (source : List ℕ) → length source ≤ 32768 → Reading source (token_list source)
unfolding token_list tokens_left fault
text_reads source h =
    let z : 0 + length source ≡ length source = omega arith in
    rw (le-ltb 32768 (length source) h) (ended source (cut (length source) 0 source) (read (length source) 0 0 source z))

pub text_stands : TextStands
text_stands =
    record {
      reads = text_reads;
      alone = λ source answer h x. reading_one source answer (token_list source) x (text_reads source h);
      long = texted_long;
    }
