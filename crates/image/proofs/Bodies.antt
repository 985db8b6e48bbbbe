-- Entries that are judged, measured and written one after another.
use Rattle.std.proofs.Common.{◌≡◌, ℕ, ◌+◌, ◌<◌, ◌≤◌, true, false, List, [], ◌∷◌, ◌++◌, length, get_or, take, drop, Some, None, Ok, Err, Result, sym, refl, ap, ◌∙◌, append_assoc, append-nil, arith}
use Rattle.std.proofs.lemmas.List.{length-append, take_more, drop_more, drop_all, take-append-drop}
use Rattle.std.proofs.lemmas.Bool.{cond_both, lt-leb, le-leb}
use Rattle.base.specs.declared.refusal.Refusal.{Refusal}
use Rattle.base.specs.Refusals.{refuse, then}
use Rattle.base.specs.declared.instr.Instr.{Instr}
use Rattle.image.specs.Codes.{Code, entry_bytes, body_bytes, good_entry, good_header, image}
use Rattle.image.specs.Groups.{number_bytes}
use Rattle.image.specs.Writing.{size_of, entry_refusal, encoding}

-- what stands past the end of a table
abbrev pub none : Instr
none = record { number = 0; a = 0; b = 0 }

pub body_append : (xs ys : List Instr) → body_bytes (xs ++ ys) ≡ body_bytes xs ++ body_bytes ys
body_append [] ys = refl
body_append (x ∷ xs) ys = ap (λ r. entry_bytes x ++ r) (body_append xs ys) ∙ sym (append_assoc (entry_bytes x) (body_bytes xs) (body_bytes ys))

pub body_more : (xs : List Instr) (i : ℕ) (d : Instr) → i < length xs → body_bytes (take (i + 1) xs) ≡ body_bytes (take i xs) ++ entry_bytes (get_or xs i d)
body_more xs i d h =
    ap body_bytes (take_more xs i d h) ∙ body_append (take i xs) (get_or xs i d ∷ []) ∙ ap (λ r. body_bytes (take i xs) ++ r) (append-nil (entry_bytes (get_or xs i d)))

-- a front of the entries takes no more bytes than all
pub body_front : (xs : List Instr) (i : ℕ) → length (body_bytes (take i xs)) ≤ length (body_bytes xs)
body_front xs i =
    let e = ap (λ l. length (body_bytes l)) (take-append-drop i xs) in
    let f = ap length (body_append (take i xs) (drop i xs)) in
    omega (arith, e, f, length-append (body_bytes (take i xs)) (body_bytes (drop i xs)))

pub good_size : (i : Instr) (n : ℕ) → Some n ≡ size_of i → (good_entry i ≡ true) × (n ≡ length (entry_bytes i))
good_size i n =
    cond_both (good_entry i) (Some (length (entry_bytes i))) None (λ r. Some n ≡ r → (good_entry i ≡ true) × (n ≡ length (entry_bytes i)))
    (λ t p. (t, cc))
    (λ t p. absurd (let z : ◌≡◌ {A = ℕ} 0 1 = cc in omega arith))

pub bad_size : (i : Instr) → None ≡ size_of i → good_entry i ≡ false
bad_size i =
    cond_both (good_entry i) (Some (length (entry_bytes i))) None (λ r. None ≡ r → good_entry i ≡ false)
    (λ t p. absurd (let z : ◌≡◌ {A = ℕ} 0 1 = cc in omega arith))
    (λ t p. t)

pub judged_more : (xs : List Instr) (i k : ℕ) (d : Instr) → i < length xs → good_entry (get_or xs i d) ≡ true → entry_refusal k (drop i xs) ≡ entry_refusal (k + 1) (drop (i + 1) xs)
unfolding entry_refusal
judged_more xs i k d h g = rw (drop_more xs i d h) (rw g)

pub judged_bad : (xs : List Instr) (i k : ℕ) (d : Instr) → i < length xs → good_entry (get_or xs i d) ≡ false → entry_refusal k (drop i xs) ≡ refuse 28 k
unfolding entry_refusal
judged_bad xs i k d h g = rw (drop_more xs i d h) (rw g)

abbrev pub sized : ℕ → Result ℕ Refusal
sized n = Ok n

abbrev pub unsized : Refusal → Result ℕ Refusal
unsized e = Err e

pub judged_end : (xs : List Instr) (i : ℕ) → length xs ≤ i → entry_refusal i (drop i xs) ≡ Ok tt
unfolding entry_refusal
judged_end xs i h = rw (drop_all i xs h)

-- what the measuring loop answers
pub measured_bad : (xs : List Instr) (i : ℕ) → entry_refusal 0 xs ≡ refuse 28 i → refuse 28 i ≡ then (entry_refusal 0 xs) (λ _. Ok (length (body_bytes xs)))
measured_bad xs i e = rw e

pub measured_good : (xs : List Instr) (n : ℕ) → entry_refusal 0 xs ≡ Ok tt → n ≡ length (body_bytes xs) → sized n ≡ then (entry_refusal 0 xs) (λ _. Ok (length (body_bytes xs)))
measured_good xs n e b = rw e (ap sized b)

pub image_length : (k : Code) → length (image k) ≡ length (number_bytes k.cells) + length (number_bytes k.depth) + length (number_bytes (length k.entries)) + length (body_bytes k.entries)
unfolding image
image_length k =
    let c = number_bytes k.cells in
    let d = number_bytes k.depth in
    let n = number_bytes (length k.entries) in
    let b = body_bytes k.entries in
    omega (arith, length-append c d, length-append (c ++ d) n, length-append (c ++ d ++ n) b)

-- what the writer answers, by what it found
module _ (room : ℕ) (k : Code) where
  pub encoded_header : good_header k.cells (length k.entries) ≡ false → encoding room k ≡ refuse 28 0
  unfolding encoding
  encoded_header h = rw h

  pub encoded_entry : (e : Refusal) → good_header k.cells (length k.entries) ≡ true → entry_refusal 0 k.entries ≡ Err e → encoding room k ≡ Err e
  unfolding encoding
  encoded_entry e h j = rw (h, j)

  pub encoded_short : (n : ℕ) → good_header k.cells (length k.entries) ≡ true → entry_refusal 0 k.entries ≡ Ok tt → n ≡ length (image k) → room < n → encoding room k ≡ refuse 27 n
  unfolding encoding
  encoded_short n h j e l = let m : room < length (image k) = omega (arith, e) in rw (h, j, lt-leb (length (image k)) room m) (ap (λ i. refuse 27 i) (sym e))

  pub encoded_whole : good_header k.cells (length k.entries) ≡ true → entry_refusal 0 k.entries ≡ Ok tt → length (image k) ≤ room → encoding room k ≡ Ok (image k)
  unfolding encoding
  encoded_whole h j l = rw (h, j, le-leb (length (image k)) room l)

pub judged_err : (x : Result (Unit {0}) Refusal) (n : ℕ) (e : Refusal) → unsized e ≡ then x (λ _. Ok n) → x ≡ Err e
judged_err (Ok u) n e p = absurd (let z : ◌≡◌ {A = ℕ} 0 1 = cc in omega arith)
judged_err (Err f) n e p = cc

pub judged_ok : (x : Result (Unit {0}) Refusal) (n m : ℕ) → sized m ≡ then x (λ _. Ok n) → (x ≡ Ok tt) × (m ≡ n)
judged_ok (Ok u) n m p = (refl, cc)
judged_ok (Err f) n m p = absurd (let z : ◌≡◌ {A = ℕ} 0 1 = cc in omega arith)
