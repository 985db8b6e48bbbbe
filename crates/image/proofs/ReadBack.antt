-- What was written is read back.
use Rattle.std.proofs.Common.{◌≡◌, ℕ, zero, suc, ◌+◌, ◌-◌, ◌*◌, ◌/◌, ◌%◌, ◌<◌, ◌≤◌, true, ◌&&◌, eqb, leb, List, [], ◌∷◌, ◌++◌, length, Some, None, Ok, Option, Result, sym, refl, ap, ◌∙◌, append_assoc, append-nil, arith}
use Rattle.std.proofs.lemmas.Bool.{and_parts, eqb-true, leb-true, le-ltb, ne_eqb, false≢true}
use Rattle.base.specs.Ops.{operands_of}
use Rattle.base.specs.declared.instr.Instr.{Instr}
use Rattle.base.specs.declared.refusal.Refusal.{Refusal}
use Rattle.base.specs.declared.code.Figures.{Figures}
use Rattle.image.specs.Codes.{Code, named_bytes, entry_bytes, body_bytes, image, unnamed_zero, good_entry, good_header}
use Rattle.image.specs.Groups.{number_bytes, number}
use Rattle.image.specs.Reading.{Read, operands_at, entry_at, entries_at, figures_at}
use Rattle.image.specs.Theorems.{Entries, ReadsBack}
use Rattle.image.proofs.Inverse.{decoded_from}
use Rattle.image.proofs.Numbers.{got, starts, more_on, more_last}
use Rattle.image.proofs.Sizes.{Form, short, middle, long, form}
use Rattle.image.proofs.Walks.{one, entries_on}

-- a number of one, two or three groups
number_1 : (end n a : ℕ) (rest : List ℕ) → a < 128 → n ≡ a → number end (a ∷ rest) ≡ got n rest
number_1 end n a rest h e =
    let at = end - length (a ∷ rest) in
    let v : 0 * 128 + a % 128 ≡ n = omega arith in
    let l : 0 * 128 + a % 128 ≤ 65535 = omega arith in
    starts end at (a ∷ rest) refl (ne_eqb a 128 (omega arith)) ∙ more_last end at 0 a rest l h ∙ ap (λ m. got m rest) v

number_2 : (end n a b : ℕ) (rest : List ℕ) → 128 < a → a < 256 → b < 128 → n ≡ (a - 128) * 128 + b → number end (a ∷ b ∷ rest) ≡ got n rest
number_2 end n a b rest h k l e =
    let at = end - length (a ∷ b ∷ rest) in
    let u = 0 * 128 + a % 128 in
    let v : u * 128 + b % 128 ≡ n = omega arith in
    let p : u ≤ 65535 = omega arith in
    let q : u * 128 + b % 128 ≤ 65535 = omega arith in
    let r : 128 ≤ a = omega arith in
    starts end at (a ∷ b ∷ rest) refl (ne_eqb a 128 (omega arith)) ∙ more_on end at 0 a (b ∷ rest) p r
    ∙ more_last end at u b rest q l ∙ ap (λ m. got m rest) v

number_3 : (end n a b c : ℕ) (rest : List ℕ) → 128 < a → a < 132 → 128 ≤ b → b < 256 → c < 128 → n < 65536 → n ≡ (a - 128) * 16384 + (b - 128) * 128 + c → number end (a ∷ b ∷ c ∷ rest) ≡ got n rest
number_3 end n a b c rest h k i j l s e =
    let at = end - length (a ∷ b ∷ c ∷ rest) in
    let u = 0 * 128 + a % 128 in
    let w = u * 128 + b % 128 in
    let v : w * 128 + c % 128 ≡ n = omega arith in
    let p : u ≤ 65535 = omega arith in
    let q : w ≤ 65535 = omega arith in
    let t : w * 128 + c % 128 ≤ 65535 = omega arith in
    let r : 128 ≤ a = omega arith in
    starts end at (a ∷ b ∷ c ∷ rest) refl (ne_eqb a 128 (omega arith)) ∙ more_on end at 0 a (b ∷ c ∷ rest) p r
    ∙ more_on end at u b (c ∷ rest) q i ∙ more_last end at w c rest t l ∙ ap (λ m. got m rest) v

pub number_written : (end n : ℕ) (rest : List ℕ) → n < 65536 → number end (number_bytes n ++ rest) ≡ got n rest
number_written end n rest s = by_form (form n)
  where
    by_form : Form n → number end (number_bytes n ++ rest) ≡ got n rest
    by_form (short h c e) =
        rw e (number_1 end n (n % 128) rest (omega arith) (omega arith))
    by_form (middle g h c e) =
        rw e (number_2 end n (n / 128 % 128 + 128) (n % 128) rest (omega arith) (omega arith) (omega arith) (omega arith))
    by_form (long g c e) =
        rw e (number_3 end n (n / 16384 + 128) (n / 128 % 128 + 128) (n % 128) rest (omega arith) (omega arith) (omega arith) (omega arith) (omega arith) s (omega arith))

-- an instruction's operands; those that it does not name are 0
operands_written : (end at : ℕ) (i : Instr) (o : Option ℕ) (rest : List ℕ) → unnamed_zero o i.a i.b ≡ true → i.a < 65536 → i.b < 65536 →
    operands_at end at i.number o (named_bytes o i.a i.b ++ rest) ≡ one i rest
operands_written end at i None rest z p q = absurd (false≢true z)
operands_written end at i (Some zero) rest z p q =
    let t = and_parts (eqb i.a 0) (eqb i.b 0) z in
    ap (λ x. one (record { number = i.number; a = x; b = 0 }) rest) (sym (eqb-true i.a 0 t.0))
    ∙ ap (λ x. one (record { number = i.number; a = i.a; b = x }) rest) (sym (eqb-true i.b 0 t.1))
operands_written end at i (Some (suc zero)) rest z p q =
    rw (number_written end i.a rest p) (ap (λ x. one (record { number = i.number; a = i.a; b = x }) rest) (sym (eqb-true i.b 0 z)))
operands_written end at i (Some (suc (suc m))) rest z p q =
    rw (append_assoc (number_bytes i.a) (number_bytes i.b) rest)
    (rw (number_written end i.a (number_bytes i.b ++ rest) p) (rw (number_written end i.b rest q)))

entry_written : (end : ℕ) (i : Instr) (rest : List ℕ) → good_entry i ≡ true → i.number < 65536 → i.a < 65536 → i.b < 65536 → entry_at end (entry_bytes i ++ rest) ≡ one i rest
unfolding entry_at entry_bytes good_entry
entry_written end i rest g n p q =
    let o = operands_of i.number in
    rw (append_assoc (number_bytes i.number) (named_bytes o i.a i.b) rest)
    (rw (number_written end i.number (named_bytes o i.a i.b ++ rest) n) (operands_written end _ i o rest g p q))

abbrev all : List Instr → Result (List Instr) Refusal
all is = Ok is

-- all the entries, after those read so far
pub entries_written : (end : ℕ) (is o : List Instr) → Entries is → entries_at end (length is) o (body_bytes is) ≡ all (o ++ is)
unfolding entries_at
entries_written end [] o h = ap all (sym (append-nil o))
entries_written end (i ∷ is) o h =
    entries_on end (suc (length is)) (length is) o (entry_bytes i ++ body_bytes is) i (body_bytes is) refl (entry_written end i (body_bytes is) h.0 h.1 h.2 h.3)
    ∙ entries_written end is (o ++ i ∷ []) h.4
    ∙ ap all (append_assoc o (i ∷ []) is)

-- cells, depth and count, and the bytes after them
abbrev three : ℕ → ℕ → ℕ → List ℕ → Read Figures
three c d n bs = Ok (record { cells = c; depth = d; count = n }, bs)

figures_written : (end room c d n : ℕ) (rest : List ℕ) → c ≤ 4096 → d < 65536 → 1 ≤ n → n ≤ 16383 → n ≤ room →
    figures_at end room (number_bytes c ++ (number_bytes d ++ (number_bytes n ++ rest))) ≡ three c d n rest
unfolding figures_at
figures_written end room c d n rest few s some many within =
    let p : c < 65536 = omega arith in
    let q : n < 65536 = omega arith in
    let z : n ≡ 0 → ⊥ = λ e. omega arith in
    rw (number_written end c (number_bytes d ++ (number_bytes n ++ rest)) p, le-ltb 4096 c few)
    (rw (number_written end d (number_bytes n ++ rest) s)
    (rw (number_written end n rest q) (rw (ne_eqb n 0 z, le-ltb 16383 n many, le-ltb room n within))))

-- the bounds of a header
pub header_bounds : (c n : ℕ) → good_header c n ≡ true → (c ≤ 4096) × (1 ≤ n) × (n ≤ 16383)
unfolding good_header
header_bounds c n h =
    let p = and_parts (leb c 4096) (leb 1 n && leb n 16383) h in
    let q = and_parts (leb 1 n) (leb n 16383) p.1 in
    (leb-true c 4096 p.0, leb-true 1 n q.0, leb-true n 16383 q.1)

-- an image, number by number
pub image_parts : (k : Code) → image k ≡ number_bytes k.cells ++ (number_bytes k.depth ++ (number_bytes (length k.entries) ++ body_bytes k.entries))
unfolding image
image_parts k = simp append_assoc

pub reads_back : ReadsBack
reads_back k h room l =
    let n = length k.entries in
    let b = header_bounds k.cells n h.header in
    let end = length (image k) in
    let f : figures_at end room (image k) ≡ three k.cells k.depth n (body_bytes k.entries) =
    ap (figures_at end room) (image_parts k) ∙ figures_written end room k.cells k.depth n (body_bytes k.entries) b.0 h.depth b.1 b.2 l in
    decoded_from room (image k) (record { cells = k.cells; depth = k.depth; count = n }) (body_bytes k.entries) k.entries f (entries_written end k.entries [] h.entries)
