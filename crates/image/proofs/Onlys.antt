-- Whatever is read was written so.
use Rattle.std.proofs.Common.{◌≡◌, ℕ, zero, suc, ◌+◌, ◌-◌, ◌*◌, ◌/◌, ◌%◌, ◌<◌, ◌≤◌, true, false, cond, ltb, List, [], ◌∷◌, ◌++◌, length, Some, None, Ok, Option, sym, refl, ap, ◌∙◌, subst, append_assoc, append-nil, arith}
use Rattle.std.proofs.lemmas.Bool.{ltb-true, ltb-false, eqb-false, cond_both}
use Rattle.base.specs.Refusals.{refuse}
use Rattle.base.specs.Ops.{operands_of}
use Rattle.base.specs.declared.instr.Instr.{Instr}
use Rattle.image.specs.Codes.{named_bytes, entry_bytes, body_bytes, unnamed_zero, good_entry}
use Rattle.image.specs.Groups.{number_bytes, more, number, zeros_first}
use Rattle.image.specs.Reading.{operands_at, entry_at, entries_at}
use Rattle.image.specs.Theorems.{Bytes, Entries}
use Rattle.image.proofs.Inverse.{clash, same, then_ok}
use Rattle.image.proofs.Numbers.{got}
use Rattle.image.proofs.Sizes.{Form, short, middle, long, form}
use Rattle.image.proofs.Walks.{one}

-- each byte is below 256, from first to last
abbrev pub AllBytes : List ℕ → Type 0
AllBytes [] = Unit {0}
AllBytes (b ∷ bs) = (b < 256) × AllBytes bs

pub all_bytes : (bs : List ℕ) → Bytes bs → AllBytes bs
all_bytes [] h = tt
all_bytes (b ∷ bs) h = (h 0, all_bytes bs (λ i. h (suc i)))

-- what is written as one, two or three groups
only_1 : (n a : ℕ) (rest : List ℕ) → a < 128 → n ≡ a → a ∷ rest ≡ number_bytes n ++ rest
only_1 n a rest h v = by_form (form n)
  where
    by_form : Form n → a ∷ rest ≡ number_bytes n ++ rest
    by_form (short g c e) = let d : n % 128 ≡ a = omega arith in rw (e, d)
    by_form (middle g i c e) = absurd (omega arith)
    by_form (long g c e) = absurd (omega arith)

only_2 : (n a b : ℕ) (rest : List ℕ) → 128 < a → a < 256 → b < 128 → n ≡ a % 128 * 128 + b → a ∷ b ∷ rest ≡ number_bytes n ++ rest
only_2 n a b rest h k l v = by_form (form n)
  where
    by_form : Form n → a ∷ b ∷ rest ≡ number_bytes n ++ rest
    by_form (short g c e) = absurd (omega arith)
    by_form (middle g i c e) =
        let x : n / 128 % 128 + 128 ≡ a = omega arith in
        let y : n % 128 ≡ b = omega arith in
        rw (e, x, y)
    by_form (long g c e) = absurd (omega arith)

only_3 : (n a b d : ℕ) (rest : List ℕ) → 128 < a → a < 256 → 128 ≤ b → b < 256 → d < 128 → n ≡ a % 128 * 16384 + b % 128 * 128 + d → a ∷ b ∷ d ∷ rest ≡ number_bytes n ++ rest
only_3 n a b d rest h k i j l v = by_form (form n)
  where
    by_form : Form n → a ∷ b ∷ d ∷ rest ≡ number_bytes n ++ rest
    by_form (short g c e) = absurd (omega arith)
    by_form (middle g f c e) = absurd (omega arith)
    by_form (long g c e) =
        let x : n / 16384 + 128 ≡ a = omega arith in
        let y : n / 128 % 128 + 128 ≡ b = omega arith in
        let z : n % 128 ≡ d = omega arith in
        rw (e, x, y, z)

-- a number that was read: how its first byte was taken, with the value v before it
data Step (end at v b : ℕ) (bs : List ℕ) (n : ℕ) (rest : List ℕ) : Type 0 where
  last : b < 128 → v * 128 + b % 128 ≤ 65535 → n ≡ v * 128 + b % 128 → bs ≡ rest → Step end at v b bs n rest
  on : 128 ≤ b → v * 128 + b % 128 ≤ 65535 → more end at (v * 128 + b % 128) bs ≡ got n rest → Step end at v b bs n rest

got_parts : (m n : ℕ) (bs rest : List ℕ) → got m bs ≡ got n rest → (n ≡ m) × (bs ≡ rest)
got_parts m n bs rest p = let q = same (m, bs) (n, rest) p in (sym (ap (λ (x : ℕ × List ℕ). x.0) q), ap (λ (x : ℕ × List ℕ). x.1) q)

step : (end at v b : ℕ) (bs : List ℕ) (n : ℕ) (rest : List ℕ) → more end at v (b ∷ bs) ≡ got n rest → Step end at v b bs n rest
unfolding more
step end at v b bs n rest =
    let w = v * 128 + b % 128 in
    cond_both (ltb 65535 w) (refuse 22 at) (cond (ltb b 128) (got w bs) (more end at w bs)) (λ r. r ≡ got n rest → Step end at v b bs n rest)
    (λ t p. absurd (clash _ (n, rest) p))
    (λ t.
    cond_both (ltb b 128) (got w bs) (more end at w bs) (λ r. r ≡ got n rest → Step end at v b bs n rest)
    (λ u p. let q = got_parts w n bs rest p in last (ltb-true b 128 u) (ltb-false 65535 w t) q.0 q.1)
    (λ u p. on (ltb-false b 128 u) (ltb-false 65535 w t) p))

cut : (end at v n : ℕ) (rest : List ℕ) → more end at v [] ≡ got n rest → ⊥
unfolding more
cut end at v n rest p = clash _ (n, rest) p

-- no byte goes on from 512
full : (end at v : ℕ) (bs : List ℕ) (n : ℕ) (rest : List ℕ) → 512 ≤ v → more end at v bs ≡ got n rest → ⊥
full end at v [] n rest h p = cut end at v n rest p
full end at v (b ∷ bs) n rest h p = by_step (step end at v b bs n rest p)
  where
    by_step : Step end at v b bs n rest → ⊥
    by_step (last l m e f) = omega arith
    by_step (on l m e) = omega arith

-- bytes that begin with a number, and the bytes after it
pub record Only (n : ℕ) (bs rest : List ℕ) : Type 0 where
  pub is : bs ≡ number_bytes n ++ rest
  pub small : n < 65536
  pub left : AllBytes rest

-- after the first two bytes
after_two : (end at a b : ℕ) (bs : List ℕ) (n : ℕ) (rest : List ℕ) → 128 < a → a < 256 → 128 ≤ b → b < 256 → AllBytes bs →
    more end at ((0 * 128 + a % 128) * 128 + b % 128) bs ≡ got n rest → Only n (a ∷ b ∷ bs) rest
after_two end at a b [] n rest h k i j all p = absurd (cut end at _ n rest p)
after_two end at a b (d ∷ ds) n rest h k i j all p = by_step (step end at _ d ds n rest p)
  where
    by_step : Step end at ((0 * 128 + a % 128) * 128 + b % 128) d ds n rest → Only n (a ∷ b ∷ d ∷ ds) rest
    by_step (last l m e f) =
        let v : n ≡ a % 128 * 16384 + b % 128 * 128 + d = omega arith in
        record { is = only_3 n a b d ds h k i j l v ∙ ap (λ r. number_bytes n ++ r) f; small = omega arith; left = subst AllBytes f all.1 }
    by_step (on l m e) = absurd (full end at _ ds n rest (omega arith) e)

-- after the first byte
after_one : (end at a : ℕ) (bs : List ℕ) (n : ℕ) (rest : List ℕ) → 128 < a → a < 256 → AllBytes bs →
    more end at (0 * 128 + a % 128) bs ≡ got n rest → Only n (a ∷ bs) rest
after_one end at a [] n rest h k all p = absurd (cut end at _ n rest p)
after_one end at a (b ∷ bs) n rest h k all p = by_step (step end at _ b bs n rest p)
  where
    by_step : Step end at (0 * 128 + a % 128) b bs n rest → Only n (a ∷ b ∷ bs) rest
    by_step (last l m e f) =
        let v : n ≡ a % 128 * 128 + b = omega arith in
        record { is = only_2 n a b bs h k l v ∙ ap (λ r. number_bytes n ++ r) f; small = omega arith; left = subst AllBytes f all.1 }
    by_step (on l m e) = after_two end at a b bs n rest h k l all.0 all.1 e

from_first : (end at : ℕ) (bs : List ℕ) (n : ℕ) (rest : List ℕ) → AllBytes bs → zeros_first bs ≡ false → more end at 0 bs ≡ got n rest → Only n bs rest
from_first end at [] n rest all z p = absurd (cut end at 0 n rest p)
from_first end at (a ∷ bs) n rest all z p = by_step (step end at 0 a bs n rest p)
  where
    by_step : Step end at 0 a bs n rest → Only n (a ∷ bs) rest
    by_step (last l m e f) =
        let v : n ≡ a = omega arith in
        record { is = only_1 n a bs l v ∙ ap (λ r. number_bytes n ++ r) f; small = omega arith; left = subst AllBytes f all.1 }
    by_step (on l m e) = after_one end at a bs n rest (omega (arith, eqb-false a 128 z)) all.0 all.1 e

pub number_only : (end : ℕ) (bs : List ℕ) (n : ℕ) (rest : List ℕ) → AllBytes bs → number end bs ≡ got n rest → Only n bs rest
unfolding number
number_only end bs n rest all =
    let at = end - length bs in
    cond_both (zeros_first bs) (refuse 21 at) (more end at 0 bs) (λ r. r ≡ got n rest → Only n bs rest)
    (λ z p. absurd (clash _ (n, rest) p))
    (λ z p. from_first end at bs n rest all z p)

-- the operands of the instruction m, which names o of them
record Operands (m : ℕ) (o : Option ℕ) (bs : List ℕ) (i : Instr) (rest : List ℕ) : Type 0 where
  number_is : i.number ≡ m
  zero_is : unnamed_zero o i.a i.b ≡ true
  a_small : i.a < 65536
  b_small : i.b < 65536
  is : bs ≡ named_bytes o i.a i.b ++ rest
  left : AllBytes rest

operands_only : (end at m : ℕ) (o : Option ℕ) (bs : List ℕ) (i : Instr) (rest : List ℕ) → AllBytes bs → operands_at end at m o bs ≡ one i rest → Operands m o bs i rest
operands_only end at m None bs i rest all p = absurd (clash _ (i, rest) p)
operands_only end at m (Some zero) bs i rest all p =
    subst (λ (w : Instr × List ℕ). Operands m (Some zero) bs w.0 w.1) (same _ (i, rest) p)
    record { number_is = refl; zero_is = refl; a_small = omega arith; b_small = omega arith; is = refl; left = all }
operands_only end at m (Some (suc zero)) bs i rest all p =
    let x = then_ok (number end bs) _ _ p in
    let a = number_only end bs x.0.0 x.0.1 all x.1 in
    subst (λ (w : Instr × List ℕ). Operands m (Some (suc zero)) bs w.0 w.1) (same _ (i, rest) x.2)
    record { number_is = refl; zero_is = refl; a_small = a.small; b_small = omega arith; is = a.is; left = a.left }
operands_only end at m (Some (suc (suc o))) bs i rest all p =
    let x = then_ok (number end bs) _ _ p in
    let y = then_ok (number end x.0.1) _ _ x.2 in
    let a = number_only end bs x.0.0 x.0.1 all x.1 in
    let b = number_only end x.0.1 y.0.0 y.0.1 a.left y.1 in
    subst (λ (w : Instr × List ℕ). Operands m (Some (suc (suc o))) bs w.0 w.1) (same _ (i, rest) y.2)
    record {
      number_is = refl;
      zero_is = refl;
      a_small = a.small;
      b_small = b.small;
      is = a.is ∙ ap (λ r. number_bytes x.0.0 ++ r) b.is ∙ sym (append_assoc (number_bytes x.0.0) (number_bytes y.0.0) y.0.1);
      left = b.left;
    }

-- an instruction that was read, and the bytes after it
record Entry (bs : List ℕ) (i : Instr) (rest : List ℕ) : Type 0 where
  is : bs ≡ entry_bytes i ++ rest
  good : good_entry i ≡ true
  number_small : i.number < 65536
  a_small : i.a < 65536
  b_small : i.b < 65536
  left : AllBytes rest

entry_only : (end : ℕ) (bs : List ℕ) (i : Instr) (rest : List ℕ) → AllBytes bs → entry_at end bs ≡ one i rest → Entry bs i rest
unfolding entry_at entry_bytes good_entry
entry_only end bs i rest all p =
    let x = then_ok (number end bs) _ _ p in
    let m = number_only end bs x.0.0 x.0.1 all x.1 in
    let w = operands_only end _ x.0.0 (operands_of x.0.0) x.0.1 i rest m.left x.2 in
    let e : x.0.0 ≡ i.number = sym w.number_is in
    let s : bs ≡ number_bytes x.0.0 ++ (named_bytes (operands_of x.0.0) i.a i.b ++ rest) = m.is ∙ ap (λ r. number_bytes x.0.0 ++ r) w.is in
    record {
      is = subst (λ j. bs ≡ number_bytes j ++ (named_bytes (operands_of j) i.a i.b ++ rest)) e s
          ∙ sym (append_assoc (number_bytes i.number) (named_bytes (operands_of i.number) i.a i.b) rest);
      good = subst (λ j. unnamed_zero (operands_of j) i.a i.b ≡ true) e w.zero_is;
      number_small = subst (λ j. j < 65536) e m.small;
      a_small = w.a_small;
      b_small = w.b_small;
      left = w.left;
    }

-- the entries that were read after o, to the last byte
pub record Body (o : List Instr) (bs : List ℕ) (is : List Instr) : Type 0 where
  pub read : List Instr
  pub is_all : is ≡ o ++ read
  pub bytes : bs ≡ body_bytes read
  pub good : Entries read

pub entries_only : (end n : ℕ) (o : List Instr) (bs : List ℕ) (is : List Instr) → AllBytes bs → entries_at end n o bs ≡ Ok is → Body o bs is
unfolding entries_at
entries_only end zero o [] is all p = record { read = []; is_all = sym (same o is p) ∙ sym (append-nil o); bytes = refl; good = tt }
entries_only end zero o (b ∷ bs) is all p = absurd (clash _ is p)
entries_only end (suc n) o bs is all p =
    let x = then_ok (entry_at end bs) _ is p in
    let i = x.0.0 in
    let e = entry_only end bs i x.0.1 all x.1 in
    let r = entries_only end n (o ++ i ∷ []) x.0.1 is e.left x.2 in
    record {
      read = i ∷ r.read;
      is_all = r.is_all ∙ append_assoc o (i ∷ []) r.read;
      bytes = e.is ∙ ap (λ l. entry_bytes i ++ l) r.bytes;
      good = (e.good, e.number_small, e.a_small, e.b_small, r.good);
    }
