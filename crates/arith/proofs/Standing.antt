-- The laws of the operations, proved.
use Rattle.std.proofs.Common.{◌≡◌, ℕ, zero, suc, ◌+◌, ◌-◌, ◌*◌, ◌/◌, ◌%◌, ◌<◌, ◌≤◌, Bool, true, false, cond, eqb, ltb, ◌⊎◌, ℤ, pos, negsuc, ◌+ℤ◌, ◌-ℤ◌, ◌*ℤ◌, neg_ℤ, nat_abs, ◌≤ℤ◌, ◌<ℤ◌, Ok, sym, refl, ap, ◌∙◌, inl, inr, zero-mul, arith}
use lib.Signed.{mag_rem, lt_z, le_z, quot_z, rem_z}
use Rattle.std.proofs.lemmas.Int.{ints}
use Rattle.std.proofs.lemmas.Bool.{lt-ltb, le-ltb, ltb-true, ltb-false, ne_eqb, and_parts, and_cases}
use Rattle.std.proofs.lemmas.Bool.Decides.{nat_tests}
use Rattle.std.proofs.lemmas.Nat.{div-add-mod', mod_below}
use Rattle.arith.specs.Stops.{stop}
use Rattle.arith.specs.declared.relation.Relation.{Relation}
use Rattle.arith.specs.declared.relation.Relation.TheVariants.{Equal, Unequal, Less, AtMost, Greater, AtLeast}
use Rattle.arith.specs.declared.shift.Kind.{Kind}
use Rattle.arith.specs.declared.shift.Kind.TheVariants.{Lsl, Lsr, Asr, Csl, Csr}
use Rattle.arith.specs.Integers.{int, integer_word, sum, difference, product, quotient, remainder, negation, within}
use Rattle.arith.specs.Logicals.{lsum, ldifference, lproduct, lquotient, lremainder}
use Rattle.arith.specs.Relations.{relation_number, relation_of}
use Rattle.arith.specs.Fields.{field}
use Rattle.arith.specs.Shifts.{kind_number, kind_of}
use Rattle.arith.specs.Laws.{Arithmetic, Exactly, Divides, InRange, Residue}
use Rattle.arith.proofs.Bitwise.{and_bits, or_bits, xor_bits, turned_bits}
use Rattle.arith.proofs.Compared.{compared_says, lcompared_says}
use Rattle.arith.proofs.Fielded.{deposit_back, bits_above, bits_under, field_bits, field_small}
use Rattle.arith.proofs.Numbered.{stops_back}
use Rattle.arith.proofs.Shifted.{lsl_bits, lsl_fill, lsr_bits, lsr_fill, asr_bits, asr_repeat, csl_bits, csl_round, round_back}

-- INTEGERs

int_below : (w : ℕ) → w < 32768 → int w ≡ pos w
unfolding int
int_below w h = rw (lt-ltb w 32768 h)

int_above : (w : ℕ) → 32768 ≤ w → int w ≡ negsuc (65535 - w)
unfolding int
int_above w h = rw (le-ltb w 32768 h)

int_high : (w : ℕ) → 32768 ≤ w → w < 65536 → int w ≡ pos w -ℤ pos 65536
int_high w h k = int_above w h ∙ omega (arith, ints)

int_range : (w : ℕ) → w < 65536 → InRange (int w)
unfolding int
int_range w h = (grind (arith, nat_tests, ints), grind (arith, nat_tests, ints))

int_apart : (v w : ℕ) → v < 65536 → w < 65536 → int v ≡ int w → v ≡ w
unfolding int
int_apart v w h k e = grind (arith, nat_tests, ints)

exactly_cond : (z : ℤ) (t : Bool) (w : ℕ) → (t ≡ true → Exactly z (Ok w)) → (t ≡ false → Exactly z (stop 1)) → Exactly z (cond t (Ok w) (stop 1))
exactly_cond z true w f g = f refl
exactly_cond z false w f g = g refl

exact : (z : ℤ) → Exactly z (integer_word z)
unfolding integer_word
exact (pos n) =
    exactly_cond (pos n) (ltb n 32768) n
    (λ e. let l = ltb-true n 32768 e in (omega arith, int_below n l))
    (λ e. let l = ltb-false n 32768 e in (refl, λ r. omega (arith, ints, r.1)))
exact (negsuc n) =
    exactly_cond (negsuc n) (ltb n 32768) (65535 - n)
    (λ e. let l = ltb-true n 32768 e in let f : 65535 - (65535 - n) ≡ n = omega arith in (omega arith, int_above (65535 - n) (omega arith) ∙ ap negsuc f))
    (λ e. let l = ltb-false n 32768 e in (refl, λ r. omega (arith, ints, r.0)))

sum_exact : (y x : ℕ) → Exactly (int y +ℤ int x) (sum y x)
unfolding sum
sum_exact y x = exact (int y +ℤ int x)

difference_exact : (y x : ℕ) → Exactly (int y -ℤ int x) (difference y x)
unfolding difference
difference_exact y x = exact (int y -ℤ int x)

product_exact : (y x : ℕ) → Exactly (int y *ℤ int x) (product y x)
unfolding product
product_exact y x = exact (int y *ℤ int x)

negation_exact : (x : ℕ) → Exactly (neg_ℤ (int x)) (negation x)
unfolding negation
negation_exact x = exact (neg_ℤ (int x))

neg_times_negsuc : (m n : ℕ) → neg_ℤ (pos m) *ℤ negsuc n ≡ pos (m * suc n)
neg_times_negsuc zero n = rw (zero-mul (suc n))
neg_times_negsuc (suc m) n = refl

neg_times_pos : (m n : ℕ) → neg_ℤ (pos m) *ℤ pos n ≡ neg_ℤ (pos (m * n))
neg_times_pos zero n = rw (zero-mul n)
neg_times_pos (suc m) n = refl

neg_sum : (t r a : ℕ) → t + r ≡ suc a → negsuc a ≡ neg_ℤ (pos t) +ℤ neg_ℤ (pos r)
neg_sum t r a e = omega (arith, ints)

size_neg : (m : ℕ) → nat_abs (neg_ℤ (pos m)) ≡ m
size_neg zero = refl
size_neg (suc m) = refl

-- a number is its quotient times the divisor, and its remainder
made_of : (y x : ℤ) → y ≡ quot_z y x *ℤ x +ℤ rem_z y x
made_of (pos a) (pos b) = ap pos (sym (div-add-mod' a b))
made_of (pos a) (negsuc b) = rw (neg_times_negsuc (a / suc b) b) (ap pos (sym (div-add-mod' a (suc b))))
made_of (negsuc a) (pos b) = rw (neg_times_pos (suc a / b) b) (neg_sum (suc a / b * b) (suc a % b) a (div-add-mod' (suc a) b))
made_of (negsuc a) (negsuc b) = neg_sum (suc a / suc b * suc b) (suc a % suc b) a (div-add-mod' (suc a) (suc b))

smaller : (y x : ℤ) → 0 < nat_abs x → nat_abs (rem_z y x) < nat_abs x
smaller (pos a) x h = mod_below a (nat_abs x) h
smaller (negsuc a) x h = rw (size_neg (suc a % nat_abs x)) (mod_below (suc a) (nat_abs x) h)

above_zero : (y x : ℤ) → pos 0 ≤ℤ y → pos 0 ≤ℤ rem_z y x
above_zero (pos a) x h = omega (arith, ints)
above_zero (negsuc a) x h = absurd (omega (arith, ints))

below_zero : (y x : ℤ) → y ≤ℤ pos 0 → rem_z y x ≤ℤ pos 0
below_zero (pos a) x h = let l : a % nat_abs x ≤ a = mag_rem (pos a) x in omega (arith, ints)
below_zero (negsuc a) x h = omega (arith, ints)

not_zero : (x : ℕ) → x < 65536 → (x ≡ 0 → ⊥) → 0 < nat_abs (int x)
unfolding int
not_zero x h k = grind (arith, nat_tests)

divided_exact : (y x : ℕ) → x < 65536 → (x ≡ 0 → ⊥) → (q : ℤ) × (r : ℤ) × Divides (int y) (int x) q r × Exactly q (quotient y x) × Exactly r (remainder y x)
unfolding quotient remainder
divided_exact y x h k =
    let e : eqb x 0 ≡ false = ne_eqb x 0 k in (
      quot_z (int y) (int x),
      rem_z (int y) (int x),
      (made_of (int y) (int x), smaller (int y) (int x) (not_zero x h k), above_zero (int y) (int x), below_zero (int y) (int x)),
      rw e (exact (quot_z (int y) (int x))),
      rw e (exact (rem_z (int y) (int x))),
    )

by_zero : (y : ℕ) → (quotient y 0 ≡ stop 2) × (remainder y 0 ≡ stop 2)
unfolding quotient remainder
by_zero y = (refl, refl)

-- LOGICALs

residue : (n : ℕ) → Residue n (n % 65536)
residue n = (omega arith, (n / 65536, sym (div-add-mod' n 65536)))

lsum_residue : (y x : ℕ) → Residue (y + x) (lsum y x)
unfolding lsum
lsum_residue y x = residue (y + x)

lproduct_residue : (y x : ℕ) → Residue (y * x) (lproduct y x)
unfolding lproduct
lproduct_residue y x = residue (y * x)

ldifference_back : (y x : ℕ) → y < 65536 → x < 65536 → (ldifference y x < 65536) × (lsum (ldifference y x) x ≡ y)
unfolding ldifference lsum
ldifference_back y x h k = (omega arith, omega arith)

ldivided : (y x : ℕ) → (x ≡ 0 → ⊥) → (q : ℕ) × (r : ℕ) × (lquotient y x ≡ Ok q) × (lremainder y x ≡ Ok r) × (y ≡ q * x + r) × (r < x)
unfolding lquotient lremainder
ldivided y x k =
    let e : eqb x 0 ≡ false = ne_eqb x 0 k in
    (y / x, y % x, rw e, rw e, sym (div-add-mod' y x), mod_below y x (omega arith))

lby_zero : (y : ℕ) → (lquotient y 0 ≡ stop 2) × (lremainder y 0 ≡ stop 2)
unfolding lquotient lremainder
lby_zero y = (refl, refl)

-- the test of an index

index_tested : (i n : ℕ) → within i n ≡ true → (pos 0 ≤ℤ int i) × (int i <ℤ pos n)
unfolding within
index_tested i n h =
    let p = and_parts (le_z (pos 0) (int i)) (lt_z (int i) (pos n)) h in
    (grind (arith, ints), grind (arith, ints))

index_refused : (i n : ℕ) → within i n ≡ false → (int i <ℤ pos 0) ⊎ (pos n ≤ℤ int i)
unfolding within
index_refused i n h =
    elim (and_cases (le_z (pos 0) (int i)) (lt_z (int i) (pos n)) h) [
      | inl p ↦ inl (grind (arith, ints))
      | inr p ↦ inr (grind (arith, ints))
    ]

-- numbers

relations_back : (r : Relation) → relation_of (relation_number r) ≡ r
relations_back Equal = refl
relations_back Unequal = refl
relations_back Less = refl
relations_back AtMost = refl
relations_back Greater = refl
relations_back AtLeast = refl

kinds_back : (k : Kind) → kind_of (kind_number k) ≡ k
kinds_back Lsl = refl
kinds_back Lsr = refl
kinds_back Asr = refl
kinds_back Csl = refl
kinds_back Csr = refl

pub stands : Arithmetic
unfolding field
stands =
    record {
      low = int_below;
      high = int_high;
      range = int_range;
      apart = int_apart;
      adds = sum_exact;
      subtracts = difference_exact;
      multiplies = product_exact;
      negates = negation_exact;
      divides = divided_exact;
      by_zero = by_zero;
      ladds = lsum_residue;
      lsubtracts = ldifference_back;
      lmultiplies = lproduct_residue;
      ldivides = ldivided;
      lby_zero = lby_zero;
      tested = index_tested;
      refused = index_refused;
      compares = λ r y x h k. compared_says r y x (int_apart y x h k);
      lcompares = lcompared_says;
      stops = stops_back;
      stop_numbers = (refl, refl, refl, refl);
      relations = relations_back;
      kinds = kinds_back;
      ands = and_bits;
      ors = or_bits;
      xors = xor_bits;
      turned = turned_bits;
      extracts = field_bits;
      small = field_small;
      deposits = deposit_back;
      above = bits_above;
      under = bits_under;
      lefts = lsl_bits;
      left_fill = lsl_fill;
      rights = lsr_bits;
      right_fill = lsr_fill;
      signed = asr_bits;
      repeats = asr_repeat;
      around = csl_bits;
      over = csl_round;
      back = round_back;
      example = refl;
    }
