-- What the operations on words give, in terms of numbers and of bits.
use Rattle.std.specs.Prelude.{◌≡◌, ℕ, ◌+◌, ◌-◌, ◌*◌, ◌%◌, ◌^◌, ◌<◌, ◌≤◌, true, false, ◌⊎◌, ℤ, pos, negsuc, ◌+ℤ◌, ◌-ℤ◌, ◌*ℤ◌, neg_ℤ, ◌≤ℤ◌, ◌<ℤ◌, Ok, Err, Result, ◌≢◌, bit_and, bit_or, bit_xor, unsigned_abs}
use Rattle.arith.specs.declared.stop.Stop.{Stop}
use Rattle.arith.specs.Stops.{number_of, stop, stop_of}
use Rattle.arith.specs.declared.relation.Relation.{Relation}
use Rattle.arith.specs.declared.relation.Relation.TheVariants.{Equal, Unequal, Less, AtMost, Greater, AtLeast}
use Rattle.arith.specs.declared.shift.Kind.{Kind}
use Rattle.arith.specs.declared.shift.Kind.TheVariants.{Lsl, Lsr, Asr, Csl, Csr}
use Rattle.arith.specs.Integers.{int, sum, difference, product, quotient, remainder, negation, within}
use Rattle.arith.specs.Logicals.{lsum, ldifference, lproduct, lquotient, lremainder}
use Rattle.arith.specs.Relations.{relation_number, relation_of, comparison, lcomparison}
use Rattle.arith.specs.Bits.{complement, bit}
use Rattle.arith.specs.Fields.{is_field, field, with_field}
use Rattle.arith.specs.Shifts.{kind_number, kind_of, shift_of}

-- The number is from -32,768 to 32,767.
abbrev pub InRange : ℤ → Type 0
InRange z = (negsuc 32767 ≤ℤ z) × (z ≤ℤ pos 32767)

-- The answer is exactly z: a word that reads as z; or it is stop 1, and z is out of range.
abbrev pub Exactly : ℤ → Result ℕ Stop → Type 0
Exactly z (Ok w) = (w < 65536) × (int w ≡ z)
Exactly z (Err e) = (e ≡ stop_of 1) × (InRange z → ⊥)

-- q is y / x truncated toward zero, and r is the remainder: its absolute value is smaller than that of x, and it has
-- the sign of y or is 0.
abbrev pub Divides : ℤ → ℤ → ℤ → ℤ → Type 0
Divides y x q r =
    (y ≡ q *ℤ x +ℤ r) × (unsigned_abs r < unsigned_abs x) × (pos 0 ≤ℤ y → pos 0 ≤ℤ r) × (y ≤ℤ pos 0 → r ≤ℤ pos 0)

-- r is n modulo 65,536.
abbrev pub Residue : ℕ → ℕ → Type 0
Residue n r = (r < 65536) × ((k : ℕ) × (n ≡ k * 65536 + r))

-- The relation holds of the numbers y and x.
abbrev pub IsRelated : Relation → ℤ → ℤ → Type 0
IsRelated Equal y x = y ≡ x
IsRelated Unequal y x = y ≡ x → ⊥
IsRelated Less y x = y <ℤ x
IsRelated AtMost y x = y ≤ℤ x
IsRelated Greater y x = x <ℤ y
IsRelated AtLeast y x = x ≤ℤ y

-- w is TRUE and P holds, or w is FALSE and P does not hold.
abbrev pub Says : ℕ → Type 0 → Type 0
Says w P = ((w ≡ 65535) × P) ⊎ ((w ≡ 0) × (P → ⊥))

-- What each operation gives.
pub record Arithmetic : Type 0 where
  -- an INTEGER is a word in two's complement, and different words are different INTEGERs
  pub low : (w : ℕ) → w < 32768 → int w ≡ pos w
  pub high : (w : ℕ) → 32768 ≤ w → w < 65536 → int w ≡ pos w -ℤ pos 65536
  pub range : (w : ℕ) → w < 65536 → InRange (int w)
  pub apart : (v w : ℕ) → v < 65536 → w < 65536 → int v ≡ int w → v ≡ w
  pub adds : (y x : ℕ) → Exactly (int y +ℤ int x) (sum y x)
  pub subtracts : (y x : ℕ) → Exactly (int y -ℤ int x) (difference y x)
  pub multiplies : (y x : ℕ) → Exactly (int y *ℤ int x) (product y x)
  pub negates : (x : ℕ) → Exactly (neg_ℤ (int x)) (negation x)
  pub divides : (y x : ℕ) → x < 65536 → (x ≢ 0) → (q : ℤ) × (r : ℤ) × Divides (int y) (int x) q r × Exactly q (quotient y x) × Exactly r (remainder y x)
  pub by_zero : (y : ℕ) → (quotient y 0 ≡ stop 2) × (remainder y 0 ≡ stop 2)
  -- sums, differences and products of LOGICALs are modulo 65,536
  pub ladds : (y x : ℕ) → Residue (y + x) (lsum y x)
  pub lsubtracts : (y x : ℕ) → y < 65536 → x < 65536 → (ldifference y x < 65536) × (lsum (ldifference y x) x ≡ y)
  pub lmultiplies : (y x : ℕ) → Residue (y * x) (lproduct y x)
  pub ldivides : (y x : ℕ) → (x ≢ 0) → (q : ℕ) × (r : ℕ) × (lquotient y x ≡ Ok q) × (lremainder y x ≡ Ok r) × (y ≡ q * x + r) × (r < x)
  pub lby_zero : (y : ℕ) → (lquotient y 0 ≡ stop 2) × (lremainder y 0 ≡ stop 2)
  -- an index is tested as an INTEGER
  pub tested : (i n : ℕ) → within i n ≡ true → (pos 0 ≤ℤ int i) × (int i <ℤ pos n)
  pub refused : (i n : ℕ) → within i n ≡ false → (int i <ℤ pos 0) ⊎ (pos n ≤ℤ int i)
  -- words are compared as INTEGERs, or as the LOGICALs that they are
  pub compares : (r : Relation) (y x : ℕ) → y < 65536 → x < 65536 → Says (comparison r y x) (IsRelated r (int y) (int x))
  pub lcompares : (r : Relation) (y x : ℕ) → Says (lcomparison r y x) (IsRelated r (pos y) (pos x))
  -- each stop, relation and shift is the one of its number
  pub stops : (s : Stop) → stop_of (number_of s) ≡ s
  pub stop_numbers :
      (number_of (stop_of 1) ≡ 1) × (number_of (stop_of 2) ≡ 2) × (number_of (stop_of 3) ≡ 3) × (number_of (stop_of 4) ≡ 4)
  pub relations : (r : Relation) → relation_of (relation_number r) ≡ r
  pub kinds : (k : Kind) → kind_of (kind_number k) ≡ k
  -- and, or, xor and not work bit by bit
  pub ands : (k y x : ℕ) → bit k (bit_and y x) ≡ bit_and (bit k y) (bit k x)
  pub ors : (k y x : ℕ) → bit k (bit_or y x) ≡ bit_or (bit k y) (bit k x)
  pub xors : (k y x : ℕ) → bit k (bit_xor y x) ≡ bit_xor (bit k y) (bit k x)
  pub turned : (k x : ℕ) → k < 16 → bit k (complement x) + bit k x ≡ 1
  -- the bits of a field stand at the end of the word, and all bits above them are 0
  pub extracts : (a b x k : ℕ) → is_field a b ≡ true → k < b → bit (16 - b + k) (field a b x) ≡ bit (a + k) x
  pub small : (a b x : ℕ) → field a b x < 2 ^ b
  -- a deposit puts v's lowest bits into the field, and leaves the other bits
  pub deposits : (a b x v : ℕ) → is_field a b ≡ true → field a b (with_field a b x v) ≡ v % 2 ^ b
  pub above : (a b x v k : ℕ) → is_field a b ≡ true → k < a → bit k (with_field a b x v) ≡ bit k x
  pub under : (a b x v k : ℕ) → is_field a b ≡ true → a + b ≤ k → k < 16 → bit k (with_field a b x v) ≡ bit k x
  -- LSL and LSR move the bits by b, and fill with 0
  pub lefts : (b k x : ℕ) → k + b < 16 → bit k (shift_of Lsl b x) ≡ bit (k + b) x
  pub left_fill : (b k x : ℕ) → k < 16 → 16 ≤ k + b → bit k (shift_of Lsl b x) ≡ 0
  pub rights : (b k x : ℕ) → b ≤ k → k < 16 → bit k (shift_of Lsr b x) ≡ bit (k - b) x
  pub right_fill : (b k x : ℕ) → k < b → k < 16 → x < 65536 → bit k (shift_of Lsr b x) ≡ 0
  -- ASR repeats bit 0
  pub signed : (b k x : ℕ) → b ≤ k → k < 16 → x < 65536 → bit k (shift_of Asr b x) ≡ bit (k - b) x
  pub repeats : (b k x : ℕ) → k < b → k < 16 → x < 65536 → bit k (shift_of Asr b x) ≡ bit 0 x
  -- CSL moves the bits to the left in a circle, and CSR moves them back
  pub around : (b k x : ℕ) → b ≤ 15 → k + b < 16 → x < 65536 → bit k (shift_of Csl b x) ≡ bit (k + b) x
  pub over : (b k x : ℕ) → b ≤ 15 → k < 16 → 16 ≤ k + b → x < 65536 → bit k (shift_of Csl b x) ≡ bit (k + b - 16) x
  pub back : (b x : ℕ) → b ≤ 15 → x < 65536 → shift_of Csr b (shift_of Csl b x) ≡ x
  -- two bits from bit 8 of 65, which is %101
  pub example : field 8 2 65 ≡ 1
