-- INTEGERs in 32 bits.
use Rattle.std.proofs.Common.{◌≡◌, ℕ, suc, ◌-◌, ◌*◌, ◌/◌, ◌<◌, ◌≤◌, true, false, ℤ, pos, negsuc, ◌+ℤ◌, ◌-ℤ◌, ◌*ℤ◌, neg_ℤ, nat_abs, Ok, ap, div-le_self, arith, w32, SFits, to_z, of_z}
use lib.Signed.{mag_rem, lt_z, quot_z, rem_z}
use Rattle.std.proofs.lemmas.Int.{ints, to_z-of_z}
use Rattle.std.proofs.lemmas.Bool.{lt-ltb, le-ltb, ltb-true, ltb-false, true≢false, false≢true}
use Rattle.std.proofs.lemmas.Bool.Decides.{nat_tests}
use Rattle.std.proofs.lemmas.Nat.{mul-le}
use Rattle.arith.specs.Stops.{stop}
use Rattle.arith.specs.Integers.{int, integer_word, Small}

pub int_low : (w : ℕ) → w < 32768 → to_z w32 w ≡ int w
unfolding int
int_low w h = rw (lt-ltb w 32768 h) (omega (arith, ints))

pub int_high : (w : ℕ) → 32768 ≤ w → w < 65536 → to_z w32 (of_z w32 (to_z w32 w -ℤ pos 65536)) ≡ int w
unfolding int
int_high w h k = rw (le-ltb w 32768 h) (omega (arith, ints))

pub small_int : (w : ℕ) → w < 65536 → Small (int w)
unfolding int
small_int w h = grind (arith, nat_tests)

pub sum_fits : (a b : ℤ) → Small a → Small b → SFits w32 (a +ℤ b)
sum_fits a b p q = omega (arith, ints)

pub difference_fits : (a b : ℤ) → Small a → Small b → SFits w32 (a -ℤ b)
difference_fits a b p q = omega (arith, ints)

pub neg_fits : (n : ℕ) → n ≤ 1073741824 → SFits w32 (neg_ℤ (pos n))
neg_fits n h = omega (arith, ints)

pub product_fits : (a b : ℤ) → Small a → Small b → SFits w32 (a *ℤ b)
product_fits (pos m) (pos n) p q = record { sfits = omega (arith, mul-le m n 32768 32768 (omega arith) (omega arith)) }
product_fits (pos m) (negsuc n) p q = neg_fits (m * suc n) (omega (arith, mul-le m (suc n) 32768 32768 (omega arith) (omega arith)))
product_fits (negsuc m) (pos n) p q = neg_fits (suc m * n) (omega (arith, mul-le (suc m) n 32768 32768 (omega arith) (omega arith)))
product_fits (negsuc m) (negsuc n) p q = record { sfits = omega (arith, mul-le (suc m) (suc n) 32768 32768 (omega arith) (omega arith)) }

pub quotient_fits : (a b : ℤ) → Small a → Small b → SFits w32 (quot_z a b)
quotient_fits (pos m) (pos n) p q = record { sfits = omega (arith, div-le_self m n) }
quotient_fits (pos m) (negsuc n) p q = neg_fits (m / suc n) (omega (arith, div-le_self m (suc n)))
quotient_fits (negsuc m) (pos n) p q = neg_fits (suc m / n) (omega (arith, div-le_self (suc m) n))
quotient_fits (negsuc m) (negsuc n) p q = record { sfits = omega (arith, div-le_self (suc m) (suc n)) }

pub remainder_fits : (a b : ℤ) → Small a → SFits w32 (rem_z a b)
remainder_fits a b p = record { sfits = omega (arith, mag_rem a b) }

-- what is computed in 32 bits is the INTEGER
pub over : (f : ℤ → ℤ → ℤ) (a b x y : ℤ) → a ≡ x → b ≡ y → SFits w32 a → SFits w32 b → SFits w32 (f a b) →
    to_z w32 (of_z w32 (f (to_z w32 (of_z w32 a)) (to_z w32 (of_z w32 b)))) ≡ f x y
over f a b x y p q g h k = rw (to_z-of_z w32 a g, to_z-of_z w32 b h, to_z-of_z w32 (f a b) k) (rw (p, q))

pub lt_z_pos : (a b : ℕ) → lt_z (pos a) (pos b) ≡ true → a < b
lt_z_pos a b h = ltb-true a b h

pub fit_high : (v : ℤ) → lt_z (pos 32767) v ≡ true → stop 1 ≡ integer_word v
unfolding integer_word
fit_high (pos n) h = rw (le-ltb n 32768 (omega (arith, ltb-true 32767 n h)))
fit_high (negsuc n) h = absurd (false≢true h)

pub fit_low : (v : ℤ) → lt_z v (negsuc 32767) ≡ true → stop 1 ≡ integer_word v
unfolding integer_word
fit_low (pos n) h = absurd (false≢true h)
fit_low (negsuc n) h = rw (le-ltb n 32768 (omega (arith, ltb-true 32767 n h)))

pub fit_pos : (v : ℤ) → lt_z (pos 32767) v ≡ false → lt_z v (pos 0) ≡ false → Ok (nat_abs v) ≡ integer_word v
unfolding integer_word
fit_pos (pos n) h k = rw (lt-ltb n 32768 (omega (arith, ltb-false 32767 n h)))
fit_pos (negsuc n) h k = absurd (true≢false k)

pub fit_neg : (v : ℤ) → lt_z v (negsuc 32767) ≡ false → lt_z v (pos 0) ≡ true → Ok (nat_abs (to_z w32 (of_z w32 (v +ℤ pos 65536)))) ≡ integer_word v
unfolding integer_word
fit_neg (pos n) h k = absurd (let z = ltb-true n 0 k in omega arith)
fit_neg (negsuc n) h k =
    let l : n < 32768 = omega (arith, ltb-false 32767 n h) in
    let e : to_z w32 (of_z w32 (negsuc n +ℤ pos 65536)) ≡ pos (65535 - n) = omega (arith, ints) in
    rw (lt-ltb n 32768 l) (ap (λ (z : ℤ). Ok (nat_abs z)) e)

pub back : (z : ℤ) → SFits w32 z → to_z w32 (of_z w32 z) ≡ z
back z f = to_z-of_z w32 z f

-- a word that is not 0 is not 0 as an INTEGER, in 32 bits
pub not_zero : (y : ℕ) (z : ℤ) → z ≡ int y → Small z → (y ≡ 0 → ⊥) → y < 65536 → 0 < of_z w32 z
unfolding int
not_zero y (pos n) e s h l = grind (arith, nat_tests)
not_zero y (negsuc n) e s h l = omega (arith, ints)

pub negated_fits : (a : ℤ) → Small a → SFits w32 (pos 0 -ℤ a)
negated_fits a p = omega (arith, ints)

pub zero_minus : (a : ℤ) → pos 0 -ℤ a ≡ neg_ℤ a
zero_minus a = omega (arith, ints)
