-- Shifts of a word, bit by bit.
use Rattle.std.proofs.Common.{◌≡◌, ℕ, ◌+◌, ◌-◌, ◌*◌, ◌/◌, ◌%◌, ◌^◌, ◌<◌, ◌≤◌, sym, ap, ◌∙◌, ⊎_elim, mod-eq_of_lt, mul_assoc, arith}
use native.Mathlib.Nat.{zero-div, mod-mod}
use Rattle.std.proofs.lemmas.Nat.{pow-add, shl-shr, shr_high, mod_low, shr-shr, shr_below, shr_split, shr_le}
use Rattle.std.proofs.lemmas.Bool.{lt-ltb, le-ltb, cases_lt}
use Rattle.arith.specs.declared.shift.Kind.TheVariants.{Lsl, Lsr, Asr, Csl, Csr}
use Rattle.arith.specs.Bits.{bit}
use Rattle.arith.specs.Shifts.{shift_of}
use Rattle.arith.proofs.Bitwise.{bit_under, low_bits, rest_bits}
use Rattle.arith.proofs.Rounds.{left_part, round_fits}

-- left

left_bits : (b k x : ℕ) → k + b < 16 → bit k (x * 2 ^ b) ≡ bit (k + b) x
left_bits b k x h =
    let i = 15 - (k + b) in
    let f : 15 - k ≡ b + i = omega arith in
    ap (λ (n : ℕ). x * 2 ^ b / 2 ^ n % 2) f ∙ ap (λ (n : ℕ). n % 2) (sym (shr-shr (x * 2 ^ b) b i) ∙ ap (λ (n : ℕ). n / 2 ^ i) (shl-shr x b))

left_fill : (b k x : ℕ) → k < 16 → 16 ≤ k + b → bit k (x * 2 ^ b) ≡ 0
left_fill b k x h l =
    let j = 15 - k in
    let m = b - (1 + j) in
    let f : b ≡ m + 1 + j = omega arith in
    let g : 2 ^ b ≡ 2 ^ m * 2 * 2 ^ j = ap (λ (n : ℕ). 2 ^ n) f ∙ pow-add 2 (m + 1) j ∙ ap (λ (n : ℕ). n * 2 ^ j) (pow-add 2 m 1) in
    let e : x * 2 ^ b ≡ x * 2 ^ m * 2 * 2 ^ j = ap (λ (n : ℕ). x * n) g ∙ sym (mul_assoc x (2 ^ m * 2) (2 ^ j)) ∙ ap (λ (n : ℕ). n * 2 ^ j) (sym (mul_assoc x (2 ^ m) 2)) in
    ap (λ (n : ℕ). n / 2 ^ j % 2) e ∙ ap (λ (n : ℕ). n % 2) (shl-shr (x * 2 ^ m * 2) j) ∙ omega arith

pub lsl_bits : (b k x : ℕ) → k + b < 16 → bit k (shift_of Lsl b x) ≡ bit (k + b) x
unfolding shift_of
lsl_bits b k x h = low_bits k (x * 2 ^ b) (omega arith) ∙ left_bits b k x h

pub lsl_fill : (b k x : ℕ) → k < 16 → 16 ≤ k + b → bit k (shift_of Lsl b x) ≡ 0
unfolding shift_of
lsl_fill b k x h l = low_bits k (x * 2 ^ b) h ∙ left_fill b k x h l

-- right

right_bits : (b k x : ℕ) → b ≤ k → k < 16 → bit k (x / 2 ^ b) ≡ bit (k - b) x
right_bits b k x l h =
    let f : b + (15 - k) ≡ 15 - (k - b) = omega arith in
    ap (λ (n : ℕ). n % 2) (shr-shr x b (15 - k)) ∙ ap (λ (n : ℕ). x / 2 ^ n % 2) f

right_fill : (b k x : ℕ) → k < b → k < 16 → x < 65536 → bit k (x / 2 ^ b) ≡ 0
right_fill b k x l h t =
    let i = b + (15 - k) - 16 in
    let f : b + (15 - k) ≡ 16 + i = omega arith in
    let z : x / 65536 ≡ 0 = omega arith in
    ap (λ (n : ℕ). n % 2) (shr-shr x b (15 - k) ∙ ap (λ (n : ℕ). x / 2 ^ n) f ∙ sym (shr-shr x 16 i) ∙ ap (λ (n : ℕ). n / 2 ^ i) z ∙ zero-div (2 ^ i))

pub lsr_bits : (b k x : ℕ) → b ≤ k → k < 16 → bit k (shift_of Lsr b x) ≡ bit (k - b) x
unfolding shift_of
lsr_bits b k x l h = right_bits b k x l h

pub lsr_fill : (b k x : ℕ) → k < b → k < 16 → x < 65536 → bit k (shift_of Lsr b x) ≡ 0
unfolding shift_of
lsr_fill b k x l h t = right_fill b k x l h t

-- right, with bit 0 repeated

asr_low : (b x : ℕ) → x < 32768 → shift_of Asr b x ≡ x / 2 ^ b
unfolding shift_of
asr_low b x h = rw (lt-ltb x 32768 h)

asr_high : (b x : ℕ) → 32768 ≤ x → shift_of Asr b x ≡ 65535 - (65535 - x) / 2 ^ b
unfolding shift_of
asr_high b x h = rw (le-ltb x 32768 h)

right_small : (b y : ℕ) → y < 65536 → y / 2 ^ b < 65536
right_small b y h = omega (arith, shr_le y b)

pub asr_bits : (b k x : ℕ) → b ≤ k → k < 16 → x < 65536 → bit k (shift_of Asr b x) ≡ bit (k - b) x
asr_bits b k x l h t =
    ⊎_elim
    (λ p. ap (bit k) (asr_low b x p) ∙ right_bits b k x l h)
    (λ p.
    let y = 65535 - x in
    let e : 65535 - y ≡ x = omega arith in
    let r = rest_bits k (y / 2 ^ b) h (right_small b y (omega arith)) in
    let q = rest_bits (k - b) y (omega arith) (omega arith) in
    let d : bit (k - b) (65535 - y) ≡ bit (k - b) x = ap (bit (k - b)) e in
    ap (bit k) (asr_high b x p) ∙ omega (arith, r, q, d, right_bits b k y l h))
    (cases_lt x 32768)

pub asr_repeat : (b k x : ℕ) → k < b → k < 16 → x < 65536 → bit k (shift_of Asr b x) ≡ bit 0 x
asr_repeat b k x l h t =
    ⊎_elim
    (λ p. ap (bit k) (asr_low b x p) ∙ right_fill b k x l h t ∙ omega arith)
    (λ p.
    let y = 65535 - x in
    let r = rest_bits k (y / 2 ^ b) h (right_small b y (omega arith)) in
    let z : bit k (y / 2 ^ b) ≡ 0 = right_fill b k y l h (omega arith) in
    let o : bit 0 x ≡ 1 = omega arith in
    ap (bit k) (asr_high b x p) ∙ omega (arith, r, z, o))
    (cases_lt x 32768)

-- round

-- what goes round left by b: the lowest 16 - b bits, then the highest b
csl_parts : (b x : ℕ) → b ≤ 15 → x < 65536 → shift_of Csl b x ≡ x % 2 ^ (16 - b) * 2 ^ b + x / 2 ^ (16 - b)
unfolding shift_of
csl_parts b x h l = let e : b + (16 - b) ≡ 16 = omega arith in ap (λ (n : ℕ). n + x / 2 ^ (16 - b)) (left_part x b (16 - b) e l)

over_small : (b x : ℕ) → b ≤ 15 → x < 65536 → x / 2 ^ (16 - b) < 2 ^ b
over_small b x h l =
    let e : b + (16 - b) ≡ 16 = omega arith in
    let p : 2 ^ (b + (16 - b)) ≡ 65536 = ap (λ (n : ℕ). 2 ^ n) e in
    shr_below x b (16 - b) (omega arith)

pub csl_bits : (b k x : ℕ) → b ≤ 15 → k + b < 16 → x < 65536 → bit k (shift_of Csl b x) ≡ bit (k + b) x
csl_bits b k x h l t =
    let s = 16 - b in
    let i = 15 - (k + b) in
    let f : 15 - k ≡ b + i = omega arith in
    let y = x % 2 ^ s * 2 ^ b + x / 2 ^ s in
    let m : x % 2 ^ s % 2 ^ s ≡ x % 2 ^ s = mod-mod x (2 ^ s) in
    ap (bit k) (csl_parts b x h t)
    ∙ ap (λ (n : ℕ). y / 2 ^ n % 2) f
    ∙ ap (λ (n : ℕ). n % 2) (sym (shr-shr y b i) ∙ ap (λ (n : ℕ). n / 2 ^ i) (shr_high (x % 2 ^ s) b (x / 2 ^ s) (over_small b x h t)))
    ∙ bit_under (k + b) s (x % 2 ^ s) x (omega arith) m

pub csl_round : (b k x : ℕ) → b ≤ 15 → k < 16 → 16 ≤ k + b → x < 65536 → bit k (shift_of Csl b x) ≡ bit (k + b - 16) x
csl_round b k x h g l t =
    let s = 16 - b in
    let y = x % 2 ^ s * 2 ^ b + x / 2 ^ s in
    let q = over_small b x h t in
    let m : y % 2 ^ b ≡ x / 2 ^ s % 2 ^ b = mod_low (x % 2 ^ s) b (x / 2 ^ s) q ∙ sym (mod-eq_of_lt q) in
    let f : s + (15 - k) ≡ 15 - (k + b - 16) = omega arith in
    ap (bit k) (csl_parts b x h t)
    ∙ bit_under k b y (x / 2 ^ s) (omega arith) m
    ∙ ap (λ (n : ℕ). n % 2) (shr-shr x s (15 - k))
    ∙ ap (λ (n : ℕ). x / 2 ^ n % 2) f

pub round_back : (b x : ℕ) → b ≤ 15 → x < 65536 → shift_of Csr b (shift_of Csl b x) ≡ x
unfolding shift_of
round_back b x h l =
    let k = 16 - b in
    let e : b + k ≡ 16 = omega arith in
    let q = x / 2 ^ k in
    let r = x % 2 ^ k in
    let p : 2 ^ (b + k) ≡ 65536 = ap (λ (n : ℕ). 2 ^ n) e in
    let ql : q < 2 ^ b = shr_below x b k (omega arith) in
    let y : x * 2 ^ b % 65536 + q ≡ r * 2 ^ b + q = ap (λ (n : ℕ). n + q) (left_part x b k e l) in
    let fits : r * 2 ^ b + q < 65536 = omega (arith, round_fits x b k e l) in
    let hi : (r * 2 ^ b + q) / 2 ^ b ≡ r = shr_high r b q ql in
    let lo : (r * 2 ^ b + q) * 2 ^ k % 65536 ≡ q * 2 ^ k =
    left_part (r * 2 ^ b + q) k b (omega arith) fits ∙ ap (λ (n : ℕ). n * 2 ^ k) (mod_low r b q ql) in
    ap (λ (n : ℕ). n / 2 ^ b + n * 2 ^ k % 65536) y ∙ ap (λ (n : ℕ). n + (r * 2 ^ b + q) * 2 ^ k % 65536) hi ∙ ap (λ (n : ℕ). r + n) lo ∙ omega (arith, shr_split x k)
