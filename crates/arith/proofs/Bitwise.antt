-- The bits of a word.
use Rattle.std.proofs.Common.{◌≡◌, ℕ, zero, suc, ◌+◌, ◌-◌, ◌*◌, ◌/◌, ◌%◌, ◌^◌, ◌<◌, ◌≤◌, sym, refl, ap, ◌∙◌, add-mul, arith}
use lib.Bits.{bit_and, bit_or, bit_xor, xor_add_and}
use lib.Pow.{mod-mod-pow}
use Rattle.std.proofs.lemmas.Nat.{and_shr, or_shr, xor_shr, and_mod, or_mod, xor_mod, and_mask, pow_pos, pow-add, shr_high, shr-shr, field_of}
use Rattle.arith.specs.Bits.{complement, bit}

pub and_bits : (k y x : ℕ) → bit k (bit_and y x) ≡ bit_and (bit k y) (bit k x)
and_bits k y x = ap (λ (n : ℕ). n % 2) (and_shr y x (15 - k)) ∙ and_mod (y / 2 ^ (15 - k)) (x / 2 ^ (15 - k)) 1

pub or_bits : (k y x : ℕ) → bit k (bit_or y x) ≡ bit_or (bit k y) (bit k x)
or_bits k y x = ap (λ (n : ℕ). n % 2) (or_shr y x (15 - k)) ∙ or_mod (y / 2 ^ (15 - k)) (x / 2 ^ (15 - k)) 1

pub xor_bits : (k y x : ℕ) → bit k (bit_xor y x) ≡ bit_xor (bit k y) (bit k x)
xor_bits k y x = ap (λ (n : ℕ). n % 2) (xor_shr y x (15 - k)) ∙ xor_mod (y / 2 ^ (15 - k)) (x / 2 ^ (15 - k)) 1

ones : (j m : ℕ) → m + 1 + j ≡ 16 → 65535 / 2 ^ j % 2 ≡ 1
ones j m e =
    let n = 2 ^ (m + 1) - 1 in
    let p : 2 ^ (m + 1 + j) ≡ 65536 = ap (λ (i : ℕ). 2 ^ i) e in
    let q : 2 ^ (m + 1 + j) ≡ 2 ^ (m + 1) * 2 ^ j = pow-add 2 (m + 1) j in
    let o : 2 ^ (m + 1) ≡ 2 ^ m * 2 = pow-add 2 m 1 in
    let f : 2 ^ (m + 1) ≡ n + 1 = omega (arith, pow_pos (m + 1)) in
    let g : 2 ^ (m + 1) * 2 ^ j ≡ n * 2 ^ j + 1 * 2 ^ j = ap (λ (i : ℕ). i * 2 ^ j) f ∙ add-mul n 1 (2 ^ j) in
    let h : n * 2 ^ j + (2 ^ j - 1) ≡ 65535 = omega (arith, pow_pos j) in
    let t : 65535 / 2 ^ j ≡ n = ap (λ (i : ℕ). i / 2 ^ j) (sym h) ∙ shr_high n j (2 ^ j - 1) (omega (arith, pow_pos j)) in
    omega arith

turned_bit : (m : ℕ) → m < 2 → bit_xor m 1 + m ≡ 1
turned_bit zero h = refl
turned_bit (suc zero) h = refl
turned_bit (suc (suc m)) h = absurd (omega arith)

pub turned_bits : (k x : ℕ) → k < 16 → bit k (complement x) + bit k x ≡ 1
unfolding complement
turned_bits k x h =
    let o : 65535 / 2 ^ (15 - k) % 2 ≡ 1 = ones (15 - k) k (omega arith) in
    let e : bit k (bit_xor x 65535) ≡ bit_xor (bit k x) 1 = xor_bits k x 65535 ∙ ap (bit_xor (bit k x)) o in
    rw e (turned_bit (bit k x) (omega arith))

-- bits that lie in equal parts are equal
pub bit_above : (k s x y : ℕ) → s ≤ 15 - k → x / 2 ^ s ≡ y / 2 ^ s → bit k x ≡ bit k y
bit_above k s x y l e =
    let j = 15 - k - s in
    let f : 15 - k ≡ s + j = omega arith in
    ap (λ (n : ℕ). x / 2 ^ n % 2) f
    ∙ ap (λ (n : ℕ). n % 2) (sym (shr-shr x s j) ∙ ap (λ (n : ℕ). n / 2 ^ j) e ∙ shr-shr y s j)
    ∙ ap (λ (n : ℕ). y / 2 ^ n % 2) (sym f)

pub bit_under : (k s x y : ℕ) → 15 - k < s → x % 2 ^ s ≡ y % 2 ^ s → bit k x ≡ bit k y
bit_under k s x y l e =
    let j = 15 - k in
    let i = s - (1 + j) in
    let f : s ≡ i + (1 + j) = omega arith in
    let g : x % 2 ^ (1 + j) ≡ y % 2 ^ (1 + j) =
    sym (mod-mod-pow x i (1 + j)) ∙ ap (λ (n : ℕ). x % 2 ^ n % 2 ^ (1 + j)) (sym f) ∙ ap (λ (n : ℕ). n % 2 ^ (1 + j)) e ∙ ap (λ (n : ℕ). y % 2 ^ n % 2 ^ (1 + j)) f ∙ mod-mod-pow y i (1 + j) in
    sym (field_of x 1 j) ∙ ap (λ (n : ℕ). n / 2 ^ j) g ∙ field_of y 1 j

-- the lowest sixteen bits are those of the word
pub low_bits : (k n : ℕ) → k < 16 → bit k (n % 65536) ≡ bit k n
low_bits k n h = let e : n % 65536 % 65536 ≡ n % 65536 = omega arith in bit_under k 16 (n % 65536) n (omega arith) e

complement_is : (z : ℕ) → z < 65536 → complement z ≡ 65535 - z
unfolding complement
complement_is z h = omega (arith, xor_add_and z 65535, and_mask z 16)

-- to take a word from 65,535 is to turn its bits
pub rest_bits : (k z : ℕ) → k < 16 → z < 65536 → bit k (65535 - z) + bit k z ≡ 1
rest_bits k z h l = ap (λ (n : ℕ). bit k n + bit k z) (sym (complement_is z l)) ∙ turned_bits k z h
