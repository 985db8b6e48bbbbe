-- Fields of a word.
use Rattle.std.proofs.Common.{◌≡◌, ℕ, ◌+◌, ◌-◌, ◌*◌, ◌/◌, ◌%◌, ◌^◌, ◌<◌, ◌≤◌, true, leb, sym, ap, ◌∙◌, mul_assoc, add-mul, arith}
use native.Mathlib.Nat.{mod-mod}
use Rattle.std.proofs.lemmas.Nat.{pow_pos, pow-add, mod_below, shr_high, mod_low, shr-shr}
use Rattle.std.proofs.lemmas.Bool.{and_parts, leb-true}
use Rattle.arith.specs.Bits.{bit}
use Rattle.arith.specs.Fields.{is_field, field, with_field}
use Rattle.arith.proofs.Bitwise.{bit_above, bit_under}

field_count : (a b : ℕ) → is_field a b ≡ true → a + b ≤ 16
field_count a b h = leb-true (a + b) 16 (and_parts (leb b 15) (leb (a + b) 16) (and_parts (leb 1 b) _ h).1).1

-- a deposit is what lies above, then v's bits, then what lies below
abbrev pieces : ℕ → ℕ → ℕ → ℕ → ℕ
pieces b k hi v = hi * 2 ^ b + v % 2 ^ b

in_pieces : (a b x v : ℕ) → a + b ≤ 16 → with_field a b x v ≡ pieces b (16 - a - b) (x / 2 ^ (16 - a)) v * 2 ^ (16 - a - b) + x % 2 ^ (16 - a - b)
unfolding with_field
in_pieces a b x v e =
    let k = 16 - a - b in
    let s = 16 - a in
    let hi = x / 2 ^ s in
    let f : s ≡ b + k = omega arith in
    let g : 2 ^ s ≡ 2 ^ b * 2 ^ k = ap (λ (n : ℕ). 2 ^ n) f ∙ pow-add 2 b k in
    let u : (hi * 2 ^ b + v % 2 ^ b) * 2 ^ k ≡ hi * 2 ^ s + v % 2 ^ b * 2 ^ k =
    add-mul (hi * 2 ^ b) (v % 2 ^ b) (2 ^ k) ∙ ap (λ (n : ℕ). n + v % 2 ^ b * 2 ^ k) (mul_assoc hi (2 ^ b) (2 ^ k) ∙ ap (λ (n : ℕ). hi * n) (sym g)) in
    ap (λ (n : ℕ). n + x % 2 ^ k) (sym u)

-- the parts of a deposit
from_field : (a b x v : ℕ) → a + b ≤ 16 → with_field a b x v / 2 ^ (16 - a - b) ≡ pieces b (16 - a - b) (x / 2 ^ (16 - a)) v
from_field a b x v e =
    let k = 16 - a - b in
    ap (λ (n : ℕ). n / 2 ^ k) (in_pieces a b x v e) ∙ shr_high (pieces b k (x / 2 ^ (16 - a)) v) k (x % 2 ^ k) (mod_below x (2 ^ k) (pow_pos k))

under_field : (a b x v : ℕ) → a + b ≤ 16 → with_field a b x v % 2 ^ (16 - a - b) ≡ x % 2 ^ (16 - a - b)
under_field a b x v e =
    let k = 16 - a - b in
    ap (λ (n : ℕ). n % 2 ^ k) (in_pieces a b x v e) ∙ mod_low (pieces b k (x / 2 ^ (16 - a)) v) k (x % 2 ^ k) (mod_below x (2 ^ k) (pow_pos k))

above_field : (a b x v : ℕ) → a + b ≤ 16 → with_field a b x v / 2 ^ (16 - a) ≡ x / 2 ^ (16 - a)
above_field a b x v e =
    let k = 16 - a - b in
    let f : 16 - a ≡ k + b = omega arith in
    ap (λ (n : ℕ). with_field a b x v / 2 ^ n) f
    ∙ sym (shr-shr (with_field a b x v) k b)
    ∙ ap (λ (n : ℕ). n / 2 ^ b) (from_field a b x v e)
    ∙ shr_high (x / 2 ^ (16 - a)) b (v % 2 ^ b) (mod_below v (2 ^ b) (pow_pos b))

pub deposit_back : (a b x v : ℕ) → is_field a b ≡ true → field a b (with_field a b x v) ≡ v % 2 ^ b
unfolding field
deposit_back a b x v h =
    ap (λ (n : ℕ). n % 2 ^ b) (from_field a b x v (field_count a b h)) ∙ mod_low (x / 2 ^ (16 - a)) b (v % 2 ^ b) (mod_below v (2 ^ b) (pow_pos b))

pub bits_above : (a b x v k : ℕ) → is_field a b ≡ true → k < a → bit k (with_field a b x v) ≡ bit k x
bits_above a b x v k h l = let m = field_count a b h in bit_above k (16 - a) (with_field a b x v) x (omega arith) (above_field a b x v m)

pub bits_under : (a b x v k : ℕ) → is_field a b ≡ true → a + b ≤ k → k < 16 → bit k (with_field a b x v) ≡ bit k x
bits_under a b x v k h l t = let m = field_count a b h in bit_under k (16 - a - b) (with_field a b x v) x (omega arith) (under_field a b x v m)

-- the bits of a field stand at the end of the word
pub field_bits : (a b x k : ℕ) → is_field a b ≡ true → k < b → bit (16 - b + k) (field a b x) ≡ bit (a + k) x
unfolding field
field_bits a b x k h l =
    let m = field_count a b h in
    let s = 16 - a - b in
    let i = 15 - (16 - b + k) in
    let e : x / 2 ^ s % 2 ^ b % 2 ^ b ≡ x / 2 ^ s % 2 ^ b = mod-mod (x / 2 ^ s) (2 ^ b) in
    let f : s + i ≡ 15 - (a + k) = omega arith in
    bit_under (16 - b + k) b (x / 2 ^ s % 2 ^ b) (x / 2 ^ s) (omega arith) e
    ∙ ap (λ (n : ℕ). n % 2) (shr-shr x s i)
    ∙ ap (λ (n : ℕ). x / 2 ^ n % 2) f

pub field_small : (a b x : ℕ) → field a b x < 2 ^ b
unfolding field
field_small a b x = mod_below (x / 2 ^ (16 - a - b)) (2 ^ b) (pow_pos b)
