-- Sixteen bits cut in two.
use Rattle.std.proofs.Common.{◌≡◌, ℕ, ◌+◌, ◌-◌, ◌*◌, ◌/◌, ◌%◌, ◌^◌, ◌<◌, ◌≤◌, sym, ap, ◌∙◌, mul_assoc, mul_comm, add-mul, arith}
use Rattle.std.proofs.lemmas.Nat.{pow-add, pow_pos, shr_split, shr_below, mod_below, mul-add-lt, mod-mul-add}

pub whole : (b k : ℕ) → b + k ≡ 16 → 2 ^ k * 2 ^ b ≡ 65536
whole b k e =
    let f : k + b ≡ 16 = omega arith in
    sym (pow-add 2 k b) ∙ ap (λ (n : ℕ). 2 ^ n) f

-- what stays of x where it goes left by b: its lowest k bits
pub left_part : (x b k : ℕ) → b + k ≡ 16 → x < 65536 → x * 2 ^ b % 65536 ≡ x % 2 ^ k * 2 ^ b
left_part x b k e h =
    let w = whole b k e in
    let q = x / 2 ^ k in
    let r = x % 2 ^ k in
    let rl : r < 2 ^ k = mod_below x (2 ^ k) (pow_pos k) in
    let s : q * 2 ^ k + r ≡ x = shr_split x k in
    let m : x * 2 ^ b ≡ q * 65536 + r * 2 ^ b =
    ap (λ (n : ℕ). n * 2 ^ b) (sym s) ∙ add-mul (q * 2 ^ k) r (2 ^ b) ∙ ap (λ (n : ℕ). n + r * 2 ^ b) (mul_assoc q (2 ^ k) (2 ^ b) ∙ ap (λ (n : ℕ). q * n) w) in
    let l : r * 2 ^ b + 0 < 2 ^ b * 2 ^ k = mul-add-lt r (2 ^ b) 0 (2 ^ k) rl (pow_pos b) in
    let c : 2 ^ b * 2 ^ k ≡ 65536 = mul_comm (2 ^ b) (2 ^ k) ∙ w in
    ap (λ (n : ℕ). n % 65536) m ∙ mod-mul-add q 65536 (r * 2 ^ b) (omega arith)

-- what goes out on the left comes in on the right
pub round_fits : (x b k : ℕ) → b + k ≡ 16 → x < 65536 → x * 2 ^ b % 65536 + x / 2 ^ k < 65536
round_fits x b k e h =
    let w = whole b k e in
    let p : 2 ^ (b + k) ≡ 65536 = ap (λ (n : ℕ). 2 ^ n) e in
    let ql : x / 2 ^ k < 2 ^ b = shr_below x b k (omega arith) in
    let rl : x % 2 ^ k < 2 ^ k = mod_below x (2 ^ k) (pow_pos k) in
    let l : x % 2 ^ k * 2 ^ b + x / 2 ^ k < 2 ^ b * 2 ^ k = mul-add-lt (x % 2 ^ k) (2 ^ b) (x / 2 ^ k) (2 ^ k) rl ql in
    let c : 2 ^ b * 2 ^ k ≡ 65536 = mul_comm (2 ^ b) (2 ^ k) ∙ w in
    omega (arith, left_part x b k e h)

pub deposit_fits : (x v a b : ℕ) → a + b ≤ 16 → x < 65536 → x / 2 ^ (16 - a) * 2 ^ (16 - a) + v % 2 ^ b * 2 ^ (16 - a - b) + x % 2 ^ (16 - a - b) < 65536
deposit_fits x v a b e h =
    let k = 16 - a - b in
    let s = 16 - a in
    let f : s ≡ b + k = omega arith in
    let hi = x / 2 ^ s in
    let w = v % 2 ^ b in
    let lo = x % 2 ^ k in
    let p : 2 ^ (a + s) ≡ 65536 = let q : a + s ≡ 16 = omega arith in ap (λ (n : ℕ). 2 ^ n) q in
    let hl : hi < 2 ^ a = shr_below x a s (omega arith) in
    let wl : w < 2 ^ b = mod_below v (2 ^ b) (pow_pos b) in
    let ll : lo < 2 ^ k = mod_below x (2 ^ k) (pow_pos k) in
    let m = mul-add-lt hi (2 ^ b) w (2 ^ a) hl wl in
    let n : (hi * 2 ^ b + w) * 2 ^ k + lo < 2 ^ k * (2 ^ b * 2 ^ a) = mul-add-lt (hi * 2 ^ b + w) (2 ^ k) lo (2 ^ b * 2 ^ a) m ll in
    let g : 2 ^ s ≡ 2 ^ b * 2 ^ k = ap (λ (n : ℕ). 2 ^ n) f ∙ pow-add 2 b k in
    let u : (hi * 2 ^ b + w) * 2 ^ k ≡ hi * 2 ^ s + w * 2 ^ k = add-mul (hi * 2 ^ b) w (2 ^ k) ∙ ap (λ (n : ℕ). n + w * 2 ^ k) (mul_assoc hi (2 ^ b) (2 ^ k) ∙ ap (λ (n : ℕ). hi * n) (sym g)) in
    let t : 2 ^ k * (2 ^ b * 2 ^ a) ≡ 65536 =
    let q : k + (b + a) ≡ 16 = omega arith in
    ap (λ (n : ℕ). 2 ^ k * n) (sym (pow-add 2 b a)) ∙ sym (pow-add 2 k (b + a)) ∙ ap (λ (n : ℕ). 2 ^ n) q in
    omega arith
