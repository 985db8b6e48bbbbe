-- How many groups a number takes.
use Rattle.std.proofs.Common.{◌≡◌, ℕ, ◌+◌, ◌*◌, ◌/◌, ◌%◌, ◌^◌, ◌<◌, ◌≤◌, max, [], ◌∷◌, length, sym, ◌∙◌, ⊎_elim, arith, pow_mono}
use Rattle.std.proofs.lemmas.Bool.{cases_lt, lt-ltb, le-ltb}
use Rattle.image.specs.Groups.{count, number_bytes}

-- of m bits
pub counted : (n m : ℕ) → m ≤ 16 → n < 2 ^ m → 2 ^ m ≤ 2 * n + 1 → (max m 1 + 6) / 7 ≡ count n
counted n m top below above =
    ⊎_elim
    (λ l.
    let k : m ≤ 7 = omega arith in
    let p : 2 ^ m ≤ 2 ^ 7 = pow_mono k in
    let h : n < 128 = omega arith in
    let e : (max m 1 + 6) / 7 ≡ 1 = omega arith in
    let f : count n ≡ 1 = rw (lt-ltb n 128 h) in
    e ∙ sym f)
    (λ l.
    let p : 2 ^ 8 ≤ 2 ^ m = pow_mono l in
    let g : 128 ≤ n = omega arith in
    ⊎_elim
    (λ u.
    let k : m ≤ 14 = omega arith in
    let q : 2 ^ m ≤ 2 ^ 14 = pow_mono k in
    let h : n < 16384 = omega arith in
    let e : (max m 1 + 6) / 7 ≡ 2 = omega arith in
    let f : count n ≡ 2 = rw (le-ltb n 128 g, lt-ltb n 16384 h) in
    e ∙ sym f)
    (λ u.
    let q : 2 ^ 15 ≤ 2 ^ m = pow_mono u in
    let h : 16384 ≤ n = omega arith in
    let e : (max m 1 + 6) / 7 ≡ 3 = omega arith in
    let f : count n ≡ 3 = rw (le-ltb n 128 g, le-ltb n 16384 h) in
    e ∙ sym f)
    (cases_lt m 15))
    (cases_lt m 8)

-- what a number is written as, by how many groups it takes
pub data Form (n : ℕ) : Type 0 where
  short : n < 128 → count n ≡ 1 → number_bytes n ≡ (n % 128) ∷ [] → Form n
  middle : 128 ≤ n → n < 16384 → count n ≡ 2 → number_bytes n ≡ (n / 128 % 128 + 128) ∷ (n % 128) ∷ [] → Form n
  long : 16384 ≤ n → count n ≡ 3 → number_bytes n ≡ (n / 16384 + 128) ∷ (n / 128 % 128 + 128) ∷ (n % 128) ∷ [] → Form n

pub form : (n : ℕ) → Form n
unfolding number_bytes
form n =
    ⊎_elim (λ h. short h (rw (lt-ltb n 128 h)) (rw (lt-ltb n 128 h)))
    (λ g.
    ⊎_elim (λ h. middle g h (rw (le-ltb n 128 g, lt-ltb n 16384 h)) (rw (le-ltb n 128 g, lt-ltb n 16384 h)))
    (λ h. long h (rw (le-ltb n 128 g, le-ltb n 16384 h)) (rw (le-ltb n 128 g, le-ltb n 16384 h)))
    (cases_lt n 16384))
    (cases_lt n 128)

pub length_written : (n : ℕ) → count n ≡ length (number_bytes n)
length_written n = by_form (form n)
  where
    by_form : Form n → count n ≡ length (number_bytes n)
    by_form (short h c e) = c ∙ sym (rw e)
    by_form (middle g h c e) = c ∙ sym (rw e)
    by_form (long g c e) = c ∙ sym (rw e)

pub count_small : (n : ℕ) → count n ≤ 3
count_small n = by_form (form n)
  where
    by_form : Form n → count n ≤ 3
    by_form (short h c e) = omega (arith, c)
    by_form (middle g h c e) = omega (arith, c)
    by_form (long g c e) = omega (arith, c)

pub written_one : (n : ℕ) → count n ≡ 1 → number_bytes n ≡ (n % 128) ∷ []
written_one n k = by_form (form n)
  where
    by_form : Form n → number_bytes n ≡ (n % 128) ∷ []
    by_form (short h c e) = e
    by_form (middle g h c e) = absurd (omega (arith, c, k))
    by_form (long g c e) = absurd (omega (arith, c, k))

pub written_two : (n : ℕ) → count n ≡ 2 → number_bytes n ≡ (n / 128 % 128 + 128) ∷ (n % 128) ∷ []
written_two n k = by_form (form n)
  where
    by_form : Form n → number_bytes n ≡ (n / 128 % 128 + 128) ∷ (n % 128) ∷ []
    by_form (short h c e) = absurd (omega (arith, c, k))
    by_form (middle g h c e) = e
    by_form (long g c e) = absurd (omega (arith, c, k))

pub written_three : (n : ℕ) → (count n ≡ 1 → ⊥) → (count n ≡ 2 → ⊥) → number_bytes n ≡ (n / 16384 + 128) ∷ (n / 128 % 128 + 128) ∷ (n % 128) ∷ []
written_three n k l = by_form (form n)
  where
    by_form : Form n → number_bytes n ≡ (n / 16384 + 128) ∷ (n / 128 % 128 + 128) ∷ (n % 128) ∷ []
    by_form (short h c e) = absurd (k c)
    by_form (middle g h c e) = absurd (l c)
    by_form (long g c e) = e
