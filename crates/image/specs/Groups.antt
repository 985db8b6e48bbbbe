-- Numbers in groups of seven bits, the highest group first, with the top bit set in every byte but the last.
use Rattle.std.specs.Prelude.{ℕ, ◌+◌, ◌-◌, ◌*◌, ◌/◌, ◌%◌, Bool, false, cond, List, [], ◌∷◌, length, Ok, Result, ◌==◌, nat_lt}
use Rattle.base.specs.Refusals.{refuse}
use Rattle.base.specs.declared.refusal.Refusal.{Refusal}

-- How many groups a number of sixteen bits takes.
abbrev pub count : ℕ → ℕ
count n = cond (nat_lt n 128) 1 (cond (nat_lt n 16384) 2 3)

-- The bytes of a number of sixteen bits.
unfoldable pub number_bytes : ℕ → List ℕ
number_bytes n =
    cond (nat_lt n 128) ((n % 128) ∷ [])
    (cond (nat_lt n 16384) ((n / 128 % 128 + 128) ∷ (n % 128) ∷ []) ((n / 16384 + 128) ∷ (n / 128 % 128 + 128) ∷ (n % 128) ∷ []))

-- A number begins with a group of seven zeros.
abbrev pub zeros_first : List ℕ → Bool
zeros_first [] = false
zeros_first (b ∷ bs) = b == 128

-- The rest of a number that began at the offset `at`, with the value v so far: the number and the bytes after it.
-- `end` is the length of all the bytes.
unfoldable pub more : (end at v : ℕ) → List ℕ → Result (ℕ × List ℕ) Refusal
more end at v [] = refuse 20 end
more end at v (b ∷ bs) =
    cond (nat_lt 65535 (v * 128 + b % 128)) (refuse 22 at)
    (cond (nat_lt b 128) (Ok (v * 128 + b % 128, bs)) (more end at (v * 128 + b % 128) bs))

-- The number at the front, and the bytes after it; or its refusal. `end` is the length of all the bytes.
unfoldable pub number : (end : ℕ) → List ℕ → Result (ℕ × List ℕ) Refusal
number end bs = cond (zeros_first bs) (refuse 21 (end - length bs)) (more end (end - length bs) 0 bs)
