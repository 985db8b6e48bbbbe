-- Fields: b bits from bit a, where bit 0 is the highest of sixteen.
use Rattle.std.specs.Prelude.{ℕ, ◌+◌, ◌-◌, ◌*◌, ◌/◌, ◌%◌, ◌^◌, Bool, ◌&&◌, nat_le}

-- The numbers name a field of a word: it has 1 to 15 bits, and none past bit 15.
abbrev pub is_field : ℕ → ℕ → Bool
is_field a b = nat_le 1 b && (nat_le b 15 && nat_le (a + b) 16)

-- The field of x: its b bits from bit a, as a number.
unfoldable pub field : ℕ → ℕ → ℕ → ℕ
field a b x = x / 2 ^ (16 - a - b) % 2 ^ b

-- The word x in which the field is replaced by the lowest bits of v. It is the sum of the bits above the field, the
-- new field, and the bits below it.
unfoldable pub with_field : ℕ → ℕ → ℕ → ℕ → ℕ
with_field a b x v = x / 2 ^ (16 - a) * 2 ^ (16 - a) + v % 2 ^ b * 2 ^ (16 - a - b) + x % 2 ^ (16 - a - b)
