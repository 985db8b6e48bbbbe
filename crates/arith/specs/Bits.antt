-- Words bit by bit. The operations on two words are `bit_and`, `bit_or` and `bit_xor` of the library.
use Rattle.std.specs.Prelude.{ℕ, ◌-◌, ◌/◌, ◌%◌, ◌^◌, bit_xor}

-- The word with every bit turned.
unfoldable pub complement : ℕ → ℕ
complement x = bit_xor x 65535

-- The bit k of a word. Bit 0 is the highest.
abbrev pub bit : ℕ → ℕ → ℕ
bit k w = w / 2 ^ (15 - k) % 2
