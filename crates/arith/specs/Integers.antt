-- Words as INTEGERs: a word is read in two's complement, from -32,768 to 32,767.
-- Each operation is an answer or a stop, by its number. The left operand comes first.
use Rattle.std.specs.Prelude.{ℕ, ◌-◌, ◌<◌, Bool, cond, ◌&&◌, ℤ, pos, negsuc, ◌+ℤ◌, ◌-ℤ◌, ◌*ℤ◌, neg_ℤ, Ok, Result, ◌==◌, int_div, int_le, int_lt, int_rem, nat_lt}
use Rattle.std.specs.Int.Signed.{mag}
use Rattle.arith.specs.declared.stop.Stop.{Stop}
use Rattle.arith.specs.Stops.{stop}

-- The INTEGER that a word is. From 32,768 on it is the word less 65,536.
unfoldable pub int : ℕ → ℤ
int w = cond (nat_lt w 32768) (pos w) (negsuc (65535 - w))

-- The word of an INTEGER, or stop 1 outside -32,768..32,767.
unfoldable pub integer_word : ℤ → Result ℕ Stop
integer_word (pos n) = cond (nat_lt n 32768) (Ok n) (stop 1)
integer_word (negsuc n) = cond (nat_lt n 32768) (Ok (65535 - n)) (stop 1)

-- The answer r, or stop 2 if the divisor x is 0.
abbrev pub unless_by_zero : ℕ → Result ℕ Stop → Result ℕ Stop
unless_by_zero x r = cond (x == 0) (stop 2) r

-- The sum y + x, or stop 1.
unfoldable pub sum : ℕ → ℕ → Result ℕ Stop
sum y x = integer_word (int y +ℤ int x)

-- The difference y - x, or stop 1.
unfoldable pub difference : ℕ → ℕ → Result ℕ Stop
difference y x = integer_word (int y -ℤ int x)

-- The product y * x, or stop 1.
unfoldable pub product : ℕ → ℕ → Result ℕ Stop
product y x = integer_word (int y *ℤ int x)

-- The quotient y / x, truncated toward zero; or stop 1 or 2.
unfoldable pub quotient : ℕ → ℕ → Result ℕ Stop
quotient y x = unless_by_zero x (integer_word (int_div (int y) (int x)))

-- The remainder of y / x, with the sign of y; or stop 2.
unfoldable pub remainder : ℕ → ℕ → Result ℕ Stop
remainder y x = unless_by_zero x (integer_word (int_rem (int y) (int x)))

-- The INTEGER -x, or stop 1.
unfoldable pub negation : ℕ → Result ℕ Stop
negation x = integer_word (neg_ℤ (int x))

-- Whether i, read as an INTEGER, is at least 0 and below n.
unfoldable pub within : ℕ → ℕ → Bool
within i n = int_le (pos 0) (int i) && int_lt (int i) (pos n)

-- The index i if it is within n, else the stop with the number e.
abbrev pub below : ℕ → ℕ → ℕ → Result ℕ Stop
below e i n = cond (within i n) (Ok i) (stop e)

-- The subscript i of an array of n cells, or stop 3.
unfoldable pub subscript : ℕ → ℕ → Result ℕ Stop
subscript i n = below 3 i n

-- The index i of a CASE of n statements, or stop 4.
unfoldable pub case_index : ℕ → ℕ → Result ℕ Stop
case_index i n = below 4 i n

-- Whether a FOR with the variable v, the step s and the limit l takes another turn: v is not above l, or not below l
-- if the step is negative.
unfoldable pub turns : ℕ → ℕ → ℕ → Bool
turns v s l = cond (int_le (pos 0) (int s)) (int_le (int v) (int l)) (int_le (int l) (int v))

-- The number is from -32,768 to 32,767.
abbrev pub Small : ℤ → Type 0
Small z = mag z < 32768
