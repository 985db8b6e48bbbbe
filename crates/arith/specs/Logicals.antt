-- Words as LOGICALs: from 0 to 65,535, and sums, differences and products modulo 65,536.
-- The left operand comes first.
use Rattle.std.specs.Prelude.{ℕ, ◌+◌, ◌-◌, ◌*◌, ◌/◌, ◌%◌, Bool, cond, Ok, Result, ◌==◌}
use Rattle.arith.specs.declared.stop.Stop.{Stop}
use Rattle.arith.specs.Integers.{unless_by_zero}

-- The sum y + x modulo 65,536.
unfoldable pub lsum : ℕ → ℕ → ℕ
lsum y x = (y + x) % 65536

-- The difference y - x modulo 65,536.
unfoldable pub ldifference : ℕ → ℕ → ℕ
ldifference y x = (y + (65536 - x)) % 65536

-- The product y * x modulo 65,536.
unfoldable pub lproduct : ℕ → ℕ → ℕ
lproduct y x = (y * x) % 65536

-- The quotient y / x, or stop 2.
unfoldable pub lquotient : ℕ → ℕ → Result ℕ Stop
lquotient y x = unless_by_zero x (Ok (y / x))

-- The remainder of y / x, or stop 2.
unfoldable pub lremainder : ℕ → ℕ → Result ℕ Stop
lremainder y x = unless_by_zero x (Ok (y % x))

-- The word of TRUE and of FALSE.
abbrev pub truth : Bool → ℕ
truth t = cond t 65535 0

-- A word counts as true in a condition exactly when it is odd.
unfoldable pub odd : ℕ → Bool
odd w = w % 2 == 1
