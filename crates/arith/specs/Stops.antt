-- The stops and their numbers. The definitions of operations name a stop by its number.
use Rattle.std.specs.Prelude.{ℕ, cond, Err, Result, ◌==◌}
use Rattle.arith.specs.declared.stop.Stop.{Stop}
use Rattle.arith.specs.declared.stop.Stop.TheVariants.{Overflow, ZeroDivisor, BadIndex, BadCase}

-- The stop of a number from 1 to 4.
abbrev pub stop_of : ℕ → Stop
stop_of n = cond (n == 1) Overflow (cond (n == 2) ZeroDivisor (cond (n == 3) BadIndex BadCase))

-- Stopped, with this number.
abbrev pub stop : {A : Type 0} → ℕ → Result A Stop
stop n = Err (stop_of n)

-- The number of each stop.
abbrev pub number_of : Stop → ℕ
number_of Overflow = 1
number_of ZeroDivisor = 2
number_of BadIndex = 3
number_of BadCase = 4
