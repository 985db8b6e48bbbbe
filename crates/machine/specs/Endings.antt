-- The endings and their numbers. Each definition of the machine names an ending by its number.
use Rattle.std.specs.Prelude.{ℕ, cond, Err, Result, ◌==◌, nat_le}
use Rattle.arith.specs.Stops.{stop_of, number_of as stop_number}
use Rattle.machine.specs.declared.ending.Ending.{Ending}
use Rattle.machine.specs.declared.ending.Ending.TheVariants.{Halted, Stopped, Missing, TooHigh, BadOperand, Outside}

-- The ending of a number. 0 is HALT; 1 to 4 are the stops; 6 is a word missing on the stack; 7 is a push above the
-- depth; 8 is a number that no instruction has, or an operand outside its rules; 9 is a program counter past the code, or a
-- cell past the store. No definition of the machine uses another number.
abbrev pub ending_of_number : ℕ → Ending
ending_of_number n =
    cond (n == 0) Halted
    (cond (nat_le n 4) (Stopped (stop_of n)) (cond (n == 6) Missing (cond (n == 7) TooHigh (cond (n == 8) BadOperand Outside))))

-- The run ends with this number.
abbrev pub ends : {X : Type 0} → ℕ → Result X Ending
ends n = Err (ending_of_number n)

-- The number of each ending.
abbrev pub number_of : Ending → ℕ
number_of Halted = 0
number_of (Stopped s) = stop_number s
number_of Missing = 6
number_of TooHigh = 7
number_of BadOperand = 8
number_of Outside = 9
