-- The five shifts, by a count of at most 15.
use Rattle.std.specs.Prelude.{ℕ, zero, suc, ◌+◌, ◌-◌, ◌*◌, ◌/◌, ◌%◌, ◌^◌, Bool, cond, ◌&&◌, nat_le, nat_lt}
use Rattle.arith.specs.declared.shift.Kind.{Kind}
use Rattle.arith.specs.declared.shift.Kind.TheVariants.{Lsl, Lsr, Asr, Csl, Csr}

-- The number of each shift.
abbrev pub kind_number : Kind → ℕ
kind_number Lsl = 0
kind_number Lsr = 1
kind_number Asr = 2
kind_number Csl = 3
kind_number Csr = 4

-- The shift of a number up to 4.
abbrev pub kind_of : ℕ → Kind
kind_of zero = Lsl
kind_of (suc zero) = Lsr
kind_of (suc (suc zero)) = Asr
kind_of (suc (suc (suc zero))) = Csl
kind_of (suc (suc (suc (suc n)))) = Csr

-- The operands name a shift: a number up to 4, and a count of at most 15.
abbrev pub is_shift : ℕ → ℕ → Bool
is_shift a b = nat_le a 4 && nat_le b 15

-- The word x shifted by b. LSL and LSR fill with 0, ASR repeats bit 0, CSL and CSR are circular.
unfoldable pub shift_of : Kind → ℕ → ℕ → ℕ
shift_of Lsl b x = x * 2 ^ b % 65536
shift_of Lsr b x = x / 2 ^ b
shift_of Asr b x = cond (nat_lt x 32768) (x / 2 ^ b) (65535 - (65535 - x) / 2 ^ b)
shift_of Csl b x = x * 2 ^ b % 65536 + x / 2 ^ (16 - b)
shift_of Csr b x = x / 2 ^ b + x * 2 ^ (16 - b) % 65536
