-- Operands and heights, by the number of an instruction and by the instruction.
use Rattle.std.specs.Prelude.{◌≡◌, ℕ, zero, suc, ◌+◌, ◌-◌, Some, None, slice_get, refl}
use Rattle.std.specs.Option.{option_map}
use Rattle.std.proofs.Common.{ap, arith}
use Rattle.base.specs.declared.instr.Instr.{Instr}
use Rattle.base.specs.declared.op.Op.{Op}
use Rattle.base.specs.Ops.{ops, named_by, operands_of, taken_by, left_by}
use Rattle.base.specs.Heights.{up, down, height, height_by}

pub operands_at : (n : ℕ) (o : Op) → slice_get ops n ≡ Some o → operands_of n ≡ Some (named_by o)
unfolding operands_of
operands_at n o e = ap (option_map named_by) e

pub operands_past : (n : ℕ) → slice_get ops n ≡ None → operands_of n ≡ None
unfolding operands_of
operands_past n e = ap (option_map named_by) e

pub up_sum : (k h : ℕ) → up k h ≡ h + k
up_sum zero h = omega arith
up_sum (suc k) h = omega (arith, up_sum k h)

pub down_sub : (k h : ℕ) → down k h ≡ h - k
down_sub zero h = omega arith
down_sub (suc k) zero = omega arith
down_sub (suc k) (suc h) = omega (arith, down_sub k h)

pub height_op : (o : Op) (a h : ℕ) → height_by (Some o) a h ≡ h - taken_by o a + left_by o
height_op o a h = omega (arith, up_sum (left_by o) (down (taken_by o a) h), down_sub (taken_by o a) h)

pub height_some : (i : Instr) (o : Op) (h : ℕ) → slice_get ops i.number ≡ Some o → height i h ≡ h - taken_by o i.a + left_by o
height_some i o h e = omega (arith, ap (λ r. height_by r i.a h) e, height_op o i.a h)

pub height_none : (i : Instr) (h : ℕ) → slice_get ops i.number ≡ None → height i h ≡ h
height_none i h e = ap (λ r. height_by r i.a h) e
