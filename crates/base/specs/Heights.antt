-- How many words are stacked after an instruction, from the number that it takes and the number that it leaves.
use Rattle.std.specs.Prelude.{ℕ, zero, suc, Some, None, Option, slice_get}
use Rattle.base.specs.declared.instr.Instr.{Instr}
use Rattle.base.specs.declared.op.Op.{Op}
use Rattle.base.specs.Ops.{ops, taken_by, left_by}

-- Counts k up from h.
abbrev pub up : ℕ → ℕ → ℕ
up zero h = h
up (suc k) h = suc (up k h)

-- Counts k down from h, as far as 0.
abbrev pub down : ℕ → ℕ → ℕ
down zero h = h
down (suc k) zero = zero
down (suc k) (suc h) = down k h

-- The number of words stacked after an instruction, if h are stacked before it. If no instruction has the number,
-- nothing changes.
abbrev pub height_by : Option Op → (a h : ℕ) → ℕ
height_by (Some o) a h = up (left_by o) (down (taken_by o a) h)
height_by None a h = h

-- The number of words stacked after the instruction of a record, if h are stacked before it.
abbrev pub height : Instr → ℕ → ℕ
height i h = height_by (slice_get ops i.number) i.a h
