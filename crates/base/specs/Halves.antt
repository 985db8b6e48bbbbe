-- Which of two stores has a cell.
use Rattle.std.specs.Prelude.{ℕ, ◌-◌, cond, nat_lt}
use Rattle.base.specs.declared.store.joined.Half.{Half}
use Rattle.base.specs.declared.store.joined.Half.TheVariants.{First, Second}

-- Says which of two stores, joined end to end, has a cell, and which of its cells it is. The first store has m cells;
-- the cells after them belong to the second.
abbrev pub half_of : ℕ → ℕ → Half
half_of cell m = cond (nat_lt cell m) (First cell) (Second (cell - m))
