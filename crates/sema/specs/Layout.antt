-- How the names of a table lie in the cells.
use Rattle.std.specs.Prelude.{◌≡◌, ℕ, ◌+◌, ◌<◌, ◌≤◌, length, slice_index_or}
use Rattle.base.specs.Limits.{most_names}
use Rattle.sema.specs.declared.entry.Sort.{Sort}
use Rattle.sema.specs.declared.entry.Sort.TheVariants as sort
use Rattle.sema.specs.Tables.{Row, Table, nothing}

-- The row of the i-th declared name.
abbrev pub nth : Table → ℕ → Row
nth t i = slice_index_or t.rows i nothing

-- A simple name has one cell, and an array has at least one.
abbrev pub HasItsSize : Sort → ℕ → Type 0
HasItsSize sort.Simple c = c ≡ 1
HasItsSize sort.Array c = 1 ≤ c

-- A table has at most 64 names, and no two are alike. Their cells do not overlap, and they lie below the table's
-- number of cells.
pub record IsLaidOut (t : Table) : Type 0 where
  pub few : length t.rows ≤ most_names
  pub distinct : (i j : ℕ) → i < j → j < length t.rows → (nth t i).name ≡ (nth t j).name → ⊥
  pub apart : (i j : ℕ) → i < j → j < length t.rows → (nth t i).cell + (nth t i).cells ≤ (nth t j).cell
  pub below : (i : ℕ) → i < length t.rows → (nth t i).cell + (nth t i).cells ≤ t.cells
  pub sized : (i : ℕ) → i < length t.rows → HasItsSize (nth t i).sort (nth t i).cells
