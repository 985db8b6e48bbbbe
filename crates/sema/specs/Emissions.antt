-- Which items the code gives for a node, and what it may rely on when it writes them.
use Rattle.std.specs.Prelude.{ℕ, ◌+◌, ◌≤◌, List, [], ◌∷◌}
use Rattle.base.specs.Limits.{most_cells}
use Rattle.ir.specs.declared.item.Item.{Item}
use Rattle.sema.specs.declared.emission.Emission.{Emission}
use Rattle.sema.specs.declared.emission.Emission.TheVariants.{Nothing, One, Two}
use Rattle.sema.specs.Tables.{Table, row_of}
use Rattle.sema.specs.CaseArms.{Counts}

-- The items that an answer of the code stands for.
abbrev pub items_of : Emission → List Item
items_of Nothing = []
items_of (One x) = x ∷ []
items_of (Two x y) = x ∷ y ∷ []

-- The cells of every name lie below 4,096.
pub record Narrow (t : Table) : Type 0 where
  pub narrow : (n : List ℕ) → (row_of t n).cell + (row_of t n).cells ≤ most_cells

-- Each number of the list is at most k.
abbrev pub AtMost : ℕ → List ℕ → Type 0
AtMost k [] = Unit {0}
AtMost k (n ∷ ns) = (n ≤ k) × AtMost k ns

-- The counts with these numbers of arms.
abbrev pub counts : List ℕ → List ℕ → Counts
counts o c = record { opened = o; closed = c }
