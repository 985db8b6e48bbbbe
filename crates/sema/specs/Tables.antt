-- The table of names: what is declared, and the row of each name.
use Rattle.std.specs.Prelude.{ℕ, ◌+◌, Bool, true, false, cond, List, [], ◌∷◌, ◌++◌, length, Some, None, Option, nat_lt}
use Rattle.base.specs.Limits.{most_names}
use Rattle.lexer.specs.Names.{first_named}
use Rattle.parser.specs.declared.value_type.ValueType.{ValueType}
use Rattle.parser.specs.declared.value_type.ValueType.TheVariants as types
use Rattle.sema.specs.declared.entry.Sort.{Sort}
use Rattle.sema.specs.declared.entry.Sort.TheVariants as sort

-- A declared name: its type, whether it is an array, its first cell and the number of its cells.
pub record Row : Type 0 where
  pub name : List ℕ
  pub value_type : ValueType
  pub sort : Sort
  pub cell : ℕ
  pub cells : ℕ

-- The rows in the order of their declarations, and the number of cells that they take.
pub record Table : Type 0 where
  pub rows : List Row
  pub cells : ℕ

-- A table without names.
abbrev pub empty : Table
empty = record { rows = []; cells = 0 }

-- How many cells an array has: it begins at 0, so it has one more than its high bound.
abbrev pub array_cells : (high : ℕ) → ℕ
array_cells h = h + 1

-- The first row of the name n, if there is one.
abbrev pub look : List Row → List ℕ → Option Row
look rs n = first_named (λ (r : Row). r.name) rs n

-- The row that is taken for a name that is not declared.
abbrev pub nothing : Row
nothing = record { name = []; value_type = types.Integer; sort = sort.Simple; cell = 0; cells = 0 }

-- The row that was found, or `nothing` if there is none.
abbrev pub row_or_none : Option Row → Row
row_or_none None = nothing
row_or_none (Some r) = r

-- The row of the name n in a table.
unfoldable pub row_of : Table → List ℕ → Row
row_of t n = row_or_none (look t.rows n)

-- A row was found.
abbrev pub is_known : Option Row → Bool
is_known None = false
is_known (Some r) = true

-- The table with one more name, which takes the next c cells.
abbrev pub with_row : Table → List ℕ → ValueType → Sort → ℕ → Table
with_row t n k s c =
    record { rows = t.rows ++ record { name = n; value_type = k; sort = s; cell = t.cells; cells = c } ∷ []; cells = t.cells + c }

-- The table after a declaration. A name that is declared already is not entered, and neither is a 65th name.
unfoldable pub declare : Table → List ℕ → ValueType → Sort → ℕ → Table
declare t n k s c = cond (is_known (look t.rows n)) t (cond (nat_lt (length t.rows) most_names) (with_row t n k s c) t)
