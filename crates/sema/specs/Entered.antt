-- What an entry of the code's table of names says.
use Rattle.std.specs.Prelude.{ℕ, Some, None, Option}
use Rattle.lexer.specs.Names.{name_of}
use Rattle.sema.specs.declared.entry.Sort.{Sort}
use Rattle.sema.specs.declared.entry.Sort.TheVariants as sort
use Rattle.sema.specs.declared.entry.NameEntry.{NameEntry}
use Rattle.sema.specs.Tables.{Row, array_cells}

-- The row that an entry of the code stands for.
abbrev pub row_as : NameEntry → Row
row_as e = record { name = name_of e.name; value_type = e.value_type; sort = e.sort; cell = e.cell; cells = e.cells }

-- A name with a high bound is an array; without one it stays what it is.
abbrev pub sort_from : Sort → Option ℕ → Sort
sort_from s None = s
sort_from s (Some h) = sort.Array

-- Whether a declaration with this high bound, or with none, is that of an array or of a simple name.
abbrev pub sort_of : Option ℕ → Sort
sort_of high = sort_from sort.Simple high

-- How many cells a name takes: an array takes one more than its high bound, a simple name takes one.
abbrev pub cells_of : Option ℕ → ℕ
cells_of None = 1
cells_of (Some h) = array_cells h

-- The row of a name after its high bound, if it has one, is known.
abbrev pub with_bound : Row → Option ℕ → Row
with_bound r high =
    record { name = r.name; value_type = r.value_type; sort = sort_from r.sort high; cell = r.cell; cells = cells_of high }
