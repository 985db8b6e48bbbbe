-- What the code's table of names stands for.
use Rattle.std.specs.Prelude.{map}
use Rattle.sema.specs.declared.table.NameTable.{NameTable}
use Rattle.sema.specs.Tables.{Table}
use Rattle.sema.specs.Entered.{row_as}

-- The table of names that the code's table stands for.
abbrev pub table_as : NameTable → Table
table_as t = record { rows = map row_as t.entries.items; cells = t.cells }
