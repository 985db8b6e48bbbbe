use Rattle.sema.specs.Tables.{row_of}
use Rattle.sema.proofs.Entering.{row_found}
use Rattle.sema.proofs.table.NameTable.entry.Goals as goal

pub returns : goal.returns
unfolding row_of
returns c = row_found c.get.result _ _ c.unwrap_or_default.ensures c.get.ensures
