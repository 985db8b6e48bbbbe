use Rattle.std.proofs.Common.{◌+◌, leb, ap, ◌∙◌}
use Rattle.sema.specs.Faults.{unless}
use Rattle.sema.specs.Tables.{Row}
use Rattle.sema.specs.Sizes.{cells_at}
use Rattle.sema.proofs.table.NameTable.cells_fault.Goals as goal

pub returns : goal.returns
unfolding cells_at
returns c = c.unless.ensures ∙ ap (λ (r : Row). unless (leb (r.cell + r.cells) 4096) 13 c.args.d.offset) c.entry-e.ensures
