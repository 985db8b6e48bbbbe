use Rattle.std.proofs.Common.{◌+◌, ap}
use Rattle.sema.proofs.Entering.{entered, table_of}
use Rattle.sema.proofs.table.NameTable.enter.Goals as goal

pub returns : goal.returns
returns c =
    table_of _ _ _ _
    (entered c.args.self.now.entries.items c.push.new.self.items c.deref_mut.result.now c.len-i.result _ c.complete.new.self _ c.args.d.high c.len-i.ensures.value c.push.ensures.items c.deref_mut.ensures.value c.complete.ensures.row)
    (ap (λ k. c.args.self.now.cells + k) c.complete.ensures.cells)
