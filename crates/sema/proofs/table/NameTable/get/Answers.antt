use Rattle.sema.proofs.Lookups.{get_some, get_none}
use Rattle.sema.proofs.table.NameTable.get.Goals as goal

pub returns : goal.returns
returns c = get_some c.args.self.now.entries.items c.as_slice-entries.ensures.value c.name.ensures c.in_ok-i.i _ c.index-entries-i.is c.in_ok-i.ensures.first

pub returns-in_err-i : goal.returns-in_err-i
returns-in_err-i c = rw c.from_residual.ensures (get_none c.args.self.now.entries.items c.as_slice-entries.ensures.value c.name.ensures c.in_err-i.ensures.first)
