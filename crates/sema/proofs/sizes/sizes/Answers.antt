use Rattle.std.proofs.Common.{◌∙◌}
use Rattle.std.specs.Option.{option_map}
use Rattle.sema.specs.Faults.{refusal_of}
use Rattle.sema.specs.Tabled.{table_as}
use Rattle.sema.proofs.Passes.{sizes_more, sizes_all}
use Rattle.sema.proofs.sizes.sizes.Goals as goal

pub loop-n-preserved : goal.loop-n-preserved
loop-n-preserved c =
    sizes_more c.args.nodes.now c.loop-n.n-index (option_map refusal_of c.loop-n.best) (table_as c.args.table.now) _ c.loop-n.invariant _ _ _ _ _
    c.loop-n-test.true c.n-item.is c.cells_fault.ensures c.soonest-first.ensures c.range_fault.ensures c.soonest-best.ensures

pub returns : goal.returns
returns c =
    c.answer.ensures
    ∙ sizes_all c.args.nodes.now c.loop-n.n-index (option_map refusal_of c.loop-n.best) (table_as c.args.table.now) _ c.loop-n.invariant c.loop-n-test.false
