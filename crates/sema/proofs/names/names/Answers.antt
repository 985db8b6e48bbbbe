use Rattle.std.proofs.Common.{◌∙◌}
use Rattle.std.specs.Option.{option_map}
use Rattle.sema.specs.Faults.{refusal_of}
use Rattle.sema.specs.Tabled.{table_as}
use Rattle.sema.proofs.Passes.{names_more, names_all}
use Rattle.sema.proofs.names.names.Goals as goal

pub loop-n-preserved : goal.loop-n-preserved
loop-n-preserved c =
    names_more c.args.nodes.now c.loop-n.n-index (option_map refusal_of c.loop-n.best) (table_as c.loop-n.table) _ _ c.loop-n.invariant _ _ _ _
    c.loop-n-test.true c.n-item.is c.name_fault.ensures.fault c.soonest-best.ensures c.name_fault.ensures.table

pub returns : goal.returns
returns c =
    let p = names_all c.args.nodes.now c.loop-n.n-index (option_map refusal_of c.loop-n.best) (table_as c.loop-n.table) _ _ c.loop-n.invariant c.loop-n-test.false in
    record { fault = c.answer.ensures ∙ p.0; table = p.1 }
