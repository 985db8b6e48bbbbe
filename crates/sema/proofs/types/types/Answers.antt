use Rattle.std.proofs.Common.{◌∙◌, arith}
use Rattle.std.specs.Option.{option_map}
use Rattle.sema.specs.Faults.{refusal_of}
use Rattle.sema.specs.Tabled.{table_as}
use Rattle.sema.proofs.Passes.{types_more, types_all}
use Rattle.sema.proofs.types.types.Goals as goal

pub loop-n-preserved : goal.loop-n-preserved
loop-n-preserved c = (
  types_more c.args.nodes.now c.loop-n.n-index (option_map refusal_of c.loop-n.best) (table_as c.args.table.now) c.loop-n.operands _ c.loop-n.invariant.0 _ _ _ _ _
      c.loop-n-test.true c.n-item.is c.rule_of-rule.ensures c.clash.ensures c.soonest-best.ensures c.follow.ensures.tops,
  omega (arith, c.follow.ensures.len, c.loop-n.invariant.1),
)

pub returns : goal.returns
returns c =
    c.answer.ensures
    ∙ types_all c.args.nodes.now c.loop-n.n-index (option_map refusal_of c.loop-n.best) (table_as c.args.table.now) c.loop-n.operands _ c.loop-n.invariant.0 c.loop-n-test.false
