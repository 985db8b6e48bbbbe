use Rattle.std.proofs.Common.{ap, arith}
use Rattle.sema.specs.Tabled.{table_as}
use Rattle.sema.specs.CaseArms.{Counts}
use Rattle.sema.specs.Emissions.{items_of}
use Rattle.sema.proofs.Passes.{writes_more, writes_all}
use Rattle.sema.proofs.stages.Stages.write.Goals as goal

pub loop-n-preserved : goal.loop-n-preserved
loop-n-preserved c =
    let l = c.loop-n in (
      writes_more c.args.nodes.now l.n-index l.self.items (table_as c.args.self.now.table) l.self.operands l.self.arms.closed _ l.invariant.0 _ c.rule_of.result (items_of c.emission_of-emission.result) _ _ _
          c.loop-n-test.true c.n-item.is (rw (← l.invariant.1, ← c.operand.ensures, ← c.next.ensures) c.emission_of-emission.ensures) c.append.ensures.items (rw (← l.invariant.1) c.rule_of.ensures) c.follow.ensures.tops (ap (λ (z : Counts). z.closed) c.spend.ensures),
      l.invariant.1,
      omega (arith, c.follow.ensures.len, l.invariant.2),
      omega (arith, c.append.ensures.len, l.invariant.3),
    )

pub returns : goal.returns
returns c =
    let l = c.loop-n in
    record {
      items = writes_all c.args.nodes.now l.n-index l.self.items (table_as c.args.self.now.table) l.self.operands l.self.arms.closed _ l.invariant.0 c.loop-n-test.false;
      table = l.invariant.1;
    }
