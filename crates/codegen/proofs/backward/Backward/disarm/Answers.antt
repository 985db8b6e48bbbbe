use Rattle.std.proofs.Common.{ap, ◌∙◌, sym, add-one}
use Rattle.base.specs.Stacks.{below}
use Rattle.codegen.specs.Items.{Back}
use Rattle.codegen.proofs.Loops.{without_more}
use Rattle.codegen.proofs.backward.Backward.disarm.Goals as goal

pub loop-preserved : goal.loop-preserved
loop-preserved c = (
  rw add-one (ap (λ (z : Back). z.todo) c.leave.ensures ∙ ap below c.loop.invariant.0 ∙ sym (without_more c.loop.counter c.args.self.now.todo)),
  ap (λ (z : Back). z.code) c.leave.ensures ∙ c.loop.invariant.1,
)
