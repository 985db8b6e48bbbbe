use Rattle.std.proofs.Common.{◌+◌, get_or, drop, sym, ap, ◌∙◌, arith}
use Rattle.ir.specs.declared.item.Item.TheVariants as item
use Rattle.ir.specs.Instrs.{HALT}
use Rattle.codegen.specs.Items.{next, ends}
use Rattle.codegen.proofs.Loops.{ends_further, ends_more}
use Rattle.codegen.proofs.Sizes.{deepest_more, at_end}
use Rattle.codegen.proofs.measure.measure.Goals as goal

pub returns-then-index-limit : goal.returns-then-index-limit
returns-then-index-limit c =
    let ns = c.args.items.now in
    let i = c.loop-n.n-index in
    let q = c.size_of-index.ensures.0 c.loop-n.index in
    omega (arith, q, c.loop-n.invariant.3, ends_more ns i (item.Plain HALT) c.loop-n-test.true c.loop-n.index, ends_further (drop (i + 1) ns) (next (get_or ns i (item.Plain HALT)) c.loop-n.index))

pub loop-n-preserved : goal.loop-n-preserved
loop-n-preserved c =
    let ns = c.args.items.now in
    let i = c.loop-n.n-index in
    let q = c.size_of-index.ensures.0 c.loop-n.index in
    let z = c.size_of-index.ensures.0 0 in
    let m = c.stack_after-height.result in (
      omega arith,
      omega (arith, z, c.stack_after-height.ensures.1, c.loop-n.invariant.1),
      omega (arith, z, c.max-deep.ensures, c.loop-n.invariant.1, c.loop-n.invariant.2),
      ap (ends (drop (i + 1) ns)) (sym q) ∙ sym (ends_more ns i (item.Plain HALT) c.loop-n-test.true c.loop-n.index) ∙ c.loop-n.invariant.3,
      omega (arith, c.max-deep.ensures, deepest_more ns i (item.Plain HALT) c.loop-n-test.true c.loop-n.height m c.stack_after-height.ensures.0, c.loop-n.invariant.4),
    )

pub returns : goal.returns
returns c =
    let z = at_end c.args.items.now c.loop-n.n-index c.loop-n-test.false c.loop-n.index c.loop-n.height in
    (record { count = omega (arith, z.0, c.loop-n.invariant.3); depth = omega (arith, z.1, c.loop-n.invariant.4, c.max-deep-2.ensures) }, omega (arith, c.loop-n.invariant.0))
