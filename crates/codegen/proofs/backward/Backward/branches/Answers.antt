use Rattle.std.proofs.Common.{◌∷◌, length, ap, ◌∙◌, arith}
use Rattle.ir.specs.Instrs.{BR}
use Rattle.codegen.specs.declared.placed.Aim.{Aim}
use Rattle.codegen.specs.Items.{Back}
use Rattle.codegen.proofs.Loops.{branch_more}
use Rattle.codegen.proofs.backward.Backward.branches.Goals as goal

pub put-requires : goal.put-requires
put-requires c = omega (arith, c.loop-k.invariant.2, c.requires)

pub loop-k-preserved : goal.loop-k-preserved
loop-k-preserved c =
    let z = c.loop-k.self in
    let t = ap (λ (y : Back). y.todo) c.put.ensures in
    let e = ap (λ (y : Back). y.code) c.put.ensures in
    let i = c.new.ensures ∙ ap (λ (a : Aim). BR a.no) c.aim-arm.ensures in (
      rw t (branch_more c.loop-k.k z.todo z.code _ _ c.loop-k-test.true (e ∙ ap (λ j. j ∷ z.code) i) c.loop-k.invariant.0),
      t ∙ c.loop-k.invariant.1,
      omega (arith, ap length e, c.loop-k.invariant.2, c.loop-k-test.true),
    )
