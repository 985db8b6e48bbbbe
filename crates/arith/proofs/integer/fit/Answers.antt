use Rattle.std.proofs.Common.{ℤ, pos, ◌+ℤ◌, nat_abs, Ok, ap, ◌∙◌, w32, to_z, of_z}
use Rattle.arith.proofs.Ints.{fit_high, fit_low, fit_pos, fit_neg, back}
use Rattle.arith.proofs.integer.fit.Goals as goal
use Rattle.arith.proofs.integer.fit.Goals.{then-v-lt-LEAST-via-then-v-lt-LEAST, then-v-lt-LEAST-via-else-v-lt-LEAST+then-v-gt-GREATEST}

pub returns-then-v-lt-LEAST : goal.returns-then-v-lt-LEAST
returns-then-v-lt-LEAST c =
    let e = back c.args.v c.ranges.v in
    elim c.then-v-lt-LEAST.branch [
      | then-v-lt-LEAST-via-then-v-lt-LEAST w ↦ fit_low c.args.v (rw e at w.if-v-lt-LEAST.true)
      | then-v-lt-LEAST-via-else-v-lt-LEAST+then-v-gt-GREATEST w ↦ fit_high c.args.v (rw e at w.if-v-gt-GREATEST.true)
    ]

pub returns-then-v-lt0 : goal.returns-then-v-lt0
returns-then-v-lt0 c =
    let e = back c.args.v c.ranges.v in
    ap (λ (z : ℤ). Ok (nat_abs (to_z w32 (of_z w32 (z +ℤ pos 65536))))) e ∙ fit_neg c.args.v (rw e at c.if-v-lt-LEAST.false) (rw e at c.if-v-lt0.true)

pub returns-else-v-lt0 : goal.returns-else-v-lt0
returns-else-v-lt0 c =
    let e = back c.args.v c.ranges.v in
    ap (λ (z : ℤ). Ok (nat_abs z)) e ∙ fit_pos c.args.v (rw e at c.if-v-gt-GREATEST.false) (rw e at c.if-v-lt0.false)
