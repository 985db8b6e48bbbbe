use Rattle.std.proofs.Common.{eqb, sym, ap, ◌∙◌, arith, w32, SFits, rules}
use lib.Signed.{rem_z}
use Rattle.std.proofs.lemmas.Int.{to_z-of_z}
use Rattle.std.proofs.lemmas.Bool.{ne_eqb, cond-false}
use Rattle.arith.specs.Integers.{integer_word, remainder}
use Rattle.arith.proofs.Ints.{quotient_fits, remainder_fits, over, not_zero}
use Rattle.arith.proofs.integer.rem.Goals as goal

pub nonzero_rem-value : goal.nonzero_rem-value
nonzero_rem-value c =
    let f : SFits w32 c.value.result = record { sfits = c.value.type_inv } in
    let g : SFits w32 c.value-2.result = record { sfits = c.value-2.type_inv } in (
      not_zero c.args.x c.value-2.result c.value-2.ensures.exact c.value-2.ensures.small c.if-x-eq0.false (omega arith),
      rw (to_z-of_z w32 c.value.result f, to_z-of_z w32 c.value-2.result g)
          (quotient_fits c.value.result c.value-2.result c.value.ensures.small c.value-2.ensures.small),
    )

pub returns : goal.returns
unfolding remainder
returns c =
    c.fit.ensures
    ∙ ap integer_word (over rem_z _ _ _ _ c.value.ensures.exact c.value-2.ensures.exact record { sfits = c.value.type_inv } record { sfits = c.value-2.type_inv }
    (remainder_fits c.value.result c.value-2.result c.value.ensures.small))
    ∙ sym (cond-false (eqb c.args.x 0) _ _ (ne_eqb c.args.x 0 c.if-x-eq0.false))

pub returns-then-x-eq0 : goal.returns-then-x-eq0
unfolding remainder
returns-then-x-eq0 c = search rules
