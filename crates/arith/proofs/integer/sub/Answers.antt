use Rattle.std.proofs.Common.{◌-ℤ◌, ap, ◌∙◌, w32, SFits}
use Rattle.std.proofs.lemmas.Int.{to_z-of_z}
use Rattle.arith.specs.Integers.{integer_word, difference}
use Rattle.arith.proofs.Ints.{difference_fits, over}
use Rattle.arith.proofs.integer.sub.Goals as goal

pub overflow_sub-value : goal.overflow_sub-value
overflow_sub-value c =
    let f : SFits w32 c.value.result = record { sfits = c.value.type_inv } in
    let g : SFits w32 c.value-2.result = record { sfits = c.value-2.type_inv } in
    rw (to_z-of_z w32 c.value.result f, to_z-of_z w32 c.value-2.result g) (difference_fits c.value.result c.value-2.result c.value.ensures.small c.value-2.ensures.small)

pub returns : goal.returns
unfolding difference
returns c =
    c.fit.ensures
    ∙ ap integer_word (over ◌-ℤ◌ _ _ _ _ c.value.ensures.exact c.value-2.ensures.exact record { sfits = c.value.type_inv } record { sfits = c.value-2.type_inv }
    (difference_fits c.value.result c.value-2.result c.value.ensures.small c.value-2.ensures.small))
