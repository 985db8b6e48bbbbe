use Rattle.std.proofs.Common.{ℤ, pos, ◌-ℤ◌, neg_ℤ, ap, ◌∙◌, w32, to_z, of_z}
use Rattle.arith.specs.Integers.{integer_word, negation}
use Rattle.arith.proofs.Ints.{negated_fits, zero_minus, back}
use Rattle.arith.proofs.integer.neg.Goals as goal

pub overflow_sub-value : goal.overflow_sub-value
overflow_sub-value c = rw (back c.value.result record { sfits = c.value.type_inv }) (negated_fits c.value.result c.value.ensures.small)

pub returns : goal.returns
unfolding negation
returns c =
    let e = back c.value.result record { sfits = c.value.type_inv } in
    c.fit.ensures
    ∙ ap (λ (z : ℤ). integer_word (to_z w32 (of_z w32 (pos 0 -ℤ z)))) e
    ∙ ap integer_word (back (pos 0 -ℤ c.value.result) (negated_fits c.value.result c.value.ensures.small) ∙ zero_minus c.value.result ∙ ap neg_ℤ c.value.ensures.exact)
