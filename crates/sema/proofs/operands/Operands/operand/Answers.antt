use Rattle.std.proofs.Common.{unwrap_or, ap, ◌∙◌}
use Rattle.std.proofs.lemmas.Option.{unwrap_or-slice_get}
use Rattle.parser.specs.declared.value_type.ValueType.TheVariants.{Integer}
use Rattle.sema.proofs.operands.Operands.operand.Goals as goal

pub returns : goal.returns
returns c = rw (← c.self.view_is) (c.unwrap_or.ensures ∙ ap (λ o. unwrap_or o Integer) c.peek.ensures ∙ unwrap_or-slice_get _ c.args.k Integer)
