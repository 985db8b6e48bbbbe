use Rattle.std.proofs.Common.{reverse, ap, ◌∙◌, unwrap_or}
use Rattle.std.proofs.lemmas.Option.{unwrap_or-slice_get}
use Rattle.codegen.specs.Items.{aims}
use Rattle.codegen.proofs.backward.Backward.aim.Goals as goal

pub returns : goal.returns
returns c =
    rw (← c.self.view_is) (c.unwrap_or.ensures ∙ ap (λ o. unwrap_or o (aims 0 0)) c.peek.ensures ∙ unwrap_or-slice_get (reverse c.self.inside.todo) c.args.k (aims 0 0))
