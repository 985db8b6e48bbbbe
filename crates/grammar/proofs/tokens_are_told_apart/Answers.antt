use Rattle.grammar.proofs.Marks.{told_apart}
use Rattle.grammar.proofs.tokens_are_told_apart.Goals as goal

pub returns : goal.returns
returns c = told_apart
