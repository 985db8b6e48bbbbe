use Rattle.grammar.proofs.Prefixes.{refused_where_too_deep}
use Rattle.grammar.proofs.refused_where_too_deep.Goals as goal

pub returns : goal.returns
returns c = refused_where_too_deep
