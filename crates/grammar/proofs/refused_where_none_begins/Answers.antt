use Rattle.grammar.proofs.Prefixes.{refused_where_none_begins}
use Rattle.grammar.proofs.refused_where_none_begins.Goals as goal

pub returns : goal.returns
returns c = refused_where_none_begins
