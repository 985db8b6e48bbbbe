use Rattle.grammar.proofs.Prefixes.{refused_only_so}
use Rattle.grammar.proofs.refused_only_so.Goals as goal

pub returns : goal.returns
returns c = refused_only_so
