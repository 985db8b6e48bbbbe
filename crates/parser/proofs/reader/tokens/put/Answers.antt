use Rattle.parser.proofs.Puts.{entries_push}
use Rattle.parser.proofs.reader.tokens.put.Goals as goal

pub returns-clause-items : goal.returns-clause-items
returns-clause-items c = entries_push _ _ _ (c.push.ensures.items c.requires)
