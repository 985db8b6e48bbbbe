use Rattle.std.proofs.Common.{rules}
use Rattle.std.proofs.lemmas.List.{take_more}
use Rattle.base.proofs.list.Bounded.pop.Goals as goal

pub returns : goal.returns
returns g c = search (rules, take_more)
