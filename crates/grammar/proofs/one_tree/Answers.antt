use Rattle.grammar.proofs.Exact.{one-tree}
use Rattle.grammar.proofs.one_tree.Goals as goal

pub returns : goal.returns
returns c = one-tree
