use Rattle.grammar.proofs.Exact.{lists_a_tree}
use Rattle.grammar.proofs.lists_a_tree.Goals as goal

pub returns : goal.returns
returns c = lists_a_tree
