-- A node more in the list. Assumes nothing.
use Rattle.std.proofs.Common.{◌≡◌, List, [], ◌∷◌, ◌++◌, ap, ◌∙◌}
use Rattle.std.proofs.lemmas.List.{map-append}
use Rattle.parser.specs.declared.node.Node.{Node as CodeNode}
use Rattle.parser.specs.Nodes.{node_of, node_list}

pub entries_push : (ns ms : List CodeNode) (n : CodeNode) → ms ≡ ns ++ n ∷ [] → node_list ms ≡ node_list ns ++ node_of n ∷ []
unfolding node_list
entries_push ns ms n e = ap node_list e ∙ map-append node_of ns (n ∷ [])
