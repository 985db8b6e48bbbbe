-- Which nodes a source is read to, what a workspace holds, and what `read` leaves in it.
use Rattle.std.specs.Prelude.{◌≡◌, ℕ, List, [], length, Ok, Err, Result}
use Rattle.base.specs.Refusals.{then}
use Rattle.lexer.specs.Cut.{Piece, token_list}
use Rattle.parser.specs.declared.fault.GrammarFault.{GrammarFault}
use Rattle.parser.specs.declared.workspace.Workspace.{Workspace}
use Rattle.parser.specs.Faults.{refusal_of}
use Rattle.parser.specs.Nodes.{Node, node_list}
use Rattle.parser.specs.Machine.{ParseAnswer, later, program}

-- The nodes of these tokens, read as a program of a source of this length; or the refusal.
unfoldable pub parse : (end : ℕ) → List Piece → ParseAnswer
parse end ps = later end ps program []

-- The nodes of a source, or its refusal. The text is cut first, and a refusal of the text is answered before any of
-- the grammar.
unfoldable pub syntax_list : List ℕ → ParseAnswer
syntax_list source = then (token_list source) (parse (length source))

-- The nodes that a workspace holds.
abbrev pub list_of : Workspace → List Node
list_of w = node_list w.nodes

-- What `read` leaves: the workspace holds the nodes of the source; or the source is refused with this fault, and
-- the list is empty.
abbrev pub ReadsSource : List ℕ → Workspace → Result (Unit {0}) GrammarFault → Type 0
ReadsSource source w (Ok u) = syntax_list source ≡ Ok (list_of w)
ReadsSource source w (Err e) = (syntax_list source ≡ Err (refusal_of e)) × (list_of w ≡ [])
