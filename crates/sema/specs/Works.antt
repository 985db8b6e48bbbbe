-- What the stages answer for a source, what a workspace holds, and what `check` leaves in it.
use Rattle.std.specs.Prelude.{◌≡◌, ℕ, List, [], Some, None, Ok, Err, Option, Result}
use Rattle.base.specs.declared.refusal.Refusal.{Refusal}
use Rattle.base.specs.Refusals.{then}
use Rattle.parser.specs.Nodes.{Node}
use Rattle.parser.specs.Machine.{ParseAnswer}
use Rattle.parser.specs.Works.{syntax_list, list_of}
use Rattle.ir.specs.declared.item.Item.{Item}
use Rattle.sema.specs.declared.fault.CheckFault.{CheckFault}
use Rattle.sema.specs.declared.workspace.Workspace.{Workspace}
use Rattle.sema.specs.Faults.{refusal_of, least}
use Rattle.sema.specs.Tables.{Table, empty}
use Rattle.sema.specs.Tabled.{table_as}
use Rattle.sema.specs.Names.{name_faults, table_from}
use Rattle.sema.specs.Types.{type_faults}
use Rattle.sema.specs.Sizes.{size_faults}
use Rattle.sema.specs.Emitting.{typed_list}

-- The typed list of a source, and its table of names.
pub record CheckedSource : Type 0 where
  pub items : List Item
  pub table : Table

-- The fault of an earlier stage, or the one of a later stage if the earlier has none.
abbrev pub earlier : Option Refusal → Option Refusal → Option Refusal
earlier None g = g
earlier (Some f) g = Some f

-- The fault that decides for a syntax list: of the stage of names, else of types, else of sizes. Each stage looks at
-- the whole list.
unfoldable pub verdict : List Node → Option Refusal
verdict es =
    earlier (least (name_faults empty es)) (earlier (least (type_faults (table_from empty es) es [])) (least (size_faults (table_from empty es) es)))

-- The answer x if there is no fault, else the fault.
abbrev pub unless_fault : Option Refusal → CheckedSource → Result CheckedSource Refusal
unless_fault None x = Ok x
unless_fault (Some f) x = Err f

-- The typed list and the table of names of a syntax list.
abbrev pub outcome : List Node → CheckedSource
outcome es = record { items = typed_list es; table = table_from empty es }

-- The answer of the stages of names, types and sizes for a syntax list.
unfoldable pub list_check : List Node → Result CheckedSource Refusal
list_check es = unless_fault (verdict es) (outcome es)

-- The answer for a source after every stage: text and grammar, names, types, sizes.
unfoldable pub source_check : List ℕ → Result CheckedSource Refusal
source_check source = then (syntax_list source) list_check

-- The syntax list of a source; it is empty if text or grammar refuse the source.
abbrev pub nodes_from : ParseAnswer → List Node
nodes_from (Ok es) = es
nodes_from (Err f) = []

-- The typed list and the table of names that a workspace holds.
abbrev pub holds : Workspace → CheckedSource
holds w = record { items = w.stages.items; table = table_as w.stages.table }

-- The syntax list that a workspace holds.
abbrev pub nodes_of : Workspace → List Node
nodes_of w = list_of w.syntax

-- What a workspace holds after a refusal: no typed list and no names.
abbrev pub nothing : CheckedSource
nothing = record { items = []; table = empty }

-- What `check` leaves. If the source is accepted, it answers the number of cells, and the workspace holds the typed
-- list and the names. If it is refused, the workspace holds neither. In either case the workspace holds the syntax
-- list of the source, if the grammar accepts it.
abbrev pub ChecksSource : List ℕ → Workspace → Result ℕ CheckFault → Type 0
ChecksSource source w (Ok n) =
    (source_check source ≡ Ok (holds w)) × (n ≡ (holds w).table.cells) × (nodes_of w ≡ nodes_from (syntax_list source))
ChecksSource source w (Err e) =
    (source_check source ≡ Err (refusal_of e)) × (holds w ≡ nothing) × (nodes_of w ≡ nodes_from (syntax_list source))
