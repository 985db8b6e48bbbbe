-- The definitions on the syntax list of a program give the same as those on its tree.
use Rattle.std.specs.Prelude.{◌≡◌, List, []}
use Rattle.parser.specs.Nodes.{Node}
use Rattle.ast.specs.Trees.{Program}
use Rattle.ast.specs.Lists.{list}
use Rattle.ir.specs.Lists.{items}
use Rattle.sema.specs.Tables.{empty}
use Rattle.sema.specs.Names.{name_faults, table_from, program_table, program_names}
use Rattle.sema.specs.Types.{type_faults, program_types}
use Rattle.sema.specs.Sizes.{size_faults, program_sizes}
use Rattle.sema.specs.Layout.{IsLaidOut}
use Rattle.sema.specs.Emitting.{typed_list}
use Rattle.sema.specs.Resolving.{resolve}

-- Each stage finds the same faults in the list of a program as in its tree, and the typed list is that of the typed
-- tree.
pub record OnTree (p : Program) : Type 0 where
  pub table : table_from empty (list p) ≡ program_table p
  pub names : name_faults empty (list p) ≡ program_names p
  pub types : type_faults (program_table p) (list p) [] ≡ program_types p
  pub sizes : size_faults (program_table p) (list p) ≡ program_sizes p
  pub typed : typed_list (list p) ≡ items (resolve p)

-- The laws of this crate: what holds of every program, and of the table of every list.
pub record Laws : Type 0 where
  pub trees : (p : Program) → OnTree p
  -- for every list, accepted or not
  pub layout : (es : List Node) → IsLaidOut (table_from empty es)
