-- The items of a tree give the code of the tree, and the depth of the tree.
use Rattle.std.specs.Prelude.{◌≡◌, ◌+◌, List, length}
use Rattle.ir.specs.declared.item.Item.{Item}
use Rattle.ir.specs.Instrs.{peak}
use Rattle.ir.specs.Trees.{Body}
use Rattle.ir.specs.Lists.{items}
use Rattle.codegen.specs.Code.{program, depth}
use Rattle.codegen.specs.Items.{code_of_items, ends}
use Rattle.codegen.specs.Measure.{deepest}

-- What holds of the code and the depth that the two passes give.
pub record Emission : Type 0 where
  -- for any items, the count and the depth that are measured are those of the code
  pub long : (ns : List Item) → length (code_of_items ns) ≡ ends ns 0 + 1
  pub deep : (ns : List Item) → peak 0 (code_of_items ns) ≡ deepest ns 0
  -- for the items of a tree, the code is the one that the rule of each form gives, and so is the depth
  pub code : (b : Body) → code_of_items (items b) ≡ program b
  pub stack : (b : Body) → deepest (items b) 0 ≡ depth b
