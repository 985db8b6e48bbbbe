-- The length and the depth of the code of a list of items, found from the items alone; and what `emit` answers.
use Rattle.std.specs.Prelude.{◌≡◌, ℕ, ◌+◌, ◌<◌, ◌≤◌, min, max, List, [], ◌∷◌, ◌++◌, length, drop, Some, None, Ok, Err, Option, Result}
use Rattle.base.specs.Limits.{most_instructions, most_items}
use Rattle.base.specs.declared.instr.Instr.{Instr}
use Rattle.ir.specs.declared.item.Item.{Item}
use Rattle.ir.specs.declared.item.Item.TheVariants as item
use Rattle.base.specs.Heights.{up, down, height}
use Rattle.codegen.specs.declared.placed.CodeSize.{CodeSize}
use Rattle.codegen.specs.declared.placed.Excess.{Excess}
use Rattle.codegen.specs.declared.placed.Excess.TheVariants.{Items, Room}
use Rattle.codegen.specs.Items.{ends, code_of_items}

-- The number of words stacked after the code of an item, if h are stacked before it.
abbrev pub height_after_item : Item → ℕ → ℕ
height_after_item (item.Plain i) h = height i h
height_after_item item.Test h = down 1 h
height_after_item (item.For c) h = up 2 (down 2 h)
height_after_item (item.Next c) h = up 2 (down 2 h)
height_after_item (item.Case n) h = down 1 h
height_after_item _ h = h

-- The largest number of words stacked before, between and after the items, if h are stacked at first.
abbrev pub deepest : List Item → ℕ → ℕ
deepest [] h = h
deepest (n ∷ ns) h = max h (deepest ns (height_after_item n h))

-- The figures are right: the number of instructions, including HALT, and the depth.
pub record HasFigures (ns : List Item) (f : CodeSize) : Type 0 where
  pub count : f.count ≡ ends ns 0 + 1
  pub depth : f.depth ≡ deepest ns 0

-- The figures of the items; none if there are more than n instructions.
abbrev pub Measures : List Item → ℕ → Option CodeSize → Type 0
Measures ns n None = n < ends ns 0 + 1
Measures ns n (Some f) = HasFigures ns f × (f.count ≤ n)

-- How many instructions there may be: at most 16,383, and at most as many as the table has entries.
abbrev pub limit : List Instr → ℕ
limit table = min most_instructions (length table)

-- What `emit` leaves. The code stands at the front of the table, and the rest of the table has not changed. Or
-- nothing changed, since there are more items than the longest source gives, or more instructions than there may be.
abbrev pub Emits : List Item → (before after : List Instr) → Result CodeSize Excess → Type 0
Emits ns a b (Ok f) =
    (length ns ≤ most_items) × HasFigures ns f × (f.count ≤ limit a) × (b ≡ code_of_items ns ++ drop f.count a)
Emits ns a b (Err Items) = (most_items < length ns) × (b ≡ a)
Emits ns a b (Err Room) = (length ns ≤ most_items) × (limit a < ends ns 0 + 1) × (b ≡ a)
