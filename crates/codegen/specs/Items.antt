-- The code of a list of items. The pass forward finds what is known from the items before one: its index, and the
-- starts of the open loops. The pass backward finds what is known from the items after it: the code that follows, and
-- where each open construct goes on.
use Rattle.std.specs.Prelude.{ℕ, zero, suc, List, [], ◌∷◌, ◌++◌, slice_index, slice_index_or}
use Rattle.base.specs.Stacks.{below}
use Rattle.base.specs.declared.instr.Instr.{Instr}
use Rattle.ir.specs.declared.item.Item.{Item}
use Rattle.ir.specs.declared.item.Item.TheVariants as item
use Rattle.ir.specs.Instrs.{HALT, BR, BRE, CASE, FOR, NEXT}
use Rattle.codegen.specs.declared.placed.Placed.{Placed}
use Rattle.codegen.specs.declared.placed.Aim.{Aim}

-- Where to go on if a test holds, and if it does not.
abbrev pub aims : ℕ → ℕ → Aim
aims y n = record { yes = y; no = n }

-- The start of the innermost open loop.
abbrev pub hd : List ℕ → ℕ
hd ss = slice_index ss 0

-- Where the innermost open construct goes on.
abbrev pub top : List Aim → Aim
top ts = slice_index_or ts 0 (aims 0 0)

-- The index n after p.
abbrev pub along : ℕ → ℕ → ℕ
along zero p = p
along (suc n) p = along n (suc p)

-- The index after an item at p. Most items are one instruction and markers are none; a CASE is followed by its table.
abbrev pub next : Item → ℕ → ℕ
next (item.Plain i) p = suc p
next item.Test p = suc p
next item.Or p = suc p
next item.Else p = suc p
next item.Loop p = suc p
next (item.For c) p = suc p
next (item.Next c) p = suc p
next (item.Case n) p = along n (suc p)
next item.Out p = suc p
next _ p = p

-- The starts of the open loops after an item at p.
abbrev pub starts : Item → ℕ → List ℕ → List ℕ
starts item.While p ss = p ∷ ss
starts item.Loop p ss = below ss
starts item.Do p ss = p ∷ ss
starts item.Done p ss = below ss
starts (item.For c) p ss = p ∷ ss
starts (item.Next c) p ss = below ss
starts _ p ss = ss

-- An item with its index, the index after it, and the start of the innermost open loop.
abbrev pub placement : Item → ℕ → List ℕ → Placed
placement n p ss = record { item = n; index = p; after = next n p; start = hd ss }

-- The pass forward: each item with its index.
abbrev pub placements : List Item → ℕ → List ℕ → List Placed
placements [] p ss = []
placements (n ∷ ns) p ss = placement n p ss ∷ placements ns (next n p) (starts n p ss)

-- Where the code of the items ends, if it begins at p.
abbrev pub ends : List Item → ℕ → ℕ
ends [] p = p
ends (n ∷ ns) p = ends ns (next n p)

-- A branch to each of the n arms on top of the open constructs.
abbrev pub table : ℕ → List Aim → List Instr
table zero ts = []
table (suc n) ts = BR (top ts).no ∷ table n (below ts)

-- The open constructs without the n on top.
abbrev pub without : ℕ → List Aim → List Aim
without zero ts = ts
without (suc n) ts = without n (below ts)

-- The instructions of an item: p is its index, q the index after it, s the start of the innermost loop, and ts are
-- the constructs that are open after it.
abbrev pub emits : Item → (p q s : ℕ) → List Aim → List Instr
emits (item.Plain i) p q s ts = i ∷ []
emits item.Test p q s ts = BRE (top ts).no ∷ []
emits item.Or p q s ts = BR (top ts).yes ∷ []
emits item.Else p q s ts = BR (top ts).no ∷ []
emits item.Loop p q s ts = BR s ∷ []
emits (item.For c) p q s ts = FOR c (top ts).no ∷ []
emits (item.Next c) p q s ts = NEXT c s ∷ []
emits (item.Case n) p q s ts = CASE (suc p) n ∷ table n ts
emits item.Out p q s ts = BR (top ts).yes ∷ []
emits _ p q s ts = []

-- The constructs that are open before an item, from those that are open after it.
abbrev pub opens : Item → (p q s : ℕ) → List Aim → List Aim
opens (item.Plain i) p q s ts = ts
opens item.Test p q s ts = ts
opens item.Or p q s ts = aims (top ts).yes q ∷ below ts
opens item.If p q s ts = below ts
opens item.Then p q s ts = aims p (top ts).no ∷ below ts
opens item.Else p q s ts = aims 0 q ∷ below ts
opens item.Fi p q s ts = aims 0 p ∷ ts
opens item.While p q s ts = below ts
opens item.Loop p q s ts = aims 0 q ∷ ts
opens item.Do p q s ts = ts
opens item.Until p q s ts = below ts
opens item.Done p q s ts = aims p s ∷ ts
opens (item.For c) p q s ts = below ts
opens (item.Next c) p q s ts = aims 0 q ∷ ts
opens (item.Case n) p q s ts = below (without n ts)
opens item.Arm p q s ts = aims (top ts).yes p ∷ ts
opens item.Out p q s ts = ts
opens item.Esac p q s ts = aims p 0 ∷ ts

-- The code from some item on, and the constructs that are open there.
pub record Back : Type 0 where
  pub code : List Instr
  pub todo : List Aim

-- The code from an item on, from what comes after the item.
abbrev pub behind : Placed → Back → Back
behind x z =
    record {
      code = emits x.item x.index x.after x.start z.todo ++ z.code;
      todo = opens x.item x.index x.after x.start z.todo;
    }

-- No code, and no open construct.
abbrev pub blank : Back
blank = record { code = []; todo = [] }

-- The pass backward: the code from the first of these items on.
abbrev pub back : List Placed → Back → Back
back [] z = z
back (x ∷ xs) z = behind x (back xs z)

-- What comes after the last item: HALT, and no open construct.
abbrev pub last : Back
last = record { code = HALT ∷ []; todo = [] }

-- The code of the items ns, from the index p on, if ss are the starts of the open loops.
abbrev pub go : List Item → ℕ → List ℕ → Back
go ns p ss = back (placements ns p ss) last

-- The code of a list of items.
unfoldable pub code_of_items : List Item → List Instr
code_of_items ns = (go ns 0 []).code
