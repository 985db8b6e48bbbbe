-- The typed list of a source that passed every stage: which items each node of its syntax list becomes.
use Rattle.std.specs.Prelude.{ℕ, List, [], ◌∷◌, ◌++◌, Some, None, Option}
use Rattle.arith.specs.declared.relation.Relation.TheVariants as relation
use Rattle.parser.specs.declared.value_type.ValueType.{ValueType}
use Rattle.parser.specs.declared.value_type.ValueType.TheVariants.{Integer, Logical}
use Rattle.parser.specs.declared.node.Operator.{Operator}
use Rattle.parser.specs.declared.node.Operator.TheVariants.{Times, Divide, Mod, Plus, Minus, Equal, Unequal, Less, AtMost, Greater, AtLeast, Land, Xor, Lor}
use Rattle.parser.specs.Nodes.{Node}
use Rattle.parser.specs.Nodes as node
use Rattle.ir.specs.declared.item.Item.{Item}
use Rattle.ir.specs.declared.item.Item.TheVariants as item
use Rattle.ir.specs.Instrs.{LIT, LOAD, STOR, LDX, STX, CHK, DUP, DROP, DEP}
use Rattle.ir.specs.Trees as ir
use Rattle.ir.specs.Lists.{op_instr, uop_instr}
use Rattle.sema.specs.Tables.{Table, row_of, empty}
use Rattle.sema.specs.Names.{table_from}
use Rattle.sema.specs.Types.{rule_of, after, second}
use Rattle.sema.specs.CaseArms.{arm_counts, first, counts_after}

-- The operation a for INTEGER, and b for LOGICAL.
abbrev pub by_type : ValueType → ir.Op → ir.Op → ir.Op
by_type Integer a b = a
by_type Logical a b = b

-- The operation of an operator, chosen by the type of its left side.
abbrev pub op_of : Operator → ValueType → ir.Op
op_of Times k = by_type k ir.mul ir.lmul
op_of Divide k = by_type k ir.div ir.ldiv
op_of Mod k = by_type k ir.rem ir.lrem
op_of Plus k = by_type k ir.add ir.ladd
op_of Minus k = by_type k ir.sub ir.lsub
op_of Equal k = by_type k (ir.cmp relation.Equal) (ir.lcmp relation.Equal)
op_of Unequal k = by_type k (ir.cmp relation.Unequal) (ir.lcmp relation.Unequal)
op_of Less k = by_type k (ir.cmp relation.Less) (ir.lcmp relation.Less)
op_of AtMost k = by_type k (ir.cmp relation.AtMost) (ir.lcmp relation.AtMost)
op_of Greater k = by_type k (ir.cmp relation.Greater) (ir.lcmp relation.Greater)
op_of AtLeast k = by_type k (ir.cmp relation.AtLeast) (ir.lcmp relation.AtLeast)
op_of Land k = ir.land
op_of Xor k = ir.lxor
op_of Lor k = ir.lor

-- The items of a node that names something; none for other nodes.
abbrev pub emits_name : Table → Node → Option (List Item)
emits_name t (node.Load n p) = Some (item.Plain (LOAD (row_of t n).cell) ∷ [])
emits_name t (node.Index n p q) = Some (item.Plain (LDX (row_of t n).cell (row_of t n).cells) ∷ [])
emits_name t (node.Store n p q) = Some (item.Plain (STOR (row_of t n).cell) ∷ [])
emits_name t (node.Checked n p q) = Some (item.Plain (CHK (row_of t n).cells) ∷ [])
emits_name t (node.StoreAt n p q) = Some (item.Plain (STX (row_of t n).cell (row_of t n).cells) ∷ [])
emits_name t (node.Fetch n p) = Some (item.Plain (LOAD (row_of t n).cell) ∷ [])
emits_name t (node.FetchAt n p q) = Some (item.Plain DUP ∷ item.Plain (LDX (row_of t n).cell (row_of t n).cells) ∷ [])
emits_name t (node.First n p f) = Some (item.Plain (STOR (row_of t n).cell) ∷ [])
emits_name t (node.For n p f) = Some (item.For (row_of t n).cell ∷ [])
emits_name t (node.Next n) = Some (item.Next (row_of t n).cell ∷ [])
emits_name t _ = None

-- The items of a node that computes; none for other nodes. The type is that of the left operand of an operator.
abbrev pub emits_step : ValueType → Node → Option (List Item)
emits_step j (node.Number v k) = Some (item.Plain (LIT v) ∷ [])
emits_step j (node.Binary o p) = Some (item.Plain (op_instr (op_of o j)) ∷ [])
emits_step j (node.Negate p) = Some (item.Plain (uop_instr ir.neg) ∷ [])
emits_step j (node.Lnot p) = Some (item.Plain (uop_instr ir.not) ∷ [])
emits_step j (node.Field a b p) = Some (item.Plain (uop_instr (ir.fld a b)) ∷ [])
emits_step j (node.Shift h c p) = Some (item.Plain (uop_instr (ir.shf h c)) ∷ [])
emits_step j (node.Deposit a b p) = Some (item.Plain (DEP a b) ∷ [])
emits_step j node.One = Some (item.Plain (LIT 1) ∷ [])
emits_step j node.Drop = Some (item.Plain (DROP 2) ∷ [])
emits_step j _ = None

-- The items of a marker; m is the number of arms of the next CASE. Every other node gives no items.
abbrev pub emits_mark : ℕ → Node → List Item
emits_mark m (node.Test p) = item.Test ∷ []
emits_mark m (node.Case p) = item.Case m ∷ []
emits_mark m node.Or = item.Or ∷ []
emits_mark m node.If = item.If ∷ []
emits_mark m node.Then = item.Then ∷ []
emits_mark m node.Else = item.Else ∷ []
emits_mark m node.Fi = item.Fi ∷ []
emits_mark m node.While = item.While ∷ []
emits_mark m node.Loop = item.Loop ∷ []
emits_mark m node.Do = item.Do ∷ []
emits_mark m node.Until = item.Until ∷ []
emits_mark m node.Done = item.Done ∷ []
emits_mark m node.Arm = item.Arm ∷ []
emits_mark m node.Out = item.Out ∷ []
emits_mark m node.Esac = item.Esac ∷ []
emits_mark m _ = []

-- The first items, or the second if there are no first ones.
abbrev pub or_else : Option (List Item) → List Item → List Item
or_else None ys = ys
or_else (Some xs) ys = xs

-- The items that a node of the list becomes.
abbrev pub emits : Table → ValueType → ℕ → Node → List Item
emits t k m e = or_else (emits_name t e) (or_else (emits_step k e) (emits_mark m e))

-- The items of a list of nodes, from the types of the operands before it and the numbers of arms of its CASEs.
abbrev pub writes : Table → List Node → List ValueType → List ℕ → List Item
writes t [] s ms = []
writes t (e ∷ es) s ms = emits t (second s) (first ms) e ++ writes t es (after (rule_of t e) s) (counts_after e ms)

-- The typed list of a syntax list.
unfoldable pub typed_list : List Node → List Item
typed_list es = writes (table_from empty es) es [] (arm_counts es).closed
