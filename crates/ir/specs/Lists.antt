-- The typed list of a tree. In each definition r is the list that follows.
use Rattle.std.specs.Prelude.{List, [], ◌∷◌}
use Rattle.arith.specs.Relations.{relation_number}
use Rattle.arith.specs.Shifts.{kind_number}
use Rattle.base.specs.declared.instr.Instr.{Instr}
use Rattle.ir.specs.declared.item.Item.{Item}
use Rattle.ir.specs.declared.item.Item.TheVariants as item
use Rattle.ir.specs.Instrs.{of, LIT, LOAD, STOR, LDX, STX, CHK, DUP, DROP, DEP}
use Rattle.base.specs.declared.op.Op.TheVariants as op
use Rattle.ir.specs.Trees.{Op, add, sub, mul, div, rem, ladd, lsub, lmul, ldiv, lrem, cmp, lcmp, land, lor, lxor, Uop, neg, not, fld, shf, Expr, lit, var, pick, bin, un, Clause, test, and, Cond, only, or, Stmt, assign, fill, deposit, deposit_at, when, either, while, repeat, for, case, Body, end, then, Arms, last, arm, size}

-- The instruction of an operation on two words.
abbrev pub op_instr : Op → Instr
op_instr add = of op.Add 0 0
op_instr sub = of op.Sub 0 0
op_instr mul = of op.Mul 0 0
op_instr div = of op.Div 0 0
op_instr rem = of op.Rem 0 0
op_instr ladd = of op.Ladd 0 0
op_instr lsub = of op.Lsub 0 0
op_instr lmul = of op.Lmul 0 0
op_instr ldiv = of op.Ldiv 0 0
op_instr lrem = of op.Lrem 0 0
op_instr (cmp r) = of op.Cmp (relation_number r) 0
op_instr (lcmp r) = of op.Lcmp (relation_number r) 0
op_instr land = of op.And 0 0
op_instr lor = of op.Or 0 0
op_instr lxor = of op.Xor 0 0

-- The instruction of an operation on one word.
abbrev pub uop_instr : Uop → Instr
uop_instr neg = of op.Neg 0 0
uop_instr not = of op.Not 0 0
uop_instr (fld a b) = of op.Fld a b
uop_instr (shf k n) = of op.Shf (kind_number k) n

-- The items of an expression.
abbrev pub items_e : Expr → List Item → List Item
items_e (lit w) r = item.Plain (LIT w) ∷ r
items_e (var c) r = item.Plain (LOAD c) ∷ r
items_e (pick b n i) r = items_e i (item.Plain (LDX b n) ∷ r)
items_e (bin o x y) r = items_e x (items_e y (item.Plain (op_instr o) ∷ r))
items_e (un o x) r = items_e x (item.Plain (uop_instr o) ∷ r)

-- The items of a clause.
abbrev pub items_l : Clause → List Item → List Item
items_l (test e) r = items_e e (item.Test ∷ r)
items_l (and e c) r = items_e e (item.Test ∷ items_l c r)

-- The items of a condition.
abbrev pub items_c : Cond → List Item → List Item
items_c (only c) r = items_l c r
items_c (or c d) r = items_l c (item.Or ∷ items_c d r)

abbrev mutual
  -- The items of a statement.
  pub items_s : Stmt → List Item → List Item
  items_s (assign c e) r = items_e e (item.Plain (STOR c) ∷ r)
  items_s (fill b n i e) r = items_e i (item.Plain (CHK n) ∷ items_e e (item.Plain (STX b n) ∷ r))
  items_s (deposit c a b e) r = item.Plain (LOAD c) ∷ items_e e (item.Plain (DEP a b) ∷ item.Plain (STOR c) ∷ r)
  items_s (deposit_at x n i a b e) r =
      items_e i (item.Plain DUP ∷ item.Plain (LDX x n) ∷ items_e e (item.Plain (DEP a b) ∷ item.Plain (STX x n) ∷ r))
  items_s (when c b) r = item.If ∷ items_c c (item.Then ∷ items_b b (item.Fi ∷ r))
  items_s (either c b d) r = item.If ∷ items_c c (item.Then ∷ items_b b (item.Else ∷ items_b d (item.Fi ∷ r)))
  items_s (while c b) r = item.While ∷ items_c c (item.Then ∷ items_b b (item.Loop ∷ r))
  items_s (repeat b c) r = item.Do ∷ items_b b (item.Until ∷ items_c c (item.Done ∷ r))
  items_s (for c e d l b) r =
      items_e e (item.Plain (STOR c) ∷ items_e d (items_e l (item.For c ∷ items_b b (item.Next c ∷ item.Plain (DROP 2) ∷ r))))
  items_s (case e a) r = items_e e (item.Case (size a) ∷ items_a a (item.Esac ∷ r))

  -- The items of a list of statements.
  pub items_b : Body → List Item → List Item
  items_b end r = r
  items_b (then s b) r = items_s s (items_b b r)

  -- The items of the statements of a CASE.
  pub items_a : Arms → List Item → List Item
  items_a (last b) r = item.Arm ∷ items_b b (item.Out ∷ r)
  items_a (arm b a) r = item.Arm ∷ items_b b (item.Out ∷ items_a a r)

-- The typed list of a source.
unfoldable pub items : Body → List Item
items b = items_b b []
