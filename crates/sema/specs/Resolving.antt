-- The typed tree of a tree that passed every stage.
use Rattle.ast.specs.Trees.{Expr, number, load, index, binary, negate, lnot, convert, field, shift, Clause, test, and, Cond, only, or, Step, absent, by, Stmt, assign, assign_at, deposit, deposit_at, when, either, choose, while, repeat, count, Body, end, then, Arms, last, arm, Program}
use Rattle.ir.specs.Trees as ir
use Rattle.sema.specs.Tables.{Table, row_of}
use Rattle.sema.specs.Names.{program_table}
use Rattle.sema.specs.Types.{type_e}
use Rattle.sema.specs.Emitting.{op_of}

-- The typed tree of an expression.
abbrev pub resolve_e : Table → Expr → ir.Expr
resolve_e t (number v k) = ir.lit v
resolve_e t (load n p) = ir.var (row_of t n).cell
resolve_e t (index n p q e) = ir.pick (row_of t n).cell (row_of t n).cells (resolve_e t e)
resolve_e t (binary o p a b) = ir.bin (op_of o (type_e t a)) (resolve_e t a) (resolve_e t b)
resolve_e t (negate p a) = ir.un ir.neg (resolve_e t a)
resolve_e t (lnot p a) = ir.un ir.not (resolve_e t a)
resolve_e t (convert k a) = resolve_e t a
resolve_e t (field a b p e) = ir.un (ir.fld a b) (resolve_e t e)
resolve_e t (shift s c p e) = ir.un (ir.shf s c) (resolve_e t e)

-- The typed tree of a clause of a condition.
abbrev pub resolve_l : Table → Clause → ir.Clause
resolve_l t (test p e) = ir.test (resolve_e t e)
resolve_l t (and p e c) = ir.and (resolve_e t e) (resolve_l t c)

-- The typed tree of a condition.
abbrev pub resolve_c : Table → Cond → ir.Cond
resolve_c t (only c) = ir.only (resolve_l t c)
resolve_c t (or c d) = ir.or (resolve_l t c) (resolve_c t d)

-- The typed tree of the step of a FOR: 1 if none is written.
abbrev pub resolve_p : Table → Step → ir.Expr
resolve_p t absent = ir.lit 1
resolve_p t (by e) = resolve_e t e

abbrev mutual
  -- The typed tree of a statement.
  pub resolve_s : Table → Stmt → ir.Stmt
  resolve_s t (assign n p q e) = ir.assign (row_of t n).cell (resolve_e t e)
  resolve_s t (assign_at n p o i q e) = ir.fill (row_of t n).cell (row_of t n).cells (resolve_e t i) (resolve_e t e)
  resolve_s t (deposit n p a b f q e) = ir.deposit (row_of t n).cell a b (resolve_e t e)
  resolve_s t (deposit_at n p o i a b f q e) =
      ir.deposit_at (row_of t n).cell (row_of t n).cells (resolve_e t i) a b (resolve_e t e)
  resolve_s t (when c b) = ir.when (resolve_c t c) (resolve_b t b)
  resolve_s t (either c b d) = ir.either (resolve_c t c) (resolve_b t b) (resolve_b t d)
  resolve_s t (choose p e a) = ir.case (resolve_e t e) (resolve_a t a)
  resolve_s t (while c b) = ir.while (resolve_c t c) (resolve_b t b)
  resolve_s t (repeat b c) = ir.repeat (resolve_b t b) (resolve_c t c)
  resolve_s t (count n p f e s l b) =
      ir.for (row_of t n).cell (resolve_e t e) (resolve_p t s) (resolve_e t l) (resolve_b t b)

  -- The typed tree of a list of statements.
  pub resolve_b : Table → Body → ir.Body
  resolve_b t end = ir.end
  resolve_b t (then s b) = ir.then (resolve_s t s) (resolve_b t b)

  -- The typed tree of the statements of a CASE.
  pub resolve_a : Table → Arms → ir.Arms
  resolve_a t (last b) = ir.last (resolve_b t b)
  resolve_a t (arm b a) = ir.arm (resolve_b t b) (resolve_a t a)

-- The typed tree of a program.
unfoldable pub resolve : Program → ir.Body
resolve p = resolve_b (program_table p) p.body
