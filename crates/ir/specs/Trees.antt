-- The typed tree of a source: names are cells, and each operator is one of INTEGERs or of LOGICALs. What a source
-- does is defined on this tree.
use Rattle.std.specs.Prelude.{ℕ, suc}
use Rattle.arith.specs.declared.relation.Relation.{Relation}
use Rattle.arith.specs.declared.shift.Kind.{Kind}

-- An operation on two words. A name that begins with l is that of an operation on LOGICALs.
pub data Op : Type 0 where
  add sub mul div rem : Op
  ladd lsub lmul ldiv lrem : Op
  cmp lcmp : Relation → Op
  land lor lxor : Op

-- An operation on one word.
pub data Uop : Type 0 where
  neg not : Uop
  fld : (a b : ℕ) → Uop
  shf : (kind : Kind) (count : ℕ) → Uop

-- An expression.
pub data Expr : Type 0 where
  lit : (word : ℕ) → Expr
  var : (cell : ℕ) → Expr
  -- a cell of an array, with the array's first cell and the number of its cells
  pick : (base size : ℕ) (subscript : Expr) → Expr
  bin : (op : Op) (left right : Expr) → Expr
  un : (op : Uop) (operand : Expr) → Expr

-- Expressions joined by AND.
pub data Clause : Type 0 where
  test : (expr : Expr) → Clause
  and : (expr : Expr) (rest : Clause) → Clause

-- Clauses joined by OR.
pub data Cond : Type 0 where
  only : (clause : Clause) → Cond
  or : (clause : Clause) (rest : Cond) → Cond

mutual
  -- A statement.
  pub data Stmt : Type 0 where
    assign : (cell : ℕ) (value : Expr) → Stmt
    fill : (base size : ℕ) (subscript value : Expr) → Stmt
    -- assignments to b bits from bit a: of a cell, and of a cell of an array
    deposit : (cell a b : ℕ) (value : Expr) → Stmt
    deposit_at : (base size : ℕ) (subscript : Expr) (a b : ℕ) (value : Expr) → Stmt
    when : (condition : Cond) (body : Body) → Stmt
    either : (condition : Cond) (body otherwise : Body) → Stmt
    while : (condition : Cond) (body : Body) → Stmt
    repeat : (body : Body) (condition : Cond) → Stmt
    for : (cell : ℕ) (first step limit : Expr) (body : Body) → Stmt
    case : (index : Expr) (arms : Arms) → Stmt

  -- Statements, one after another.
  pub data Body : Type 0 where
    end : Body
    then : (statement : Stmt) (rest : Body) → Body

  -- The statements of a CASE. There is at least one.
  pub data Arms : Type 0 where
    last : (body : Body) → Arms
    arm : (body : Body) (rest : Arms) → Arms

-- How many statements a CASE has.
abbrev pub size : Arms → ℕ
size (last b) = 1
size (arm b a) = suc (size a)
