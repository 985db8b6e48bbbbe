-- A source as a tree. Blocks and empty statements are not kept: a body is its statements in order. A number that is
-- called `offset`, or has the name of a token, is the offset of that token in the source.
use Rattle.std.specs.Prelude.{List, ℕ}
use Rattle.parser.specs.declared.value_type.ValueType.{ValueType}
use Rattle.parser.specs.declared.node.Operator.{Operator}
use Rattle.arith.specs.declared.shift.Kind.{Kind as ShiftKind}

-- An expression.
pub data Expr : Type 0 where
  number : (value : ℕ) (value_type : ValueType) → Expr
  load : (name : List ℕ) (offset : ℕ) → Expr
  -- a cell of an array: `paren` is the offset of its parenthesis
  index : (name : List ℕ) (offset paren : ℕ) (subscript : Expr) → Expr
  binary : (operator : Operator) (offset : ℕ) (left right : Expr) → Expr
  negate : (offset : ℕ) (operand : Expr) → Expr
  lnot : (offset : ℕ) (operand : Expr) → Expr
  convert : (value_type : ValueType) (operand : Expr) → Expr
  -- `offset` is the offset of the first number of a field, and that of the count of a shift
  field : (first second offset : ℕ) (operand : Expr) → Expr
  shift : (shift : ShiftKind) (count offset : ℕ) (operand : Expr) → Expr

-- Expressions joined by AND, each with the offset of its first token.
pub data Clause : Type 0 where
  test : (offset : ℕ) (expr : Expr) → Clause
  and : (offset : ℕ) (expr : Expr) (rest : Clause) → Clause

-- Clauses joined by OR.
pub data Cond : Type 0 where
  only : (clause : Clause) → Cond
  or : (clause : Clause) (rest : Cond) → Cond

-- The step of a FOR: none is written, or this one.
pub data Step : Type 0 where
  absent : Step
  by : (step : Expr) → Step

mutual
  -- A statement.
  pub data Stmt : Type 0 where
    -- `becomes` is the offset of `:=`
    assign : (name : List ℕ) (offset becomes : ℕ) (value : Expr) → Stmt
    assign_at : (name : List ℕ) (offset paren : ℕ) (subscript : Expr) (becomes : ℕ) (value : Expr) → Stmt
    -- assignments to a field: `bits` is the offset of its first number
    deposit : (name : List ℕ) (offset : ℕ) (first second bits : ℕ) (becomes : ℕ) (value : Expr) → Stmt
    deposit_at : (name : List ℕ) (offset paren : ℕ) (subscript : Expr) (first second bits : ℕ) (becomes : ℕ) (value : Expr) → Stmt
    when : (condition : Cond) (body : Body) → Stmt
    either : (condition : Cond) (body : Body) (otherwise : Body) → Stmt
    choose : (offset : ℕ) (index : Expr) (arms : Arms) → Stmt
    while : (condition : Cond) (body : Body) → Stmt
    repeat : (body : Body) (condition : Cond) → Stmt
    -- `for` is the offset of FOR
    count : (name : List ℕ) (offset for : ℕ) (first : Expr) (step : Step) (limit : Expr) (body : Body) → Stmt

  -- Statements, one after another.
  pub data Body : Type 0 where
    end : Body
    then : (statement : Stmt) (rest : Body) → Body

  -- The statements of a CASE. There is at least one.
  pub data Arms : Type 0 where
    last : (body : Body) → Arms
    arm : (body : Body) (rest : Arms) → Arms

-- A declared name; `bound` is the offset of the low bound.
pub data Decl : Type 0 where
  simple : (name : List ℕ) (value_type : ValueType) (offset : ℕ) → Decl
  array : (name : List ℕ) (value_type : ValueType) (low high offset bound : ℕ) → Decl

-- A program: its declarations and its statements.
pub record Program : Type 0 where
  pub decls : List Decl
  pub body : Body

-- The statements of one body, then those of another.
abbrev pub sequence : Body → Body → Body
sequence end c = c
sequence (then s b) c = then s (sequence b c)
