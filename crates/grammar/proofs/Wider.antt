-- What is written within some levels is written within more. Assumes nothing.
use Rattle.std.proofs.Common.{ℕ, ◌-◌, ◌≤◌, List, arith}
use Rattle.lexer.specs.declared.token.Keyword.{Keyword}
use Rattle.parser.specs.Marks.{Tok}
use Rattle.ast.specs.Trees.{Expr, Clause, Cond, Step, Body, Arms, Program}
use Rattle.grammar.specs.Grammar.{Rank, ExprWritten, ClauseWritten, CondWritten, StepWritten, StatementWritten, Inside, ListWritten, ArmsWritten, ProgramWritten}
use Rattle.grammar.specs.Grammar as rule

expr_wider : {r : Rank} {l : ℕ} {e : Expr} {ts us : List Tok} → ExprWritten r l e ts us → (m : ℕ) → l ≤ m → ExprWritten r m e ts us
expr_wider (rule.up c w) m h = rule.up c (expr_wider w m h)
expr_wider (rule.binary j e v w) m h = rule.binary j e (expr_wider v m h) (expr_wider w m h)
expr_wider (rule.compare e v w) m h = rule.compare e (expr_wider v m h) (expr_wider w m h)
expr_wider (rule.lnot g w) m h = rule.lnot (omega arith) (expr_wider w (m - 1) (omega arith))
expr_wider (rule.negate w) m h = rule.negate (expr_wider w m h)
expr_wider (rule.field w f) m h = rule.field (expr_wider w m h) f
expr_wider (rule.shift e w) m h = rule.shift e (expr_wider w m h)
expr_wider (rule.number e) m h = rule.number e
expr_wider rule.load m h = rule.load
expr_wider (rule.index g w) m h = rule.index (omega arith) (expr_wider w (m - 1) (omega arith))
expr_wider (rule.paren g w) m h = rule.paren (omega arith) (expr_wider w (m - 1) (omega arith))
expr_wider (rule.convert e g w) m h = rule.convert e (omega arith) (expr_wider w (m - 1) (omega arith))

clause_wider : {l : ℕ} {c : Clause} {ts us : List Tok} → ClauseWritten l c ts us → (m : ℕ) → l ≤ m → ClauseWritten m c ts us
clause_wider (rule.test w) m h = rule.test (expr_wider w m h)
clause_wider (rule.and w v) m h = rule.and (expr_wider w m h) (clause_wider v m h)

cond_wider : {l : ℕ} {c : Cond} {ts us : List Tok} → CondWritten l c ts us → (m : ℕ) → l ≤ m → CondWritten m c ts us
cond_wider (rule.only w) m h = rule.only (clause_wider w m h)
cond_wider (rule.or w v) m h = rule.or (clause_wider w m h) (cond_wider v m h)

step_wider : {l : ℕ} {x : Step} {ts us : List Tok} → StepWritten l x ts us → (m : ℕ) → l ≤ m → StepWritten m x ts us
step_wider rule.absent m h = rule.absent
step_wider (rule.by w) m h = rule.by (expr_wider w m h)

mutual
  statement_wider : {l : ℕ} {b : Body} {ts us : List Tok} → StatementWritten l b ts us → (m : ℕ) → l ≤ m → StatementWritten m b ts us
  statement_wider rule.nothing m h = rule.nothing
  statement_wider (rule.assign w) m h = rule.assign (expr_wider w m h)
  statement_wider (rule.assign_at g w v) m h = rule.assign_at (omega arith) (expr_wider w (m - 1) (omega arith)) (expr_wider v m h)
  statement_wider (rule.deposit f w) m h = rule.deposit f (expr_wider w m h)
  statement_wider (rule.deposit_at g w f v) m h = rule.deposit_at (omega arith) (expr_wider w (m - 1) (omega arith)) f (expr_wider v m h)
  statement_wider (rule.opened g v) m h = rule.opened (omega arith) (inside_wider v (m - 1) (omega arith))

  inside_wider : {w : Keyword} {p l : ℕ} {b : Body} {ts us : List Tok} → Inside w p l b ts us → (m : ℕ) → l ≤ m → Inside w p m b ts us
  inside_wider (rule.block w) m h = rule.block (list_wider w m h)
  inside_wider (rule.when w v n) m h = rule.when (cond_wider w m h) (statement_wider v m h) n
  inside_wider (rule.either w v x) m h = rule.either (cond_wider w m h) (statement_wider v m h) (statement_wider x m h)
  inside_wider (rule.choose w v) m h = rule.choose (expr_wider w m h) (arms_wider v m h)
  inside_wider (rule.while w v) m h = rule.while (cond_wider w m h) (statement_wider v m h)
  inside_wider (rule.repeat w v) m h = rule.repeat (statement_wider w m h) (cond_wider v m h)
  inside_wider (rule.count w s v x) m h = rule.count (expr_wider w m h) (step_wider s m h) (expr_wider v m h) (statement_wider x m h)

  list_wider : {l : ℕ} {b : Body} {ts us : List Tok} → ListWritten l b ts us → (m : ℕ) → l ≤ m → ListWritten m b ts us
  list_wider (rule.final w) m h = rule.final (statement_wider w m h)
  list_wider (rule.next w v) m h = rule.next (statement_wider w m h) (list_wider v m h)

  arms_wider : {l : ℕ} {a : Arms} {ts us : List Tok} → ArmsWritten l a ts us → (m : ℕ) → l ≤ m → ArmsWritten m a ts us
  arms_wider (rule.last w) m h = rule.last (statement_wider w m h)
  arms_wider (rule.arm w v) m h = rule.arm (statement_wider w m h) (arms_wider v m h)

pub program_wider : {l : ℕ} {p : Program} {ts : List Tok} → ProgramWritten l p ts → (m : ℕ) → l ≤ m → ProgramWritten m p ts
program_wider (rule.program g w v) m h = rule.program (omega arith) w (list_wider v (m - 1) (omega arith))
