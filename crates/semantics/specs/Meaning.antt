-- What a source means, defined on its tree without its code.
use Rattle.std.specs.Prelude.{◌≡◌, ℕ, zero, suc, ◌+◌, ◌<◌, ◌≤◌, Bool, true, false, cond, Ok, Result, bit_and, bit_or, bit_xor}
use Rattle.arith.specs.declared.stop.Stop.{Stop}
use Rattle.arith.specs.Integers.{sum, difference, product, quotient, remainder, negation, subscript, case_index}
use Rattle.arith.specs.Logicals.{lsum, ldifference, lproduct, lquotient, lremainder, odd}
use Rattle.arith.specs.Relations.{comparison, lcomparison}
use Rattle.arith.specs.Bits.{complement}
use Rattle.arith.specs.Fields.{is_field, field, with_field}
use Rattle.arith.specs.Shifts.{shift_of}
use Rattle.ir.specs.Trees.{Op, add, sub, mul, div, rem, ladd, lsub, lmul, ldiv, lrem, cmp, lcmp, land, lor, lxor, Uop, neg, not, fld, shf, Expr, lit, var, pick, bin, un, Clause, test, and, Cond, only, or, Stmt, assign, fill, deposit, deposit_at, when, either, while, repeat, for, case, Body, end, then, Arms, last, arm, size}
use Rattle.semantics.specs.Effects.{M, bind, ret, loop, until, prim, says, load, store, element, put_element, goes_on, advance}

-- What an operation on two words gives; y is the left word.
unfoldable pub works : Op → (y x : ℕ) → Result ℕ Stop
works add y x = sum y x
works sub y x = difference y x
works mul y x = product y x
works div y x = quotient y x
works rem y x = remainder y x
works ladd y x = Ok (lsum y x)
works lsub y x = Ok (ldifference y x)
works lmul y x = Ok (lproduct y x)
works ldiv y x = lquotient y x
works lrem y x = lremainder y x
works (cmp r) y x = Ok (comparison r y x)
works (lcmp r) y x = Ok (lcomparison r y x)
works land y x = Ok (bit_and y x)
works lor y x = Ok (bit_or y x)
works lxor y x = Ok (bit_xor y x)

-- What an operation on one word gives.
unfoldable pub works_on : Uop → ℕ → Result ℕ Stop
works_on neg x = negation x
works_on not x = Ok (complement x)
works_on (fld a b) x = Ok (field a b x)
works_on (shf k n) x = Ok (shift_of k n x)

-- The word of an expression. Its operands are worked out from left to right.
unfoldable pub eval : Expr → M ℕ
eval (lit w) = prim (says (Ok w))
eval (var c) = prim (load c)
eval (pick b n i) = bind (eval i) (λ x. prim (element b n x))
eval (bin o l r) = bind (eval l) (λ y. bind (eval r) (λ x. prim (says (works o y x))))
eval (un o e) = bind (eval e) (λ x. prim (says (works_on o x)))

-- Whether a clause is true. A word counts as true exactly when it is odd. After a false expression the rest of the
-- clause is not worked out.
unfoldable pub holds_l : Clause → M Bool
holds_l (test e) = bind (eval e) (λ w. prim (says (Ok (odd w))))
holds_l (and e c) = bind (eval e) (λ w. bind (prim (says (Ok (odd w)))) (λ y. cond y (holds_l c) (ret false)))

-- Whether a condition is true. After a true clause the rest is not worked out.
unfoldable pub holds : Cond → M Bool
holds (only c) = holds_l c
holds (or c d) = bind (holds_l c) (λ y. cond y (ret true) (holds d))

unfoldable mutual
  -- what a statement does, if each execution of each loop makes at most k turns
  pub exec_s : Stmt → (k : ℕ) → M (Unit {0})
  exec_s (assign c e) k = bind (eval e) (λ w. prim (store c w))
  -- the subscript is tested before the value is worked out
  exec_s (fill b n i e) k =
      bind (eval i) (λ x. bind (prim (says (subscript x n))) (λ j. bind (eval e) (λ w. prim (store (b + j) w))))
  -- the old word is read before the value is worked out, and the whole word is written once
  exec_s (deposit c a m e) k = bind (prim (load c)) (λ v. bind (eval e) (λ w. prim (store c (with_field a m v w))))
  exec_s (deposit_at b n i a m e) k =
      bind (eval i) (λ x. bind (prim (element b n x)) (λ v. bind (eval e) (λ w. prim (put_element b n x (with_field a m v w)))))
  exec_s (when c b) k = bind (holds c) (λ y. cond y (exec b k) (ret tt))
  exec_s (either c b d) k = bind (holds c) (λ y. cond y (exec b k) (exec d k))
  exec_s (while c b) k = loop k (holds c) (exec b k)
  exec_s (repeat b c) k = until k (exec b k) (holds c)
  -- the first value is written; then the step and the limit are worked out, each once; each turn ends with a write of
  -- the variable plus the step
  exec_s (for c e s l b) k =
      bind (eval e)
      (λ v. bind (prim (store c v)) (λ _. bind (eval s) (λ x. bind (eval l) (λ y. loop k (prim (goes_on c x y)) (bind (exec b k) (λ _. prim (advance c x)))))))
  exec_s (case e a) k = bind (eval e) (λ x. bind (prim (says (case_index x (size a)))) (λ i. choice a k i))

  -- a list of statements, one after another
  pub exec : Body → (k : ℕ) → M (Unit {0})
  exec end k = ret tt
  exec (then s b) k = bind (exec_s s k) (λ _. exec b k)

  -- the i-th statement of a CASE, counted from 0
  pub choice : Arms → (k i : ℕ) → M (Unit {0})
  choice (last b) k i = exec b k
  choice (arm b a) k zero = exec b k
  choice (arm b a) k (suc i) = choice a k i

-- The numbers of an operation on one word are in range: a field lies in a word, and a shift is by at most 15.
abbrev pub WithinU : Uop → Type 0
WithinU neg = Unit {0}
WithinU not = Unit {0}
WithinU (fld a b) = is_field a b ≡ true
WithinU (shf k c) = c ≤ 15

-- Every cell that an expression names is one of the first n, and its numbers are in range.
abbrev pub WithinE : ℕ → Expr → Type 0
WithinE n (lit w) = Unit {0}
WithinE n (var c) = c < n
WithinE n (pick b m i) = (b + m ≤ n) × WithinE n i
WithinE n (bin o l r) = WithinE n l × WithinE n r
WithinE n (un o e) = WithinU o × WithinE n e

-- Every cell that a clause names is one of the first n, and its numbers are in range.
abbrev pub WithinL : ℕ → Clause → Type 0
WithinL n (test e) = WithinE n e
WithinL n (and e c) = WithinE n e × WithinL n c

-- Every cell that a condition names is one of the first n, and its numbers are in range.
abbrev pub WithinC : ℕ → Cond → Type 0
WithinC n (only c) = WithinL n c
WithinC n (or c d) = WithinL n c × WithinC n d

abbrev mutual
  -- Every cell that a statement names is one of the first n, and its numbers are in range.
  pub WithinS : Stmt → ℕ → Type 0
  WithinS (assign c e) n = (c < n) × WithinE n e
  WithinS (fill b m i e) n = (b + m ≤ n) × WithinE n i × WithinE n e
  WithinS (deposit c a m e) n = (c < n) × (is_field a m ≡ true) × WithinE n e
  WithinS (deposit_at b m i a w e) n = (b + m ≤ n) × (is_field a w ≡ true) × WithinE n i × WithinE n e
  WithinS (when c b) n = WithinC n c × Within b n
  WithinS (either c b d) n = WithinC n c × Within b n × Within d n
  WithinS (while c b) n = WithinC n c × Within b n
  WithinS (repeat b c) n = Within b n × WithinC n c
  WithinS (for c e s l b) n = (c < n) × WithinE n e × WithinE n s × WithinE n l × Within b n
  WithinS (case e a) n = WithinE n e × WithinA a n

  -- Every cell that a list of statements names is one of the first n, and its numbers are in range.
  pub Within : Body → ℕ → Type 0
  Within end n = Unit {0}
  Within (then s b) n = WithinS s n × Within b n

  -- Every cell that the statements of a CASE name is one of the first n, and their numbers are in range.
  pub WithinA : Arms → ℕ → Type 0
  WithinA (last b) n = Within b n
  WithinA (arm b a) n = Within b n × WithinA a n
