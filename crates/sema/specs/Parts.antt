-- That something holds of some part of a tree.
use Rattle.std.specs.Prelude.{ℕ, ◌⊎◌, List, [], ◌∷◌}
use Rattle.ast.specs.Trees.{Expr, number, load, index, binary, negate, lnot, convert, field, shift, Clause, test, and, Cond, only, or, Step, absent, by, Stmt, assign, assign_at, deposit, deposit_at, when, either, choose, while, repeat, count, Body, end, then, Arms, last, arm, Decl}

-- Somewhere in the tree an expression satisfies E, or an expression of a condition, with its offset, satisfies T, or a
-- statement satisfies S.
module _ (E : Expr → Type 0) (T : ℕ → Expr → Type 0) (S : Stmt → Type 0) where
  abbrev pub SomeE : Expr → Type 0
  SomeE (number v k) = E (number v k)
  SomeE (load n p) = E (load n p)
  SomeE (index n p q e) = E (index n p q e) ⊎ SomeE e
  SomeE (binary o p a b) = E (binary o p a b) ⊎ SomeE a ⊎ SomeE b
  SomeE (negate p a) = E (negate p a) ⊎ SomeE a
  SomeE (lnot p a) = E (lnot p a) ⊎ SomeE a
  SomeE (convert k a) = E (convert k a) ⊎ SomeE a
  SomeE (field a b p e) = E (field a b p e) ⊎ SomeE e
  SomeE (shift s c p e) = E (shift s c p e) ⊎ SomeE e

  abbrev pub SomeL : Clause → Type 0
  SomeL (test p e) = T p e ⊎ SomeE e
  SomeL (and p e c) = (T p e ⊎ SomeE e) ⊎ SomeL c

  abbrev pub SomeC : Cond → Type 0
  SomeC (only c) = SomeL c
  SomeC (or c d) = SomeL c ⊎ SomeC d

  abbrev pub SomeP : Step → Type 0
  SomeP absent = ⊥
  SomeP (by e) = SomeE e

  abbrev mutual
    pub SomeS : Stmt → Type 0
    SomeS (assign n p q e) = S (assign n p q e) ⊎ SomeE e
    SomeS (assign_at n p o i q e) = S (assign_at n p o i q e) ⊎ SomeE i ⊎ SomeE e
    SomeS (deposit n p a b f q e) = S (deposit n p a b f q e) ⊎ SomeE e
    SomeS (deposit_at n p o i a b f q e) = S (deposit_at n p o i a b f q e) ⊎ SomeE i ⊎ SomeE e
    SomeS (when c b) = S (when c b) ⊎ SomeC c ⊎ SomeB b
    SomeS (either c b d) = S (either c b d) ⊎ SomeC c ⊎ SomeB b ⊎ SomeB d
    SomeS (choose p e a) = S (choose p e a) ⊎ SomeE e ⊎ SomeA a
    SomeS (while c b) = S (while c b) ⊎ SomeC c ⊎ SomeB b
    SomeS (repeat b c) = S (repeat b c) ⊎ SomeB b ⊎ SomeC c
    SomeS (count n p f e s l b) = S (count n p f e s l b) ⊎ SomeE e ⊎ SomeP s ⊎ SomeE l ⊎ SomeB b

    pub SomeB : Body → Type 0
    SomeB end = ⊥
    SomeB (then s b) = SomeS s ⊎ SomeB b

    pub SomeA : Arms → Type 0
    SomeA (last b) = SomeB b
    SomeA (arm b a) = SomeB b ⊎ SomeA a

-- Some declaration of the list satisfies P, which also speaks of the declarations before it, with the last of them
-- first. `before` are those before the list.
abbrev pub SomeDecl : (List Decl → Decl → Type 0) → List Decl → List Decl → Type 0
SomeDecl P before [] = ⊥
SomeDecl P before (d ∷ ds) = P before d ⊎ SomeDecl P (d ∷ before) ds
