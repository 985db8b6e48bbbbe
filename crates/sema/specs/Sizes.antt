-- The stage of sizes: fields, shifts and low bounds in their range, and at most 4,096 cells.
use Rattle.std.specs.Prelude.{ℕ, ◌+◌, List, [], ◌∷◌, Some, None, Option, ◌==◌, nat_le}
use Rattle.base.specs.Limits.{most_cells}
use Rattle.base.specs.declared.refusal.Refusal.{Refusal}
use Rattle.arith.specs.Fields.{is_field}
use Rattle.parser.specs.Nodes.{Node}
use Rattle.parser.specs.Nodes as node
use Rattle.ast.specs.Trees.{Expr, number, load, index, binary, negate, lnot, convert, field, shift, Clause, test, and, Cond, only, or, Step, absent, by, Stmt, assign, assign_at, deposit, deposit_at, when, either, choose, while, repeat, count, Body, end, then, Arms, last, arm, Decl, simple, array, Program}
use Rattle.sema.specs.Faults.{also, unless}
use Rattle.sema.specs.Tables.{Table, row_of}
use Rattle.sema.specs.Names.{DeclaredName, decl_of, program_table}

-- 12 at the place p if the numbers are not those of a field in a word.
abbrev pub bits_fault : (a b p : ℕ) → Option Refusal
bits_fault a b p = unless (is_field a b) 12 p

-- 12 at the offset p if a shift is by more than 15.
abbrev pub shift_fault : (c p : ℕ) → Option Refusal
shift_fault c p = unless (nat_le c 15) 12 p

-- 12 at the offset p if a low bound is not 0.
abbrev pub bound_fault : (low p : ℕ) → Option Refusal
bound_fault l p = unless (l == 0) 12 p

-- The fault of the numbers of a node, if it has one.
abbrev pub range_fault : Node → Option Refusal
range_fault (node.Array n k l h p q) = bound_fault l q
range_fault (node.Field a b p) = bits_fault a b p
range_fault (node.Deposit a b p) = bits_fault a b p
range_fault (node.Shift s c p) = shift_fault c p
range_fault _ = None

-- 13 at a name whose cells go past 4,096. The first of such names decides.
unfoldable pub cells_at : Table → List ℕ → ℕ → Option Refusal
cells_at t n p = unless (nat_le ((row_of t n).cell + (row_of t n).cells) most_cells) 13 p

-- 13 at a declaration, if there is one and its cells go past 4,096.
abbrev pub cells_fault : Table → Option DeclaredName → Option Refusal
cells_fault t None = None
cells_fault t (Some d) = cells_at t d.name d.offset

-- The faults of sizes in a list of nodes.
abbrev pub size_faults : Table → List Node → List Refusal
size_faults t [] = []
size_faults t (e ∷ es) = also (cells_fault t (decl_of e)) (also (range_fault e) (size_faults t es))

-- The same on the tree. Each definition puts the faults of its part of the tree before the faults fs that follow.

-- The faults of sizes in declarations.
abbrev pub sizes_d : Table → List Decl → List Refusal → List Refusal
sizes_d t [] fs = fs
sizes_d t (simple n k p ∷ ds) fs = also (cells_at t n p) (sizes_d t ds fs)
sizes_d t (array n k l h p q ∷ ds) fs = also (cells_at t n p) (also (bound_fault l q) (sizes_d t ds fs))

-- The faults of sizes in an expression.
abbrev pub sizes_e : Expr → List Refusal → List Refusal
sizes_e (number v k) fs = fs
sizes_e (load n p) fs = fs
sizes_e (index n p q e) fs = sizes_e e fs
sizes_e (binary o p a b) fs = sizes_e a (sizes_e b fs)
sizes_e (negate p a) fs = sizes_e a fs
sizes_e (lnot p a) fs = sizes_e a fs
sizes_e (convert k a) fs = sizes_e a fs
sizes_e (field a b p e) fs = sizes_e e (also (bits_fault a b p) fs)
sizes_e (shift s c p e) fs = sizes_e e (also (shift_fault c p) fs)

-- The faults of sizes in a clause.
abbrev pub sizes_l : Clause → List Refusal → List Refusal
sizes_l (test p e) fs = sizes_e e fs
sizes_l (and p e c) fs = sizes_e e (sizes_l c fs)

-- The faults of sizes in a condition.
abbrev pub sizes_c : Cond → List Refusal → List Refusal
sizes_c (only c) fs = sizes_l c fs
sizes_c (or c d) fs = sizes_l c (sizes_c d fs)

-- The faults of sizes in the step of a FOR.
abbrev pub sizes_p : Step → List Refusal → List Refusal
sizes_p absent fs = fs
sizes_p (by e) fs = sizes_e e fs

abbrev mutual
  -- The faults of sizes in a statement.
  pub sizes_s : Stmt → List Refusal → List Refusal
  sizes_s (assign n p q e) fs = sizes_e e fs
  sizes_s (assign_at n p o i q e) fs = sizes_e i (sizes_e e fs)
  sizes_s (deposit n p a b f q e) fs = sizes_e e (also (bits_fault a b f) fs)
  sizes_s (deposit_at n p o i a b f q e) fs = sizes_e i (sizes_e e (also (bits_fault a b f) fs))
  sizes_s (when c b) fs = sizes_c c (sizes_b b fs)
  sizes_s (either c b d) fs = sizes_c c (sizes_b b (sizes_b d fs))
  sizes_s (choose p e a) fs = sizes_e e (sizes_a a fs)
  sizes_s (while c b) fs = sizes_c c (sizes_b b fs)
  sizes_s (repeat b c) fs = sizes_b b (sizes_c c fs)
  sizes_s (count n p f e s l b) fs = sizes_e e (sizes_p s (sizes_e l (sizes_b b fs)))

  -- The faults of sizes in a list of statements.
  pub sizes_b : Body → List Refusal → List Refusal
  sizes_b end fs = fs
  sizes_b (then s b) fs = sizes_s s (sizes_b b fs)

  -- The faults of sizes in the statements of a CASE.
  pub sizes_a : Arms → List Refusal → List Refusal
  sizes_a (last b) fs = sizes_b b fs
  sizes_a (arm b a) fs = sizes_b b (sizes_a a fs)

-- The faults of sizes of a program.
unfoldable pub program_sizes : Program → List Refusal
program_sizes p = sizes_d (program_table p) p.decls (sizes_b p.body [])
