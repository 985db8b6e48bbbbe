-- The stage of sizes finds no fault exactly where the sizes are in order. Assumes nothing.
use Rattle.std.proofs.Common.{◌≡◌, ℕ, ◌+◌, ◌≤◌, true, leb, eqb, List, [], ◌∷◌, Some, None, Option, refl, ap, ◌∙◌, subst, arith}
use Rattle.std.proofs.lemmas.Bool.{leb-true, le-leb, eqb-true, eq-eqb}
use Rattle.base.specs.declared.refusal.Refusal.{Refusal}
use Rattle.arith.specs.Fields.{is_field}
use Rattle.ast.specs.Trees.{Expr, number, load, index, binary, negate, lnot, convert, field, shift, Clause, test, and, Cond, only, or, Step, absent, by, Stmt, assign, assign_at, deposit, deposit_at, when, either, choose, while, repeat, count, Body, end, then, Arms, last, arm, Decl, simple, array, Program}
use Rattle.ast.specs.Lists.{list}
use Rattle.sema.specs.Faults.{also, least}
use Rattle.sema.specs.Tables.{Row, Table, look, row_or_none, row_of, empty}
use Rattle.sema.specs.Names.{table_from, program_table}
use Rattle.sema.specs.Sizes.{bits_fault, shift_fault, bound_fault, cells_at, size_faults, sizes_d, sizes_e, sizes_l, sizes_c, sizes_p, sizes_s, sizes_b, sizes_a, program_sizes}
use Rattle.sema.specs.Rules.{RangesHoldE, RangesHoldL, RangesHoldC, RangesHoldP, RangesHoldS, RangesHoldB, RangesHoldA, Lows, RangesHold}
use Rattle.sema.proofs.Narrowing.{least_none, also_none, total_list}
use Rattle.sema.proofs.Faultless.{tested, untold, none_least}
use Rattle.sema.proofs.Laying.{Good}
use Rattle.sema.proofs.NamedCells.{laid_each, each_found, table_good}
use Rattle.sema.proofs.OnNames.{table_program}
use Rattle.sema.proofs.OnSizes.{sizes_program}

bits_there : (a b p : ℕ) (fs : List Refusal) → also (bits_fault a b p) fs ≡ [] → (is_field a b ≡ true) × (fs ≡ [])
bits_there a b p fs h = tested (is_field a b) 12 p fs h

shift_there : (c p : ℕ) (fs : List Refusal) → also (shift_fault c p) fs ≡ [] → (c ≤ 15) × (fs ≡ [])
shift_there c p fs h =
    let x = tested (leb c 15) 12 p fs h in
    (leb-true c 15 x.0, x.1)

there_e : (e : Expr) (fs : List Refusal) → sizes_e e fs ≡ [] → RangesHoldE e × (fs ≡ [])
there_e (number v k) fs h = (tt, h)
there_e (load n p) fs h = (tt, h)
there_e (index n p q e) fs h = there_e e fs h
there_e (binary o p a b) fs h =
    let x = there_e a (sizes_e b fs) h in
    let y = there_e b fs x.1 in
    ((x.0, y.0), y.1)
there_e (negate p a) fs h = there_e a fs h
there_e (lnot p a) fs h = there_e a fs h
there_e (convert k a) fs h = there_e a fs h
there_e (field a b p e) fs h =
    let x = there_e e (also (bits_fault a b p) fs) h in
    let y = bits_there a b p fs x.1 in
    ((y.0, x.0), y.1)
there_e (shift s c p e) fs h =
    let x = there_e e (also (shift_fault c p) fs) h in
    let y = shift_there c p fs x.1 in
    ((y.0, x.0), y.1)

there_l : (c : Clause) (fs : List Refusal) → sizes_l c fs ≡ [] → RangesHoldL c × (fs ≡ [])
there_l (test p e) fs h = there_e e fs h
there_l (and p e c) fs h =
    let x = there_e e (sizes_l c fs) h in
    let y = there_l c fs x.1 in
    ((x.0, y.0), y.1)

there_c : (c : Cond) (fs : List Refusal) → sizes_c c fs ≡ [] → RangesHoldC c × (fs ≡ [])
there_c (only c) fs h = there_l c fs h
there_c (or c d) fs h =
    let x = there_l c (sizes_c d fs) h in
    let y = there_c d fs x.1 in
    ((x.0, y.0), y.1)

there_p : (s : Step) (fs : List Refusal) → sizes_p s fs ≡ [] → RangesHoldP s × (fs ≡ [])
there_p absent fs h = (tt, h)
there_p (by e) fs h = there_e e fs h

mutual
  there_s : (s : Stmt) (fs : List Refusal) → sizes_s s fs ≡ [] → RangesHoldS s × (fs ≡ [])
  there_s (assign n p q e) fs h = there_e e fs h
  there_s (assign_at n p o i q e) fs h =
      let x = there_e i (sizes_e e fs) h in
      let y = there_e e fs x.1 in
      ((x.0, y.0), y.1)
  there_s (deposit n p a b f q e) fs h =
      let x = there_e e (also (bits_fault a b f) fs) h in
      let y = bits_there a b f fs x.1 in
      ((y.0, x.0), y.1)
  there_s (deposit_at n p o i a b f q e) fs h =
      let x = there_e i (sizes_e e (also (bits_fault a b f) fs)) h in
      let y = there_e e (also (bits_fault a b f) fs) x.1 in
      let z = bits_there a b f fs y.1 in
      ((z.0, x.0, y.0), z.1)
  there_s (when c b) fs h =
      let x = there_c c (sizes_b b fs) h in
      let y = there_b b fs x.1 in
      ((x.0, y.0), y.1)
  there_s (either c b d) fs h =
      let x = there_c c (sizes_b b (sizes_b d fs)) h in
      let y = there_b b (sizes_b d fs) x.1 in
      let z = there_b d fs y.1 in
      ((x.0, y.0, z.0), z.1)
  there_s (choose p e a) fs h =
      let x = there_e e (sizes_a a fs) h in
      let y = there_a a fs x.1 in
      ((x.0, y.0), y.1)
  there_s (while c b) fs h =
      let x = there_c c (sizes_b b fs) h in
      let y = there_b b fs x.1 in
      ((x.0, y.0), y.1)
  there_s (repeat b c) fs h =
      let x = there_b b (sizes_c c fs) h in
      let y = there_c c fs x.1 in
      ((x.0, y.0), y.1)
  there_s (count n p f e s l b) fs h =
      let x = there_e e (sizes_p s (sizes_e l (sizes_b b fs))) h in
      let y = there_p s (sizes_e l (sizes_b b fs)) x.1 in
      let z = there_e l (sizes_b b fs) y.1 in
      let w = there_b b fs z.1 in
      ((x.0, y.0, z.0, w.0), w.1)

  there_b : (b : Body) (fs : List Refusal) → sizes_b b fs ≡ [] → RangesHoldB b × (fs ≡ [])
  there_b end fs h = (tt, h)
  there_b (then s b) fs h =
      let x = there_s s (sizes_b b fs) h in
      let y = there_b b fs x.1 in
      ((x.0, y.0), y.1)

  there_a : (a : Arms) (fs : List Refusal) → sizes_a a fs ≡ [] → RangesHoldA a × (fs ≡ [])
  there_a (last b) fs h = there_b b fs h
  there_a (arm b a) fs h =
      let x = there_b b (sizes_a a fs) h in
      let y = there_a a fs x.1 in
      ((x.0, y.0), y.1)

bits_back : (a b p : ℕ) (fs : List Refusal) → is_field a b ≡ true → also (bits_fault a b p) fs ≡ fs
bits_back a b p fs e = untold (is_field a b) 12 p fs e

shift_back : (c p : ℕ) (fs : List Refusal) → c ≤ 15 → also (shift_fault c p) fs ≡ fs
shift_back c p fs l = untold (leb c 15) 12 p fs (le-leb c 15 l)

back_e : (e : Expr) (fs : List Refusal) → RangesHoldE e → sizes_e e fs ≡ fs
back_e (number v k) fs d = refl
back_e (load n p) fs d = refl
back_e (index n p q e) fs d = back_e e fs d
back_e (binary o p a b) fs d = back_e a _ d.0 ∙ back_e b fs d.1
back_e (negate p a) fs d = back_e a fs d
back_e (lnot p a) fs d = back_e a fs d
back_e (convert k a) fs d = back_e a fs d
back_e (field a b p e) fs d = back_e e _ d.1 ∙ bits_back a b p fs d.0
back_e (shift s c p e) fs d = back_e e _ d.1 ∙ shift_back c p fs d.0

back_l : (c : Clause) (fs : List Refusal) → RangesHoldL c → sizes_l c fs ≡ fs
back_l (test p e) fs d = back_e e fs d
back_l (and p e c) fs d = back_e e _ d.0 ∙ back_l c fs d.1

back_c : (c : Cond) (fs : List Refusal) → RangesHoldC c → sizes_c c fs ≡ fs
back_c (only c) fs d = back_l c fs d
back_c (or c e) fs d = back_l c _ d.0 ∙ back_c e fs d.1

back_p : (s : Step) (fs : List Refusal) → RangesHoldP s → sizes_p s fs ≡ fs
back_p absent fs d = refl
back_p (by e) fs d = back_e e fs d

mutual
  back_s : (s : Stmt) (fs : List Refusal) → RangesHoldS s → sizes_s s fs ≡ fs
  back_s (assign n p q e) fs d = back_e e fs d
  back_s (assign_at n p o i q e) fs d = back_e i _ d.0 ∙ back_e e fs d.1
  back_s (deposit n p a b f q e) fs d = back_e e _ d.1 ∙ bits_back a b f fs d.0
  back_s (deposit_at n p o i a b f q e) fs d = back_e i _ d.1 ∙ back_e e _ d.2 ∙ bits_back a b f fs d.0
  back_s (when c b) fs d = back_c c _ d.0 ∙ back_b b fs d.1
  back_s (either c b e) fs d = back_c c _ d.0 ∙ back_b b _ d.1 ∙ back_b e fs d.2
  back_s (choose p e a) fs d = back_e e _ d.0 ∙ back_a a fs d.1
  back_s (while c b) fs d = back_c c _ d.0 ∙ back_b b fs d.1
  back_s (repeat b c) fs d = back_b b _ d.0 ∙ back_c c fs d.1
  back_s (count n p f e s l b) fs d = back_e e _ d.0 ∙ back_p s _ d.1 ∙ back_e l _ d.2 ∙ back_b b fs d.3

  back_b : (b : Body) (fs : List Refusal) → RangesHoldB b → sizes_b b fs ≡ fs
  back_b end fs d = refl
  back_b (then s b) fs d = back_s s _ d.0 ∙ back_b b fs d.1

  back_a : (a : Arms) (fs : List Refusal) → RangesHoldA a → sizes_a a fs ≡ fs
  back_a (last b) fs d = back_b b fs d
  back_a (arm b a) fs d = back_b b _ d.0 ∙ back_a a fs d.1

bound_there : (l q : ℕ) (fs : List Refusal) → also (bound_fault l q) fs ≡ [] → (l ≡ 0) × (fs ≡ [])
bound_there l q fs h =
    let x = tested (eqb l 0) 12 q fs h in
    (eqb-true l 0 x.0, x.1)

there_d : (t : Table) (ds : List Decl) (fs : List Refusal) → sizes_d t ds fs ≡ [] → Lows ds × (fs ≡ [])
there_d t [] fs h = (tt, h)
there_d t (simple n k p ∷ ds) fs h = there_d t ds fs (also_none (cells_at t n p) (sizes_d t ds fs) h).1
there_d t (array n k l u p q ∷ ds) fs h =
    let x = bound_there l q (sizes_d t ds fs) (also_none (cells_at t n p) (also (bound_fault l q) (sizes_d t ds fs)) h).1 in
    let y = there_d t ds fs x.1 in
    ((x.0, y.0), y.1)

-- the list of the program tells that its cells are few
cells_there : (p : Program) → program_sizes p ≡ [] → (program_table p).cells ≤ 4096
cells_there p h =
    let e : size_faults (table_from empty (list p)) (list p) ≡ [] = ap (λ t. size_faults t (list p)) (table_program p) ∙ sizes_program p ∙ h in
    subst (λ t. t.cells ≤ 4096) (table_program p) (total_list (list p) e)

pub ranged_there : (p : Program) → least (program_sizes p) ≡ None → RangesHold p
unfolding program_sizes
ranged_there p h =
    let e = least_none (program_sizes p) h in
    let x = there_d (program_table p) p.decls (sizes_b p.body []) e in
    record { lows = x.0; cells = cells_there p e; body = (there_b p.body [] x.1).0 }

-- the cells of no name end past those of the table
found_low : (t : Table) → Good t → (o : Option Row) (n : List ℕ) → look t.rows n ≡ o → t.cells ≤ 4096 → (row_or_none o).cell + (row_or_none o).cells ≤ 4096
found_low t g None n e l = omega arith
found_low t g (Some r) n e l = omega (arith, l, each_found (λ r. r.cell + r.cells ≤ t.cells) t.rows n r (laid_each 0 t.rows t.cells g.laid).1 e)

module _ (t : Table) (g : Good t) (l : t.cells ≤ 4096) where
  cells_back : (n : List ℕ) (p : ℕ) (fs : List Refusal) → also (cells_at t n p) fs ≡ fs
  unfolding cells_at row_of
  cells_back n p fs = untold _ 13 p fs (le-leb _ 4096 (found_low t g (look t.rows n) n refl l))

  back_d : (ds : List Decl) (fs : List Refusal) → Lows ds → sizes_d t ds fs ≡ fs
  back_d [] fs d = refl
  back_d (simple n k p ∷ ds) fs d = cells_back n p _ ∙ back_d ds fs d
  back_d (array n k u h p q ∷ ds) fs d = cells_back n p _ ∙ untold (eqb u 0) 12 q _ (eq-eqb u 0 d.0) ∙ back_d ds fs d.1

pub ranged_back : (p : Program) → RangesHold p → least (program_sizes p) ≡ None
unfolding program_sizes
ranged_back p d =
    none_least (program_sizes p)
    (back_d (program_table p) (table_good p) d.cells p.decls (sizes_b p.body []) d.lows ∙ back_b p.body [] d.body)
