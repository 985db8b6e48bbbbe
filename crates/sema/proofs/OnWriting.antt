-- The typed list of the list of a tree is that of its typed tree. Assumes nothing.
use Rattle.std.proofs.Common.{◌≡◌, ℕ, zero, suc, List, [], ◌∷◌, refl, ap, ◌∙◌}
use Rattle.parser.specs.declared.value_type.ValueType.{ValueType}
use Rattle.parser.specs.Nodes.{Node}
use Rattle.parser.specs.Nodes as node
use Rattle.ast.specs.Trees.{Expr, number, load, index, binary, negate, lnot, convert, field, shift, Clause, test, and, Cond, only, or, Step, absent, by, Stmt, assign, assign_at, deposit, deposit_at, when, either, choose, while, repeat, count, Body, end, then, Arms, last, arm, Decl, simple, array, Program}
use Rattle.ast.specs.Lists.{list_e, list_l, list_c, list_p, list_s, list_b, list_a, list_ds, list}
use Rattle.sema.specs.Tables.{Table}
use Rattle.ir.specs.Trees.{size}
use Rattle.ir.specs.Lists.{items_e, items_l, items_c, items_s, items_b, items_a, items}
use Rattle.sema.specs.Names.{program_table}
use Rattle.sema.specs.Types.{type_e}
use Rattle.sema.specs.CaseArms.{Counts, first, more, counts_with, arm_counts}
use Rattle.sema.specs.Emitting.{writes, typed_list}
use Rattle.sema.specs.Resolving.{resolve_e, resolve_l, resolve_c, resolve_p, resolve_s, resolve_b, resolve_a, resolve}
use Rattle.sema.proofs.OnNames.{table_program}

-- the numbers of the CASEs in a statement, then those that follow
abbrev mutual
  counts_s : Stmt → List ℕ → List ℕ
  counts_s (assign n p q e) ms = ms
  counts_s (assign_at n p o i q e) ms = ms
  counts_s (deposit n p a b f q e) ms = ms
  counts_s (deposit_at n p o i a b f q e) ms = ms
  counts_s (when c b) ms = counts_b b ms
  counts_s (either c b d) ms = counts_b b (counts_b d ms)
  counts_s (choose p e a) ms = width a ∷ counts_a a ms
  counts_s (while c b) ms = counts_b b ms
  counts_s (repeat b c) ms = counts_b b ms
  counts_s (count n p f e s l b) ms = counts_b b ms

  counts_b : Body → List ℕ → List ℕ
  counts_b end ms = ms
  counts_b (then s b) ms = counts_s s (counts_b b ms)

  counts_a : Arms → List ℕ → List ℕ
  counts_a (last b) ms = counts_b b ms
  counts_a (arm b a) ms = counts_b b (counts_a a ms)

  -- how many arms there are
  width : Arms → ℕ
  width (last b) = 1
  width (arm b a) = suc (width a)

width_is : (t : Table) (a : Arms) → size (resolve_a t a) ≡ width a
width_is t (last b) = refl
width_is t (arm b a) = ap suc (width_is t a)

-- the count over expressions does nothing
count_e : (e : Expr) (r : List Node) → arm_counts (list_e e r) ≡ arm_counts r
count_e (number v k) r = refl
count_e (load n p) r = refl
count_e (index n p q e) r = count_e e (node.Index n p q ∷ r)
count_e (binary o p a b) r = count_e a (list_e b (node.Binary o p ∷ r)) ∙ count_e b (node.Binary o p ∷ r)
count_e (negate p a) r = count_e a (node.Negate p ∷ r)
count_e (lnot p a) r = count_e a (node.Lnot p ∷ r)
count_e (convert k a) r = count_e a (node.Convert k ∷ r)
count_e (field a b p e) r = count_e e (node.Field a b p ∷ r)
count_e (shift s c p e) r = count_e e (node.Shift s c p ∷ r)

count_l : (c : Clause) (r : List Node) → arm_counts (list_l c r) ≡ arm_counts r
count_l (test p e) r = count_e e (node.Test p ∷ r)
count_l (and p e c) r = count_e e (node.Test p ∷ list_l c r) ∙ count_l c r

count_c : (c : Cond) (r : List Node) → arm_counts (list_c c r) ≡ arm_counts r
count_c (only c) r = count_l c r
count_c (or c d) r = count_l c (node.Or ∷ list_c d r) ∙ count_c d r

count_p : (f : ℕ) (s : Step) (r : List Node) → arm_counts (list_p f s r) ≡ arm_counts r
count_p f absent r = refl
count_p f (by e) r = count_e e (node.Step f ∷ r)

abbrev closing : (List ℕ → List ℕ) → Counts → Counts
closing g x = record { opened = x.opened; closed = g x.closed }

abbrev adds : ℕ → List ℕ → List ℕ
adds zero os = os
adds (suc n) os = more (adds n os)

adds_more : (n m : ℕ) (os : List ℕ) → adds n (m ∷ os) ≡ (first (adds n (m ∷ os)) ∷ os)
adds_more zero m os = refl
adds_more (suc n) m os = rw (adds_more n m os)

adds_top : (n : ℕ) (os : List ℕ) → adds n (0 ∷ os) ≡ n ∷ os
adds_top zero os = refl
adds_top (suc n) os = rw (adds_top n os)

abbrev armed : ℕ → (List ℕ → List ℕ) → Counts → Counts
armed n g x = record { opened = adds n x.opened; closed = g x.closed }

mutual
  count_s : (s : Stmt) (r : List Node) → arm_counts (list_s s r) ≡ closing (counts_s s) (arm_counts r)
  count_s (assign n p q e) r = count_e e (node.Store n p q ∷ r)
  count_s (assign_at n p o i q e) r = count_e i (node.Checked n p o ∷ list_e e (node.StoreAt n p q ∷ r)) ∙ count_e e (node.StoreAt n p q ∷ r)
  count_s (deposit n p a b f q e) r = count_e e (node.Deposit a b f ∷ node.Store n p q ∷ r)
  count_s (deposit_at n p o i a b f q e) r =
      count_e i (node.FetchAt n p o ∷ list_e e (node.Deposit a b f ∷ node.StoreAt n p q ∷ r)) ∙ count_e e (node.Deposit a b f ∷ node.StoreAt n p q ∷ r)
  count_s (when c b) r = count_c c (node.Then ∷ list_b b (node.Fi ∷ r)) ∙ count_b b (node.Fi ∷ r)
  count_s (either c b d) r =
      count_c c (node.Then ∷ list_b b (node.Else ∷ list_b d (node.Fi ∷ r)))
      ∙ count_b b (node.Else ∷ list_b d (node.Fi ∷ r))
      ∙ ap (closing (counts_b b)) (count_b d (node.Fi ∷ r))
  count_s (choose p e a) r =
      count_e e (node.Case p ∷ list_a a (node.Esac ∷ r)) ∙ ap (counts_with (node.Case p)) (count_a a (node.Esac ∷ r)) ∙ rw (adds_top (width a) (arm_counts r).opened)
  count_s (while c b) r = count_c c (node.Then ∷ list_b b (node.Loop ∷ r)) ∙ count_b b (node.Loop ∷ r)
  count_s (repeat b c) r = count_b b (node.Until ∷ list_c c (node.Done ∷ r)) ∙ ap (closing (counts_b b)) (count_c c (node.Done ∷ r))
  count_s (count n p f e s l b) r =
      let w = node.Next n ∷ node.Drop ∷ r in
      let x = node.For n p f ∷ list_b b w in
      count_e e (node.First n p f ∷ list_p f s (list_e l x)) ∙ count_p f s (list_e l x) ∙ count_e l x ∙ count_b b w

  count_b : (b : Body) (r : List Node) → arm_counts (list_b b r) ≡ closing (counts_b b) (arm_counts r)
  count_b end r = refl
  count_b (then s b) r = count_s s (list_b b r) ∙ ap (closing (counts_s s)) (count_b b r)

  count_a : (a : Arms) (r : List Node) → arm_counts (list_a a r) ≡ armed (width a) (counts_a a) (arm_counts r)
  count_a (last b) r = ap (counts_with node.Arm) (count_b b (node.Out ∷ r))
  count_a (arm b a) r = ap (counts_with node.Arm) (count_b b (node.Out ∷ list_a a r) ∙ ap (closing (counts_b b)) (count_a a r))

module _ (t : Table) where
  write_e : (e : Expr) (r : List Node) (s : List ValueType) (ms : List ℕ) → writes t (list_e e r) s ms ≡ items_e (resolve_e t e) (writes t r (type_e t e ∷ s) ms)
  write_e (number v k) r s ms = refl
  write_e (load n p) r s ms = refl
  write_e (index n p q e) r s ms = write_e e (node.Index n p q ∷ r) s ms
  write_e (binary o p a b) r s ms =
      write_e a (list_e b (node.Binary o p ∷ r)) s ms ∙ ap (items_e (resolve_e t a)) (write_e b (node.Binary o p ∷ r) (type_e t a ∷ s) ms)
  write_e (negate p a) r s ms = write_e a (node.Negate p ∷ r) s ms
  write_e (lnot p a) r s ms = write_e a (node.Lnot p ∷ r) s ms
  write_e (convert k a) r s ms = write_e a (node.Convert k ∷ r) s ms
  write_e (field a b p e) r s ms = write_e e (node.Field a b p ∷ r) s ms
  write_e (shift h c p e) r s ms = write_e e (node.Shift h c p ∷ r) s ms

  write_l : (c : Clause) (r : List Node) (s : List ValueType) (ms : List ℕ) → writes t (list_l c r) s ms ≡ items_l (resolve_l t c) (writes t r s ms)
  write_l (test p e) r s ms = write_e e (node.Test p ∷ r) s ms
  write_l (and p e c) r s ms = rw (write_e e (node.Test p ∷ list_l c r) s ms, write_l c r s ms)

  write_c : (c : Cond) (r : List Node) (s : List ValueType) (ms : List ℕ) → writes t (list_c c r) s ms ≡ items_c (resolve_c t c) (writes t r s ms)
  write_c (only c) r s ms = write_l c r s ms
  write_c (or c d) r s ms = rw (write_l c (node.Or ∷ list_c d r) s ms, write_c d r s ms)

  write_p : (f : ℕ) (x : Step) (r : List Node) (s : List ValueType) (ms : List ℕ) → writes t (list_p f x r) s ms ≡ items_e (resolve_p t x) (writes t r s ms)
  write_p f absent r s ms = refl
  write_p f (by e) r s ms = write_e e (node.Step f ∷ r) s ms

  mutual
    write_s : (x : Stmt) (r : List Node) (s : List ValueType) (ms : List ℕ) → writes t (list_s x r) s (counts_s x ms) ≡ items_s (resolve_s t x) (writes t r s ms)
    write_s (assign n p q e) r s ms = write_e e (node.Store n p q ∷ r) s ms
    write_s (assign_at n p o i q e) r s ms =
        rw (write_e i (node.Checked n p o ∷ list_e e (node.StoreAt n p q ∷ r)) s ms, write_e e (node.StoreAt n p q ∷ r) s ms)
    write_s (deposit n p a b f q e) r s ms = rw (write_e e (node.Deposit a b f ∷ node.Store n p q ∷ r) s ms)
    write_s (deposit_at n p o i a b f q e) r s ms =
        rw (write_e i (node.FetchAt n p o ∷ list_e e (node.Deposit a b f ∷ node.StoreAt n p q ∷ r)) s ms, write_e e (node.Deposit a b f ∷ node.StoreAt n p q ∷ r) s ms)
    write_s (when c b) r s ms = rw (write_c c (node.Then ∷ list_b b (node.Fi ∷ r)) s (counts_b b ms), write_b b (node.Fi ∷ r) s ms)
    write_s (either c b d) r s ms =
        rw (write_c c (node.Then ∷ list_b b (node.Else ∷ list_b d (node.Fi ∷ r))) s (counts_b b (counts_b d ms)), write_b b (node.Else ∷ list_b d (node.Fi ∷ r)) s (counts_b d ms), write_b d (node.Fi ∷ r) s ms)
    write_s (choose p e a) r s ms =
        rw (write_e e (node.Case p ∷ list_a a (node.Esac ∷ r)) s (width a ∷ counts_a a ms), write_a a (node.Esac ∷ r) s ms, width_is t a)
    write_s (while c b) r s ms = rw (write_c c (node.Then ∷ list_b b (node.Loop ∷ r)) s (counts_b b ms), write_b b (node.Loop ∷ r) s ms)
    write_s (repeat b c) r s ms = rw (write_b b (node.Until ∷ list_c c (node.Done ∷ r)) s ms, write_c c (node.Done ∷ r) s ms)
    write_s (count n p f e x l b) r s ms =
        let w = node.Next n ∷ node.Drop ∷ r in
        let y = node.For n p f ∷ list_b b w in
        rw (write_e e (node.First n p f ∷ list_p f x (list_e l y)) s (counts_b b ms), write_p f x (list_e l y) s (counts_b b ms), write_e l y s (counts_b b ms), write_b b w s ms)

    write_b : (b : Body) (r : List Node) (s : List ValueType) (ms : List ℕ) → writes t (list_b b r) s (counts_b b ms) ≡ items_b (resolve_b t b) (writes t r s ms)
    write_b end r s ms = refl
    write_b (then x b) r s ms = write_s x (list_b b r) s (counts_b b ms) ∙ ap (items_s (resolve_s t x)) (write_b b r s ms)

    write_a : (a : Arms) (r : List Node) (s : List ValueType) (ms : List ℕ) → writes t (list_a a r) s (counts_a a ms) ≡ items_a (resolve_a t a) (writes t r s ms)
    write_a (last b) r s ms = rw (write_b b (node.Out ∷ r) s ms)
    write_a (arm b a) r s ms = rw (write_b b (node.Out ∷ list_a a r) s (counts_a a ms), write_a a r s ms)

  write_d : (ds : List Decl) (r : List Node) (s : List ValueType) (ms : List ℕ) → writes t (list_ds ds r) s ms ≡ writes t r s ms
  write_d [] r s ms = refl
  write_d (simple n k p ∷ ds) r s ms = write_d ds r s ms
  write_d (array n k l h p q ∷ ds) r s ms = write_d ds r s ms

count_d : (ds : List Decl) (r : List Node) → arm_counts (list_ds ds r) ≡ arm_counts r
count_d [] r = refl
count_d (simple n k p ∷ ds) r = count_d ds r
count_d (array n k l h p q ∷ ds) r = count_d ds r

count_program : (p : Program) → (arm_counts (list p)).closed ≡ counts_b p.body []
unfolding list
count_program p = ap (λ (x : Counts). x.closed) (count_d p.decls _ ∙ count_b p.body [])

writes_program : (p : Program) (t : Table) → writes t (list p) [] (counts_b p.body []) ≡ items (resolve_b t p.body)
unfolding list items
writes_program p t = write_d t p.decls _ [] _ ∙ write_b t p.body [] [] []

pub typed_program : (p : Program) → typed_list (list p) ≡ items (resolve p)
unfolding typed_list resolve
typed_program p = rw (table_program p, count_program p) (writes_program p (program_table p))
