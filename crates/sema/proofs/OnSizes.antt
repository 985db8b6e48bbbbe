-- The stage of sizes over the list of a tree is that of the tree. Assumes nothing.
use Rattle.std.proofs.Common.{◌≡◌, ℕ, List, [], ◌∷◌, refl, ap, ◌∙◌}
use Rattle.parser.specs.Nodes.{Node}
use Rattle.parser.specs.Nodes as node
use Rattle.ast.specs.Trees.{Expr, number, load, index, binary, negate, lnot, convert, field, shift, Clause, test, and, Cond, only, or, Step, absent, by, Stmt, assign, assign_at, deposit, deposit_at, when, either, choose, while, repeat, count, Body, end, then, Arms, last, arm, Decl, simple, array, Program}
use Rattle.ast.specs.Lists.{list_e, list_l, list_c, list_p, list_s, list_b, list_a, list_ds, list}
use Rattle.sema.specs.Tables.{Table}
use Rattle.sema.specs.Names.{program_table}
use Rattle.sema.specs.Sizes.{size_faults, sizes_d, sizes_e, sizes_l, sizes_c, sizes_p, sizes_s, sizes_b, sizes_a, program_sizes}

module _ (t : Table) where
  sizes_of_e : (e : Expr) (r : List Node) → size_faults t (list_e e r) ≡ sizes_e e (size_faults t r)
  sizes_of_e (number v k) r = refl
  sizes_of_e (load n p) r = refl
  sizes_of_e (index n p q e) r = sizes_of_e e (node.Index n p q ∷ r)
  sizes_of_e (binary o p a b) r = sizes_of_e a (list_e b (node.Binary o p ∷ r)) ∙ ap (sizes_e a) (sizes_of_e b (node.Binary o p ∷ r))
  sizes_of_e (negate p a) r = sizes_of_e a (node.Negate p ∷ r)
  sizes_of_e (lnot p a) r = sizes_of_e a (node.Lnot p ∷ r)
  sizes_of_e (convert k a) r = sizes_of_e a (node.Convert k ∷ r)
  sizes_of_e (field a b p e) r = sizes_of_e e (node.Field a b p ∷ r)
  sizes_of_e (shift s c p e) r = sizes_of_e e (node.Shift s c p ∷ r)

  sizes_of_l : (c : Clause) (r : List Node) → size_faults t (list_l c r) ≡ sizes_l c (size_faults t r)
  sizes_of_l (test p e) r = sizes_of_e e (node.Test p ∷ r)
  sizes_of_l (and p e c) r = sizes_of_e e (node.Test p ∷ list_l c r) ∙ ap (sizes_e e) (sizes_of_l c r)

  sizes_of_c : (c : Cond) (r : List Node) → size_faults t (list_c c r) ≡ sizes_c c (size_faults t r)
  sizes_of_c (only c) r = sizes_of_l c r
  sizes_of_c (or c d) r = sizes_of_l c (node.Or ∷ list_c d r) ∙ ap (sizes_l c) (sizes_of_c d r)

  sizes_of_p : (f : ℕ) (s : Step) (r : List Node) → size_faults t (list_p f s r) ≡ sizes_p s (size_faults t r)
  sizes_of_p f absent r = refl
  sizes_of_p f (by e) r = sizes_of_e e (node.Step f ∷ r)

  mutual
    sizes_of_s : (s : Stmt) (r : List Node) → size_faults t (list_s s r) ≡ sizes_s s (size_faults t r)
    sizes_of_s (assign n p q e) r = sizes_of_e e (node.Store n p q ∷ r)
    sizes_of_s (assign_at n p o i q e) r = rw (sizes_of_e i (node.Checked n p o ∷ list_e e (node.StoreAt n p q ∷ r)), sizes_of_e e (node.StoreAt n p q ∷ r))
    sizes_of_s (deposit n p a b f q e) r = sizes_of_e e (node.Deposit a b f ∷ node.Store n p q ∷ r)
    sizes_of_s (deposit_at n p o i a b f q e) r =
        rw (sizes_of_e i (node.FetchAt n p o ∷ list_e e (node.Deposit a b f ∷ node.StoreAt n p q ∷ r)), sizes_of_e e (node.Deposit a b f ∷ node.StoreAt n p q ∷ r))
    sizes_of_s (when c b) r = rw (sizes_of_c c (node.Then ∷ list_b b (node.Fi ∷ r)), sizes_of_b b (node.Fi ∷ r))
    sizes_of_s (either c b d) r =
        rw (sizes_of_c c (node.Then ∷ list_b b (node.Else ∷ list_b d (node.Fi ∷ r))), sizes_of_b b (node.Else ∷ list_b d (node.Fi ∷ r)), sizes_of_b d (node.Fi ∷ r))
    sizes_of_s (choose p e a) r = rw (sizes_of_e e (node.Case p ∷ list_a a (node.Esac ∷ r)), sizes_of_a a (node.Esac ∷ r))
    sizes_of_s (while c b) r = rw (sizes_of_c c (node.Then ∷ list_b b (node.Loop ∷ r)), sizes_of_b b (node.Loop ∷ r))
    sizes_of_s (repeat b c) r = rw (sizes_of_b b (node.Until ∷ list_c c (node.Done ∷ r)), sizes_of_c c (node.Done ∷ r))
    sizes_of_s (count n p f e s l b) r =
        let w = node.Next n ∷ node.Drop ∷ r in
        let x = node.For n p f ∷ list_b b w in
        rw (sizes_of_e e (node.First n p f ∷ list_p f s (list_e l x)), sizes_of_p f s (list_e l x), sizes_of_e l x, sizes_of_b b w)

    sizes_of_b : (b : Body) (r : List Node) → size_faults t (list_b b r) ≡ sizes_b b (size_faults t r)
    sizes_of_b end r = refl
    sizes_of_b (then s b) r = sizes_of_s s (list_b b r) ∙ ap (sizes_s s) (sizes_of_b b r)

    sizes_of_a : (a : Arms) (r : List Node) → size_faults t (list_a a r) ≡ sizes_a a (size_faults t r)
    sizes_of_a (last b) r = sizes_of_b b (node.Out ∷ r)
    sizes_of_a (arm b a) r = sizes_of_b b (node.Out ∷ list_a a r) ∙ ap (sizes_b b) (sizes_of_a a r)

  sizes_of_d : (ds : List Decl) (r : List Node) → size_faults t (list_ds ds r) ≡ sizes_d t ds (size_faults t r)
  sizes_of_d [] r = refl
  sizes_of_d (simple n k p ∷ ds) r = rw (sizes_of_d ds r)
  sizes_of_d (array n k l h p q ∷ ds) r = rw (sizes_of_d ds r)

pub sizes_program : (p : Program) → size_faults (program_table p) (list p) ≡ program_sizes p
unfolding list program_sizes
sizes_program p = sizes_of_d _ p.decls _ ∙ ap (sizes_d (program_table p) p.decls) (sizes_of_b _ p.body [])
