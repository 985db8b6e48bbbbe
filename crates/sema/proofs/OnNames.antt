-- The stage of names over the list of a tree is that of the tree. Assumes nothing.
use Rattle.std.proofs.Common.{◌≡◌, ℕ, List, [], ◌∷◌, refl, ap, ◌∙◌}
use Rattle.parser.specs.Nodes.{Node}
use Rattle.parser.specs.Nodes as node
use Rattle.ast.specs.Trees.{Expr, number, load, index, binary, negate, lnot, convert, field, shift, Clause, test, and, Cond, only, or, Step, absent, by, Stmt, assign, assign_at, deposit, deposit_at, when, either, choose, while, repeat, count, Body, end, then, Arms, last, arm, Decl, simple, array, Program}
use Rattle.ast.specs.Lists.{list_e, list_l, list_c, list_p, list_s, list_b, list_a, list_ds, list}
use Rattle.sema.specs.Tables.{Table, empty}
use Rattle.sema.specs.Names.{name_faults, table_from, table_of_decls, names_d, names_e, names_l, names_c, names_p, names_s, names_b, names_a, program_table, program_names}

module _ (t : Table) where
  names_of_e : (e : Expr) (r : List Node) → name_faults t (list_e e r) ≡ names_e t e (name_faults t r)
  names_of_e (number v k) r = refl
  names_of_e (load n p) r = refl
  names_of_e (index n p q e) r = names_of_e e (node.Index n p q ∷ r)
  names_of_e (binary o p a b) r = names_of_e a (list_e b (node.Binary o p ∷ r)) ∙ ap (names_e t a) (names_of_e b (node.Binary o p ∷ r))
  names_of_e (negate p a) r = names_of_e a (node.Negate p ∷ r)
  names_of_e (lnot p a) r = names_of_e a (node.Lnot p ∷ r)
  names_of_e (convert k a) r = names_of_e a (node.Convert k ∷ r)
  names_of_e (field a b p e) r = names_of_e e (node.Field a b p ∷ r)
  names_of_e (shift s c p e) r = names_of_e e (node.Shift s c p ∷ r)

  names_of_l : (c : Clause) (r : List Node) → name_faults t (list_l c r) ≡ names_l t c (name_faults t r)
  names_of_l (test p e) r = names_of_e e (node.Test p ∷ r)
  names_of_l (and p e c) r = names_of_e e (node.Test p ∷ list_l c r) ∙ ap (names_e t e) (names_of_l c r)

  names_of_c : (c : Cond) (r : List Node) → name_faults t (list_c c r) ≡ names_c t c (name_faults t r)
  names_of_c (only c) r = names_of_l c r
  names_of_c (or c d) r = names_of_l c (node.Or ∷ list_c d r) ∙ ap (names_l t c) (names_of_c d r)

  names_of_p : (f : ℕ) (s : Step) (r : List Node) → name_faults t (list_p f s r) ≡ names_p t s (name_faults t r)
  names_of_p f absent r = refl
  names_of_p f (by e) r = names_of_e e (node.Step f ∷ r)

  mutual
    names_of_s : (s : Stmt) (r : List Node) → name_faults t (list_s s r) ≡ names_s t s (name_faults t r)
    names_of_s (assign n p q e) r = names_of_e e (node.Store n p q ∷ r)
    names_of_s (assign_at n p o i q e) r = rw (names_of_e i (node.Checked n p o ∷ list_e e (node.StoreAt n p q ∷ r)), names_of_e e (node.StoreAt n p q ∷ r))
    names_of_s (deposit n p a b f q e) r = rw (names_of_e e (node.Deposit a b f ∷ node.Store n p q ∷ r))
    names_of_s (deposit_at n p o i a b f q e) r =
        rw (names_of_e i (node.FetchAt n p o ∷ list_e e (node.Deposit a b f ∷ node.StoreAt n p q ∷ r)), names_of_e e (node.Deposit a b f ∷ node.StoreAt n p q ∷ r))
    names_of_s (when c b) r = rw (names_of_c c (node.Then ∷ list_b b (node.Fi ∷ r)), names_of_b b (node.Fi ∷ r))
    names_of_s (either c b d) r =
        rw (names_of_c c (node.Then ∷ list_b b (node.Else ∷ list_b d (node.Fi ∷ r))), names_of_b b (node.Else ∷ list_b d (node.Fi ∷ r)), names_of_b d (node.Fi ∷ r))
    names_of_s (choose p e a) r = rw (names_of_e e (node.Case p ∷ list_a a (node.Esac ∷ r)), names_of_a a (node.Esac ∷ r))
    names_of_s (while c b) r = rw (names_of_c c (node.Then ∷ list_b b (node.Loop ∷ r)), names_of_b b (node.Loop ∷ r))
    names_of_s (repeat b c) r = rw (names_of_b b (node.Until ∷ list_c c (node.Done ∷ r)), names_of_c c (node.Done ∷ r))
    names_of_s (count n p f e s l b) r =
        let w = node.Next n ∷ node.Drop ∷ r in
        let x = node.For n p f ∷ list_b b w in
        rw (names_of_e e (node.First n p f ∷ list_p f s (list_e l x)), names_of_p f s (list_e l x), names_of_e l x, names_of_b b w)

    names_of_b : (b : Body) (r : List Node) → name_faults t (list_b b r) ≡ names_b t b (name_faults t r)
    names_of_b end r = refl
    names_of_b (then s b) r = names_of_s s (list_b b r) ∙ ap (names_s t s) (names_of_b b r)

    names_of_a : (a : Arms) (r : List Node) → name_faults t (list_a a r) ≡ names_a t a (name_faults t r)
    names_of_a (last b) r = names_of_b b (node.Out ∷ r)
    names_of_a (arm b a) r = names_of_b b (node.Out ∷ list_a a r) ∙ ap (names_b t b) (names_of_a a r)

  -- statements declare nothing
  table_e : (e : Expr) (r : List Node) → table_from t (list_e e r) ≡ table_from t r
  table_e (number v k) r = refl
  table_e (load n p) r = refl
  table_e (index n p q e) r = table_e e (node.Index n p q ∷ r)
  table_e (binary o p a b) r = table_e a (list_e b (node.Binary o p ∷ r)) ∙ table_e b (node.Binary o p ∷ r)
  table_e (negate p a) r = table_e a (node.Negate p ∷ r)
  table_e (lnot p a) r = table_e a (node.Lnot p ∷ r)
  table_e (convert k a) r = table_e a (node.Convert k ∷ r)
  table_e (field a b p e) r = table_e e (node.Field a b p ∷ r)
  table_e (shift s c p e) r = table_e e (node.Shift s c p ∷ r)

  table_l : (c : Clause) (r : List Node) → table_from t (list_l c r) ≡ table_from t r
  table_l (test p e) r = table_e e (node.Test p ∷ r)
  table_l (and p e c) r = table_e e (node.Test p ∷ list_l c r) ∙ table_l c r

  table_c : (c : Cond) (r : List Node) → table_from t (list_c c r) ≡ table_from t r
  table_c (only c) r = table_l c r
  table_c (or c d) r = table_l c (node.Or ∷ list_c d r) ∙ table_c d r

  table_p : (f : ℕ) (s : Step) (r : List Node) → table_from t (list_p f s r) ≡ table_from t r
  table_p f absent r = refl
  table_p f (by e) r = table_e e (node.Step f ∷ r)

  mutual
    table_s : (s : Stmt) (r : List Node) → table_from t (list_s s r) ≡ table_from t r
    table_s (assign n p q e) r = table_e e (node.Store n p q ∷ r)
    table_s (assign_at n p o i q e) r = table_e i (node.Checked n p o ∷ list_e e (node.StoreAt n p q ∷ r)) ∙ table_e e (node.StoreAt n p q ∷ r)
    table_s (deposit n p a b f q e) r = table_e e (node.Deposit a b f ∷ node.Store n p q ∷ r)
    table_s (deposit_at n p o i a b f q e) r =
        table_e i (node.FetchAt n p o ∷ list_e e (node.Deposit a b f ∷ node.StoreAt n p q ∷ r)) ∙ table_e e (node.Deposit a b f ∷ node.StoreAt n p q ∷ r)
    table_s (when c b) r = table_c c (node.Then ∷ list_b b (node.Fi ∷ r)) ∙ table_b b (node.Fi ∷ r)
    table_s (either c b d) r =
        table_c c (node.Then ∷ list_b b (node.Else ∷ list_b d (node.Fi ∷ r))) ∙ table_b b (node.Else ∷ list_b d (node.Fi ∷ r)) ∙ table_b d (node.Fi ∷ r)
    table_s (choose p e a) r = table_e e (node.Case p ∷ list_a a (node.Esac ∷ r)) ∙ table_a a (node.Esac ∷ r)
    table_s (while c b) r = table_c c (node.Then ∷ list_b b (node.Loop ∷ r)) ∙ table_b b (node.Loop ∷ r)
    table_s (repeat b c) r = table_b b (node.Until ∷ list_c c (node.Done ∷ r)) ∙ table_c c (node.Done ∷ r)
    table_s (count n p f e s l b) r =
        let w = node.Next n ∷ node.Drop ∷ r in
        let x = node.For n p f ∷ list_b b w in
        table_e e (node.First n p f ∷ list_p f s (list_e l x)) ∙ table_p f s (list_e l x) ∙ table_e l x ∙ table_b b w

    table_b : (b : Body) (r : List Node) → table_from t (list_b b r) ≡ table_from t r
    table_b end r = refl
    table_b (then s b) r = table_s s (list_b b r) ∙ table_b b r

    table_a : (a : Arms) (r : List Node) → table_from t (list_a a r) ≡ table_from t r
    table_a (last b) r = table_b b (node.Out ∷ r)
    table_a (arm b a) r = table_b b (node.Out ∷ list_a a r) ∙ table_a a r

table_d : (ds : List Decl) (t : Table) (r : List Node) → table_from t (list_ds ds r) ≡ table_from (table_of_decls t ds) r
table_d [] t r = refl
table_d (simple n k p ∷ ds) t r = table_d ds _ r
table_d (array n k l h p q ∷ ds) t r = table_d ds _ r

names_of_d : (ds : List Decl) (t : Table) (r : List Node) → name_faults t (list_ds ds r) ≡ names_d t ds (name_faults (table_of_decls t ds) r)
names_of_d [] t r = refl
names_of_d (simple n k p ∷ ds) t r = rw (names_of_d ds _ r)
names_of_d (array n k l h p q ∷ ds) t r = rw (names_of_d ds _ r)

pub table_program : (p : Program) → table_from empty (list p) ≡ program_table p
unfolding list program_table
table_program p = table_d p.decls empty _ ∙ table_b _ p.body []

pub names_program : (p : Program) → name_faults empty (list p) ≡ program_names p
unfolding list program_table program_names
names_program p = names_of_d p.decls empty _ ∙ ap (names_d empty p.decls) (names_of_b _ p.body [])
