-- The stage of types over the list of a tree is that of the tree. Assumes nothing.
use Rattle.std.proofs.Common.{◌≡◌, ℕ, List, [], ◌∷◌, refl, ap, ◌∙◌}
use Rattle.parser.specs.declared.value_type.ValueType.{ValueType}
use Rattle.parser.specs.Nodes.{Node}
use Rattle.parser.specs.Nodes as node
use Rattle.ast.specs.Trees.{Expr, number, load, index, binary, negate, lnot, convert, field, shift, Clause, test, and, Cond, only, or, Step, absent, by, Stmt, assign, assign_at, deposit, deposit_at, when, either, choose, while, repeat, count, Body, end, then, Arms, last, arm, Decl, simple, array, Program}
use Rattle.ast.specs.Lists.{list_e, list_l, list_c, list_p, list_s, list_b, list_a, list_ds, list}
use Rattle.sema.specs.Tables.{Table}
use Rattle.sema.specs.Names.{program_table}
use Rattle.sema.specs.Types.{type_faults, type_e, types_e, types_l, types_c, types_p, types_s, types_b, types_a, program_types}

module _ (t : Table) where
  types_of_e : (e : Expr) (r : List Node) (s : List ValueType) → type_faults t (list_e e r) s ≡ types_e t e (type_faults t r (type_e t e ∷ s))
  types_of_e (number v k) r s = refl
  types_of_e (load n p) r s = refl
  types_of_e (index n p q e) r s = types_of_e e (node.Index n p q ∷ r) s
  types_of_e (binary o p a b) r s =
      types_of_e a (list_e b (node.Binary o p ∷ r)) s ∙ ap (types_e t a) (types_of_e b (node.Binary o p ∷ r) (type_e t a ∷ s))
  types_of_e (negate p a) r s = types_of_e a (node.Negate p ∷ r) s
  types_of_e (lnot p a) r s = types_of_e a (node.Lnot p ∷ r) s
  types_of_e (convert k a) r s = types_of_e a (node.Convert k ∷ r) s
  types_of_e (field a b p e) r s = types_of_e e (node.Field a b p ∷ r) s
  types_of_e (shift h c p e) r s = types_of_e e (node.Shift h c p ∷ r) s

  types_of_l : (c : Clause) (r : List Node) (s : List ValueType) → type_faults t (list_l c r) s ≡ types_l t c (type_faults t r s)
  types_of_l (test p e) r s = types_of_e e (node.Test p ∷ r) s
  types_of_l (and p e c) r s = rw (types_of_e e (node.Test p ∷ list_l c r) s, types_of_l c r s)

  types_of_c : (c : Cond) (r : List Node) (s : List ValueType) → type_faults t (list_c c r) s ≡ types_c t c (type_faults t r s)
  types_of_c (only c) r s = types_of_l c r s
  types_of_c (or c d) r s = types_of_l c (node.Or ∷ list_c d r) s ∙ ap (types_l t c) (types_of_c d r s)

  types_of_p : (f : ℕ) (x : Step) (r : List Node) (s : List ValueType) → type_faults t (list_p f x r) s ≡ types_p t f x (type_faults t r s)
  types_of_p f absent r s = refl
  types_of_p f (by e) r s = types_of_e e (node.Step f ∷ r) s

  mutual
    types_of_s : (x : Stmt) (r : List Node) (s : List ValueType) → type_faults t (list_s x r) s ≡ types_s t x (type_faults t r s)
    types_of_s (assign n p q e) r s = types_of_e e (node.Store n p q ∷ r) s
    types_of_s (assign_at n p o i q e) r s =
        rw (types_of_e i (node.Checked n p o ∷ list_e e (node.StoreAt n p q ∷ r)) s, types_of_e e (node.StoreAt n p q ∷ r) s)
    types_of_s (deposit n p a b f q e) r s = types_of_e e (node.Deposit a b f ∷ node.Store n p q ∷ r) s
    types_of_s (deposit_at n p o i a b f q e) r s =
        rw (types_of_e i (node.FetchAt n p o ∷ list_e e (node.Deposit a b f ∷ node.StoreAt n p q ∷ r)) s, types_of_e e (node.Deposit a b f ∷ node.StoreAt n p q ∷ r) s)
    types_of_s (when c b) r s = rw (types_of_c c (node.Then ∷ list_b b (node.Fi ∷ r)) s, types_of_b b (node.Fi ∷ r) s)
    types_of_s (either c b d) r s =
        rw (types_of_c c (node.Then ∷ list_b b (node.Else ∷ list_b d (node.Fi ∷ r))) s, types_of_b b (node.Else ∷ list_b d (node.Fi ∷ r)) s, types_of_b d (node.Fi ∷ r) s)
    types_of_s (choose p e a) r s = rw (types_of_e e (node.Case p ∷ list_a a (node.Esac ∷ r)) s, types_of_a a (node.Esac ∷ r) s)
    types_of_s (while c b) r s = rw (types_of_c c (node.Then ∷ list_b b (node.Loop ∷ r)) s, types_of_b b (node.Loop ∷ r) s)
    types_of_s (repeat b c) r s = rw (types_of_b b (node.Until ∷ list_c c (node.Done ∷ r)) s, types_of_c c (node.Done ∷ r) s)
    types_of_s (count n p f e x l b) r s =
        let w = node.Next n ∷ node.Drop ∷ r in
        let y = node.For n p f ∷ list_b b w in
        rw (types_of_e e (node.First n p f ∷ list_p f x (list_e l y)) s, types_of_p f x (list_e l y) s, types_of_e l y s, types_of_b b w s)

    types_of_b : (b : Body) (r : List Node) (s : List ValueType) → type_faults t (list_b b r) s ≡ types_b t b (type_faults t r s)
    types_of_b end r s = refl
    types_of_b (then x b) r s = types_of_s x (list_b b r) s ∙ ap (types_s t x) (types_of_b b r s)

    types_of_a : (a : Arms) (r : List Node) (s : List ValueType) → type_faults t (list_a a r) s ≡ types_a t a (type_faults t r s)
    types_of_a (last b) r s = types_of_b b (node.Out ∷ r) s
    types_of_a (arm b a) r s = types_of_b b (node.Out ∷ list_a a r) s ∙ ap (types_b t b) (types_of_a a r s)

  types_of_d : (ds : List Decl) (r : List Node) (s : List ValueType) → type_faults t (list_ds ds r) s ≡ type_faults t r s
  types_of_d [] r s = refl
  types_of_d (simple n k p ∷ ds) r s = types_of_d ds r s
  types_of_d (array n k l h p q ∷ ds) r s = types_of_d ds r s

pub types_program : (p : Program) → type_faults (program_table p) (list p) [] ≡ program_types p
unfolding list program_types
types_program p = types_of_d _ p.decls _ [] ∙ types_of_b _ p.body [] []
