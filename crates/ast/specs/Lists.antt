-- The syntax list of a tree: operands before their operator, and markers between the parts of control statements. In
-- each definition r is the list that follows.
use Rattle.std.specs.Prelude.{List, [], ◌∷◌, ℕ}
use Rattle.parser.specs.Nodes.{Node}
use Rattle.parser.specs.Nodes as node
use Rattle.ast.specs.Trees.{Expr, number, load, index, binary, negate, lnot, convert, field, shift, Clause, test, and, Cond, only, or, Step, absent, by, Stmt, assign, assign_at, deposit, deposit_at, when, either, choose, while, repeat, count, Body, end, then, Arms, last, arm, Decl, simple, array, Program}

-- The list of an expression.
abbrev pub list_e : Expr → List Node → List Node
list_e (number v k) r = node.Number v k ∷ r
list_e (load n p) r = node.Load n p ∷ r
list_e (index n p q e) r = list_e e (node.Index n p q ∷ r)
list_e (binary o p a b) r = list_e a (list_e b (node.Binary o p ∷ r))
list_e (negate p a) r = list_e a (node.Negate p ∷ r)
list_e (lnot p a) r = list_e a (node.Lnot p ∷ r)
list_e (convert k a) r = list_e a (node.Convert k ∷ r)
list_e (field a b p e) r = list_e e (node.Field a b p ∷ r)
list_e (shift s c p e) r = list_e e (node.Shift s c p ∷ r)

-- The list of a clause.
abbrev pub list_l : Clause → List Node → List Node
list_l (test p e) r = list_e e (node.Test p ∷ r)
list_l (and p e c) r = list_e e (node.Test p ∷ list_l c r)

-- The list of a condition.
abbrev pub list_c : Cond → List Node → List Node
list_c (only c) r = list_l c r
list_c (or c d) r = list_l c (node.Or ∷ list_c d r)

-- The list of the step of a FOR, whose offset is f.
abbrev pub list_p : ℕ → Step → List Node → List Node
list_p f absent r = node.One ∷ r
list_p f (by e) r = list_e e (node.Step f ∷ r)

abbrev mutual
  -- The list of a statement.
  pub list_s : Stmt → List Node → List Node
  list_s (assign n p q e) r = list_e e (node.Store n p q ∷ r)
  list_s (assign_at n p o i q e) r = list_e i (node.Checked n p o ∷ list_e e (node.StoreAt n p q ∷ r))
  list_s (deposit n p a b f q e) r = node.Fetch n p ∷ list_e e (node.Deposit a b f ∷ node.Store n p q ∷ r)
  list_s (deposit_at n p o i a b f q e) r =
      list_e i (node.FetchAt n p o ∷ list_e e (node.Deposit a b f ∷ node.StoreAt n p q ∷ r))
  list_s (when c b) r = node.If ∷ list_c c (node.Then ∷ list_b b (node.Fi ∷ r))
  list_s (either c b d) r = node.If ∷ list_c c (node.Then ∷ list_b b (node.Else ∷ list_b d (node.Fi ∷ r)))
  list_s (choose p e a) r = list_e e (node.Case p ∷ list_a a (node.Esac ∷ r))
  list_s (while c b) r = node.While ∷ list_c c (node.Then ∷ list_b b (node.Loop ∷ r))
  list_s (repeat b c) r = node.Do ∷ list_b b (node.Until ∷ list_c c (node.Done ∷ r))
  list_s (count n p f e s l b) r =
      list_e e (node.First n p f ∷ list_p f s (list_e l (node.For n p f ∷ list_b b (node.Next n ∷ node.Drop ∷ r))))

  -- The list of a body.
  pub list_b : Body → List Node → List Node
  list_b end r = r
  list_b (then s b) r = list_s s (list_b b r)

  -- The list of the statements of a CASE.
  pub list_a : Arms → List Node → List Node
  list_a (last b) r = node.Arm ∷ list_b b (node.Out ∷ r)
  list_a (arm b a) r = node.Arm ∷ list_b b (node.Out ∷ list_a a r)

-- The node of a declaration.
abbrev pub list_d : Decl → Node
list_d (simple n k p) = node.Simple n k p
list_d (array n k a b p q) = node.Array n k a b p q

-- The list of declarations.
abbrev pub list_ds : List Decl → List Node → List Node
list_ds [] r = r
list_ds (d ∷ ds) r = list_d d ∷ list_ds ds r

-- The syntax list of a program.
unfoldable pub list : Program → List Node
list p = list_ds p.decls (list_b p.body [])
