-- The machine over tokens as the grammar sees them. Assumes nothing.
use Rattle.std.proofs.Common.{◌≡◌, ℕ, ◌<◌, cond, List, [], ◌∷◌, ◌++◌, map, Some, None, Option, refl, ap, ◌∙◌, append_assoc, arith, ne_eqb}
use Rattle.base.specs.Refusals.{refuse}
use Rattle.lexer.specs.Cut.{Piece}
use Rattle.parser.specs.Nodes.{Node}
use Rattle.parser.specs.Nodes as node
use Rattle.parser.specs.Marks.{Tok, piece_tok}
use Rattle.parser.specs.Machine.{Onward, ParseAnswer, feed, ending, later, deeper}
use Rattle.ast.specs.Trees.{Expr, Clause, Cond, Step, Stmt, Body, Arms, Decl, sequence}
use Rattle.ast.specs.Trees as tree
use Rattle.ast.specs.Lists.{list_e, list_l, list_c, list_p, list_s, list_b, list_a, list_d, list_ds}

abbrev pub run : (end : ℕ) → List Tok → Onward
run end [] k o = feed (ending end) (λ _ _. refuse 5 end) k o
run end (t ∷ ts) k o = feed t (run end ts) k o

pub later_run : (end : ℕ) (ps : List Piece) → later end ps ≡ run end (map piece_tok ps)
unfolding later
later_run end [] = refl
later_run end (p ∷ ps) = λ i k o. feed (piece_tok p) (later_run end ps i) k o

-- a level is there to be opened
pub deeper_in : (t : Tok) (l : ℕ) (x : ParseAnswer) → 0 < l → deeper t l x ≡ x
deeper_in t l x h = ap (λ b. cond b (refuse 6 t.offset) x) (ne_eqb l 0 (λ e. omega arith))

-- the nodes of a tree stand before what follows
pub app_e : (e : Expr) (r s : List Node) → list_e e r ++ s ≡ list_e e (r ++ s)
app_e (tree.number v k) r s = refl
app_e (tree.load n p) r s = refl
app_e (tree.index n p q e) r s = app_e e (node.Index n p q ∷ r) s
app_e (tree.binary o p a b) r s = app_e a (list_e b (node.Binary o p ∷ r)) s ∙ ap (list_e a) (app_e b (node.Binary o p ∷ r) s)
app_e (tree.negate p a) r s = app_e a (node.Negate p ∷ r) s
app_e (tree.lnot p a) r s = app_e a (node.Lnot p ∷ r) s
app_e (tree.convert k a) r s = app_e a (node.Convert k ∷ r) s
app_e (tree.field a b p e) r s = app_e e (node.Field a b p ∷ r) s
app_e (tree.shift x c p e) r s = app_e e (node.Shift x c p ∷ r) s

pub onto_e : (o : List Node) (e : Expr) (r : List Node) → (o ++ list_e e []) ++ r ≡ o ++ list_e e r
onto_e o e r = append_assoc o (list_e e []) r ∙ ap (λ x. o ++ x) (app_e e [] r)

pub onto : (o : List Node) (x : Node) (r : List Node) → (o ++ x ∷ []) ++ r ≡ o ++ x ∷ r
onto o x r = append_assoc o (x ∷ []) r

-- where the machine asks a mark of a class
pub at_none : {A : Type 0} (f : A → ParseAnswer) (y : ParseAnswer) {x : Option A} → x ≡ None → elim x [ Some a ↦ f a | None ↦ y ] ≡ y
at_none f y h = ap (λ z. elim z [ Some a ↦ f a | None ↦ y ]) h

pub at_some : {A : Type 0} (f : A → ParseAnswer) (y : ParseAnswer) {x : Option A} {a : A} → x ≡ Some a → elim x [ Some a ↦ f a | None ↦ y ] ≡ f a
at_some f y h = ap (λ z. elim z [ Some a ↦ f a | None ↦ y ]) h

app_l : (c : Clause) (r s : List Node) → list_l c r ++ s ≡ list_l c (r ++ s)
app_l (tree.test p e) r s = app_e e (node.Test p ∷ r) s
app_l (tree.and p e c) r s = app_e e (node.Test p ∷ list_l c r) s ∙ ap (λ x. list_e e (node.Test p ∷ x)) (app_l c r s)

app_c : (c : Cond) (r s : List Node) → list_c c r ++ s ≡ list_c c (r ++ s)
app_c (tree.only c) r s = app_l c r s
app_c (tree.or c d) r s = app_l c (node.Or ∷ list_c d r) s ∙ ap (λ x. list_l c (node.Or ∷ x)) (app_c d r s)

app_p : (f : ℕ) (x : Step) (r s : List Node) → list_p f x r ++ s ≡ list_p f x (r ++ s)
app_p f tree.absent r s = refl
app_p f (tree.by e) r s = app_e e (node.Step f ∷ r) s

mutual
  app_s : (x : Stmt) (r s : List Node) → list_s x r ++ s ≡ list_s x (r ++ s)
  app_s (tree.assign n p q e) r s = app_e e (node.Store n p q ∷ r) s
  app_s (tree.assign_at n p o i q e) r s =
      app_e i (node.Checked n p o ∷ list_e e (node.StoreAt n p q ∷ r)) s ∙ ap (λ x. list_e i (node.Checked n p o ∷ x)) (app_e e (node.StoreAt n p q ∷ r) s)
  app_s (tree.deposit n p a b f q e) r s = ap (λ x. node.Fetch n p ∷ x) (app_e e (node.Deposit a b f ∷ node.Store n p q ∷ r) s)
  app_s (tree.deposit_at n p o i a b f q e) r s =
      app_e i (node.FetchAt n p o ∷ list_e e (node.Deposit a b f ∷ node.StoreAt n p q ∷ r)) s
      ∙ ap (λ x. list_e i (node.FetchAt n p o ∷ x)) (app_e e (node.Deposit a b f ∷ node.StoreAt n p q ∷ r) s)
  app_s (tree.when c b) r s =
      ap (λ x. node.If ∷ x) (app_c c (node.Then ∷ list_b b (node.Fi ∷ r)) s ∙ ap (λ x. list_c c (node.Then ∷ x)) (app_b b (node.Fi ∷ r) s))
  app_s (tree.either c b d) r s =
      ap (λ x. node.If ∷ x)
      (app_c c (node.Then ∷ list_b b (node.Else ∷ list_b d (node.Fi ∷ r))) s
      ∙ ap (λ x. list_c c (node.Then ∷ x)) (app_b b (node.Else ∷ list_b d (node.Fi ∷ r)) s ∙ ap (λ x. list_b b (node.Else ∷ x)) (app_b d (node.Fi ∷ r) s)))
  app_s (tree.choose p e a) r s = app_e e (node.Case p ∷ list_a a (node.Esac ∷ r)) s ∙ ap (λ x. list_e e (node.Case p ∷ x)) (app_a a (node.Esac ∷ r) s)
  app_s (tree.while c b) r s =
      ap (λ x. node.While ∷ x) (app_c c (node.Then ∷ list_b b (node.Loop ∷ r)) s ∙ ap (λ x. list_c c (node.Then ∷ x)) (app_b b (node.Loop ∷ r) s))
  app_s (tree.repeat b c) r s =
      ap (λ x. node.Do ∷ x) (app_b b (node.Until ∷ list_c c (node.Done ∷ r)) s ∙ ap (λ x. list_b b (node.Until ∷ x)) (app_c c (node.Done ∷ r) s))
  app_s (tree.count n p f e x m b) r s =
      app_e e (node.First n p f ∷ list_p f x (list_e m (node.For n p f ∷ list_b b (node.Next n ∷ node.Drop ∷ r)))) s
      ∙ ap (λ y. list_e e (node.First n p f ∷ y))
      (app_p f x (list_e m (node.For n p f ∷ list_b b (node.Next n ∷ node.Drop ∷ r))) s
      ∙ ap (list_p f x) (app_e m (node.For n p f ∷ list_b b (node.Next n ∷ node.Drop ∷ r)) s ∙ ap (λ y. list_e m (node.For n p f ∷ y)) (app_b b (node.Next n ∷ node.Drop ∷ r) s)))

  app_b : (x : Body) (r s : List Node) → list_b x r ++ s ≡ list_b x (r ++ s)
  app_b tree.end r s = refl
  app_b (tree.then x b) r s = app_s x (list_b b r) s ∙ ap (list_s x) (app_b b r s)

  app_a : (x : Arms) (r s : List Node) → list_a x r ++ s ≡ list_a x (r ++ s)
  app_a (tree.last b) r s = ap (λ x. node.Arm ∷ x) (app_b b (node.Out ∷ r) s)
  app_a (tree.arm b a) r s = ap (λ x. node.Arm ∷ x) (app_b b (node.Out ∷ list_a a r) s ∙ ap (λ x. list_b b (node.Out ∷ x)) (app_a a r s))

app_ds : (ds : List Decl) (r s : List Node) → list_ds ds r ++ s ≡ list_ds ds (r ++ s)
app_ds [] r s = refl
app_ds (d ∷ ds) r s = ap (λ x. list_d d ∷ x) (app_ds ds r s)

pub onto_l : (o : List Node) (c : Clause) (r : List Node) → (o ++ list_l c []) ++ r ≡ o ++ list_l c r
onto_l o c r = append_assoc o (list_l c []) r ∙ ap (λ x. o ++ x) (app_l c [] r)

pub onto_c : (o : List Node) (c : Cond) (r : List Node) → (o ++ list_c c []) ++ r ≡ o ++ list_c c r
onto_c o c r = append_assoc o (list_c c []) r ∙ ap (λ x. o ++ x) (app_c c [] r)

pub onto_b : (o : List Node) (b : Body) (r : List Node) → (o ++ list_b b []) ++ r ≡ o ++ list_b b r
onto_b o b r = append_assoc o (list_b b []) r ∙ ap (λ x. o ++ x) (app_b b [] r)

pub onto_ds : (o : List Node) (ds : List Decl) (r : List Node) → (o ++ list_ds ds []) ++ r ≡ o ++ list_ds ds r
onto_ds o ds r = append_assoc o (list_ds ds []) r ∙ ap (λ x. o ++ x) (app_ds ds [] r)

pub joined_list : (b c : Body) (r : List Node) → list_b (sequence b c) r ≡ list_b b (list_b c r)
joined_list tree.end c r = refl
joined_list (tree.then s b) c r = ap (list_s s) (joined_list b c r)

pub appended_list : (ds es : List Decl) (r : List Node) → list_ds (ds ++ es) r ≡ list_ds ds (list_ds es r)
appended_list [] es r = refl
appended_list (d ∷ ds) es r = ap (λ x. list_d d ∷ x) (appended_list ds es r)
