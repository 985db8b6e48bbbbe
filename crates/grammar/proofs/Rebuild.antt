-- A syntax list gives its tree back, so that two trees with one list are equal. Assumes nothing.
use Rattle.std.proofs.Common.{◌≡◌, ℕ, List, [], ◌∷◌, ◌++◌, Some, None, Option, sym, refl, ap, ◌∙◌, ap₂, append-nil}
use Rattle.parser.specs.declared.value_type.ValueType.TheVariants as types
use Rattle.parser.specs.Nodes.{Node}
use Rattle.parser.specs.Nodes as node
use Rattle.ast.specs.Trees.{Expr, Clause, Cond, Step, Stmt, Body, Arms, Decl, Program, sequence}
use Rattle.ast.specs.Trees as tree
use Rattle.ast.specs.Lists.{list_e, list_l, list_c, list_p, list_s, list_b, list_a, list_ds, list}

abbrev top : {A : Type 0} → A → List A → A
top x [] = x
top x (y ∷ ys) = y

abbrev rest : {A : Type 0} → List A → List A
rest [] = []
rest (y ∷ ys) = ys

-- a condition so far: what its further clauses go into, what its clause's further tests go into, and its clause
record Con : Type 0 where
  conds : Cond → Cond
  tests : Clause → Clause
  clause : Clause

-- a condition that is read, and the statement that a FI makes with a body
record Branch : Type 0 where
  cond : Cond
  close : Body → Stmt

-- the statement that an ESAC makes with arms, what further arms go into, and the arms so far
record Choice : Type 0 where
  close : Arms → Stmt
  further : Arms → Arms
  arms : Arms

abbrev zero_expr : Expr
zero_expr = tree.number 0 types.Integer

abbrev no_clause : Clause
no_clause = tree.test 0 zero_expr

abbrev begun : Con
begun = record { conds = λ c. c; tests = λ c. c; clause = no_clause }

no_stmt : Stmt
no_stmt = tree.assign [] 0 0 zero_expr

no_branch : Branch
no_branch = record { cond = tree.only no_clause; close = λ b. no_stmt }

no_choice : Choice
no_choice = record { close = λ a. no_stmt; further = λ a. a; arms = tree.last tree.end }

abbrev tested : Con → ℕ → Expr → Con
tested x p e = record { conds = x.conds; tests = λ c. x.tests (tree.and p e c); clause = x.tests (tree.test p e) }

abbrev ored : Con → Con
ored x = record { conds = λ c. x.conds (tree.or x.clause c); tests = λ c. c; clause = x.clause }

abbrev valued : Con → Cond
valued x = x.conds (tree.only x.clause)

abbrev e₁ : List Expr → Expr
e₁ es = top zero_expr es

abbrev e₂ : List Expr → Expr
e₂ es = top zero_expr (rest es)

-- one more statement, of the body on top
abbrev more : Stmt → List (Body → Body) → List (Body → Body)
more s bs = (λ b. top (λ x. x) bs (tree.then s b)) ∷ rest bs

-- the body on top, closed
abbrev shut : List (Body → Body) → Body
shut bs = top (λ x. x) bs tree.end

abbrev stores : Option (ℕ × ℕ × ℕ) → (n : List ℕ) (p q : ℕ) → Expr → Stmt
stores None n p q e = tree.assign n p q e
stores (Some f) n p q e = tree.deposit n p f.0 f.1 f.2 q e

abbrev stores_at : Option (ℕ × ℕ × ℕ) → (n : List ℕ) (p o : ℕ) (i : Expr) (q : ℕ) → Expr → Stmt
stores_at None n p o i q e = tree.assign_at n p o i q e
stores_at (Some f) n p o i q e = tree.deposit_at n p o i f.0 f.1 f.2 q e

abbrev branch : Cond → Branch
branch c = record { cond = c; close = λ b. tree.when c b }

-- The nodes, then: expressions, bodies, conditions, branches, choices, the parentheses of subscripts, a field,
-- steps, loops, declarations.
abbrev build : List Node → List Expr → List (Body → Body) → List Con → List Branch → List Choice → List ℕ → Option (ℕ × ℕ × ℕ) → List Step → List (Body → Stmt) → (List Decl → List Decl) → Program
build [] e b c t a i f s l d = record { decls = d []; body = shut b }
build (node.Simple n k p ∷ r) e b c t a i f s l d = build r e b c t a i f s l (λ x. d (tree.simple n k p ∷ x))
build (node.Array n k low high p q ∷ r) e b c t a i f s l d = build r e b c t a i f s l (λ x. d (tree.array n k low high p q ∷ x))
build (node.Number v k ∷ r) e b c t a i f s l d = build r (tree.number v k ∷ e) b c t a i f s l d
build (node.Load n p ∷ r) e b c t a i f s l d = build r (tree.load n p ∷ e) b c t a i f s l d
build (node.Index n p q ∷ r) e b c t a i f s l d = build r (tree.index n p q (e₁ e) ∷ rest e) b c t a i f s l d
build (node.Binary o p ∷ r) e b c t a i f s l d = build r (tree.binary o p (e₂ e) (e₁ e) ∷ rest (rest e)) b c t a i f s l d
build (node.Negate p ∷ r) e b c t a i f s l d = build r (tree.negate p (e₁ e) ∷ rest e) b c t a i f s l d
build (node.Lnot p ∷ r) e b c t a i f s l d = build r (tree.lnot p (e₁ e) ∷ rest e) b c t a i f s l d
build (node.Convert k ∷ r) e b c t a i f s l d = build r (tree.convert k (e₁ e) ∷ rest e) b c t a i f s l d
build (node.Field x y p ∷ r) e b c t a i f s l d = build r (tree.field x y p (e₁ e) ∷ rest e) b c t a i f s l d
build (node.Shift x y p ∷ r) e b c t a i f s l d = build r (tree.shift x y p (e₁ e) ∷ rest e) b c t a i f s l d
build (node.Store n p q ∷ r) e b c t a i f s l d = build r (rest e) (more (stores f n p q (e₁ e)) b) c t a i None s l d
build (node.Checked n p o ∷ r) e b c t a i f s l d = build r e b c t a (o ∷ i) f s l d
build (node.StoreAt n p q ∷ r) e b c t a i f s l d = build r (rest (rest e)) (more (stores_at f n p (top 0 i) (e₂ e) q (e₁ e)) b) c t a (rest i) None s l d
build (node.Fetch n p ∷ r) e b c t a i f s l d = build r e b c t a i f s l d
build (node.FetchAt n p o ∷ r) e b c t a i f s l d = build r e b c t a (o ∷ i) f s l d
build (node.Deposit x y p ∷ r) e b c t a i f s l d = build r e b c t a i (Some (x, y, p)) s l d
build (node.Test p ∷ r) e b c t a i f s l d = build r (rest e) b (tested (top begun c) p (e₁ e) ∷ rest c) t a i f s l d
build (node.Or ∷ r) e b c t a i f s l d = build r e b (ored (top begun c) ∷ rest c) t a i f s l d
build (node.If ∷ r) e b c t a i f s l d = build r e b (begun ∷ c) t a i f s l d
build (node.Then ∷ r) e b c t a i f s l d = build r e ((λ x. x) ∷ b) (rest c) (branch (valued (top begun c)) ∷ t) a i f s l d
build (node.Else ∷ r) e b c t a i f s l d =
    build r e ((λ x. x) ∷ rest b) c (record { cond = (top no_branch t).cond; close = λ y. tree.either (top no_branch t).cond (shut b) y } ∷ rest t) a i f s l d
build (node.Fi ∷ r) e b c t a i f s l d = build r e (more ((top no_branch t).close (shut b)) (rest b)) c (rest t) a i f s l d
build (node.While ∷ r) e b c t a i f s l d = build r e b (begun ∷ c) t a i f s l d
build (node.Loop ∷ r) e b c t a i f s l d = build r e (more (tree.while (top no_branch t).cond (shut b)) (rest b)) c (rest t) a i f s l d
build (node.Do ∷ r) e b c t a i f s l d = build r e ((λ x. x) ∷ b) c t a i f s l d
build (node.Until ∷ r) e b c t a i f s l d = build r e b (begun ∷ c) t a i f s l d
build (node.Done ∷ r) e b c t a i f s l d = build r e (more (tree.repeat (shut b) (valued (top begun c))) (rest b)) (rest c) t a i f s l d
build (node.First n p q ∷ r) e b c t a i f s l d = build r e b c t a i f s l d
build (node.Step q ∷ r) e b c t a i f s l d = build r (rest e) b c t a i f (tree.by (e₁ e) ∷ s) l d
build (node.One ∷ r) e b c t a i f s l d = build r e b c t a i f (tree.absent ∷ s) l d
build (node.For n p q ∷ r) e b c t a i f s l d =
    build r (rest (rest e)) ((λ x. x) ∷ b) c t a i f (rest s) ((λ y. tree.count n p q (e₂ e) (top tree.absent s) (e₁ e) y) ∷ l) d
build (node.Next n ∷ r) e b c t a i f s l d = build r e b c t a i f s l d
build (node.Drop ∷ r) e b c t a i f s l d = build r e (more (top (λ y. no_stmt) l (shut b)) (rest b)) c t a i f s (rest l) d
build (node.Case p ∷ r) e b c t a i f s l d = build r (rest e) b c t (record { close = λ y. tree.choose p (e₁ e) y; further = λ y. y; arms = tree.last tree.end } ∷ a) i f s l d
build (node.Arm ∷ r) e b c t a i f s l d = build r e ((λ x. x) ∷ b) c t a i f s l d
build (node.Out ∷ r) e b c t a i f s l d =
    build r e (rest b) c t
    (record { close = (top no_choice a).close; further = λ y. (top no_choice a).further (tree.arm (shut b) y); arms = (top no_choice a).further (tree.last (shut b)) } ∷ rest a)
    i f s l d
build (node.Esac ∷ r) e b c t a i f s l d = build r e (more ((top no_choice a).close (top no_choice a).arms) b) c t (rest a) i f s l d

build_e : (x : Expr) (r : List Node) (e : List Expr) (b : List (Body → Body)) (c : List Con) (t : List Branch) (a : List Choice) (i : List ℕ) (f : Option (ℕ × ℕ × ℕ)) (s : List Step) (l : List (Body → Stmt)) (d : List Decl → List Decl) → build (list_e x r) e b c t a i f s l d ≡ build r (x ∷ e) b c t a i f s l d
build_e (tree.number v k) r e b c t a i f s l d = refl
build_e (tree.load n p) r e b c t a i f s l d = refl
build_e (tree.index n p q x) r e b c t a i f s l d = build_e x (node.Index n p q ∷ r) e b c t a i f s l d
build_e (tree.binary o p x y) r e b c t a i f s l d = build_e x (list_e y (node.Binary o p ∷ r)) e b c t a i f s l d ∙ build_e y (node.Binary o p ∷ r) (x ∷ e) b c t a i f s l d
build_e (tree.negate p x) r e b c t a i f s l d = build_e x (node.Negate p ∷ r) e b c t a i f s l d
build_e (tree.lnot p x) r e b c t a i f s l d = build_e x (node.Lnot p ∷ r) e b c t a i f s l d
build_e (tree.convert k x) r e b c t a i f s l d = build_e x (node.Convert k ∷ r) e b c t a i f s l d
build_e (tree.field u v p x) r e b c t a i f s l d = build_e x (node.Field u v p ∷ r) e b c t a i f s l d
build_e (tree.shift u v p x) r e b c t a i f s l d = build_e x (node.Shift u v p ∷ r) e b c t a i f s l d

-- conditions
abbrev after_l : Clause → Con → Con
after_l (tree.test p e) x = tested x p e
after_l (tree.and p e c) x = after_l c (tested x p e)

abbrev after_c : Cond → Con → Con
after_c (tree.only c) x = after_l c x
after_c (tree.or c y) x = after_c y (ored (after_l c x))

clause_l : (c : Clause) (x : Con) → (after_l c x).clause ≡ x.tests c
clause_l (tree.test p e) x = refl
clause_l (tree.and p e c) x = clause_l c (tested x p e)

conds_l : (c : Clause) (x : Con) → (after_l c x).conds ≡ x.conds
conds_l (tree.test p e) x = refl
conds_l (tree.and p e c) x = conds_l c (tested x p e)

value_c : (c : Cond) (x : Con) → ((y : Clause) → x.tests y ≡ y) → valued (after_c c x) ≡ x.conds c
value_c (tree.only c) x h = ap (λ g. g (tree.only (after_l c x).clause)) (conds_l c x) ∙ ap (λ y. x.conds (tree.only y)) (clause_l c x ∙ h c)
value_c (tree.or c y) x h =
    value_c y (ored (after_l c x)) (λ z. refl) ∙ ap (λ g. g (tree.or (after_l c x).clause y)) (conds_l c x) ∙ ap (λ z. x.conds (tree.or z y)) (clause_l c x ∙ h c)

build_l : (x : Clause) (r : List Node) (e : List Expr) (b : List (Body → Body)) (y : Con) (c : List Con) (t : List Branch) (a : List Choice) (i : List ℕ) (f : Option (ℕ × ℕ × ℕ)) (s : List Step) (l : List (Body → Stmt)) (d : List Decl → List Decl) → build (list_l x r) e b (y ∷ c) t a i f s l d ≡ build r e b (after_l x y ∷ c) t a i f s l d
build_l (tree.test p x) r e b y c t a i f s l d = build_e x (node.Test p ∷ r) e b (y ∷ c) t a i f s l d
build_l (tree.and p x z) r e b y c t a i f s l d = build_e x (node.Test p ∷ list_l z r) e b (y ∷ c) t a i f s l d ∙ build_l z r e b (tested y p x) c t a i f s l d

build_c : (x : Cond) (r : List Node) (e : List Expr) (b : List (Body → Body)) (y : Con) (c : List Con) (t : List Branch) (a : List Choice) (i : List ℕ) (f : Option (ℕ × ℕ × ℕ)) (s : List Step) (l : List (Body → Stmt)) (d : List Decl → List Decl) → build (list_c x r) e b (y ∷ c) t a i f s l d ≡ build r e b (after_c x y ∷ c) t a i f s l d
build_c (tree.only z) r e b y c t a i f s l d = build_l z r e b y c t a i f s l d
build_c (tree.or z x) r e b y c t a i f s l d = build_l z (node.Or ∷ list_c x r) e b y c t a i f s l d ∙ build_c x r e b (ored (after_l z y)) c t a i f s l d

-- bodies
joined_end : (b : Body) → sequence b tree.end ≡ b
joined_end tree.end = refl
joined_end (tree.then x b) = ap (tree.then x) (joined_end b)

-- arms
abbrev outed : Body → Choice → Choice
outed b k = record { close = k.close; further = λ y. k.further (tree.arm (sequence b tree.end) y); arms = k.further (tree.last (sequence b tree.end)) }

abbrev after_a : Arms → Choice → Choice
after_a (tree.last b) k = outed b k
after_a (tree.arm b x) k = after_a x (outed b k)

arms_a : (x : Arms) (k : Choice) → (after_a x k).arms ≡ k.further x
arms_a (tree.last b) k = ap (λ z. k.further (tree.last z)) (joined_end b)
arms_a (tree.arm b x) k = arms_a x (outed b k) ∙ ap (λ z. k.further (tree.arm z x)) (joined_end b)

close_a : (x : Arms) (k : Choice) → (after_a x k).close ≡ k.close
close_a (tree.last b) k = refl
close_a (tree.arm b x) k = close_a x (outed b k)

build_p : (q : ℕ) (x : Step) (r : List Node) (e : List Expr) (b : List (Body → Body)) (c : List Con) (t : List Branch) (a : List Choice) (i : List ℕ) (s : List Step) (l : List (Body → Stmt)) (d : List Decl → List Decl) → build (list_p q x r) e b c t a i None s l d ≡ build r e b c t a i None (x ∷ s) l d
build_p q tree.absent r e b c t a i s l d = refl
build_p q (tree.by x) r e b c t a i s l d = build_e x (node.Step q ∷ r) e b c t a i None s l d

mutual
  build_s : (x : Stmt) (r : List Node) (e : List Expr) (B : Body → Body) (b : List (Body → Body)) (c : List Con) (t : List Branch) (a : List Choice) (i : List ℕ) (s : List Step) (l : List (Body → Stmt)) (d : List Decl → List Decl) → build (list_s x r) e (B ∷ b) c t a i None s l d ≡ build r e ((λ y. B (tree.then x y)) ∷ b) c t a i None s l d
  build_s (tree.assign n p q x) r e B b c t a i s l d = build_e x (node.Store n p q ∷ r) e (B ∷ b) c t a i None s l d
  build_s (tree.assign_at n p o z q x) r e B b c t a i s l d =
      build_e z (node.Checked n p o ∷ list_e x (node.StoreAt n p q ∷ r)) e (B ∷ b) c t a i None s l d
      ∙ build_e x (node.StoreAt n p q ∷ r) (z ∷ e) (B ∷ b) c t a (o ∷ i) None s l d
  build_s (tree.deposit n p u v w q x) r e B b c t a i s l d = build_e x (node.Deposit u v w ∷ node.Store n p q ∷ r) e (B ∷ b) c t a i None s l d
  build_s (tree.deposit_at n p o z u v w q x) r e B b c t a i s l d =
      build_e z (node.FetchAt n p o ∷ list_e x (node.Deposit u v w ∷ node.StoreAt n p q ∷ r)) e (B ∷ b) c t a i None s l d
      ∙ build_e x (node.Deposit u v w ∷ node.StoreAt n p q ∷ r) (z ∷ e) (B ∷ b) c t a (o ∷ i) None s l d
  build_s (tree.when x y) r e B b c t a i s l d =
      build_c x (node.Then ∷ list_b y (node.Fi ∷ r)) e (B ∷ b) begun c t a i None s l d
      ∙ build_b y (node.Fi ∷ r) e (λ z. z) (B ∷ b) c (branch (valued (after_c x begun)) ∷ t) a i s l d
      ∙ ap (λ z. build r e ((λ w. B (tree.then z w)) ∷ b) c t a i None s l d) (ap₂ tree.when (value_c x begun (λ z. refl)) (joined_end y))
  build_s (tree.either x y v) r e B b c t a i s l d =
      build_c x (node.Then ∷ list_b y (node.Else ∷ list_b v (node.Fi ∷ r))) e (B ∷ b) begun c t a i None s l d
      ∙ build_b y (node.Else ∷ list_b v (node.Fi ∷ r)) e (λ z. z) (B ∷ b) c (branch (valued (after_c x begun)) ∷ t) a i s l d
      ∙ build_b v (node.Fi ∷ r) e (λ z. z) (B ∷ b) c (record { cond = valued (after_c x begun); close = λ z. tree.either (valued (after_c x begun)) (sequence y tree.end) z } ∷ t) a i s l d
      ∙ ap (λ z. build r e ((λ w. B (tree.then z w)) ∷ b) c t a i None s l d)
      (ap (λ z. tree.either z (sequence y tree.end) (sequence v tree.end)) (value_c x begun (λ z. refl)) ∙ ap₂ (tree.either x) (joined_end y) (joined_end v))
  build_s (tree.choose p x y) r e B b c t a i s l d =
      build_e x (node.Case p ∷ list_a y (node.Esac ∷ r)) e (B ∷ b) c t a i None s l d
      ∙ build_a y (node.Esac ∷ r) e (B ∷ b) (record { close = λ z. tree.choose p x z; further = λ z. z; arms = tree.last tree.end }) c t a i s l d
      ∙ ap (λ z. build r e ((λ w. B (tree.then z w)) ∷ b) c t a i None s l d)
      (ap (λ g. g (after_a y (record { close = λ z. tree.choose p x z; further = λ z. z; arms = tree.last tree.end })).arms) (close_a y (record { close = λ z. tree.choose p x z; further = λ z. z; arms = tree.last tree.end }))
      ∙ ap (tree.choose p x) (arms_a y (record { close = λ z. tree.choose p x z; further = λ z. z; arms = tree.last tree.end })))
  build_s (tree.while x y) r e B b c t a i s l d =
      build_c x (node.Then ∷ list_b y (node.Loop ∷ r)) e (B ∷ b) begun c t a i None s l d
      ∙ build_b y (node.Loop ∷ r) e (λ z. z) (B ∷ b) c (branch (valued (after_c x begun)) ∷ t) a i s l d
      ∙ ap (λ z. build r e ((λ w. B (tree.then z w)) ∷ b) c t a i None s l d) (ap₂ tree.while (value_c x begun (λ z. refl)) (joined_end y))
  build_s (tree.repeat y x) r e B b c t a i s l d =
      build_b y (node.Until ∷ list_c x (node.Done ∷ r)) e (λ z. z) (B ∷ b) c t a i s l d
      ∙ build_c x (node.Done ∷ r) e ((λ z. sequence y z) ∷ B ∷ b) begun c t a i None s l d
      ∙ ap (λ z. build r e ((λ w. B (tree.then z w)) ∷ b) c t a i None s l d) (ap₂ tree.repeat (joined_end y) (value_c x begun (λ z. refl)))
  build_s (tree.count n p q x z m y) r e B b c t a i s l d =
      build_e x (node.First n p q ∷ list_p q z (list_e m (node.For n p q ∷ list_b y (node.Next n ∷ node.Drop ∷ r)))) e (B ∷ b) c t a i None s l d
      ∙ build_p q z (list_e m (node.For n p q ∷ list_b y (node.Next n ∷ node.Drop ∷ r))) (x ∷ e) (B ∷ b) c t a i s l d
      ∙ build_e m (node.For n p q ∷ list_b y (node.Next n ∷ node.Drop ∷ r)) (x ∷ e) (B ∷ b) c t a i None (z ∷ s) l d
      ∙ build_b y (node.Next n ∷ node.Drop ∷ r) e (λ w. w) (B ∷ b) c t a i s ((λ w. tree.count n p q x z m w) ∷ l) d
      ∙ ap (λ v. build r e ((λ w. B (tree.then v w)) ∷ b) c t a i None s l d) (ap (tree.count n p q x z m) (joined_end y))

  build_b : (x : Body) (r : List Node) (e : List Expr) (B : Body → Body) (b : List (Body → Body)) (c : List Con) (t : List Branch) (a : List Choice) (i : List ℕ) (s : List Step) (l : List (Body → Stmt)) (d : List Decl → List Decl) → build (list_b x r) e (B ∷ b) c t a i None s l d ≡ build r e ((λ y. B (sequence x y)) ∷ b) c t a i None s l d
  build_b tree.end r e B b c t a i s l d = refl
  build_b (tree.then x y) r e B b c t a i s l d = build_s x (list_b y r) e B b c t a i s l d ∙ build_b y r e (λ z. B (tree.then x z)) b c t a i s l d

  build_a : (x : Arms) (r : List Node) (e : List Expr) (b : List (Body → Body)) (k : Choice) (c : List Con) (t : List Branch) (a : List Choice) (i : List ℕ) (s : List Step) (l : List (Body → Stmt)) (d : List Decl → List Decl) → build (list_a x r) e b c t (k ∷ a) i None s l d ≡ build r e b c t (after_a x k ∷ a) i None s l d
  build_a (tree.last y) r e b k c t a i s l d = build_b y (node.Out ∷ r) e (λ z. z) b c t (k ∷ a) i s l d
  build_a (tree.arm y x) r e b k c t a i s l d = build_b y (node.Out ∷ list_a x r) e (λ z. z) b c t (k ∷ a) i s l d ∙ build_a x r e b (outed y k) c t a i s l d

build_ds : (ds : List Decl) (r : List Node) (e : List Expr) (b : List (Body → Body)) (c : List Con) (t : List Branch) (a : List Choice) (i : List ℕ) (s : List Step) (l : List (Body → Stmt)) (d : List Decl → List Decl) → build (list_ds ds r) e b c t a i None s l d ≡ build r e b c t a i None s l (λ x. d (ds ++ x))
build_ds [] r e b c t a i s l d = refl
build_ds (tree.simple n k p ∷ ds) r e b c t a i s l d = build_ds ds r e b c t a i s l (λ x. d (tree.simple n k p ∷ x))
build_ds (tree.array n k u v p q ∷ ds) r e b c t a i s l d = build_ds ds r e b c t a i s l (λ x. d (tree.array n k u v p q ∷ x))

rebuilt : List Node → Program
rebuilt es = build es [] ((λ x. x) ∷ []) [] [] [] [] None [] [] (λ x. x)

rebuilt_list : (p : Program) → rebuilt (list p) ≡ p
unfolding rebuilt list
rebuilt_list p =
    build_ds p.decls (list_b p.body []) [] ((λ x. x) ∷ []) [] [] [] [] [] [] (λ x. x)
    ∙ build_b p.body [] [] (λ x. x) [] [] [] [] [] [] [] (λ x. p.decls ++ x)
    ∙ ap₂ (λ (x : List Decl) (y : Body). record { decls = x; body = y }) (append-nil p.decls) (joined_end p.body)

pub list_one : (p q : Program) → list p ≡ list q → p ≡ q
list_one p q h = sym (rebuilt_list p) ∙ ap rebuilt h ∙ rebuilt_list q
