-- What each goal of the machine stands for: which tokens it takes, as the grammar writes them, and which nodes it
-- leaves. Assumes nothing.
use Rattle.std.proofs.Common.{◌≡◌, ℕ, ◌-◌, ◌<◌, Bool, true, false, List, [], ◌∷◌, Some}
use Rattle.parser.specs.declared.value_type.ValueType.{ValueType}
use Rattle.lexer.specs.declared.token.Keyword.{Keyword}
use Rattle.lexer.specs.declared.token.Keyword.TheVariants as kw
use Rattle.lexer.specs.declared.token.Symbol.{Symbol}
use Rattle.lexer.specs.declared.token.Symbol.TheVariants as sign
use Rattle.arith.specs.declared.shift.Kind.{Kind as ShiftKind}
use Rattle.parser.specs.declared.lexeme.Strength.{Strength}
use Rattle.parser.specs.declared.lexeme.Strength.TheVariants as strength
use Rattle.parser.specs.Nodes.{Node}
use Rattle.parser.specs.Nodes as node
use Rattle.parser.specs.Marks.{Mark, Tok, shift_of}
use Rattle.parser.specs.Machine.{Goal, Use, part, into, store_node}
use Rattle.parser.specs.Machine as goal
use Rattle.ast.specs.Trees.{Expr, Cond, Body, Arms, Decl}
use Rattle.ast.specs.Lists.{list_e, list_c, list_b, list_a, list_d, list_ds}
use Rattle.grammar.specs.Grammar.{tok_at, symbol, word, name, decimal, Rank, lor, xor, land, relation, sum, term, factor, primary, ExprWritten, CondWritten, StatementWritten, Inside, ListWritten, ArmsWritten, ItemWritten, ItemsWritten, TypedWritten, DeclarationsWritten}

-- what tokens and nodes stand for
abbrev pub Pred : Type 1
Pred = List Tok → List Node → Type 0

-- some tree that W writes and L lists, and then what B says
pub record Got {X : Type 0} (W : X → List Tok → List Tok → Type 0) (L : X → List Node → List Node) (B : Pred) (ts : List Tok) (es : List Node) : Type 0 where
  pub what : X
  pub behind : List Tok
  pub left : List Node
  pub written : W what ts behind
  pub entries : es ≡ L what left
  pub below : B behind left

-- a node; a symbol; a reserved word; a decimal number
pub record Put (x : Node) (B : Pred) (ts : List Tok) (es : List Node) : Type 0 where
  pub left : List Node
  pub entries : es ≡ x ∷ left
  pub below : B ts left

pub record Takes (T : ℕ → Tok) (B : ℕ → Pred) (ts : List Tok) (es : List Node) : Type 0 where
  pub offset : ℕ
  pub behind : List Tok
  pub tokens : ts ≡ T offset ∷ behind
  pub below : B offset behind es

abbrev pub Sym : Symbol → Pred → Pred
Sym s B ts es = Takes (symbol s) (λ _. B) ts es

abbrev pub Word : Keyword → Pred → Pred
Word w B ts es = Takes (word w) (λ _. B) ts es

pub record Number (B : ℕ → ℕ → Pred) (ts : List Tok) (es : List Node) : Type 0 where
  pub value : ℕ
  pub offset : ℕ
  pub behind : List Tok
  pub tokens : ts ≡ decimal value offset ∷ behind
  pub below : B value offset behind es

-- expressions
abbrev pub Ex : Rank → ℕ → Pred → Pred
Ex r l B ts es = Got (ExprWritten r l) list_e B ts es

abbrev pub Cont : Rank → Rank → ℕ → Pred → Pred
Cont r q l B ts es = (e : Expr) (ss : List Tok) → ExprWritten r l e ss ts → Ex q l B ss (list_e e es)

abbrev pub More : Strength → ℕ → Pred → Pred
More strength.Lor l B ts es = Cont lor lor l B ts es
More strength.Xor l B ts es = Cont xor xor l B ts es
More strength.Land l B ts es = Cont land land l B ts es
More strength.Relation l B ts es = Unit {0}
More strength.Sum l B ts es = Cont sum sum l B ts es
More strength.Term l B ts es = Cont term term l B ts es

abbrev pub Fields : Pred → Pred
Fields B ts es = (l : ℕ) (e : Expr) (ss : List Tok) → ExprWritten factor l e ss ts → Ex factor l B ss (list_e e es)

abbrev pub Paren : ℕ → Pred → Pred
Paren l B ts es = (0 < l) × Takes (symbol sign.Open) (λ _. Ex lor (l - 1) (Sym sign.Close B)) ts es

-- fields and shifts
abbrev pub Becomes : (subscript : Bool) (n : List ℕ) (p l a b q : ℕ) → Pred → Pred
Becomes s n p l a b q B ts es = Takes (symbol sign.Becomes) (λ r. Ex lor l (Put (node.Deposit a b q) (Put (store_node s n p r) B))) ts es

abbrev pub Used : Use → (a b q : ℕ) → Pred → Pred
Used part a b q B ts es = Put (node.Field a b q) B ts es
Used (into s n p l) a b q B ts es = Becomes s n p l a b q B ts es

abbrev pub Upto : Use → (a q : ℕ) → Pred → Pred
Upto u a q B ts es = Number (λ b _. Sym sign.Close (Used u a b q B)) ts es

abbrev pub Bits : Use → Pred → Pred
Bits u B ts es = Number (λ a q. Sym sign.Colon (Upto u a q B)) ts es

abbrev pub Count : ShiftKind → Pred → Pred
Count s B ts es = Number (λ c q. Sym sign.Close (Put (node.Shift s c q) B)) ts es

pub record Shifts (B : Pred) (ts : List Tok) (es : List Node) : Type 0 where
  pub mark : Mark
  pub offset : ℕ
  pub kind : ShiftKind
  pub behind : List Tok
  pub is : shift_of mark ≡ Some kind
  pub tokens : ts ≡ tok_at mark offset ∷ behind
  pub below : Sym sign.Open (Count kind B) behind es

-- conditions
pub record Test (l : ℕ) (B : Pred) (ts : List Tok) (es : List Node) : Type 0 where
  pub first : Tok
  pub behind : List Tok
  pub tokens : ts ≡ first ∷ behind
  pub below : Ex lor l (Put (node.Test first.offset) B) (first ∷ behind) es

abbrev pub Clauses : ℕ → Pred → Pred
Clauses l B ts es = (e : Expr) (t : Tok) (ss : List Tok) → ExprWritten lor l e (t ∷ ss) ts → Got (CondWritten l) list_c B (t ∷ ss) (list_e e (node.Test t.offset ∷ es))

-- statements
abbrev pub St : ℕ → Pred → Pred
St l B ts es = Got (StatementWritten l) list_b B ts es

abbrev pub In : Keyword → (p l : ℕ) → Pred → Pred
In w p l B ts es = Got (Inside w p l) list_b B ts es

-- a list, or the arms of a CASE, up to END
abbrev pub Ended : ℕ → Body → List Tok → List Tok → Type 0
Ended l b ts us = (r : ℕ) × ListWritten l b ts (word kw.End r ∷ us)

abbrev pub EndedArms : ℕ → Arms → List Tok → List Tok → Type 0
EndedArms l a ts us = (r : ℕ) × ArmsWritten l a ts (word kw.End r ∷ us)

abbrev pub Block : ℕ → Pred → Pred
Block l B ts es = (b : Body) (ss : List Tok) → StatementWritten l b ss ts → Got (Ended l) list_b B ss (list_b b es)

abbrev pub ArmsOf : ℕ → Pred → Pred
ArmsOf l B ts es = (b : Body) (ss : List Tok) → StatementWritten l b ss ts → Got (EndedArms l) (λ a r. list_a a (node.Esac ∷ r)) B ss (node.Arm ∷ list_b b es)

abbrev pub Otherwise : ℕ → Pred → Pred
Otherwise l B ts es =
    (p q : ℕ) (c : Cond) (b : Body) (cs bs : List Tok) → CondWritten l c cs (word kw.Then q ∷ bs) → StatementWritten l b bs ts →
    In kw.If p l B cs (node.If ∷ list_c c (node.Then ∷ list_b b es))

abbrev pub TargetAt : (n : List ℕ) (p q l : ℕ) → Pred → Pred
TargetAt n p q l B ts es =
    (i : Expr) (ss : List Tok) (r : ℕ) → 0 < l → ExprWritten lor (l - 1) i ss (symbol sign.Close r ∷ ts) → St l B (name n p ∷ symbol sign.Open q ∷ ss) (list_e i es)

abbrev pub Stepped : (n : List ℕ) (p f l : ℕ) → Pred → Pred
Stepped n p f l B ts es =
    (e : Expr) (ss : List Tok) (q : ℕ) → ExprWritten lor l e ss ts → In kw.For f l B (name n p ∷ symbol sign.Becomes q ∷ ss) (list_e e (node.First n p f ∷ es))

abbrev pub Turns : (n : List ℕ) (p f l : ℕ) → Pred → Pred
Turns n p f l B ts es = Ex lor l (Put (node.For n p f) (Word kw.Do (St l (Put (node.Next n) (Put node.Drop B))))) ts es

-- declarations
abbrev pub Item : Bool → ValueType → Pred → Pred
Item a c B ts es = Got (ItemWritten a c) (λ d r. list_d d ∷ r) B ts es

abbrev pub Comma : Bool → ValueType → Pred → Pred
Comma a c B ts es = (d : Decl) (ss : List Tok) → ItemWritten a c d ss ts → Got (ItemsWritten a c) list_ds B ss (list_d d ∷ es)

abbrev pub High : ValueType → (n : List ℕ) (p a q : ℕ) → Pred → Pred
High c n p a q B ts es = Number (λ b _. Sym sign.Close (Put (node.Array n c a b p q) B)) ts es

abbrev pub Low : ValueType → (n : List ℕ) (p : ℕ) → Pred → Pred
Low c n p B ts es = Number (λ a q. Sym sign.Colon (High c n p a q B)) ts es

-- one goal, and then what B says
abbrev pub Means : Goal → Pred → Pred
Means (goal.sym s) B ts es = Sym s B ts es
Means (goal.word w) B ts es = Word w B ts es
Means (goal.put x) B ts es = Put x B ts es
Means (goal.relation l) B ts es = Ex relation l B ts es
Means (goal.lead l) B ts es = Ex sum l B ts es
Means (goal.primary l) B ts es = Ex primary l B ts es
Means (goal.paren l) B ts es = Paren l B ts es
Means (goal.more s l) B ts es = More s l B ts es
Means (goal.compare l) B ts es = Cont sum relation l B ts es
Means goal.fields B ts es = Fields B ts es
Means (goal.named n p l) B ts es = Ex primary l B (name n p ∷ ts) es
Means (goal.bits u) B ts es = Bits u B ts es
Means (goal.upto u a q) B ts es = Upto u a q B ts es
Means goal.shift B ts es = Shifts B ts es
Means (goal.count s) B ts es = Count s B ts es
Means (goal.test l) B ts es = Test l B ts es
Means (goal.clauses l) B ts es = Clauses l B ts es
Means (goal.stmt l) B ts es = St l B ts es
Means (goal.block l) B ts es = Block l B ts es
Means (goal.otherwise l) B ts es = Otherwise l B ts es
Means (goal.arms l) B ts es = ArmsOf l B ts es
Means (goal.target n p l) B ts es = St l B (name n p ∷ ts) es
Means (goal.target_at n p q l) B ts es = TargetAt n p q l B ts es
Means (goal.becomes s n p l a b q) B ts es = Becomes s n p l a b q B ts es
Means (goal.variable f l) B ts es = In kw.For f l B ts es
Means (goal.stepped n p f l) B ts es = Stepped n p f l B ts es
Means (goal.turns n p f l) B ts es = Turns n p f l B ts es
Means goal.declarations B ts es = Got DeclarationsWritten list_ds B ts es
Means (goal.typed c) B ts es = Got (TypedWritten c) list_ds B ts es
Means (goal.simple c) B ts es = Item false c B ts es
Means (goal.comma a c) B ts es = Comma a c B ts es
Means (goal.item c) B ts es = Item true c B ts es
Means (goal.low c n p) B ts es = Low c n p B ts es
Means (goal.high c n p a q) B ts es = High c n p a q B ts es
Means goal.finish B ts es = (ts ≡ []) × (es ≡ [])

-- the goals of a stack, one after the other
abbrev pub All : List Goal → Pred
All [] ts es = ⊥
All (g ∷ k) ts es = Means g (All k) ts es
