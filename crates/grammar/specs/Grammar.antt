-- The grammar: how each tree is written, one rule for each line of docs/GRAMMAR.md. `SomethingWritten .. x ts us`
-- says that the tokens ts are x as it is written, followed by the tokens us. l is the number of levels that may still
-- be opened. A rule that opens a level has 0 < l, and l - 1 inside.
use Rattle.std.specs.Prelude.{◌≡◌, ℕ, ◌-◌, ◌<◌, Bool, true, false, List, [], ◌∷◌, ◌++◌, Some}
use Rattle.lexer.specs.declared.token.Radix.TheVariants as radix
use Rattle.parser.specs.declared.value_type.ValueType.{ValueType}
use Rattle.parser.specs.declared.value_type.ValueType.TheVariants as types
use Rattle.lexer.specs.declared.token.Keyword.{Keyword}
use Rattle.lexer.specs.declared.token.Keyword.TheVariants as kw
use Rattle.lexer.specs.declared.token.Symbol.{Symbol}
use Rattle.lexer.specs.declared.token.Symbol.TheVariants as sign
use Rattle.parser.specs.declared.node.Operator.{Operator}
use Rattle.arith.specs.declared.shift.Kind.{Kind as ShiftKind}
use Rattle.parser.specs.declared.lexeme.Strength.{Strength}
use Rattle.parser.specs.declared.lexeme.Strength.TheVariants as strength
use Rattle.parser.specs.Marks.{Mark, Tok, is_keyword, literal_of, type_of, shift_of, operator_at}
use Rattle.parser.specs.Marks as mark
use Rattle.ast.specs.Trees.{Expr, Clause, Cond, Step, Stmt, Body, Arms, Decl, Program, sequence}
use Rattle.ast.specs.Trees as tree

-- A token at its offset.
abbrev pub tok_at : Mark → (offset : ℕ) → Tok
tok_at m p = record { sort = m; offset = p }

-- A symbol at its offset.
abbrev pub symbol : Symbol → (offset : ℕ) → Tok
symbol s p = tok_at (mark.symbol s) p

-- A reserved word at its offset.
abbrev pub word : Keyword → (offset : ℕ) → Tok
word w p = tok_at (mark.keyword w) p

-- A name at its offset.
abbrev pub name : List ℕ → (offset : ℕ) → Tok
name n p = tok_at (mark.name n) p

-- A decimal number at its offset.
abbrev pub decimal : (value offset : ℕ) → Tok
decimal v p = tok_at (mark.number radix.Decimal v) p

-- The strengths of expressions, from the weakest.
pub data Rank : Type 0 where
  lor : Rank
  xor : Rank
  land : Rank
  relation : Rank
  sum : Rank
  term : Rank
  factor : Rank
  primary : Rank

-- An expression of the second rank is one of the first rank too.
pub data Chain : Rank → Rank → Type 0 where
  lor_xor : Chain lor xor
  xor_land : Chain xor land
  land_relation : Chain land relation
  relation_sum : Chain relation sum
  sum_term : Chain sum term
  term_factor : Chain term factor
  factor_primary : Chain factor primary

-- The operators that group to the left: the rank of the expression that they make and of their left side, their
-- strength, and the rank of their right side.
pub data Left : Rank → Strength → Rank → Type 0 where
  lors : Left lor strength.Lor xor
  xors : Left xor strength.Xor land
  lands : Left land strength.Land relation
  sums : Left sum strength.Sum term
  terms : Left term strength.Term factor

-- `.(a:b)`, where a stands at the offset q.
pub data FieldWritten (a b q : ℕ) : List Tok → List Tok → Type 0 where
  bits : {p₁ p₂ p₃ p₄ p₅ : ℕ} {us : List Tok} → FieldWritten a b q
      (symbol sign.Dot p₁ ∷ symbol sign.Open p₂ ∷ decimal a q ∷ symbol sign.Colon p₃ ∷ decimal b p₄ ∷ symbol sign.Close p₅ ∷ us) us

-- An expression of this rank.
pub data ExprWritten : Rank → (l : ℕ) → Expr → List Tok → List Tok → Type 0 where
  up : {r s : Rank} {l : ℕ} {e : Expr} {ts us : List Tok} → Chain r s → ExprWritten s l e ts us → ExprWritten r l e ts us
  binary : {r q : Rank} {s : Strength} {l : ℕ} {a b : Expr} {m : Mark} {o : Operator} {p : ℕ} {ts us vs : List Tok} →
      Left r s q → operator_at s m ≡ Some o → ExprWritten r l a ts (tok_at m p ∷ us) → ExprWritten q l b us vs →
      ExprWritten r l (tree.binary o p a b) ts vs
  compare : {l : ℕ} {a b : Expr} {m : Mark} {o : Operator} {p : ℕ} {ts us vs : List Tok} →
      operator_at strength.Relation m ≡ Some o → ExprWritten sum l a ts (tok_at m p ∷ us) → ExprWritten sum l b us vs →
      ExprWritten relation l (tree.binary o p a b) ts vs
  lnot : {l : ℕ} {a : Expr} {p : ℕ} {ts us : List Tok} →
      0 < l → ExprWritten relation (l - 1) a ts us → ExprWritten relation l (tree.lnot p a) (word kw.Lnot p ∷ ts) us
  negate : {l : ℕ} {a : Expr} {p : ℕ} {ts us : List Tok} →
      ExprWritten term l a ts us → ExprWritten sum l (tree.negate p a) (symbol sign.Minus p ∷ ts) us
  field : {l a b q : ℕ} {e : Expr} {ts us vs : List Tok} →
      ExprWritten factor l e ts us → FieldWritten a b q us vs → ExprWritten factor l (tree.field a b q e) ts vs
  shift : {l c q p₁ p₂ p₃ p₄ : ℕ} {m : Mark} {s : ShiftKind} {e : Expr} {ts us : List Tok} → shift_of m ≡ Some s →
      ExprWritten factor l e ts (symbol sign.Ampersand p₁ ∷ tok_at m p₂ ∷ symbol sign.Open p₃ ∷ decimal c q ∷ symbol sign.Close p₄ ∷ us) →
      ExprWritten factor l (tree.shift s c q e) ts us
  number : {l v p : ℕ} {k : ValueType} {m : Mark} {us : List Tok} →
      literal_of m ≡ Some (v, k) → ExprWritten primary l (tree.number v k) (tok_at m p ∷ us) us
  load : {l p : ℕ} {n : List ℕ} {us : List Tok} → ExprWritten primary l (tree.load n p) (name n p ∷ us) us
  index : {l p q r : ℕ} {n : List ℕ} {e : Expr} {ts us : List Tok} →
      0 < l → ExprWritten lor (l - 1) e ts (symbol sign.Close r ∷ us) →
      ExprWritten primary l (tree.index n p q e) (name n p ∷ symbol sign.Open q ∷ ts) us
  paren : {l q r : ℕ} {e : Expr} {ts us : List Tok} →
      0 < l → ExprWritten lor (l - 1) e ts (symbol sign.Close r ∷ us) → ExprWritten primary l e (symbol sign.Open q ∷ ts) us
  convert : {l p q r : ℕ} {k : ValueType} {m : Mark} {e : Expr} {ts us : List Tok} → type_of m ≡ Some k →
      0 < l → ExprWritten lor (l - 1) e ts (symbol sign.Close r ∷ us) →
      ExprWritten primary l (tree.convert k e) (tok_at m p ∷ symbol sign.Open q ∷ ts) us

-- Expressions joined by AND. The offset of each is that of its first token.
pub data ClauseWritten : (l : ℕ) → Clause → List Tok → List Tok → Type 0 where
  test : {l : ℕ} {e : Expr} {t : Tok} {ts us : List Tok} → ExprWritten lor l e (t ∷ ts) us → ClauseWritten l (tree.test t.offset e) (t ∷ ts) us
  and : {l p : ℕ} {e : Expr} {c : Clause} {t : Tok} {ts us vs : List Tok} →
      ExprWritten lor l e (t ∷ ts) (word kw.And p ∷ us) → ClauseWritten l c us vs → ClauseWritten l (tree.and t.offset e c) (t ∷ ts) vs

-- Clauses joined by OR.
pub data CondWritten : (l : ℕ) → Cond → List Tok → List Tok → Type 0 where
  only : {l : ℕ} {c : Clause} {ts us : List Tok} → ClauseWritten l c ts us → CondWritten l (tree.only c) ts us
  or : {l p : ℕ} {c : Clause} {d : Cond} {ts us vs : List Tok} →
      ClauseWritten l c ts (word kw.Or p ∷ us) → CondWritten l d us vs → CondWritten l (tree.or c d) ts vs

-- The step of a FOR: nothing, or STEP and an expression.
pub data StepWritten : (l : ℕ) → Step → List Tok → List Tok → Type 0 where
  absent : {l : ℕ} {us : List Tok} → StepWritten l tree.absent us us
  by : {l p : ℕ} {e : Expr} {ts us : List Tok} → ExprWritten lor l e ts us → StepWritten l (tree.by e) (word kw.Step p ∷ ts) us

-- The next token is not ELSE.
abbrev pub NotElse : List Tok → Type 0
NotElse [] = Unit {0}
NotElse (t ∷ ts) = is_keyword kw.Else t.sort ≡ false

-- The body of one statement.
abbrev pub single : Stmt → Body
single s = tree.then s tree.end

mutual
  -- a statement and the body that it makes: nothing, an assignment, or what a reserved word opens
  pub data StatementWritten : (l : ℕ) → Body → List Tok → List Tok → Type 0 where
    nothing : {l : ℕ} {us : List Tok} → StatementWritten l tree.end us us
    assign : {l p q : ℕ} {n : List ℕ} {e : Expr} {ts us : List Tok} →
        ExprWritten lor l e ts us → StatementWritten l (single (tree.assign n p q e)) (name n p ∷ symbol sign.Becomes q ∷ ts) us
    assign_at : {l p o r q : ℕ} {n : List ℕ} {i e : Expr} {ts us vs : List Tok} →
        0 < l → ExprWritten lor (l - 1) i ts (symbol sign.Close r ∷ symbol sign.Becomes q ∷ us) → ExprWritten lor l e us vs →
        StatementWritten l (single (tree.assign_at n p o i q e)) (name n p ∷ symbol sign.Open o ∷ ts) vs
    deposit : {l p a b f q : ℕ} {n : List ℕ} {e : Expr} {ts us vs : List Tok} →
        FieldWritten a b f ts (symbol sign.Becomes q ∷ us) → ExprWritten lor l e us vs →
        StatementWritten l (single (tree.deposit n p a b f q e)) (name n p ∷ ts) vs
    deposit_at : {l p o r a b f q : ℕ} {n : List ℕ} {i e : Expr} {ts us vs ws : List Tok} →
        0 < l → ExprWritten lor (l - 1) i ts (symbol sign.Close r ∷ us) → FieldWritten a b f us (symbol sign.Becomes q ∷ vs) → ExprWritten lor l e vs ws →
        StatementWritten l (single (tree.deposit_at n p o i a b f q e)) (name n p ∷ symbol sign.Open o ∷ ts) ws
    opened : {l p : ℕ} {w : Keyword} {b : Body} {ts us : List Tok} →
        0 < l → Inside w p (l - 1) b ts us → StatementWritten l b (word w p ∷ ts) us

  -- what follows the reserved word at the offset p that opens a level; an IF without ELSE is not followed by ELSE, so
  -- that an ELSE belongs to the nearest THEN
  pub data Inside : Keyword → (p l : ℕ) → Body → List Tok → List Tok → Type 0 where
    block : {p l r : ℕ} {b : Body} {ts us : List Tok} → ListWritten l b ts (word kw.End r ∷ us) → Inside kw.Begin p l b ts us
    when : {p l q : ℕ} {c : Cond} {b : Body} {ts us vs : List Tok} →
        CondWritten l c ts (word kw.Then q ∷ us) → StatementWritten l b us vs → NotElse vs → Inside kw.If p l (single (tree.when c b)) ts vs
    either : {p l q r : ℕ} {c : Cond} {b d : Body} {ts us vs ws : List Tok} →
        CondWritten l c ts (word kw.Then q ∷ us) → StatementWritten l b us (word kw.Else r ∷ vs) → StatementWritten l d vs ws →
        Inside kw.If p l (single (tree.either c b d)) ts ws
    choose : {p l q r s : ℕ} {e : Expr} {a : Arms} {ts us vs : List Tok} →
        ExprWritten lor l e ts (word kw.Of q ∷ word kw.Begin r ∷ us) → ArmsWritten l a us (word kw.End s ∷ vs) →
        Inside kw.Case p l (single (tree.choose p e a)) ts vs
    while : {p l q : ℕ} {c : Cond} {b : Body} {ts us vs : List Tok} →
        CondWritten l c ts (word kw.Do q ∷ us) → StatementWritten l b us vs → Inside kw.While p l (single (tree.while c b)) ts vs
    repeat : {p l q : ℕ} {c : Cond} {b : Body} {ts us vs : List Tok} →
        StatementWritten l b ts (word kw.Until q ∷ us) → CondWritten l c us vs → Inside kw.Do p l (single (tree.repeat b c)) ts vs
    count : {f p q r s l : ℕ} {n : List ℕ} {e m : Expr} {x : Step} {b : Body} {ts us vs ws xs : List Tok} →
        ExprWritten lor l e ts us → StepWritten l x us (word kw.Until r ∷ vs) → ExprWritten lor l m vs (word kw.Do s ∷ ws) → StatementWritten l b ws xs →
        Inside kw.For f l (single (tree.count n p f e x m b)) (name n p ∷ symbol sign.Becomes q ∷ ts) xs

  -- statements with `;` between them, and the body that they make
  pub data ListWritten : (l : ℕ) → Body → List Tok → List Tok → Type 0 where
    final : {l : ℕ} {b : Body} {ts us : List Tok} → StatementWritten l b ts us → ListWritten l b ts us
    next : {l p : ℕ} {b c : Body} {ts us vs : List Tok} →
        StatementWritten l b ts (symbol sign.Semicolon p ∷ us) → ListWritten l c us vs → ListWritten l (sequence b c) ts vs

  -- the statements of a CASE with `;` between them
  pub data ArmsWritten : (l : ℕ) → Arms → List Tok → List Tok → Type 0 where
    last : {l : ℕ} {b : Body} {ts us : List Tok} → StatementWritten l b ts us → ArmsWritten l (tree.last b) ts us
    arm : {l p : ℕ} {b : Body} {a : Arms} {ts us vs : List Tok} →
        StatementWritten l b ts (symbol sign.Semicolon p ∷ us) → ArmsWritten l a us vs → ArmsWritten l (tree.arm b a) ts vs

-- A declared name of this type, or, if `array` is true, a declared array.
pub data ItemWritten : (array : Bool) → ValueType → Decl → List Tok → List Tok → Type 0 where
  simple : {k : ValueType} {n : List ℕ} {p : ℕ} {us : List Tok} → ItemWritten false k (tree.simple n k p) (name n p ∷ us) us
  array : {k : ValueType} {n : List ℕ} {a b p q p₁ p₂ p₃ p₄ : ℕ} {us : List Tok} → ItemWritten true k (tree.array n k a b p q)
      (name n p ∷ symbol sign.Open p₁ ∷ decimal a q ∷ symbol sign.Colon p₂ ∷ decimal b p₃ ∷ symbol sign.Close p₄ ∷ us) us

-- One or more of these with `,` between them, and then `;`.
pub data ItemsWritten : (array : Bool) → ValueType → List Decl → List Tok → List Tok → Type 0 where
  one : {a : Bool} {k : ValueType} {d : Decl} {p : ℕ} {ts us : List Tok} → ItemWritten a k d ts (symbol sign.Semicolon p ∷ us) → ItemsWritten a k (d ∷ []) ts us
  several : {a : Bool} {k : ValueType} {d : Decl} {ds : List Decl} {p : ℕ} {ts us vs : List Tok} →
      ItemWritten a k d ts (symbol sign.Comma p ∷ us) → ItemsWritten a k ds us vs → ItemsWritten a k (d ∷ ds) ts vs

-- What follows a type: names, or ARRAY and arrays.
pub data TypedWritten : ValueType → List Decl → List Tok → List Tok → Type 0 where
  names : {k : ValueType} {ds : List Decl} {ts us : List Tok} → ItemsWritten false k ds ts us → TypedWritten k ds ts us
  arrays : {k : ValueType} {ds : List Decl} {p : ℕ} {ts us : List Tok} → ItemsWritten true k ds ts us → TypedWritten k ds (word kw.Array p ∷ ts) us

-- Declarations. An array without a type is LOGICAL.
pub data DeclarationsWritten : List Decl → List Tok → List Tok → Type 0 where
  none : {us : List Tok} → DeclarationsWritten [] us us
  typed : {k : ValueType} {m : Mark} {ds es : List Decl} {p : ℕ} {ts us vs : List Tok} →
      type_of m ≡ Some k → TypedWritten k ds ts us → DeclarationsWritten es us vs → DeclarationsWritten (ds ++ es) (tok_at m p ∷ ts) vs
  untyped : {ds es : List Decl} {p : ℕ} {ts us vs : List Tok} →
      ItemsWritten true types.Logical ds ts us → DeclarationsWritten es us vs → DeclarationsWritten (ds ++ es) (word kw.Array p ∷ ts) vs

-- A whole program within l levels. Its outer BEGIN opens one of them.
pub data ProgramWritten : (l : ℕ) → Program → List Tok → Type 0 where
  program : {l p q r : ℕ} {ds : List Decl} {b : Body} {ts us : List Tok} →
      0 < l → DeclarationsWritten ds ts us → ListWritten (l - 1) b us (word kw.End q ∷ symbol sign.Dot r ∷ []) →
      ProgramWritten l (record { decls = ds; body = b }) (word kw.Begin p ∷ ts)
