-- One token more in front: what a goal stands for, from what the goals stand for that the token puts in its place.
-- Assumes nothing.
use Rattle.std.proofs.Common.{◌≡◌, ℕ, ◌-◌, ◌<◌, Bool, true, false, List, [], ◌∷◌, ◌++◌, Some, sym, refl, ap, ◌∙◌, subst}
use Rattle.parser.specs.declared.value_type.ValueType.{ValueType}
use Rattle.parser.specs.declared.value_type.ValueType.TheVariants as types
use Rattle.lexer.specs.declared.token.Keyword.{Keyword}
use Rattle.lexer.specs.declared.token.Keyword.TheVariants as kw
use Rattle.lexer.specs.declared.token.Symbol.TheVariants as sign
use Rattle.parser.specs.declared.node.Operator.{Operator}
use Rattle.parser.specs.declared.lexeme.Strength.{Strength}
use Rattle.parser.specs.declared.lexeme.Strength.TheVariants as strength
use Rattle.parser.specs.Nodes.{Node}
use Rattle.parser.specs.Nodes as node
use Rattle.parser.specs.Marks.{Mark, Tok, literal_of, type_of, operator_at}
use Rattle.parser.specs.Machine.{Use, part, into}
use Rattle.ast.specs.Trees.{Expr, Clause, Cond, Step, Stmt, Body, Arms, Decl, Program, sequence}
use Rattle.ast.specs.Trees as tree
use Rattle.ast.specs.Lists.{list_e, list_c, list_p, list_b, list_a, list_d, list_ds}
use Rattle.grammar.specs.Grammar.{tok_at, symbol, word, name, decimal, Rank, lor, xor, land, relation, sum, term, factor, primary, Chain, lor_xor, xor_land, land_relation, relation_sum, sum_term, term_factor, factor_primary, Left, FieldWritten, bits, ExprWritten, ClauseWritten, CondWritten, StepWritten, NotElse, StatementWritten, Inside, ListWritten, ArmsWritten, ItemWritten, ItemsWritten, TypedWritten, DeclarationsWritten}
use Rattle.grammar.specs.Grammar as rule
use Rattle.grammar.proofs.Runs.{joined_list, appended_list}
use Rattle.grammar.proofs.Means.{Pred, Got, Put, Takes, Sym, Word, Ex, Cont, Fields, Paren, Used, Bits, Shifts, Test, Clauses, St, In, Ended, EndedArms, Block, ArmsOf, Otherwise, TargetAt, Stepped, Turns, Item, Comma, Low}

-- general steps

pub moved : {X : Type 0} {W : X → List Tok → List Tok → Type 0} {L : X → List Node → List Node} {B : Pred} {ts : List Tok} {es fs : List Node} → es ≡ fs → Got W L B ts fs → Got W L B ts es
moved e x = record { what = x.what; behind = x.behind; left = x.left; written = x.written; entries = e ∙ x.entries; below = x.below }

pub recast : {X Y : Type 0} {W : X → List Tok → List Tok → Type 0} {V : Y → List Tok → List Tok → Type 0} {L : X → List Node → List Node} {M : Y → List Node → List Node} {B : Pred} {ts ss : List Tok} {es : List Node} (F : List Node → List Node) (g : X → Y) → ((x : X) (us : List Tok) → W x ts us → V (g x) ss us) → ((x : X) (r : List Node) → F (L x r) ≡ M (g x) r) → Got W L B ts es → Got V M B ss (F es)
recast F g f e x = record {
  what = g x.what;
  behind = x.behind;
  left = x.left;
  written = f x.what x.behind x.written;
  entries = ap F x.entries ∙ e x.what x.left;
  below = x.below;
}

pub then_put : {X : Type 0} {W : X → List Tok → List Tok → Type 0} {L : X → List Node → List Node} {y : Node} {B : Pred} {ts : List Tok} {es : List Node} → Got W L (Put y B) ts es → Got W (λ x r. L x (y ∷ r)) B ts es
then_put {L = L} x = record {
  what = x.what;
  behind = x.behind;
  left = x.below.left;
  written = x.written;
  entries = x.entries ∙ ap (L x.what) x.below.entries;
  below = x.below.below;
}

pub then_take : {X : Type 0} {W : X → List Tok → List Tok → Type 0} {L : X → List Node → List Node} {T : ℕ → Tok} {B : Pred} {ts : List Tok} {es : List Node} → Got W L (Takes T (λ _. B)) ts es → Got (λ x ss us. (p : ℕ) × W x ss (T p ∷ us)) L B ts es
then_take {W = W} {ts = ts} x = record {
  what = x.what;
  behind = x.below.behind;
  left = x.left;
  written = (x.below.offset, subst (λ z. W x.what ts z) x.below.tokens x.written);
  entries = x.entries;
  below = x.below.below;
}

-- expressions

pub apply : {r q : Rank} {l : ℕ} {B : Pred} {ts : List Tok} {es : List Node} → Ex r l (Cont r q l B) ts es → Ex q l B ts es
apply {ts = ts} x = moved x.entries (x.below x.what ts x.written)

pub climb : {r q : Rank} {l : ℕ} {B : Pred} {ts : List Tok} {es : List Node} → Chain r q → Ex q l (Cont r r l B) ts es → Ex r l B ts es
climb {ts = ts} c x = moved x.entries (x.below x.what ts (rule.up c x.written))

pub fielded : {l : ℕ} {B : Pred} {ts : List Tok} {es : List Node} → Ex primary l (Fields B) ts es → Ex factor l B ts es
fielded {l} {ts = ts} x = moved x.entries (x.below l x.what ts (rule.up factor_primary x.written))

pub whole : {l : ℕ} {B : Pred} {ts : List Tok} {es : List Node} → Ex relation l (Cont land land l (Cont xor xor l (Cont lor lor l B))) ts es → Ex lor l B ts es
whole x = climb lor_xor (climb xor_land (climb land_relation x))

pub none : {r : Rank} {l : ℕ} (B : Pred) (ts : List Tok) (es : List Node) → B ts es → Cont r r l B ts es
none B ts es b e ss w = record { what = e; behind = ts; left = es; written = w; entries = refl; below = b }

pub none_compared : {l : ℕ} (B : Pred) (ts : List Tok) (es : List Node) → B ts es → Cont sum relation l B ts es
none_compared B ts es b e ss w = record { what = e; behind = ts; left = es; written = rule.up relation_sum w; entries = refl; below = b }

pub none_fielded : (B : Pred) (ts : List Tok) (es : List Node) → B ts es → Fields B ts es
none_fielded B ts es b l e ss w = record { what = e; behind = ts; left = es; written = w; entries = refl; below = b }

pub operated : {r q : Rank} {s : Strength} {l p : ℕ} {m : Mark} {x : Operator} {B : Pred} {us : List Tok} {es : List Node} → Left r s q → operator_at s m ≡ Some x → Ex q l (Put (node.Binary x p) (Cont r r l B)) us es → Cont r r l B (tok_at m p ∷ us) es
operated {p = p} {x = x} j op y e ss w =
    let z = then_put y in
    moved (ap (list_e e) z.entries) (z.below (tree.binary x p e z.what) ss (rule.binary j op w z.written))

pub compared : {l p : ℕ} {m : Mark} {x : Operator} {B : Pred} {us : List Tok} {es : List Node} → operator_at strength.Relation m ≡ Some x → Ex sum l (Put (node.Binary x p) B) us es → Cont sum relation l B (tok_at m p ∷ us) es
compared {p = p} {x = x} op y e ss w = recast (list_e e) (tree.binary x p e) (λ b us v. rule.compare op w v) (λ b r. refl) (then_put y)

pub negated : {l p : ℕ} {B : Pred} {us : List Tok} {es : List Node} → Ex term l (Put (node.Negate p) B) us es → Ex sum l B (symbol sign.Minus p ∷ us) es
negated {p = p} y = recast (λ x. x) (tree.negate p) (λ b us v. rule.negate v) (λ b r. refl) (then_put y)

pub inverted : {l p : ℕ} {B : Pred} {us : List Tok} {es : List Node} → 0 < l → Ex relation (l - 1) (Put (node.Lnot p) B) us es → Ex relation l B (word kw.Lnot p ∷ us) es
inverted {p = p} g y = recast (λ x. x) (tree.lnot p) (λ b us v. rule.lnot g v) (λ b r. refl) (then_put y)

pub literal : {l p v : ℕ} {c : ValueType} {m : Mark} {B : Pred} {us : List Tok} {es : List Node} → literal_of m ≡ Some (v, c) → Put (node.Number v c) B us es → Ex primary l B (tok_at m p ∷ us) es
literal {v = v} {c} {us = us} e y = record { what = tree.number v c; behind = us; left = y.left; written = rule.number e; entries = y.entries; below = y.below }

pub loaded : {l p : ℕ} {n : List ℕ} {B : Pred} {ts : List Tok} {es : List Node} → B ts es → Ex primary l B (name n p ∷ ts) (node.Load n p ∷ es)
loaded {p = p} {n} {ts = ts} {es} b = record { what = tree.load n p; behind = ts; left = es; written = rule.load; entries = refl; below = b }

pub enclosed : {l q : ℕ} {B : Pred} {us : List Tok} {es : List Node} → 0 < l → Ex lor (l - 1) (Sym sign.Close B) us es → Ex primary l B (symbol sign.Open q ∷ us) es
enclosed g y = recast (λ x. x) (λ e. e) (λ e us v. rule.paren g v.1) (λ e r. refl) (then_take y)

pub indexed : {l p q : ℕ} {n : List ℕ} {B : Pred} {us : List Tok} {es : List Node} → 0 < l → Ex lor (l - 1) (Sym sign.Close (Put (node.Index n p q) B)) us es → Ex primary l B (name n p ∷ symbol sign.Open q ∷ us) es
indexed {p = p} {q} {n} g y = recast (λ x. x) (tree.index n p q) (λ e us v. rule.index g v.1) (λ e r. refl) (then_put (then_take y))

pub converted : {l p : ℕ} {c : ValueType} {m : Mark} {B : Pred} {us : List Tok} {es : List Node} → type_of m ≡ Some c → Paren l (Put (node.Convert c) B) us es → Ex primary l B (tok_at m p ∷ us) es
converted {l} {p} {c} {m} {B} {us} {es} e y =
    subst (λ z. Ex primary l B (tok_at m p ∷ z) es) (sym y.1.tokens)
    (recast (λ x. x) (tree.convert c) (λ d us v. rule.convert e y.0 v.1) (λ d r. refl) (then_put (then_take y.1.below)))

-- a field after its dot
pub record FieldGot (u : Use) (B : Pred) (us : List Tok) (es : List Node) : Type 0 where
  pub low : ℕ
  pub high : ℕ
  pub offset : ℕ
  pub behind : List Tok
  pub written : (p : ℕ) → FieldWritten low high offset (symbol sign.Dot p ∷ us) behind
  pub below : Used u low high offset B behind es

pub field_of : {u : Use} {B : Pred} {us : List Tok} {es : List Node} → Sym sign.Open (Bits u B) us es → FieldGot u B us es
field_of {us = us} y =
    let a = y.below in
    let c = a.below in
    let b = c.below in
    let d = b.below in
    record {
      low = a.value;
      high = b.value;
      offset = a.offset;
      behind = d.behind;
      written = λ p.
          subst (λ z. FieldWritten a.value b.value a.offset (symbol sign.Dot p ∷ z) d.behind)
          (sym
          (y.tokens
          ∙ ap (λ z. symbol sign.Open y.offset ∷ z)
          (a.tokens
          ∙ ap (λ z. decimal a.value a.offset ∷ z)
          (c.tokens ∙ ap (λ z. symbol sign.Colon c.offset ∷ z) (b.tokens ∙ ap (λ z. decimal b.value b.offset ∷ z) d.tokens)))))
          bits;
      below = d.below;
    }

pub in_field : {p : ℕ} {B : Pred} {us : List Tok} {es : List Node} → Sym sign.Open (Bits part (Fields B)) us es → Fields B (symbol sign.Dot p ∷ us) es
in_field {p} y l e ss w =
    let f = field_of {u = part} y in
    moved (ap (list_e e) f.below.entries) (f.below.below l (tree.field f.low f.high f.offset e) ss (rule.field w (f.written p)))

pub shifted : {p : ℕ} {B : Pred} {us : List Tok} {es : List Node} → Shifts (Fields B) us es → Fields B (symbol sign.Ampersand p ∷ us) es
shifted {p} {us = us} y l e ss w =
    let a = y.below in
    let b = a.below in
    let d = b.below in
    let t = y.tokens ∙ ap (λ z. tok_at y.mark y.offset ∷ z) (a.tokens ∙ ap (λ z. symbol sign.Open a.offset ∷ z) (b.tokens ∙ ap (λ z. decimal b.value b.offset ∷ z) d.tokens)) in
    moved (ap (list_e e) d.below.entries)
    (d.below.below l (tree.shift y.kind b.value b.offset e) ss (rule.shift y.is (subst (λ z. ExprWritten factor l e ss (symbol sign.Ampersand p ∷ z)) t w)))

-- conditions

pub conditioned : {l : ℕ} {B : Pred} {us : List Tok} {es : List Node} → Test l (Clauses l B) us es → Got (CondWritten l) list_c B us es
conditioned {l} {B} {us} {es} y =
    let z = then_put y.below in
    subst (λ v. Got (CondWritten l) list_c B v es) (sym y.tokens) (moved z.entries (z.below z.what y.first y.behind z.written))

-- one more expression before a condition's first clause
abbrev anded : (p : ℕ) → Expr → Cond → Cond
anded p e (tree.only c) = tree.only (tree.and p e c)
anded p e (tree.or c d) = tree.or (tree.and p e c) d

and_written : {l q : ℕ} {e : Expr} {c : Cond} {t : Tok} {ss us vs : List Tok} → ExprWritten lor l e (t ∷ ss) (word kw.And q ∷ us) → CondWritten l c us vs → CondWritten l (anded t.offset e c) (t ∷ ss) vs
and_written w (rule.only c) = rule.only (rule.and w c)
and_written w (rule.or c d) = rule.or (rule.and w c) d

and_list : (p : ℕ) (e : Expr) (c : Cond) (r : List Node) → list_e e (node.Test p ∷ list_c c r) ≡ list_c (anded p e c) r
and_list p e (tree.only c) r = refl
and_list p e (tree.or c d) r = refl

pub and_step : {l q : ℕ} {B : Pred} {us : List Tok} {es : List Node} → Test l (Clauses l B) us es → Clauses l B (word kw.And q ∷ us) es
and_step y e t ss w =
    recast (λ x. list_e e (node.Test t.offset ∷ x)) (anded t.offset e) (λ c us v. and_written w v) (λ c r. and_list t.offset e c r) (conditioned y)

pub or_step : {l q : ℕ} {B : Pred} {us : List Tok} {es : List Node} → Put node.Or (Test l (Clauses l B)) us es → Clauses l B (word kw.Or q ∷ us) es
or_step y e t ss w =
    let p = t.offset in
    moved (ap (λ x. list_e e (node.Test p ∷ x)) y.entries)
    (recast (λ x. list_e e (node.Test p ∷ node.Or ∷ x)) (tree.or (tree.test p e)) (λ c us v. rule.or (rule.test w) v) (λ c r. refl) (conditioned y.below))

pub none_clauses : (l : ℕ) (B : Pred) (ts : List Tok) (es : List Node) → B ts es → Clauses l B ts es
none_clauses l B ts es b e t ss w = record { what = tree.only (tree.test t.offset e); behind = ts; left = es; written = rule.only (rule.test w); entries = refl; below = b }

-- statements

pub empty : {l : ℕ} (B : Pred) (ts : List Tok) (es : List Node) → B ts es → St l B ts es
empty B ts es b = record { what = tree.end; behind = ts; left = es; written = rule.nothing; entries = refl; below = b }

pub opened : {w : Keyword} {l p : ℕ} {B : Pred} {us : List Tok} {es : List Node} → 0 < l → In w p (l - 1) B us es → St l B (word w p ∷ us) es
opened g y = recast (λ x. x) (λ b. b) (λ b us v. rule.opened g v) (λ b r. refl) y

pub assigned : {l p q : ℕ} {n : List ℕ} {B : Pred} {us : List Tok} {es : List Node} → Ex lor l (Put (node.Store n p q) B) us es → St l B (name n p ∷ symbol sign.Becomes q ∷ us) es
assigned {p = p} {q} {n} y = recast (λ x. x) (λ e. rule.single (tree.assign n p q e)) (λ e us v. rule.assign v) (λ e r. refl) (then_put y)

pub deposited : {l p o : ℕ} {n : List ℕ} {B : Pred} {ts : List Tok} {es : List Node} → Put (node.Fetch n p) (Sym sign.Open (Bits (into false n p l) B)) ts es → St l B (name n p ∷ symbol sign.Dot o ∷ ts) es
deposited {l} {p} {o} {n} {B} {ts} y =
    let f = field_of {u = into false n p l} {B = B} y.below in
    let b = f.below in
    moved y.entries
    (recast (λ x. node.Fetch n p ∷ x) (λ e. rule.single (tree.deposit n p f.low f.high f.offset b.offset e))
    (λ e us v. rule.deposit (subst (λ z. FieldWritten f.low f.high f.offset (symbol sign.Dot o ∷ ts) z) b.tokens (f.written o)) v)
    (λ e r. refl)
    (then_put (then_put b.below)))

pub targeted : {l p q : ℕ} {n : List ℕ} {B : Pred} {us : List Tok} {es : List Node} → 0 < l → Ex lor (l - 1) (Sym sign.Close (TargetAt n p q l B)) us es → St l B (name n p ∷ symbol sign.Open q ∷ us) es
targeted {us = us} g y =
    let z = then_take y in
    moved z.entries (z.below z.what us z.written.0 g z.written.1)

pub assigned_at : {l p q o : ℕ} {n : List ℕ} {B : Pred} {us : List Tok} {es : List Node} → Put (node.Checked n p q) (Ex lor l (Put (node.StoreAt n p o) B)) us es → TargetAt n p q l B (symbol sign.Becomes o ∷ us) es
assigned_at {p = p} {q} {o} {n} y i ss r g w =
    moved (ap (list_e i) y.entries)
    (recast (λ x. list_e i (node.Checked n p q ∷ x)) (λ e. rule.single (tree.assign_at n p q i o e)) (λ e us v. rule.assign_at g w v) (λ e r. refl) (then_put y.below))

pub deposited_at : {l p q o : ℕ} {n : List ℕ} {B : Pred} {ts : List Tok} {es : List Node} → Put (node.FetchAt n p q) (Sym sign.Open (Bits (into true n p l) B)) ts es → TargetAt n p q l B (symbol sign.Dot o ∷ ts) es
deposited_at {l} {p} {q} {o} {n} {B} {ts} y i ss r g w =
    let f = field_of {u = into true n p l} {B = B} y.below in
    let b = f.below in
    moved (ap (list_e i) y.entries)
    (recast (λ x. list_e i (node.FetchAt n p q ∷ x)) (λ e. rule.single (tree.deposit_at n p q i f.low f.high f.offset b.offset e))
    (λ e us v. rule.deposit_at g w (subst (λ z. FieldWritten f.low f.high f.offset (symbol sign.Dot o ∷ ts) z) b.tokens (f.written o)) v)
    (λ e r. refl)
    (then_put (then_put b.below)))

-- a list up to its END
pub listed : {l : ℕ} {B : Pred} {us : List Tok} {es : List Node} → St l (Block l B) us es → Got (Ended l) list_b B us es
listed {us = us} y = moved y.entries (y.below y.what us y.written)

pub block_next : {l q : ℕ} {B : Pred} {us : List Tok} {es : List Node} → St l (Block l B) us es → Block l B (symbol sign.Semicolon q ∷ us) es
block_next y b ss w = recast (list_b b) (sequence b) (λ c us v. (v.0, rule.next w v.1)) (λ c r. sym (joined_list b c r)) (listed y)

pub block_end : {l q : ℕ} (B : Pred) (us : List Tok) (es : List Node) → B us es → Block l B (word kw.End q ∷ us) es
block_end {q = q} B us es h b ss w = record { what = b; behind = us; left = es; written = (q, rule.final w); entries = refl; below = h }

pub in_block : {l p : ℕ} {B : Pred} {us : List Tok} {es : List Node} → St l (Block l B) us es → In kw.Begin p l B us es
in_block y = recast (λ x. x) (λ b. b) (λ b us v. rule.block v.1) (λ b r. refl) (listed y)

-- the arms of a CASE
pub armed : {l : ℕ} {B : Pred} {us : List Tok} {es : List Node} → Put node.Arm (St l (ArmsOf l B)) us es → Got (EndedArms l) (λ a r. list_a a (node.Esac ∷ r)) B us es
armed {us = us} y =
    let z = y.below in
    moved (y.entries ∙ ap (λ x. node.Arm ∷ x) z.entries) (z.below z.what us z.written)

pub arm_next : {l q : ℕ} {B : Pred} {us : List Tok} {es : List Node} → Put node.Out (Put node.Arm (St l (ArmsOf l B))) us es → ArmsOf l B (symbol sign.Semicolon q ∷ us) es
arm_next y b ss w =
    moved (ap (λ x. node.Arm ∷ list_b b x) y.entries)
    (recast (λ x. node.Arm ∷ list_b b (node.Out ∷ x)) (tree.arm b) (λ a us v. (v.0, rule.arm w v.1)) (λ a r. refl) (armed y.below))

pub arm_end : {l q : ℕ} {B : Pred} {us : List Tok} {es : List Node} → Put node.Out (Put node.Esac B) us es → ArmsOf l B (word kw.End q ∷ us) es
arm_end {q = q} {us = us} y b ss w = record {
  what = tree.last b;
  behind = us;
  left = y.below.left;
  written = (q, rule.last w);
  entries = ap (λ x. node.Arm ∷ list_b b x) (y.entries ∙ ap (λ x. node.Out ∷ x) y.below.entries);
  below = y.below.below;
}

pub in_case : {l p : ℕ} {B : Pred} {us : List Tok} {es : List Node} → Ex lor l (Put (node.Case p) (Word kw.Of (Word kw.Begin (Put node.Arm (St l (ArmsOf l B)))))) us es → In kw.Case p l B us es
in_case {p = p} y =
    let z = then_take (then_take (then_put y)) in
    moved z.entries
    (recast (λ x. list_e z.what (node.Case p ∷ x)) (λ a. rule.single (tree.choose p z.what a)) (λ a us v. rule.choose z.written.1.1 v.1) (λ a r. refl) (armed z.below))

-- IF
pub else_step : {l q : ℕ} {B : Pred} {us : List Tok} {es : List Node} → Put node.Else (St l (Put node.Fi B)) us es → Otherwise l B (word kw.Else q ∷ us) es
else_step y p t c b cs bs w v =
    moved (ap (λ x. node.If ∷ list_c c (node.Then ∷ list_b b x)) y.entries)
    (recast (λ x. node.If ∷ list_c c (node.Then ∷ list_b b (node.Else ∷ x))) (λ d. rule.single (tree.either c b d)) (λ d us u. rule.either w v u) (λ d r. refl) (then_put y.below))

pub else_none : {l : ℕ} (B : Pred) (ts : List Tok) (es : List Node) → NotElse ts → B ts es → Otherwise l B ts (node.Fi ∷ es)
else_none B ts es n h p t c b cs bs w v = record { what = rule.single (tree.when c b); behind = ts; left = es; written = rule.when w v n; entries = refl; below = h }

pub in_if : {l p : ℕ} {B : Pred} {us : List Tok} {es : List Node} → Put node.If (Test l (Clauses l (Word kw.Then (Put node.Then (St l (Otherwise l B)))))) us es → In kw.If p l B us es
in_if {p = p} {us = us} y =
    let c = then_put (then_take (conditioned y.below)) in
    let z = c.below in
    moved (y.entries ∙ ap (λ x. node.If ∷ x) (c.entries ∙ ap (λ x. list_c c.what (node.Then ∷ x)) z.entries))
    (z.below p c.written.0 c.what z.what us c.behind c.written.1 z.written)

-- the loops
pub in_while : {l p : ℕ} {B : Pred} {us : List Tok} {es : List Node} → Put node.While (Test l (Clauses l (Word kw.Do (Put node.Then (St l (Put node.Loop B)))))) us es → In kw.While p l B us es
in_while y =
    let c = then_put (then_take (conditioned y.below)) in
    moved (y.entries ∙ ap (λ x. node.While ∷ x) c.entries)
    (recast (λ x. node.While ∷ list_c c.what (node.Then ∷ x)) (λ b. rule.single (tree.while c.what b)) (λ b us v. rule.while c.written.1 v) (λ b r. refl) (then_put c.below))

pub in_do : {l p : ℕ} {B : Pred} {us : List Tok} {es : List Node} → Put node.Do (St l (Word kw.Until (Put node.Until (Test l (Clauses l (Put node.Done B)))))) us es → In kw.Do p l B us es
in_do y =
    let b = then_put (then_take y.below) in
    moved (y.entries ∙ ap (λ x. node.Do ∷ x) b.entries)
    (recast (λ x. node.Do ∷ list_b b.what (node.Until ∷ x)) (λ c. rule.single (tree.repeat b.what c)) (λ c us v. rule.repeat b.written.1 v) (λ c r. refl) (then_put (conditioned b.below)))

pub in_for : {l p f : ℕ} {n : List ℕ} {B : Pred} {us : List Tok} {es : List Node} → Sym sign.Becomes (Ex lor l (Put (node.First n p f) (Stepped n p f l B))) us es → In kw.For f l B (name n p ∷ us) es
in_for {l} {p} {f} {n} {B} {us} {es} y =
    let z = then_put y.below in
    subst (λ v. In kw.For f l B (name n p ∷ v) es) (sym y.tokens) (moved z.entries (z.below z.what y.behind y.offset z.written))

for_turns : {l p f r q : ℕ} {n : List ℕ} {e : Expr} {x : Step} {B : Pred} {ss vs us : List Tok} {es : List Node} → ExprWritten lor l e ss vs → StepWritten l x vs (word kw.Until r ∷ us) → Turns n p f l B us es → In kw.For f l B (name n p ∷ symbol sign.Becomes q ∷ ss) (list_e e (node.First n p f ∷ list_p f x es))
for_turns {l} {p} {f} {n = n} {e} {x} w v y =
    let m = then_take (then_put y) in
    moved (ap (λ z. list_e e (node.First n p f ∷ list_p f x z)) m.entries)
    (recast (λ z. list_e e (node.First n p f ∷ list_p f x (list_e m.what (node.For n p f ∷ z)))) (λ b. rule.single (tree.count n p f e x m.what b)) (λ b us u. rule.count w v m.written.1 u) (λ b r. refl)
    (then_put (then_put m.below)))

pub stepped_by : {l p f r : ℕ} {n : List ℕ} {B : Pred} {us : List Tok} {es : List Node} → Ex lor l (Put (node.Step f) (Word kw.Until (Turns n p f l B))) us es → Stepped n p f l B (word kw.Step r ∷ us) es
stepped_by {p = p} {f} {n = n} y e ss q w =
    let z = then_take (then_put y) in
    moved (ap (λ x. list_e e (node.First n p f ∷ x)) z.entries) (for_turns w (rule.by z.written.1) z.below)

pub stepped_one : {l p f r : ℕ} {n : List ℕ} {B : Pred} {us : List Tok} {es : List Node} → Put node.One (Turns n p f l B) us es → Stepped n p f l B (word kw.Until r ∷ us) es
stepped_one {p = p} {f} {n = n} y e ss q w = moved (ap (λ x. list_e e (node.First n p f ∷ x)) y.entries) (for_turns w rule.absent y.below)

-- declarations

pub simply : {p : ℕ} {c : ValueType} {n : List ℕ} {B : Pred} {us : List Tok} {es : List Node} → Put (node.Simple n c p) B us es → Item false c B (name n p ∷ us) es
simply {p} {c} {n} {us = us} y = record { what = tree.simple n c p; behind = us; left = y.left; written = rule.simple; entries = y.entries; below = y.below }

pub arrayed : {p : ℕ} {c : ValueType} {n : List ℕ} {B : Pred} {us : List Tok} {es : List Node} → Sym sign.Open (Low c n p B) us es → Item true c B (name n p ∷ us) es
arrayed {p} {c} {n} {us = us} y =
    let a = y.below in
    let k = a.below in
    let b = k.below in
    let d = b.below in
    let t = y.tokens ∙ ap (λ z. symbol sign.Open y.offset ∷ z) (a.tokens ∙ ap (λ z. decimal a.value a.offset ∷ z) (k.tokens ∙ ap (λ z. symbol sign.Colon k.offset ∷ z) (b.tokens ∙ ap (λ z. decimal b.value b.offset ∷ z) d.tokens))) in
    record {
      what = tree.array n c a.value b.value p a.offset;
      behind = d.behind;
      left = d.below.left;
      written = subst (λ z. ItemWritten true c (tree.array n c a.value b.value p a.offset) (name n p ∷ z) d.behind) (sym t) rule.array;
      entries = d.below.entries;
      below = d.below.below;
    }

-- the first item and those after it
pub itemized : {a : Bool} {c : ValueType} {B : Pred} {us : List Tok} {es : List Node} → Item a c (Comma a c B) us es → Got (ItemsWritten a c) list_ds B us es
itemized {us = us} y = moved y.entries (y.below y.what us y.written)

pub comma_next : {a : Bool} {c : ValueType} {q : ℕ} {B : Pred} {us : List Tok} {es : List Node} → Item a c (Comma a c B) us es → Comma a c B (symbol sign.Comma q ∷ us) es
comma_next y d ss w = recast (λ x. list_d d ∷ x) (λ ds. d ∷ ds) (λ ds us v. rule.several w v) (λ ds r. refl) (itemized y)

pub comma_end : {a : Bool} {c : ValueType} {q : ℕ} (B : Pred) (us : List Tok) (es : List Node) → B us es → Comma a c B (symbol sign.Semicolon q ∷ us) es
comma_end B us es b d ss w = record { what = d ∷ []; behind = us; left = es; written = rule.one w; entries = refl; below = b }

pub typed_names : {c : ValueType} {B : Pred} {us : List Tok} {es : List Node} → Item false c (Comma false c B) us es → Got (TypedWritten c) list_ds B us es
typed_names y = recast (λ x. x) (λ ds. ds) (λ ds us v. rule.names v) (λ ds r. refl) (itemized y)

pub typed_arrays : {c : ValueType} {q : ℕ} {B : Pred} {us : List Tok} {es : List Node} → Item true c (Comma true c B) us es → Got (TypedWritten c) list_ds B (word kw.Array q ∷ us) es
typed_arrays y = recast (λ x. x) (λ ds. ds) (λ ds us v. rule.arrays v) (λ ds r. refl) (itemized y)

pub declared_none : (B : Pred) (ts : List Tok) (es : List Node) → B ts es → Got DeclarationsWritten list_ds B ts es
declared_none B ts es b = record { what = []; behind = ts; left = es; written = rule.none; entries = refl; below = b }

pub declared_typed : {c : ValueType} {m : Mark} {q : ℕ} {B : Pred} {us : List Tok} {es : List Node} → type_of m ≡ Some c → Got (TypedWritten c) list_ds (Got DeclarationsWritten list_ds B) us es → Got DeclarationsWritten list_ds B (tok_at m q ∷ us) es
declared_typed k y =
    moved y.entries
    (recast (list_ds y.what) (λ ds. y.what ++ ds) (λ ds us v. rule.typed k y.written v) (λ ds r. sym (appended_list y.what ds r)) y.below)

pub declared_untyped : {q : ℕ} {B : Pred} {us : List Tok} {es : List Node} → Item true types.Logical (Comma true types.Logical (Got DeclarationsWritten list_ds B)) us es → Got DeclarationsWritten list_ds B (word kw.Array q ∷ us) es
declared_untyped x =
    let y = itemized x in
    moved y.entries
    (recast (list_ds y.what) (λ ds. y.what ++ ds) (λ ds us v. rule.untyped y.written v) (λ ds r. sym (appended_list y.what ds r)) y.below)
