-- Expressions as they are written are read to their nodes. Assumes nothing.
use Rattle.std.proofs.Common.{◌≡◌, ℕ, ◌-◌, ◌≤◌, false, List, [], ◌∷◌, ◌++◌, Some, refl, ap, ◌∙◌, arith}
use Rattle.lexer.specs.declared.token.Keyword.TheVariants as kw
use Rattle.lexer.specs.declared.token.Symbol.TheVariants as sign
use Rattle.parser.specs.declared.node.Operator.{Operator}
use Rattle.parser.specs.declared.lexeme.Strength.{Strength}
use Rattle.parser.specs.declared.lexeme.Strength.TheVariants as strength
use Rattle.parser.specs.Nodes.{Node}
use Rattle.parser.specs.Nodes as node
use Rattle.parser.specs.Marks.{Mark, Tok, is_symbol, is_keyword, literal_of, type_of, operator_at}
use Rattle.parser.specs.Machine.{Goal, feed, expr}
use Rattle.parser.specs.Machine as goal
use Rattle.ast.specs.Trees.{Expr}
use Rattle.ast.specs.Lists.{list_e}
use Rattle.grammar.specs.Grammar.{tok_at, symbol, word, name, decimal, Rank, lor, xor, land, relation, sum, term, factor, primary, Chain, lor_xor, xor_land, land_relation, relation_sum, sum_term, term_factor, factor_primary, Left, lors, xors, lands, sums, terms, FieldWritten, bits, ExprWritten}
use Rattle.grammar.specs.Grammar as rule
use Rattle.grammar.proofs.Marks.{not_keyword, not_symbol, type_literal, grip, operator_grip, operator_none, no_dot, no_ampersand, no_open, rank_of}
use Rattle.grammar.proofs.Runs.{run, deeper_in, onto_e, at_none, at_some}

-- the goals of an expression of each rank, and the last of them, which waits for the next token
abbrev pub goals : Rank → (l : ℕ) → List Goal → List Goal
goals lor l k = goal.relation l ∷ goal.more strength.Land l ∷ goal.more strength.Xor l ∷ goal.more strength.Lor l ∷ k
goals xor l k = goal.relation l ∷ goal.more strength.Land l ∷ goal.more strength.Xor l ∷ k
goals land l k = goal.relation l ∷ goal.more strength.Land l ∷ k
goals relation l k = goal.relation l ∷ k
goals sum l k = goal.lead l ∷ goal.more strength.Sum l ∷ k
goals term l k = goal.primary l ∷ goal.fields ∷ goal.more strength.Term l ∷ k
goals factor l k = goal.primary l ∷ goal.fields ∷ k
goals primary l k = goal.primary l ∷ k

abbrev pub tail : Rank → (l : ℕ) → List Goal → List Goal
tail lor l k = goal.more strength.Lor l ∷ k
tail xor l k = goal.more strength.Xor l ∷ k
tail land l k = goal.more strength.Land l ∷ k
tail relation l k = k
tail sum l k = goal.more strength.Sum l ∷ k
tail term l k = goal.more strength.Term l ∷ k
tail factor l k = goal.fields ∷ k
tail primary l k = k

-- the token that follows takes hold no more strongly than the last goal of the rank allows
abbrev bound : Rank → ℕ
bound lor = 1
bound xor = 2
bound land = 3
bound relation = 3
bound sum = 5
bound term = 6
bound factor = 7
bound primary = 7

abbrev pub Held : ℕ → List Tok → Type 0
Held n [] = Unit {0}
Held n (t ∷ ts) = grip t.sort ≤ n

pub held : (us : List Tok) {m n : ℕ} → Held m us → m ≤ n → Held n us
held [] h b = tt
held (t ∷ us) h b = omega arith

-- so it is dropped where the token is none of its own
pub drop_more : (end : ℕ) (s : Strength) (l : ℕ) (us : List Tok) (k : List Goal) (o : List Node) → Held (rank_of s) us → run end us (goal.more s l ∷ k) o ≡ run end us k o
drop_more end s l [] k o h = refl
drop_more end s l (t ∷ us) k o h = at_none _ _ (operator_none s t.sort h)

pub drop_compare : (end l : ℕ) (us : List Tok) (k : List Goal) (o : List Node) → Held 3 us → run end us (goal.compare l ∷ k) o ≡ run end us k o
drop_compare end l [] k o h = refl
drop_compare end l (t ∷ us) k o h = at_none _ _ (operator_none strength.Relation t.sort h)

pub drop_fields : (end : ℕ) (us : List Tok) (k : List Goal) (o : List Node) → Held 6 us → run end us (goal.fields ∷ k) o ≡ run end us k o
drop_fields end [] k o h = refl
drop_fields end (t ∷ us) k o h = rw (no_dot t.sort h, no_ampersand t.sort h)

-- the first token of a sum is no LNOT, that of a term no `-`
abbrev HeadMark : Rank → Mark → Type 0
HeadMark lor m = Unit {0}
HeadMark xor m = Unit {0}
HeadMark land m = Unit {0}
HeadMark relation m = Unit {0}
HeadMark sum m = is_keyword kw.Lnot m ≡ false
HeadMark term m = (is_keyword kw.Lnot m ≡ false) × (is_symbol sign.Minus m ≡ false)
HeadMark factor m = (is_keyword kw.Lnot m ≡ false) × (is_symbol sign.Minus m ≡ false)
HeadMark primary m = (is_keyword kw.Lnot m ≡ false) × (is_symbol sign.Minus m ≡ false)

abbrev Head : Rank → List Tok → Type 0
Head r [] = ⊥
Head r (t ∷ ts) = HeadMark r t.sort

head_up : {r s : Rank} (ts : List Tok) → Chain r s → Head s ts → Head r ts
head_up [] c h = h
head_up (t ∷ ts) lor_xor h = tt
head_up (t ∷ ts) xor_land h = tt
head_up (t ∷ ts) land_relation h = tt
head_up (t ∷ ts) relation_sum h = tt
head_up (t ∷ ts) sum_term h = h.0
head_up (t ∷ ts) term_factor h = h
head_up (t ∷ ts) factor_primary h = h

pub head : {r : Rank} {l : ℕ} {e : Expr} {ts us : List Tok} → ExprWritten r l e ts us → Head r ts
head (rule.up {ts = ts} c w) = head_up ts c (head w)
head (rule.binary j e a b) = head a
head (rule.compare {ts = ts} e a b) = head_up ts relation_sum (head a)
head (rule.lnot p w) = tt
head (rule.negate w) = refl
head (rule.field w f) = head w
head (rule.shift e w) = head w
head (rule.number {m = m} e) = (not_keyword literal_of kw.Lnot m refl e, not_symbol literal_of sign.Minus m refl e)
head rule.load = (refl, refl)
head (rule.index p w) = (refl, refl)
head (rule.paren p w) = (refl, refl)
head (rule.convert {m = m} e p w) = (not_keyword type_of kw.Lnot m refl e, not_symbol type_of sign.Minus m refl e)

-- an expression of a rank begins as one of the next rank does, with these goals below
abbrev below : {r s : Rank} → Chain r s → (l : ℕ) → List Goal → List Goal
below lor_xor l k = tail lor l k
below xor_land l k = tail xor l k
below land_relation l k = tail land l k
below relation_sum l k = goal.compare l ∷ k
below sum_term l k = tail sum l k
below term_factor l k = tail term l k
below factor_primary l k = tail factor l k

rise : {r s : Rank} (c : Chain r s) (end l : ℕ) (ts : List Tok) (k : List Goal) (o : List Node) → Head s ts → run end ts (goals r l k) o ≡ run end ts (goals s l (below c l k)) o
rise lor_xor end l ts k o h = refl
rise xor_land end l ts k o h = refl
rise land_relation end l ts k o h = refl
rise relation_sum end l [] k o h = absurd h
rise relation_sum end l (t ∷ ts) k o h = rw h
rise sum_term end l [] k o h = absurd h
rise sum_term end l (t ∷ ts) k o h = rw h.1
rise term_factor end l ts k o h = refl
rise factor_primary end l ts k o h = refl

settle : {r s : Rank} (c : Chain r s) (end l : ℕ) (us : List Tok) (k : List Goal) (o : List Node) → Held (bound r) us → run end us (tail s l (below c l k)) o ≡ run end us (tail r l k) o
settle lor_xor end l us k o h = drop_more end strength.Xor l us _ o h
settle xor_land end l us k o h = drop_more end strength.Land l us _ o h
settle land_relation end l us k o h = refl
settle relation_sum end l us k o h = drop_more end strength.Sum l us _ o (held us h (omega arith)) ∙ drop_compare end l us k o h
settle sum_term end l us k o h = drop_more end strength.Term l us _ o h
settle term_factor end l us k o h = drop_fields end us _ o h
settle factor_primary end l us k o h = refl

stronger : {r s : Rank} → Chain r s → bound r ≤ bound s
stronger lor_xor = omega arith
stronger xor_land = omega arith
stronger land_relation = omega arith
stronger relation_sum = omega arith
stronger sum_term = omega arith
stronger term_factor = omega arith
stronger factor_primary = omega arith

-- an operator and its right side
chained : {r q : Rank} {s : Strength} → Left r s q → Chain r q
chained lors = lor_xor
chained xors = xor_land
chained lands = land_relation
chained sums = sum_term
chained terms = term_factor

takes : {r q : Rank} {s : Strength} (j : Left r s q) (end l : ℕ) (m : Mark) (p : ℕ) (us : List Tok) (k : List Goal) (o : List Node) {x : Operator} → operator_at s m ≡ Some x → run end (tok_at m p ∷ us) (tail r l k) o ≡ run end us (goals q l (goal.put (node.Binary x p) ∷ tail r l k)) o
takes lors end l m p us k o e = at_some _ _ e
takes xors end l m p us k o e = at_some _ _ e
takes lands end l m p us k o e = at_some _ _ e
takes sums end l m p us k o e = at_some _ _ e
takes terms end l m p us k o e = at_some _ _ e

-- the last goal of a right side is dropped
settles : {r q : Rank} {s : Strength} (j : Left r s q) (end l : ℕ) (us : List Tok) (k : List Goal) (o : List Node) → Held (bound r) us → run end us (tail q l k) o ≡ run end us k o
settles lors end l us k o h = drop_more end strength.Xor l us _ o h
settles xors end l us k o h = drop_more end strength.Land l us _ o h
settles lands end l us k o h = refl
settles sums end l us k o h = drop_more end strength.Term l us _ o h
settles terms end l us k o h = drop_fields end us _ o h

own_grip : {r q : Rank} {s : Strength} (j : Left r s q) (m : Mark) {x : Operator} → operator_at s m ≡ Some x → grip m ≤ bound r
own_grip lors m e = omega (arith, operator_grip strength.Lor m e)
own_grip xors m e = omega (arith, operator_grip strength.Xor m e)
own_grip lands m e = omega (arith, operator_grip strength.Land m e)
own_grip sums m e = omega (arith, operator_grip strength.Sum m e)
own_grip terms m e = omega (arith, operator_grip strength.Term m e)

-- a node that is written before the next token
pub puts : (end : ℕ) (us : List Tok) (x : Node) (k : List Goal) (o : List Node) → run end us (goal.put x ∷ k) o ≡ run end us k (o ++ x ∷ [])
puts end [] x k o = refl
puts end (t ∷ us) x k o = refl

pub drop_named : (end : ℕ) (n : List ℕ) (p l : ℕ) (us : List Tok) (k : List Goal) (o : List Node) → Held 7 us → run end us (goal.named n p l ∷ k) o ≡ run end us k (o ++ node.Load n p ∷ [])
drop_named end n p l [] k o h = refl
drop_named end n p l (t ∷ us) k o h = rw (no_open t.sort h)

pub reads : {r : Rank} {l : ℕ} {e : Expr} {ts us : List Tok} → ExprWritten r l e ts us → (end : ℕ) (k : List Goal) (o : List Node) → Held (bound r) us → run end ts (goals r l k) o ≡ run end us (tail r l k) (o ++ list_e e [])
reads (rule.up {l = l} {ts = ts} {us = us} c w) end k o h =
    rise c end l ts k o (head w) ∙ reads w end (below c l k) o (held us h (stronger c)) ∙ settle c end l us k _ h
reads (rule.binary {l = l} {a = a} {b = b} {m = m} {o = x} {p = p} {us = us} {vs = vs} j e v w) end k o h =
    reads v end k o (own_grip j m e)
    ∙ takes j end l m p us k _ e
    ∙ reads w end _ _ (held vs h (stronger (chained j)))
    ∙ settles j end l vs _ _ h
    ∙ puts end vs (node.Binary x p) _ _
    ∙ ap (run end vs _) (onto_e (o ++ list_e a []) b (node.Binary x p ∷ []) ∙ onto_e o a _)
reads (rule.compare {l = l} {a = a} {b = b} {m = m} {o = x} {p = p} {ts = ts} {us = us} {vs = vs} e v w) end k o h =
    let g = operator_grip strength.Relation m e in
    rise relation_sum end l ts k o (head v)
    ∙ reads v end (goal.compare l ∷ k) o (omega arith)
    ∙ drop_more end strength.Sum l (tok_at m p ∷ us) (goal.compare l ∷ k) _ (omega arith)
    ∙ at_some _ _ e
    ∙ reads w end (goal.put (node.Binary x p) ∷ k) _ (held vs h (omega arith))
    ∙ drop_more end strength.Sum l vs _ _ (held vs h (omega arith))
    ∙ puts end vs (node.Binary x p) _ _
    ∙ ap (run end vs _) (onto_e (o ++ list_e a []) b (node.Binary x p ∷ []) ∙ onto_e o a _)
reads (rule.lnot {l = l} {a = a} {p = p} {us = us} i w) end k o h =
    deeper_in (word kw.Lnot p) l _ i ∙ reads w end (goal.put (node.Lnot p) ∷ k) o h ∙ puts end us (node.Lnot p) k _ ∙ ap (run end us k) (onto_e o a _)
reads (rule.negate {l = l} {a = a} {p = p} {us = us} w) end k o h =
    reads w end _ o (held us h (omega arith)) ∙ drop_more end strength.Term l us _ _ h ∙ puts end us (node.Negate p) _ _ ∙ ap (run end us _) (onto_e o a _)
reads (rule.field {a = a} {b = b} {q = q} {e = e} {vs = vs} w bits) end k o h =
    reads w end k o (omega arith) ∙ puts end vs (node.Field a b q) _ _ ∙ ap (run end vs _) (onto_e o e _)
reads (rule.shift {c = c} {q = q} {s = s} {e = e} {us = us} i w) end k o h =
    reads w end k o (omega arith) ∙ at_some _ _ i ∙ puts end us (node.Shift s c q) _ _ ∙ ap (run end us _) (onto_e o e _)
reads (rule.number {v = v} {k = c} {us = us} e) end k o h = at_some _ _ e ∙ puts end us (node.Number v c) k o
reads (rule.load {l = l} {p = p} {n = n} {us = us}) end k o h = drop_named end n p l us k o h
reads (rule.index {l = l} {p = p} {q = q} {r = r} {n = n} {e = e} {us = us} i w) end k o h =
    deeper_in (symbol sign.Open q) l _ i
    ∙ reads w end (goal.sym sign.Close ∷ goal.put (node.Index n p q) ∷ k) o (omega arith)
    ∙ drop_more end strength.Lor (l - 1) (symbol sign.Close r ∷ us) (goal.sym sign.Close ∷ goal.put (node.Index n p q) ∷ k) (o ++ list_e e []) (omega arith)
    ∙ puts end us (node.Index n p q) k _
    ∙ ap (run end us k) (onto_e o e _)
reads (rule.paren {l = l} {q = q} {r = r} {e = e} {us = us} i w) end k o h =
    deeper_in (symbol sign.Open q) l _ i ∙ reads w end (goal.sym sign.Close ∷ k) o (omega arith) ∙ drop_more end strength.Lor (l - 1) (symbol sign.Close r ∷ us) (goal.sym sign.Close ∷ k) (o ++ list_e e []) (omega arith)
reads (rule.convert {l = l} {q = q} {r = r} {k = c} {m = m} {e = e} {us = us} g i w) end k o h =
    at_none _ _ (type_literal m g)
    ∙ at_some _ _ g
    ∙ deeper_in (symbol sign.Open q) l _ i
    ∙ reads w end (goal.sym sign.Close ∷ goal.put (node.Convert c) ∷ k) o (omega arith)
    ∙ drop_more end strength.Lor (l - 1) (symbol sign.Close r ∷ us) (goal.sym sign.Close ∷ goal.put (node.Convert c) ∷ k) (o ++ list_e e []) (omega arith)
    ∙ puts end us (node.Convert c) k _
    ∙ ap (run end us k) (onto_e o e _)

-- a whole expression, which the next token does not go on with
pub whole : {l : ℕ} {e : Expr} {ts us : List Tok} → ExprWritten lor l e ts us → (end : ℕ) (k : List Goal) (o : List Node) → Held 0 us → run end ts (expr l ++ k) o ≡ run end us k (o ++ list_e e [])
whole {l} {us = us} w end k o h = reads w end k o (held us h (omega arith)) ∙ drop_more end strength.Lor l us k _ h
