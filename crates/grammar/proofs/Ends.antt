-- Every stack of goals that the machine can reach has tokens that complete it. Assumes nothing.
use Rattle.std.proofs.Common.{◌≡◌, ℕ, ◌-◌, ◌<◌, cond, List, [], ◌∷◌, ◌++◌, Ok, refl, ap, ◌∙◌, arith}
use denote.Enum.Bare.{true_same}
use Rattle.base.specs.Refusals.{refuse}
use Rattle.parser.specs.declared.value_type.ValueType.TheVariants as types
use Rattle.lexer.specs.declared.token.Keyword.TheVariants as kw
use Rattle.lexer.specs.declared.token.Symbol.TheVariants as sign
use Rattle.lexer.specs.contracts.token.Keyword.{the_type as keyword_type}
use Rattle.lexer.specs.contracts.token.Symbol.{the_type as symbol_type}
use Rattle.parser.specs.declared.lexeme.Strength.TheVariants as strength
use Rattle.parser.specs.Nodes.{Node}
use Rattle.parser.specs.Nodes as node
use Rattle.parser.specs.Marks.{Tok}
use Rattle.parser.specs.Machine.{Goal, ParseAnswer, Use, part, into, after_field, expr, store_node, step_at}
use Rattle.parser.specs.Machine as goal
use Rattle.ast.specs.Trees as tree
use Rattle.grammar.specs.Grammar.{symbol, word, name, decimal, Rank, lor, xor, land, relation, sum, term, factor, primary, lor_xor, xor_land, land_relation, relation_sum, sum_term, term_factor, factor_primary, ExprWritten, NotElse}
use Rattle.grammar.specs.Grammar as rule
use Rattle.grammar.proofs.Marks.{rank_of}
use Rattle.grammar.proofs.Runs.{run, deeper_in}
use Rattle.grammar.proofs.Exprs.{reads, whole, puts, Held, held, drop_more, drop_compare, drop_fields, drop_named}
use Rattle.grammar.proofs.Complete.{Settled, Closing, NoDeclaration, held_of, drop_clauses, drop_stmt, drop_otherwise, drop_declarations, turns_run}
use Rattle.grammar.proofs.Sound.{Alive}

-- 0, in each offset where something is to be read
abbrev zero : Tok
zero = decimal 0 0

abbrev letter : Tok
letter = name (65 ∷ []) 0

-- the numbers of a field, and what they are for
abbrev used_end : Use → List Tok → List Tok
used_end part ts = ts
used_end (into s n p l) ts = symbol sign.Becomes 0 ∷ zero ∷ ts

-- tokens that complete these goals, and open no level but where a parenthesis has to come
abbrev pub completion : List Goal → List Tok
completion [] = []
completion (goal.sym s ∷ k) = symbol s 0 ∷ completion k
completion (goal.word w ∷ k) = word w 0 ∷ completion k
completion (goal.put x ∷ k) = completion k
completion (goal.relation l ∷ k) = zero ∷ completion k
completion (goal.lead l ∷ k) = zero ∷ completion k
completion (goal.primary l ∷ k) = zero ∷ completion k
completion (goal.paren l ∷ k) = symbol sign.Open 0 ∷ zero ∷ symbol sign.Close 0 ∷ completion k
completion (goal.more s l ∷ k) = completion k
completion (goal.compare l ∷ k) = completion k
completion (goal.fields ∷ k) = completion k
completion (goal.named n p l ∷ k) = completion k
completion (goal.bits u ∷ k) = zero ∷ symbol sign.Colon 0 ∷ zero ∷ symbol sign.Close 0 ∷ used_end u (completion k)
completion (goal.upto u a p ∷ k) = zero ∷ symbol sign.Close 0 ∷ used_end u (completion k)
completion (goal.shift ∷ k) = word kw.Lsl 0 ∷ symbol sign.Open 0 ∷ zero ∷ symbol sign.Close 0 ∷ completion k
completion (goal.count s ∷ k) = zero ∷ symbol sign.Close 0 ∷ completion k
completion (goal.test l ∷ k) = zero ∷ completion k
completion (goal.clauses l ∷ k) = completion k
completion (goal.stmt l ∷ k) = completion k
completion (goal.block l ∷ k) = word kw.End 0 ∷ completion k
completion (goal.otherwise l ∷ k) = completion k
completion (goal.arms l ∷ k) = word kw.End 0 ∷ completion k
completion (goal.target n p l ∷ k) = symbol sign.Becomes 0 ∷ zero ∷ completion k
completion (goal.target_at n p q l ∷ k) = symbol sign.Becomes 0 ∷ zero ∷ completion k
completion (goal.becomes s n p l a b q ∷ k) = symbol sign.Becomes 0 ∷ zero ∷ completion k
completion (goal.variable f l ∷ k) = letter ∷ symbol sign.Becomes 0 ∷ zero ∷ word kw.Until 0 ∷ zero ∷ word kw.Do 0 ∷ completion k
completion (goal.stepped n p f l ∷ k) = word kw.Until 0 ∷ zero ∷ word kw.Do 0 ∷ completion k
completion (goal.turns n p f l ∷ k) = zero ∷ word kw.Do 0 ∷ completion k
completion (goal.declarations ∷ k) = completion k
completion (goal.typed c ∷ k) = letter ∷ symbol sign.Semicolon 0 ∷ completion k
completion (goal.simple c ∷ k) = letter ∷ completion k
completion (goal.comma a c ∷ k) = symbol sign.Semicolon 0 ∷ completion k
completion (goal.item c ∷ k) = letter ∷ symbol sign.Open 0 ∷ zero ∷ symbol sign.Colon 0 ∷ zero ∷ symbol sign.Close 0 ∷ completion k
completion (goal.low c n p ∷ k) = zero ∷ symbol sign.Colon 0 ∷ zero ∷ symbol sign.Close 0 ∷ completion k
completion (goal.high c n p a q ∷ k) = zero ∷ symbol sign.Close 0 ∷ completion k
completion (goal.finish ∷ k) = []

-- what no optional part of a statement, or of what stands before one, takes
abbrev pub Quiet : List Tok → Type 0
Quiet ts = Settled ts × Closing ts × NotElse ts × NoDeclaration ts

-- Below a goal that may end with an optional part, the first token that completes the others is none of that part;
-- the last goal is the end of the text, and none is the parenthesis of a conversion.
abbrev pub Safe : List Goal → Type 0
Safe [] = ⊥
Safe (goal.sym s ∷ k) = Safe k
Safe (goal.word w ∷ k) = Safe k
Safe (goal.put x ∷ k) = Safe k
Safe (goal.relation l ∷ k) = Settled (completion k) × Safe k
Safe (goal.lead l ∷ k) = Settled (completion k) × Safe k
Safe (goal.primary l ∷ k) = Settled (completion k) × Safe k
Safe (goal.paren l ∷ k) = ⊥
Safe (goal.more s l ∷ k) = Settled (completion k) × Safe k
Safe (goal.compare l ∷ k) = Settled (completion k) × Safe k
Safe (goal.fields ∷ k) = Settled (completion k) × Safe k
Safe (goal.named n p l ∷ k) = Settled (completion k) × Safe k
Safe (goal.bits u ∷ k) = Settled (completion k) × Safe k
Safe (goal.upto u a p ∷ k) = Settled (completion k) × Safe k
Safe (goal.shift ∷ k) = Safe k
Safe (goal.count s ∷ k) = Safe k
Safe (goal.test l ∷ k) = Settled (completion k) × Safe k
Safe (goal.clauses l ∷ k) = Settled (completion k) × Safe k
Safe (goal.stmt l ∷ k) = Quiet (completion k) × Safe k
Safe (goal.block l ∷ k) = Safe k
Safe (goal.otherwise l ∷ k) = Quiet (completion k) × Safe k
Safe (goal.arms l ∷ k) = Safe k
Safe (goal.target n p l ∷ k) = Settled (completion k) × Safe k
Safe (goal.target_at n p q l ∷ k) = Settled (completion k) × Safe k
Safe (goal.becomes s n p l a b q ∷ k) = Settled (completion k) × Safe k
Safe (goal.variable f l ∷ k) = Quiet (completion k) × Safe k
Safe (goal.stepped n p f l ∷ k) = Quiet (completion k) × Safe k
Safe (goal.turns n p f l ∷ k) = Quiet (completion k) × Safe k
Safe (goal.declarations ∷ k) = Quiet (completion k) × Safe k
Safe (goal.typed c ∷ k) = Safe k
Safe (goal.simple c ∷ k) = Safe k
Safe (goal.comma a c ∷ k) = Safe k
Safe (goal.item c ∷ k) = Safe k
Safe (goal.low c n p ∷ k) = Safe k
Safe (goal.high c n p a q ∷ k) = Safe k
Safe (goal.finish ∷ k) = Unit {0}

-- 0 as an expression of each strength
zero_primary : (l : ℕ) (us : List Tok) → ExprWritten primary l (tree.number 0 types.Integer) (zero ∷ us) us
zero_primary l us = rule.number refl

zero_term : (l : ℕ) (us : List Tok) → ExprWritten term l (tree.number 0 types.Integer) (zero ∷ us) us
zero_term l us = rule.up term_factor (rule.up factor_primary (zero_primary l us))

zero_relation : (l : ℕ) (us : List Tok) → ExprWritten relation l (tree.number 0 types.Integer) (zero ∷ us) us
zero_relation l us = rule.up relation_sum (rule.up sum_term (zero_term l us))

pub zero_lor : (l : ℕ) (us : List Tok) → ExprWritten lor l (tree.number 0 types.Integer) (zero ∷ us) us
zero_lor l us = rule.up lor_xor (rule.up xor_land (rule.up land_relation (zero_relation l us)))

-- goals that accept tokens
abbrev pub Fine : ParseAnswer → Type 0
Fine x = (es : List Node) × (x ≡ Ok es)

abbrev pub Accepts : (end : ℕ) → List Tok → List Goal → List Node → Type 0
Accepts end ts k o = Fine (run end ts k o)

pub via : {x y : ParseAnswer} → x ≡ y → Fine y → Fine x
via e a = (a.0, e ∙ a.1)

mild : (us : List Tok) (n : ℕ) → Settled us → Held n us
mild us n h = held us (held_of us h) (omega arith)

-- Of goals above others that accept the tokens us.
module _ (end : ℕ) (us : List Tok) (k : List Goal) (ok : (o : List Node) → Accepts end us k o) where
  put_ok : (x : Node) (o : List Node) → Accepts end us (goal.put x ∷ k) o
  put_ok x o = via (puts end us x k o) (ok _)

  expr_ok : (l : ℕ) → Settled us → (o : List Node) → Accepts end (zero ∷ us) (expr l ++ k) o
  expr_ok l h o = via (whole (zero_lor l us) end k o (held_of us h)) (ok _)

-- Of a statement that assigns, and of a FOR.
module _ (end : ℕ) (us : List Tok) (k : List Goal) (ok : (o : List Node) → Accepts end us k o) where
  assigned : (l : ℕ) (x : Node) → Settled us → (o : List Node) → Accepts end (zero ∷ us) (expr l ++ goal.put x ∷ k) o
  assigned l x h o = expr_ok end us (goal.put x ∷ k) (put_ok end us k ok x) l h o

  deposited : (l : ℕ) (x y : Node) → Settled us → (o : List Node) → Accepts end (zero ∷ us) (expr l ++ goal.put x ∷ goal.put y ∷ k) o
  deposited l x y h o = expr_ok end us (goal.put x ∷ goal.put y ∷ k) (put_ok end us (goal.put y ∷ k) (put_ok end us k ok y) x) l h o

  turned : (n : List ℕ) (p f l : ℕ) → Quiet us → (o : List Node) → Accepts end (zero ∷ word kw.Do 0 ∷ us) (goal.turns n p f l ∷ k) o
  turned n p f l q o =
      let g : List Goal = goal.put (node.For n p f) ∷ goal.word kw.Do ∷ goal.stmt l ∷ goal.put (node.Next n) ∷ goal.put node.Drop ∷ k in
      via
      (turns_run end n p f l (zero ∷ word kw.Do 0 ∷ us) k o
      ∙ whole (zero_lor l (word kw.Do 0 ∷ us)) end g o (omega arith)
      ∙ drop_stmt end l us _ _ q.1
      ∙ puts end us (node.Next n) _ _
      ∙ puts end us node.Drop k _)
      (ok _)

  stepped : (n : List ℕ) (p f l : ℕ) → Quiet us → (o : List Node) →
      Accepts end (word kw.Until 0 ∷ zero ∷ word kw.Do 0 ∷ us) (goal.stepped n p f l ∷ k) o
  unfolding step_at
  stepped n p f l q o = via (puts end (zero ∷ word kw.Do 0 ∷ us) node.One (goal.turns n p f l ∷ k) o) (turned n p f l q _)

  bits_ok : (u : Use) (a b p : ℕ) → Settled us → (o : List Node) → Accepts end (used_end u us) (after_field u a b p k) o
  bits_ok part a b p h o = put_ok end us k ok (node.Field a b p) o
  bits_ok (into s n q l) a b p h o = deposited l (node.Deposit a b p) (store_node s n q 0) h o

pub accept : (end : ℕ) (k : List Goal) → Safe k → (o : List Node) → Accepts end (completion k) k o
accept end [] h o = absurd h
accept end (goal.sym s ∷ k) h o = via (ap (λ b. cond b (run end (completion k) k o) (refuse 5 0)) (true_same symbol_type s s refl)) (accept end k h o)
accept end (goal.word w ∷ k) h o = via (ap (λ b. cond b (run end (completion k) k o) (refuse 5 0)) (true_same keyword_type w w refl)) (accept end k h o)
accept end (goal.put x ∷ k) h o = put_ok end (completion k) k (accept end k h) x o
accept end (goal.relation l ∷ k) h o = via (reads (zero_relation l (completion k)) end k o (mild (completion k) 3 h.0)) (accept end k h.1 _)
accept end (goal.lead l ∷ k) h o =
    via
    (reads (zero_term l (completion k)) end k o (mild (completion k) 6 h.0) ∙ drop_more end strength.Term l (completion k) k _ (mild (completion k) 5 h.0))
    (accept end k h.1 _)
accept end (goal.primary l ∷ k) h o = via (reads (zero_primary l (completion k)) end k o (mild (completion k) 7 h.0)) (accept end k h.1 _)
accept end (goal.paren l ∷ k) h o = absurd h
accept end (goal.more s l ∷ k) h o = via (drop_more end s l (completion k) k o (mild (completion k) (rank_of s) h.0)) (accept end k h.1 _)
accept end (goal.compare l ∷ k) h o = via (drop_compare end l (completion k) k o (mild (completion k) 3 h.0)) (accept end k h.1 _)
accept end (goal.fields ∷ k) h o = via (drop_fields end (completion k) k o (mild (completion k) 6 h.0)) (accept end k h.1 _)
accept end (goal.named n p l ∷ k) h o = via (drop_named end n p l (completion k) k o (mild (completion k) 7 h.0)) (accept end k h.1 _)
accept end (goal.bits u ∷ k) h o = bits_ok end (completion k) k (accept end k h.1) u 0 0 0 h.0 o
accept end (goal.upto u a p ∷ k) h o = bits_ok end (completion k) k (accept end k h.1) u a 0 p h.0 o
accept end (goal.shift ∷ k) h o = put_ok end (completion k) k (accept end k h) _ o
accept end (goal.count s ∷ k) h o = put_ok end (completion k) k (accept end k h) _ o
accept end (goal.test l ∷ k) h o = assigned end (completion k) k (accept end k h.1) l (node.Test 0) h.0 o
accept end (goal.clauses l ∷ k) h o = via (drop_clauses end l (completion k) k o h.0) (accept end k h.1 _)
accept end (goal.stmt l ∷ k) h o = via (drop_stmt end l (completion k) k o h.0.1) (accept end k h.1 _)
accept end (goal.block l ∷ k) h o = accept end k h o
accept end (goal.otherwise l ∷ k) h o = via (drop_otherwise end l (completion k) k o h.0.2) (accept end k h.1 _)
accept end (goal.arms l ∷ k) h o = put_ok end (completion k) (goal.put node.Esac ∷ k) (put_ok end (completion k) k (accept end k h) node.Esac) node.Out o
accept end (goal.target n p l ∷ k) h o = assigned end (completion k) k (accept end k h.1) l (node.Store n p 0) h.0 o
accept end (goal.target_at n p q l ∷ k) h o = assigned end (completion k) k (accept end k h.1) l (node.StoreAt n p 0) h.0 (o ++ node.Checked n p q ∷ [])
accept end (goal.becomes s n p l a b q ∷ k) h o = deposited end (completion k) k (accept end k h.1) l (node.Deposit a b q) (store_node s n p 0) h.0 o
accept end (goal.variable f l ∷ k) h o =
    let us : List Tok = word kw.Until 0 ∷ zero ∷ word kw.Do 0 ∷ completion k in
    let ok = stepped end (completion k) k (accept end k h.1) (65 ∷ []) 0 f l h.0 in
    assigned end us (goal.stepped (65 ∷ []) 0 f l ∷ k) ok l (node.First (65 ∷ []) 0 f) (omega arith, refl, refl) o
accept end (goal.stepped n p f l ∷ k) h o = stepped end (completion k) k (accept end k h.1) n p f l h.0 o
accept end (goal.turns n p f l ∷ k) h o = turned end (completion k) k (accept end k h.1) n p f l h.0 o
accept end (goal.declarations ∷ k) h o = via (drop_declarations end (completion k) k o h.0.3) (accept end k h.1 _)
accept end (goal.typed c ∷ k) h o = accept end k h (o ++ node.Simple (65 ∷ []) c 0 ∷ [])
accept end (goal.simple c ∷ k) h o = put_ok end (completion k) k (accept end k h) _ o
accept end (goal.comma a c ∷ k) h o = accept end k h o
accept end (goal.item c ∷ k) h o = put_ok end (completion k) k (accept end k h) _ o
accept end (goal.low c n p ∷ k) h o = put_ok end (completion k) k (accept end k h) _ o
accept end (goal.high c n p a q ∷ k) h o = put_ok end (completion k) k (accept end k h) _ o
accept end (goal.finish ∷ k) h o = (o, refl)

-- the parenthesis of a conversion opens a level
pub accept_paren : (end l : ℕ) (k : List Goal) → Safe k → 0 < l → (o : List Node) → Accepts end (completion (goal.paren l ∷ k)) (goal.paren l ∷ k) o
accept_paren end l k h g o =
    via
    (deeper_in (symbol sign.Open 0) l _ g ∙ whole (zero_lor (l - 1) (symbol sign.Close 0 ∷ completion k)) end (goal.sym sign.Close ∷ k) o (omega arith))
    (accept end k h _)

-- no token of a completion is the end of a text
used_alive : (u : Use) (ts : List Tok) → Alive ts → Alive (used_end u ts)
used_alive part ts a = a
used_alive (into s n p l) ts a = (refl, (refl, a))

pub alive : (k : List Goal) → Alive (completion k)
alive [] = tt
alive (goal.sym s ∷ k) = (refl, alive k)
alive (goal.word w ∷ k) = (refl, alive k)
alive (goal.put x ∷ k) = alive k
alive (goal.relation l ∷ k) = (refl, alive k)
alive (goal.lead l ∷ k) = (refl, alive k)
alive (goal.primary l ∷ k) = (refl, alive k)
alive (goal.paren l ∷ k) = (refl, (refl, (refl, alive k)))
alive (goal.more s l ∷ k) = alive k
alive (goal.compare l ∷ k) = alive k
alive (goal.fields ∷ k) = alive k
alive (goal.named n p l ∷ k) = alive k
alive (goal.bits u ∷ k) = (refl, (refl, (refl, (refl, used_alive u (completion k) (alive k)))))
alive (goal.upto u a p ∷ k) = (refl, (refl, used_alive u (completion k) (alive k)))
alive (goal.shift ∷ k) = (refl, (refl, (refl, (refl, alive k))))
alive (goal.count s ∷ k) = (refl, (refl, alive k))
alive (goal.test l ∷ k) = (refl, alive k)
alive (goal.clauses l ∷ k) = alive k
alive (goal.stmt l ∷ k) = alive k
alive (goal.block l ∷ k) = (refl, alive k)
alive (goal.otherwise l ∷ k) = alive k
alive (goal.arms l ∷ k) = (refl, alive k)
alive (goal.target n p l ∷ k) = (refl, (refl, alive k))
alive (goal.target_at n p q l ∷ k) = (refl, (refl, alive k))
alive (goal.becomes s n p l a b q ∷ k) = (refl, (refl, alive k))
alive (goal.variable f l ∷ k) = (refl, (refl, (refl, (refl, (refl, (refl, alive k))))))
alive (goal.stepped n p f l ∷ k) = (refl, (refl, (refl, alive k)))
alive (goal.turns n p f l ∷ k) = (refl, (refl, alive k))
alive (goal.declarations ∷ k) = alive k
alive (goal.typed c ∷ k) = (refl, (refl, alive k))
alive (goal.simple c ∷ k) = (refl, alive k)
alive (goal.comma a c ∷ k) = (refl, alive k)
alive (goal.item c ∷ k) = (refl, (refl, (refl, (refl, (refl, (refl, alive k))))))
alive (goal.low c n p ∷ k) = (refl, (refl, (refl, (refl, alive k))))
alive (goal.high c n p a q ∷ k) = (refl, (refl, alive k))
alive (goal.finish ∷ k) = tt
