-- What is written as the grammar says is read to its nodes. Assumes nothing.
use Rattle.std.proofs.Common.{◌≡◌, ℕ, ◌-◌, ◌≤◌, Bool, false, List, [], ◌∷◌, ◌++◌, Some, None, Ok, sym, refl, ap, ◌∙◌, append-nil, arith}
use Rattle.parser.specs.declared.value_type.ValueType.{ValueType}
use Rattle.lexer.specs.declared.token.Keyword.{Keyword}
use Rattle.lexer.specs.declared.token.Keyword.TheVariants as kw
use Rattle.lexer.specs.declared.token.Symbol.TheVariants as sign
use Rattle.parser.specs.declared.lexeme.Opening.{Opening}
use Rattle.parser.specs.declared.lexeme.Opening.TheVariants as opening
use Rattle.parser.specs.Nodes.{Node}
use Rattle.parser.specs.Nodes as node
use Rattle.parser.specs.Marks.{keyword, Tok, is_keyword, type_of, type_word, spelled_of, opening_of, opening_word}
use Rattle.parser.specs.Machine.{Goal, feed, expr, condition, inner, statement_at, step_at, limit_at, declaration_goal}
use Rattle.parser.specs.Machine as goal
use Rattle.ast.specs.Trees.{Clause, Cond, Body, Arms, Decl, Program}
use Rattle.ast.specs.Lists.{list_e, list_l, list_c, list_b, list_a, list_d, list_ds, list}
use Rattle.grammar.specs.Grammar.{tok_at, symbol, word, name, decimal, bits, ExprWritten, lor, ClauseWritten, CondWritten, StepWritten, NotElse, StatementWritten, Inside, ListWritten, ArmsWritten, ItemWritten, ItemsWritten, TypedWritten, DeclarationsWritten, ProgramWritten}
use Rattle.grammar.specs.Grammar as rule
use Rattle.grammar.proofs.Marks.{grip}
use Rattle.grammar.proofs.Runs.{run, deeper_in, at_none, at_some, onto, onto_e, onto_l, onto_c, onto_b, onto_ds, joined_list, appended_list}
use Rattle.grammar.proofs.Exprs.{Held, whole, puts}

-- conditions

clause_reads : {l : ℕ} {c : Clause} {ts us : List Tok} → ClauseWritten l c ts us → (end : ℕ) (k : List Goal) (o : List Node) → Held 0 us → run end ts (goal.test l ∷ goal.clauses l ∷ k) o ≡ run end us (goal.clauses l ∷ k) (o ++ list_l c [])
unfolding limit_at
clause_reads (rule.test {l = l} {e = e} {t = t} {us = us} w) end k o h =
    whole w end (goal.put (node.Test t.offset) ∷ goal.clauses l ∷ k) o h ∙ puts end us (node.Test t.offset) _ _ ∙ ap (run end us (goal.clauses l ∷ k)) (onto_e o e _)
clause_reads (rule.and {l = l} {e = e} {c = c} {t = t} {vs = vs} w v) end k o h =
    whole w end (goal.put (node.Test t.offset) ∷ goal.clauses l ∷ k) o (omega arith)
    ∙ clause_reads v end k _ h
    ∙ ap (run end vs (goal.clauses l ∷ k)) (onto (o ++ list_e e []) (node.Test t.offset) (list_l c []) ∙ onto_e o e _)

-- a condition ends before this
abbrev pub Settled : List Tok → Type 0
Settled [] = Unit {0}
Settled (t ∷ ts) = (grip t.sort ≤ 0) × (is_keyword kw.And t.sort ≡ false) × (is_keyword kw.Or t.sort ≡ false)

pub held_of : (us : List Tok) → Settled us → Held 0 us
held_of [] h = tt
held_of (t ∷ us) h = h.0

pub drop_clauses : (end l : ℕ) (us : List Tok) (k : List Goal) (o : List Node) → Settled us → run end us (goal.clauses l ∷ k) o ≡ run end us k o
drop_clauses end l [] k o h = refl
drop_clauses end l (t ∷ us) k o h = rw (h.1, h.2)

cond_reads : {l : ℕ} {c : Cond} {ts us : List Tok} → CondWritten l c ts us → (end : ℕ) (k : List Goal) (o : List Node) → Settled us → run end ts (condition l ++ k) o ≡ run end us k (o ++ list_c c [])
cond_reads (rule.only {l = l} {us = us} w) end k o h = clause_reads w end k o (held_of us h) ∙ drop_clauses end l us k _ h
cond_reads (rule.or {l = l} {c = c} {d = d} {us = us} {vs = vs} w v) end k o h =
    clause_reads w end k o (omega arith)
    ∙ puts end us node.Or _ _
    ∙ cond_reads v end k _ h
    ∙ ap (run end vs k) (onto (o ++ list_l c []) node.Or (list_c d []) ∙ onto_l o c _)

-- a statement ends before this
abbrev pub Closing : List Tok → Type 0
Closing [] = Unit {0}
Closing (t ∷ ts) = (spelled_of t.sort ≡ None) × (opening_of t.sort ≡ None) × (grip t.sort ≤ 0) × (is_keyword kw.And t.sort ≡ false) × (is_keyword kw.Or t.sort ≡ false)

settled_of : (us : List Tok) → Closing us → Settled us
settled_of [] h = tt
settled_of (t ∷ us) h = (h.2, h.3, h.4)

closed_of : (us : List Tok) → Closing us → Held 0 us
closed_of us h = held_of us (settled_of us h)

pub drop_stmt : (end l : ℕ) (us : List Tok) (k : List Goal) (o : List Node) → Closing us → run end us (goal.stmt l ∷ k) o ≡ run end us k o
unfolding statement_at
drop_stmt end l [] k o h = refl
drop_stmt end l (t ∷ us) k o h = at_none _ _ h.0 ∙ at_none _ _ h.1

pub drop_otherwise : (end l : ℕ) (us : List Tok) (k : List Goal) (o : List Node) → NotElse us → run end us (goal.otherwise l ∷ k) o ≡ run end us k (o ++ node.Fi ∷ [])
drop_otherwise end l [] k o h = refl
drop_otherwise end l (t ∷ us) k o h = rw h

-- the limit of a FOR is an expression, and so on
pub turns_run : (end : ℕ) (n : List ℕ) (p f l : ℕ) (us : List Tok) (k : List Goal) (o : List Node) → run end us (goal.turns n p f l ∷ k) o ≡ run end us (expr l ++ goal.put (node.For n p f) ∷ goal.word kw.Do ∷ goal.stmt l ∷ goal.put (node.Next n) ∷ goal.put node.Drop ∷ k) o
unfolding limit_at
turns_run end n p f l [] k o = refl
turns_run end n p f l (t ∷ us) k o = refl

abbrev Opens : Keyword → (p l : ℕ) → Body → List Tok → List Tok → Type 0
Opens w p l b ts us = (end : ℕ) (k : List Goal) (o : List Node) → (x : Opening) × (opening_word w ≡ Some x) × (run end ts (inner x p l ++ k) o ≡ run end us k (o ++ list_b b []))

-- what stands behind a statement, or ends a list
semicolon : (p : ℕ) (us : List Tok) → Closing (symbol sign.Semicolon p ∷ us)
semicolon p us = (refl, refl, omega arith, refl, refl)

ends : (p : ℕ) (us : List Tok) → Closing (word kw.End p ∷ us)
ends p us = (refl, refl, omega arith, refl, refl)

elses : (p : ℕ) (us : List Tok) → Closing (word kw.Else p ∷ us)
elses p us = (refl, refl, omega arith, refl, refl)

untils : (p : ℕ) (us : List Tok) → Closing (word kw.Until p ∷ us)
untils p us = (refl, refl, omega arith, refl, refl)

mutual
  unfolding statement_at step_at

  pub statement_reads : {l : ℕ} {b : Body} {ts us : List Tok} → StatementWritten l b ts us → (end : ℕ) (k : List Goal) (o : List Node) → Closing us → run end ts (goal.stmt l ∷ k) o ≡ run end us k (o ++ list_b b [])
  statement_reads (rule.nothing {l = l} {us = us}) end k o h = drop_stmt end l us k o h ∙ ap (run end us k) (sym (append-nil o))
  statement_reads (rule.assign {l = l} {p = p} {q = q} {n = n} {e = e} {us = us} w) end k o h =
      whole w end (goal.put (node.Store n p q) ∷ k) o (closed_of us h) ∙ puts end us (node.Store n p q) k _ ∙ ap (run end us k) (onto_e o e _)
  statement_reads (rule.assign_at {l = l} {p = p} {o = x} {q = q} {n = n} {i = i} {e = e} {us = us} {vs = vs} g w v) end k o h =
      deeper_in (symbol sign.Open x) l _ g
      ∙ whole w end (goal.sym sign.Close ∷ goal.target_at n p x l ∷ k) o (omega arith)
      ∙ puts end us (node.Checked n p x) _ _
      ∙ whole v end (goal.put (node.StoreAt n p q) ∷ k) _ (closed_of vs h)
      ∙ puts end vs (node.StoreAt n p q) k _
      ∙ ap (run end vs k) (onto_e _ e _ ∙ onto _ (node.Checked n p x) _ ∙ onto_e o i _)
  statement_reads (rule.deposit {l = l} {p = p} {a = a} {b = b} {f = f} {q = q} {n = n} {e = e} {us = us} {vs = vs} bits w) end k o h =
      whole w end (goal.put (node.Deposit a b f) ∷ goal.put (node.Store n p q) ∷ k) _ (closed_of vs h)
      ∙ puts end vs (node.Deposit a b f) _ _
      ∙ puts end vs (node.Store n p q) k _
      ∙ ap (run end vs k) (onto _ (node.Deposit a b f) _ ∙ onto_e _ e _ ∙ onto o (node.Fetch n p) _)
  statement_reads (rule.deposit_at {l = l} {p = p} {o = x} {a = a} {b = b} {f = f} {q = q} {n = n} {i = i} {e = e} {vs = vs} {ws = ws} g w bits v) end k o h =
      deeper_in (symbol sign.Open x) l _ g
      ∙ whole w end (goal.sym sign.Close ∷ goal.target_at n p x l ∷ k) o (omega arith)
      ∙ whole v end (goal.put (node.Deposit a b f) ∷ goal.put (node.StoreAt n p q) ∷ k) _ (closed_of ws h)
      ∙ puts end ws (node.Deposit a b f) _ _
      ∙ puts end ws (node.StoreAt n p q) k _
      ∙ ap (run end ws k) (onto _ (node.Deposit a b f) _ ∙ onto_e _ e _ ∙ onto _ (node.FetchAt n p x) _ ∙ onto_e o i _)
  statement_reads (rule.opened {l = l} {p = p} {w = w} g v) end k o h =
      let i = inside_reads v h end k o in
      at_some _ _ i.1 ∙ deeper_in (word w p) l _ g ∙ i.2

  inside_reads : {w : Keyword} {p l : ℕ} {b : Body} {ts us : List Tok} → Inside w p l b ts us → Closing us → Opens w p l b ts us
  inside_reads (rule.block w) h end k o = (opening.Block, refl, list_reads w end k o)
  inside_reads (rule.when {l = l} {c = c} {b = b} {ts = ts} {us = us} {vs = vs} w v n) h end k o = (
    opening.Conditional,
    refl,
    puts end ts node.If _ o
        ∙ cond_reads w end (goal.word kw.Then ∷ goal.put node.Then ∷ goal.stmt l ∷ goal.otherwise l ∷ k) _ (omega arith, refl, refl)
        ∙ puts end us node.Then _ _
        ∙ statement_reads v end (goal.otherwise l ∷ k) _ h
        ∙ drop_otherwise end l vs k _ n
        ∙ ap (run end vs k) (onto_b _ b _ ∙ onto _ node.Then _ ∙ onto_c _ c _ ∙ onto o node.If _),
  )
  inside_reads (rule.either {l = l} {r = r} {c = c} {b = b} {d = d} {ts = ts} {us = us} {vs = vs} {ws = ws} w v x) h end k o = (
    opening.Conditional,
    refl,
    puts end ts node.If _ o
        ∙ cond_reads w end (goal.word kw.Then ∷ goal.put node.Then ∷ goal.stmt l ∷ goal.otherwise l ∷ k) _ (omega arith, refl, refl)
        ∙ puts end us node.Then _ _
        ∙ statement_reads v end (goal.otherwise l ∷ k) _ (elses r vs)
        ∙ puts end vs node.Else _ _
        ∙ statement_reads x end (goal.put node.Fi ∷ k) _ h
        ∙ puts end ws node.Fi k _
        ∙ ap (run end ws k) (onto_b _ d _ ∙ onto _ node.Else _ ∙ onto_b _ b _ ∙ onto _ node.Then _ ∙ onto_c _ c _ ∙ onto o node.If _),
  )
  inside_reads (rule.choose {p = p} {l = l} {e = e} {a = a} {us = us} {vs = vs} w v) h end k o = (
    opening.Choice,
    refl,
    whole w end (goal.put (node.Case p) ∷ goal.word kw.Of ∷ goal.word kw.Begin ∷ goal.put node.Arm ∷ goal.stmt l ∷ goal.arms l ∷ k) o (omega arith)
        ∙ arms_reads v end k _
        ∙ ap (run end vs k) (onto _ (node.Case p) _ ∙ onto_e o e _),
  )
  inside_reads (rule.while {l = l} {c = c} {b = b} {ts = ts} {us = us} {vs = vs} w v) h end k o = (
    opening.While,
    refl,
    puts end ts node.While _ o
        ∙ cond_reads w end (goal.word kw.Do ∷ goal.put node.Then ∷ goal.stmt l ∷ goal.put node.Loop ∷ k) _ (omega arith, refl, refl)
        ∙ puts end us node.Then _ _
        ∙ statement_reads v end (goal.put node.Loop ∷ k) _ h
        ∙ puts end vs node.Loop k _
        ∙ ap (run end vs k) (onto_b _ b _ ∙ onto _ node.Then _ ∙ onto_c _ c _ ∙ onto o node.While _),
  )
  inside_reads (rule.repeat {l = l} {q = q} {c = c} {b = b} {ts = ts} {us = us} {vs = vs} w v) h end k o = (
    opening.Do,
    refl,
    puts end ts node.Do _ o
        ∙ statement_reads w end (goal.word kw.Until ∷ goal.put node.Until ∷ condition l ++ goal.put node.Done ∷ k) _ (untils q us)
        ∙ puts end us node.Until _ _
        ∙ cond_reads v end (goal.put node.Done ∷ k) _ (settled_of vs h)
        ∙ puts end vs node.Done k _
        ∙ ap (run end vs k) (onto_c _ c _ ∙ onto _ node.Until _ ∙ onto_b _ b _ ∙ onto o node.Do _),
  )
  inside_reads (rule.count {f = f} {p = p} {l = l} {n = n} {e = e} {m = m} {b = b} {vs = vs} {ws = ws} {xs = xs} w rule.absent v x) h end k o = (
    opening.For,
    refl,
    whole w end (goal.put (node.First n p f) ∷ goal.stepped n p f l ∷ k) o (omega arith)
        ∙ puts end vs node.One _ _
        ∙ turns_run end n p f l vs k _
        ∙ whole v end (goal.put (node.For n p f) ∷ goal.word kw.Do ∷ goal.stmt l ∷ goal.put (node.Next n) ∷ goal.put node.Drop ∷ k) _ (omega arith)
        ∙ statement_reads x end (goal.put (node.Next n) ∷ goal.put node.Drop ∷ k) _ h
        ∙ puts end xs (node.Next n) _ _
        ∙ puts end xs node.Drop k _
        ∙ ap (run end xs k) (onto _ (node.Next n) _ ∙ onto_b _ b _ ∙ onto _ (node.For n p f) _ ∙ onto_e _ m _ ∙ onto _ node.One _ ∙ onto _ (node.First n p f) _ ∙ onto_e o e _),
  )
  inside_reads (rule.count {f = f} {p = p} {l = l} {n = n} {e = e} {m = m} {b = b} {vs = vs} {ws = ws} {xs = xs} w (rule.by {e = y} z) v x) h end k o = (
    opening.For,
    refl,
    whole w end (goal.put (node.First n p f) ∷ goal.stepped n p f l ∷ k) o (omega arith)
        ∙ whole z end (goal.put (node.Step f) ∷ goal.word kw.Until ∷ goal.turns n p f l ∷ k) _ (omega arith)
        ∙ turns_run end n p f l vs k _
        ∙ whole v end (goal.put (node.For n p f) ∷ goal.word kw.Do ∷ goal.stmt l ∷ goal.put (node.Next n) ∷ goal.put node.Drop ∷ k) _ (omega arith)
        ∙ statement_reads x end (goal.put (node.Next n) ∷ goal.put node.Drop ∷ k) _ h
        ∙ puts end xs (node.Next n) _ _
        ∙ puts end xs node.Drop k _
        ∙ ap (run end xs k)
        (onto _ (node.Next n) _ ∙ onto_b _ b _ ∙ onto _ (node.For n p f) _ ∙ onto_e _ m _ ∙ onto _ (node.Step f) _ ∙ onto_e _ y _ ∙ onto _ (node.First n p f) _ ∙ onto_e o e _),
  )

  pub list_reads : {l r : ℕ} {b : Body} {ts us : List Tok} → ListWritten l b ts (word kw.End r ∷ us) → (end : ℕ) (k : List Goal) (o : List Node) → run end ts (goal.stmt l ∷ goal.block l ∷ k) o ≡ run end us k (o ++ list_b b [])
  list_reads {l} {r} {us = us} (rule.final w) end k o = statement_reads w end (goal.block l ∷ k) o (ends r us)
  list_reads {l} {us = us} (rule.next {p = p} {b = b} {c = c} {us = vs} w v) end k o =
      statement_reads w end (goal.block l ∷ k) o (semicolon p vs)
      ∙ list_reads v end k _
      ∙ ap (run end us k) (onto_b o b _ ∙ ap (λ x. o ++ x) (sym (joined_list b c [])))

  arms_reads : {l r : ℕ} {a : Arms} {ts us : List Tok} → ArmsWritten l a ts (word kw.End r ∷ us) → (end : ℕ) (k : List Goal) (o : List Node) → run end ts (goal.put node.Arm ∷ goal.stmt l ∷ goal.arms l ∷ k) o ≡ run end us k (o ++ list_a a (node.Esac ∷ []))
  arms_reads {l} {r} {ts = ts} {us = us} (rule.last {b = b} w) end k o =
      puts end ts node.Arm _ o
      ∙ statement_reads w end (goal.arms l ∷ k) _ (ends r us)
      ∙ puts end us node.Out _ _
      ∙ puts end us node.Esac k _
      ∙ ap (run end us k) (onto _ node.Out _ ∙ onto_b _ b _ ∙ onto o node.Arm _)
  arms_reads {l} {ts = ts} {us = us} (rule.arm {p = p} {b = b} {a = a} {us = vs} w v) end k o =
      puts end ts node.Arm _ o
      ∙ statement_reads w end (goal.arms l ∷ k) _ (semicolon p vs)
      ∙ puts end vs node.Out _ _
      ∙ arms_reads v end k _
      ∙ ap (run end us k) (onto _ node.Out _ ∙ onto_b _ b _ ∙ onto o node.Arm _)

-- declarations

item_reads : {a : Bool} {c : ValueType} {d : Decl} {ts us : List Tok} → ItemWritten a c d ts us → (end : ℕ) (k : List Goal) (o : List Node) → run end ts (declaration_goal a c ∷ k) o ≡ run end us k (o ++ list_d d ∷ [])
item_reads (rule.simple {k = c} {n = n} {p = p} {us = us}) end k o = puts end us (node.Simple n c p) k o
item_reads (rule.array {k = c} {n = n} {a = a} {b = b} {p = p} {q = q} {us = us}) end k o = puts end us (node.Array n c a b p q) k o

items_reads : {a : Bool} {c : ValueType} {ds : List Decl} {ts us : List Tok} → ItemsWritten a c ds ts us → (end : ℕ) (k : List Goal) (o : List Node) → run end ts (declaration_goal a c ∷ goal.comma a c ∷ k) o ≡ run end us k (o ++ list_ds ds [])
items_reads (rule.one {a = a} {k = c} w) end k o = item_reads w end (goal.comma a c ∷ k) o
items_reads (rule.several {a = a} {k = c} {d = d} {vs = vs} w v) end k o =
    item_reads w end (goal.comma a c ∷ k) o ∙ items_reads v end k _ ∙ ap (run end vs k) (onto o (list_d d) _)

typed_reads : {c : ValueType} {ds : List Decl} {ts us : List Tok} → TypedWritten c ds ts us → (end : ℕ) (k : List Goal) (o : List Node) → run end ts (goal.typed c ∷ k) o ≡ run end us k (o ++ list_ds ds [])
typed_reads (rule.names (rule.one {p = q} rule.simple)) end k o = items_reads (rule.one {p = q} rule.simple) end k o
typed_reads (rule.names (rule.several {p = q} rule.simple w)) end k o = items_reads (rule.several {p = q} rule.simple w) end k o
typed_reads (rule.arrays w) end k o = items_reads w end k o

-- no declaration begins with this
abbrev pub NoDeclaration : List Tok → Type 0
NoDeclaration [] = Unit {0}
NoDeclaration (t ∷ ts) = (type_of t.sort ≡ None) × (is_keyword kw.Array t.sort ≡ false)

pub drop_declarations : (end : ℕ) (us : List Tok) (k : List Goal) (o : List Node) → NoDeclaration us → run end us (goal.declarations ∷ k) o ≡ run end us k o
drop_declarations end [] k o h = refl
drop_declarations end (t ∷ us) k o h = at_none _ _ h.0 ∙ rw h.1

declarations_reads : {ds : List Decl} {ts us : List Tok} → DeclarationsWritten ds ts us → (end : ℕ) (k : List Goal) (o : List Node) → NoDeclaration us → run end ts (goal.declarations ∷ k) o ≡ run end us k (o ++ list_ds ds [])
declarations_reads (rule.none {us = us}) end k o h = drop_declarations end us k o h ∙ ap (run end us k) (sym (append-nil o))
declarations_reads (rule.typed {ds = ds} {es = es} {vs = vs} e w v) end k o h =
    at_some _ _ e
    ∙ typed_reads w end (goal.declarations ∷ k) o
    ∙ declarations_reads v end k _ h
    ∙ ap (run end vs k) (onto_ds o ds _ ∙ ap (λ x. o ++ x) (sym (appended_list ds es [])))
declarations_reads (rule.untyped {ds = ds} {es = es} {vs = vs} w v) end k o h =
    items_reads w end (goal.declarations ∷ k) o ∙ declarations_reads v end k _ h ∙ ap (run end vs k) (onto_ds o ds _ ∙ ap (λ x. o ++ x) (sym (appended_list ds es [])))

opening_first : {w : Keyword} {p l : ℕ} {b : Body} {ts us : List Tok} → Inside w p l b ts us → (type_word w ≡ None) × (is_keyword kw.Array (keyword w) ≡ false)
opening_first (rule.block w) = (refl, refl)
opening_first (rule.when w v n) = (refl, refl)
opening_first (rule.either w v x) = (refl, refl)
opening_first (rule.choose w v) = (refl, refl)
opening_first (rule.while w v) = (refl, refl)
opening_first (rule.repeat w v) = (refl, refl)
opening_first (rule.count w s v x) = (refl, refl)

statement_first : {l : ℕ} {b : Body} {ts us : List Tok} → StatementWritten l b ts us → NoDeclaration us → NoDeclaration ts
statement_first rule.nothing h = h
statement_first (rule.assign w) h = (refl, refl)
statement_first (rule.assign_at g w v) h = (refl, refl)
statement_first (rule.deposit f w) h = (refl, refl)
statement_first (rule.deposit_at g w f v) h = (refl, refl)
statement_first (rule.opened g v) h = opening_first v

list_first : {l : ℕ} {b : Body} {ts us : List Tok} → ListWritten l b ts us → NoDeclaration us → NoDeclaration ts
list_first (rule.final w) h = statement_first w h
list_first (rule.next w v) h = statement_first w (refl, refl)

-- a program within l levels
abbrev pub program_at : (l : ℕ) → List Goal
program_at l = goal.word kw.Begin ∷ goal.declarations ∷ goal.stmt (l - 1) ∷ goal.block (l - 1) ∷ goal.sym sign.Dot ∷ goal.finish ∷ []

pub program_reads : {l : ℕ} {p : Program} {ts : List Tok} → ProgramWritten l p ts → (end : ℕ) → run end ts (program_at l) [] ≡ Ok (list p)
unfolding list
program_reads (rule.program {l = l} {ds = ds} {b = b} {us = us} g w v) end =
    declarations_reads w end (goal.stmt (l - 1) ∷ goal.block (l - 1) ∷ goal.sym sign.Dot ∷ goal.finish ∷ []) [] (list_first v (refl, refl))
    ∙ list_reads v end (goal.sym sign.Dot ∷ goal.finish ∷ []) _
    ∙ ap (λ (x : List Node). Ok x) (onto_ds [] ds (list_b b []))
