-- One token: the goals that it leads to, with any number of further levels, or its refusal. Assumes nothing.
use Rattle.std.proofs.Common.{◌≡◌, ℕ, zero, suc, ◌+◌, ◌-◌, Bool, true, false, cond, List, [], ◌∷◌, ◌++◌, Some, None, Option, refl, ap, ◌∙◌, subst, sym, arith}
use Rattle.base.specs.Refusals.{refuse}
use Rattle.parser.specs.declared.value_type.ValueType.{ValueType}
use Rattle.parser.specs.declared.value_type.ValueType.TheVariants as types
use Rattle.lexer.specs.declared.token.Keyword.TheVariants as kw
use Rattle.lexer.specs.declared.token.Symbol.TheVariants as sign
use Rattle.parser.specs.declared.lexeme.Strength.{Strength}
use Rattle.parser.specs.declared.lexeme.Strength.TheVariants as strength
use Rattle.parser.specs.declared.lexeme.Opening.{Opening}
use Rattle.parser.specs.declared.lexeme.Opening.TheVariants as opening
use Rattle.parser.specs.Nodes.{Node}
use Rattle.parser.specs.Nodes as node
use Rattle.parser.specs.Marks.{keyword, Tok, is_stop, is_symbol, is_keyword, literal_of, type_of, spelled_of, decimal_of, shift_of, opening_of, operator_at}
use Rattle.parser.specs.Machine.{Goal, Use, part, into, Onward, ParseAnswer, feed, expr, inner, right, after_field, store_node, deeper, refuse_unexpected, parenthesis, begins, first_term, relation_at, statement_at, step_at, limit_at}
use Rattle.parser.specs.Machine as goal
use Rattle.grammar.specs.Grammar.{symbol, word, decimal}
use Rattle.grammar.proofs.Marks.{both, symbol_is, keyword_is}
use Rattle.grammar.proofs.Runs.{deeper_in}
use Rattle.grammar.proofs.Complete.{Settled}
use Rattle.grammar.proofs.Sound.{opener, opening_is}
use Rattle.grammar.proofs.Ends.{completion, Quiet, Safe}

-- a goal with m levels more
abbrev wider_use : ℕ → Use → Use
wider_use m part = part
wider_use m (into s n p l) = into s n p (l + m)

abbrev wider_goal : ℕ → Goal → Goal
wider_goal m (goal.sym s) = goal.sym s
wider_goal m (goal.word w) = goal.word w
wider_goal m (goal.put x) = goal.put x
wider_goal m (goal.relation l) = goal.relation (l + m)
wider_goal m (goal.lead l) = goal.lead (l + m)
wider_goal m (goal.primary l) = goal.primary (l + m)
wider_goal m (goal.paren l) = goal.paren (l + m)
wider_goal m (goal.more s l) = goal.more s (l + m)
wider_goal m (goal.compare l) = goal.compare (l + m)
wider_goal m goal.fields = goal.fields
wider_goal m (goal.named n p l) = goal.named n p (l + m)
wider_goal m (goal.bits u) = goal.bits (wider_use m u)
wider_goal m (goal.upto u a p) = goal.upto (wider_use m u) a p
wider_goal m goal.shift = goal.shift
wider_goal m (goal.count s) = goal.count s
wider_goal m (goal.test l) = goal.test (l + m)
wider_goal m (goal.clauses l) = goal.clauses (l + m)
wider_goal m (goal.stmt l) = goal.stmt (l + m)
wider_goal m (goal.block l) = goal.block (l + m)
wider_goal m (goal.otherwise l) = goal.otherwise (l + m)
wider_goal m (goal.arms l) = goal.arms (l + m)
wider_goal m (goal.target n p l) = goal.target n p (l + m)
wider_goal m (goal.target_at n p q l) = goal.target_at n p q (l + m)
wider_goal m (goal.becomes s n p l a b q) = goal.becomes s n p (l + m) a b q
wider_goal m (goal.variable f l) = goal.variable f (l + m)
wider_goal m (goal.stepped n p f l) = goal.stepped n p f (l + m)
wider_goal m (goal.turns n p f l) = goal.turns n p f (l + m)
wider_goal m goal.declarations = goal.declarations
wider_goal m (goal.typed c) = goal.typed c
wider_goal m (goal.simple c) = goal.simple c
wider_goal m (goal.comma a c) = goal.comma a c
wider_goal m (goal.item c) = goal.item c
wider_goal m (goal.low c n p) = goal.low c n p
wider_goal m (goal.high c n p a q) = goal.high c n p a q
wider_goal m goal.finish = goal.finish

abbrev pub wider : ℕ → List Goal → List Goal
wider m [] = []
wider m (g ∷ k) = wider_goal m g ∷ wider m k

-- goals that can be completed, whatever levels are left
abbrev pub Sound : List Goal → Type 0
Sound k = (m : ℕ) → Safe (wider m k)

-- What a token t leads to, of machines X that have m levels more: to goals; to the parenthesis of a conversion, where it
-- is a type's word; to its refusal; or, where it is none, to a level that only the wider machines have.
pub data Step (t : Tok) (X : ℕ → Onward → ParseAnswer) : Type 0 where
  on : (gs : List Goal) (o : List Node) → Sound gs → ((m : ℕ) (next : Onward) → X m next ≡ next (wider m gs) o) → Step t X
  typed : (c : ValueType) (l : ℕ) (k : List Goal) (o : List Node) → type_of t.sort ≡ Some c → Sound k →
      ((m : ℕ) (next : Onward) → X m next ≡ next (goal.paren (l + m) ∷ wider m k) o) → Step t X
  refused : ((m : ℕ) (next : Onward) → X m next ≡ refuse 5 t.offset) → Step t X
  deep : (gs : List Goal) (o : List Node) → type_of t.sort ≡ None → Safe gs →
      ((next : Onward) → X 0 next ≡ refuse 6 t.offset) → ((next : Onward) → X 1 next ≡ next gs o) → Step t X

module _ (t : Tok) where
  -- a test, and a class, of the token
  if : {X Y : ℕ → Onward → ParseAnswer} (b : Bool) → (b ≡ true → Step t X) → (b ≡ false → Step t Y) → Step t (λ m next. cond b (X m next) (Y m next))
  if true f g = f refl
  if false f g = g refl

  class : {A : Type 0} {X : A → ℕ → Onward → ParseAnswer} {Y : ℕ → Onward → ParseAnswer} (x : Option A) →
      ((a : A) → x ≡ Some a → Step t (X a)) → (x ≡ None → Step t Y) → Step t (λ m next. elim x [ Some a ↦ X a m next | None ↦ Y m next ])
  class (Some a) f g = f a refl
  class None f g = g refl

  no : Step t (λ m next. refuse_unexpected t)
  no = refused (λ m next. refl)

  -- a level is opened, for the goals G
  dig : type_of t.sort ≡ None → (G : ℕ → List Goal → List Goal) → ((m l : ℕ) (k : List Goal) → wider m (G l k) ≡ G (l + m) (wider m k)) →
      (l : ℕ) (k : List Goal) (o : List Node) → ((m l : ℕ) → Safe (G l (wider m k))) →
      Step t (λ m next. deeper t (l + m) (next (G (l + m - 1) (wider m k)) o))
  dig n G w zero k o s = deep (G 0 (wider 1 k)) o n (s 1 0) (λ next. refl) (λ next. refl)
  dig n G w (suc j) k o s =
      on (G j k) o (λ m. subst Safe (sym (w m j k)) (s m (j + m)))
      (λ m next. let e : suc j + m - 1 ≡ j + m = omega arith in
      deeper_in t (suc j + m) _ (omega arith) ∙ ap (λ x. next (G x (wider m k)) o) e ∙ ap (λ gs. next gs o) (sym (w m j k)))

-- what may stand behind an expression, and behind a statement
close : (us : List Tok) → Settled (symbol sign.Close 0 ∷ us)
close us = (omega arith, refl, refl)

pub quiet_end : (us : List Tok) → Quiet (word kw.End 0 ∷ us)
quiet_end us = ((omega arith, refl, refl), (refl, refl, omega arith, refl, refl), refl, (refl, refl))

quiet_until : (us : List Tok) → Quiet (word kw.Until 0 ∷ us)
quiet_until us = ((omega arith, refl, refl), (refl, refl, omega arith, refl, refl), refl, (refl, refl))

-- an operand has so many goals that end with an optional part: a term three, an expression four
three : {A B : Type 0} → A × B → A × (A × (A × B))
three x = (x.0, (x.0, x))

four : {A B : Type 0} → A × B → A × (A × (A × (A × B)))
four x = (x.0, (x.0, (x.0, x)))

-- goals above others

right_safe : (x : Strength) (l : ℕ) (k : List Goal) → Settled (completion k) → Safe k → Safe (right x l ++ k)
right_safe strength.Lor l k h s = (h, (h, (h, s)))
right_safe strength.Xor l k h s = (h, (h, s))
right_safe strength.Land l k h s = (h, s)
right_safe strength.Relation l k h s = (h, (h, s))
right_safe strength.Sum l k h s = (h, (h, (h, s)))
right_safe strength.Term l k h s = (h, (h, s))

right_wider : (x : Strength) (m l : ℕ) (k : List Goal) → wider m (right x l ++ k) ≡ right x (l + m) ++ wider m k
right_wider strength.Lor m l k = refl
right_wider strength.Xor m l k = refl
right_wider strength.Land m l k = refl
right_wider strength.Relation m l k = refl
right_wider strength.Sum m l k = refl
right_wider strength.Term m l k = refl

inner_safe : (x : Opening) (p l : ℕ) (k : List Goal) → Quiet (completion k) → Safe k → Safe (inner x p l ++ k)
inner_safe opening.Block p l k q s = (quiet_end (completion k), s)
inner_safe opening.Conditional p l k q s =
    let h : Settled (word kw.Then 0 ∷ completion k) = (omega arith, refl, refl) in
    (h, (h, (q, (q, s))))
inner_safe opening.Choice p l k q s =
    let h : Settled (word kw.Of 0 ∷ word kw.Begin 0 ∷ word kw.End 0 ∷ completion k) = (omega arith, refl, refl) in
    (h, (h, (h, (h, (quiet_end (completion k), s)))))
inner_safe opening.While p l k q s =
    let h : Settled (word kw.Do 0 ∷ completion k) = (omega arith, refl, refl) in
    (h, (h, (q, s)))
inner_safe opening.Do p l k q s = (quiet_until (decimal 0 0 ∷ completion k), (q.0, (q.0, s)))
inner_safe opening.For p l k q s = (q, s)

inner_wider : (x : Opening) (p m l : ℕ) (k : List Goal) → wider m (inner x p l ++ k) ≡ inner x p (l + m) ++ wider m k
inner_wider opening.Block p m l k = refl
inner_wider opening.Conditional p m l k = refl
inner_wider opening.Choice p m l k = refl
inner_wider opening.While p m l k = refl
inner_wider opening.Do p m l k = refl
inner_wider opening.For p m l k = refl

used_safe : (u : Use) (a b p m : ℕ) (k : List Goal) → Settled (completion (wider m k)) → Safe (wider m k) → Safe (wider m (after_field u a b p k))
used_safe part a b p m k h s = s
used_safe (into x n q l) a b p m k h s = (h, s)

used_wider : (u : Use) (a b p m : ℕ) (k : List Goal) → wider m (after_field u a b p k) ≡ after_field (wider_use m u) a b p (wider m k)
used_wider part a b p m k = refl
used_wider (into x n q l) a b p m k = refl

opener_type : (x : Opening) → type_of (keyword (opener x)) ≡ None
opener_type opening.Block = refl
opener_type opening.Conditional = refl
opener_type opening.Choice = refl
opener_type opening.While = refl
opener_type opening.Do = refl
opener_type opening.For = refl

-- goals that stand above others that are settled so
abbrev Below : List Goal → Type 0
Below k = (m : ℕ) → Settled (completion (wider m k)) × Safe (wider m k)

module _ (t : Tok) where
  pub step_paren : (l : ℕ) (k : List Goal) (o : List Node) → Sound k → Step t (λ m next. parenthesis t next (l + m) (wider m k) o)
  step_paren l k o s =
      if t (is_symbol sign.Open t.sort)
      (λ e. dig t (ap type_of (symbol_is sign.Open t.sort e)) (λ l k. expr l ++ goal.sym sign.Close ∷ k) (λ m l k. refl) l k o
      (λ m l. four (close (completion (wider m k)), s m)))
      (λ e. no t)

  step_begins : (l : ℕ) (k : List Goal) (o : List Node) → Below k → Step t (λ m next. begins t next (l + m) (wider m k) o)
  step_begins l k o s =
      class t (literal_of t.sort)
      (λ x e. on (goal.put (node.Number x.0 x.1) ∷ k) o (λ m. (s m).1) (λ m next. refl))
      (λ e. class t (type_of t.sort)
      (λ c f. typed c l (goal.put (node.Convert c) ∷ k) o f (λ m. (s m).1) (λ m next. refl))
      (λ f. class t (spelled_of t.sort)
      (λ n g. on (goal.named n t.offset l ∷ k) o s (λ m next. refl))
      (λ g. step_paren l k o (λ m. (s m).1))))

  step_leading : (l : ℕ) (k : List Goal) (o : List Node) → Below k → Step t (λ m next. first_term t next (l + m) (wider m k) o)
  step_leading l k o s =
      if t (is_symbol sign.Minus t.sort)
      (λ e. on (goal.primary l ∷ goal.fields ∷ goal.more strength.Term l ∷ goal.put (node.Negate t.offset) ∷ k) o (λ m. three (s m))
      (λ m next. refl))
      (λ e. step_begins l (goal.fields ∷ goal.more strength.Term l ∷ k) o (λ m. three (s m)))

  step_related : (l : ℕ) (k : List Goal) (o : List Node) → Below k → Step t (λ m next. relation_at t next (l + m) (wider m k) o)
  step_related l k o s =
      if t (is_keyword kw.Lnot t.sort)
      (λ e. dig t (ap type_of (keyword_is kw.Lnot t.sort e)) (λ l k. goal.relation l ∷ goal.put (node.Lnot t.offset) ∷ k) (λ m l k. refl) l k o (λ m l. s m))
      (λ e. step_leading l (goal.more strength.Sum l ∷ goal.compare l ∷ k) o (λ m. three (s m)))

  -- any goals and a token that is not the end of the text
  pub step_feed : is_stop t.sort ≡ false → (gs : List Goal) (o : List Node) → Sound gs → Step t (λ m next. feed t next (wider m gs) o)
  unfolding statement_at step_at limit_at
  step_feed live [] o s = no t
  step_feed live (goal.put x ∷ k) o s = step_feed live k (o ++ x ∷ []) s
  step_feed live (goal.sym x ∷ k) o s = if t (is_symbol x t.sort) (λ e. on k o s (λ m next. refl)) (λ e. no t)
  step_feed live (goal.word w ∷ k) o s = if t (is_keyword w t.sort) (λ e. on k o s (λ m next. refl)) (λ e. no t)
  step_feed live (goal.relation l ∷ k) o s = step_related l k o s
  step_feed live (goal.lead l ∷ k) o s = step_leading l k o s
  step_feed live (goal.primary l ∷ k) o s = step_begins l k o s
  step_feed live (goal.paren l ∷ k) o s = absurd (s 0)
  step_feed live (goal.more x l ∷ k) o s =
      class t (operator_at x t.sort)
      (λ b e. let g : List Goal = goal.put (node.Binary b t.offset) ∷ goal.more x l ∷ k in
      on (right x l ++ g) o
      (λ m. subst Safe (sym (right_wider x m l g)) (right_safe x (l + m) (wider m g) (s m).0 (s m)))
      (λ m next. ap (λ gs. next gs o) (sym (right_wider x m l g))))
      (λ e. step_feed live k o (λ m. (s m).1))
  step_feed live (goal.compare l ∷ k) o s =
      class t (operator_at strength.Relation t.sort)
      (λ b e. on (right strength.Relation l ++ goal.put (node.Binary b t.offset) ∷ k) o (λ m. ((s m).0, s m)) (λ m next. refl))
      (λ e. step_feed live k o (λ m. (s m).1))
  step_feed live (goal.fields ∷ k) o s =
      if t (is_symbol sign.Dot t.sort)
      (λ e. on (goal.sym sign.Open ∷ goal.bits part ∷ goal.fields ∷ k) o (λ m. ((s m).0, s m)) (λ m next. refl))
      (λ e. if t (is_symbol sign.Ampersand t.sort) (λ f. on (goal.shift ∷ goal.fields ∷ k) o s (λ m next. refl)) (λ f. step_feed live k o (λ m. (s m).1)))
  step_feed live (goal.named n p l ∷ k) o s =
      if t (is_symbol sign.Open t.sort)
      (λ e. step_paren l (goal.put (node.Index n p t.offset) ∷ k) o (λ m. (s m).1))
      (λ e. step_feed live k (o ++ node.Load n p ∷ []) (λ m. (s m).1))
  step_feed live (goal.bits u ∷ k) o s =
      class t (decimal_of t.sort) (λ a e. on (goal.sym sign.Colon ∷ goal.upto u a t.offset ∷ k) o s (λ m next. refl)) (λ e. no t)
  step_feed live (goal.upto u a p ∷ k) o s =
      class t (decimal_of t.sort)
      (λ b e. on (goal.sym sign.Close ∷ after_field u a b p k) o (λ m. used_safe u a b p m k (s m).0 (s m).1)
      (λ m next. ap (λ gs. next (goal.sym sign.Close ∷ gs) o) (sym (used_wider u a b p m k))))
      (λ e. no t)
  step_feed live (goal.shift ∷ k) o s = class t (shift_of t.sort) (λ x e. on (goal.sym sign.Open ∷ goal.count x ∷ k) o s (λ m next. refl)) (λ e. no t)
  step_feed live (goal.count x ∷ k) o s =
      class t (decimal_of t.sort) (λ b e. on (goal.sym sign.Close ∷ goal.put (node.Shift x b t.offset) ∷ k) o s (λ m next. refl)) (λ e. no t)
  step_feed live (goal.test l ∷ k) o s =
      step_related l (goal.more strength.Land l ∷ goal.more strength.Xor l ∷ goal.more strength.Lor l ∷ goal.put (node.Test t.offset) ∷ k) o
      (λ m. ((s m).0, ((s m).0, ((s m).0, s m))))
  step_feed live (goal.clauses l ∷ k) o s =
      if t (is_keyword kw.And t.sort)
      (λ e. on (goal.test l ∷ goal.clauses l ∷ k) o (λ m. ((s m).0, s m)) (λ m next. refl))
      (λ e. if t (is_keyword kw.Or t.sort)
      (λ f. on (goal.put node.Or ∷ goal.test l ∷ goal.clauses l ∷ k) o (λ m. ((s m).0, s m)) (λ m next. refl))
      (λ f. step_feed live k o (λ m. (s m).1)))
  step_feed live (goal.stmt l ∷ k) o s =
      class t (spelled_of t.sort)
      (λ n e. on (goal.target n t.offset l ∷ k) o (λ m. ((s m).0.0, (s m).1)) (λ m next. refl))
      (λ e. class t (opening_of t.sort)
      (λ x f. dig t (ap type_of (opening_is t.sort f) ∙ opener_type x) (λ l k. inner x t.offset l ++ k) (λ m l k. inner_wider x t.offset m l k) l k o
      (λ m l. inner_safe x t.offset l (wider m k) (s m).0 (s m).1))
      (λ f. step_feed live k o (λ m. (s m).1)))
  step_feed live (goal.block l ∷ k) o s =
      if t (is_symbol sign.Semicolon t.sort)
      (λ e. on (goal.stmt l ∷ goal.block l ∷ k) o (λ m. (quiet_end (completion (wider m k)), s m)) (λ m next. refl))
      (λ e. if t (is_keyword kw.End t.sort) (λ f. on k o s (λ m next. refl)) (λ f. no t))
  step_feed live (goal.otherwise l ∷ k) o s =
      if t (is_keyword kw.Else t.sort)
      (λ e. on (goal.put node.Else ∷ goal.stmt l ∷ goal.put node.Fi ∷ k) o s (λ m next. refl))
      (λ e. step_feed live k (o ++ node.Fi ∷ []) (λ m. (s m).1))
  step_feed live (goal.arms l ∷ k) o s =
      if t (is_symbol sign.Semicolon t.sort)
      (λ e. on (goal.put node.Out ∷ goal.put node.Arm ∷ goal.stmt l ∷ goal.arms l ∷ k) o
      (λ m. (quiet_end (completion (wider m k)), s m)) (λ m next. refl))
      (λ e. if t (is_keyword kw.End t.sort) (λ f. on (goal.put node.Out ∷ goal.put node.Esac ∷ k) o s (λ m next. refl)) (λ f. no t))
  step_feed live (goal.target n p l ∷ k) o s =
      if t (is_symbol sign.Open t.sort)
      (λ e. step_paren l (goal.target_at n p t.offset l ∷ k) o s)
      (λ e. if t (is_symbol sign.Dot t.sort)
      (λ f. on (goal.put (node.Fetch n p) ∷ goal.sym sign.Open ∷ goal.bits (into false n p l) ∷ k) o s (λ m next. refl))
      (λ f. if t (is_symbol sign.Becomes t.sort)
      (λ g. on (expr l ++ goal.put (node.Store n p t.offset) ∷ k) o (λ m. four (s m)) (λ m next. refl))
      (λ g. no t)))
  step_feed live (goal.target_at n p q l ∷ k) o s =
      if t (is_symbol sign.Dot t.sort)
      (λ f. on (goal.put (node.FetchAt n p q) ∷ goal.sym sign.Open ∷ goal.bits (into true n p l) ∷ k) o s (λ m next. refl))
      (λ f. if t (is_symbol sign.Becomes t.sort)
      (λ g. on (goal.put (node.Checked n p q) ∷ expr l ++ goal.put (node.StoreAt n p t.offset) ∷ k) o (λ m. four (s m)) (λ m next. refl))
      (λ g. no t))
  step_feed live (goal.becomes x n p l a b q ∷ k) o s =
      if t (is_symbol sign.Becomes t.sort)
      (λ g. on (expr l ++ goal.put (node.Deposit a b q) ∷ goal.put (store_node x n p t.offset) ∷ k) o (λ m. four (s m)) (λ m next. refl))
      (λ g. no t)
  step_feed live (goal.variable f l ∷ k) o s =
      class t (spelled_of t.sort)
      (λ n e. on (goal.sym sign.Becomes ∷ expr l ++ goal.put (node.First n t.offset f) ∷ goal.stepped n t.offset f l ∷ k) o
      (λ m. four ((quiet_until (decimal 0 0 ∷ word kw.Do 0 ∷ completion (wider m k))).0, s m))
      (λ m next. refl))
      (λ e. no t)
  step_feed live (goal.stepped n p f l ∷ k) o s =
      if t (is_keyword kw.Step t.sort)
      (λ e. on (expr l ++ goal.put (node.Step f) ∷ goal.word kw.Until ∷ goal.turns n p f l ∷ k) o
      (λ m. four ((quiet_until (decimal 0 0 ∷ word kw.Do 0 ∷ completion (wider m k))).0, s m))
      (λ m next. refl))
      (λ e. if t (is_keyword kw.Until t.sort) (λ g. on (goal.put node.One ∷ goal.turns n p f l ∷ k) o s (λ m next. refl)) (λ g. no t))
  step_feed live (goal.turns n p f l ∷ k) o s =
      let g : List Goal = goal.put (node.For n p f) ∷ goal.word kw.Do ∷ goal.stmt l ∷ goal.put (node.Next n) ∷ goal.put node.Drop ∷ k in
      step_related l (goal.more strength.Land l ∷ goal.more strength.Xor l ∷ goal.more strength.Lor l ∷ g) o
      (λ m. let h : Settled (word kw.Do 0 ∷ completion (wider m k)) = (omega arith, refl, refl) in four (h, s m))
  step_feed live (goal.declarations ∷ k) o s =
      class t (type_of t.sort)
      (λ c e. on (goal.typed c ∷ goal.declarations ∷ k) o s (λ m next. refl))
      (λ e. if t (is_keyword kw.Array t.sort)
      (λ f. on (goal.item types.Logical ∷ goal.comma true types.Logical ∷ goal.declarations ∷ k) o s (λ m next. refl))
      (λ f. step_feed live k o (λ m. (s m).1)))
  step_feed live (goal.typed c ∷ k) o s =
      if t (is_keyword kw.Array t.sort)
      (λ e. on (goal.item c ∷ goal.comma true c ∷ k) o s (λ m next. refl))
      (λ e. class t (spelled_of t.sort) (λ n f. on (goal.put (node.Simple n c t.offset) ∷ goal.comma false c ∷ k) o s (λ m next. refl)) (λ f. no t))
  step_feed live (goal.simple c ∷ k) o s = class t (spelled_of t.sort) (λ n f. on (goal.put (node.Simple n c t.offset) ∷ k) o s (λ m next. refl)) (λ f. no t)
  step_feed live (goal.comma true c ∷ k) o s =
      if t (is_symbol sign.Comma t.sort)
      (λ e. on (goal.item c ∷ goal.comma true c ∷ k) o s (λ m next. refl))
      (λ e. if t (is_symbol sign.Semicolon t.sort) (λ f. on k o s (λ m next. refl)) (λ f. no t))
  step_feed live (goal.comma false c ∷ k) o s =
      if t (is_symbol sign.Comma t.sort)
      (λ e. on (goal.simple c ∷ goal.comma false c ∷ k) o s (λ m next. refl))
      (λ e. if t (is_symbol sign.Semicolon t.sort) (λ f. on k o s (λ m next. refl)) (λ f. no t))
  step_feed live (goal.item c ∷ k) o s =
      class t (spelled_of t.sort) (λ n f. on (goal.sym sign.Open ∷ goal.low c n t.offset ∷ k) o s (λ m next. refl)) (λ f. no t)
  step_feed live (goal.low c n p ∷ k) o s =
      class t (decimal_of t.sort) (λ a e. on (goal.sym sign.Colon ∷ goal.high c n p a t.offset ∷ k) o s (λ m next. refl)) (λ e. no t)
  step_feed live (goal.high c n p a q ∷ k) o s =
      class t (decimal_of t.sort) (λ b e. on (goal.sym sign.Close ∷ goal.put (node.Array n c a b p q) ∷ k) o s (λ m next. refl)) (λ e. no t)
  step_feed live (goal.finish ∷ k) o s = if t (is_stop t.sort) (λ e. both e live) (λ e. no t)
