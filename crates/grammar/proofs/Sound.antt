-- What the machine reads is written as the grammar says. Assumes nothing.
use Rattle.std.proofs.Common.{◌≡◌, ℕ, ◌-◌, ◌<◌, Bool, true, false, cond, eqb, ◌⊎◌, List, [], ◌∷◌, ◌++◌, map, Some, None, Ok, Err, Option, sym, refl, ap, ◌∙◌, subst, inl, inr, ⊎_elim, append-nil, arith}
use borrow.Author.Tests.{eqb-false}
use Rattle.base.specs.declared.refusal.Refusal.{Refusal}
use Rattle.base.specs.Refusals.{refuse}
use Rattle.lexer.specs.declared.token.Radix.TheVariants as radix
use Rattle.lexer.specs.declared.token.Keyword.{Keyword}
use Rattle.lexer.specs.declared.token.Keyword.TheVariants as kw
use Rattle.lexer.specs.declared.token.Symbol.{Symbol}
use Rattle.lexer.specs.declared.token.Symbol.TheVariants as sign
use Rattle.parser.specs.declared.lexeme.Strength.TheVariants as strength
use Rattle.parser.specs.declared.lexeme.Opening.{Opening}
use Rattle.parser.specs.declared.lexeme.Opening.TheVariants as opening
use Rattle.parser.specs.Nodes.{Node}
use Rattle.parser.specs.Nodes as node
use Rattle.parser.specs.Marks.{Mark, Tok, piece_tok, is_stop, is_symbol, is_keyword, literal_of, type_of, spelled_of, decimal_of, shift_of, opening_of, opening_word, operator_at}
use Rattle.parser.specs.Marks as mark
use Rattle.parser.specs.Machine.{Goal, Onward, ParseAnswer, feed, expr, condition, inner, statement_at, step_at, limit_at, declaration_goal, parenthesis, begins, first_term, relation_at, deeper, ending, Use, part, into, after_field}
use Rattle.parser.specs.Machine as goal
use Rattle.lexer.specs.Cut.{Piece}
use Rattle.ast.specs.Trees.{Program}
use Rattle.ast.specs.Lists.{list_b, list_ds, list}
use Rattle.grammar.specs.Grammar.{ProgramWritten, ListWritten, tok_at, symbol, word, name, decimal, Rank, lor, xor, land, relation, sum, term, factor, primary, Chain, lor_xor, xor_land, land_relation, relation_sum, sum_term, term_factor, factor_primary, lors, xors, lands, sums, terms}
use Rattle.grammar.specs.Grammar as rule
use Rattle.grammar.proofs.Marks.{seen_live, both, symbol_is, keyword_is}
use Rattle.grammar.proofs.Runs.{run, onto}
use Rattle.grammar.proofs.Complete.{program_at}
use Rattle.grammar.proofs.Means.{Sym, Word, Ex, Cont, Fields, Paren, Becomes, Used, Upto, Bits, Count, Clauses, St, In, Block, ArmsOf, Otherwise, TargetAt, Stepped, Item, Comma, High, Low, All}
use Rattle.grammar.proofs.Grows as grow

-- a refusal is no list
never : {A : Type 0} {r : Refusal} {es : List Node} → ◌≡◌ {A = ParseAnswer} (Err r) (Ok es) → A
never h = absurd cc

-- which way a test went
pub ways : (b : Bool) (x y : ParseAnswer) {es : List Node} → cond b x y ≡ Ok es → ((b ≡ true) × (x ≡ Ok es)) ⊎ ((b ≡ false) × (y ≡ Ok es))
ways true x y h = inl (refl, h)
ways false x y h = inr (refl, h)

pub only : (b : Bool) (x : ParseAnswer) (r : Refusal) {es : List Node} → cond b x (Err r) ≡ Ok es → (b ≡ true) × (x ≡ Ok es)
only true x r h = (refl, h)
only false x r h = never h

pub options : {A : Type 0} (x : Option A) (f : A → ParseAnswer) (y : ParseAnswer) {es : List Node} → ◌≡◌ {A = ParseAnswer} (elim x [ Some a ↦ f a | None ↦ y ]) (Ok es) → ((a : A) × (x ≡ Some a) × (f a ≡ Ok es)) ⊎ ((x ≡ None) × (y ≡ Ok es))
options (Some a) f y h = inl (a, refl, h)
options None f y h = inr (refl, h)

pub some : {A : Type 0} (x : Option A) (f : A → ParseAnswer) (r : Refusal) {es : List Node} → ◌≡◌ {A = ParseAnswer} (elim x [ Some a ↦ f a | None ↦ Err r ]) (Ok es) → (a : A) × (x ≡ Some a) × (f a ≡ Ok es)
some (Some a) f r h = (a, refl, h)
some None f r h = never h

-- the nodes that are added, and what they mean
pub record Adds (P : List Node → Type 0) (o es : List Node) : Type 0 where
  pub rest : List Node
  pub is : es ≡ o ++ rest
  pub means : P rest

then_adds : {P Q : List Node → Type 0} {o es : List Node} → ((r : List Node) → P r → Q r) → Adds P o es → Adds Q o es
then_adds f x = record { rest = x.rest; is = x.is; means = f x.rest x.means }

puts_adds : {P : List Node → Type 0} (Q : List Node → Type 0) (y : Node) {o es : List Node} → ((r : List Node) → P r → Q (y ∷ r)) → Adds P (o ++ y ∷ []) es → Adds Q o es
puts_adds Q y {o} f x = record { rest = y ∷ x.rest; is = x.is ∙ onto o y x.rest; means = f x.rest x.means }

-- names and numbers
spelled_is : (m : Mark) {n : List ℕ} → spelled_of m ≡ Some n → m ≡ mark.name n
spelled_is (mark.name x) h = ap mark.name (let e : x ≡ _ = cc in e)
spelled_is (mark.keyword w) h = absurd cc
spelled_is (mark.symbol s) h = absurd cc
spelled_is (mark.number k v) h = absurd cc
spelled_is mark.stop h = absurd cc

decimal_is : (m : Mark) {v : ℕ} → decimal_of m ≡ Some v → m ≡ mark.number radix.Decimal v
decimal_is (mark.number radix.Decimal x) {v} h = ap (mark.number radix.Decimal) (let e : x ≡ v = cc in e)
decimal_is (mark.number radix.Octal x) h = absurd cc
decimal_is (mark.name x) h = absurd cc
decimal_is (mark.keyword w) h = absurd cc
decimal_is (mark.symbol s) h = absurd cc
decimal_is mark.stop h = absurd cc

-- the reserved word of each opening
abbrev pub opener : Opening → Keyword
opener opening.Block = kw.Begin
opener opening.Conditional = kw.If
opener opening.Choice = kw.Case
opener opening.While = kw.While
opener opening.Do = kw.Do
opener opening.For = kw.For

opener_is : (w : Keyword) {x : Opening} → opening_word w ≡ Some x → w ≡ opener x
opener_is kw.Begin {x} h = ap opener (let e : opening.Block ≡ x = cc in e)
opener_is kw.End h = absurd cc
opener_is kw.Integer h = absurd cc
opener_is kw.Logical h = absurd cc
opener_is kw.Array h = absurd cc
opener_is kw.If {x} h = ap opener (let e : opening.Conditional ≡ x = cc in e)
opener_is kw.Then h = absurd cc
opener_is kw.Else h = absurd cc
opener_is kw.Case {x} h = ap opener (let e : opening.Choice ≡ x = cc in e)
opener_is kw.Of h = absurd cc
opener_is kw.While {x} h = ap opener (let e : opening.While ≡ x = cc in e)
opener_is kw.Do {x} h = ap opener (let e : opening.Do ≡ x = cc in e)
opener_is kw.Until h = absurd cc
opener_is kw.For {x} h = ap opener (let e : opening.For ≡ x = cc in e)
opener_is kw.Step h = absurd cc
opener_is kw.Or h = absurd cc
opener_is kw.And h = absurd cc
opener_is kw.Mod h = absurd cc
opener_is kw.Lnot h = absurd cc
opener_is kw.Land h = absurd cc
opener_is kw.Xor h = absurd cc
opener_is kw.Lor h = absurd cc
opener_is kw.Lsl h = absurd cc
opener_is kw.Lsr h = absurd cc
opener_is kw.Asr h = absurd cc
opener_is kw.Csl h = absurd cc
opener_is kw.Csr h = absurd cc
opener_is kw.True h = absurd cc
opener_is kw.False h = absurd cc
opener_is kw.Comment h = absurd cc

pub opening_is : (m : Mark) {x : Opening} → opening_of m ≡ Some x → m ≡ mark.keyword (opener x)
opening_is (mark.keyword w) h = ap mark.keyword (opener_is w h)
opening_is (mark.name x) h = absurd cc
opening_is (mark.symbol s) h = absurd cc
opening_is (mark.number k v) h = absurd cc
opening_is mark.stop h = absurd cc

in_opening : (x : Opening) (p l : ℕ) (k : List Goal) (ts : List Tok) (r : List Node) → All (inner x p l ++ k) ts r → In (opener x) p l (All k) ts r
in_opening opening.Block p l k ts r y = grow.in_block y
in_opening opening.Conditional p l k ts r y = grow.in_if y
in_opening opening.Choice p l k ts r y = grow.in_case (grow.whole y)
in_opening opening.While p l k ts r y = grow.in_while y
in_opening opening.Do p l k ts r y = grow.in_do y
in_opening opening.For p l k ts r y = y

used_all : (u : Use) (a b p : ℕ) (k : List Goal) (ts : List Tok) (r : List Node) → All (after_field u a b p k) ts r → Used u a b p (All k) ts r
used_all part a b p k ts r x = x
used_all (into s n q l) a b p k ts r x = x

-- one token t, and then what is known of the tokens ts behind it
module _ (t : Tok) (next : Onward) (ts : List Tok) (on : (gs : List Goal) (o es : List Node) → next gs o ≡ Ok es → Adds (All gs ts) o es) where
  deep : (l : ℕ) (x : ParseAnswer) {es : List Node} → deeper t l x ≡ Ok es → (0 < l) × (x ≡ Ok es)
  deep l x h = go (eqb l 0) refl h
    where
      go : (b : Bool) → eqb l 0 ≡ b → {es : List Node} → cond b (refuse 6 t.offset) x ≡ Ok es → (0 < l) × (x ≡ Ok es)
      go true e h = never h
      go false e h = (omega (arith, eqb-false l 0 e), h)

  -- a token that is a symbol, a reserved word, a name
  symbol_there : (P : List Tok → Type 0) (s : Symbol) → is_symbol s t.sort ≡ true → P (symbol s t.offset ∷ ts) → P (t ∷ ts)
  symbol_there P s e h = subst (λ m. P (tok_at m t.offset ∷ ts)) (sym (symbol_is s t.sort e)) h

  keyword_there : (P : List Tok → Type 0) (w : Keyword) → is_keyword w t.sort ≡ true → P (word w t.offset ∷ ts) → P (t ∷ ts)
  keyword_there P w e h = subst (λ m. P (tok_at m t.offset ∷ ts)) (sym (keyword_is w t.sort e)) h

  is_name : (P : List Tok → Type 0) {n : List ℕ} → spelled_of t.sort ≡ Some n → P (name n t.offset ∷ ts) → P (t ∷ ts)
  is_name P e h = subst (λ m. P (tok_at m t.offset ∷ ts)) (sym (spelled_is t.sort e)) h

  is_decimal : (P : List Tok → Type 0) {v : ℕ} → decimal_of t.sort ≡ Some v → P (decimal v t.offset ∷ ts) → P (t ∷ ts)
  is_decimal P e h = subst (λ m. P (tok_at m t.offset ∷ ts)) (sym (decimal_is t.sort e)) h

  sound_paren : (l : ℕ) (k : List Goal) (o es : List Node) → parenthesis t next l k o ≡ Ok es → (is_symbol sign.Open t.sort ≡ true) × (0 < l) × Adds (Ex lor (l - 1) (Sym sign.Close (All k)) ts) o es
  sound_paren l k o es h =
      let a = only (is_symbol sign.Open t.sort) _ _ h in
      let b = deep l _ a.1 in
      (a.0, b.0, then_adds (λ r x. grow.whole x) (on _ o es b.1))

  sound_begins : (l : ℕ) (k : List Goal) (o es : List Node) → begins t next l k o ≡ Ok es → Adds (Ex primary l (All k) (t ∷ ts)) o es
  sound_begins l k o es h =
      ⊎_elim
      (λ a. then_adds (λ r x. grow.literal a.1 x) (on _ o es a.2))
      (λ a. ⊎_elim
      (λ b. then_adds (λ r x. grow.converted b.1 x) (on _ o es b.2))
      (λ b. ⊎_elim
      (λ c. then_adds (λ r x. is_name (λ us. Ex primary l (All k) us r) c.1 x) (on _ o es c.2))
      (λ c. let d = sound_paren l k o es c.1 in then_adds (λ r x. symbol_there (λ us. Ex primary l (All k) us r) sign.Open d.0 (grow.enclosed d.1 x)) d.2)
      (options (spelled_of t.sort) _ _ b.1))
      (options (type_of t.sort) _ _ a.1))
      (options (literal_of t.sort) _ _ h)

  sound_leading : (l : ℕ) (k : List Goal) (o es : List Node) → first_term t next l k o ≡ Ok es → Adds (Ex sum l (All k) (t ∷ ts)) o es
  sound_leading l k o es h =
      ⊎_elim
      (λ a. then_adds (λ r x. symbol_there (λ us. Ex sum l (All k) us r) sign.Minus a.0 (grow.negated (grow.climb term_factor (grow.fielded x)))) (on _ o es a.1))
      (λ a. then_adds (λ r x. to_sum r x) (sound_begins l (goal.fields ∷ goal.more strength.Term l ∷ k) o es a.1))
      (ways (is_symbol sign.Minus t.sort) _ _ h)
    where
      to_sum : (r : List Node) → Ex primary l (Fields (Cont term term l (All k))) (t ∷ ts) r → Ex sum l (All k) (t ∷ ts) r
      to_sum r x = grow.recast (λ x. x) (λ e. e) (λ e us v. rule.up sum_term v) (λ e r. refl) (grow.climb term_factor (grow.fielded x))

  sound_related : (l : ℕ) (k : List Goal) (o es : List Node) → relation_at t next l k o ≡ Ok es → Adds (Ex relation l (All k) (t ∷ ts)) o es
  sound_related l k o es h =
      ⊎_elim
      (λ a. let b = deep l _ a.1 in then_adds (λ r x. keyword_there (λ us. Ex relation l (All k) us r) kw.Lnot a.0 (grow.inverted b.0 x)) (on _ o es b.1))
      (λ a. then_adds (λ r x. grow.apply (grow.apply x)) (sound_leading l (goal.more strength.Sum l ∷ goal.compare l ∷ k) o es a.1))
      (ways (is_keyword kw.Lnot t.sort) _ _ h)

  pub sound_feed : is_stop t.sort ≡ false → (gs : List Goal) (o es : List Node) → feed t next gs o ≡ Ok es → Adds (All gs (t ∷ ts)) o es
  unfolding statement_at step_at limit_at
  sound_feed live [] o es h = never h
  sound_feed live (goal.put e ∷ k) o es h = puts_adds (All (goal.put e ∷ k) (t ∷ ts)) e (λ r x. record { left = r; entries = refl; below = x }) (sound_feed live k (o ++ e ∷ []) es h)
  sound_feed live (goal.sym s ∷ k) o es h =
      let a = only (is_symbol s t.sort) _ _ h in
      then_adds (λ r x. symbol_there (λ us. Sym s (All k) us r) s a.0 record { offset = t.offset; behind = ts; tokens = refl; below = x }) (on k o es a.1)
  sound_feed live (goal.word w ∷ k) o es h =
      let a = only (is_keyword w t.sort) _ _ h in
      then_adds (λ r x. keyword_there (λ us. Word w (All k) us r) w a.0 record { offset = t.offset; behind = ts; tokens = refl; below = x }) (on k o es a.1)
  sound_feed live (goal.relation l ∷ k) o es h = sound_related l k o es h
  sound_feed live (goal.lead l ∷ k) o es h = sound_leading l k o es h
  sound_feed live (goal.primary l ∷ k) o es h = sound_begins l k o es h
  sound_feed live (goal.paren l ∷ k) o es h =
      let a = sound_paren l k o es h in
      then_adds (λ r x. symbol_there (λ us. Paren l (All k) us r) sign.Open a.0 (a.1, record { offset = t.offset; behind = ts; tokens = refl; below = x })) a.2
  sound_feed live (goal.more strength.Lor l ∷ k) o es h =
      ⊎_elim
      (λ a. then_adds (λ r x. grow.operated lors a.1 (grow.climb xor_land (grow.climb land_relation x))) (on _ o es a.2))
      (λ a. then_adds (λ r x. grow.none (All k) (t ∷ ts) r x) (sound_feed live k o es a.1))
      (options (operator_at strength.Lor t.sort) _ _ h)
  sound_feed live (goal.more strength.Xor l ∷ k) o es h =
      ⊎_elim
      (λ a. then_adds (λ r x. grow.operated xors a.1 (grow.climb land_relation x)) (on _ o es a.2))
      (λ a. then_adds (λ r x. grow.none (All k) (t ∷ ts) r x) (sound_feed live k o es a.1))
      (options (operator_at strength.Xor t.sort) _ _ h)
  sound_feed live (goal.more strength.Land l ∷ k) o es h =
      ⊎_elim
      (λ a. then_adds (λ r x. grow.operated lands a.1 x) (on _ o es a.2))
      (λ a. then_adds (λ r x. grow.none (All k) (t ∷ ts) r x) (sound_feed live k o es a.1))
      (options (operator_at strength.Land t.sort) _ _ h)
  sound_feed live (goal.more strength.Relation l ∷ k) o es h =
      ⊎_elim
      (λ a. then_adds (λ r x. tt) (on _ o es a.2))
      (λ a. then_adds (λ r x. tt) (sound_feed live k o es a.1))
      (options (operator_at strength.Relation t.sort) _ _ h)
  sound_feed live (goal.more strength.Sum l ∷ k) o es h =
      ⊎_elim
      (λ a. then_adds (λ r x. grow.operated sums a.1 (grow.climb term_factor (grow.fielded x))) (on _ o es a.2))
      (λ a. then_adds (λ r x. grow.none (All k) (t ∷ ts) r x) (sound_feed live k o es a.1))
      (options (operator_at strength.Sum t.sort) _ _ h)
  sound_feed live (goal.more strength.Term l ∷ k) o es h =
      ⊎_elim
      (λ a. then_adds (λ r x. grow.operated terms a.1 (grow.fielded x)) (on _ o es a.2))
      (λ a. then_adds (λ r x. grow.none (All k) (t ∷ ts) r x) (sound_feed live k o es a.1))
      (options (operator_at strength.Term t.sort) _ _ h)
  sound_feed live (goal.compare l ∷ k) o es h =
      ⊎_elim
      (λ a. then_adds (λ r x. grow.compared a.1 (grow.apply x)) (on _ o es a.2))
      (λ a. then_adds (λ r x. grow.none_compared (All k) (t ∷ ts) r x) (sound_feed live k o es a.1))
      (options (operator_at strength.Relation t.sort) _ _ h)
  sound_feed live (goal.fields ∷ k) o es h =
      ⊎_elim
      (λ a. then_adds (λ r x. symbol_there (λ us. Fields (All k) us r) sign.Dot a.0 (grow.in_field x)) (on _ o es a.1))
      (λ a. ⊎_elim
      (λ b. then_adds (λ r x. symbol_there (λ us. Fields (All k) us r) sign.Ampersand b.0 (grow.shifted x)) (on _ o es b.1))
      (λ b. then_adds (λ r x. grow.none_fielded (All k) (t ∷ ts) r x) (sound_feed live k o es b.1))
      (ways (is_symbol sign.Ampersand t.sort) _ _ a.1))
      (ways (is_symbol sign.Dot t.sort) _ _ h)
  sound_feed live (goal.named n p l ∷ k) o es h =
      ⊎_elim
      (λ a. let b = sound_paren l (goal.put (node.Index n p t.offset) ∷ k) o es a.1 in then_adds (λ r x. symbol_there (λ us. Ex primary l (All k) (name n p ∷ us) r) sign.Open a.0 (grow.indexed b.1 x)) b.2)
      (λ a. puts_adds (All (goal.named n p l ∷ k) (t ∷ ts)) (node.Load n p) (λ r x. grow.loaded x) (sound_feed live k (o ++ node.Load n p ∷ []) es a.1))
      (ways (is_symbol sign.Open t.sort) _ _ h)
  sound_feed live (goal.bits u ∷ k) o es h =
      let a = some (decimal_of t.sort) _ _ h in
      then_adds (λ r x. is_decimal (λ us. Bits u (All k) us r) a.1 record { value = a.0; offset = t.offset; behind = ts; tokens = refl; below = x }) (on _ o es a.2)
  sound_feed live (goal.upto u c p ∷ k) o es h =
      let a = some (decimal_of t.sort) _ _ h in
      then_adds
      (λ r x. is_decimal (λ us. Upto u c p (All k) us r) a.1 record { value = a.0; offset = t.offset; behind = ts; tokens = refl; below = record { offset = x.offset; behind = x.behind; tokens = x.tokens; below = used_all u c a.0 p k x.behind r x.below } })
      (on (goal.sym sign.Close ∷ after_field u c a.0 p k) o es a.2)
  sound_feed live (goal.shift ∷ k) o es h =
      let a = some (shift_of t.sort) _ _ h in
      then_adds (λ r x. record { mark = t.sort; offset = t.offset; kind = a.0; behind = ts; is = a.1; tokens = refl; below = x }) (on (goal.sym sign.Open ∷ goal.count a.0 ∷ k) o es a.2)
  sound_feed live (goal.count s ∷ k) o es h =
      let a = some (decimal_of t.sort) _ _ h in
      then_adds (λ r x. is_decimal (λ us. Count s (All k) us r) a.1 record { value = a.0; offset = t.offset; behind = ts; tokens = refl; below = x }) (on _ o es a.2)
  sound_feed live (goal.test l ∷ k) o es h =
      then_adds (λ r x. record { first = t; behind = ts; tokens = refl; below = grow.whole x })
      (sound_related l (goal.more strength.Land l ∷ goal.more strength.Xor l ∷ goal.more strength.Lor l ∷ goal.put (node.Test t.offset) ∷ k) o es h)
  sound_feed live (goal.clauses l ∷ k) o es h =
      ⊎_elim
      (λ a. then_adds (λ r x. keyword_there (λ us. Clauses l (All k) us r) kw.And a.0 (grow.and_step x)) (on _ o es a.1))
      (λ a. ⊎_elim
      (λ b. then_adds (λ r x. keyword_there (λ us. Clauses l (All k) us r) kw.Or b.0 (grow.or_step x)) (on _ o es b.1))
      (λ b. then_adds (λ r x. grow.none_clauses l (All k) (t ∷ ts) r x) (sound_feed live k o es b.1))
      (ways (is_keyword kw.Or t.sort) _ _ a.1))
      (ways (is_keyword kw.And t.sort) _ _ h)
  sound_feed live (goal.stmt l ∷ k) o es h =
      ⊎_elim
      (λ a. then_adds (λ r x. is_name (λ us. St l (All k) us r) a.1 x) (on _ o es a.2))
      (λ a. ⊎_elim
      (λ b. let c = deep l _ b.2 in
      then_adds (λ r x. subst (λ m. St l (All k) (tok_at m t.offset ∷ ts) r) (sym (opening_is t.sort b.1)) (grow.opened c.0 (in_opening b.0 t.offset (l - 1) k ts r x)))
      (on (inner b.0 t.offset (l - 1) ++ k) o es c.1))
      (λ b. then_adds (λ r x. grow.empty (All k) (t ∷ ts) r x) (sound_feed live k o es b.1))
      (options (opening_of t.sort) _ _ a.1))
      (options (spelled_of t.sort) _ _ h)
  sound_feed live (goal.block l ∷ k) o es h =
      ⊎_elim
      (λ a. then_adds (λ r x. symbol_there (λ us. Block l (All k) us r) sign.Semicolon a.0 (grow.block_next x)) (on _ o es a.1))
      (λ a. let b = only (is_keyword kw.End t.sort) _ _ a.1 in then_adds (λ r x. keyword_there (λ us. Block l (All k) us r) kw.End b.0 (grow.block_end (All k) ts r x)) (on k o es b.1))
      (ways (is_symbol sign.Semicolon t.sort) _ _ h)
  sound_feed live (goal.otherwise l ∷ k) o es h =
      ⊎_elim
      (λ a. then_adds (λ r x. keyword_there (λ us. Otherwise l (All k) us r) kw.Else a.0 (grow.else_step x)) (on _ o es a.1))
      (λ a. puts_adds (All (goal.otherwise l ∷ k) (t ∷ ts)) node.Fi (λ r x. grow.else_none (All k) (t ∷ ts) r a.0 x) (sound_feed live k (o ++ node.Fi ∷ []) es a.1))
      (ways (is_keyword kw.Else t.sort) _ _ h)
  sound_feed live (goal.arms l ∷ k) o es h =
      ⊎_elim
      (λ a. then_adds (λ r x. symbol_there (λ us. ArmsOf l (All k) us r) sign.Semicolon a.0 (grow.arm_next x)) (on _ o es a.1))
      (λ a. let b = only (is_keyword kw.End t.sort) _ _ a.1 in then_adds (λ r x. keyword_there (λ us. ArmsOf l (All k) us r) kw.End b.0 (grow.arm_end x)) (on _ o es b.1))
      (ways (is_symbol sign.Semicolon t.sort) _ _ h)
  sound_feed live (goal.target n p l ∷ k) o es h =
      ⊎_elim
      (λ a. let b = sound_paren l (goal.target_at n p t.offset l ∷ k) o es a.1 in then_adds (λ r x. symbol_there (λ us. St l (All k) (name n p ∷ us) r) sign.Open a.0 (grow.targeted b.1 x)) b.2)
      (λ a. ⊎_elim
      (λ b. then_adds (λ r x. symbol_there (λ us. St l (All k) (name n p ∷ us) r) sign.Dot b.0 (grow.deposited x)) (on _ o es b.1))
      (λ b. let c = only (is_symbol sign.Becomes t.sort) _ _ b.1 in
      then_adds (λ r x. symbol_there (λ us. St l (All k) (name n p ∷ us) r) sign.Becomes c.0 (grow.assigned (grow.whole x))) (on _ o es c.1))
      (ways (is_symbol sign.Dot t.sort) _ _ a.1))
      (ways (is_symbol sign.Open t.sort) _ _ h)
  sound_feed live (goal.target_at n p q l ∷ k) o es h =
      ⊎_elim
      (λ b. then_adds (λ r x. symbol_there (λ us. TargetAt n p q l (All k) us r) sign.Dot b.0 (grow.deposited_at x)) (on _ o es b.1))
      (λ b. let c = only (is_symbol sign.Becomes t.sort) _ _ b.1 in
      then_adds (λ r x. symbol_there (λ us. TargetAt n p q l (All k) us r) sign.Becomes c.0 (grow.assigned_at record { left = x.left; entries = x.entries; below = grow.whole x.below })) (on _ o es c.1))
      (ways (is_symbol sign.Dot t.sort) _ _ h)
  sound_feed live (goal.becomes s n p l a b q ∷ k) o es h =
      let c = only (is_symbol sign.Becomes t.sort) _ _ h in
      then_adds (λ r x. symbol_there (λ us. Becomes s n p l a b q (All k) us r) sign.Becomes c.0 record { offset = t.offset; behind = ts; tokens = refl; below = grow.whole x }) (on _ o es c.1)
  sound_feed live (goal.variable f l ∷ k) o es h =
      let a = some (spelled_of t.sort) _ _ h in
      then_adds (λ r x. is_name (λ us. In kw.For f l (All k) us r) a.1 (grow.in_for record { offset = x.offset; behind = x.behind; tokens = x.tokens; below = grow.whole x.below })) (on _ o es a.2)
  sound_feed live (goal.stepped n p f l ∷ k) o es h =
      ⊎_elim
      (λ a. then_adds (λ r x. keyword_there (λ us. Stepped n p f l (All k) us r) kw.Step a.0 (grow.stepped_by (grow.whole x))) (on _ o es a.1))
      (λ a. let b = only (is_keyword kw.Until t.sort) _ _ a.1 in then_adds (λ r x. keyword_there (λ us. Stepped n p f l (All k) us r) kw.Until b.0 (grow.stepped_one x)) (on _ o es b.1))
      (ways (is_keyword kw.Step t.sort) _ _ h)
  sound_feed live (goal.turns n p f l ∷ k) o es h = then_adds (λ r x. grow.whole x) (sound_related l _ o es h)
  sound_feed live (goal.declarations ∷ k) o es h =
      ⊎_elim
      (λ a. then_adds (λ r x. grow.declared_typed a.1 x) (on _ o es a.2))
      (λ a. ⊎_elim
      (λ b. then_adds (λ r x. keyword_there (λ us. All (goal.declarations ∷ k) us r) kw.Array b.0 (grow.declared_untyped x)) (on _ o es b.1))
      (λ b. then_adds (λ r x. grow.declared_none (All k) (t ∷ ts) r x) (sound_feed live k o es b.1))
      (ways (is_keyword kw.Array t.sort) _ _ a.1))
      (options (type_of t.sort) _ _ h)
  sound_feed live (goal.typed c ∷ k) o es h =
      ⊎_elim
      (λ a. then_adds (λ r x. keyword_there (λ us. All (goal.typed c ∷ k) us r) kw.Array a.0 (grow.typed_arrays x)) (on _ o es a.1))
      (λ a. let b = some (spelled_of t.sort) _ _ a.1 in then_adds (λ r x. is_name (λ us. All (goal.typed c ∷ k) us r) b.1 (grow.typed_names (grow.simply x))) (on _ o es b.2))
      (ways (is_keyword kw.Array t.sort) _ _ h)
  sound_feed live (goal.simple c ∷ k) o es h =
      let b = some (spelled_of t.sort) _ _ h in
      then_adds (λ r x. is_name (λ us. Item false c (All k) us r) b.1 (grow.simply x)) (on _ o es b.2)
  sound_feed live (goal.comma true c ∷ k) o es h =
      ⊎_elim
      (λ a. then_adds (λ r x. symbol_there (λ us. Comma true c (All k) us r) sign.Comma a.0 (grow.comma_next x)) (on _ o es a.1))
      (λ a. let b = only (is_symbol sign.Semicolon t.sort) _ _ a.1 in then_adds (λ r x. symbol_there (λ us. Comma true c (All k) us r) sign.Semicolon b.0 (grow.comma_end (All k) ts r x)) (on k o es b.1))
      (ways (is_symbol sign.Comma t.sort) _ _ h)
  sound_feed live (goal.comma false c ∷ k) o es h =
      ⊎_elim
      (λ a. then_adds (λ r x. symbol_there (λ us. Comma false c (All k) us r) sign.Comma a.0 (grow.comma_next x)) (on _ o es a.1))
      (λ a. let b = only (is_symbol sign.Semicolon t.sort) _ _ a.1 in then_adds (λ r x. symbol_there (λ us. Comma false c (All k) us r) sign.Semicolon b.0 (grow.comma_end (All k) ts r x)) (on k o es b.1))
      (ways (is_symbol sign.Comma t.sort) _ _ h)
  sound_feed live (goal.item c ∷ k) o es h =
      let b = some (spelled_of t.sort) _ _ h in
      then_adds (λ r x. is_name (λ us. Item true c (All k) us r) b.1 (grow.arrayed x)) (on _ o es b.2)
  sound_feed live (goal.low c n p ∷ k) o es h =
      let a = some (decimal_of t.sort) _ _ h in
      then_adds (λ r x. is_decimal (λ us. Low c n p (All k) us r) a.1 record { value = a.0; offset = t.offset; behind = ts; tokens = refl; below = x }) (on _ o es a.2)
  sound_feed live (goal.high c n p b q ∷ k) o es h =
      let a = some (decimal_of t.sort) _ _ h in
      then_adds (λ r x. is_decimal (λ us. High c n p b q (All k) us r) a.1 record { value = a.0; offset = t.offset; behind = ts; tokens = refl; below = x }) (on _ o es a.2)
  sound_feed live (goal.finish ∷ k) o es h = both (only (is_stop t.sort) _ _ h).0 live

-- the end of the text
sound_end : (end : ℕ) (gs : List Goal) (o es : List Node) → run end [] gs o ≡ Ok es → Adds (All gs []) o es
unfolding statement_at step_at limit_at
sound_end end [] o es h = never h
sound_end end (goal.put e ∷ k) o es h = puts_adds (All (goal.put e ∷ k) []) e (λ r x. record { left = r; entries = refl; below = x }) (sound_end end k (o ++ e ∷ []) es h)
sound_end end (goal.sym s ∷ k) o es h = never h
sound_end end (goal.word w ∷ k) o es h = never h
sound_end end (goal.relation l ∷ k) o es h = never h
sound_end end (goal.lead l ∷ k) o es h = never h
sound_end end (goal.primary l ∷ k) o es h = never h
sound_end end (goal.paren l ∷ k) o es h = never h
sound_end end (goal.more strength.Lor l ∷ k) o es h = then_adds (λ r x. grow.none (All k) [] r x) (sound_end end k o es h)
sound_end end (goal.more strength.Xor l ∷ k) o es h = then_adds (λ r x. grow.none (All k) [] r x) (sound_end end k o es h)
sound_end end (goal.more strength.Land l ∷ k) o es h = then_adds (λ r x. grow.none (All k) [] r x) (sound_end end k o es h)
sound_end end (goal.more strength.Relation l ∷ k) o es h = then_adds (λ r x. tt) (sound_end end k o es h)
sound_end end (goal.more strength.Sum l ∷ k) o es h = then_adds (λ r x. grow.none (All k) [] r x) (sound_end end k o es h)
sound_end end (goal.more strength.Term l ∷ k) o es h = then_adds (λ r x. grow.none (All k) [] r x) (sound_end end k o es h)
sound_end end (goal.compare l ∷ k) o es h = then_adds (λ r x. grow.none_compared (All k) [] r x) (sound_end end k o es h)
sound_end end (goal.fields ∷ k) o es h = then_adds (λ r x. grow.none_fielded (All k) [] r x) (sound_end end k o es h)
sound_end end (goal.named n p l ∷ k) o es h = puts_adds (All (goal.named n p l ∷ k) []) (node.Load n p) (λ r x. grow.loaded x) (sound_end end k (o ++ node.Load n p ∷ []) es h)
sound_end end (goal.bits u ∷ k) o es h = never h
sound_end end (goal.upto u a p ∷ k) o es h = never h
sound_end end (goal.shift ∷ k) o es h = never h
sound_end end (goal.count s ∷ k) o es h = never h
sound_end end (goal.test l ∷ k) o es h = never h
sound_end end (goal.clauses l ∷ k) o es h = then_adds (λ r x. grow.none_clauses l (All k) [] r x) (sound_end end k o es h)
sound_end end (goal.stmt l ∷ k) o es h = then_adds (λ r x. grow.empty (All k) [] r x) (sound_end end k o es h)
sound_end end (goal.block l ∷ k) o es h = never h
sound_end end (goal.otherwise l ∷ k) o es h = puts_adds (All (goal.otherwise l ∷ k) []) node.Fi (λ r x. grow.else_none (All k) [] r tt x) (sound_end end k (o ++ node.Fi ∷ []) es h)
sound_end end (goal.arms l ∷ k) o es h = never h
sound_end end (goal.target n p l ∷ k) o es h = never h
sound_end end (goal.target_at n p q l ∷ k) o es h = never h
sound_end end (goal.becomes s n p l a b q ∷ k) o es h = never h
sound_end end (goal.variable f l ∷ k) o es h = never h
sound_end end (goal.stepped n p f l ∷ k) o es h = never h
sound_end end (goal.turns n p f l ∷ k) o es h = never h
sound_end end (goal.declarations ∷ k) o es h = then_adds (λ r x. grow.declared_none (All k) [] r x) (sound_end end k o es h)
sound_end end (goal.typed c ∷ k) o es h = never h
sound_end end (goal.simple c ∷ k) o es h = never h
sound_end end (goal.comma a c ∷ k) o es h = never h
sound_end end (goal.item c ∷ k) o es h = never h
sound_end end (goal.low c n p ∷ k) o es h = never h
sound_end end (goal.high c n p a q ∷ k) o es h = never h
sound_end end (goal.finish ∷ k) o es h = record { rest = []; is = (let e : es ≡ o = cc in e) ∙ sym (append-nil o); means = (refl, refl) }

-- tokens none of which is the end of a text
abbrev pub Alive : List Tok → Type 0
Alive [] = Unit {0}
Alive (t ∷ ts) = (is_stop t.sort ≡ false) × Alive ts

pub seen_alive : (ps : List Piece) → Alive (map piece_tok ps)
seen_alive [] = tt
seen_alive (p ∷ ps) = (seen_live p, seen_alive ps)

pub sound : (end : ℕ) (ts : List Tok) → Alive ts → (gs : List Goal) (o es : List Node) → run end ts gs o ≡ Ok es → Adds (All gs ts) o es
sound end [] a gs o es h = sound_end end gs o es h
sound end (t ∷ ts) a gs o es h = sound_feed t (run end ts) ts (λ gs o es h. sound end ts a.1 gs o es h) a.0 gs o es h

-- a whole program
pub program_sound : (end l : ℕ) → 0 < l → (ts : List Tok) → Alive ts → (es : List Node) → run end ts (program_at l) [] ≡ Ok es → (p : Program) × ProgramWritten l p ts × (list p ≡ es)
unfolding list
program_sound end l g ts a es h =
    let x = sound end ts a (program_at l) [] es h in
    let b = x.means in
    let d = b.below in
    let y = grow.then_take (grow.listed d.below) in
    let z = y.below in (
      record { decls = d.what; body = y.what },
      subst (λ v. ProgramWritten l record { decls = d.what; body = y.what } v) (sym b.tokens) (rule.program g d.written (subst (λ v. ListWritten (l - 1) y.what d.behind (word kw.End y.written.1.0 ∷ symbol sign.Dot y.written.0 ∷ v)) z.0 y.written.1.1)),
      sym (x.is ∙ d.entries ∙ ap (list_ds d.what) (y.entries ∙ ap (list_b y.what) z.1)),
    )
