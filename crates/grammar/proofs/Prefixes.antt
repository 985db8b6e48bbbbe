-- Where the machine refuses, in the grammar's words. Assumes nothing.
use Rattle.std.proofs.Common.{◌≡◌, ℕ, ◌+◌, ◌-◌, ◌<◌, cond, ◌⊎◌, List, [], ◌∷◌, ◌++◌, map, Some, None, Ok, Err, sym, refl, ap, ◌∙◌, subst, inl, inr, ⊎_elim, append-nil, append_assoc, arith}
use Rattle.base.specs.declared.refusal.Refusal.{Refusal}
use Rattle.base.specs.Refusals.{refuse}
use Rattle.parser.specs.declared.value_type.ValueType.{ValueType}
use Rattle.lexer.specs.declared.token.Keyword.TheVariants as kw
use Rattle.lexer.specs.declared.token.Symbol.TheVariants as sign
use Rattle.lexer.specs.Cut.{Piece}
use Rattle.parser.specs.Nodes.{Node}
use Rattle.parser.specs.Nodes as node
use Rattle.parser.specs.Marks.{Tok, piece_tok, type_of}
use Rattle.parser.specs.Machine.{Goal, Onward, ParseAnswer, feed, program, refuse_unexpected, deeper, parenthesis, statement_at, step_at, limit_at}
use Rattle.parser.specs.Machine as goal
use Rattle.parser.specs.Works.{parse}
use Rattle.ast.specs.Trees.{Program}
use Rattle.grammar.specs.Grammar.{ProgramWritten, symbol}
use Rattle.grammar.specs.Prefixes.{Begins, EndsInConversion, IsBegun, WrongAt, IsUnfinished, DeepAt, IsUnexpected, RefusedWhereNoneBegins, RefusedWhereTooDeep, RefusedOnlySo}
use Rattle.grammar.proofs.Marks.{empty, not_symbol}
use Rattle.grammar.proofs.Runs.{run}
use Rattle.grammar.proofs.Complete.{program_at, program_reads}
use Rattle.grammar.proofs.Sound.{Alive, seen_alive, program_sound}
use Rattle.grammar.proofs.Wider.{program_wider}
use Rattle.grammar.proofs.Exact.{parse_run, reads_the_grammar}
use Rattle.grammar.proofs.Ends.{completion, Safe, Fine, via, accept, accept_paren, alive}
use Rattle.grammar.proofs.Places.{begins_to, begun_to, one_first}
use Rattle.grammar.proofs.Steps.{wider, Sound, Step, on, typed, refused, deep, step_feed, step_paren, quiet_end}

clash : {A : Type 0} {x : ParseAnswer} {r : Refusal} {es : List Node} → x ≡ Err r → x ≡ Ok es → A
clash p q = absurd cc

alive_append : (xs ys : List Tok) → Alive xs → Alive ys → Alive (xs ++ ys)
alive_append [] ys a b = b
alive_append (x ∷ xs) ys a b = (a.0, alive_append xs ys a.1 b)

abbrev last : Tok → List Tok → Tok
last d [] = d
last d (x ∷ xs) = last x xs

last_is : (d : Tok) (xs : List Tok) (y : Tok) → last d (xs ++ y ∷ []) ≡ y
last_is d [] y = refl
last_is d (x ∷ xs) y = last_is x xs y

-- the machine of m levels more
wide : (m : ℕ) → wider m program ≡ program_at (32 + m)
wide m =
    let e : 31 + m ≡ 32 + m - 1 = omega arith in
    ap (λ l. goal.word kw.Begin ∷ goal.declarations ∷ goal.stmt l ∷ goal.block l ∷ goal.sym sign.Dot ∷ goal.finish ∷ []) e

-- tokens that are read begin a program; tokens that are refused with any levels are none
begins : (l : ℕ) → 0 < l → (ts us : List Tok) → Alive ts → Alive us → Fine (run 0 (ts ++ us) (program_at l) []) → Begins l ts
begins l g ts us a b f =
    let x = program_sound 0 l g (ts ++ us) (alive_append ts us a b) f.0 f.1 in
    (x.0, us, x.1)

none_whole : (ts : List Tok) (r : Refusal) → ((m : ℕ) → run 0 ts (wider m program) [] ≡ Err r) → (l : ℕ) (q : Program) → ProgramWritten l q ts → ⊥
none_whole ts r f l q w = clash (f l) (ap (λ k. run 0 ts k []) (wide l) ∙ program_reads (program_wider w (32 + l) (omega arith)) 0)

-- after the tokens ts these goals are left, with m levels more
abbrev Leads : List Tok → (ℕ → List Goal) → List Node → Type 0
Leads ts k o = (m end : ℕ) (us : List Tok) → run end (ts ++ us) (wider m program) [] ≡ run end us (k m) o

data After (ts : List Tok) : Type 0 where
  at : (gs : List Goal) (o : List Node) → Sound gs → Leads ts (λ m. wider m gs) o → After ts
  converting : (l : ℕ) (k : List Goal) (o : List Node) → Sound k → EndsInConversion ts → Leads ts (λ m. goal.paren (l + m) ∷ wider m k) o → After ts

-- and can be completed
begins_at : (m : ℕ) (ts : List Tok) → Alive ts → (k : ℕ → List Goal) (o : List Node) → Leads ts k o →
    Fine (run 0 (completion (k m)) (k m) o) → Begins (32 + m) ts
begins_at m ts a k o f x =
    let us = completion (k m) in
    begins (32 + m) (omega arith) ts us a (alive (k m)) (via (ap (λ p. run 0 (ts ++ us) p []) (sym (wide m)) ∙ f m 0 us) x)

begins_safe : (m : ℕ) (ts : List Tok) → Alive ts → (gs : List Goal) (o : List Node) → Sound gs → Leads ts (λ m. wider m gs) o → Begins (32 + m) ts
begins_safe m ts a gs o s f = begins_at m ts a (λ m. wider m gs) o f (accept 0 (wider m gs) (s m) o)

begun : (ts : List Tok) → Alive ts → After ts → IsBegun ts
begun ts a (at gs o s f) = (begins_safe 1 ts a gs o s f, inl (begins_safe 0 ts a gs o s f))
begun ts a (converting l k o s c f) =
    let x = accept_paren 0 (l + 1) (wider 1 k) (s 1) (omega arith) o in
    (begins_at 1 ts a (λ m. goal.paren (l + m) ∷ wider m k) o f x, inr c)

-- what the tokens ts come to
data Verdict (end : ℕ) (ts : List Tok) (x : ParseAnswer) : Type 0 where
  read : (es : List Node) → x ≡ Ok es → Verdict end ts x
  wrong : (p : ℕ) → x ≡ refuse 5 p → WrongAt ts p → Verdict end ts x
  unfinished : x ≡ refuse 5 end → IsUnfinished ts → Verdict end ts x
  too_deep : (p : ℕ) → x ≡ refuse 6 p → DeepAt ts p → Verdict end ts x

-- the end of the text
ended : (gs : List Goal) (o : List Node) → ((end : ℕ) → Fine (run end [] (wider 0 gs) o)) ⊎ ((m end : ℕ) → run end [] (wider m gs) o ≡ refuse 5 end)
unfolding statement_at step_at limit_at
ended [] o = inr (λ m end. refl)
ended (goal.put x ∷ k) o = ended k (o ++ x ∷ [])
ended (goal.more x l ∷ k) o = ended k o
ended (goal.compare l ∷ k) o = ended k o
ended (goal.fields ∷ k) o = ended k o
ended (goal.named n p l ∷ k) o = ended k (o ++ node.Load n p ∷ [])
ended (goal.clauses l ∷ k) o = ended k o
ended (goal.stmt l ∷ k) o = ended k o
ended (goal.otherwise l ∷ k) o = ended k (o ++ node.Fi ∷ [])
ended (goal.declarations ∷ k) o = ended k o
ended (goal.finish ∷ k) o = inl (λ end. (o, refl))
ended (g ∷ k) o = inr (λ m end. refl)

abbrev Judged : (end : ℕ) → List Tok → Type 0
Judged end ts = Verdict end ts (run end ts (wider 0 program) [])

over : {end : ℕ} {ts : List Tok} {x y : ParseAnswer} → x ≡ y → Verdict end ts y → Verdict end ts x
over {end} {ts} f v = subst (λ z. Verdict end ts z) (sym f) v

whole : (end : ℕ) (ts : List Tok) → Verdict end ts (run end (ts ++ []) (wider 0 program) []) → Judged end (ts ++ [])
whole end ts v = subst (λ z. Verdict end z (run end (ts ++ []) (wider 0 program) [])) (sym (append-nil ts)) v

-- the token t, after the tokens ts, which lead to the goals k and the nodes o
module _ (end : ℕ) (ts : List Tok) (t : Tok) (us : List Tok) (k : ℕ → List Goal) (o : List Node) (before : Alive ts) (a : After ts) (f : Leads ts k o) where
  one : (m : ℕ) (vs : List Tok) → run 0 ((ts ++ t ∷ []) ++ vs) (wider m program) [] ≡ feed t (run 0 vs) (k m) o
  one m vs = ap (λ x. run 0 x (wider m program) []) (append_assoc ts (t ∷ []) vs) ∙ f m 0 (t ∷ vs)

  more : {h : ℕ → List Goal} {p : List Node} → ((m : ℕ) (next : Onward) → feed t next (k m) o ≡ next (h m) p) → Leads (ts ++ t ∷ []) h p
  more e m end vs = ap (λ x. run end x (wider m program) []) (append_assoc ts (t ∷ []) vs) ∙ f m end (t ∷ vs) ∙ e m (run end vs)

  after : (After (ts ++ t ∷ []) → Judged end ((ts ++ t ∷ []) ++ us)) → After (ts ++ t ∷ []) → Judged end (ts ++ t ∷ us)
  after next x = subst (Judged end) (append_assoc ts (t ∷ []) us) (next x)

  is_wrong : ((m : ℕ) (next : Onward) → feed t next (k m) o ≡ refuse 5 t.offset) → WrongAt (ts ++ t ∷ us) t.offset
  is_wrong e = record {
    before = ts;
    token = t;
    behind = us;
    tokens = refl;
    stands = refl;
    begun = begun ts before a;
    none = λ l b. none_whole ((ts ++ t ∷ []) ++ b.1) record { number = 5; place = t.offset } (λ m. one m b.1 ∙ e m (run 0 b.1)) l b.0 b.2;
  }

  no_level : type_of t.sort ≡ None → ((next : Onward) → feed t next (k 0) o ≡ refuse 6 t.offset) → IsBegun (ts ++ t ∷ []) → ⊥
  no_level n e b =
      ⊎_elim
      (λ c. clash (one 0 c.1 ∙ e (run 0 c.1)) (program_reads c.2 0))
      (λ c. empty c.is (ap (λ x. type_of x.sort) (sym (last_is t c.before c.word) ∙ ap (last t) (sym c.tokens) ∙ last_is t ts t) ∙ n))
      b.1

  is_deep : Alive (ts ++ t ∷ []) → (gs : List Goal) (p : List Node) → type_of t.sort ≡ None → Safe gs →
      ((next : Onward) → feed t next (k 0) o ≡ refuse 6 t.offset) → ((next : Onward) → feed t next (k 1) o ≡ next gs p) → DeepAt (ts ++ t ∷ us) t.offset
  is_deep alive_t gs p n s e d = record {
    before = ts;
    token = t;
    behind = us;
    tokens = refl;
    stands = refl;
    begun = begun ts before a;
    within =
        let us = completion gs in
        begins 33 (omega arith) (ts ++ t ∷ []) us alive_t (alive gs) (via (one 1 us ∙ d (run 0 us)) (accept 0 gs s p));
    opens = no_level n e;
  }

  -- a type's word may begin a conversion here
  abbrev Worded : Type 0
  Worded =
      (c : ValueType) (g : List Goal) (p : List Node) → type_of t.sort ≡ Some c → ((next : Onward) → feed t next (k 0) o ≡ next g p) →
      EndsInConversion (ts ++ t ∷ [])

  judge : Alive (ts ++ t ∷ []) → (After (ts ++ t ∷ []) → Judged end ((ts ++ t ∷ []) ++ us)) → Worded →
      Step t (λ m next. feed t next (k m) o) → Judged end (ts ++ t ∷ us)
  judge alive_t next word (on g p s e) = after next (at g p s (more e))
  judge alive_t next word (typed c l g p i s e) = after next (converting l g p s (word c (goal.paren (l + 0) ∷ wider 0 g) p i (e 0)) (more e))
  judge alive_t next word (refused e) = over (f 0 end (t ∷ us) ∙ e 0 (run end us)) (wrong t.offset refl (is_wrong e))
  judge alive_t next word (deep g p n s e d) = over (f 0 end (t ∷ us) ∙ e (run end us)) (too_deep t.offset refl (is_deep alive_t g p n s e d))

-- a type's word is no parenthesis
no_typed : {A : Type 0} (t : Tok) (l : ℕ) (k : List Goal) (o : List Node) (h : List Goal) (p : List Node) {c : ValueType} →
    type_of t.sort ≡ Some c → ((next : Onward) → parenthesis t next l k o ≡ next h p) → A
no_typed t l k o h p i e =
    clash (ap (λ b. cond b (deeper t l (Ok [])) (refuse_unexpected t)) (not_symbol type_of sign.Open t.sort refl i)) (e (λ gs es. Ok []))

-- the text ends after the tokens ts, and is refused there
is_unfinished : (ts : List Tok) (k : ℕ → List Goal) (o : List Node) → Alive ts → After ts → Leads ts k o →
    ((m : ℕ) → run 0 [] (k m) o ≡ refuse 5 0) → IsUnfinished ts
is_unfinished ts k o a x f e = record {
  begun = begun ts a x;
  none = none_whole ts record { number = 5; place = 0 } (λ m. ap (λ y. run 0 y (wider m program) []) (sym (append-nil ts)) ∙ f m 0 [] ∙ e m);
}

verdict : (us : List Tok) (end : ℕ) (ts : List Tok) → Alive ts → Alive us → After ts → Judged end (ts ++ us)
verdict [] end ts a b (at gs o s f) =
    whole end ts
    (⊎_elim
    (λ x. read (x end).0 (f 0 end [] ∙ (x end).1))
    (λ x. unfinished (f 0 end [] ∙ x 0 end) (is_unfinished ts (λ m. wider m gs) o a (at gs o s f) f (λ m. x m 0)))
    (ended gs o))
verdict [] end ts a b (converting l k o s c f) =
    whole end ts (unfinished (f 0 end []) (is_unfinished ts (λ m. goal.paren (l + m) ∷ wider m k) o a (converting l k o s c f) f (λ m. refl)))
verdict (t ∷ us) end ts a b (at gs o s f) =
    let alive_t = alive_append ts (t ∷ []) a (b.0, tt) in
    judge end ts t us (λ m. wider m gs) o a (at gs o s f) f alive_t (verdict us end (ts ++ t ∷ []) alive_t b.1)
    (λ c g p i e. record { before = ts; word = t; value_type = c; tokens = refl; is = i; begun = begins_safe 0 ts a gs o s f })
    (step_feed t b.0 gs o s)
verdict (t ∷ us) end ts a b (converting l k o s c f) =
    let alive_t = alive_append ts (t ∷ []) a (b.0, tt) in
    judge end ts t us (λ m. goal.paren (l + m) ∷ wider m k) o a (converting l k o s c f) f alive_t (verdict us end (ts ++ t ∷ []) alive_t b.1)
    (λ d g p i e. no_typed t (l + 0) (wider 0 k) o g p i e)
    (step_paren t l k o s)

start : After []
start = at program [] (λ m. (quiet_end (symbol sign.Dot 0 ∷ []), (quiet_end (symbol sign.Dot 0 ∷ []), tt))) (λ m end us. refl)

parsed : (end : ℕ) (ps : List Piece) → Verdict end (map piece_tok ps) (parse end ps)
parsed end ps = over (parse_run end ps) (verdict (map piece_tok ps) end [] tt (seen_alive ps) start)

-- a refusal has one number and one place
abbrev number_of : ParseAnswer → ℕ
number_of (Ok es) = 0
number_of (Err r) = r.number

abbrev place_of : ParseAnswer → ℕ
place_of (Ok es) = 0
place_of (Err r) = r.place

module _ (end : ℕ) (ps : List Piece) where
  -- tokens that are read are begun, as far as any of them
  read_begins : (b a : List Tok) (t : Tok) (es : List Node) → map piece_tok ps ≡ b ++ t ∷ a → parse end ps ≡ Ok es → Begins 32 (b ++ t ∷ [])
  read_begins b a t es e h =
      let x = (reads_the_grammar end ps es).0 h in
      begins_to 32 (map piece_tok ps) b a t e (x.0, [], subst (ProgramWritten 32 x.0) (sym (append-nil (map piece_tok ps))) x.1)

  unexpected_there : (offset : ℕ) → parse end ps ≡ refuse 5 offset → IsUnexpected end (map piece_tok ps) offset
  unexpected_there offset h = go (parsed end ps)
    where
      go : Verdict end (map piece_tok ps) (parse end ps) → IsUnexpected end (map piece_tok ps) offset
      go (read es e) = clash h e
      go (wrong p e w) = inl (subst (WrongAt (map piece_tok ps)) (ap place_of (sym e ∙ h)) w)
      go (unfinished e u) = inr (u, ap place_of (sym h ∙ e))
      go (too_deep p e d) = absurd (let z : 5 ≡ 6 = ap number_of (sym h ∙ e) in omega arith)

  wrong_refused : (offset : ℕ) → WrongAt (map piece_tok ps) offset → parse end ps ≡ refuse 5 offset
  wrong_refused offset x = go (parsed end ps)
    where
      go : Verdict end (map piece_tok ps) (parse end ps) → parse end ps ≡ refuse 5 offset
      go (read es e) = absurd (x.none 32 (read_begins x.before x.behind x.token es x.tokens e))
      go (wrong p e w) =
          let n : IsBegun (x.before ++ x.token ∷ []) → ⊥ = λ b. x.none 33 b.0 in
          let o : IsBegun (w.before ++ w.token ∷ []) → ⊥ = λ b. w.none 33 b.0 in
          let y = one_first (map piece_tok ps) x.before w.before x.behind w.behind x.token w.token x.tokens w.tokens x.begun w.begun n o in
          e ∙ ap (refuse 5) (sym w.stands ∙ ap (λ t. t.offset) (sym y.1) ∙ x.stands)
      go (unfinished e u) = absurd (x.none 33 (begins_to 33 (map piece_tok ps) x.before x.behind x.token x.tokens u.begun.0))
      go (too_deep p e d) =
          let n : IsBegun (x.before ++ x.token ∷ []) → ⊥ = λ b. x.none 33 b.0 in
          let y = one_first (map piece_tok ps) x.before d.before x.behind d.behind x.token d.token x.tokens d.tokens x.begun d.begun n d.opens in
          absurd (x.none 33 (subst (λ b. Begins 33 (b ++ x.token ∷ [])) (sym y.0) (subst (λ t. Begins 33 (d.before ++ t ∷ [])) (sym y.1) d.within)))

  unfinished_refused : IsUnfinished (map piece_tok ps) → parse end ps ≡ refuse 5 end
  unfinished_refused x = go (parsed end ps)
    where
      go : Verdict end (map piece_tok ps) (parse end ps) → parse end ps ≡ refuse 5 end
      go (read es e) = let y = (reads_the_grammar end ps es).0 e in absurd (x.none 32 y.0 y.1)
      go (wrong p e w) = absurd (w.none 33 (begins_to 33 (map piece_tok ps) w.before w.behind w.token w.tokens x.begun.0))
      go (unfinished e u) = e
      go (too_deep p e d) = absurd (d.opens (begun_to (map piece_tok ps) d.before d.behind d.token d.tokens x.begun))

  deep_there : (offset : ℕ) → parse end ps ≡ refuse 6 offset → DeepAt (map piece_tok ps) offset
  deep_there offset h = go (parsed end ps)
    where
      go : Verdict end (map piece_tok ps) (parse end ps) → DeepAt (map piece_tok ps) offset
      go (read es e) = clash h e
      go (wrong p e w) = absurd (let z : 6 ≡ 5 = ap number_of (sym h ∙ e) in omega arith)
      go (unfinished e u) = absurd (let z : 6 ≡ 5 = ap number_of (sym h ∙ e) in omega arith)
      go (too_deep p e d) = subst (DeepAt (map piece_tok ps)) (ap place_of (sym e ∙ h)) d

  deep_refused : (offset : ℕ) → DeepAt (map piece_tok ps) offset → parse end ps ≡ refuse 6 offset
  deep_refused offset x = go (parsed end ps)
    where
      go : Verdict end (map piece_tok ps) (parse end ps) → parse end ps ≡ refuse 6 offset
      go (read es e) = absurd (x.opens (x.within, inl (read_begins x.before x.behind x.token es x.tokens e)))
      go (wrong p e w) =
          let n : IsBegun (w.before ++ w.token ∷ []) → ⊥ = λ b. w.none 33 b.0 in
          let y = one_first (map piece_tok ps) x.before w.before x.behind w.behind x.token w.token x.tokens w.tokens x.begun w.begun x.opens n in
          absurd (w.none 33 (subst (λ b. Begins 33 (b ++ w.token ∷ [])) y.0 (subst (λ t. Begins 33 (x.before ++ t ∷ [])) y.1 x.within)))
      go (unfinished e u) = absurd (x.opens (begun_to (map piece_tok ps) x.before x.behind x.token x.tokens u.begun))
      go (too_deep p e d) =
          let y = one_first (map piece_tok ps) x.before d.before x.behind d.behind x.token d.token x.tokens d.tokens x.begun d.begun x.opens d.opens in
          e ∙ ap (refuse 6) (sym d.stands ∙ ap (λ t. t.offset) (sym y.1) ∙ x.stands)

pub refused_where_none_begins : RefusedWhereNoneBegins
refused_where_none_begins end offset ps = (
  unexpected_there end ps offset,
  λ x. ⊎_elim (wrong_refused end ps offset) (λ u. unfinished_refused end ps u.0 ∙ ap (refuse 5) (sym u.1)) x,
)

pub refused_where_too_deep : RefusedWhereTooDeep
refused_where_too_deep end offset ps = (deep_there end ps offset, deep_refused end ps offset)

pub refused_only_so : RefusedOnlySo
refused_only_so end ps r h = go (parsed end ps)
  where
    go : Verdict end (map piece_tok ps) (parse end ps) → (r.number ≡ 5) ⊎ (r.number ≡ 6)
    go (read es e) = clash h e
    go (wrong p e w) = inl (ap number_of (sym h ∙ e))
    go (unfinished e u) = inl (ap number_of (sym h ∙ e))
    go (too_deep p e d) = inr (ap number_of (sym h ∙ e))
