-- The grammar as a machine that takes one token at a time. Its state is a stack of goals, with what is to be read or
-- written next on top, and the nodes written so far. When it refuses, the refusal is its answer and no further
-- token is taken.
use Rattle.std.specs.Prelude.{ℕ, ◌-◌, Bool, true, false, cond, List, [], ◌∷◌, ◌++◌, Some, None, Ok, Result, ◌==◌}
use Rattle.base.specs.Limits.{most_levels}
use Rattle.base.specs.declared.refusal.Refusal.{Refusal}
use Rattle.base.specs.Refusals.{refuse}
use Rattle.parser.specs.declared.value_type.ValueType.{ValueType}
use Rattle.parser.specs.declared.value_type.ValueType.TheVariants as types
use Rattle.lexer.specs.declared.token.Keyword.{Keyword}
use Rattle.lexer.specs.declared.token.Keyword.TheVariants as kw
use Rattle.lexer.specs.declared.token.Symbol.{Symbol}
use Rattle.lexer.specs.declared.token.Symbol.TheVariants as sign
use Rattle.lexer.specs.Cut.{Piece, tokens_left}
use Rattle.arith.specs.declared.shift.Kind.{Kind as ShiftKind}
use Rattle.parser.specs.declared.lexeme.Strength.{Strength}
use Rattle.parser.specs.declared.lexeme.Strength.TheVariants as strength
use Rattle.parser.specs.declared.lexeme.Opening.{Opening}
use Rattle.parser.specs.declared.lexeme.Opening.TheVariants as opening
use Rattle.parser.specs.Nodes.{Node}
use Rattle.parser.specs.Nodes as node
use Rattle.parser.specs.Marks.{Tok, stop, piece_tok, is_symbol, is_keyword, is_stop, decimal_of, spelled_of, literal_of, type_of, shift_of, opening_of, operator_at}

-- The nodes of a source, or its refusal.
abbrev pub ParseAnswer : Type 0
ParseAnswer = Result (List Node) Refusal

-- What the numbers of a field are for: a field of a factor, or a field left of `:=`, after the name n at the offset p
-- or after its subscript.
pub data Use : Type 0 where
  part : Use
  into : (subscript : Bool) (n : List ℕ) (p l : ℕ) → Use

-- A goal: what is to be read or written next. In each goal l is the number of levels left, and n and p are a name and
-- its offset.
pub data Goal : Type 0 where
  -- a symbol or a reserved word that has to come; a node to be written
  sym : Symbol → Goal
  word : Keyword → Goal
  put : Node → Goal
  -- a relation or LNOT; a term with or without a leading `-`; a primary; an expression in parentheses
  relation : (l : ℕ) → Goal
  lead : (l : ℕ) → Goal
  primary : (l : ℕ) → Goal
  paren : (l : ℕ) → Goal
  -- any number of operators of this strength, each with its right side; at most one operator of a relation, with its
  -- right side
  more : Strength → (l : ℕ) → Goal
  compare : (l : ℕ) → Goal
  -- any number of fields and shifts; what may follow a name in an expression: its subscript
  fields : Goal
  named : (n : List ℕ) (p l : ℕ) → Goal
  -- the two numbers of a field; the second of them; the kind of a shift; its count
  bits : Use → Goal
  upto : Use → (a p : ℕ) → Goal
  shift : Goal
  count : ShiftKind → Goal
  -- an expression of a condition; what may follow it: AND or OR and further expressions
  test : (l : ℕ) → Goal
  clauses : (l : ℕ) → Goal
  -- a statement; the rest of a list up to END; an ELSE, if there is one; the rest of the statements of a CASE
  stmt : (l : ℕ) → Goal
  block : (l : ℕ) → Goal
  otherwise : (l : ℕ) → Goal
  arms : (l : ℕ) → Goal
  -- what follows the name that begins an assignment; what follows its subscript; what follows its field
  target : (n : List ℕ) (p l : ℕ) → Goal
  target_at : (n : List ℕ) (p paren l : ℕ) → Goal
  becomes : (subscript : Bool) (n : List ℕ) (p l a b q : ℕ) → Goal
  -- the variable of a FOR and its first value; STEP or UNTIL; the limit of the FOR and its statement
  variable : (for l : ℕ) → Goal
  stepped : (n : List ℕ) (p for l : ℕ) → Goal
  turns : (n : List ℕ) (p for l : ℕ) → Goal
  -- any number of declarations; what follows a type; a further simple name; a comma and a further name or array, or
  -- the semicolon; an array; its low bound; its high bound
  declarations : Goal
  typed : ValueType → Goal
  simple : ValueType → Goal
  comma : (array : Bool) → ValueType → Goal
  item : ValueType → Goal
  low : ValueType → (n : List ℕ) (p : ℕ) → Goal
  high : ValueType → (n : List ℕ) (p a q : ℕ) → Goal
  -- the end of the text
  finish : Goal

-- The goals for an operand in which operators of this strength and all stronger ones may stand. Stronger operators
-- bind first. The operator of a relation comes at most once, by `compare`.
abbrev pub wants : Strength → (l : ℕ) → List Goal
wants strength.Lor l = relation l ∷ more strength.Land l ∷ more strength.Xor l ∷ more strength.Lor l ∷ []
wants strength.Xor l = relation l ∷ more strength.Land l ∷ more strength.Xor l ∷ []
wants strength.Land l = relation l ∷ more strength.Land l ∷ []
wants strength.Relation l = lead l ∷ more strength.Sum l ∷ more strength.Relation l ∷ []
wants strength.Sum l = lead l ∷ more strength.Sum l ∷ []
wants strength.Term l = primary l ∷ fields ∷ more strength.Term l ∷ []

-- The goals for the right operand of an operator of this strength.
abbrev pub right : Strength → (l : ℕ) → List Goal
right strength.Lor l = wants strength.Xor l
right strength.Xor l = wants strength.Land l
right strength.Land l = relation l ∷ []
right strength.Relation l = wants strength.Sum l
right strength.Sum l = wants strength.Term l
right strength.Term l = primary l ∷ fields ∷ []

-- The goals for an expression.
abbrev pub expr : (l : ℕ) → List Goal
expr l = wants strength.Lor l

-- The goals for a condition.
abbrev pub condition : (l : ℕ) → List Goal
condition l = test l ∷ clauses l ∷ []

-- The answer to the tokens after the current one, from the goals and the nodes that the current one leaves.
abbrev pub Onward : Type 0
Onward = List Goal → List Node → ParseAnswer

-- Refused with 5 at the token t, which no goal takes.
abbrev pub refuse_unexpected : Tok → ParseAnswer
refuse_unexpected t = refuse 5 t.offset

-- The token t opens a level: refused with 6 if no level is left.
abbrev pub deeper : Tok → (l : ℕ) → ParseAnswer → ParseAnswer
deeper t l onward = cond (l == 0) (refuse 6 t.offset) onward

-- The token t has to be the parenthesis that opens an expression and a level.
abbrev pub parenthesis : Tok → Onward → (l : ℕ) → List Goal → List Node → ParseAnswer
parenthesis t next l k o =
    cond (is_symbol sign.Open t.sort) (deeper t l (next (expr (l - 1) ++ sym sign.Close ∷ k) o)) (refuse_unexpected t)

-- The token t has to begin a primary: a number, TRUE, FALSE, a type, a name or a parenthesis.
abbrev pub begins : Tok → Onward → (l : ℕ) → List Goal → List Node → ParseAnswer
begins t next l k o =
    elim (literal_of t.sort) [
      | Some x ↦ next (put (node.Number x.0 x.1) ∷ k) o
      | None ↦ elim (type_of t.sort) [
        | Some c ↦ next (paren l ∷ put (node.Convert c) ∷ k) o
        | None ↦ elim (spelled_of t.sort) [ Some n ↦ next (named n t.offset l ∷ k) o | None ↦ parenthesis t next l k o ]
      ]
    ]

-- The token t has to begin a sum. A leading `-` belongs to the whole first term.
abbrev pub first_term : Tok → Onward → (l : ℕ) → List Goal → List Node → ParseAnswer
first_term t next l k o =
    cond (is_symbol sign.Minus t.sort) (next (wants strength.Term l ++ put (node.Negate t.offset) ∷ k) o)
    (begins t next l (fields ∷ more strength.Term l ∷ k) o)

-- The token t has to begin a relation: LNOT, or a sum that an operator and a second sum may follow.
abbrev pub relation_at : Tok → Onward → (l : ℕ) → List Goal → List Node → ParseAnswer
relation_at t next l k o =
    cond (is_keyword kw.Lnot t.sort) (deeper t l (next (relation (l - 1) ∷ put (node.Lnot t.offset) ∷ k) o))
    (first_term t next l (more strength.Sum l ∷ compare l ∷ k) o)

-- The goals after the two numbers of a field.
abbrev pub after_field : Use → (a b p : ℕ) → List Goal → List Goal
after_field part a b p k = put (node.Field a b p) ∷ k
after_field (into s n q l) a b p k = becomes s n q l a b p ∷ k

-- The node of an assignment to a name or to a cell of an array.
abbrev pub store_node : (subscript : Bool) (n : List ℕ) (p becomes : ℕ) → Node
store_node true n p q = node.StoreAt n p q
store_node false n p q = node.Store n p q

-- The goal for a further name of a declaration: an array or a simple name.
abbrev pub declaration_goal : (array : Bool) → ValueType → Goal
declaration_goal true c = item c
declaration_goal false c = simple c

-- The goals after the reserved word at the offset p that opens a statement and its level.
abbrev pub inner : Opening → (p l : ℕ) → List Goal
inner opening.Block p l = stmt l ∷ block l ∷ []
inner opening.Conditional p l = put node.If ∷ condition l ++ word kw.Then ∷ put node.Then ∷ stmt l ∷ otherwise l ∷ []
inner opening.Choice p l =
    expr l ++ put (node.Case p) ∷ word kw.Of ∷ word kw.Begin ∷ put node.Arm ∷ stmt l ∷ arms l ∷ []
inner opening.While p l = put node.While ∷ condition l ++ word kw.Do ∷ put node.Then ∷ stmt l ∷ put node.Loop ∷ []
inner opening.Do p l = put node.Do ∷ stmt l ∷ word kw.Until ∷ put node.Until ∷ condition l ++ put node.Done ∷ []
inner opening.For p l = variable p l ∷ []

-- The token t where a statement may begin. If no statement begins with it, the statement is empty, and `below` is the
-- answer that the goals below give to t.
unfoldable pub statement_at : Tok → Onward → (l : ℕ) → List Goal → List Node → (below : ParseAnswer) → ParseAnswer
statement_at t next l k o below =
    elim (spelled_of t.sort) [
      | Some n ↦ next (target n t.offset l ∷ k) o
      | None ↦ elim (opening_of t.sort) [ Some x ↦ deeper t l (next (inner x t.offset (l - 1) ++ k) o) | None ↦ below ]
    ]

-- The token t after the first value of a FOR: STEP with a step, or UNTIL with the step 1.
unfoldable pub step_at : Tok → Onward → (n : List ℕ) (p for l : ℕ) → List Goal → List Node → ParseAnswer
step_at t next n p f l k o =
    cond (is_keyword kw.Step t.sort) (next (expr l ++ put (node.Step f) ∷ word kw.Until ∷ turns n p f l ∷ k) o)
    (cond (is_keyword kw.Until t.sort) (next (put node.One ∷ turns n p f l ∷ k) o) (refuse_unexpected t))

-- The token t has to begin the limit of a FOR. After the limit the statement of the FOR is to be read.
unfoldable pub limit_at : Tok → Onward → (n : List ℕ) (p for l : ℕ) → List Goal → List Node → ParseAnswer
limit_at t next n p f l k o =
    relation_at t next l
    (more strength.Land l ∷ more strength.Xor l ∷ more strength.Lor l ∷ put (node.For n p f) ∷ word kw.Do ∷ stmt l ∷ put (node.Next n) ∷ put node.Drop ∷ k) o

-- The answer to the token t with these goals on the stack. A node on top is written at once. A goal that may be
-- left out is dropped if t does not belong to it, and t goes to the goal below.
abbrev pub feed : Tok → Onward → List Goal → List Node → ParseAnswer
feed t next [] o = refuse_unexpected t
feed t next (put e ∷ k) o = feed t next k (o ++ e ∷ [])
feed t next (sym s ∷ k) o = cond (is_symbol s t.sort) (next k o) (refuse_unexpected t)
feed t next (word w ∷ k) o = cond (is_keyword w t.sort) (next k o) (refuse_unexpected t)
feed t next (relation l ∷ k) o = relation_at t next l k o
feed t next (lead l ∷ k) o = first_term t next l k o
feed t next (primary l ∷ k) o = begins t next l k o
feed t next (paren l ∷ k) o = parenthesis t next l k o
feed t next (more s l ∷ k) o =
    elim (operator_at s t.sort) [ Some x ↦ next (right s l ++ put (node.Binary x t.offset) ∷ more s l ∷ k) o | None ↦ feed t next k o ]
feed t next (compare l ∷ k) o =
    elim (operator_at strength.Relation t.sort) [ Some x ↦ next (right strength.Relation l ++ put (node.Binary x t.offset) ∷ k) o | None ↦ feed t next k o ]
feed t next (fields ∷ k) o =
    cond (is_symbol sign.Dot t.sort) (next (sym sign.Open ∷ bits part ∷ fields ∷ k) o)
    (cond (is_symbol sign.Ampersand t.sort) (next (shift ∷ fields ∷ k) o) (feed t next k o))
feed t next (named n p l ∷ k) o =
    cond (is_symbol sign.Open t.sort) (parenthesis t next l (put (node.Index n p t.offset) ∷ k) o) (feed t next k (o ++ node.Load n p ∷ []))
feed t next (bits u ∷ k) o =
    elim (decimal_of t.sort) [ Some a ↦ next (sym sign.Colon ∷ upto u a t.offset ∷ k) o | None ↦ refuse_unexpected t ]
feed t next (upto u a p ∷ k) o =
    elim (decimal_of t.sort) [ Some b ↦ next (sym sign.Close ∷ after_field u a b p k) o | None ↦ refuse_unexpected t ]
feed t next (shift ∷ k) o =
    elim (shift_of t.sort) [ Some s ↦ next (sym sign.Open ∷ count s ∷ k) o | None ↦ refuse_unexpected t ]
feed t next (count s ∷ k) o =
    elim (decimal_of t.sort) [ Some b ↦ next (sym sign.Close ∷ put (node.Shift s b t.offset) ∷ k) o | None ↦ refuse_unexpected t ]
feed t next (test l ∷ k) o =
    relation_at t next l (more strength.Land l ∷ more strength.Xor l ∷ more strength.Lor l ∷ put (node.Test t.offset) ∷ k) o
feed t next (clauses l ∷ k) o =
    cond (is_keyword kw.And t.sort) (next (test l ∷ clauses l ∷ k) o)
    (cond (is_keyword kw.Or t.sort) (next (put node.Or ∷ test l ∷ clauses l ∷ k) o) (feed t next k o))
feed t next (stmt l ∷ k) o = statement_at t next l k o (feed t next k o)
feed t next (block l ∷ k) o =
    cond (is_symbol sign.Semicolon t.sort) (next (stmt l ∷ block l ∷ k) o) (cond (is_keyword kw.End t.sort) (next k o) (refuse_unexpected t))
feed t next (otherwise l ∷ k) o =
    cond (is_keyword kw.Else t.sort) (next (put node.Else ∷ stmt l ∷ put node.Fi ∷ k) o) (feed t next k (o ++ node.Fi ∷ []))
feed t next (arms l ∷ k) o =
    cond (is_symbol sign.Semicolon t.sort) (next (put node.Out ∷ put node.Arm ∷ stmt l ∷ arms l ∷ k) o)
    (cond (is_keyword kw.End t.sort) (next (put node.Out ∷ put node.Esac ∷ k) o) (refuse_unexpected t))
feed t next (target n p l ∷ k) o =
    cond (is_symbol sign.Open t.sort) (parenthesis t next l (target_at n p t.offset l ∷ k) o)
    (cond (is_symbol sign.Dot t.sort) (next (put (node.Fetch n p) ∷ sym sign.Open ∷ bits (into false n p l) ∷ k) o)
    (cond (is_symbol sign.Becomes t.sort) (next (expr l ++ put (node.Store n p t.offset) ∷ k) o) (refuse_unexpected t)))
feed t next (target_at n p q l ∷ k) o =
    cond (is_symbol sign.Dot t.sort) (next (put (node.FetchAt n p q) ∷ sym sign.Open ∷ bits (into true n p l) ∷ k) o)
    (cond (is_symbol sign.Becomes t.sort) (next (put (node.Checked n p q) ∷ expr l ++ put (node.StoreAt n p t.offset) ∷ k) o) (refuse_unexpected t))
feed t next (becomes s n p l a b q ∷ k) o =
    cond (is_symbol sign.Becomes t.sort) (next (expr l ++ put (node.Deposit a b q) ∷ put (store_node s n p t.offset) ∷ k) o) (refuse_unexpected t)
feed t next (variable f l ∷ k) o =
    elim (spelled_of t.sort) [ Some n ↦ next (sym sign.Becomes ∷ expr l ++ put (node.First n t.offset f) ∷ stepped n t.offset f l ∷ k) o | None ↦ refuse_unexpected t ]
feed t next (stepped n p f l ∷ k) o = step_at t next n p f l k o
feed t next (turns n p f l ∷ k) o = limit_at t next n p f l k o
feed t next (declarations ∷ k) o =
    elim (type_of t.sort) [
      | Some c ↦ next (typed c ∷ declarations ∷ k) o
      | None ↦ cond (is_keyword kw.Array t.sort) (next (item types.Logical ∷ comma true types.Logical ∷ declarations ∷ k) o) (feed t next k o)
    ]
feed t next (typed c ∷ k) o =
    cond (is_keyword kw.Array t.sort) (next (item c ∷ comma true c ∷ k) o)
    (elim (spelled_of t.sort) [ Some n ↦ next (put (node.Simple n c t.offset) ∷ comma false c ∷ k) o | None ↦ refuse_unexpected t ])
feed t next (simple c ∷ k) o =
    elim (spelled_of t.sort) [ Some n ↦ next (put (node.Simple n c t.offset) ∷ k) o | None ↦ refuse_unexpected t ]
feed t next (comma a c ∷ k) o =
    cond (is_symbol sign.Comma t.sort) (next (declaration_goal a c ∷ comma a c ∷ k) o) (cond (is_symbol sign.Semicolon t.sort) (next k o) (refuse_unexpected t))
feed t next (item c ∷ k) o =
    elim (spelled_of t.sort) [ Some n ↦ next (sym sign.Open ∷ low c n t.offset ∷ k) o | None ↦ refuse_unexpected t ]
feed t next (low c n p ∷ k) o =
    elim (decimal_of t.sort) [ Some a ↦ next (sym sign.Colon ∷ high c n p a t.offset ∷ k) o | None ↦ refuse_unexpected t ]
feed t next (high c n p a q ∷ k) o =
    elim (decimal_of t.sort) [ Some b ↦ next (sym sign.Close ∷ put (node.Array n c a b p q) ∷ k) o | None ↦ refuse_unexpected t ]
feed t next (finish ∷ k) o = cond (is_stop t.sort) (Ok o) (refuse_unexpected t)

-- The end of the text, as a token whose offset is the length of the text.
abbrev pub ending : (end : ℕ) → Tok
ending end = record { sort = stop; offset = end }

-- The answer to a list of tokens, one after the other, and then to the end of the text.
unfoldable pub later : (end : ℕ) → List Piece → Onward
later end [] k o = feed (ending end) (λ _ _. refuse 5 end) k o
later end (p ∷ ps) k o = feed (piece_tok p) (later end ps) k o

-- The answer to the tokens of the text bs, which is the rest of a source that ends at the offset `end`.
unfoldable pub behind : (end : ℕ) → List ℕ → Onward
behind end bs k o = later end (tokens_left end bs) k o

-- The goals for a program. Its outer BEGIN is the first of 32 levels.
abbrev pub program : List Goal
program = word kw.Begin ∷ declarations ∷ stmt (most_levels - 1) ∷ block (most_levels - 1) ∷ sym sign.Dot ∷ finish ∷ []
