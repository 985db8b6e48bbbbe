-- What the readers need before a call and what they leave after it.
use Rattle.std.specs.Prelude.{◌≡◌, ℕ, ◌+◌, ◌*◌, ◌≤◌, Bool, true, false, List, ◌∷◌, ◌++◌, length, Some, None, Ok, Err, Option, Result}
use Rattle.base.specs.Limits.{most_nodes}
use Rattle.parser.specs.declared.fault.GrammarFault.{GrammarFault}
use Rattle.parser.specs.declared.fault.GrammarFault.TheVariants.{Unexpected}
use Rattle.parser.specs.declared.lexeme.Strength.{Strength}
use Rattle.parser.specs.declared.lexeme.PlacedName.{PlacedName}
use Rattle.parser.specs.declared.reader.Range.{Range}
use Rattle.parser.specs.declared.reader.Reader.{Reader}
use Rattle.parser.specs.declared.value_type.ValueType.{ValueType}
use Rattle.lexer.specs.declared.token.Symbol.TheVariants as sign
use Rattle.lexer.specs.Names.{name_of}
use Rattle.parser.specs.Faults.{refusal_of}
use Rattle.parser.specs.Nodes.{Node, node_list}
use Rattle.parser.specs.Nodes as node
use Rattle.lexer.specs.declared.token.Keyword.TheVariants as kw
use Rattle.parser.specs.Marks.{mark_of, tok_of, live, decimal_of, spelled_of}
use Rattle.parser.specs.Machine.{Goal, Use, ParseAnswer, sym as symbol, word, put, bits, low, more, stmt, block, arms, otherwise, condition, after_field, wants, program, feed, behind}

-- The number of bytes left to read, and one more if a token is ahead.
abbrev pub weight : Reader → ℕ
weight r = length r.rest.now + live (mark_of r.ahead.sort)

-- What the machine answers with these goals, from the token after the one ahead.
abbrev pub onward : Reader → List Goal → ParseAnswer
onward r gs = behind r.end r.rest.now gs (node_list r.out.now)

-- What the machine answers with these goals, from the token ahead.
abbrev pub runs : Reader → List Goal → ParseAnswer
runs r gs = feed (tok_of r.ahead) (behind r.end r.rest.now) gs (node_list r.out.now)

-- The list has room for two nodes for each token that may still come and for m more.
abbrev pub Ready : ℕ → Reader → Type 0
Ready m r = length r.out.now + 2 * weight r + m ≤ most_nodes

-- What every reader keeps: where the source ends, and the loan of the list.
pub record Keeps (r r' : Reader) : Type 0 where
  pub end : r'.end ≡ r.end
  pub loan : r'.out.ghost_name ≡ r.out.ghost_name

-- How the room is used: m nodes were granted before, and two for each token read; c of them are left.
pub record Fits (m c : ℕ) (r r' : Reader) : Type 0 where
  pub room : length r'.out.now + 2 * weight r' + c ≤ length r.out.now + 2 * weight r + m
  pub less : weight r' ≤ weight r

-- The goals gs were read, whatever goals are below them.
pub record Reads (gs : List Goal) (r r' : Reader) : Type 0 where
  pub reads : (k : List Goal) → runs r (gs ++ k) ≡ runs r' k

-- The goals gs are refused with this fault, whatever goals are below them.
abbrev pub IsRefused : List Goal → Reader → GrammarFault → Type 0
IsRefused gs r e = (k : List Goal) → runs r (gs ++ k) ≡ Err (refusal_of e)

-- What a reader of the goals gs leaves: it has read them, or it answers the refusal.
abbrev pub ReadsGoals : (m c : ℕ) → List Goal → Reader → Reader → Result (Unit {0}) GrammarFault → Type 0
ReadsGoals m c gs r r' (Ok u) = Keeps r r' × Fits m c r r' × Reads gs r r'
ReadsGoals m c gs r r' (Err e) = Keeps r r' × IsRefused gs r e

-- The reader went on by one token, so that the next token is ahead.
pub record Advances (r r' : Reader) : Type 0 where
  pub kept : Keeps r r'
  pub len : length r'.out.now ≡ length r.out.now
  pub less : weight r' ≤ length r.rest.now
  pub reads : (k : List Goal) → onward r k ≡ runs r' k

-- The token ahead was what was sought, x at the offset p, and the reader went on by one token.
pub record IsTaken {A : Type 0} (sought : Option A) (x : A) (p : ℕ) (r r' : Reader) : Type 0 where
  pub found : sought ≡ Some x
  pub offset : p ≡ r.ahead.offset
  pub alive : live (mark_of r.ahead.sort) ≡ 1
  pub advanced : Advances r r'

-- The token ahead was not what was sought, and is refused.
pub record IsMissing {A : Type 0} (sought : Option A) (e : GrammarFault) (r r' : Reader) : Type 0 where
  pub missing : sought ≡ None
  pub fault : e ≡ Unexpected r.ahead.offset
  pub kept : Keeps r r'

-- The token ahead was the expected one, and the reader went on; or it was not, and is refused.
abbrev pub TakesOrRefuses : (here : Bool) → Reader → Reader → Result (Unit {0}) GrammarFault → Type 0
TakesOrRefuses here r r' (Ok u) = (here ≡ true) × Advances r r'
TakesOrRefuses here r r' (Err e) = (here ≡ false) × (e ≡ Unexpected r.ahead.offset) × Keeps r r'

-- The token ahead was a decimal number, and is answered with its place; or it was not, and is refused.
abbrev pub TakesDecimal : Reader → Reader → Result (ℕ × ℕ) GrammarFault → Type 0
TakesDecimal r r' (Ok x) = IsTaken (decimal_of (mark_of r.ahead.sort)) x.0 x.1 r r'
TakesDecimal r r' (Err e) = IsMissing (decimal_of (mark_of r.ahead.sort)) e r r'

-- The token ahead was a name, and is answered with its place; or it was not, and is refused.
abbrev pub TakesName : Reader → Reader → Result PlacedName GrammarFault → Type 0
TakesName r r' (Ok n) = IsTaken (spelled_of (mark_of r.ahead.sort)) (name_of n.name) n.offset r r'
TakesName r r' (Err e) = IsMissing (spelled_of (mark_of r.ahead.sort)) e r r'

-- Two numbers in parentheses were read. They serve as the numbers of a field, whatever it is for, and as the bounds
-- of an array.
pub record IsRange (x : Range) (r r' : Reader) : Type 0 where
  pub field : (u : Use) (k : List Goal) → runs r (symbol sign.Open ∷ bits u ∷ k) ≡ runs r' (after_field u x.first x.second x.offset k)
  pub bounds : (c : ValueType) (n : List ℕ) (p : ℕ) (k : List Goal) → runs r (symbol sign.Open ∷ low c n p ∷ k) ≡ runs r' (put (node.Array n c x.first x.second p x.offset) ∷ k)

-- Two numbers in parentheses are refused with this fault, both as the numbers of a field and as the bounds of an
-- array.
pub record IsNoRange (r : Reader) (e : GrammarFault) : Type 0 where
  pub field : (u : Use) (k : List Goal) → runs r (symbol sign.Open ∷ bits u ∷ k) ≡ Err (refusal_of e)
  pub bounds : (c : ValueType) (n : List ℕ) (p : ℕ) (k : List Goal) → runs r (symbol sign.Open ∷ low c n p ∷ k) ≡ Err (refusal_of e)

-- What the reader of two numbers in parentheses leaves: it has read them, or it answers the refusal.
abbrev pub ReadsRange : Reader → Reader → Result Range GrammarFault → Type 0
ReadsRange r r' (Ok x) = Keeps r r' × Fits 0 2 r r' × IsRange x r r'
ReadsRange r r' (Err e) = Keeps r r' × IsNoRange r e

-- What the reader of the first part of an operand leaves: everything before the first operator of this strength is
-- read, or it answers the refusal.
abbrev pub ReadsFirst : Strength → (l : ℕ) → Reader → Reader → Result (Unit {0}) GrammarFault → Type 0
ReadsFirst s l r r' (Ok u) =
    Keeps r r' × Fits 0 1 r r' × ((k : List Goal) → runs r (wants s l ++ k) ≡ runs r' (more s l ∷ k))
ReadsFirst s l r r' (Err e) = Keeps r r' × ((k : List Goal) → runs r (wants s l ++ k) ≡ Err (refusal_of e))

-- A statement was read. This is said for each of the goals that may stand below a statement.
pub record IsStatement (l : ℕ) (r r' : Reader) : Type 0 where
  pub in_block : (k : List Goal) → runs r (stmt l ∷ block l ∷ k) ≡ runs r' (block l ∷ k)
  pub in_case : (k : List Goal) → runs r (stmt l ∷ arms l ∷ k) ≡ runs r' (arms l ∷ k)
  pub in_then : (k : List Goal) → runs r (stmt l ∷ otherwise l ∷ k) ≡ runs r' (otherwise l ∷ k)
  pub in_else : (k : List Goal) → runs r (stmt l ∷ put node.Fi ∷ k) ≡ runs r' (put node.Fi ∷ k)
  pub in_while : (k : List Goal) → runs r (stmt l ∷ put node.Loop ∷ k) ≡ runs r' (put node.Loop ∷ k)
  pub in_do : (k : List Goal) → runs r (stmt l ∷ word kw.Until ∷ put node.Until ∷ condition l ++ put node.Done ∷ k) ≡ runs r' (word kw.Until ∷ put node.Until ∷ condition l ++ put node.Done ∷ k)
  pub in_for : (n : List ℕ) (k : List Goal) → runs r (stmt l ∷ put (node.Next n) ∷ put node.Drop ∷ k) ≡ runs r' (put (node.Next n) ∷ put node.Drop ∷ k)

-- A statement is refused with this fault. This is said for each of the goals that may stand below a statement.
pub record IsNoStatement (l : ℕ) (r : Reader) (e : GrammarFault) : Type 0 where
  pub in_block : (k : List Goal) → runs r (stmt l ∷ block l ∷ k) ≡ Err (refusal_of e)
  pub in_case : (k : List Goal) → runs r (stmt l ∷ arms l ∷ k) ≡ Err (refusal_of e)
  pub in_then : (k : List Goal) → runs r (stmt l ∷ otherwise l ∷ k) ≡ Err (refusal_of e)
  pub in_else : (k : List Goal) → runs r (stmt l ∷ put node.Fi ∷ k) ≡ Err (refusal_of e)
  pub in_while : (k : List Goal) → runs r (stmt l ∷ put node.Loop ∷ k) ≡ Err (refusal_of e)
  pub in_do : (k : List Goal) → runs r (stmt l ∷ word kw.Until ∷ put node.Until ∷ condition l ++ put node.Done ∷ k) ≡ Err (refusal_of e)
  pub in_for : (n : List ℕ) (k : List Goal) → runs r (stmt l ∷ put (node.Next n) ∷ put node.Drop ∷ k) ≡ Err (refusal_of e)

-- What the reader of a statement leaves: it has read it, or it answers the refusal.
abbrev pub ReadsStatement : ℕ → Reader → Reader → Result (Unit {0}) GrammarFault → Type 0
ReadsStatement l r r' (Ok u) = Keeps r r' × Fits 0 0 r r' × IsStatement l r r'
ReadsStatement l r r' (Err e) = Keeps r r' × IsNoStatement l r e

-- What the reader of a program leaves. The BEGIN of the program has no nodes, so two of the granted nodes are
-- left.
abbrev pub ReadsProgram : Reader → Reader → Result (Unit {0}) GrammarFault → Type 0
ReadsProgram r r' (Ok u) = Keeps r r' × Fits 0 2 r r' × (runs r program ≡ Ok (node_list r'.out.now))
ReadsProgram r r' (Err e) = Keeps r r' × (runs r program ≡ Err (refusal_of e))

-- The text bs read as a program: o' are the nodes after it, if o were those before it; or this is its refusal.
abbrev pub ReadsWhole : List ℕ → (o o' : List Node) → Result (Unit {0}) GrammarFault → Type 0
ReadsWhole bs o o' (Ok u) = behind (length bs) bs program o ≡ Ok o'
ReadsWhole bs o o' (Err e) = behind (length bs) bs program o ≡ Err (refusal_of e)
