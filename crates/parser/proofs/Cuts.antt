-- One token cut from a text. Assumes nothing.
use Rattle.std.proofs.Common.{◌≡◌, ℕ, ◌≤◌, List, [], ◌∷◌, ◌++◌, refl, ap, ◌∙◌, arith}
use Rattle.base.specs.Refusals.{refuse}
use Rattle.lexer.specs.Cut.{Piece, tokens_left}
use Rattle.parser.specs.Nodes.{Node}
use Rattle.parser.specs.Nodes as node
use Rattle.parser.specs.Marks.{Mark, keyword, symbol, name, number, stop, live, piece_tok}
use Rattle.parser.specs.Machine.{Goal, Onward, sym, word, put, relation, lead, primary, paren, more, compare, fields, named, bits, upto, shift, count, test, clauses, stmt, block, otherwise, arms, target, target_at, becomes, variable, stepped, declarations, typed, simple, comma, item, low, high, finish, turns, statement_at, step_at, limit_at, feed, ending, later, behind}

-- nothing is read past the end of the text
stop_same : (end : ℕ) (next other : Onward) (g : List Goal) (o : List Node) → feed (ending end) next g o ≡ feed (ending end) other g o
unfolding statement_at step_at limit_at
stop_same end next other [] o = refl
stop_same end next other (put e ∷ g) o = stop_same end next other g (o ++ e ∷ [])
stop_same end next other (sym s ∷ g) o = refl
stop_same end next other (word w ∷ g) o = refl
stop_same end next other (relation l ∷ g) o = refl
stop_same end next other (lead l ∷ g) o = refl
stop_same end next other (primary l ∷ g) o = refl
stop_same end next other (paren l ∷ g) o = refl
stop_same end next other (more s l ∷ g) o = stop_same end next other g o
stop_same end next other (compare l ∷ g) o = stop_same end next other g o
stop_same end next other (fields ∷ g) o = stop_same end next other g o
stop_same end next other (named n p l ∷ g) o = stop_same end next other g (o ++ node.Load n p ∷ [])
stop_same end next other (bits u ∷ g) o = refl
stop_same end next other (upto u a p ∷ g) o = refl
stop_same end next other (shift ∷ g) o = refl
stop_same end next other (count s ∷ g) o = refl
stop_same end next other (test l ∷ g) o = refl
stop_same end next other (clauses l ∷ g) o = stop_same end next other g o
stop_same end next other (stmt l ∷ g) o = stop_same end next other g o
stop_same end next other (block l ∷ g) o = refl
stop_same end next other (otherwise l ∷ g) o = stop_same end next other g (o ++ node.Fi ∷ [])
stop_same end next other (arms l ∷ g) o = refl
stop_same end next other (target n p l ∷ g) o = refl
stop_same end next other (target_at n p q l ∷ g) o = refl
stop_same end next other (becomes s n p l a b q ∷ g) o = refl
stop_same end next other (variable f l ∷ g) o = refl
stop_same end next other (stepped n p f l ∷ g) o = refl
stop_same end next other (turns n p f l ∷ g) o = refl
stop_same end next other (declarations ∷ g) o = stop_same end next other g o
stop_same end next other (typed c ∷ g) o = refl
stop_same end next other (simple c ∷ g) o = refl
stop_same end next other (comma a c ∷ g) o = refl
stop_same end next other (item c ∷ g) o = refl
stop_same end next other (low c n p ∷ g) o = refl
stop_same end next other (high c n p a q ∷ g) o = refl
stop_same end next other (finish ∷ g) o = refl

pub behind_token : (end : ℕ) (bs cs : List ℕ) (p : Piece) → tokens_left end bs ≡ p ∷ tokens_left end cs → (g : List Goal) (o : List Node) → behind end bs g o ≡ feed (piece_tok p) (behind end cs) g o
unfolding behind later
behind_token end bs cs p e g o = ap (λ ps. later end ps g o) e

pub behind_end : (end : ℕ) (bs : List ℕ) → tokens_left end bs ≡ [] → (g : List Goal) (o : List Node) → behind end bs g o ≡ feed (ending end) (behind end bs) g o
unfolding behind later
behind_end end bs e g o = ap (λ ps. later end ps g o) e ∙ stop_same end (λ _ _. refuse 5 end) (behind end bs) g o

pub live_least : (m : Mark) → live m ≤ 1
live_least (keyword w) = omega arith
live_least (symbol s) = omega arith
live_least (name n) = omega arith
live_least (number k v) = omega arith
live_least stop = omega arith
