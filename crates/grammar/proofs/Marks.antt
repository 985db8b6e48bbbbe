-- Marks told apart: what one class of marks is, it is not of another. Assumes nothing.
use Rattle.std.proofs.Common.{◌≡◌, ℕ, suc, ◌≤◌, max, Bool, true, false, cond, List, Some, None, Option, sym, refl, ap, ◌∙◌, arith}
use Rattle.std.proofs.lemmas.Bool.{false_from_ne_true}
use denote.Enum.Bare.{same_true, false_same, true_same}
use Rattle.grammar.specs.Theorems.{ToldApart}
use Rattle.parser.specs.declared.value_type.ValueType.{ValueType}
use Rattle.lexer.specs.declared.token.Keyword.{Keyword}
use Rattle.lexer.specs.declared.token.Keyword.TheVariants as kw
use Rattle.lexer.specs.declared.token.Symbol.{Symbol}
use Rattle.lexer.specs.declared.token.Symbol.TheVariants as sign
use Rattle.lexer.specs.contracts.token.Keyword.{the_type as keyword_type}
use Rattle.lexer.specs.contracts.token.Symbol.{the_type as symbol_type}
use Rattle.lexer.specs.Cut.{Piece}
use Rattle.lexer.specs.Cut as piece
use Rattle.lexer.specs.Reserved.{keyword_of}
use Rattle.parser.specs.declared.node.Operator.{Operator}
use Rattle.parser.specs.declared.lexeme.Strength.{Strength}
use Rattle.parser.specs.declared.lexeme.Strength.TheVariants as strength
use Rattle.parser.specs.contracts.lexeme.Strength.{the_type as strength_type}
use Rattle.parser.specs.Marks.{Mark, keyword, symbol, name, number, stop, piece_tok, word_mark, is_stop, is_symbol, is_keyword, same_strength, literal_of, type_of, operator_at, operator_sign, operator_word, strength_of, of_strength, truth_word, truth_at, type_word}

-- Booleans and options
pub both : {A : Type 0} {b : Bool} → b ≡ true → b ≡ false → A
both p q = absurd cc

pub empty : {A B : Type 0} {x : A} {o : Option A} → o ≡ Some x → o ≡ None → B
empty p q = absurd cc

pub symbol_is : (s : Symbol) (m : Mark) → is_symbol s m ≡ true → m ≡ symbol s
symbol_is s (symbol x) h = ap symbol (sym (same_true symbol_type tt s x h))
symbol_is s (keyword w) h = absurd cc
symbol_is s (name n) h = absurd cc
symbol_is s (number k v) h = absurd cc
symbol_is s stop h = absurd cc

pub keyword_is : (w : Keyword) (m : Mark) → is_keyword w m ≡ true → m ≡ keyword w
keyword_is w (keyword x) h = ap keyword (sym (same_true keyword_type tt w x h))
keyword_is w (symbol s) h = absurd cc
keyword_is w (name n) h = absurd cc
keyword_is w (number k v) h = absurd cc
keyword_is w stop h = absurd cc

-- a mark that a function answers to is not one that it does not
pub not_keyword : {A : Type 0} (f : Mark → Option A) (w : Keyword) (m : Mark) {x : A} → f (keyword w) ≡ None → f m ≡ Some x → is_keyword w m ≡ false
not_keyword f w m n h = false_from_ne_true _ (λ t. empty h (ap f (keyword_is w m t) ∙ n))

pub not_symbol : {A : Type 0} (f : Mark → Option A) (s : Symbol) (m : Mark) {x : A} → f (symbol s) ≡ None → f m ≡ Some x → is_symbol s m ≡ false
not_symbol f s m n h = false_from_ne_true _ (λ t. empty h (ap f (symbol_is s m t) ∙ n))

-- a type's word is no literal
word_type : (w : Keyword) {k : ValueType} → type_word w ≡ Some k → truth_at (truth_word w) ≡ None
word_type kw.Begin h = refl
word_type kw.End h = refl
word_type kw.Integer h = refl
word_type kw.Logical h = refl
word_type kw.Array h = refl
word_type kw.If h = refl
word_type kw.Then h = refl
word_type kw.Else h = refl
word_type kw.Case h = refl
word_type kw.Of h = refl
word_type kw.While h = refl
word_type kw.Do h = refl
word_type kw.Until h = refl
word_type kw.For h = refl
word_type kw.Step h = refl
word_type kw.Or h = refl
word_type kw.And h = refl
word_type kw.Mod h = refl
word_type kw.Lnot h = refl
word_type kw.Land h = refl
word_type kw.Xor h = refl
word_type kw.Lor h = refl
word_type kw.Lsl h = refl
word_type kw.Lsr h = refl
word_type kw.Asr h = refl
word_type kw.Csl h = refl
word_type kw.Csr h = refl
word_type kw.True h = absurd cc
word_type kw.False h = absurd cc
word_type kw.Comment h = refl

pub type_literal : (m : Mark) {k : ValueType} → type_of m ≡ Some k → literal_of m ≡ None
type_literal (keyword w) h = word_type w h
type_literal (symbol s) h = refl
type_literal (name n) h = refl
type_literal (number k v) h = absurd cc
type_literal stop h = refl

-- the strengths from the weakest
abbrev pub rank_of : Strength → ℕ
rank_of strength.Lor = 0
rank_of strength.Xor = 1
rank_of strength.Land = 2
rank_of strength.Relation = 3
rank_of strength.Sum = 4
rank_of strength.Term = 5

-- How strongly a mark can take hold of what stands before it: an operator by its strength, a field or a shift more
-- strongly, a parenthesis most.
abbrev grip_of : Option Operator → ℕ
grip_of None = 0
grip_of (Some o) = suc (rank_of (strength_of o))

abbrev suffix : Symbol → ℕ
suffix sign.Becomes = 0
suffix sign.Unequal = 0
suffix sign.AtMost = 0
suffix sign.AtLeast = 0
suffix sign.Semicolon = 0
suffix sign.Comma = 0
suffix sign.Dot = 7
suffix sign.Open = 8
suffix sign.Close = 0
suffix sign.Colon = 0
suffix sign.Equal = 0
suffix sign.Less = 0
suffix sign.Greater = 0
suffix sign.Plus = 0
suffix sign.Minus = 0
suffix sign.Times = 0
suffix sign.Divide = 0
suffix sign.Ampersand = 7

abbrev pub grip : Mark → ℕ
grip (keyword w) = grip_of (operator_word w)
grip (symbol s) = max (grip_of (operator_sign s)) (suffix s)
grip (name n) = 0
grip (number k v) = 0
grip stop = 0

suffix_none : (s : Symbol) (o : Operator) → operator_sign s ≡ Some o → suffix s ≡ 0
suffix_none sign.Becomes o h = refl
suffix_none sign.Unequal o h = refl
suffix_none sign.AtMost o h = refl
suffix_none sign.AtLeast o h = refl
suffix_none sign.Semicolon o h = refl
suffix_none sign.Comma o h = refl
suffix_none sign.Dot o h = absurd cc
suffix_none sign.Open o h = absurd cc
suffix_none sign.Close o h = refl
suffix_none sign.Colon o h = refl
suffix_none sign.Equal o h = refl
suffix_none sign.Less o h = refl
suffix_none sign.Greater o h = refl
suffix_none sign.Plus o h = refl
suffix_none sign.Minus o h = refl
suffix_none sign.Times o h = refl
suffix_none sign.Divide o h = refl
suffix_none sign.Ampersand o h = absurd cc

kept_rank : (s : Strength) (x : Option Operator) {o : Operator} → of_strength s x ≡ Some o → grip_of x ≡ suc (rank_of s)
kept_rank s None h = empty (sym h ∙ h) (sym h)
kept_rank s (Some x) {o} h = go (same_strength s (strength_of x)) refl h
  where
    go : (b : Bool) → same_strength s (strength_of x) ≡ b → cond b (Some x) None ≡ Some o → suc (rank_of (strength_of x)) ≡ suc (rank_of s)
    go true e h = ap (λ r. suc (rank_of r)) (sym (same_true strength_type tt s (strength_of x) e))
    go false e h = absurd cc

some_of : (s : Strength) (x : Option Operator) {o : Operator} → of_strength s x ≡ Some o → (y : Operator) × (x ≡ Some y)
some_of s None h = empty (sym h ∙ h) (sym h)
some_of s (Some x) h = (x, refl)

pub operator_grip : (s : Strength) (m : Mark) {o : Operator} → operator_at s m ≡ Some o → grip m ≡ suc (rank_of s)
operator_grip s (keyword w) h = kept_rank s (operator_word w) h
operator_grip s (symbol x) h =
    let a = kept_rank s (operator_sign x) h in
    let y = some_of s (operator_sign x) h in
    let b = suffix_none x y.0 y.1 in
    omega arith
operator_grip s (name n) h = absurd cc
operator_grip s (number k v) h = absurd cc
operator_grip s stop h = absurd cc

kept_none : (s : Strength) (x : Option Operator) → grip_of x ≤ rank_of s → of_strength s x ≡ None
kept_none s None h = refl
kept_none s (Some x) h = ap (λ b. cond b (Some x) None) (false_same strength_type tt s (strength_of x) (λ e. let r = ap rank_of e in omega arith))

pub operator_none : (s : Strength) (m : Mark) → grip m ≤ rank_of s → operator_at s m ≡ None
operator_none s (keyword w) h = kept_none s (operator_word w) h
operator_none s (symbol x) h = kept_none s (operator_sign x) (omega arith)
operator_none s (name n) h = refl
operator_none s (number k v) h = refl
operator_none s stop h = refl

pub no_dot : (m : Mark) → grip m ≤ 6 → is_symbol sign.Dot m ≡ false
no_dot m h = false_from_ne_true _ (λ t. let e = ap grip (symbol_is sign.Dot m t) in omega arith)

pub no_ampersand : (m : Mark) → grip m ≤ 6 → is_symbol sign.Ampersand m ≡ false
no_ampersand m h = false_from_ne_true _ (λ t. let e = ap grip (symbol_is sign.Ampersand m t) in omega arith)

pub no_open : (m : Mark) → grip m ≤ 7 → is_symbol sign.Open m ≡ false
no_open m h = false_from_ne_true _ (λ t. let e = ap grip (symbol_is sign.Open m t) in omega arith)

-- no token of a text is its end
word_live : (w : List ℕ) (k : Option Keyword) → is_stop (word_mark w k) ≡ false
word_live w None = refl
word_live w (Some k) = refl

pub seen_live : (p : Piece) → is_stop (piece_tok p).sort ≡ false
seen_live (piece.word w p) = word_live w (keyword_of w)
seen_live (piece.number w k v p) = refl
seen_live (piece.symbol s p) = refl

pub told_apart : ToldApart
told_apart =
    record {
      symbols = λ a b. (same_true symbol_type tt a b, true_same symbol_type a b);
      keywords = λ a b. (same_true keyword_type tt a b, true_same keyword_type a b);
      strengths = λ a b. (same_true strength_type tt a b, true_same strength_type a b);
    }
