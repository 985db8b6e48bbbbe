-- How a text is cut into tokens, from its front.
use Rattle.std.specs.Prelude.{◌≡◌, ℕ, zero, suc, ◌+◌, ◌-◌, ◌<◌, ◌≤◌, cond, List, [], ◌∷◌, length, take, drop, Some, None, Ok, Err, Option, Result, ◌==◌, nat_le, nat_lt}
use Rattle.std.specs.Borrow.{Bor}
use Rattle.std.specs.Option.{option_map}
use Rattle.std.specs.List.{prefix_len}
use Rattle.base.specs.Limits.{most_source_bytes, most_name_bytes}
use Rattle.base.specs.declared.refusal.Refusal.{Refusal}
use Rattle.base.specs.Refusals.{refuse}
use Rattle.lexer.specs.declared.token.Radix.{Radix}
use Rattle.lexer.specs.declared.token.Radix.TheVariants.{Decimal, Octal}
use Rattle.lexer.specs.declared.token.Symbol.{Symbol}
use Rattle.lexer.specs.declared.token.Token.{Token}
use Rattle.lexer.specs.declared.token.Token.TheVariants as token
use Rattle.lexer.specs.declared.fault.TextFault.{TextFault}
use Rattle.lexer.specs.Faults.{refusal_of}
use Rattle.lexer.specs.Lexemes.{Start, Letter, Digit, Percent, Comment, Other, word_byte, digit_of, base_of, most_of, value_of, within, start_of, gap_of, sign_of}

-- A token by its values: its bytes, or which symbol it is, and the offset of its first byte. It borrows nothing.
pub data Piece : Type 0 where
  word : (text : List ℕ) (offset : ℕ) → Piece
  number : (text : List ℕ) (radix : Radix) (value offset : ℕ) → Piece
  symbol : Symbol → (offset : ℕ) → Piece

-- The values of a token of the code.
abbrev pub piece : Token → Piece
piece (token.Word text p) = word text.now p
piece (token.Number text radix n p) = number text.now radix n p
piece (token.Symbol s p) = symbol s p

-- If the token is a word, it has at most 15 bytes.
abbrev pub Short : Piece → Type 0
Short (word text p) = length text ≤ most_name_bytes
Short (number text radix v p) = Unit {0}
Short (symbol s p) = Unit {0}

-- The token at the front of a text and how many bytes it takes; or the refusal there.
abbrev pub Front : Type 0
Front = Result (Piece × ℕ) Refusal

-- The token t, which takes n bytes.
abbrev pub good : Piece → ℕ → Front
good t n = Ok (t, n)

-- The word of the first n bytes of xs. A word of more than 15 bytes is refused with 3.
abbrev pub word_of : (offset n : ℕ) → List ℕ → Front
word_of p n xs = cond (nat_le n most_name_bytes) (good (word (take n xs) p) n) (refuse 3 p)

-- The number of the first `width` bytes of xs, if it has a value that its type allows, else refusal 3.
abbrev pub number_with_value : (offset width : ℕ) → Radix → List ℕ → Option ℕ → Front
number_with_value p width radix xs None = refuse 3 p
number_with_value p width radix xs (Some v) = good (number (take width xs) radix v p) width

-- The number that has n digits after `lead` bytes. It is refused with 3 if there is no digit or if its value is over
-- the limit of its radix.
abbrev pub number_of : (offset lead n : ℕ) → Radix → List ℕ → Front
number_of p lead n radix xs =
    cond (n == 0) (refuse 3 p) (number_with_value p (lead + n) radix xs (within (most_of radix) (value_of (base_of radix) 0 (take n (drop lead xs)))))

-- A symbol and the text after it, from a symbol and the number of its bytes.
abbrev pub with_rest : List ℕ → Symbol × ℕ → Symbol × List ℕ
with_rest xs s = (s.0, drop s.1 xs)

-- A symbol and the text after it, from the answer of the code.
abbrev pub symbol_and_rest : Symbol × Bor (List ℕ) → Symbol × List ℕ
symbol_and_rest s = (s.0, s.1.now)

-- The symbol that was found, with its place. If there is none, the refusal is 2.
abbrev pub symbol_of : (offset : ℕ) → Option (Symbol × ℕ) → Front
symbol_of p None = refuse 2 p
symbol_of p (Some s) = good (symbol s.0 p) s.1

-- The token at the front of a text, by what it begins with. Each token is as long as possible. The text has no blank
-- and no closed comment at its front.
abbrev pub front_from : (offset : ℕ) → List ℕ → Start → Front
front_from p xs Letter = word_of p (prefix_len word_byte xs) xs
front_from p xs Digit = number_of p 0 (prefix_len (digit_of Decimal) (drop 0 xs)) Decimal xs
front_from p xs Percent = number_of p 1 (prefix_len (digit_of Octal) (drop 1 xs)) Octal xs
front_from p xs Comment = refuse 4 p
front_from p xs Other = symbol_of p (sign_of xs)

-- The token at the front of such a text.
unfoldable pub lexeme : (offset : ℕ) → List ℕ → Front
lexeme p xs = front_from p xs (start_of xs)

-- What is left of a text after `skip` bytes and after the blanks and comments that then stand at its front.
unfoldable pub past : (skip : ℕ) → List ℕ → List ℕ
past skip [] = []
past (suc k) (b ∷ bs) = past k bs
past zero (b ∷ bs) = cond (gap_of (b ∷ bs) == 0) (b ∷ bs) (past (gap_of (b ∷ bs) - 1) bs)

-- The next token of a text and the text after it; none where the text is at its end; or the refusal there.
abbrev pub Next : Type 0
Next = Result (Option (Piece × List ℕ)) Refusal

-- The answer for the next token, from the token at the front of xs.
abbrev pub after : List ℕ → Front → Next
after xs (Ok f) = Ok (Some (f.0, drop f.1 xs))
after xs (Err e) = Err e

-- The next token of a text without blanks and closed comments at its front. The source ends at the offset `end`.
unfoldable pub first_of : (end : ℕ) → List ℕ → Next
first_of end [] = Ok None
first_of end (b ∷ bs) = after (b ∷ bs) (lexeme (end - length (b ∷ bs)) (b ∷ bs))

-- The next token of a text, after the blanks and comments at its front. The source ends at the offset `end`.
abbrev pub next_of : (end : ℕ) → List ℕ → Next
next_of end bs = first_of end (past 0 bs)

-- The values of a token of the code, and the text after it.
abbrev pub piece_and_rest : Token × Bor (List ℕ) → Piece × List ℕ
piece_and_rest p = (piece p.0, p.1.now)

-- The answer of the code for a token, with the values of the token, and with the number and place of a refusal.
abbrev pub front_answer : Result (Token × Bor (List ℕ)) TextFault → Next
front_answer (Ok p) = Ok (Some (piece_and_rest p))
front_answer (Err e) = Err (refusal_of e)

-- The answer of the code for the next token, with the values of the token, and with the number and place of a
-- refusal.
abbrev pub next_answer : Result (Option (Token × Bor (List ℕ))) TextFault → Next
next_answer (Ok o) = Ok (option_map piece_and_rest o)
next_answer (Err e) = Err (refusal_of e)

-- The token in an answer; none where the text is at its end, and none where it is refused.
abbrev pub token_of_next : Next → Option (Piece × List ℕ)
token_of_next (Ok o) = o
token_of_next (Err e) = None

-- The tokens of a text up to the first refusal, and that refusal, if there is one.
pub record Cut : Type 0 where
  pub tokens : List Piece
  pub fault : Option Refusal

-- The cut of a text whose front is a token or a refusal. `later` is the cut of the text after that token.
abbrev pub onward : Front → Cut → Cut
onward (Ok f) later = record { tokens = f.0 ∷ later.tokens; fault = later.fault }
onward (Err e) later = record { tokens = []; fault = Some e }

-- How many bytes the token at the front takes; 0 if it is refused.
abbrev pub width_of : Front → ℕ
width_of (Ok f) = f.1
width_of (Err e) = 0

-- The cut of a text after `skip` more bytes are passed over. The source ends at the offset `end`.
unfoldable pub cut : (end skip : ℕ) → List ℕ → Cut
cut end skip [] = record { tokens = []; fault = None }
cut end (suc k) (b ∷ bs) = cut end k bs
cut end zero (b ∷ bs) =
    cond (gap_of (b ∷ bs) == 0)
    (onward (lexeme (end - length (b ∷ bs)) (b ∷ bs)) (cut end (width_of (lexeme (end - length (b ∷ bs)) (b ∷ bs)) - 1) bs))
    (cut end (gap_of (b ∷ bs) - 1) bs)

-- The tokens of a text up to the first refusal, if there is one. The source ends at the place `end`.
unfoldable pub tokens_left : (end : ℕ) → List ℕ → List Piece
tokens_left end bs = (cut end 0 bs).tokens

-- The first refusal of a text, if there is one.
unfoldable pub fault : (end : ℕ) → List ℕ → Option Refusal
fault end bs = (cut end 0 bs).fault

-- An answer of the code for the next token agrees with these: no token and no refusal are left; or the token is the
-- first of those that are left, and the rest of the cut is that of the text after it; or the refusal is the first.
abbrev pub Steps : (end : ℕ) → List ℕ → Result (Option (Token × Bor (List ℕ))) TextFault → Type 0
Steps end bs (Ok None) = (tokens_left end bs ≡ []) × (fault end bs ≡ None)
Steps end bs (Ok (Some x)) =
    (tokens_left end bs ≡ piece x.0 ∷ tokens_left end x.1.now) × (fault end bs ≡ fault end x.1.now) × (length x.1.now < length bs)
Steps end bs (Err e) = (tokens_left end bs ≡ []) × (fault end bs ≡ Some (refusal_of e))

-- The tokens of a whole text, or its first refusal.
abbrev pub tokens_unless_fault : List Piece → Option Refusal → Result (List Piece) Refusal
tokens_unless_fault ts None = Ok ts
tokens_unless_fault ts (Some e) = Err e

-- The answer for a source: its tokens, or its first refusal. A source of over 32,768 bytes is refused with 1.
unfoldable pub token_list : List ℕ → Result (List Piece) Refusal
token_list source =
    cond (nat_lt most_source_bytes (length source)) (refuse 1 most_source_bytes) (tokens_unless_fault (tokens_left (length source) source) (fault (length source) source))
