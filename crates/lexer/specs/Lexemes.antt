-- The bytes that tokens, blanks and comments are made of.
use Rattle.std.specs.Prelude.{ℕ, ◌+◌, ◌-◌, ◌*◌, Bool, false, cond, ◌&&◌, ◌||◌, List, [], ◌∷◌, drop, Some, None, codes, Option, ◌==◌, nat_le, nat_lt}
use Rattle.std.specs.Option.{option_map}
use Rattle.lexer.specs.declared.token.Radix.{Radix}
use Rattle.lexer.specs.declared.token.Radix.TheVariants.{Decimal, Octal}
use Rattle.lexer.specs.declared.token.Symbol.{Symbol}
use Rattle.lexer.specs.declared.token.Symbol.TheVariants.{Becomes, Unequal, AtMost, AtLeast, Semicolon, Comma, Dot, Open, Close, Colon, Equal, Less, Greater, Plus, Minus, Times, Divide, Ampersand}

-- `A` to `Z`.
abbrev pub capital : ℕ → Bool
capital b = nat_le 65 b && nat_le b 90

-- `0` to `9`.
abbrev pub digit : ℕ → Bool
digit b = nat_le 48 b && nat_le b 57

-- `0` to `7`.
abbrev pub octal : ℕ → Bool
octal b = nat_le 48 b && nat_le b 55

-- Space, carriage return or line feed.
abbrev pub blank : ℕ → Bool
blank b = b == 32 || (b == 13 || b == 10)

-- What may follow the first letter of a word: capitals, digits and apostrophes.
abbrev pub word_byte : ℕ → Bool
word_byte b = capital b || (digit b || b == 39)

-- The digits of a number of each radix.
abbrev pub digit_of : Radix → ℕ → Bool
digit_of Decimal = digit
digit_of Octal = octal

-- The base of a number of each radix.
abbrev pub base_of : Radix → ℕ
base_of Decimal = 10
base_of Octal = 8

-- The largest value of a number of each radix.
abbrev pub most_of : Radix → ℕ
most_of Decimal = 32767
most_of Octal = 65535

-- The value of digits in a base, if the digits before them have the value v.
unfoldable pub value_of : (base v : ℕ) → List ℕ → ℕ
value_of base v [] = v
value_of base v (d ∷ ds) = value_of base (v * base + (d - 48)) ds

-- The value v, if it is at most `most`.
abbrev pub within : (most v : ℕ) → Option ℕ
within most v = cond (nat_lt most v) None (Some v)

-- A blank is at the front.
abbrev pub blanks : List ℕ → Bool
blanks [] = false
blanks (b ∷ rest) = blank b

-- A comment begins at the front: `<<`.
abbrev pub opens : List ℕ → Bool
opens [] = false
opens (b ∷ []) = false
opens (b ∷ d ∷ rest) = b == 60 && d == 60

-- How many bytes there are up to the end of the next `>>`; none if there is no `>>`.
unfoldable pub closing : List ℕ → Option ℕ
closing [] = None
closing (b ∷ []) = None
closing (b ∷ d ∷ rest) = cond (b == 62 && d == 62) (Some 2) (option_map (λ n. n + 1) (closing (d ∷ rest)))

-- How many bytes a comment takes, from the number after its `<<`; 0 if it has no end.
abbrev pub comment_width : Option ℕ → ℕ
comment_width None = 0
comment_width (Some n) = n + 2

-- How many bytes the blank or the closed comment at the front takes; 0 if neither is there.
unfoldable pub gap_of : List ℕ → ℕ
gap_of xs = cond (blanks xs) 1 (cond (opens xs) (comment_width (closing (drop 2 xs))) 0)

-- What a token begins with.
pub data Start : Type 0 where
  Letter : Start
  Digit : Start
  Percent : Start
  Comment : Start
  Other : Start

-- What the token at the front of a text begins with.
abbrev pub start_of : List ℕ → Start
start_of [] = Other
start_of (b ∷ bs) =
    cond (capital b) Letter (cond (digit b) Digit (cond (b == 37) Percent (cond (opens (b ∷ bs)) Comment Other)))

-- How each symbol is written.
abbrev pub symbol_text : Symbol → List ℕ
symbol_text Becomes = codes ":="
symbol_text Unequal = codes "<>"
symbol_text AtMost = codes "<="
symbol_text AtLeast = codes ">="
symbol_text Semicolon = codes ";"
symbol_text Comma = codes ","
symbol_text Dot = codes "."
symbol_text Open = codes "("
symbol_text Close = codes ")"
symbol_text Colon = codes ":"
symbol_text Equal = codes "="
symbol_text Less = codes "<"
symbol_text Greater = codes ">"
symbol_text Plus = codes "+"
symbol_text Minus = codes "-"
symbol_text Times = codes "*"
symbol_text Divide = codes "/"
symbol_text Ampersand = codes "&"

-- The symbol of one byte b, with its number of bytes.
abbrev pub single : ℕ → Option (Symbol × ℕ)
single b =
    cond (b == 59) (Some (Semicolon, 1)) (cond (b == 44) (Some (Comma, 1)) (cond (b == 46) (Some (Dot, 1))
    (cond (b == 40) (Some (Open, 1)) (cond (b == 41) (Some (Close, 1)) (cond (b == 58) (Some (Colon, 1))
    (cond (b == 61) (Some (Equal, 1)) (cond (b == 60) (Some (Less, 1)) (cond (b == 62) (Some (Greater, 1))
    (cond (b == 43) (Some (Plus, 1)) (cond (b == 45) (Some (Minus, 1)) (cond (b == 42) (Some (Times, 1))
    (cond (b == 47) (Some (Divide, 1)) (cond (b == 38) (Some (Ampersand, 1)) None)))))))))))))

-- The symbol at the front of two bytes b and d, with its number of bytes. One of two bytes is tried first.
abbrev pub double : ℕ → ℕ → Option (Symbol × ℕ)
double b d =
    cond (b == 58) (cond (d == 61) (Some (Becomes, 2)) (single b))
    (cond (b == 60) (cond (d == 62) (Some (Unequal, 2)) (cond (d == 61) (Some (AtMost, 2)) (single b)))
    (cond (b == 62) (cond (d == 61) (Some (AtLeast, 2)) (single b)) (single b)))

-- The symbol at the front of a text, and how many bytes it takes.
abbrev pub sign_of : List ℕ → Option (Symbol × ℕ)
sign_of [] = None
sign_of (b ∷ []) = single b
sign_of (b ∷ d ∷ rest) = double b d
