-- The lexical grammar: which bytes have the form of a token, whatever their number and value, and which token they
-- spell.
use Rattle.std.specs.Prelude.{Bool, ◌≡◌, ℕ, ◌<◌, ◌≤◌, true, ◌⊎◌, List, [], ◌∷◌, ◌++◌, length, drop}
use Rattle.std.specs.List.{AllByRecursion}
use Rattle.base.specs.Limits.{most_name_bytes}
use Rattle.lexer.specs.declared.token.Radix.TheVariants.{Decimal, Octal}
use Rattle.lexer.specs.declared.token.Symbol.{Symbol}
use Rattle.lexer.specs.Lexemes.{capital, digit, octal, word_byte, most_of, value_of, symbol_text}
use Rattle.lexer.specs.Cut.{Piece, word, number, symbol}

-- Every byte is of the class k.
abbrev pub AllOf : (ℕ → Bool) → List ℕ → Type 0
AllOf k bs = AllByRecursion (λ b. k b ≡ true) bs

-- The form of a word: a capital letter, then capitals, digits and apostrophes.
abbrev pub WordForm : List ℕ → Type 0
WordForm [] = ⊥
WordForm (b ∷ bs) = (capital b ≡ true) × AllOf word_byte bs

-- The form of a decimal number: digits, at least one.
abbrev pub DecimalForm : List ℕ → Type 0
DecimalForm [] = ⊥
DecimalForm (b ∷ bs) = (digit b ≡ true) × AllOf digit bs

-- The form of an octal number: `%`, then octal digits, perhaps none.
abbrev pub OctalForm : List ℕ → Type 0
OctalForm [] = ⊥
OctalForm (b ∷ bs) = (b ≡ 37) × AllOf octal bs

-- The form of a symbol: one of the 18 symbols as it is written.
abbrev pub SymbolForm : List ℕ → Type 0
SymbolForm w = (s : Symbol) × (w ≡ symbol_text s)

-- The bytes w have the form of a token.
abbrev pub Form : List ℕ → Type 0
Form w = WordForm w ⊎ (DecimalForm w ⊎ (OctalForm w ⊎ SymbolForm w))

-- The bytes w spell this token: they have its form and are within its limits, and the token has their text and value.
abbrev pub Spells : Piece → List ℕ → Type 0
Spells (word text p) w = (text ≡ w) × WordForm w × (length w ≤ most_name_bytes)
Spells (number text Decimal v p) w = (text ≡ w) × DecimalForm w × (v ≡ value_of 10 0 w) × (v ≤ most_of Decimal)
Spells (number text Octal v p) w =
    (text ≡ w) × OctalForm w × (v ≡ value_of 8 0 (drop 1 w)) × (v ≤ most_of Octal) × (1 < length w)
Spells (symbol s p) w = w ≡ symbol_text s

-- The offset of a token.
abbrev pub offset_of : Piece → ℕ
offset_of (word text p) = p
offset_of (number text radix v p) = p
offset_of (symbol s p) = p

-- No longer part of the text that begins where w begins has the form of a token. `rest` is the text after w.
abbrev pub Longest : (w rest : List ℕ) → Type 0
Longest w rest = (v later : List ℕ) → w ++ rest ≡ v ++ later → Form v → length v ≤ length w
