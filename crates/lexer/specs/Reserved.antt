-- The reserved words.
use Rattle.std.specs.Prelude.{ℕ, List, [], ◌∷◌, take, codes, Option}
use Rattle.std.specs.Option.{option_map}
use Rattle.lexer.specs.Names.{first_named}
use Rattle.lexer.specs.declared.reserved.Reserved.{Reserved}
use Rattle.lexer.specs.declared.token.Keyword.{Keyword}
use Rattle.lexer.specs.declared.token.Keyword.TheVariants.{Begin, End, Integer, Logical, Array, If, Then, Else, Case, Of, While, Do, Until, For, Step, Or, And, Mod, Lnot, Land, Xor, Lor, Lsl, Lsr, Asr, Csl, Csr, True, False, Comment}

-- A reserved word: its bytes and which keyword it is.
pub record Word : Type 0 where
  pub text : List ℕ
  pub keyword : Keyword

-- All reserved words.
unfoldable pub reserved_words : List Word
reserved_words =
    record { text = codes "BEGIN"; keyword = Begin } ∷
    record { text = codes "END"; keyword = End } ∷
    record { text = codes "INTEGER"; keyword = Integer } ∷
    record { text = codes "LOGICAL"; keyword = Logical } ∷
    record { text = codes "ARRAY"; keyword = Array } ∷
    record { text = codes "IF"; keyword = If } ∷
    record { text = codes "THEN"; keyword = Then } ∷
    record { text = codes "ELSE"; keyword = Else } ∷
    record { text = codes "CASE"; keyword = Case } ∷
    record { text = codes "OF"; keyword = Of } ∷
    record { text = codes "WHILE"; keyword = While } ∷
    record { text = codes "DO"; keyword = Do } ∷
    record { text = codes "UNTIL"; keyword = Until } ∷
    record { text = codes "FOR"; keyword = For } ∷
    record { text = codes "STEP"; keyword = Step } ∷
    record { text = codes "OR"; keyword = Or } ∷
    record { text = codes "AND"; keyword = And } ∷
    record { text = codes "MOD"; keyword = Mod } ∷
    record { text = codes "LNOT"; keyword = Lnot } ∷
    record { text = codes "LAND"; keyword = Land } ∷
    record { text = codes "XOR"; keyword = Xor } ∷
    record { text = codes "LOR"; keyword = Lor } ∷
    record { text = codes "LSL"; keyword = Lsl } ∷
    record { text = codes "LSR"; keyword = Lsr } ∷
    record { text = codes "ASR"; keyword = Asr } ∷
    record { text = codes "CSL"; keyword = Csl } ∷
    record { text = codes "CSR"; keyword = Csr } ∷
    record { text = codes "TRUE"; keyword = True } ∷
    record { text = codes "FALSE"; keyword = False } ∷
    record { text = codes "COMMENT"; keyword = Comment } ∷
    []

-- The bytes that an entry of the code's table of reserved words holds.
abbrev pub word_bytes : Reserved → List ℕ
word_bytes e = take e.len e.bytes

-- What such an entry says.
abbrev pub entry_of : Reserved → Word
entry_of e = record { text = word_bytes e; keyword = e.keyword }

-- The keyword of the first entry of the list whose text is w, if there is one.
abbrev pub lookup : List Word → List ℕ → Option Keyword
lookup es w = option_map (λ (e : Word). e.keyword) (first_named (λ (e : Word). e.text) es w)

-- Which reserved word w is, if it is one.
unfoldable pub keyword_of : List ℕ → Option Keyword
keyword_of w = lookup reserved_words w
