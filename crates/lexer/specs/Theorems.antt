-- What the definition of cutting a text gives, in the terms of the lexical grammar.
use Rattle.std.specs.Prelude.{◌≡◌, ℕ, ◌+◌, ◌<◌, ◌≤◌, true, false, ◌⊎◌, List, [], ◌∷◌, ◌++◌, length, drop, Ok, Err, Result, ◌≢◌}
use Rattle.std.specs.List.{flat_map}
use Rattle.base.specs.Limits.{most_source_bytes}
use Rattle.base.specs.declared.refusal.Refusal.{Refusal}
use Rattle.base.specs.Refusals.{refuse}
use Rattle.lexer.specs.Lexemes.{blank, blanks, opens}
use Rattle.lexer.specs.Cut.{Piece, token_list}
use Rattle.lexer.specs.Forms.{Form, Spells, offset_of, Longest}

-- A part of a text: a token with its bytes, a blank, or a comment. The body of a comment stands between `<<` and
-- `>>`.
pub data Part : Type 0 where
  token : Piece → (text : List ℕ) → Part
  gap : ℕ → Part
  comment : (body : List ℕ) → Part

-- The bytes of a part.
abbrev pub spelling : Part → List ℕ
spelling (token t w) = w
spelling (gap b) = b ∷ []
spelling (comment body) = 60 ∷ 60 ∷ (body ++ 62 ∷ 62 ∷ [])

-- The tokens among the parts.
abbrev pub tokens_in : List Part → List Piece
tokens_in [] = []
tokens_in (token t w ∷ ps) = t ∷ tokens_in ps
tokens_in (gap b ∷ ps) = tokens_in ps
tokens_in (comment body ∷ ps) = tokens_in ps

-- A part is right at its offset p, before the text `rest`. A token is the longest that begins there, the bytes spell
-- it, and no comment begins there. A blank is a blank byte. A comment ends with the first `>>`.
abbrev pub IsRightPart : (offset : ℕ) → Part → (rest : List ℕ) → Type 0
IsRightPart p (token t w) rest = (offset_of t ≡ p) × Spells t w × Longest w rest × (opens (w ++ rest) ≡ false)
IsRightPart p (gap b) rest = blank b ≡ true
IsRightPart p (comment body) rest =
    (before after : List ℕ) → body ++ 62 ∷ 62 ∷ rest ≡ before ++ 62 ∷ 62 ∷ after → length body ≤ length before

-- Each of the parts is right at its offset. The first stands at the offset p, and `rest` is the text after the last.
abbrev pub AreRightParts : (offset : ℕ) → List Part → (rest : List ℕ) → Type 0
AreRightParts p [] rest = Unit {0}
AreRightParts p (x ∷ xs) rest =
    IsRightPart p x (flat_map spelling xs ++ rest) × AreRightParts (p + length (spelling x)) xs rest

-- Neither a token, nor a blank, nor a comment begins at the front of `rest`, which is not empty.
abbrev pub NoToken : List ℕ → Type 0
NoToken rest =
    (0 < length rest) × (blanks rest ≡ false) × (opens rest ≡ false) × ((v later : List ℕ) → rest ≡ v ++ later → Form v → ⊥)

-- The longest bytes at the front of `rest` that have the form of a token spell no token.
pub record BadToken (rest : List ℕ) : Type 0 where
  pub run : List ℕ
  pub later : List ℕ
  pub front : rest ≡ run ++ later
  pub form : Form run
  pub longest : Longest run later
  pub spells_none : (t : Piece) → Spells t run → ⊥

-- A comment begins at the front of `rest` and has no end.
abbrev pub OpenComment : List ℕ → Type 0
OpenComment rest = (opens rest ≡ true) × ((before after : List ℕ) → drop 2 rest ≢ before ++ 62 ∷ 62 ∷ after)

-- The refusal r is the right one at the place p where `rest` begins.
abbrev pub IsRefusedAt : Refusal → (offset : ℕ) → (rest : List ℕ) → Type 0
IsRefusedAt r p rest =
    (r.place ≡ p) × (((r.number ≡ 2) × NoToken rest) ⊎ (((r.number ≡ 3) × BadToken rest) ⊎ ((r.number ≡ 4) × OpenComment rest)))

-- What comes after the parts: if the answer is a list of tokens, they are those of the parts and nothing is left; if
-- it is a refusal, it stands where the parts end.
abbrev pub Ending : Result (List Piece) Refusal → List Part → (rest : List ℕ) → Type 0
Ending (Ok ts) parts rest = (ts ≡ tokens_in parts) × (rest ≡ [])
Ending (Err r) parts rest = IsRefusedAt r (length (flat_map spelling parts)) rest

-- The answer for a source, explained by its parts. Put together again, in order and without a gap, the parts are the
-- source, or the part of it that lies before the refusal. Each part is right at its place. The tokens of the answer
-- are the parts that are tokens. A refusal stands at the first byte where the text has no next token.
pub record Reading (source : List ℕ) (answer : Result (List Piece) Refusal) : Type 0 where
  pub parts : List Part
  pub rest : List ℕ
  pub whole : flat_map spelling parts ++ rest ≡ source
  pub right : AreRightParts 0 parts rest
  pub ending : Ending answer parts rest

-- A source of at most 32,768 bytes has a reading with the answer that the definition gives, and with no other answer.
-- A longer source is refused.
pub record TextStands : Type 0 where
  pub reads : (source : List ℕ) → length source ≤ most_source_bytes → Reading source (token_list source)
  pub alone : (source : List ℕ) (answer : Result (List Piece) Refusal) → length source ≤ most_source_bytes → Reading source answer → answer ≡ token_list source
  pub long : (source : List ℕ) → most_source_bytes < length source → token_list source ≡ refuse 1 most_source_bytes
