-- Where the reader refuses, in the grammar's words.
use Rattle.std.specs.Prelude.{◌≡◌, ℕ, ◌+◌, ◌⊎◌, ◌↔◌, List, [], ◌∷◌, ◌++◌, map, Some, Err}
use Rattle.base.specs.Limits.{most_levels}
use Rattle.base.specs.declared.refusal.Refusal.{Refusal}
use Rattle.base.specs.Refusals.{refuse}
use Rattle.parser.specs.declared.value_type.ValueType.{ValueType}
use Rattle.lexer.specs.Cut.{Piece}
use Rattle.parser.specs.Marks.{Tok, piece_tok, type_of}
use Rattle.parser.specs.Works.{parse}
use Rattle.ast.specs.Trees.{Program}
use Rattle.grammar.specs.Grammar.{ProgramWritten}

-- The tokens begin a program within l levels: with some more tokens they are such a program.
abbrev pub Begins : (l : ℕ) → List Tok → Type 0
Begins l ts = (q : Program) × (us : List Tok) × ProgramWritten l q (ts ++ us)

-- The last of the tokens is the word of a type, and those before it begin a program within 32 levels.
pub record EndsInConversion (ts : List Tok) : Type 0 where
  pub before : List Tok
  pub word : Tok
  pub value_type : ValueType
  pub tokens : ts ≡ before ++ word ∷ []
  pub is : type_of word.sort ≡ Some value_type
  pub begun : Begins most_levels before

-- The tokens begin a program and open no level 33. The word of a conversion opens no level, but the parenthesis that
-- has to follow it does. So if the last token is the word of a type, only the tokens before it have to begin a
-- program within 32 levels.
abbrev pub IsBegun : List Tok → Type 0
IsBegun ts = Begins (most_levels + 1) ts × (Begins most_levels ts ⊎ EndsInConversion ts)

-- At this offset stands the first token with which the tokens begin no program, whatever the levels.
pub record WrongAt (ts : List Tok) (offset : ℕ) : Type 0 where
  pub before : List Tok
  pub token : Tok
  pub behind : List Tok
  pub tokens : ts ≡ before ++ token ∷ behind
  pub stands : token.offset ≡ offset
  pub begun : IsBegun before
  pub none : (l : ℕ) → Begins l (before ++ token ∷ []) → ⊥

-- The tokens begin a program, but are not one, whatever the levels.
pub record IsUnfinished (ts : List Tok) : Type 0 where
  pub begun : IsBegun ts
  pub none : (l : ℕ) (q : Program) → ProgramWritten l q ts → ⊥

-- At this offset stands the token that opens level 33.
pub record DeepAt (ts : List Tok) (offset : ℕ) : Type 0 where
  pub before : List Tok
  pub token : Tok
  pub behind : List Tok
  pub tokens : ts ≡ before ++ token ∷ behind
  pub stands : token.offset ≡ offset
  pub begun : IsBegun before
  pub within : Begins (most_levels + 1) (before ++ token ∷ [])
  pub opens : IsBegun (before ++ token ∷ []) → ⊥

-- Where refusal 5 stands: with the token at this place the tokens begin no program; or the tokens only begin one, and
-- the offset is the end of the text.
abbrev pub IsUnexpected : (end : ℕ) → List Tok → (offset : ℕ) → Type 0
IsUnexpected end ts offset = WrongAt ts offset ⊎ (IsUnfinished ts × (offset ≡ end))

-- 5 is answered exactly where the grammar says so.
abbrev pub RefusedWhereNoneBegins : Type 0
RefusedWhereNoneBegins =
    (end offset : ℕ) (ps : List Piece) → (parse end ps ≡ refuse 5 offset) ↔ IsUnexpected end (map piece_tok ps) offset

-- 6 is answered exactly at the token that opens level 33.
abbrev pub RefusedWhereTooDeep : Type 0
RefusedWhereTooDeep =
    (end offset : ℕ) (ps : List Piece) → (parse end ps ≡ refuse 6 offset) ↔ DeepAt (map piece_tok ps) offset

-- There is no other refusal.
abbrev pub RefusedOnlySo : Type 0
RefusedOnlySo = (end : ℕ) (ps : List Piece) (r : Refusal) → parse end ps ≡ Err r → (r.number ≡ 5) ⊎ (r.number ≡ 6)
