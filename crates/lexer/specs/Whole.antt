-- What the code answers for a whole source.
use Rattle.std.specs.Prelude.{◌≡◌, ℕ, List, [], map, length, Ok, Err, Result}
use Rattle.lexer.specs.declared.token.Token.{Token}
use Rattle.lexer.specs.declared.fault.TextFault.{TextFault}
use Rattle.lexer.specs.Faults.{refusal_of}
use Rattle.lexer.specs.Cut.{Piece, piece, tokens_left, token_list}

-- The source has the tokens ts.
abbrev pub Reads : List ℕ → List Piece → Type 0
Reads source ts = token_list source ≡ Ok ts

-- The source is refused with this fault.
abbrev pub Refuses : List ℕ → TextFault → Type 0
Refuses source e = token_list source ≡ Err (refusal_of e)

-- What `check` answers: if the source passes, its tokens are those left to read at its start; else this is its
-- refusal.
abbrev pub PassesText : List ℕ → Result (Unit {0}) TextFault → Type 0
PassesText source (Ok x) = Reads source (tokens_left (length source) source)
PassesText source (Err e) = Refuses source e

-- What `cut` leaves: the list holds the tokens of the source. If the source is refused, the list is empty.
abbrev pub ListsTokens : List ℕ → List Token → Result (Unit {0}) TextFault → Type 0
ListsTokens source ts (Ok x) = Reads source (map piece ts)
ListsTokens source ts (Err e) = (ts ≡ []) × Refuses source e
