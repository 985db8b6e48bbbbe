-- Names, and the first of a list of names that is the one sought.
use Rattle.std.specs.Prelude.{◌≡◌, ℕ, ◌<◌, cond, List, [], ◌∷◌, length, take, Some, None, Option, ◌≢◌, nat_lt, slice_index_or}
use Rattle.std.specs.Str.{bytes_eq}
use Rattle.base.specs.Limits.{most_name_bytes}
use Rattle.lexer.specs.declared.name.Name.{Name}

-- The bytes of a name. There are at most 15.
abbrev pub name_of : Name → List ℕ
name_of n = take n.len n.bytes

-- The bytes, if they are short enough for a name: at most 15.
abbrev pub short_name : List ℕ → Option (List ℕ)
short_name text = cond (nat_lt most_name_bytes (length text)) None (Some text)

-- The first element of a list that has the name that is sought.
abbrev pub first_named : {A : Type 0} → (A → List ℕ) → List A → List ℕ → Option A
first_named name [] n = None
first_named name (x ∷ xs) n = cond (bytes_eq (name x) n) (Some x) (first_named name xs n)

-- None of the first n names of xs is x.
abbrev pub Unlike : List (List ℕ) → List ℕ → ℕ → Type 0
Unlike xs x n = (k : ℕ) → k < n → slice_index_or xs k [] ≢ x

-- The answer of a search for x in xs: the index of its first occurrence, or none where x does not occur.
abbrev pub First : List (List ℕ) → List ℕ → Option ℕ → Type 0
First xs x None = Unlike xs x (length xs)
First xs x (Some i) = (i < length xs) × (slice_index_or xs i [] ≡ x) × Unlike xs x i
