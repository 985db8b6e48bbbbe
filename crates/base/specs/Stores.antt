-- What a store answers, and which words the memory that was lent holds for it. A store is a list of words.
use Rattle.std.specs.Prelude.{ℕ, ◌+◌, ◌*◌, ◌%◌, cond, List, [], ◌∷◌, ◌++◌, map, length, drop, take, Ok, Result, nat_lt, slice_index}
use Rattle.base.specs.Limits.{most_words}
use Rattle.base.specs.Refusals.{refusal_at, refuse}
use Rattle.base.specs.declared.refusal.Refusal.{Refusal}
use Rattle.base.specs.declared.store.StoreFault.{StoreFault}
use Rattle.base.specs.declared.store.StoreFault.TheVariants.{NoCell}

-- The number and place of the refusal of a store: 36 at the cell.
abbrev pub refusal_of : StoreFault → Refusal
refusal_of (NoCell c) = refusal_at 36 c

-- The answer x if the store has the cell, else refusal 36 at the cell.
abbrev pub cell_of : {A : Type 0} → List ℕ → ℕ → A → Result A Refusal
cell_of ws i x = cond (nat_lt i (length ws)) (Ok x) (refuse 36 i)

-- What `read` answers for a cell.
abbrev pub read_of : List ℕ → ℕ → Result ℕ Refusal
read_of ws i = cell_of ws i (slice_index ws i)

-- What `write` answers for a cell.
abbrev pub write_of : List ℕ → ℕ → Result (Unit {0}) Refusal
write_of ws i = cell_of ws i tt

-- A word has sixteen bits. What is read from memory always is a word, so `%` changes nothing.
abbrev pub word : ℕ → ℕ
word n = n % 65536

-- The word of a high byte and a low byte. A byte has eight bits, so `%` changes nothing here either.
abbrev pub pair : ℕ → ℕ → ℕ
pair h l = (h % 256) * 256 + l % 256

-- The words of a store over lent words: the first 65,535 of them.
unfoldable pub words_of : List ℕ → List ℕ
words_of xs = map word (take most_words xs)

-- The lent words that are past those of the store.
abbrev pub past_words : List ℕ → List ℕ
past_words xs = drop most_words xs

-- The words that bytes hold: two bytes to a word, the high byte first. An odd last byte is left out.
abbrev pub pairs : List ℕ → List ℕ
pairs [] = []
pairs (h ∷ []) = []
pairs (h ∷ l ∷ rest) = pair h l ∷ pairs rest

-- The words of a store over lent bytes: the first 65,535 of them.
unfoldable pub pairs_of : List ℕ → List ℕ
pairs_of bs = take most_words (pairs bs)

-- The lent bytes that are past those of the store's words, also an odd last byte.
abbrev pub past_pairs : List ℕ → List ℕ
past_pairs bs = drop (2 * length (pairs_of bs)) bs

-- The words of two stores joined end to end: the first 65,535 of them.
unfoldable pub joined_of : List ℕ → List ℕ → List ℕ
joined_of xs ys = take most_words (xs ++ ys)

-- The words of the two stores that are past those of the joined store.
abbrev pub past_joined : List ℕ → List ℕ → List ℕ
past_joined xs ys = drop most_words (xs ++ ys)
