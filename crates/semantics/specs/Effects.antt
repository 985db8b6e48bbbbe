-- What a part of a source does to a store: which writes it makes, in order, and how it ends.
use Rattle.std.specs.Prelude.{ℕ, zero, suc, ◌+◌, Bool, cond, List, [], ◌∷◌, ◌++◌, Ok, Err, Result, slice_index, slice_set}
use Rattle.arith.specs.declared.stop.Stop.{Stop}
use Rattle.arith.specs.Integers.{sum, subscript, turns}

-- A store is a word for each cell.
abbrev pub Store : Type 0
Store = List ℕ

-- A write puts a word into a cell.
pub data Write : Type 0 where
  put : (cell word : ℕ) → Write

-- The store after a list of writes.
abbrev pub leave : List Write → Store → Store
leave [] σ = σ
leave (put c w ∷ ws) σ = leave ws (slice_set σ c w)

-- What was done: the writes, then an answer or a stop; or the writes made until the bound on the turns of a loop was
-- reached.
pub data Effect (A : Type 0) : Type 0 where
  effect : List Write → Result A Stop → Effect A
  cut : List Write → Effect A

-- The writes of an effect.
abbrev pub writes_of : {A : Type 0} → Effect A → List Write
writes_of (effect ws o) = ws
writes_of (cut ws) = ws

-- An effect that depends on the store before it.
abbrev pub M : Type 0 → Type 0
M A = Store → Effect A

-- The effect with these writes before its own.
abbrev pub before : {A : Type 0} → List Write → Effect A → Effect A
before ws (effect vs o) = effect (ws ++ vs) o
before ws (cut vs) = cut (ws ++ vs)

-- Goes on from an effect by f with its answer. A stop ends all, and so does the bound.
unfoldable pub onward : {A B : Type 0} → Effect A → (A → M B) → M B
onward (effect ws (Ok a)) f σ = before ws (f a (leave ws σ))
onward (effect ws (Err e)) f σ = effect ws (Err e)
onward (cut ws) f σ = cut ws

-- First x, then f with its answer, on the store that x leaves. A stop ends all.
unfoldable pub bind : {A B : Type 0} → M A → (A → M B) → M B
bind x f σ = onward (x σ) f σ

-- The answer a without a write.
unfoldable pub ret : {A : Type 0} → A → M A
ret a σ = effect [] (Ok a)

-- The bound is reached.
unfoldable pub meets : {A : Type 0} → M A
meets σ = cut []

-- Turns of b while t holds, at most n: t is tested before each turn.
unfoldable pub loop : (n : ℕ) (t : M Bool) (b : M (Unit {0})) → M (Unit {0})
loop zero t b = bind t (λ y. cond y meets (ret tt))
loop (suc n) t b = bind t (λ y. cond y (bind b (λ _. loop n t b)) (ret tt))

-- Turns of b until t holds, at most n: t is tested after each turn. If no turn is allowed, the bound is reached at
-- once.
unfoldable pub until : (n : ℕ) (b : M (Unit {0})) (t : M Bool) → M (Unit {0})
until zero b t = meets
until (suc n) b t = bind b (λ _. bind t (λ y. cond y (ret tt) (until n b t)))

-- What one basic act does: its writes and its answer; or a stop, and then nothing is written.
pub data ActAnswer (A : Type 0) : Type 0 where
  did : List Write → A → ActAnswer A
  fails : Stop → ActAnswer A

-- A basic act, which depends on the store.
abbrev pub Act : Type 0 → Type 0
Act A = Store → ActAnswer A

-- The effect of what a basic act does.
abbrev pub effect_of : {A : Type 0} → ActAnswer A → Effect A
effect_of (did ws a) = effect ws (Ok a)
effect_of (fails e) = effect [] (Err e)

-- A basic act as a part of a source.
unfoldable pub prim : {A : Type 0} → Act A → M A
prim x σ = effect_of (x σ)

-- The act that gives an answer or a stop that is known already.
unfoldable pub says : {A : Type 0} → Result A Stop → Act A
says (Ok a) σ = did [] a
says (Err e) σ = fails e

-- Reads the cell c.
unfoldable pub load : (c : ℕ) → Act ℕ
load c σ = did [] (slice_index σ c)

-- Writes the word w into the cell c.
unfoldable pub store : (c w : ℕ) → Act (Unit {0})
store c w σ = did (put c w ∷ []) tt

-- Reads the i-th cell from `base`, or stops if the subscript is not in range.
abbrev pub load_at : ℕ → Result ℕ Stop → Act ℕ
load_at base (Ok i) σ = did [] (slice_index σ (base + i))
load_at base (Err e) σ = fails e

-- Reads the i-th of n cells from `base`, or stops if i is not in range.
unfoldable pub element : (base n i : ℕ) → Act ℕ
element base n i σ = load_at base (subscript i n) σ

-- Writes the word w into the i-th cell from `base`, or stops if the subscript is not in range.
abbrev pub put_at : ℕ → ℕ → Result ℕ Stop → ActAnswer (Unit {0})
put_at base w (Ok i) = did (put (base + i) w ∷ []) tt
put_at base w (Err e) = fails e

-- Writes the word w into the i-th of n cells from `base`, or stops if i is not in range.
unfoldable pub put_element : (base n i w : ℕ) → Act (Unit {0})
put_element base n i w σ = put_at base w (subscript i n)

-- Whether a FOR takes another turn. Its variable is read from the cell c.
unfoldable pub goes_on : (c step limit : ℕ) → Act Bool
goes_on c s l σ = did [] (turns (slice_index σ c) s l)

-- Writes the word into the cell c, or stops if there is a stop.
abbrev pub put_or_stop : ℕ → Result ℕ Stop → ActAnswer (Unit {0})
put_or_stop c (Ok w) = did (put c w ∷ []) tt
put_or_stop c (Err e) = fails e

-- Adds the step of a FOR to its variable in the cell c, or stops.
unfoldable pub advance : (c step : ℕ) → Act (Unit {0})
advance c s σ = put_or_stop c (sum (slice_index σ c) s)
