-- A source writes its own cells and no others.
use Rattle.std.specs.Prelude.{◌≡◌, ℕ, ◌<◌, ◌≤◌, List, [], ◌∷◌, slice_index}
use Rattle.ir.specs.Trees.{Body}
use Rattle.semantics.specs.Effects.{Store, Write, put, leave, writes_of}
use Rattle.semantics.specs.Meaning.{exec, Within}

-- Each write is into one of the first n cells.
abbrev pub Below : ℕ → List Write → Type 0
Below n [] = Unit {0}
Below n (put c w ∷ ws) = (c < n) × Below n ws

-- A source that names only the first n cells writes only these.
pub record WritesStayInside : Type 0 where
  -- a source within n cells is within more cells too
  pub more : (b : Body) (n m : ℕ) → n ≤ m → Within b n → Within b m
  pub own : (b : Body) (n : ℕ) → Within b n → (k : ℕ) (σ : Store) → Below n (writes_of (exec b k σ))
  -- and the other cells keep their words
  pub others : (n : ℕ) (ws : List Write) → Below n ws → (σ : Store) (i : ℕ) → n ≤ i → slice_index (leave ws σ) i ≡ slice_index σ i
