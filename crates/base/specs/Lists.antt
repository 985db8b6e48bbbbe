-- What a bounded list stands for, and what each method does to it.
use Rattle.std.specs.Prelude.{◌≡◌, ℕ, ◌+◌, ◌-◌, ◌<◌, ◌≤◌, List, [], ◌∷◌, ◌++◌, length, take, Some, None, Ok, Err, Option, Result, slice_set}
use Rattle.base.specs.declared.list.Bounded.{Bounded}

module _ {X : Type 0} where
  -- The elements of the list: the first `len` cells.
  abbrev pub contents : Bounded X → List X
  contents b = take b.len b.cells.now

  -- All cells that were lent, also those past the list.
  abbrev pub room : Bounded X → List X
  room b = b.cells.now

  -- Both lists are over the same loan.
  abbrev pub Lends : Bounded X → Bounded X → Type 0
  Lends b d = d.cells.ghost_name ≡ b.cells.ghost_name

  -- Nothing changed: neither the length, nor a cell, nor the loan.
  abbrev pub Same : Bounded X → Bounded X → Type 0
  Same b d = (d.len ≡ b.len) × (room d ≡ room b) × Lends b d

  -- A push puts x at the end, into the next cell. If every cell is taken already, it answers their number and changes
  -- nothing.
  abbrev pub IsPushed : {U : Type 0} → Bounded X → X → Bounded X → Result U ℕ → Type 0
  IsPushed b x d (Ok u) =
      (b.len < length (room b)) × (contents d ≡ contents b ++ x ∷ []) × (d.len ≡ b.len + 1) × (room d ≡ slice_set (room b) b.len x) × Lends b d
  IsPushed b x d (Err e) = (e ≡ length (room b)) × (b.len ≡ length (room b)) × Same b d

  -- A pop takes the last element and changes no cell. It answers none if the list is empty.
  abbrev pub IsPopped : Bounded X → Bounded X → Option X → Type 0
  IsPopped b d None = (b.len ≡ 0) × Same b d
  IsPopped b d (Some x) = (contents b ≡ contents d ++ x ∷ []) × (d.len + 1 ≡ b.len) × (room d ≡ room b) × Lends b d

  -- A cut takes the last n elements and changes no cell. If there are fewer, it answers their number and changes
  -- nothing.
  abbrev pub IsCut : {U : Type 0} → Bounded X → ℕ → Bounded X → Result U ℕ → Type 0
  IsCut b n d (Ok u) =
      (n ≤ b.len) × (contents d ≡ take (b.len - n) (contents b)) × (d.len ≡ b.len - n) × (room d ≡ room b) × Lends b d
  IsCut b n d (Err e) = (e ≡ b.len) × (b.len < n) × Same b d

  -- A change puts x at the index i. If the list is no longer than i, it answers i and changes nothing.
  abbrev pub IsChanged : {U : Type 0} → Bounded X → ℕ → X → Bounded X → Result U ℕ → Type 0
  IsChanged b i x d (Ok u) =
      (i < b.len) × (contents d ≡ slice_set (contents b) i x) × (d.len ≡ b.len) × (room d ≡ slice_set (room b) i x) × Lends b d
  IsChanged b i x d (Err e) = (e ≡ i) × (b.len ≤ i) × Same b d
