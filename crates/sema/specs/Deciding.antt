-- Which of several faults decides. The definitions do not use the list of faults or its order.
use Rattle.std.specs.Prelude.{◌≡◌, ◌<◌, ◌≤◌, false, ◌⊎◌, ◌↔◌, List, Contains, Some, None}
use Rattle.base.specs.declared.refusal.Refusal.{Refusal}
use Rattle.sema.specs.Faults.{before, least}

-- The fault f stands at a smaller place than g, or at the same place with a number that is not higher.
abbrev pub Precedes : Refusal → Refusal → Type 0
Precedes f g = (f.place < g.place) ⊎ ((f.place ≡ g.place) × (f.number ≤ g.number))

-- The fault f decides among the faults for which P holds: it is one of them, and it precedes each of them.
abbrev pub Decides : (Refusal → Type 0) → Refusal → Type 0
Decides P f = P f × ((g : Refusal) → P g → Precedes f g)

-- P holds of no fault.
abbrev pub Free : (Refusal → Type 0) → Type 0
Free P = (f : Refusal) → P f → ⊥

-- What `least` answers decides among the faults of a list, and `least` answers none exactly where the list has no
-- faults.
pub record LeastDecides : Type 0 where
  pub none : (fs : List Refusal) → (least fs ≡ None) ↔ Free (Contains fs)
  pub some : (fs : List Refusal) (f : Refusal) → (least fs ≡ Some f) ↔ Decides (Contains fs) f
  -- only one fault decides
  pub only : (fs : List Refusal) (f g : Refusal) → Decides (Contains fs) f → Decides (Contains fs) g → f ≡ g
  -- of any two faults one precedes the other, and `before` says which
  pub told : (f g : Refusal) → (before g f ≡ false) ↔ Precedes f g
