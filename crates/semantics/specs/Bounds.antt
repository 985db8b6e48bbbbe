-- Bounds on the turns of loops. The writes for a larger bound begin with those for a smaller one, and once the source
-- has ended a larger bound changes nothing.
use Rattle.std.specs.Prelude.{◌≡◌, ℕ, ◌≤◌, List, ◌++◌, Result}
use Rattle.arith.specs.declared.stop.Stop.{Stop}
use Rattle.ir.specs.Trees.{Body}
use Rattle.semantics.specs.Effects.{Store, Write, effect, writes_of}
use Rattle.semantics.specs.Meaning.{exec}

-- `further` says the first of these, and `settled` the second.
pub record BoundsHold : Type 0 where
  pub further : (b : Body) (σ : Store) (k j : ℕ) → k ≤ j → (vs : List Write) × (writes_of (exec b j σ) ≡ writes_of (exec b k σ) ++ vs)
  pub settled : (b : Body) (σ : Store) (k j : ℕ) → k ≤ j → (ws : List Write) (o : Result (Unit {0}) Stop) → exec b k σ ≡ effect ws o → exec b j σ ≡ effect ws o
