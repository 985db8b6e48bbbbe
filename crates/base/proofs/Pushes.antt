-- A push where there is room.
use Rattle.std.proofs.Common.{◌≡◌, ℕ, ◌+◌, ◌<◌, [], ◌∷◌, ◌++◌, length, set, Ok, Err, Result, arith}
use Rattle.base.specs.declared.list.Bounded.{Bounded}
use Rattle.base.specs.Lists.{contents, room, Lends, IsPushed}

pub pushed : {X U : Type 0} (b : Bounded X) (x : X) (d : Bounded X) (r : Result U ℕ) → IsPushed b x d r → b.len < length (room b) →
    (contents d ≡ contents b ++ x ∷ []) × (d.len ≡ b.len + 1) × (room d ≡ set (room b) b.len x) × Lends b d
pushed b x d (Ok u) p h = (p.1, p.2, p.3, p.4)
pushed b x d (Err e) p h = absurd (let q = p.1 in omega arith)
