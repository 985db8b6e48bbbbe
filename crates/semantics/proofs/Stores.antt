-- What writes leave of a store.
use Rattle.std.proofs.Common.{◌≡◌, List, [], ◌∷◌, ◌++◌, length, set, refl, ◌∙◌, length-set}
use Rattle.semantics.specs.Effects.{Store, Write, put, leave}

pub leave_append : (ws vs : List Write) (σ : Store) → leave (ws ++ vs) σ ≡ leave vs (leave ws σ)
leave_append [] vs σ = refl
leave_append (put c w ∷ ws) vs σ = leave_append ws vs (set σ c w)

pub length_leave : (ws : List Write) (σ : Store) → length (leave ws σ) ≡ length σ
length_leave [] σ = refl
length_leave (put c w ∷ ws) σ = length_leave ws (set σ c w) ∙ length-set σ c w
