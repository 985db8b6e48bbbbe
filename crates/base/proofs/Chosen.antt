-- What it tells that a half was chosen.
use Rattle.std.proofs.Common.{◌≡◌, ℕ, ◌-◌, ◌<◌, ◌≤◌, ltb, arith}
use Rattle.std.proofs.lemmas.Bool.{cond_both, ltb-true, ltb-false}
use Rattle.base.specs.declared.store.joined.Half.TheVariants.{First, Second}
use Rattle.base.specs.Halves.{half_of}
use Rattle.base.specs.Cells.{length_joined_of, set_first, set_second, cell_like}

pub in_first : (cell m k : ℕ) → First k ≡ half_of cell m → (cell < m) × (k ≡ cell)
in_first cell m k =
    cond_both (ltb cell m) (First cell) (Second (cell - m)) (λ r. First k ≡ r → (cell < m) × (k ≡ cell))
    (λ t p. (ltb-true cell m t, cc))
    (λ t p. absurd (let z : ◌≡◌ {A = ℕ} 0 1 = cc in omega arith))

pub in_second : (cell m k : ℕ) → Second k ≡ half_of cell m → (m ≤ cell) × (k ≡ cell - m)
in_second cell m k =
    cond_both (ltb cell m) (First cell) (Second (cell - m)) (λ r. Second k ≡ r → (m ≤ cell) × (k ≡ cell - m))
    (λ t p. absurd (let z : ◌≡◌ {A = ℕ} 0 1 = cc in omega arith))
    (λ t p. (ltb-false cell m t, cc))

-- what a write to one half comes to
pub ruleset written = (length_joined_of, set_first, set_second, cell_like, in_first, in_second)
