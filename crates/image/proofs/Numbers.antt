-- A number that is read group by group.
use Rattle.std.proofs.Common.{◌≡◌, ℕ, ◌+◌, ◌-◌, ◌*◌, ◌%◌, ◌<◌, ◌≤◌, true, false, List, [], ◌∷◌, length, Ok, Result, refl, ap, ◌∙◌}
use Rattle.std.proofs.lemmas.Bool.{lt-ltb, le-ltb}
use Rattle.base.specs.Refusals.{refuse}
use Rattle.base.specs.declared.refusal.Refusal.{Refusal}
use Rattle.image.specs.Groups.{number, more, zeros_first}

-- a number and the bytes after it
abbrev pub got : ℕ → List ℕ → Result (ℕ × List ℕ) Refusal
got n bs = Ok (n, bs)

-- one group more
pub more_large : (end at v b : ℕ) (bs : List ℕ) → 65535 < v * 128 + b % 128 → more end at v (b ∷ bs) ≡ refuse 22 at
unfolding more
more_large end at v b bs h = rw (lt-ltb 65535 (v * 128 + b % 128) h)

pub more_last : (end at v b : ℕ) (bs : List ℕ) → v * 128 + b % 128 ≤ 65535 → b < 128 → more end at v (b ∷ bs) ≡ got (v * 128 + b % 128) bs
unfolding more
more_last end at v b bs h l = rw (le-ltb 65535 (v * 128 + b % 128) h, lt-ltb b 128 l)

pub more_on : (end at v b : ℕ) (bs : List ℕ) → v * 128 + b % 128 ≤ 65535 → 128 ≤ b → more end at v (b ∷ bs) ≡ more end at (v * 128 + b % 128) bs
unfolding more
more_on end at v b bs h l = rw (le-ltb 65535 (v * 128 + b % 128) h, le-ltb b 128 l)

pub more_cut : (end at v : ℕ) → more end at v [] ≡ refuse 20 end
unfolding more
more_cut end at v = refl

pub zeros : (end at : ℕ) (bs : List ℕ) → at ≡ end - length bs → zeros_first bs ≡ true → number end bs ≡ refuse 21 at
unfolding number
zeros end at bs e z = rw (z, e)

pub starts : (end at : ℕ) (bs : List ℕ) → at ≡ end - length bs → zeros_first bs ≡ false → number end bs ≡ more end at 0 bs
unfolding number
starts end at bs e z = rw (z, e)

-- The loop of the reader: it began at the bytes bs, and has come to rs with the value v.
module _ (end at v : ℕ) (bs rs : List ℕ) (e : at ≡ end - length bs) (z : zeros_first bs ≡ false) (i : more end at 0 bs ≡ more end at v rs) where
  so_far : number end bs ≡ more end at v rs
  so_far = starts end at bs e z ∙ i

  pub ends_large : (b : ℕ) (qs : List ℕ) → rs ≡ b ∷ qs → 65535 < v * 128 + b % 128 → number end bs ≡ refuse 22 at
  ends_large b qs f h = so_far ∙ ap (more end at v) f ∙ more_large end at v b qs h

  pub ends_last : (b : ℕ) (qs : List ℕ) → rs ≡ b ∷ qs → v * 128 + b % 128 ≤ 65535 → b < 128 → number end bs ≡ got (v * 128 + b % 128) qs
  ends_last b qs f h l = so_far ∙ ap (more end at v) f ∙ more_last end at v b qs h l

  pub ends_cut : rs ≡ [] → number end bs ≡ refuse 20 end
  ends_cut f = so_far ∙ ap (more end at v) f ∙ more_cut end at v
