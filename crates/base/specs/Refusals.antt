-- Refusals, as the definitions of every layer write them.
use Rattle.std.specs.Prelude.{ℕ, Ok, Err, Result}
use Rattle.base.specs.declared.refusal.Refusal.{Refusal}

-- The refusal with this number at this place.
abbrev pub refusal_at : ℕ → ℕ → Refusal
refusal_at n p = record { number = n; place = p }

-- The answer that is this refusal.
abbrev pub refuse : {A : Type 0} → ℕ → ℕ → Result A Refusal
refuse n p = Err (refusal_at n p)

-- An answer of the code in which a fault is replaced by its number and place, as `f` gives them.
abbrev pub told : {A E : Type 0} → (E → Refusal) → Result A E → Result A Refusal
told f (Ok x) = Ok x
told f (Err e) = Err (f e)

-- Goes on with an answer by k. A refusal is passed on as it is.
abbrev pub then : {A B : Type 0} → Result A Refusal → (A → Result B Refusal) → Result B Refusal
then (Ok x) k = k x
then (Err e) k = Err e
