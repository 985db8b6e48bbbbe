-- What a cursor over the bytes does.
use Rattle.std.specs.Prelude.{◌≡◌, ℕ, List, [], ◌∷◌, take, drop, Some, None, Ok, Err, Option, Result}
use Rattle.image.specs.declared.cursor.Cursor.{Cursor}
use Rattle.image.specs.declared.fault.ImageFault.{ImageFault}
use Rattle.image.specs.Faults.{refusal_of}
use Rattle.base.specs.declared.instr.Instr.{Instr}
use Rattle.base.specs.declared.refusal.Refusal.{Refusal}

-- The bytes that are left to read.
abbrev pub rest_of : Cursor → List ℕ
rest_of c = c.rest.now

-- The cursor went on by one byte, which is answered; none if no byte is left.
abbrev pub IsByteRead : Cursor → Cursor → Option ℕ → Type 0
IsByteRead c d None = (rest_of c ≡ []) × (rest_of d ≡ []) × (d.end ≡ c.end)
IsByteRead c d (Some b) = (rest_of c ≡ b ∷ rest_of d) × (d.end ≡ c.end)

-- The code read what the definition reads, and the cursor stands after it; or it answers the same refusal.
abbrev pub IsRead : {A : Type 0} → Result (A × List ℕ) Refusal → Cursor → Cursor → Result A ImageFault → Type 0
IsRead x c d (Ok a) = (x ≡ Ok (a, rest_of d)) × (d.end ≡ c.end)
IsRead x c d (Err e) = x ≡ Err (refusal_of e)

-- All the entries can be read, or this is the refusal.
abbrev pub AllAreRead : Result (List Instr) Refusal → Result (Unit {0}) ImageFault → Type 0
AllAreRead x (Ok u) = (is : List Instr) × (x ≡ Ok is)
AllAreRead x (Err e) = x ≡ Err (refusal_of e)

-- The entries are o and no byte is left after them, or this is the refusal.
abbrev pub EndsThere : Result (List Instr) Refusal → List Instr → Result (Unit {0}) ImageFault → Type 0
EndsThere x o (Ok u) = x ≡ Ok o
EndsThere x o (Err e) = x ≡ Err (refusal_of e)

-- The entries stand at the front of the table, and the rest of the table has not changed; or this is the refusal.
abbrev pub IsFilled : Result (List Instr) Refusal → ℕ → List Instr → List Instr → Result (Unit {0}) ImageFault → Type 0
IsFilled x n old new (Ok u) = (x ≡ Ok (take n new)) × (drop n new ≡ drop n old)
IsFilled x n old new (Err e) = x ≡ Err (refusal_of e)
