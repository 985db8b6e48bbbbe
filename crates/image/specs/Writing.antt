-- How an image is written.
use Rattle.std.specs.Prelude.{◌≡◌, ℕ, ◌+◌, ◌≤◌, cond, List, [], ◌∷◌, ◌++◌, length, drop, Some, None, Ok, Err, Option, Result, nat_le}
use Rattle.base.specs.Lists.{contents, room, Lends}
use Rattle.base.specs.Refusals.{refuse, then}
use Rattle.base.specs.declared.instr.Instr.{Instr}
use Rattle.base.specs.declared.list.Bounded.{Bounded}
use Rattle.base.specs.declared.refusal.Refusal.{Refusal}
use Rattle.image.specs.Codes.{Code, entry_bytes, image, good_entry, good_header}

-- How many bytes an entry takes, if it is in order.
abbrev pub size_of : Instr → Option ℕ
size_of i = cond (good_entry i) (Some (length (entry_bytes i))) None

-- The refusal of the first entry that is not in order, if there is one. The first of these entries has the index i.
unfoldable pub entry_refusal : ℕ → List Instr → Result (Unit {0}) Refusal
entry_refusal i [] = Ok tt
entry_refusal i (x ∷ xs) = cond (good_entry x) (entry_refusal (i + 1) xs) (refuse 28 i)

-- The image of a code, for room of so many bytes; or its refusal. 28 is judged before 27.
unfoldable pub encoding : (room : ℕ) → Code → Result (List ℕ) Refusal
encoding room k =
    cond (good_header k.cells (length k.entries))
    (then (entry_refusal 0 k.entries) (λ _. cond (nat_le (length (image k)) room) (Ok (image k)) (refuse 27 (length (image k)))))
    (refuse 28 0)

-- How many bytes were written.
abbrev pub byte_count : Result (List ℕ) Refusal → Result ℕ Refusal
byte_count x = then x (λ bs. Ok (length bs))

-- The room afterwards: the image stands at its front, and past it the room holds what it held. After a refusal it
-- holds all that it held.
abbrev pub room_after : Result (List ℕ) Refusal → List ℕ → List ℕ
room_after (Ok bs) old = bs ++ drop (length bs) old
room_after (Err e) old = old

-- The list has room for these bytes.
abbrev pub HasRoom : Bounded ℕ → List ℕ → Type 0
HasRoom b xs = b.len + length xs ≤ length (room b)

-- These bytes were added to the list, and nothing else changed.
pub record IsAppended (b : Bounded ℕ) (xs : List ℕ) (d : Bounded ℕ) : Type 0 where
  pub all : contents d ≡ contents b ++ xs
  pub len : d.len ≡ b.len + length xs
  pub past : drop d.len (room d) ≡ drop d.len (room b)
  pub size : length (room d) ≡ length (room b)
  pub loan : Lends b d
