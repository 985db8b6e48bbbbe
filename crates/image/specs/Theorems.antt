-- Codes and images correspond one to one.
use Rattle.std.specs.Prelude.{◌≡◌, ℕ, ◌<◌, ◌≤◌, true, List, [], ◌∷◌, length, Ok, slice_index}
use Rattle.base.specs.declared.instr.Instr.{Instr}
use Rattle.image.specs.Codes.{Code, image, good_entry, good_header}
use Rattle.image.specs.Reading.{decoding}
use Rattle.image.specs.Writing.{encoding}

-- Each entry is in order and consists of words.
abbrev pub Entries : List Instr → Type 0
Entries [] = Unit {0}
Entries (i ∷ is) = (good_entry i ≡ true) × (i.number < 65536) × (i.a < 65536) × (i.b < 65536) × Entries is

-- A code: it has at most 4,096 cells and 1 to 16,383 instructions, its depth is a word, and its entries are in order.
pub record IsCode (k : Code) : Type 0 where
  pub header : good_header k.cells (length k.entries) ≡ true
  pub depth : k.depth < 65536
  pub entries : Entries k.entries

-- These bytes are the image of this code.
abbrev pub ImageOf : Code → List ℕ → Type 0
ImageOf k bs = IsCode k × (bs ≡ image k)

-- Every number of the list is a byte.
abbrev pub Bytes : List ℕ → Type 0
Bytes bs = (i : ℕ) → slice_index bs i < 256

-- Each code has one image. If there is room it is what is written, and nothing else is ever written.
abbrev pub OneImage : Type 0
OneImage =
    (k : Code) → IsCode k → (room : ℕ) → (length (image k) ≤ room → encoding room k ≡ Ok (image k)) × ((bs : List ℕ) → encoding room k ≡ Ok bs → bs ≡ image k)

-- If the table has entries enough, reading what was written gives the code back.
abbrev pub ReadsBack : Type 0
ReadsBack = (k : Code) → IsCode k → (room : ℕ) → length k.entries ≤ room → decoding room (image k) ≡ Ok k

-- Bytes that are accepted are the image of a code, the one that was read.
abbrev pub OnlyImages : Type 0
OnlyImages =
    (bs : List ℕ) → Bytes bs → (room : ℕ) (k : Code) → decoding room bs ≡ Ok k → IsCode k × (bs ≡ image k) × (length k.entries ≤ room)

-- No two codes have the same image.
abbrev pub OneCode : Type 0
OneCode = (k l : Code) → IsCode k → IsCode l → image k ≡ image l → k ≡ l

-- Writing what was read gives the same bytes.
abbrev pub WritesBack : Type 0
WritesBack = (bs : List ℕ) → Bytes bs → (room : ℕ) (k : Code) → decoding room bs ≡ Ok k → encoding (length bs) k ≡ Ok bs
