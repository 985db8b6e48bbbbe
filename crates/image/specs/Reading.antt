-- How an image is read, number by number.
use Rattle.std.specs.Prelude.{ℕ, zero, suc, ◌-◌, cond, List, [], ◌∷◌, ◌++◌, length, drop, Some, None, Ok, Err, Option, Result, ◌==◌, nat_lt}
use Rattle.base.specs.Limits.{most_cells, most_instructions}
use Rattle.base.specs.Refusals.{refuse, then}
use Rattle.base.specs.Ops.{operands_of}
use Rattle.base.specs.declared.refusal.Refusal.{Refusal}
use Rattle.base.specs.declared.instr.Instr.{Instr}
use Rattle.base.specs.declared.code.Figures.{Figures}
use Rattle.image.specs.Codes.{Code}
use Rattle.image.specs.Groups.{number}

-- What was read, and the bytes after it; or a refusal.
abbrev pub Read : Type 0 → Type 0
Read A = Result (A × List ℕ) Refusal

-- The instruction with the number n, which stands at the offset `at`, and the operands that it names; 23 if there is
-- no such instruction.
abbrev pub operands_at : (end at n : ℕ) → Option ℕ → List ℕ → Read Instr
operands_at end at n None bs = refuse 23 at
operands_at end at n (Some zero) bs = Ok (record { number = n; a = 0; b = 0 }, bs)
operands_at end at n (Some (suc zero)) bs = then (number end bs) (λ x. Ok (record { number = n; a = x.0; b = 0 }, x.1))
operands_at end at n (Some (suc (suc m))) bs =
    then (number end bs) (λ x. then (number end x.1) (λ y. Ok (record { number = n; a = x.0; b = y.0 }, y.1)))

-- The instruction at the front of the bytes. `end` is the length of all the bytes.
unfoldable pub entry_at : (end : ℕ) → List ℕ → Read Instr
entry_at end bs = then (number end bs) (λ x. operands_at end (end - length bs) x.0 (operands_of x.0) x.1)

-- The instructions o read so far and n more. No byte may be left after them.
unfoldable pub entries_at : (end n : ℕ) → List Instr → List ℕ → Result (List Instr) Refusal
entries_at end zero o [] = Ok o
entries_at end zero o (b ∷ bs) = refuse 24 (end - length (b ∷ bs))
entries_at end (suc n) o bs = then (entry_at end bs) (λ x. entries_at end n (o ++ x.0 ∷ []) x.1)

-- The number of instructions, if it is in the bounds of a header and the table has so many entries.
abbrev pub count_at : (at room n : ℕ) → Result ℕ Refusal
count_at at room n =
    cond (n == 0) (refuse 25 at) (cond (nat_lt most_instructions n) (refuse 25 at) (cond (nat_lt room n) (refuse 26 at) (Ok n)))

-- The number of cells, if it is at most 4,096.
abbrev pub cells_at : (at n : ℕ) → Result ℕ Refusal
cells_at at n = cond (nat_lt most_cells n) (refuse 25 at) (Ok n)

-- Cells, depth and count, and the bytes after them.
unfoldable pub figures_at : (end room : ℕ) → List ℕ → Read Figures
figures_at end room bs =
    then (number end bs) (λ x.
    then (cells_at (end - length bs) x.0) (λ cells.
    then (number end x.1) (λ y.
    then (number end y.1) (λ z.
    then (count_at (end - length y.1) room z.0) (λ count.
    Ok (record { cells = cells; depth = y.0; count = count }, z.1))))))

-- The code of an image, read into a table of `room` entries; or its refusal.
unfoldable pub decoding : (room : ℕ) → List ℕ → Result Code Refusal
decoding room bs =
    then (figures_at (length bs) room bs) (λ x.
    then (entries_at (length bs) x.0.count [] x.1) (λ is.
    Ok record { cells = x.0.cells; depth = x.0.depth; entries = is }))

-- The figures of the code that was read.
abbrev pub figures_of : Result Code Refusal → Result Figures Refusal
figures_of x = then x (λ k. Ok record { cells = k.cells; depth = k.depth; count = length k.entries })

-- The table afterwards: the entries stand at its front, and past them it holds what it held. After a refusal it holds
-- all that it held.
abbrev pub table_after : Result Code Refusal → List Instr → List Instr
table_after (Ok k) old = k.entries ++ drop (length k.entries) old
table_after (Err e) old = old
