-- A code, and its image.
use Rattle.std.specs.Prelude.{ℕ, zero, suc, Bool, true, false, ◌&&◌, List, [], ◌∷◌, ◌++◌, length, Some, None, Option, ◌==◌, nat_le}
use Rattle.base.specs.Limits.{most_cells, most_instructions}
use Rattle.base.specs.Ops.{operands_of}
use Rattle.base.specs.declared.instr.Instr.{Instr}
use Rattle.base.specs.declared.code.Code.{Code as CodeSlice}
use Rattle.image.specs.Groups.{number_bytes}

-- What an image holds: the number of cells that the code uses, the depth, and the instructions.
pub record Code : Type 0 where
  pub cells : ℕ
  pub depth : ℕ
  pub entries : List Instr

-- A code with these cells, this depth and these instructions.
abbrev pub code_from : ℕ → ℕ → List Instr → Code
code_from c d is = record { cells = c; depth = d; entries = is }

-- The code that a caller lends.
abbrev pub code_of : CodeSlice → Code
code_of k = code_from k.cells k.depth k.instructions.now

-- The bytes of the operands that an instruction names: none, `a`, or both.
abbrev pub operand_bytes : ℕ → ℕ → ℕ → List ℕ
operand_bytes zero a b = []
operand_bytes (suc zero) a b = number_bytes a
operand_bytes (suc (suc n)) a b = number_bytes a ++ number_bytes b

-- The bytes of the operands; none if there is no such instruction.
abbrev pub named_bytes : Option ℕ → ℕ → ℕ → List ℕ
named_bytes None a b = []
named_bytes (Some n) a b = operand_bytes n a b

-- The bytes of an instruction: its number, then the operands that it names.
unfoldable pub entry_bytes : Instr → List ℕ
entry_bytes i = number_bytes i.number ++ named_bytes (operands_of i.number) i.a i.b

-- The bytes of the instructions, in order.
abbrev pub body_bytes : List Instr → List ℕ
body_bytes [] = []
body_bytes (i ∷ is) = entry_bytes i ++ body_bytes is

-- The image of a code: cells, depth and count, then the instructions in order.
unfoldable pub image : Code → List ℕ
image k = number_bytes k.cells ++ number_bytes k.depth ++ number_bytes (length k.entries) ++ body_bytes k.entries

-- Every operand that is not named is 0; false if there is no such instruction.
abbrev pub unnamed_zero : Option ℕ → ℕ → ℕ → Bool
unnamed_zero None a b = false
unnamed_zero (Some zero) a b = a == 0 && b == 0
unnamed_zero (Some (suc zero)) a b = b == 0
unnamed_zero (Some (suc (suc n))) a b = true

-- The entry has the number of an instruction, and every operand that it does not name is 0.
unfoldable pub good_entry : Instr → Bool
good_entry i = unnamed_zero (operands_of i.number) i.a i.b

-- There are at most 4,096 cells, and 1 to 16,383 instructions.
unfoldable pub good_header : ℕ → ℕ → Bool
good_header cells count = nat_le cells most_cells && (nat_le 1 count && nat_le count most_instructions)
