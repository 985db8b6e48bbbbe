-- Every index that an instruction of a code goes to lies inside the code.
use Rattle.std.specs.Prelude.{◌≡◌, ℕ, ◌+◌, ◌<◌, ◌≤◌, List, [], ◌∷◌, ◌++◌, length, Ok, slice_index_or}
use Rattle.base.specs.declared.instr.Instr.{Instr}
use Rattle.base.specs.declared.op.Op.TheVariants as op
use Rattle.base.specs.Ops.{number_of}
use Rattle.ir.specs.Instrs.{HALT}
use Rattle.ir.specs.Trees.{Body}
use Rattle.codegen.specs.Code.{program}
use Rattle.compiler.specs.Compile.{Code, compilation}

-- The instruction i goes only to indices inside the code. BR and BRE go to their first operand, FOR and NEXT to their
-- second. CASE goes to one of as many branches as its second operand says, and the first of these branches stands at
-- its first operand.
pub record Inside (code : List Instr) (i : Instr) : Type 0 where
  pub br : i.number ≡ number_of op.Br → i.a < length code
  pub bre : i.number ≡ number_of op.Bre → i.a < length code
  pub for : i.number ≡ number_of op.For → i.b < length code
  pub next : i.number ≡ number_of op.Next → i.b < length code
  pub case : i.number ≡ number_of op.Case → i.a + i.b ≤ length code
  pub branches : i.number ≡ number_of op.Case → (j : ℕ) → j < i.b → (slice_index_or code (i.a + j) HALT).number ≡ number_of op.Br

-- Each instruction of the code goes only to indices inside the code, and HALT is the last instruction.
pub record Encloses (code : List Instr) : Type 0 where
  pub inside : (front rest : List Instr) (i : Instr) → code ≡ front ++ i ∷ rest → Inside code i
  pub halts : (front : List Instr) × (code ≡ front ++ HALT ∷ [])

-- This holds of the code of each tree, and so of the code of each source that is accepted.
pub record JumpsStayInside : Type 0 where
  pub trees : (b : Body) → Encloses (program b)
  pub sources : (source : List ℕ) (room : ℕ) (c : Code) → compilation source room ≡ Ok c → Encloses c.instrs
