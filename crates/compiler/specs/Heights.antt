-- The depth is the largest number of words stacked, in the order of the code.
use Rattle.std.specs.Prelude.{◌≡◌, ℕ, ◌≤◌, List, [], ◌∷◌, ◌++◌, Ok}
use Rattle.base.specs.declared.instr.Instr.{Instr}
use Rattle.base.specs.Heights.{height}
use Rattle.ir.specs.Trees.{Body}
use Rattle.codegen.specs.Code.{program, depth}
use Rattle.compiler.specs.Compile.{Code, compilation}

-- The number of words stacked after these instructions, if h are stacked before them, counted by what each takes and
-- leaves.
abbrev pub height_after : ℕ → List Instr → ℕ
height_after h [] = h
height_after h (i ∷ is) = height_after (height i h) is

-- At no point of the code are more than d words stacked, and at some point exactly d are.
pub record Deepest (code : List Instr) (d : ℕ) : Type 0 where
  pub most : (front rest : List Instr) → code ≡ front ++ rest → height_after 0 front ≤ d
  pub some : (front : List Instr) × (rest : List Instr) × (code ≡ front ++ rest) × (height_after 0 front ≡ d)

-- This holds of the code and the depth of each tree, and so of each source that is accepted.
pub record Deep : Type 0 where
  pub trees : (b : Body) → Deepest (program b) (depth b)
  pub sources : (source : List ℕ) (room : ℕ) (c : Code) → compilation source room ≡ Ok c → Deepest c.instrs c.depth
