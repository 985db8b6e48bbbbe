-- The code of a source names only cells of the source.
use Rattle.std.specs.Prelude.{◌≡◌, ℕ, List, ◌∷◌, ◌++◌, Ok}
use Rattle.base.specs.declared.instr.Instr.{Instr}
use Rattle.correctness.specs.Named.{Names}
use Rattle.compiler.specs.Compile.{Code, compilation}

-- Each instruction of the code that a source is compiled to names only cells below the number of cells of that code.
abbrev pub OwnCells : Type 0
OwnCells =
    (source : List ℕ) (room : ℕ) (c : Code) → compilation source room ≡ Ok c → (front rest : List Instr) (i : Instr) → c.instrs ≡ front ++ i ∷ rest →
    Names c.cells i
