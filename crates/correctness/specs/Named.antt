-- The code of a source names only cells of the source.
use Rattle.std.specs.Prelude.{◌≡◌, ℕ, ◌+◌, ◌≤◌, List, ◌∷◌, ◌++◌, Some, None, Option, slice_get}
use Rattle.base.specs.declared.op.Op.{Op}
use Rattle.base.specs.declared.op.Op.TheVariants.{Load, Stor, Ldx, Stx, For, Next}
use Rattle.base.specs.Ops.{ops}
use Rattle.base.specs.declared.instr.Instr.{Instr}
use Rattle.ast.specs.Trees.{Program}
use Rattle.codegen.specs.Code.{program}
use Rattle.semantics.specs.Meaning.{Within}
use Rattle.sema.specs.Rules.{KeepsTheRules, widths}
use Rattle.sema.specs.Resolving.{resolve}

-- The cells that an instruction names lie below this number. LOAD, STOR, FOR and NEXT name one cell, LDX and STX the
-- cells of an array.
abbrev pub reach : Op → (a b : ℕ) → ℕ
reach Load a b = a + 1
reach Stor a b = a + 1
reach For a b = a + 1
reach Next a b = a + 1
reach Ldx a b = a + b
reach Stx a b = a + b
reach _ a b = 0

-- The same for the instruction of a number, if there is one.
abbrev pub reach_of : Option Op → (a b : ℕ) → ℕ
reach_of None a b = 0
reach_of (Some o) a b = reach o a b

-- Each cell that the instruction i names is one of the first n.
abbrev pub Names : (n : ℕ) → Instr → Type 0
Names n i = reach_of (slice_get ops i.number) i.a i.b ≤ n

-- Every cell that a source names is one of its own, if the source keeps the rules.
abbrev pub NamesItsOwnCells : Type 0
NamesItsOwnCells = (p : Program) → KeepsTheRules p → Within (resolve p) (widths p.decls)

-- Each instruction of the code of a source names only cells of the source, if the source keeps the rules.
abbrev pub CodeNamesItsOwnCells : Type 0
CodeNamesItsOwnCells =
    (p : Program) → KeepsTheRules p → (front rest : List Instr) (i : Instr) → program (resolve p) ≡ front ++ i ∷ rest → Names (widths p.decls) i
