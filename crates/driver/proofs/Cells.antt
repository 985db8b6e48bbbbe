-- The code of a source names no cells but the source's. Assumes nothing.
use Rattle.std.proofs.Common.{◌≡◌, ◌∷◌, ◌++◌, sym, subst, ◌∙◌}
use Rattle.codegen.specs.Code.{program}
use Rattle.sema.specs.Resolving.{resolve}
use Rattle.correctness.specs.Named.{Names}
use Rattle.correctness.proofs.Ruled.{own_cells as names_own}
use Rattle.compiler.proofs.Exact.{tree_of}
use Rattle.driver.specs.Cells.{OwnCells}

pub own_cells : OwnCells
own_cells source room c h front rest i e =
    let t = tree_of source room c h in
    let s : program (resolve t.0) ≡ front ++ i ∷ rest = sym t.1.instrs ∙ e in
    subst (λ n. Names n i) (sym t.1.cells) (names_own t.0 t.1.admitted front rest i s)
