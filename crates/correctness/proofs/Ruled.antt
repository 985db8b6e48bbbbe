-- Of a source that keeps the rules every cell that it names is its own, so the theorems hold of it.
use Rattle.correctness.specs.Agreement.{Agreement}
use Rattle.correctness.specs.Named.{CodeNamesItsOwnCells}
use Rattle.correctness.specs.Sessions.{KeepsStep}
use Rattle.sema.specs.Rules.{widths}
use Rattle.sema.specs.Resolving.{resolve}
use Rattle.semantics.proofs.Cells.{confined}
use Rattle.std.specs.Prelude.{length}
use Rattle.correctness.proofs.Admitted.{ruled_within}
use Rattle.correctness.proofs.Calls.{kept}
use Rattle.correctness.proofs.Named.{celled}
use Rattle.correctness.proofs.Whole.{agreement}

pub agrees : Agreement
agrees p st σ r there lent = agreement (resolve p) st σ (confined.more (resolve p) (widths p.decls) (length σ) there (ruled_within p r)) lent

pub keeps_step : KeepsStep
keeps_step p st σ r short lent there xs = kept (resolve p) (widths p.decls) st σ (ruled_within p r) short lent there xs

pub own_cells : CodeNamesItsOwnCells
own_cells p r front rest i e = celled (resolve p) (widths p.decls) (ruled_within p r) front rest i e
