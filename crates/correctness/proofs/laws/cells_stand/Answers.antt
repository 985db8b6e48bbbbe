use Rattle.correctness.proofs.Ruled.{own_cells}
use Rattle.correctness.proofs.laws.cells_stand.Goals as goal

pub returns : goal.returns
returns c = own_cells
