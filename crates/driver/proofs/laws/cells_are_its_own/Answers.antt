use Rattle.driver.proofs.Cells.{own_cells}
use Rattle.driver.proofs.laws.cells_are_its_own.Goals as goal

pub returns : goal.returns
returns c = own_cells
