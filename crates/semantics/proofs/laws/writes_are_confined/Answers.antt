use Rattle.semantics.proofs.Cells.{confined}
use Rattle.semantics.proofs.laws.writes_are_confined.Goals as goal

pub returns : goal.returns
returns c = confined
