use Rattle.std.proofs.Common.{arith}
use Rattle.base.specs.Cells.{length_pairs_of}
use Rattle.base.proofs.store.bytes.BytesStore.size.Goals as goal

pub returns : goal.returns
returns c = omega (arith, c.min.ensures, length_pairs_of c.args.self.now.cells.now)
