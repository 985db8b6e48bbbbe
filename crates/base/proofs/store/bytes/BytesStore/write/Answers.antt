use Rattle.std.proofs.Common.{arith}
use Rattle.base.specs.Cells.{length_pairs_of}
use Rattle.base.proofs.store.bytes.BytesStore.write.Goals as goal

pub put-requires : goal.put-requires
put-requires c = omega (arith, length_pairs_of c.args.self.now.cells.now)
