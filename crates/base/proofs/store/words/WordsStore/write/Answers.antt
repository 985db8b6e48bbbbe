use Rattle.std.proofs.Common.{arith}
use Rattle.base.specs.Cells.{length_words_of}
use Rattle.base.proofs.store.words.WordsStore.write.Goals as goal

pub put-requires : goal.put-requires
put-requires c = omega (arith, length_words_of c.args.self.now.cells.now)
