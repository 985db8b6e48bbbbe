use Rattle.std.proofs.Common.{arith}
use Rattle.base.specs.Cells.{length_words_of}
use Rattle.base.proofs.store.words.WordsStore.size.Goals as goal

pub returns : goal.returns
returns c = omega (arith, c.min.ensures, length_words_of c.args.self.now.cells.now)
