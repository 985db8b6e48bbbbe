use Rattle.std.proofs.Common.{◌≡◌, ◌<◌, length, get_or, Ok, ap, ◌∙◌, arith}
use Rattle.std.proofs.lemmas.Bool.{cond_below}
use Rattle.base.specs.Refusals.{refuse}
use Rattle.base.specs.Cells.{length_words_of, get_or_words_of}
use Rattle.base.specs.Stores.{words_of}
use Rattle.base.proofs.store.words.WordsStore.read.Goals as goal

pub at-requires : goal.at-requires
at-requires c = omega (arith, length_words_of c.args.self.now.cells.now)

pub returns : goal.returns
returns c =
    let xs = c.args.self.now.cells.now in
    let i = c.args.cell in
    let h : i < length (words_of xs) = omega arith in
    let e : c.at.result ≡ get_or (words_of xs) i 0 = omega (arith, c.at.ensures, c.at.type_inv, get_or_words_of xs i h) in
    ap Ok e ∙ cond_below i (length (words_of xs)) (Ok (get_or (words_of xs) i 0)) (refuse 36 i) h
