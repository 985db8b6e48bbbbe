use Rattle.std.proofs.Common.{◌<◌, length, get_or, Ok, sym, ap, ◌∙◌, arith}
use Rattle.std.proofs.lemmas.Bool.{cond_below}
use Rattle.base.specs.Refusals.{refuse}
use Rattle.base.specs.Cells.{length_pairs_of, get_or_pairs_of}
use Rattle.base.specs.Stores.{pairs_of}
use Rattle.base.proofs.store.bytes.BytesStore.read.Goals as goal

pub at-requires : goal.at-requires
at-requires c = omega (arith, length_pairs_of c.args.self.now.cells.now)

pub returns : goal.returns
returns c =
    let xs = c.args.self.now.cells.now in
    let i = c.args.cell in
    let h : i < length (pairs_of xs) = omega arith in
    ap Ok (c.at.ensures ∙ sym (get_or_pairs_of xs i h)) ∙ cond_below i (length (pairs_of xs)) (Ok (get_or (pairs_of xs) i 0)) (refuse 36 i) h
