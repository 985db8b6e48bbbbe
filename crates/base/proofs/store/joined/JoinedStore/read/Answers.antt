use Rattle.std.proofs.Common.{◌-◌, ◌<◌, length, get_or, ap, ◌∙◌, arith}
use Rattle.base.specs.Cells.{length_joined_of, cell_like, get_or_first, get_or_second}
use Rattle.base.specs.Stores.{read_of, joined_of}
use Rattle.base.proofs.Chosen.{in_first, in_second}
use Rattle.base.proofs.store.joined.JoinedStore.read.Goals as goal

pub returns-in-First : goal.returns-in-First
returns-in-First g c =
    let xs = g.X.Store.words c.args.self.now.first.now in
    let ys = g.Y.Store.words c.args.self.now.second.now in
    let i = c.args.cell in
    let p = in_first i c.size-2.result c.in-First.c c.in-First.ensures in
    let h : i < length xs = omega (arith, p.0, c.size-2.ensures) in
    let j : i < length (joined_of xs ys) = omega arith in
    c.read.ensures ∙ ap (read_of xs) p.1
    ∙ cell_like xs (joined_of xs ys) i i (get_or xs i 0) (get_or (joined_of xs ys) i 0) h j (get_or_first xs ys i h (omega (arith, length_joined_of xs ys)))

pub returns-in-Second : goal.returns-in-Second
returns-in-Second g c =
    let xs = g.X.Store.words c.args.self.now.first.now in
    let ys = g.Y.Store.words c.args.self.now.second.now in
    let i = c.args.cell in
    let m = c.size-2.result in
    let p = in_second i m c.in-Second.c c.in-Second.ensures in
    let j : i < length (joined_of xs ys) = omega arith in
    let h : i - m < length ys = omega (arith, p.0, c.size-2.ensures, length_joined_of xs ys) in
    c.read-in-Second.ensures ∙ ap (read_of ys) p.1
    ∙ cell_like ys (joined_of xs ys) (i - m) i (get_or ys (i - m) 0) (get_or (joined_of xs ys) i 0) h j (get_or_second xs ys m i c.size-2.ensures p.0 (omega (arith, length_joined_of xs ys)))
