use Rattle.std.proofs.Common.{◌<◌, length, sym, arith}
use Rattle.std.proofs.lemmas.Bool.{eqb-true, eqb-false}
use Rattle.image.specs.Cursors.{rest_of}
use Rattle.image.proofs.Walks.{entries_none, entries_left}
use Rattle.image.proofs.cursor.Cursor.ends.Goals as goal

pub returns-then-is_empty : goal.returns-then-is_empty
returns-then-is_empty c o =
    entries_none c.args.self.now.end o (rest_of c.args.self.now) (eqb-true (length (rest_of c.args.self.now)) 0 (sym c.if-is_empty.ensures))

pub returns : goal.returns
returns c o =
    let h : 0 < length (rest_of c.args.self.now) = omega (arith, eqb-false (length (rest_of c.args.self.now)) 0 (sym c.if-is_empty.ensures)) in
    entries_left c.args.self.now.end c.offset.result o (rest_of c.args.self.now) h c.offset.ensures
