use Rattle.std.proofs.Common.{[], ◌∷◌, ◌++◌, ◌∙◌}
use Rattle.std.proofs.lemmas.Result.{err_from_is_err_and}
use Rattle.image.specs.Cursors.{rest_of}
use Rattle.image.proofs.Walks.{walk_on, walk_stop, walk_end, walked}
use Rattle.image.proofs.cursor.Cursor.walk.Goals as goal

pub returns-in_err-entry : goal.returns-in_err-entry
returns-in_err-entry c =
    let p = err_from_is_err_and c.from_residual.result c.from_residual.ensures.1 in
    rw (p.1, p.2)
    (walk_stop c.args.self.now.end c.loop.self.end c.args.count c.loop.counter _ c.loop.invariant.1.0 (rest_of c.loop.self) c.loop.invariant.0 c.loop.invariant.1.1
    _ c.loop-test.true c.in_err-entry.ensures)

pub loop-preserved : goal.loop-preserved
loop-preserved c = (
  c.in_ok-entry.ensures.1 ∙ c.loop.invariant.0,
  (
    c.loop.invariant.1.0 ++ c.in_ok-entry.field-0 ∷ [],
    walk_on c.args.self.now.end c.loop.self.end c.args.count c.loop.counter _ c.loop.invariant.1.0 (rest_of c.loop.self) c.loop.invariant.0 c.loop.invariant.1.1
        c.in_ok-entry.field-0 (rest_of c.entry.new.self) c.loop-test.true c.in_ok-entry.ensures.0,
  ),
)

pub returns : goal.returns
returns c =
    let o = c.loop.invariant.1.0 in
    walked _ o c.ends.result
    (walk_end c.args.self.now.end c.loop.self.end c.args.count c.loop.counter _ o (rest_of c.loop.self) c.loop.invariant.0 c.loop.invariant.1.1
    c.ends.result c.loop-test.false (c.ends.ensures o))
