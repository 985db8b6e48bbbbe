use Rattle.std.proofs.Common.{◌≡◌, ◌+◌, ◌-◌, ◌<◌, length, drop, sym, ap, ◌∙◌, arith}
use Rattle.std.proofs.lemmas.List.{length-set, drop-set-lt}
use Rattle.std.proofs.lemmas.Result.{err_from_is_err_and}
use Rattle.base.specs.Lists.{contents, room}
use Rattle.base.proofs.Pushes.{pushed}
use Rattle.image.specs.Cursors.{rest_of}
use Rattle.image.specs.Reading.{entries_at}
use Rattle.image.proofs.Bytes.{drop_further}
use Rattle.image.proofs.Walks.{walk_on, walk_stop, walk_end, filled}
use Rattle.image.proofs.read.fill.Goals as goal

pub returns-in_err-entry : goal.returns-in_err-entry
returns-in_err-entry c =
    let p = err_from_is_err_and c.from_residual.result c.from_residual.ensures.1 in
    rw (p.1, p.2)
    (walk_stop c.args.cursor.now.end c.loop.cursor.end c.args.count c.loop.counter _ (contents c.loop.list) (rest_of c.loop.cursor) c.loop.invariant.0 c.loop.invariant.5
    _ c.loop-test.true c.in_err-entry.ensures)

pub loop-preserved : goal.loop-preserved
loop-preserved c =
    let i = c.loop.counter in
    let b = c.loop.list in
    let x = c.in_ok-entry.entry in
    let h : b.len < length (room b) = omega (arith, c.loop.invariant.1, c.loop.invariant.2, ap length c.new-list.ensures.room, c.requires) in
    let p = pushed b x c.push.new.self c.push.result c.push.ensures h in
    let k : i < i + 1 = omega arith in
    let l : b.len < i + 1 = omega (arith, c.loop.invariant.1) in (
      c.in_ok-entry.ensures.1 ∙ c.loop.invariant.0,
      p.1 ∙ ap (λ n. n + 1) c.loop.invariant.1,
      ap length p.2 ∙ length-set (room b) b.len x ∙ c.loop.invariant.2,
      p.3 ∙ c.loop.invariant.3,
      ap (drop (i + 1)) p.2 ∙ drop-set-lt (i + 1) (room b) b.len x l ∙ drop_further i (room b) _ c.loop.invariant.4,
      walk_on c.args.cursor.now.end c.loop.cursor.end c.args.count i _ (contents b) (rest_of c.loop.cursor) c.loop.invariant.0 c.loop.invariant.5
          x (rest_of c.entry.new.self) c.loop-test.true c.in_ok-entry.ensures.0
          ∙ ap (λ o. entries_at c.args.cursor.now.end (c.args.count - (i + 1)) o (rest_of c.entry.new.self)) (sym p.0),
    )

pub returns : goal.returns
returns c =
    let d = c.loop.list in
    let n : c.loop.counter ≡ c.args.count = omega arith in
    let q = c.table-1.given.1.1 (sym (c.loop.invariant.3 ∙ c.new-list.ensures.lends)) in
    rw q
    (filled _ c.args.count c.args.table.now (room d) c.ends.result d.len c.loop.counter (c.loop.invariant.1 ∙ n) n
    (walk_end c.args.cursor.now.end c.loop.cursor.end c.args.count c.loop.counter _ (contents d) (rest_of c.loop.cursor) c.loop.invariant.0 c.loop.invariant.5
    c.ends.result c.loop-test.false (c.ends.ensures (contents d)))
    (c.loop.invariant.4 ∙ ap (drop c.loop.counter) c.new-list.ensures.room))
