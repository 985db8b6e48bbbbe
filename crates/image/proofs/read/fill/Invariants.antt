use Rattle.std.proofs.Common.{◌≡◌, ◌-◌, [], length, drop}
use Rattle.base.specs.Lists.{contents, room}
use Rattle.image.specs.Cursors.{rest_of}
use Rattle.image.specs.Reading.{entries_at}
use Rattle.image.proofs.read.fill.Given as goal

abbrev pub invariant-loop : goal.invariant-loop
invariant-loop l =
    (l.cursor.end ≡ l.initial.cursor.end)
    × (l.list.len ≡ l.counter)
    × (length (room l.list) ≡ length (room l.initial.list))
    × (l.list.cells.ghost_name ≡ l.initial.list.cells.ghost_name)
    × (drop l.counter (room l.list) ≡ drop l.counter (room l.initial.list))
    × (entries_at l.initial.cursor.end l.count [] (rest_of l.initial.cursor) ≡ entries_at l.initial.cursor.end (l.count - l.counter) (contents l.list) (rest_of l.cursor))
