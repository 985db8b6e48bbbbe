use Rattle.std.proofs.Common.{◌≡◌, ◌-◌, List, []}
use Rattle.base.specs.declared.instr.Instr.{Instr}
use Rattle.image.specs.Cursors.{rest_of}
use Rattle.image.specs.Reading.{entries_at}
use Rattle.image.proofs.cursor.Cursor.walk.Given as goal

abbrev pub invariant-loop : goal.invariant-loop
invariant-loop l =
    (l.self.end ≡ l.initial.self.end)
    × ((o : List Instr)
    × (entries_at l.initial.self.end l.count [] (rest_of l.initial.self) ≡ entries_at l.initial.self.end (l.count - l.counter) o (rest_of l.self)))
