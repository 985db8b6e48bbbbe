use Rattle.std.proofs.Common.{◌≡◌, ◌≤◌, length}
use Rattle.image.specs.Cursors.{rest_of}
use Rattle.image.specs.Groups.{more}
use Rattle.image.proofs.cursor.Cursor.number.Given as goal

abbrev pub invariant-loop-b : goal.invariant-loop-b
invariant-loop-b l =
    (l.n ≤ 65535)
    × (l.self.end ≡ l.initial.self.end)
    × (more l.initial.self.end l.at 0 (rest_of l.initial.self) ≡ more l.initial.self.end l.at l.n (rest_of l.self))

abbrev pub decreases-loop-b : goal.decreases-loop-b
decreases-loop-b l = length (rest_of l.self)
