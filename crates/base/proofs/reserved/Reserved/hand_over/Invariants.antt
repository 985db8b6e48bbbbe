use Rattle.std.proofs.Common.{◌≡◌, ◌+◌, ◌++◌, length, reverse, drop}
use Rattle.base.specs.Lists.{contents, room}
use Rattle.base.proofs.reserved.Reserved.hand_over.Given as goal

abbrev pub invariant-loop-x : goal.invariant-loop-x
invariant-loop-x g l =
    (l.list.len + length l.self ≡ length l.initial.self)
    × (contents l.list ++ reverse l.self ≡ reverse l.initial.self)
    × (drop (length l.initial.self) (room l.list) ≡ drop (length l.initial.self) (room l.initial.list))
    × (length (room l.list) ≡ length (room l.initial.list))
    × (l.list.cells.ghost_name ≡ l.initial.list.cells.ghost_name)

abbrev pub decreases-loop-x : goal.decreases-loop-x
decreases-loop-x g l = length l.self
