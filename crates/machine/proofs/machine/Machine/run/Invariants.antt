use Rattle.std.proofs.Common.{◌≡◌, ◌+◌, ◌≤◌}
use Rattle.machine.specs.Registers.{state_of, Lasts}
use Rattle.machine.specs.Machine.{run}
use Rattle.machine.proofs.machine.Machine.run.Given as goal

abbrev pub invariant-loop-i : goal.invariant-loop-i
invariant-loop-i g l =
    (state_of g.S.Store.words l.self ≡ run l.initial.self.code.now l.initial.self.depth l.i (state_of g.S.Store.words l.initial.self))
    × (l.self.steps ≤ l.initial.self.steps + l.i)
    × Lasts g.S.Store.keeps l.initial.self l.self
