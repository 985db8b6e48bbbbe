use Rattle.std.proofs.Common.{◌≡◌, ◌+◌, ◌≤◌, length}
use Rattle.codegen.specs.Items.{back, last}
use Rattle.codegen.specs.Passes.{Low}
use Rattle.codegen.proofs.backward.Backward.resolve.Given as goal

abbrev pub invariant-loop-x : goal.invariant-loop-x
invariant-loop-x l =
    (back l.rest l.self ≡ back l.initial.rest last)
    × Low l.rest
    × (length l.self.todo + length l.rest ≤ 131072)

abbrev pub decreases-loop-x : goal.decreases-loop-x
decreases-loop-x l = length l.rest
