use Rattle.std.proofs.Common.{◌≡◌, ◌*◌, ◌<◌, ◌≤◌, max, drop}
use Rattle.codegen.specs.Items.{ends}
use Rattle.codegen.specs.Measure.{deepest}
use Rattle.codegen.proofs.measure.measure.Given as goal

abbrev pub invariant-loop-n : goal.invariant-loop-n
invariant-loop-n l =
    (l.index < l.limit)
    × (l.height ≤ 2 * l.index)
    × (l.deep ≤ 2 * l.index)
    × (ends (drop l.n-index l.items) l.index ≡ ends l.items 0)
    × (max l.deep (deepest (drop l.n-index l.items) l.height) ≡ deepest l.items 0)
