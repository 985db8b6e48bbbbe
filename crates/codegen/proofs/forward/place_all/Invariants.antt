use Rattle.std.proofs.Common.{◌≡◌, ◌≤◌, [], ◌++◌, length, reverse, drop}
use Rattle.codegen.specs.Items.{placements, ends}
use Rattle.codegen.proofs.forward.place_all.Given as goal

abbrev pub invariant-loop-n : goal.invariant-loop-n
invariant-loop-n l =
    (l.out ++ placements (drop l.n-index l.items) l.index (reverse l.starts) ≡ placements l.items 0 [])
    × (ends (drop l.n-index l.items) l.index ≡ ends l.items 0)
    × (length l.out ≡ l.n-index)
    × (length l.starts ≤ l.n-index)
