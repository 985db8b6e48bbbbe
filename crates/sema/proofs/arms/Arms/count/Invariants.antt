use Rattle.std.proofs.Common.{◌≡◌, ◌+◌, ◌≤◌, ◌++◌, length, drop}
use Rattle.std.specs.Slice.Iter.{iter_rest}
use Rattle.std.specs.Iterator.Adapters.{rev_source}
use Rattle.parser.specs.Nodes.{node_list}
use Rattle.sema.specs.CaseArms.{arm_counts}
use Rattle.sema.proofs.arms.Arms.count.Given as goal

abbrev pub invariant-loop-n : goal.invariant-loop-n
invariant-loop-n l =
    let rest = iter_rest (rev_source l.n-iterator) in
    (goal.iterator-loop-n).can_next l.n-iterator
    × (goal.iterator-loop-n).is_finite l.n-iterator
    × (l.nodes ≡ rest ++ drop (length rest) l.nodes)
    × (l.self ≡ arm_counts (node_list (drop (length rest) l.nodes)))
    × (length l.self.opened + length rest ≤ length l.nodes)
    × (length l.self.closed + length rest ≤ length l.nodes)
