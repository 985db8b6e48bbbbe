use Rattle.std.proofs.Common.{◌≡◌, ◌*◌, ◌≤◌, [], ◌++◌, length, drop}
use Rattle.parser.specs.Nodes.{node_list}
use Rattle.sema.specs.Tabled.{table_as}
use Rattle.sema.specs.Emitting.{writes}
use Rattle.sema.proofs.stages.Stages.write.Given as goal

abbrev pub invariant-loop-n : goal.invariant-loop-n
invariant-loop-n l =
    let t = l.initial.self.table in
    (l.self.items ++ writes (table_as t) (node_list (drop l.n-index l.nodes)) l.self.operands l.self.arms.closed ≡ writes (table_as t) (node_list l.nodes) [] l.initial.self.arms.closed)
    × (l.self.table ≡ t)
    × (length l.self.operands ≤ l.n-index)
    × (length l.self.items ≤ 2 * l.n-index)
