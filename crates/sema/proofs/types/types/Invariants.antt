use Rattle.std.proofs.Common.{◌≡◌, ◌≤◌, [], length, drop}
use Rattle.std.specs.Option.{option_map}
use Rattle.parser.specs.Nodes.{node_list}
use Rattle.sema.specs.Faults.{refusal_of, least_from, least}
use Rattle.sema.specs.Tabled.{table_as}
use Rattle.sema.specs.Types.{type_faults}
use Rattle.sema.proofs.types.types.Given as goal

abbrev pub invariant-loop-n : goal.invariant-loop-n
invariant-loop-n l =
    (least_from (option_map refusal_of l.best) (type_faults (table_as l.table) (node_list (drop l.n-index l.nodes)) l.operands) ≡ least (type_faults (table_as l.table) (node_list l.nodes) []))
    × (length l.operands ≤ l.n-index)
