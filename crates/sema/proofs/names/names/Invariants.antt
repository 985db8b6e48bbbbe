use Rattle.std.proofs.Common.{◌≡◌, drop}
use Rattle.std.specs.Option.{option_map}
use Rattle.parser.specs.Nodes.{node_list}
use Rattle.sema.specs.Faults.{refusal_of, least_from, least}
use Rattle.sema.specs.Tables.{empty}
use Rattle.sema.specs.Names.{name_faults, table_from}
use Rattle.sema.specs.Tabled.{table_as}
use Rattle.sema.proofs.names.names.Given as goal

abbrev pub invariant-loop-n : goal.invariant-loop-n
invariant-loop-n l =
    (least_from (option_map refusal_of l.best) (name_faults (table_as l.table) (node_list (drop l.n-index l.nodes))) ≡ least (name_faults empty (node_list l.nodes)))
    × (table_from (table_as l.table) (node_list (drop l.n-index l.nodes)) ≡ table_from empty (node_list l.nodes))
