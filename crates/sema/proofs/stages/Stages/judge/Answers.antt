use Rattle.std.proofs.Common.{refl}
use Rattle.std.proofs.lemmas.Result.{err_from_is_err_and}
use Rattle.parser.specs.Nodes.{node_list}
use Rattle.sema.specs.Tabled.{table_as}
use Rattle.sema.proofs.Judging.{by_names, by_types, by_sizes}
use Rattle.sema.proofs.stages.Stages.judge.Goals as goal

pub returns-in_err-names : goal.returns-in_err-names
returns-in_err-names c =
    let p = err_from_is_err_and c.from_residual.result c.from_residual.ensures.1 in
    rw (p.1, p.2) record {
      fault = by_names (node_list c.args.nodes.now) _ c.in_err-names.ensures.fault;
      table = c.names.ensures.table;
      arms = refl;
      items = refl;
    }

pub returns-in_err-types : goal.returns-in_err-types
returns-in_err-types c =
    let p = err_from_is_err_and c.from_residual-in_err-types.result c.from_residual-in_err-types.ensures.1 in
    rw (p.1, p.2) record {
      fault = by_types (node_list c.args.nodes.now) (table_as c.names.new.table) _ c.in_ok-names.ensures.fault c.names.ensures.table c.in_err-types.ensures;
      table = c.names.ensures.table;
      arms = refl;
      items = refl;
    }

pub returns : goal.returns
returns c =
    record {
      fault = by_sizes (node_list c.args.nodes.now) (table_as c.names.new.table) _ c.in_ok-names.ensures.fault c.names.ensures.table c.in_ok-types.ensures c.sizes.ensures;
      table = c.names.ensures.table;
      arms = refl;
      items = refl;
    }
