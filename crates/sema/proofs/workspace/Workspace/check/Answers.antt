use Rattle.std.proofs.Common.{◌≡◌, ℕ, List, [], Ok, sym, refl, ap, ◌∙◌, arith}
use Rattle.std.proofs.lemmas.Result.{err_from_is_err_and}
use Rattle.parser.specs.Nodes.{Node, node_list}
use Rattle.sema.specs.declared.table.NameTable.{NameTable}
use Rattle.parser.specs.Works.{syntax_list}
use Rattle.ir.specs.declared.item.Item.{Item}
use Rattle.sema.specs.Tables.{Table, empty}
use Rattle.sema.specs.CaseArms.{Counts}
use Rattle.sema.specs.Works.{CheckedSource, verdict, nothing, nodes_from}
use Rattle.sema.proofs.Judging.{refused_first, refused_later, accepted, narrow_passed, total_passed}
use Rattle.sema.proofs.workspace.Workspace.check.Goals as goal

none_held : (is : List Item) (t : Table) → is ≡ [] → t ≡ empty → ◌≡◌ {A = CheckedSource} record { items = is; table = t } nothing
none_held is t i e = rw (i, e) refl

pub returns-in_err-read : goal.returns-in_err-read
returns-in_err-read c =
    let p = err_from_is_err_and c.from_residual.result c.from_residual.ensures.1 in
    let e = c.in_err-read.ensures.0 in
    rw (p.1, p.2) (refused_first c.args.source.now _ e, none_held _ _ c.clear.ensures c.clear-2.ensures, c.in_err-read.ensures.1 ∙ sym (ap nodes_from e))

pub returns-in-Err : goal.returns-in-Err
returns-in-Err c =
    let r = c.in_ok-read.ensures in (
      refused_later c.args.source.now _ r _ (c.in-Err.ensures.fault ∙ ap verdict c.nodes-nodes.ensures.list),
      none_held _ _ (c.in-Err.ensures.items ∙ c.clear.ensures) c.clear-in-Err.ensures,
      sym (ap nodes_from r),
    )

pub write-requires-clause-narrow : goal.write-requires-clause-narrow
write-requires-clause-narrow c = narrow_passed (node_list c.nodes-nodes.result.now) _ c.judge.ensures.table c.in_default.ensures.fault

pub overflow_cast-result : goal.overflow_cast-result
overflow_cast-result c =
    let l = total_passed (node_list c.nodes-nodes.result.now) _ c.judge.ensures.table c.in_default.ensures.fault in
    let e : ◌≡◌ {A = ℕ} c.write.new.self.table.cells c.judge.new.self.table.cells = ap (λ (t : NameTable). t.cells) c.write.ensures.table in
    omega (arith, l, e, c.cells.ensures)

pub returns : goal.returns
returns c =
    let r = c.in_ok-read.ensures in
    let es = node_list c.nodes-nodes.result.now in
    let q : syntax_list c.args.source.now ≡ Ok es = r ∙ ap (λ (x : List Node). Ok x) (sym c.nodes-nodes.ensures.list) in
    let a = accepted c.args.source.now es q _ _ _ c.in_default.ensures.fault c.judge.ensures.table (ap (λ (x : Counts). x.closed) c.count.ensures) c.write.ensures.items in (
      rw c.write.ensures.table a,
      c.cells.ensures,
      sym (ap nodes_from r),
    )
