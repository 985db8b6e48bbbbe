use Rattle.std.proofs.Common.{sym, refl, ap, ◌∙◌}
use Rattle.std.proofs.lemmas.Result.{err_from_is_err_and}
use Rattle.compiler.specs.Compile.{work_after}
use Rattle.compiler.proofs.Compiling.{refused, made, unmade}
use Rattle.compiler.proofs.compiler.Compiler.compile.Goals as goal

pub returns-in_err-cells : goal.returns-in_err-cells
returns-in_err-cells c =
    let p = err_from_is_err_and c.from_residual.result c.from_residual.ensures.1 in
    let e = c.in_err-cells.ensures in
    rw (p.1, p.2) (refused c.args.source.now _ _ e.0, refl, e.1 ∙ sym (ap work_after e.0), e.2)

pub returns-in-Ok : goal.returns-in-Ok
returns-in-Ok c =
    let e = c.in_ok-cells.ensures in
    let m = made c.args.source.now _ c.args.table.now e.0 _ _ _ c.items.ensures.list c.in-Ok.ensures in
    (e.0, m.0, e.1, m.1, m.2, m.3, e.2)

pub returns-in-Err : goal.returns-in-Err
returns-in-Err c =
    let e = c.in_ok-cells.ensures in
    let m = unmade c.args.source.now _ c.args.table.now e.0 _ _ _ c.items.ensures.list c.items.ensures.few c.in-Err.ensures in
    (m.0, m.1, sym (ap work_after e.0), e.2)
