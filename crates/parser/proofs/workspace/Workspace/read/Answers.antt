use Rattle.std.proofs.Common.{◌≡◌, ℕ, ◌≤◌, length, rules, arith, ap}
use Rattle.std.proofs.lemmas.Result.{err_from_is_err_and}
use Rattle.parser.proofs.Whole.{entries_none, short_source, read_text, read_whole}
use Rattle.parser.proofs.workspace.Workspace.read.Goals as goal

pub whole-requires : goal.whole-requires
whole-requires c =
    let h : length c.args.source.now ≤ 32768 = short_source c.args.source.now _ c.in_ok-check.ensures in
    search rules

pub returns-in_err-check : goal.returns-in_err-check
returns-in_err-check c =
    let p = err_from_is_err_and c.from_residual.result c.from_residual.ensures.1 in
    rw (p.1, p.2) (read_text c.args.source.now _ c.in_err-check.ensures, entries_none _ c.clear.ensures)

pub returns-in-Ok : goal.returns-in-Ok
returns-in-Ok c = read_whole c.args.source.now _ _ c.in_ok-check.ensures (entries_none _ c.clear.ensures) c.in-Ok.ensures.done

pub returns-in-Err : goal.returns-in-Err
returns-in-Err c =
    (read_whole c.args.source.now _ _ c.in_ok-check.ensures (entries_none _ c.clear.ensures) c.in-Err.ensures.done, entries_none _ c.clear-in-Err.ensures)

pub invariant_of-self-in-Ok : goal.invariant_of-self-in-Ok
invariant_of-self-in-Ok c =
    let h : length c.args.source.now ≤ 32768 = short_source c.args.source.now _ c.in_ok-check.ensures in
    let z : ◌≡◌ {A = ℕ} (length c.clear.new.self) 0 = ap length c.clear.ensures in
    record { few = omega (arith, c.in-Ok.ensures.few, h, z) }
