use Rattle.std.proofs.Common.{sym, rules}
use Rattle.driver.specs.Trials.{lending}
use Rattle.driver.proofs.Kept.{tried, unstarted}
use Rattle.driver.proofs.trial.Trial.play.Goals as goal

pub returns-in_err-session-clause-did : goal.returns-in_err-session-clause-did
returns-in_err-session-clause-did g c =
    let m = c.in_err-session.ensures.did in
    let before = lending c.args.exchanges.now c.args.stack.now (g.S.Store.words c.args.store.now) in
    let u = unstarted c.args.source.now before c.in_ok-code.code _ (sym c.in_ok-code.ensures) m.0 in
    search (rules, u)

pub returns-clause-did : goal.returns-clause-did
returns-clause-did g c = tried c.args.source.now _ _ c.in_ok-code.code c.in_ok-session.session (sym c.in_ok-code.ensures) c.in_ok-session.ensures.did
