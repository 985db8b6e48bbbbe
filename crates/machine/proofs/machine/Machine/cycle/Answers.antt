use Rattle.machine.specs.Registers.{state_of}
use Rattle.machine.proofs.Steps.{step_ok, step_err}
use Rattle.machine.proofs.machine.Machine.cycle.Goals as goal

pub returns-in_default-clause-did : goal.returns-in_default-clause-did
returns-in_default-clause-did g c = step_ok _ _ (state_of g.S.Store.words c.args.self.now) _ c.requires.going c.in_default.ensures.did

pub returns-in-Err-clause-did : goal.returns-in-Err-clause-did
returns-in-Err-clause-did g c =
    let h = c.in-Err.ensures.did in
    step_err _ _ (state_of g.S.Store.words c.args.self.now) _ c.in-Err.e c.requires.going h.0 h.1
