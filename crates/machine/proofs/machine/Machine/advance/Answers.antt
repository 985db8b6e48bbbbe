use Rattle.std.proofs.Common.{Ok, Err, rules}
use Rattle.machine.specs.Registers.{state_of}
use Rattle.machine.proofs.Pops.{pops_held}
use Rattle.machine.proofs.Steps.{goes_by}
use Rattle.machine.proofs.machine.Machine.advance.Goals as goal

pub returns-in_err-m-clause-did : goal.returns-in_err-m-clause-did
returns-in_err-m-clause-did g c =
    let self = c.args.self.now in
    let h = goes_by self.code.now self.depth (state_of g.S.Store.words self) (Err c.in_err-m.field-0.0) c.in_err-m.ensures.moves in
    search rules

pub make-requires-clause-pops : goal.make-requires-clause-pops
make-requires-clause-pops g c = pops_held _ (state_of g.S.Store.words c.args.self.now) _ c.in_ok-m.ensures.moves

pub returns-clause-did : goal.returns-clause-did
returns-clause-did g c =
    let self = c.args.self.now in
    rw (goes_by self.code.now self.depth (state_of g.S.Store.words self) (Ok c.in_ok-m.m) c.in_ok-m.ensures.moves) c.make.ensures.did
