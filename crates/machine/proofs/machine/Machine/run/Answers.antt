use Rattle.std.proofs.Common.{◌≡◌, is_some, None, sym, refl, ap, ◌∙◌, arith, rules}
use Rattle.std.proofs.lemmas.Bool.{false≢true}
use Rattle.machine.specs.Registers.{state_of}
use Rattle.machine.specs.Machine.{step, run}
use Rattle.machine.proofs.Going.{run_more, early}
use Rattle.machine.proofs.Steps.{steps_step}
use Rattle.machine.proofs.machine.Machine.run.Goals as goal

pub loop-i-init : goal.loop-i-init
unfolding run
loop-i-init g c = (refl, omega arith, record { code = refl; depth = refl; stack = refl; words = refl; store = refl; kept = g.S.Store.stays _ })

pub returns-then-is_some-clause-did : goal.returns-then-is_some-clause-did
returns-then-is_some-clause-did g c =
    let self = c.args.self.now in
    let t = state_of g.S.Store.words c.loop-i.self in
    early self.code.now self.depth c.loop-i.i c.args.steps (state_of g.S.Store.words self) t c.loop-i.invariant.0 (omega arith) (λ n. false≢true (ap is_some (sym n) ∙ sym c.if-is_some.ensures))

pub loop-i-preserved : goal.loop-i-preserved
loop-i-preserved g c =
    let self = c.args.self.now in
    let t = state_of g.S.Store.words c.loop-i.self in
    let u = state_of g.S.Store.words c.cycle.new.self in
    let l = c.loop-i.invariant.2 in
    let k = c.cycle.ensures.lasts in
    let e : c.loop-i.self.ending ≡ None = search rules in
    let q : u ≡ step self.code.now self.depth t = rw (l.code, l.depth) at c.cycle.ensures.did in (
      run_more self.code.now self.depth c.loop-i.i (state_of g.S.Store.words self) t u c.loop-i.invariant.0 q,
      omega (arith, steps_step self.code.now self.depth t e, ap (λ s. s.registers.steps) q, c.loop-i.invariant.1),
      record { code = k.code ∙ l.code; depth = k.depth ∙ l.depth; stack = k.stack ∙ l.stack; words = k.words ∙ l.words; store = k.store ∙ l.store; kept = g.S.Store.goes _ _ _ l.kept k.kept },
    )
