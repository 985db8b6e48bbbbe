use Rattle.std.proofs.Common.{◌≡◌, ◌+◌, ◌<◌, ◌≤◌, List, ◌++◌, length, get_or, take, drop, sym, refl, ap, ◌∙◌, arith}
use Rattle.std.proofs.lemmas.List.{length-map, map-set, get_or-map}
use Rattle.std.proofs.Math.Seq.{map-set_same}
use Rattle.base.specs.Refusals.{told}
use Rattle.machine.specs.Faults.{call_refusal}
use Rattle.machine.specs.declared.call.Call.{Call}
use Rattle.machine.specs.declared.call.Call.TheVariants.{Resume}
use Rattle.machine.specs.declared.call.Exchange.{Exchange}
use Rattle.machine.specs.Calls.{answer_of, state_after_call, answers_of, calls_in, answers_in}
use Rattle.machine.specs.Resources.{state_of}
use Rattle.machine.proofs.Played.{played_more, answers_more, played_all, answers_all, left_same, answer_same}
use Rattle.machine.proofs.session.Session.play.Goals as goal

pub loop-exchange-preserved : goal.loop-exchange-preserved
loop-exchange-preserved g c =
    let self = c.args.self.now in
    let P = c.args.resources.now.code.now in
    let xs = calls_in c.args.exchanges.now in
    let now = c.loop-exchange in
    let X = now.exchanges in
    let i = now.exchange-index in
    let s = state_of g.S.Store.words self c.args.resources.now in
    let t = state_of g.S.Store.words now.self now.resources in
    let u = state_of g.S.Store.words c.call-exchange.new.self c.call-exchange.new.resources in
    let l = now.invariant.3 in
    let m = c.call-exchange.ensures.lasts in
    let k : i < length X = omega (arith, c.loop-exchange-test.true, now.auto.exchanges) in
    let h : i < length xs = omega (arith, c.loop-exchange-test.true, length-map c.args.exchanges.now (λ (x : Exchange). x.call)) in
    let j : i < length (answers_in X) = omega (arith, k, length-map X (λ (x : Exchange). told call_refusal x.answer)) in
    let at = sym (get_or-map (λ (x : Exchange). x.call) X i _ (Resume 0) k) ∙ ap (λ (ys : List Call). get_or ys i (Resume 0)) now.invariant.0 in
    let q : u ≡ state_after_call self.cells self.depth P (get_or xs i (Resume 0)) t = c.call-exchange.ensures.left ∙ left_same _ _ _ _ _ _ _ _ t l.cells l.depth (ap (λ b. b.now) l.code) at in
    let w : told call_refusal c.call-exchange.result ≡ answer_of self.cells self.depth P (get_or xs i (Resume 0)) t =
    c.call-exchange.ensures.answer ∙ answer_same _ _ _ _ _ _ _ _ t l.cells l.depth (ap (λ b. b.now) l.code) at in (
      map-set_same (λ (x : Exchange). x.call) X i _ _ refl ∙ now.invariant.0,
      played_more self.cells self.depth P xs i (Resume 0) h s t u q now.invariant.1,
      ap (λ a. take (i + 1) a ++ answers_of self.cells self.depth P (drop (i + 1) xs) u) (map-set (λ (x : Exchange). told call_refusal x.answer) X i _)
          ∙ answers_more self.cells self.depth P xs i (Resume 0) h s t u (answers_in X) (told call_refusal c.call-exchange.result) j q w now.invariant.2,
      record { cells = m.cells ∙ l.cells; depth = m.depth ∙ l.depth; code = m.code ∙ l.code; stack = m.stack ∙ l.stack; store = m.store ∙ l.store; kept = g.S.Store.goes _ _ _ l.kept m.kept },
    )

pub returns-clause-answers : goal.returns-clause-answers
returns-clause-answers g c =
    let self = c.args.self.now in
    let xs = calls_in c.args.exchanges.now in
    let now = c.loop-exchange in
    let X = now.exchanges in
    let t = state_of g.S.Store.words now.self now.resources in
    let l : length xs ≤ now.exchange-index = omega (arith, c.loop-exchange-test.false, length-map c.args.exchanges.now (λ (x : Exchange). x.call)) in
    let k : length (answers_in X) ≤ now.exchange-index = omega (arith, c.loop-exchange-test.false, now.auto.exchanges, length-map X (λ (x : Exchange). told call_refusal x.answer)) in
    answers_all self.cells self.depth c.args.resources.now.code.now xs now.exchange-index (state_of g.S.Store.words self c.args.resources.now) t (answers_in X) l k now.invariant.2

pub returns-clause-left : goal.returns-clause-left
returns-clause-left g c =
    let self = c.args.self.now in
    let xs = calls_in c.args.exchanges.now in
    let now = c.loop-exchange in
    let l : length xs ≤ now.exchange-index = omega (arith, c.loop-exchange-test.false, length-map c.args.exchanges.now (λ (x : Exchange). x.call)) in
    played_all self.cells self.depth c.args.resources.now.code.now xs now.exchange-index (state_of g.S.Store.words self c.args.resources.now) _ l now.invariant.1
