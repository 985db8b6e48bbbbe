use Rattle.std.proofs.Common.{◌≡◌, ◌++◌, take, drop}
use Rattle.machine.specs.Calls.{state_after_calls, answers_of, calls_in, answers_in}
use Rattle.machine.specs.Resources.{state_of, Lasts}
use Rattle.machine.proofs.session.Session.play.Given as goal

abbrev pub invariant-loop-exchange : goal.invariant-loop-exchange
invariant-loop-exchange g l =
    let c = l.initial.self.cells in
    let d = l.initial.self.depth in
    let P = l.initial.resources.code.now in
    let i = l.exchange-index in
    let xs = calls_in l.initial.exchanges in
    let s = state_of g.S.Store.words l.initial.self l.initial.resources in
    let t = state_of g.S.Store.words l.self l.resources in
    (calls_in l.exchanges ≡ xs)
    × (state_after_calls c d P (drop i xs) t ≡ state_after_calls c d P xs s)
    × (take i (answers_in l.exchanges) ++ answers_of c d P (drop i xs) t ≡ answers_of c d P xs s)
    × Lasts g.S.Store.keeps l.initial.self l.self l.initial.resources l.resources
