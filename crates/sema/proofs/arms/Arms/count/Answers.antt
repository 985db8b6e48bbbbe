use Rattle.std.proofs.Common.{[], ◌∷◌, length, drop, ap, ◌∙◌, sym, arith, length-append}
use Rattle.std.proofs.lemmas.List.{drop_all, append-nil, length-drop}
use Rattle.std.specs.Slice.Iter.{iter_rest}
use Rattle.std.specs.Iterator.Adapters.{rev_source}
use Rattle.parser.specs.Nodes.{node_list}
use Rattle.sema.specs.CaseArms.{Counts, arm_counts}
use Rattle.sema.proofs.Counting.{first_counted, counted_more, counted_none}
use Rattle.sema.proofs.arms.Arms.count.Goals as goal

pub loop-n-init : goal.loop-n-init
loop-n-init c =
    let ns = c.args.nodes.now in
    let e = ap (λ i. iter_rest (rev_source i)) c.into_iter-n-iterator.ensures.into_iter_gives ∙ ap iter_rest c.rev-n-items.ensures.source ∙ c.iter.ensures.rest in
    rw (e, drop_all (length ns) ns (omega arith), c.clear.ensures, c.clear-2.ensures) (tt, tt, sym (append-nil ns), counted_none, omega arith, omega arith)

pub tally-requires-clause-few : goal.tally-requires-clause-few
tally-requires-clause-few c =
    let rest = iter_rest (rev_source c.loop-n.n-iterator) in
    omega (arith, first_counted (drop (length rest) c.args.nodes.now) c.loop-n.self.opened (ap (λ (x : Counts). x.opened) c.loop-n.invariant.3), length-drop (length rest) c.args.nodes.now, ap length c.in-Some.ensures.steps, length-append (iter_rest (rev_source c.next.new.self)) (c.in-Some.n.now ∷ []), c.requires)

pub loop-n-preserved : goal.loop-n-preserved
loop-n-preserved c =
    let s = c.in-Some.ensures.steps in
    let p = counted_more c.args.nodes.now (iter_rest (rev_source c.loop-n.n-iterator)) (iter_rest (rev_source c.next.new.self)) c.in-Some.n.now c.loop-n.self c.tally.new.self c.loop-n.invariant.2 s c.loop-n.invariant.3 c.tally.ensures.counts in
    let l = length-append (iter_rest (rev_source c.next.new.self)) (c.in-Some.n.now ∷ []) in
    (tt, tt, p.0, p.1, omega (arith, ap length s, l, c.tally.ensures.opened, c.loop-n.invariant.4), omega (arith, ap length s, l, c.tally.ensures.closed, c.loop-n.invariant.5))

pub returns : goal.returns
returns c = c.loop-n.invariant.3 ∙ ap (λ k. arm_counts (node_list (drop k c.args.nodes.now))) c.in-None.ensures.steps.0
