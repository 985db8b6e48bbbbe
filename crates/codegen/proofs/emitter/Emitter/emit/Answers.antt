use Rattle.std.proofs.Common.{◌≡◌, ℕ, ◌<◌, [], length, Some, None, Ok, Option, sym, ap, ◌∙◌, subst, arith}
use Rattle.std.specs.Option.{ok_or}
use Rattle.codegen.specs.Items.{Back, ends}
use Rattle.codegen.specs.Measure.{Measures}
use Rattle.codegen.specs.Passes.{Low}
use Rattle.codegen.proofs.Loops.{low_places, places_long, back_code}
use Rattle.codegen.proofs.Sizes.{emitted_long}
use Rattle.codegen.proofs.emitter.Emitter.emit.Goals as goal

given : {A E : Type 0} (o : Option A) (e : E) (x : A) → ok_or o e ≡ Ok x → o ≡ Some x
given (Some y) e x h = cc
given None e x h = absurd (let z : ◌≡◌ {A = ℕ} 0 1 = cc in omega arith)

pub resolve-requires-clause-low : goal.resolve-requires-clause-low
resolve-requires-clause-low c =
    let m = subst (Measures c.args.items.now c.min-limit.result) (given c.measure.result _ _ (sym c.in_ok-figures.ensures.value)) c.measure.ensures in
    let h : ends c.args.items.now 0 < 65535 = omega (arith, m.0.count, m.1, c.min-limit.ensures) in
    subst Low (sym c.place_all.ensures) (low_places c.args.items.now 0 [] h)

pub resolve-requires-clause-few : goal.resolve-requires-clause-few
resolve-requires-clause-few c = omega (arith, ap length c.place_all.ensures, places_long c.args.items.now 0 [])

pub resolve-requires-clause-room : goal.resolve-requires-clause-room
resolve-requires-clause-room c =
    let ns = c.args.items.now in
    let m = subst (Measures ns c.min-limit.result) (given c.measure.result _ _ (sym c.in_ok-figures.ensures.value)) c.measure.ensures in
    omega (arith, ap length (back_code ns c.place_all.new.out c.place_all.ensures), emitted_long ns, m.0.count, m.1, c.min-limit.ensures)

pub hand_over-requires : goal.hand_over-requires
hand_over-requires c =
    let ns = c.args.items.now in
    let m = subst (Measures ns c.min-limit.result) (given c.measure.result _ _ (sym c.in_ok-figures.ensures.value)) c.measure.ensures in
    let e = ap (λ (z : Back). z.code) c.resolve.ensures ∙ back_code ns c.place_all.new.out c.place_all.ensures in
    omega (arith, ap length e, emitted_long ns, m.0.count, m.1, c.min-limit.ensures)

pub returns : goal.returns
returns c =
    let ns = c.args.items.now in
    let m = subst (Measures ns c.min-limit.result) (given c.measure.result _ _ (sym c.in_ok-figures.ensures.value)) c.measure.ensures in
    let e = ap (λ (z : Back). z.code) c.resolve.ensures ∙ back_code ns c.place_all.new.out c.place_all.ensures in
    let l = ap length e ∙ emitted_long ns ∙ sym m.0.count in
    (omega arith, m.0, omega (arith, m.1, c.min-limit.ensures), c.hand_over.ensures ∙ rw (l, e))
