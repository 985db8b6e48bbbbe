use Rattle.std.proofs.Common.{◌≡◌, List, length, get_or, take, ap, ◌∙◌, arith}
use Rattle.std.proofs.lemmas.List.{length-append, take_all}
use Rattle.base.specs.declared.instr.Instr.{Instr}
use Rattle.image.specs.Codes.{body_bytes, entry_bytes}
use Rattle.image.proofs.Bodies.{none, body_more, good_size, bad_size, judged_more, judged_bad, judged_end, measured_bad, measured_good}
use Rattle.image.proofs.write.measure.Goals as goal

pub overflow_add-bytes : goal.overflow_add-bytes
overflow_add-bytes c = omega (arith, c.requires, c.loop-i.invariant.0, c.in-Some.ensures.small)

pub returns-in-None : goal.returns-in-None
returns-in-None c =
    let code = c.args.code.now in
    let i = c.loop-i.i in
    let e = c.loop-i.invariant.2 ∙ judged_bad code i i none c.loop-i-test.true (bad_size (get_or code i none) c.in-None.ensures.value) in
    record { answer = measured_bad code i e; small = tt }

pub loop-i-preserved : goal.loop-i-preserved
loop-i-preserved c =
    let code = c.args.code.now in
    let i = c.loop-i.i in
    let n = c.in-Some.n in
    let g = good_size (get_or code i none) n c.in-Some.ensures.value in
    let m = ap length (body_more code i none c.loop-i-test.true) in (
      omega (arith, c.loop-i.invariant.0, c.in-Some.ensures.small),
      omega (arith, c.loop-i.invariant.1, g.1, m, length-append (body_bytes (take i code)) (entry_bytes (get_or code i none))),
      c.loop-i.invariant.2 ∙ judged_more code i i none c.loop-i-test.true g.0,
    )

pub returns : goal.returns
returns c =
    let code = c.args.code.now in
    let i = c.loop-i.i in
    let e = c.loop-i.invariant.2 ∙ judged_end code i c.loop-i-test.false in
    let b : c.loop-i.bytes ≡ length (body_bytes code) = c.loop-i.invariant.1 ∙ ap (λ (is : List Instr). length (body_bytes is)) (take_all i code c.loop-i-test.false) in
    record { answer = measured_good code c.loop-i.bytes e b; small = omega (arith, c.requires, c.loop-i.invariant.0) }
