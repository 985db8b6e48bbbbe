use Rattle.std.proofs.Common.{◌≡◌, ◌+◌, ◌≤◌, length, sym, refl, ap, arith}
use Rattle.std.proofs.lemmas.Result.{err_from_is_err_and}
use Rattle.image.specs.Codes.{code_of, image, body_bytes}
use Rattle.image.specs.Faults.{refusal_of}
use Rattle.image.specs.Writing.{entry_refusal}
use Rattle.image.proofs.Bodies.{sized, image_length, encoded_header, encoded_entry, encoded_short, encoded_whole, judged_err, judged_ok}
use Rattle.image.proofs.write.encode.Goals as goal

pub returns-then-not-good_header : goal.returns-then-not-good_header
returns-then-not-good_header c =
    let e = encoded_header (length c.args.out.now) (code_of c.args.code) (sym c.if-not-good_header.ensures.value) in
    rw e record { answer = refl; after = refl }

pub returns-in_err-body : goal.returns-in_err-body
returns-in_err-body c =
    let k = code_of c.args.code in
    let f = refusal_of c.in_err-body.field-0.0 in
    let p = err_from_is_err_and c.from_residual.result c.from_residual.ensures.1 in
    let e = encoded_entry (length c.args.out.now) k f (sym c.if-not-good_header.ensures.value) (judged_err (entry_refusal 0 c.args.code.instructions.now) _ f c.in_err-body.ensures.answer) in
    rw (p.1, p.2, e) record { answer = refl; after = refl }

pub returns-then-needed-out : goal.returns-then-needed-out
returns-then-needed-out c =
    let k = code_of c.args.code in
    let j = judged_ok (entry_refusal 0 c.args.code.instructions.now) (length (body_bytes c.args.code.instructions.now)) c.in_ok-body.body c.in_ok-body.ensures.answer in
    let needed = c.size.result + c.size-2.result + c.size-3.result + c.in_ok-body.body in
    let n : needed ≡ length (image k) = omega (arith, image_length k, j.1, c.size.ensures.value, c.size-2.ensures.value, c.size-3.ensures.value) in
    let e = encoded_short (length c.args.out.now) k needed (sym c.if-not-good_header.ensures.value) j.0 n c.if-needed-out.true in
    rw e record { answer = refl; after = refl }

pub lay-requires : goal.lay-requires
lay-requires c =
    let k = code_of c.args.code in
    let j = judged_ok (entry_refusal 0 c.args.code.instructions.now) (length (body_bytes c.args.code.instructions.now)) c.in_ok-body.body c.in_ok-body.ensures.answer in
    let l : length (image k) ≤ length c.args.out.now = omega (arith, image_length k, j.1, c.size.ensures.value, c.size-2.ensures.value, c.size-3.ensures.value, c.if-needed-out.false) in
    (c.if-not-good_header.ensures.few refl, l)

pub returns : goal.returns
returns c =
    let k = code_of c.args.code in
    let j = judged_ok (entry_refusal 0 c.args.code.instructions.now) (length (body_bytes c.args.code.instructions.now)) c.in_ok-body.body c.in_ok-body.ensures.answer in
    let needed = c.size.result + c.size-2.result + c.size-3.result + c.in_ok-body.body in
    let n : needed ≡ length (image k) = omega (arith, image_length k, j.1, c.size.ensures.value, c.size-2.ensures.value, c.size-3.ensures.value) in
    let l : length (image k) ≤ length c.args.out.now = omega (arith, n, c.if-needed-out.false) in
    let e = encoded_whole (length c.args.out.now) k (sym c.if-not-good_header.ensures.value) j.0 l in
    rw e record { answer = ap sized n; after = c.lay.ensures }
