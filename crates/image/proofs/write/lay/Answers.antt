use Rattle.std.proofs.Common.{length, sym, ap, ◌∙◌, arith}
use Rattle.image.specs.Codes.{code_of, image}
use Rattle.image.proofs.Appends.{appended_then, from_nothing}
use Rattle.image.proofs.Bodies.{image_length}
use Rattle.image.proofs.write.lay.Goals as goal

pub put-requires : goal.put-requires
put-requires c = omega (arith, c.requires.1, image_length (code_of c.args.code), c.new-list.ensures.len, ap length c.new-list.ensures.room)

pub put-requires-2 : goal.put-requires-2
put-requires-2 c =
    omega (arith, c.requires.1, image_length (code_of c.args.code), c.new-list.ensures.len, ap length c.new-list.ensures.room, c.put.ensures.len, c.put.ensures.size)

pub put-requires-3 : goal.put-requires-3
put-requires-3 c =
    omega (arith, c.requires.1, image_length (code_of c.args.code), c.new-list.ensures.len, ap length c.new-list.ensures.room, c.put.ensures.len, c.put.ensures.size, c.put-2.ensures.len, c.put-2.ensures.size)

pub put_body-requires : goal.put_body-requires
put_body-requires c =
    omega (arith, c.requires.1, image_length (code_of c.args.code), c.new-list.ensures.len, ap length c.new-list.ensures.room, c.put.ensures.len, c.put.ensures.size, c.put-2.ensures.len, c.put-2.ensures.size, c.put-3.ensures.len, c.put-3.ensures.size)

pub returns : goal.returns
unfolding image
returns c =
    let a = appended_then _ _ _ _ _ (appended_then _ _ _ _ _ (appended_then _ _ _ _ _ c.put.ensures c.put-2.ensures) c.put-3.ensures) c.put_body.ensures in
    let q = c.out-1.given.1.1 (sym (a.loan ∙ c.new-list.ensures.lends)) in
    q ∙ from_nothing c.new-list.result _ c.put_body.new.out c.args.out.now a c.new-list.ensures.held c.new-list.ensures.len c.new-list.ensures.room
