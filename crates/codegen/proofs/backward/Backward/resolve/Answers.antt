use Rattle.std.proofs.Common.{[], ◌∷◌, length, ap, arith, length-append}
use Rattle.codegen.proofs.Loops.{back_more, back_room, low_last}
use Rattle.codegen.proofs.backward.Backward.resolve.Goals as goal

pub apply-requires-clause-fits : goal.apply-requires-clause-fits
apply-requires-clause-fits c = (low_last c.pop.new.self c.in-Some.x (rw (← c.in-Some.ensures.items) c.loop-x.invariant.1)).1

pub apply-requires-clause-room : goal.apply-requires-clause-room
apply-requires-clause-room c = omega (arith, back_room c.pop.new.self c.loop-x.rest c.in-Some.x c.loop-x.self _ c.in-Some.ensures.items c.loop-x.invariant.0, c.requires.room)

pub loop-x-preserved : goal.loop-x-preserved
loop-x-preserved c = (
  back_more c.pop.new.self c.loop-x.rest c.in-Some.x c.loop-x.self _ _ c.in-Some.ensures.items c.apply.ensures.done c.loop-x.invariant.0,
  (low_last c.pop.new.self c.in-Some.x (rw (← c.in-Some.ensures.items) c.loop-x.invariant.1)).0,
  omega (arith, c.apply.ensures.len, c.loop-x.invariant.2, ap length c.in-Some.ensures.items, length-append c.pop.new.self (c.in-Some.x ∷ [])),
)
