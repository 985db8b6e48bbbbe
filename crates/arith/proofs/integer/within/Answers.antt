use Rattle.std.proofs.Common.{◌≡◌, true, leb, arith}
use Rattle.std.proofs.lemmas.Bool.{lt-ltb, le-ltb, le-leb}
use Rattle.arith.specs.Integers.{within, int}
use Rattle.arith.proofs.integer.within.Goals as goal

pub returns-then-i-lt32768 : goal.returns-then-i-lt32768
unfolding within int
returns-then-i-lt32768 c =
    let z : leb 0 c.args.i ≡ true = le-leb 0 c.args.i (omega arith) in
    rw (lt-ltb c.args.i 32768 c.if-i-lt32768.true, z)

pub returns-else-i-lt32768 : goal.returns-else-i-lt32768
unfolding within int
returns-else-i-lt32768 c = rw (le-ltb c.args.i 32768 c.if-i-lt32768.false)
