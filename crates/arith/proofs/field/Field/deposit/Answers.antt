use Rattle.std.proofs.Common.{◌+◌, ◌-◌, ◌<◌, ◌≤◌, leb, arith}
use Rattle.std.proofs.lemmas.Nat.{one_shl, shr_split}
use Rattle.std.proofs.lemmas.Bool.{and_parts, leb-true}
use Rattle.arith.specs.Fields.{with_field}
use Rattle.arith.proofs.Rounds.{deposit_fits}
use Rattle.arith.proofs.field.Field.deposit.Goals as goal

pub overflow_cast-result : goal.overflow_cast-result
overflow_cast-result c =
    let a = c.args.self.from in
    let b = c.args.self.count in
    let p = and_parts (leb b 15) (leb (a + b) 16) (and_parts (leb 1 b) _ c.args.self.ok).1 in
    let l : b < 32 = omega (arith, leb-true b 15 p.0) in
    let m : a + b ≤ 16 = leb-true (a + b) 16 p.1 in
    let k : 16 - a - b < 32 = omega arith in
    rw (one_shl b 32 l, one_shl (16 - a - b) 32 k) (omega (arith, deposit_fits c.args.x c.args.v a b m (omega arith), shr_split c.args.x (16 - a)))

pub returns : goal.returns
unfolding with_field
returns c =
    let a = c.args.self.from in
    let b = c.args.self.count in
    let p = and_parts (leb b 15) (leb (a + b) 16) (and_parts (leb 1 b) _ c.args.self.ok).1 in
    let l : b < 32 = omega (arith, leb-true b 15 p.0) in
    let m : a + b ≤ 16 = leb-true (a + b) 16 p.1 in
    let k : 16 - a - b < 32 = omega arith in
    rw (one_shl b 32 l, one_shl (16 - a - b) 32 k) (omega (arith, deposit_fits c.args.x c.args.v a b m (omega arith), shr_split c.args.x (16 - a)))
