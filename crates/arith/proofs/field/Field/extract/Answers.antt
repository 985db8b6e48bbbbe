use Rattle.std.proofs.Common.{ℕ, ◌-◌, ◌/◌, ◌%◌, ◌^◌, ◌<◌, leb, ap, arith}
use Rattle.std.proofs.lemmas.Nat.{one_shl}
use Rattle.std.proofs.lemmas.Bool.{and_parts, leb-true}
use Rattle.arith.specs.Fields.{field}
use Rattle.arith.proofs.field.Field.extract.Goals as goal

pub returns : goal.returns
unfolding field
returns c =
    let b = c.args.self.count in
    let l : b < 16 = omega (arith, leb-true b 15 (and_parts (leb b 15) _ (and_parts (leb 1 b) _ c.args.self.ok).1).0) in
    ap (λ (m : ℕ). c.args.x / 2 ^ (16 - c.args.self.from - b) % m) (one_shl b 16 l)
