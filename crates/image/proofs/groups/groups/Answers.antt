use Rattle.std.proofs.Common.{◌≡◌, ◌+◌, ◌/◌, max, ◌∙◌, arith}
use lib.Count.{leading_length}
use Rattle.image.proofs.Sizes.{counted}
use Rattle.image.proofs.groups.groups.Goals as goal

pub returns : goal.returns
returns c =
    let l = leading_length 16 c.args.n (omega arith) in
    let e : (c.max.result + 6) / 7 ≡ (max l.0 1 + 6) / 7 = omega arith in
    e ∙ counted c.args.n l.0 (omega arith) l.2 l.3
