use Rattle.std.proofs.Common.{◌∙◌, arith}
use Rattle.image.proofs.Sizes.{length_written, count_small}
use Rattle.image.proofs.write.size.Goals as goal

pub returns : goal.returns
returns c = record { value = c.groups.ensures ∙ length_written c.args.n; small = omega (arith, c.groups.ensures, count_small c.args.n) }
