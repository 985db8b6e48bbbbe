use Rattle.std.proofs.Common.{arith}
use Rattle.image.proofs.Appends.{appended_push}
use Rattle.image.proofs.write.add.Goals as goal

pub returns : goal.returns
returns c = appended_push c.args.out.now c.args.b c.push.new.self c.push.result c.push.ensures (omega (arith, c.requires))
