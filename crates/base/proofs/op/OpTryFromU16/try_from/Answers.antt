use Rattle.std.proofs.Common.{refl, arith}
use Rattle.std.proofs.lemmas.Option.{slice_get_past}
use Rattle.base.specs.Ops.{ops}
use Rattle.base.proofs.op.OpTryFromU16.try_from.Goals as goal

pub returns-in_default : goal.returns-in_default
returns-in_default c = (refl, slice_get_past ops c.args.number (omega arith))
