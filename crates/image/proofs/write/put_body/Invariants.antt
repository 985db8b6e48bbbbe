use Rattle.std.proofs.Common.{take}
use Rattle.image.specs.Codes.{body_bytes}
use Rattle.image.specs.Writing.{IsAppended}
use Rattle.image.proofs.write.put_body.Given as goal

abbrev pub invariant-loop-entry : goal.invariant-loop-entry
invariant-loop-entry l = IsAppended l.initial.out (body_bytes (take l.entry-index l.code)) l.out
