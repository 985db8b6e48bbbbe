use Rattle.std.proofs.Common.{◌≡◌, ◌*◌, ◌≤◌, length, take, drop}
use Rattle.image.specs.Codes.{body_bytes}
use Rattle.image.specs.Writing.{entry_refusal}
use Rattle.image.proofs.write.measure.Given as goal

abbrev pub invariant-loop-i : goal.invariant-loop-i
invariant-loop-i l =
    (l.bytes ≤ 9 * l.i)
    × (l.bytes ≡ length (body_bytes (take l.i l.code)))
    × (entry_refusal 0 l.code ≡ entry_refusal l.i (drop l.i l.code))
