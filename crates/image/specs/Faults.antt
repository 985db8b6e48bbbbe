-- The number and the place of each refusal of an image.
use Rattle.image.specs.declared.fault.ImageFault.{ImageFault}
use Rattle.image.specs.declared.fault.ImageFault.TheVariants.{CutShort, LeadingZeros, TooLarge, UnknownInstruction, BytesLeft, BadHeader, TableShort, RoomShort, BadEntry}
use Rattle.base.specs.declared.refusal.Refusal.{Refusal}
use Rattle.base.specs.Refusals.{refusal_at}

-- The number and the place of each fault of an image.
abbrev pub refusal_of : ImageFault → Refusal
refusal_of (CutShort p) = refusal_at 20 p
refusal_of (LeadingZeros p) = refusal_at 21 p
refusal_of (TooLarge p) = refusal_at 22 p
refusal_of (UnknownInstruction p) = refusal_at 23 p
refusal_of (BytesLeft p) = refusal_at 24 p
refusal_of (BadHeader p) = refusal_at 25 p
refusal_of (TableShort p) = refusal_at 26 p
refusal_of (RoomShort n) = refusal_at 27 n
refusal_of (BadEntry i) = refusal_at 28 i
