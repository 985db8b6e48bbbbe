-- The number and the place of each refusal of a text.
use Rattle.base.specs.Limits.{most_source_bytes}
use Rattle.base.specs.declared.refusal.Refusal.{Refusal}
use Rattle.base.specs.Refusals.{refusal_at}
use Rattle.lexer.specs.declared.fault.TextFault.{TextFault}
use Rattle.lexer.specs.declared.fault.TextFault.TheVariants.{TooLong, NoToken, BadToken, OpenComment}

-- The number and place of each fault of a text.
abbrev pub refusal_of : TextFault → Refusal
refusal_of TooLong = refusal_at 1 most_source_bytes
refusal_of (NoToken p) = refusal_at 2 p
refusal_of (BadToken p) = refusal_at 3 p
refusal_of (OpenComment p) = refusal_at 4 p
