-- The number and the place of each refusal of the grammar.
use Rattle.base.specs.declared.refusal.Refusal.{Refusal}
use Rattle.base.specs.Refusals.{refusal_at}
use Rattle.lexer.specs.Faults.{refusal_of as of_text}
use Rattle.parser.specs.declared.fault.GrammarFault.{GrammarFault}
use Rattle.parser.specs.declared.fault.GrammarFault.TheVariants.{Text, Unexpected, TooDeep}

-- The number and place of each fault of the grammar. A fault of the text keeps its own.
abbrev pub refusal_of : GrammarFault → Refusal
refusal_of (Text e) = of_text e
refusal_of (Unexpected p) = refusal_at 5 p
refusal_of (TooDeep p) = refusal_at 6 p
