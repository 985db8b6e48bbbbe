use Rattle.grammar.proofs.Exact.{reads_the_grammar}
use Rattle.grammar.proofs.grammar_stands.Goals as goal

pub returns : goal.returns
returns c = reads_the_grammar
