use Rattle.parser.proofs.Befores.{leftmost}
use Rattle.parser.proofs.reader.Reader.+expressions.Goals as goal

pub first-returns-in_default : goal.first-returns-in_default
first-returns-in_default t c = leftmost c.args.s c.in_default.not-Sum c.args.levels c.args.self.now c.operand.new.self c.operand.result c.operand.ensures
