use Rattle.parser.proofs.Befores.{stated as saying}
use Rattle.parser.proofs.reader.Reader.+statements.Goals as goal

pub statement-returns : goal.statement-returns
statement-returns t c = saying c.args.levels c.args.self.now c.begun.new.self c.begun.result c.begun.ensures
