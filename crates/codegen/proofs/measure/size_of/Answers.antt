use Rattle.std.proofs.Common.{suc, ap, arith}
use Rattle.codegen.specs.Items.{next}
use Rattle.codegen.proofs.Loops.{along_sum}
use Rattle.codegen.proofs.measure.size_of.Goals as goal

pub returns-in-Case : goal.returns-in-Case
returns-in-Case c = (λ p. omega (arith, ap (λ n. next n p) c.in-Case.is, along_sum c.in-Case.n (suc p)), omega arith)
