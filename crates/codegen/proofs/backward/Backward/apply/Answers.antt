use Rattle.std.proofs.Common.{length, ap, arith}
use Rattle.codegen.specs.Items.{Back, emits}
use Rattle.codegen.proofs.Loops.{without_short}
use Rattle.codegen.proofs.Sizes.{table_long}
use Rattle.codegen.proofs.backward.Backward.apply.Goals as goal

pub choose-requires-clause-room : goal.choose-requires-clause-room
choose-requires-clause-room c =
    let x = c.args.x in
    let ts = c.args.self.now.todo in
    let e = ap (λ n. length (emits n x.index x.after x.start ts)) c.in-Case.is in
    omega (arith, e, table_long c.in-Case.n ts, c.requires.room)

pub returns-in-Case-clause-len : goal.returns-in-Case-clause-len
returns-in-Case-clause-len c =
    omega (arith, ap (λ (y : Back). length y.todo) c.choose.ensures, without_short c.in-Case.n c.args.self.now.todo)
