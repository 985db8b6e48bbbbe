use Rattle.std.proofs.Common.{length, ap, arith, length-append}
use Rattle.codegen.specs.Items.{Back, table}
use Rattle.codegen.proofs.Sizes.{table_long}
use Rattle.codegen.proofs.backward.Backward.choose.Goals as goal

pub put-requires : goal.put-requires
put-requires c =
    let z = c.args.self.now in
    omega (arith, ap (λ (y : Back). length y.code) c.branches.ensures, length-append (table c.args.n z.todo) z.code, table_long c.args.n z.todo, c.requires.room)
