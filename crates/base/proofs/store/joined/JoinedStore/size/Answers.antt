use Rattle.std.proofs.Common.{arith}
use Rattle.base.specs.Cells.{length_joined_of}
use Rattle.base.proofs.store.joined.JoinedStore.size.Goals as goal

pub returns : goal.returns
returns g c =
    omega (arith, c.size.ensures, c.size-2.ensures, c.saturating_add.ensures, length_joined_of (g.X.Store.words c.args.self.now.first.now) (g.Y.Store.words c.args.self.now.second.now))
