use Rattle.std.proofs.Common.{length, set, refl, ap, ◌∙◌, ◌<◌, arith}
use Rattle.base.specs.Cells.{length_joined_of, past_set_first, past_set_second}
use Rattle.base.specs.Stores.{past_joined}
use Rattle.base.proofs.Chosen.{in_first, in_second}
use Rattle.base.proofs.store.joined.JoinedStore.write.Goals as goal

pub returns-in-First-clause-keeps : goal.returns-in-First-clause-keeps
returns-in-First-clause-keeps g c =
    let xs = g.X.Store.words c.args.self.now.first.now in
    let ys = g.Y.Store.words c.args.self.now.second.now in
    let i = c.args.cell in
    let p = in_first i c.size-2.result c.in-First.c c.in-First.ensures in
    let h : i < length xs = omega (arith, p.0, c.size-2.ensures) in
    let d : i < 65535 = omega (arith, length_joined_of xs ys) in
    (refl, refl, ap (λ v. past_joined v ys) (c.write.ensures.after ∙ ap (λ k. set xs k c.args.w) p.1) ∙ past_set_first xs ys i c.args.w h d, c.write.ensures.keeps, g.Y.Store.stays _)

pub returns-in-Second-clause-keeps : goal.returns-in-Second-clause-keeps
returns-in-Second-clause-keeps g c =
    let xs = g.X.Store.words c.args.self.now.first.now in
    let ys = g.Y.Store.words c.args.self.now.second.now in
    let i = c.args.cell in
    let m = c.size-2.result in
    let p = in_second i m c.in-Second.c c.in-Second.ensures in
    let d : i < 65535 = omega (arith, length_joined_of xs ys) in
    (refl, refl, ap (λ v. past_joined xs v) (c.write-in-Second.ensures.after ∙ ap (λ k. set ys k c.args.w) p.1) ∙ past_set_second xs ys m i c.args.w c.size-2.ensures p.0 d, g.X.Store.stays _, c.write-in-Second.ensures.keeps)
