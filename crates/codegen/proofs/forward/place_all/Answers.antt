use Rattle.std.proofs.Common.{◌≡◌, ◌+◌, [], ◌∷◌, ◌++◌, length, get_or, reverse, drop, unwrap_or, sym, ap, ◌∙◌, arith, length-append}
use Rattle.std.proofs.lemmas.Option.{unwrap_or-slice_get}
use Rattle.ir.specs.declared.item.Item.TheVariants as item
use Rattle.ir.specs.Instrs.{HALT}
use Rattle.codegen.specs.Items.{placement, ends}
use Rattle.codegen.proofs.Loops.{places_more, places_all, fits_more, ends_more}
use Rattle.codegen.proofs.forward.place_all.Goals as goal

pub overflow_cast-after : goal.overflow_cast-after
overflow_cast-after c =
    omega (arith, c.size_of.ensures.0 c.loop-n.index, fits_more c.args.items.now c.loop-n.n-index (item.Plain HALT) c.loop-n-test.true c.loop-n.index c.loop-n.invariant.1 c.requires.fits)

pub overflow_add-after : goal.overflow_add-after
overflow_add-after c =
    omega (arith, c.size_of.ensures.0 c.loop-n.index, fits_more c.args.items.now c.loop-n.n-index (item.Plain HALT) c.loop-n-test.true c.loop-n.index c.loop-n.invariant.1 c.requires.fits)

pub loop-n-preserved : goal.loop-n-preserved
loop-n-preserved c =
    let ns = c.args.items.now in
    let i = c.loop-n.n-index in
    let n = get_or ns i (item.Plain HALT) in
    let p = c.loop-n.index in
    let ss = reverse c.loop-n.starts in
    let h = c.loop-n-test.true in
    let q = sym (c.size_of.ensures.0 p) in
    let top = c.unwrap_or.ensures ∙ ap (λ o. unwrap_or o 0) c.peek.ensures ∙ unwrap_or-slice_get ss 0 0 in
    let pushed : c.push.new.self ≡ c.loop-n.out ++ placement n p ss ∷ [] = c.push.ensures.items (omega (arith, h, c.loop-n.invariant.2, c.requires.room)) ∙ rw (q, top) in (
      rw (q, c.follow.ensures.tops) (places_more ns i (item.Plain HALT) h c.loop-n.out _ _ p ss pushed c.loop-n.invariant.0),
      ap (ends (drop (i + 1) ns)) q ∙ sym (ends_more ns i (item.Plain HALT) h p) ∙ c.loop-n.invariant.1,
      omega (arith, ap length pushed, length-append c.loop-n.out (placement n p ss ∷ []), c.loop-n.invariant.2),
      omega (arith, c.follow.ensures.len, c.loop-n.invariant.3),
    )

pub returns : goal.returns
returns c = places_all c.args.items.now c.loop-n.n-index c.loop-n.out _ c.loop-n.index (reverse c.loop-n.starts) c.loop-n-test.false c.loop-n.invariant.0
