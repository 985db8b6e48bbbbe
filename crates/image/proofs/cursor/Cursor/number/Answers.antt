use Rattle.std.proofs.Common.{sym, ap, ◌∙◌}
use Rattle.base.specs.Refusals.{refuse}
use Rattle.image.specs.Cursors.{rest_of}
use Rattle.image.specs.Groups.{more}
use Rattle.image.proofs.Numbers.{zeros, ends_large, ends_last, ends_cut, more_on}
use Rattle.image.proofs.cursor.Cursor.number.Goals as goal

pub returns-then-zeros_first : goal.returns-then-zeros_first
returns-then-zeros_first c =
    zeros c.args.self.now.end c.offset-at.result (rest_of c.args.self.now) c.offset-at.ensures (sym c.zeros_first.ensures ∙ c.if-zeros_first.true)

pub returns-then-n-gt65535 : goal.returns-then-n-gt65535
returns-then-n-gt65535 c =
    ends_large c.args.self.now.end c.offset-at.result c.loop-b.n (rest_of c.args.self.now) (rest_of c.loop-b.self) c.offset-at.ensures (sym c.zeros_first.ensures ∙ c.if-zeros_first.false) c.loop-b.invariant.2
    c.in-Some.b (rest_of c.byte.new.self) c.in-Some.ensures.0 c.if-n-gt65535.true

pub returns-then-b-lt128 : goal.returns-then-b-lt128
returns-then-b-lt128 c = (
  ends_last c.args.self.now.end c.offset-at.result c.loop-b.n (rest_of c.args.self.now) (rest_of c.loop-b.self) c.offset-at.ensures (sym c.zeros_first.ensures ∙ c.if-zeros_first.false) c.loop-b.invariant.2
      c.in-Some.b (rest_of c.byte.new.self) c.in-Some.ensures.0 c.if-n-gt65535.false c.if-b-lt128.true,
  c.in-Some.ensures.1 ∙ c.loop-b.invariant.1,
)

pub loop-b-preserved : goal.loop-b-preserved
loop-b-preserved c = (
  c.if-n-gt65535.false,
  c.in-Some.ensures.1 ∙ c.loop-b.invariant.1,
  c.loop-b.invariant.2 ∙ ap (more c.args.self.now.end c.offset-at.result c.loop-b.n) c.in-Some.ensures.0
      ∙ more_on c.args.self.now.end c.offset-at.result c.loop-b.n c.in-Some.b (rest_of c.byte.new.self) c.if-n-gt65535.false c.if-b-lt128.false,
)

pub returns : goal.returns
returns c =
    ends_cut c.args.self.now.end c.offset-at.result c.loop-b.n (rest_of c.args.self.now) (rest_of c.loop-b.self) c.offset-at.ensures (sym c.zeros_first.ensures ∙ c.if-zeros_first.false) c.loop-b.invariant.2
    c.in_default.ensures.0
    ∙ ap (λ e. refuse 20 e) (sym (c.in_default.ensures.2 ∙ c.loop-b.invariant.1))
