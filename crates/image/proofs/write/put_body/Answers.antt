use Rattle.std.proofs.Common.{ℕ, ◌+◌, List, length, get_or, take, sym, ap, subst, arith}
use Rattle.std.proofs.lemmas.List.{length-append, take_all}
use Rattle.base.specs.declared.instr.Instr.{Instr}
use Rattle.image.specs.Codes.{body_bytes, entry_bytes}
use Rattle.image.specs.Writing.{IsAppended}
use Rattle.image.proofs.Appends.{appended_then}
use Rattle.image.proofs.Bodies.{none, body_more, body_front}
use Rattle.image.proofs.write.put_body.Goals as goal

pub put_entry-requires : goal.put_entry-requires
put_entry-requires c =
    let code = c.args.code.now in
    let i = c.loop-entry.entry-index in
    let m = ap length (body_more code i none c.loop-entry-test.true) in
    omega (arith, c.requires, c.loop-entry.invariant.len, c.loop-entry.invariant.size, m, length-append (body_bytes (take i code)) (entry_bytes (get_or code i none)), body_front code (i + 1))

pub loop-entry-preserved : goal.loop-entry-preserved
loop-entry-preserved c =
    subst (λ (xs : List ℕ). IsAppended c.args.out.now xs c.put_entry.new.out) (sym (body_more c.args.code.now c.loop-entry.entry-index none c.loop-entry-test.true))
    (appended_then _ _ _ _ _ c.loop-entry.invariant c.put_entry.ensures)

pub returns : goal.returns
returns c =
    subst (λ (is : List Instr). IsAppended c.args.out.now (body_bytes is) c.loop-entry.out) (take_all c.loop-entry.entry-index c.args.code.now c.loop-entry-test.false) c.loop-entry.invariant
