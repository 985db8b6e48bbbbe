use Rattle.std.proofs.Common.{refl, sym, ap, ◌∙◌}
use Rattle.std.proofs.lemmas.Result.{err_from_is_err_and}
use Rattle.lexer.specs.Names.{name_of}
use Rattle.sema.specs.Faults.{unless}
use Rattle.sema.specs.Tabled.{table_as}
use Rattle.sema.proofs.Entering.{same_sort, unknown, judged}
use Rattle.sema.proofs.table.NameTable.judge.Goals as goal

pub returns-in_err-entry : goal.returns-in_err-entry
returns-in_err-entry c =
    let p = err_from_is_err_and c.from_residual.result c.from_residual.ensures.1 in
    rw (p.1, p.2) (unknown (table_as c.args.self.now) (name_of c.args.m.name) c.args.m.sort c.args.m.offset c.get.result _ _ c.get.ensures refl (sym c.in_err-entry.ensures.value))

pub returns : goal.returns
returns c =
    c.answer.ensures
    ∙ c.unless.ensures
    ∙ ap (λ b. unless b 10 c.args.m.offset) (c.eq.ensures ∙ same_sort c.in_ok-entry.entry.sort c.args.m.sort)
    ∙ judged (table_as c.args.self.now) (name_of c.args.m.name) c.args.m.sort c.args.m.offset c.get.result _ _ c.get.ensures (sym c.in_ok-entry.ensures.value)
