use Rattle.std.proofs.Common.{◌<◌, ◌≤◌, length, sym, ◌∙◌, arith}
use Rattle.std.proofs.lemmas.Bool.{eqb-true}
use Rattle.std.proofs.lemmas.List.{length-map}
use Rattle.lexer.specs.Names.{name_of}
use Rattle.sema.specs.Tabled.{table_as}
use Rattle.sema.specs.Entered.{row_as, sort_of, cells_of}
use Rattle.sema.proofs.Entering.{known_some, known, full, room, not_full}
use Rattle.sema.proofs.table.NameTable.declare.Goals as goal

pub returns-then-is_some : goal.returns-then-is_some
returns-then-is_some c =
    let e = known_some c.get.result _ c.get.ensures ∙ sym c.is_some.ensures ∙ c.if-is_some.true in
    let p = known (table_as c.args.self.now) (name_of c.args.d.name) c.args.d.value_type (sort_of c.args.d.high) (cells_of c.args.d.high) c.args.d.offset e in
    record { fault = p.0; table = p.1 }

pub returns-then-is_full : goal.returns-then-is_full
returns-then-is_full c =
    let t = c.args.self.now in
    let e = known_some c.get.result _ c.get.ensures ∙ sym c.is_some.ensures ∙ c.if-is_some.false in
    let l : 64 ≤ length (table_as t).rows = omega (arith, eqb-true (length t.entries.items) 64 (sym c.is_full.ensures.value ∙ c.if-is_full.true), length-map t.entries.items row_as) in
    let p = full (table_as t) (name_of c.args.d.name) c.args.d.value_type (sort_of c.args.d.high) (cells_of c.args.d.high) c.args.d.offset e l in
    record { fault = p.0; table = p.1 }

pub returns : goal.returns
returns c =
    let t = c.args.self.now in
    let e = known_some c.get.result _ c.get.ensures ∙ sym c.is_some.ensures ∙ c.if-is_some.false in
    let l : length (table_as t).rows < 64 = omega (arith, not_full (length t.entries.items) c.is_full.ensures.fits (sym c.is_full.ensures.value ∙ c.if-is_full.false), length-map t.entries.items row_as) in
    let p = room (table_as t) (name_of c.args.d.name) c.args.d.value_type (sort_of c.args.d.high) (cells_of c.args.d.high) c.args.d.offset e l in
    record { fault = p.0; table = c.enter.ensures ∙ p.1 }

pub enter-requires : goal.enter-requires
enter-requires c = not_full (length c.args.self.now.entries.items) c.is_full.ensures.fits (sym c.is_full.ensures.value ∙ c.if-is_full.false)
