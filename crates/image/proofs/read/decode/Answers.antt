use Rattle.std.proofs.Common.{[], length, take, sym, refl, ap, ◌∙◌, arith}
use Rattle.std.proofs.lemmas.Result.{err_from_is_err_and}
use Rattle.image.specs.Cursors.{rest_of}
use Rattle.image.specs.Faults.{refusal_of}
use Rattle.image.specs.Reading.{entries_at}
use Rattle.image.specs.Codes.{code_from}
use Rattle.image.proofs.Whole.{only_images}
use Rattle.image.proofs.Inverse.{decoded_figures, decoded_entries, decoded_from, figures_ok, figures_told, laid_down}
use Rattle.image.proofs.read.decode.Goals as goal

pub returns-in_err-figures : goal.returns-in_err-figures
returns-in_err-figures c =
    let p = err_from_is_err_and c.from_residual.result c.from_residual.ensures.1 in
    let d = decoded_figures (length c.args.table.now) c.args.bytes.now (refusal_of c.in_err-figures.field-0.0) c.in_err-figures.ensures in
    rw (p.1, p.2, d) record { answer = refl; after = refl; of = tt }

pub returns-in_err-walk : goal.returns-in_err-walk
returns-in_err-walk c =
    let p = err_from_is_err_and c.from_residual-in_err-walk.result c.from_residual-in_err-walk.ensures.1 in
    let d = decoded_entries (length c.args.table.now) c.args.bytes.now c.in_ok-figures.figures (rest_of c.figures.new.self) (refusal_of c.in_err-walk.field-0.0)
    c.in_ok-figures.ensures.0 (rw c.in_ok-figures.ensures.1 at c.in_err-walk.ensures) in
    rw (p.1, p.2, d) record { answer = refl; after = refl; of = tt }

pub fill-requires : goal.fill-requires
fill-requires c = (figures_ok (length c.args.bytes.now) (length c.args.table.now) c.args.bytes.now c.in_ok-figures.figures (rest_of c.figures.new.self) c.in_ok-figures.ensures.0).within

pub returns : goal.returns
returns c =
    let f = c.in_ok-figures.figures in
    let new = c.fill.new.table in
    let p = c.in_ok-figures.ensures.0 in
    let q = c.in_ok-fill.ensures in
    let e = ap (λ m. entries_at m f.count [] (rest_of c.figures.new.self)) (sym c.in_ok-figures.ensures.1) ∙ q.0 in
    let d = decoded_from (length c.args.table.now) c.args.bytes.now f (rest_of c.figures.new.self) (take f.count new) p e in
    let o = only_images c.args.bytes.now (λ i. omega (arith, (c.type_inv.bytes i).fits)) (length c.args.table.now) (code_from f.cells f.depth (take f.count new)) d in
    rw d record {
      of = (o.0, o.1);
      answer = figures_told (length c.args.bytes.now) f.count (rest_of c.figures.new.self) (take f.count new) f refl e;
      after = laid_down (length c.args.bytes.now) f.count (rest_of c.figures.new.self) f c.args.table.now new e q.1;
    }
