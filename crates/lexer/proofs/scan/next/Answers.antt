use Rattle.std.proofs.Common.{Err, length, sym, ◌∙◌}
use Rattle.std.proofs.lemmas.Result.{err_from_is_err_and}
use Rattle.std.proofs.lemmas.Bool.{eqb-true, eqb-false}
use Rattle.lexer.specs.Faults.{refusal_of}
use Rattle.lexer.specs.Cut.{piece}
use Rattle.lexer.proofs.Cutting.{first_none, same_front, next_is, got, steps_none, steps_refused, steps_token, short_token}
use Rattle.lexer.proofs.scan.next.Goals as goal

pub returns-then-is_empty : goal.returns-then-is_empty
returns-then-is_empty c =
    let xs = c.trimmed-bytes.result.now in
    let z = eqb-true (length xs) 0 (sym c.if-is_empty.ensures) in
    record {
      exact = sym (first_none c.args.end c.args.text.now xs c.trimmed-bytes.ensures z);
      steps = steps_none c.args.end c.args.text.now xs c.trimmed-bytes.ensures z;
      short = tt;
    }

pub returns-in_err-found : goal.returns-in_err-found
returns-in_err-found c =
    let p = err_from_is_err_and c.from_residual.result c.from_residual.ensures.1 in
    let xs = c.trimmed-bytes.result.now in
    let z = eqb-false (length xs) 0 (sym c.if-is_empty.ensures) in
    let f = c.in_err-found.field-0.0 in
    let l = c.in_err-found.ensures ∙ same_front c.new.ensures.bytes c.new.ensures.offset in
    rw (p.1, p.2)
    (record {
      exact = next_is c.args.end c.args.text.now xs c.trimmed-bytes.ensures z (Err (refusal_of f)) l;
      steps = steps_refused c.args.end c.args.text.now xs c.trimmed-bytes.ensures z f l;
      short = tt;
    })

pub returns : goal.returns
returns c =
    let xs = c.trimmed-bytes.result.now in
    let z = eqb-false (length xs) 0 (sym c.if-is_empty.ensures) in
    let t = c.in_ok-found.found.0 in
    let rest = c.in_ok-found.found.1.now in
    let l = c.in_ok-found.ensures ∙ same_front c.new.ensures.bytes c.new.ensures.offset in
    record {
      exact = next_is c.args.end c.args.text.now xs c.trimmed-bytes.ensures z (got (piece t) rest) l;
      steps = steps_token c.args.end c.args.text.now xs c.trimmed-bytes.ensures z t rest l;
      short = short_token _ xs (piece t) rest l;
    }
