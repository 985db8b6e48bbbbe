use Rattle.std.proofs.Common.{sym, ap, ◌∙◌, arith}
use Rattle.lexer.specs.Cut.{piece}
use Rattle.parser.specs.declared.lexeme.Lexeme.{Lexeme}
use Rattle.parser.specs.Marks.{Tok, mark_of, tok_of, live}
use Rattle.parser.specs.Machine.{feed, behind}
use Rattle.parser.proofs.Cuts.{behind_token, behind_end, live_least}
use Rattle.parser.proofs.scan.scan.Goals as goal

pub returns-in-Some : goal.returns-in-Some
returns-in-Some c =
    let bs = c.args.text.now in
    let cs = c.in-Some.after.now in
    let s = c.in-Some.ensures.steps in
    record {
      onward = λ k o. behind_token c.args.end bs cs (piece c.in-Some.t) s.0 k o ∙ ap (λ (x : Tok). feed x (behind c.args.end cs) k o) (sym c.lexeme.ensures);
      less = omega (arith, s.1, live_least (mark_of c.lexeme.result.sort));
    }

pub returns-in-None : goal.returns-in-None
returns-in-None c =
    let e = ap tok_of c.new.ensures in
    let m = ap mark_of (ap (λ (x : Lexeme). x.sort) c.new.ensures) in
    record {
      onward = λ k o. behind_end c.args.end c.args.text.now c.in-None.ensures.steps k o ∙ ap (λ (x : Tok). feed x (behind c.args.end c.args.text.now) k o) (sym e);
      less = omega (arith, ap live m);
    }
