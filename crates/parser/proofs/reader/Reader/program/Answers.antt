use Rattle.std.proofs.Common.{[], ◌∷◌, ◌∙◌, rules, arith}
use Rattle.std.proofs.lemmas.Result.{err_from_is_err_and}
use Rattle.lexer.specs.declared.token.Symbol.TheVariants as sign
use Rattle.parser.specs.Machine.{stmt, block, sym, finish}
use Rattle.parser.proofs.Befores.{to_declarations, to_block, to_dot, to_end}
use Rattle.parser.proofs.reader.Reader.program.Goals as goal

pub returns-in_err-declarations : goal.returns-in_err-declarations
returns-in_err-declarations c =
    let p = err_from_is_err_and c.from_residual-in_err-declarations.result c.from_residual-in_err-declarations.ensures.1 in
    let a = c.in_ok-keyword.ensures.2 in
    let f = c.in_err-declarations.ensures.1 in
    let r = c.keyword.new.self in
    rw (p.1, p.2) (search rules, to_declarations c.args.self.now r r r r a ∙ f (stmt 31 ∷ block 31 ∷ sym sign.Dot ∷ finish ∷ []))

pub returns-in_err-block : goal.returns-in_err-block
returns-in_err-block c =
    let p = err_from_is_err_and c.from_residual-in_err-block.result c.from_residual-in_err-block.ensures.1 in
    let a = c.in_ok-keyword.ensures.2 in
    let b = c.in_ok-declarations.ensures.2 in
    let f = c.in_err-block.ensures.1 in
    let r = c.declarations.new.self in
    rw (p.1, p.2) (search rules, to_block c.args.self.now c.keyword.new.self r r r a b ∙ f (sym sign.Dot ∷ finish ∷ []))

pub returns-in_err-symbol : goal.returns-in_err-symbol
returns-in_err-symbol c =
    let p = err_from_is_err_and c.from_residual-in_err-symbol.result c.from_residual-in_err-symbol.ensures.1 in
    let a = c.in_ok-keyword.ensures.2 in
    let b = c.in_ok-declarations.ensures.2 in
    let d = c.in_ok-block.ensures.2 in
    let f = c.in_err-symbol.ensures.1 in
    let r = c.block.new.self in
    rw (p.1, p.2) (search rules, to_dot c.args.self.now c.keyword.new.self c.declarations.new.self r r a b d ∙ f (finish ∷ []))

pub returns-then-not-is_stop : goal.returns-then-not-is_stop
returns-then-not-is_stop c =
    let a = c.in_ok-keyword.ensures.2 in
    let b = c.in_ok-declarations.ensures.2 in
    let d = c.in_ok-block.ensures.2 in
    let e = c.in_ok-symbol.ensures.2 in
    let h = to_end c.args.self.now c.keyword.new.self c.declarations.new.self c.block.new.self c.symbol.new.self a b d e in
    (search rules, h ∙ search rules)

pub returns : goal.returns
returns c =
    let a = c.in_ok-keyword.ensures.2 in
    let b = c.in_ok-declarations.ensures.2 in
    let d = c.in_ok-block.ensures.2 in
    let e = c.in_ok-symbol.ensures.2 in
    let h = to_end c.args.self.now c.keyword.new.self c.declarations.new.self c.block.new.self c.symbol.new.self a b d e in
    let k = c.in_ok-keyword.ensures.1 in
    let l = c.in_ok-declarations.ensures.1 in
    let m = c.in_ok-block.ensures.1 in
    let n = c.in_ok-symbol.ensures.1 in (
      search rules,
      record { room = omega (arith, k.room, l.room, m.room, n.room); less = omega (arith, k.less, l.less, m.less, n.less) },
      h ∙ search rules,
    )
