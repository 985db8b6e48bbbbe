use Rattle.std.proofs.Common.{◌≡◌, List, [], ◌∷◌, Err, ◌∙◌, rules}
use Rattle.std.proofs.lemmas.Result.{err_from_is_err_and}
use Rattle.lexer.specs.declared.token.Symbol.TheVariants as sign
use Rattle.parser.specs.Machine.{Goal, sym, comma, declaration_goal}
use Rattle.parser.specs.Readers.{onward, runs}
use Rattle.parser.proofs.Befores.{same}
use Rattle.parser.proofs.Sofar.{again, after, then, spent}
use Rattle.parser.proofs.reader.Reader.listed.Goals as goal

pub returns-in_err-declared : goal.returns-in_err-declared
returns-in_err-declared c =
    let p = err_from_is_err_and c.from_residual.result c.from_residual.ensures.1 in
    let d = c.in_err-declared.ensures in
    rw (p.1, p.2) (d.0, λ k. d.1 (comma c.args.array c.args.value_type ∷ k))

pub loop-value_type-preserved : goal.loop-value_type-preserved
loop-value_type-preserved c =
    let r = c.loop-value_type.self in
    let r' = c.declared-in-loop-value_type.new.self in
    let a = c.args.array in
    let g = c.args.value_type in
    let e : (k : List Goal) → runs r (comma a g ∷ k) ≡ onward r (declaration_goal a g ∷ comma a g ∷ k) = search rules in
    let d = c.in_ok-declared-2.ensures in
    again (comma a g ∷ []) c.declared.new.self r r' c.loop-value_type.invariant (search rules, search rules, λ k. e k ∙ c.advance.ensures.reads (declaration_goal a g ∷ comma a g ∷ k) ∙ d.2.reads (comma a g ∷ k))

pub returns-in_err-declared-2 : goal.returns-in_err-declared-2
returns-in_err-declared-2 c =
    let p = err_from_is_err_and c.from_residual-in_err-declared-2.result c.from_residual-in_err-declared-2.ensures.1 in
    let r = c.loop-value_type.self in
    let r' = c.declared-in-loop-value_type.new.self in
    let a = c.args.array in
    let g = c.args.value_type in
    let e : (k : List Goal) → runs r (comma a g ∷ k) ≡ onward r (declaration_goal a g ∷ comma a g ∷ k) = search rules in
    let x = c.in_err-declared-2.field-0.0 in
    let d = c.in_err-declared-2.ensures in
    let t = after (comma a g ∷ []) c.declared.new.self r r' (Err x) c.loop-value_type.invariant (search rules, λ k. e k ∙ c.advance.ensures.reads (declaration_goal a g ∷ comma a g ∷ k) ∙ d.1 (comma a g ∷ k)) in
    rw (p.1, p.2) (then (declaration_goal a g) (comma a g ∷ []) c.args.self.now c.declared.new.self r' (Err x) c.in_ok-declared.ensures t)

pub returns : goal.returns
returns c =
    let r = c.loop-value_type.self in
    let r' = c.symbol.new.self in
    let a = c.args.array in
    let g = c.args.value_type in
    let e : (k : List Goal) → runs r (comma a g ∷ k) ≡ runs r (sym sign.Semicolon ∷ k) = search rules in
    let d = same 0 0 (sym sign.Semicolon ∷ []) (comma a g ∷ []) r r' c.symbol.result e (spent 2 _ r r' c.symbol.result c.symbol.ensures) in
    then (declaration_goal a g) (comma a g ∷ []) c.args.self.now c.declared.new.self r' c.symbol.result c.in_ok-declared.ensures (after (comma a g ∷ []) c.declared.new.self r r' c.symbol.result c.loop-value_type.invariant d)
