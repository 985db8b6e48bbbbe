use Rattle.std.proofs.Common.{◌≡◌, ◌+◌, ◌∙◌, rules, tests}
use Rattle.std.specs.Option.{option_map}
use Rattle.std.proofs.iter.runs.Made.{chains}
use Rattle.lexer.proofs.Fronts.{FirstEnd, closing_is}
use Rattle.lexer.proofs.scan.closing.Goals as goal

pub returns-clause-value : goal.returns-clause-value
returns-clause-value c =
    let first : FirstEnd c.args.s.now c.position.result = search (rules, chains, tests) in
    let e : c.map.result ≡ option_map (λ n. n + 2) c.position.result = search rules in
    e ∙ closing_is c.args.s.now c.position.result first
