use Rattle.std.proofs.Common.{◌≡◌, Some, sym, ap, ◌∙◌, rules}
use Rattle.std.specs.Option.{option_map}
use Rattle.lexer.specs.Cut.{symbol_and_rest}
use Rattle.lexer.proofs.Cutting.{symbol_found}
use Rattle.lexer.proofs.scan.Rest.symbol.Goals as goal

pub returns : goal.returns
returns c =
    let cut : c.sign.result ≡ Some (c.in_ok-found.found, c.in_ok-found.rest) = search rules in
    symbol_found c.args.self.now.offset c.args.self.now.bytes.now c.in_ok-found.found c.in_ok-found.rest.now (ap (option_map symbol_and_rest) (sym cut) ∙ c.sign.ensures)
