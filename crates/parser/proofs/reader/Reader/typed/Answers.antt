use Rattle.std.proofs.Common.{◌≡◌, false, List, [], ◌∷◌, rules}
use Rattle.parser.specs.Machine.{Goal, typed, simple, comma}
use Rattle.parser.specs.Readers.{runs}
use Rattle.parser.proofs.Befores.{same}
use Rattle.parser.proofs.reader.Reader.typed.Goals as goal

pub returns : goal.returns
returns c =
    let r = c.args.self.now in
    let g = c.args.value_type in
    let e : (k : List Goal) → runs r (typed g ∷ k) ≡ runs r (simple g ∷ comma false g ∷ k) = search rules in
    same 0 0 (simple g ∷ comma false g ∷ []) (typed g ∷ []) r c.listed-2.new.self c.listed-2.result e c.listed-2.ensures
