-- The operands' rules and the table of named operands.
use Rattle.std.proofs.Common.{◌≡◌, ℕ, true, ◌&&◌, eqb, leb, refl}
use Rattle.std.proofs.lemmas.Bool.{and_parts, eqb-true}
use Rattle.base.specs.Ops.{ops, operands_of}
use Rattle.machine.specs.Table.{plain, single}
use Rattle.machine.specs.Laws.{UnnamedAreZero}

none : (a b : ℕ) → plain a b ≡ true → (a ≡ 0) × (b ≡ 0)
none a b h = let p = and_parts (eqb a 0) (eqb b 0) h in (eqb-true a 0 p.0, eqb-true b 0 p.1)

one : (a b : ℕ) → single a b ≡ true → b ≡ 0
one a b h = eqb-true b 0 h

relation : (a b : ℕ) → (leb a 5 && single a b) ≡ true → b ≡ 0
relation a b h = one a b (and_parts (leb a 5) (single a b) h).1

pub rules : UnnamedAreZero 0 ops
unfolding operands_of
rules = (none, (one, (one, (one, ((λ a b h. tt), ((λ a b h. tt), (one, (none, (one, (none, (none, (none, (none, (none, (none, (none, (none, (none, (none, (none, (relation, (relation, (none, (none, (none, (none, ((λ a b h. tt), ((λ a b h. tt), ((λ a b h. tt), (one, (one, ((λ a b h. tt), ((λ a b h. tt), ((λ a b h. tt), refl))))))))))))))))))))))))))))))))))
