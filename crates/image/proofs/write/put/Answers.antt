use Rattle.std.proofs.Common.{ℕ, List, length, sym, ap, ◌∙◌, subst, arith}
use Rattle.image.specs.Writing.{IsAppended}
use Rattle.image.proofs.Appends.{appended_then}
use Rattle.image.proofs.Sizes.{written_one, written_two, written_three}
use Rattle.image.proofs.write.put.Goals as goal

pub add-requires : goal.add-requires
add-requires c = omega (arith, c.requires, ap length (written_one c.args.n (sym c.groups.ensures ∙ c.in-1.is)))

pub returns-in-1 : goal.returns-in-1
returns-in-1 c = subst (λ (xs : List ℕ). IsAppended c.args.out.now xs c.add.new.out) (sym (written_one c.args.n (sym c.groups.ensures ∙ c.in-1.is))) c.add.ensures

pub add-requires-in-2 : goal.add-requires-in-2
add-requires-in-2 c = omega (arith, c.requires, ap length (written_two c.args.n (sym c.groups.ensures ∙ c.in-2.is)))

pub add-requires-in-2-2 : goal.add-requires-in-2-2
add-requires-in-2-2 c =
    omega (arith, c.requires, ap length (written_two c.args.n (sym c.groups.ensures ∙ c.in-2.is)), c.add-in-2.ensures.len, c.add-in-2.ensures.size)

pub returns-in-2 : goal.returns-in-2
returns-in-2 c =
    subst (λ (xs : List ℕ). IsAppended c.args.out.now xs c.add-in-2-2.new.out) (sym (written_two c.args.n (sym c.groups.ensures ∙ c.in-2.is)))
    (appended_then _ _ _ _ _ c.add-in-2.ensures c.add-in-2-2.ensures)

pub add-requires-in_default : goal.add-requires-in_default
add-requires-in_default c =
    let w = written_three c.args.n (λ e. omega (arith, c.in_default.in_default-own, c.groups.ensures, e)) (λ e. omega (arith, c.in_default.in_default-own, c.groups.ensures, e)) in
    omega (arith, c.requires, ap length w)

pub add-requires-in_default-2 : goal.add-requires-in_default-2
add-requires-in_default-2 c =
    let w = written_three c.args.n (λ e. omega (arith, c.in_default.in_default-own, c.groups.ensures, e)) (λ e. omega (arith, c.in_default.in_default-own, c.groups.ensures, e)) in
    omega (arith, c.requires, ap length w, c.add-in_default.ensures.len, c.add-in_default.ensures.size)

pub add-requires-in_default-3 : goal.add-requires-in_default-3
add-requires-in_default-3 c =
    let w = written_three c.args.n (λ e. omega (arith, c.in_default.in_default-own, c.groups.ensures, e)) (λ e. omega (arith, c.in_default.in_default-own, c.groups.ensures, e)) in
    omega (arith, c.requires, ap length w, c.add-in_default.ensures.len, c.add-in_default.ensures.size, c.add-in_default-2.ensures.len, c.add-in_default-2.ensures.size)

pub returns-in_default : goal.returns-in_default
returns-in_default c =
    let w = written_three c.args.n (λ e. omega (arith, c.in_default.in_default-own, c.groups.ensures, e)) (λ e. omega (arith, c.in_default.in_default-own, c.groups.ensures, e)) in
    subst (λ (xs : List ℕ). IsAppended c.args.out.now xs c.add-in_default-3.new.out) (sym w)
    (appended_then _ _ _ _ _ (appended_then _ _ _ _ _ c.add-in_default.ensures c.add-in_default-2.ensures) c.add-in_default-3.ensures)
