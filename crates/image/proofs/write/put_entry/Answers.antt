use Rattle.std.proofs.Common.{◌≡◌, ℕ, List, ◌++◌, sym, subst, append-nil, rules}
use Rattle.std.proofs.lemmas.List.{length-append}
use Rattle.image.specs.Codes.{entry_bytes}
use Rattle.image.specs.Groups.{number_bytes}
use Rattle.image.specs.Writing.{IsAppended}
use Rattle.image.proofs.Appends.{appended_then}
use Rattle.image.proofs.write.put_entry.Goals as goal

pub put-requires : goal.put-requires
unfolding entry_bytes
put-requires c = search (rules, length-append)

pub put-requires-in-Some-eq1 : goal.put-requires-in-Some-eq1
unfolding entry_bytes
put-requires-in-Some-eq1 c = search (rules, length-append)

pub put-requires-in-Some : goal.put-requires-in-Some
unfolding entry_bytes
put-requires-in-Some c = search (rules, length-append)

pub put-requires-in-Some-2 : goal.put-requires-in-Some-2
unfolding entry_bytes
put-requires-in-Some-2 c = search (rules, length-append)

pub returns-in-None : goal.returns-in-None
unfolding entry_bytes
returns-in-None c = search (rules, append-nil)

pub returns-in-Some-eq0 : goal.returns-in-Some-eq0
unfolding entry_bytes
returns-in-Some-eq0 c = search (rules, append-nil)

pub returns-in-Some-eq1 : goal.returns-in-Some-eq1
unfolding entry_bytes
returns-in-Some-eq1 c =
    let i = c.args.i in
    let e : entry_bytes i ≡ number_bytes i.number ++ number_bytes i.a = search rules in
    subst (λ (xs : List ℕ). IsAppended c.args.out.now xs c.put-in-Some-eq1.new.out) (sym e) (appended_then _ _ _ _ _ c.put.ensures c.put-in-Some-eq1.ensures)

pub returns-in-Some : goal.returns-in-Some
unfolding entry_bytes
returns-in-Some c =
    let i = c.args.i in
    let e : entry_bytes i ≡ number_bytes i.number ++ (number_bytes i.a ++ number_bytes i.b) = search rules in
    subst (λ (xs : List ℕ). IsAppended c.args.out.now xs c.put-in-Some-2.new.out) (sym e)
    (appended_then _ _ _ _ _ c.put.ensures (appended_then _ _ _ _ _ c.put-in-Some.ensures c.put-in-Some-2.ensures))
