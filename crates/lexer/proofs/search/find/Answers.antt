use Rattle.std.proofs.Common.{◌≡◌, ℕ, ◌<◌, true, false, List, [], ◌∷◌, map, length, get_or, MatchOption, None, Some, Option, sym, ◌∙◌, arith, rules, tests}
use Rattle.std.specs.List.{AllWithin, HoldsAt}
use Rattle.std.specs.Str.{bytes_eq}
use Rattle.std.proofs.lemmas.List.{get_or-map, length-map}
use Rattle.std.proofs.lemmas.Bool.{both_ways}
use Rattle.std.proofs.lemmas.Slice.Eq.{bytes_eq-Decides}
use Rattle.std.proofs.lemmas.Iterator.{IsFirst-from_position, YieldsList-from_slice}
use Rattle.lexer.specs.Names.{First, Unlike}
use Rattle.lexer.proofs.search.find.Goals as goal

-- the first entry with a name is the first such name among those of the entries
module _ {A : Type 0} (spelled : A → List ℕ) (x : List ℕ) where
  abbrev Same : A → Type 0
  Same e = bytes_eq (spelled e) x ≡ true

  abbrev Other : A → Type 0
  Other e = bytes_eq (spelled e) x ≡ false

  unlike : (xs : List A) (d : A) (n : ℕ) → ((k : ℕ) → k < n → k < length xs) → AllWithin Other xs 0 n → Unlike (map spelled xs) x n
  unlike xs d n m h k l p =
      let e = get_or xs k d in
      both_ways (bytes_eq (spelled e) x) (h k d (omega arith) l) ((bytes_eq-Decides (spelled e) x).1 (sym (get_or-map spelled xs k d [] (m k l)) ∙ p))

  first_entry : (xs : List A) (r : Option ℕ) → MatchOption r (AllWithin Other xs 0 (length xs)) (λ i. (i < length xs) × HoldsAt Same xs i × AllWithin Other xs 0 i) → First (map spelled xs) x r
  first_entry [] None h = λ k l. absurd (omega arith)
  first_entry [] (Some i) h = absurd (omega (arith, h.0))
  first_entry (e ∷ es) None h = simp length-map (unlike (e ∷ es) e (length (e ∷ es)) (λ k l. l) h)
  first_entry (e ∷ es) (Some i) h =
      let xs = e ∷ es in
      (simp length-map h.0, get_or-map spelled xs i e [] h.0 ∙ (bytes_eq-Decides (spelled (get_or xs i e)) x).0 (h.1 e), unlike xs e i (λ k l. omega (arith, h.0)) h.2)

pub returns-clause-first : goal.returns-clause-first
returns-clause-first g c =
    first_entry g.T.Named.spelled c.args.name.now c.args.table.now c.position.result
    (IsFirst-from_position _ _ _ (λ e. bytes_eq (g.T.Named.spelled e) c.args.name.now ≡ true) (λ e. bytes_eq (g.T.Named.spelled e) c.args.name.now ≡ false) c.position.ensures.ran
    (YieldsList-from_slice c.args.table.now cc) (λ x q k. search (rules, tests)) (λ x q k. search (rules, tests)))
