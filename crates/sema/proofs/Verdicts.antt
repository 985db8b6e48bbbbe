-- The stages one after the other, by the faults that stand in a tree. Assumes nothing.
use Rattle.std.proofs.Common.{◌≡◌, ℕ, ◌⊎◌, ◌↔◌, List, Contains, Some, None, Ok, Err, Option, sym, refl, ap, ◌∙◌, inl, inr, ⊎_elim, arith, []}
use Rattle.base.specs.declared.refusal.Refusal.{Refusal}
use Rattle.base.specs.Refusals.{refusal_at, then}
use Rattle.parser.specs.Works.{syntax_list}
use Rattle.ast.specs.Trees.{Program}
use Rattle.ast.specs.Lists.{list}
use Rattle.sema.specs.Faults.{least}
use Rattle.sema.specs.Parts.{SomeDecl}
use Rattle.sema.specs.Names.{program_names}
use Rattle.sema.specs.Types.{program_types}
use Rattle.sema.specs.Sizes.{program_sizes}
use Rattle.sema.specs.Rules.{NamesHold}
use Rattle.sema.specs.Works.{CheckedSource, earlier, verdict, unless_fault, outcome, list_check, source_check}
use Rattle.sema.specs.Deciding.{Decides, Free}
use Rattle.sema.specs.Standing.{UsesUnknown, DeclaresAgain, DeclaresPast, UsesWrongly, NameFault, TypeFault, OutOfRange, TooWide, SizeFault, Passes}
use Rattle.sema.specs.Verdicts.{FaultsStand, IsRefusedWith, IsNotRefused, RefusedExactly}
use Rattle.sema.proofs.Laying.{some_none}
use Rattle.sema.proofs.Least.{least_decides}
use Rattle.sema.proofs.OnNames.{table_program, names_program}
use Rattle.sema.proofs.OnTypes.{types_program}
use Rattle.sema.proofs.OnSizes.{sizes_program}
use Rattle.sema.proofs.NameRules.{named_there}
use Rattle.sema.proofs.Shares.{through}
use Rattle.sema.proofs.NamesStand.{some_same, declares_false, unused_false, declares_known, known_declares, unknown_number, wrongly_number, again_number, past_number, names_stand}
use Rattle.sema.proofs.TypesStand.{type_number, types_stand}
use Rattle.sema.proofs.SizesStand.{InOrder, sizes_stand, range_number, wide_number, passed}
use Rattle.sema.proofs.SourceOrder.{source_order}

-- of the faults of names those of one number
module _ (x : Program) (p : ℕ) where
  seven : Contains (program_names x) (refusal_at 7 p) ↔ UsesUnknown x (refusal_at 7 p)
  seven =
      let h = names_stand x (refusal_at 7 p) in (
        λ c. ⊎_elim
            (λ y. y)
            (⊎_elim
            (λ y. absurd (let n = again_number x (refusal_at 7 p) y in omega (arith, n)))
            (⊎_elim
            (λ y. absurd (let n = past_number x (refusal_at 7 p) y in omega (arith, n)))
            (λ y. absurd (let n = wrongly_number x (refusal_at 7 p) y in omega (arith, n)))))
            (h.0 c),
        λ y. h.1 (inl y),
      )

  eight : Contains (program_names x) (refusal_at 8 p) ↔ DeclaresAgain x (refusal_at 8 p)
  eight =
      let h = names_stand x (refusal_at 8 p) in (
        λ c. ⊎_elim
            (λ y. absurd (let n = unknown_number x (refusal_at 8 p) y in omega (arith, n)))
            (⊎_elim
            (λ y. y)
            (⊎_elim
            (λ y. absurd (let n = past_number x (refusal_at 8 p) y in omega (arith, n)))
            (λ y. absurd (let n = wrongly_number x (refusal_at 8 p) y in omega (arith, n)))))
            (h.0 c),
        λ y. h.1 (inr (inl y)),
      )

  nine : Contains (program_names x) (refusal_at 9 p) ↔ DeclaresPast x (refusal_at 9 p)
  nine =
      let h = names_stand x (refusal_at 9 p) in (
        λ c. ⊎_elim
            (λ y. absurd (let n = unknown_number x (refusal_at 9 p) y in omega (arith, n)))
            (⊎_elim
            (λ y. absurd (let n = again_number x (refusal_at 9 p) y in omega (arith, n)))
            (⊎_elim (λ y. y) (λ y. absurd (let n = wrongly_number x (refusal_at 9 p) y in omega (arith, n)))))
            (h.0 c),
        λ y. h.1 (inr (inr (inl y))),
      )

  ten : Contains (program_names x) (refusal_at 10 p) ↔ UsesWrongly x (refusal_at 10 p)
  ten =
      let h = names_stand x (refusal_at 10 p) in (
        λ c. ⊎_elim
            (λ y. absurd (let n = unknown_number x (refusal_at 10 p) y in omega (arith, n)))
            (⊎_elim
            (λ y. absurd (let n = again_number x (refusal_at 10 p) y in omega (arith, n)))
            (⊎_elim (λ y. absurd (let n = past_number x (refusal_at 10 p) y in omega (arith, n))) (λ y. y)))
            (h.0 c),
        λ y. h.1 (inr (inr (inr y))),
      )

  -- and of those of sizes
  module _ (d : NamesHold x) where
    twelve : Contains (program_sizes x) (refusal_at 12 p) ↔ OutOfRange x (refusal_at 12 p)
    twelve =
        let h = sizes_stand x d (refusal_at 12 p) in
        (λ c. ⊎_elim (λ y. y) (λ y. absurd (let n = wide_number (refusal_at 12 p) x y in omega (arith, n))) (h.0 c), λ y. h.1 (inl y))

    thirteen : Contains (program_sizes x) (refusal_at 13 p) ↔ TooWide x (refusal_at 13 p)
    thirteen =
        let h = sizes_stand x d (refusal_at 13 p) in
        (λ c. ⊎_elim (λ y. absurd (let n = range_number (refusal_at 13 p) x y in omega (arith, n))) (λ y. y) (h.0 c), λ y. h.1 (inr y))

pub faults_stand : FaultsStand
faults_stand =
    record {
      seven = seven;
      eight = eight;
      nine = nine;
      ten = ten;
      names = names_stand;
      types = types_stand;
      twelve = λ x d p. twelve x p d;
      thirteen = λ x d p. thirteen x p d;
      sizes = sizes_stand;
      known = λ ds n l. (known_declares ds n, declares_known ds n l);
      unused = λ ds n. (unused_false ds n, declares_false ds n);
    }

-- what decides, and that nothing does, in two ways of saying which faults there are
module _ (P Q : Refusal → Type 0) (h : (f : Refusal) → P f ↔ Q f) where
  decides_too : (f : Refusal) → Decides P f ↔ Decides Q f
  decides_too f = (
    λ d. ((h f).0 d.0, λ g q. d.1 g ((h g).1 q)),
    λ d. ((h f).1 d.0, λ g p. d.1 g ((h g).0 p)),
  )

  free_too : Free P ↔ Free Q
  free_too = (λ n f q. n f ((h f).1 q), λ n f p. n f ((h f).0 p))

-- `a` answers of the faults that are so
record Answers (P : Refusal → Type 0) (a : Option Refusal) : Type 0 where
  some : (f : Refusal) → (a ≡ Some f) ↔ Decides P f
  none : (a ≡ None) ↔ Free P

answers : (P : Refusal → Type 0) (fs : List Refusal) → ((f : Refusal) → Contains fs f ↔ P f) → Answers P (least fs)
answers P fs h =
    record {
      some = λ f. through (least_decides.some fs f) (decides_too (Contains fs) P h f);
      none = through (least_decides.none fs) (free_too (Contains fs) P h);
    }

-- three stages, each judged where the earlier ones find nothing
module _ (A B C : Refusal → Type 0) where
  abbrev Turn : Refusal → Type 0
  Turn r = Decides A r ⊎ (Free A × Decides B r) ⊎ (Free A × Free B × Decides C r)

  at_first : (f : Refusal) (b c : Option Refusal) → Answers A (Some f) → (r : Refusal) → (earlier (Some f) (earlier b c) ≡ Some r) ↔ Turn r
  at_first f b c a r = (
    λ e. inl ((a.some r).0 e),
    λ v. ⊎_elim (a.some r).1 (λ w. ⊎_elim (λ y. absurd (y.0 f ((a.some f).0 refl).0)) (λ y. absurd (y.0 f ((a.some f).0 refl).0)) w) v,
  )

  at_second : (f : Refusal) (c : Option Refusal) → Answers A None → Answers B (Some f) → (r : Refusal) → (earlier None (earlier (Some f) c) ≡ Some r) ↔ Turn r
  at_second f c a b r = (
    λ e. inr (inl (a.none.0 refl, (b.some r).0 e)),
    λ v. ⊎_elim (λ y. absurd (a.none.0 refl r y.0)) (λ w. ⊎_elim (λ y. (b.some r).1 y.1) (λ y. absurd (y.1 f ((b.some f).0 refl).0)) w) v,
  )

  at_third : (c : Option Refusal) → Answers A None → Answers B None → Answers C c → (r : Refusal) → (earlier None (earlier None c) ≡ Some r) ↔ Turn r
  at_third c a b d r = (
    λ e. inr (inr (a.none.0 refl, b.none.0 refl, (d.some r).0 e)),
    λ v. ⊎_elim (λ y. absurd (a.none.0 refl r y.0)) (λ w. ⊎_elim (λ y. absurd (b.none.0 refl r y.1.0)) (λ y. (d.some r).1 y.2) w) v,
  )

  in_turn : (a b c : Option Refusal) → Answers A a → Answers B b → (Free A → Answers C c) → (r : Refusal) → (earlier a (earlier b c) ≡ Some r) ↔ Turn r
  in_turn (Some f) b c x y z r = at_first f b c x r
  in_turn None (Some f) c x y z r = at_second f c x y r
  in_turn None None c x y z r = at_third c x y (z (x.none.0 refl)) r

  abbrev Passed : Type 0
  Passed = Free A × Free B × Free C

  no_turn : (a b c : Option Refusal) → Answers A a → Answers B b → (Free A → Answers C c) → (earlier a (earlier b c) ≡ None) ↔ Passed
  no_turn (Some f) b c x y z = (λ e. some_none f e, λ v. absurd (v.0 f ((x.some f).0 refl).0))
  no_turn None (Some f) c x y z = (λ e. some_none f e, λ v. absurd (v.1 f ((y.some f).0 refl).0))
  no_turn None None c x y z =
      let d = z (x.none.0 refl) in
      (λ e. (x.none.0 refl, y.none.0 refl, d.none.0 e), λ v. d.none.1 v.2)

module _ (x : Program) where
  names_answer : Answers (NameFault x) (least (program_names x))
  names_answer = answers (NameFault x) (program_names x) (names_stand x)

  types_answer : Answers (TypeFault x) (least (program_types x))
  types_answer = answers (TypeFault x) (program_types x) (types_stand x)

  sizes_answer : Free (NameFault x) → Answers (SizeFault x) (least (program_sizes x))
  sizes_answer n = answers (SizeFault x) (program_sizes x) (sizes_stand x (named_there x (names_answer.none.1 n)))

  -- the verdict over the list of the program
  verdict_is : verdict (list x) ≡ earlier (least (program_names x)) (earlier (least (program_types x)) (least (program_sizes x)))
  unfolding verdict
  verdict_is = rw (table_program x, names_program x, types_program x, sizes_program x) refl

  refused_verdict : (r : Refusal) → (verdict (list x) ≡ Some r) ↔ IsRefusedWith x r
  refused_verdict r =
      let h = in_turn (NameFault x) (TypeFault x) (SizeFault x) (least (program_names x)) (least (program_types x)) (least (program_sizes x)) names_answer types_answer sizes_answer r in
      (λ e. h.0 (sym verdict_is ∙ e), λ v. verdict_is ∙ h.1 v)

  passed_verdict : (verdict (list x) ≡ None) ↔ IsNotRefused x
  passed_verdict =
      let h = no_turn (NameFault x) (TypeFault x) (SizeFault x) (least (program_names x)) (least (program_types x)) (least (program_sizes x)) names_answer types_answer sizes_answer in
      (λ e. h.0 (sym verdict_is ∙ e), λ v. verdict_is ∙ h.1 v)

answered_err : (a : Option Refusal) (y : CheckedSource) (r : Refusal) → (unless_fault a y ≡ Err r) ↔ (a ≡ Some r)
answered_err None y r = (λ e. absurd (let z : ◌≡◌ {A = ℕ} 0 1 = cc in omega (arith, z)), λ e. some_none r (sym e))
answered_err (Some f) y r = (λ e. (let g : f ≡ r = cc in ap Some g), λ e. ap Err (some_same f r e))

answered_ok : (a : Option Refusal) (y : CheckedSource) → (unless_fault a y ≡ Ok y) ↔ (a ≡ None)
answered_ok None y = (λ e. refl, λ e. refl)
answered_ok (Some f) y = (λ e. absurd (let z : ◌≡◌ {A = ℕ} 0 1 = cc in omega (arith, z)), λ e. some_none f e)

module _ (source : List ℕ) (x : Program) (read : syntax_list source ≡ Ok (list x)) where
  checked_is : source_check source ≡ unless_fault (verdict (list x)) (outcome (list x))
  unfolding source_check list_check
  checked_is = ap (λ r. then r list_check) read

  refused_source : (r : Refusal) → (source_check source ≡ Err r) ↔ IsRefusedWith x r
  refused_source r =
      let h = through (answered_err (verdict (list x)) (outcome (list x)) r) (refused_verdict x r) in
      (λ e. h.0 (sym checked_is ∙ e), λ v. checked_is ∙ h.1 v)

  accepted_source : (source_check source ≡ Ok (outcome (list x))) ↔ IsNotRefused x
  accepted_source =
      let h = through (answered_ok (verdict (list x)) (outcome (list x))) (passed_verdict x) in
      (λ e. h.0 (sym checked_is ∙ e), λ v. checked_is ∙ h.1 v)

-- 13 is no fault of names and none of types
module _ (x : Program) (p : ℕ) where
  no_name : NameFault x (refusal_at 13 p) → ⊥
  no_name h =
      ⊎_elim
      (λ y. let n = unknown_number x (refusal_at 13 p) y in omega (arith, n))
      (⊎_elim
      (λ y. let n = again_number x (refusal_at 13 p) y in omega (arith, n))
      (⊎_elim (λ y. let n = past_number x (refusal_at 13 p) y in omega (arith, n)) (λ y. let n = wrongly_number x (refusal_at 13 p) y in omega (arith, n))))
      h

  no_type : TypeFault x (refusal_at 13 p) → ⊥
  no_type h = let n = type_number x (refusal_at 13 p) h in omega (arith, n)

  wide_first : InOrder x.decls → IsRefusedWith x (refusal_at 13 p) → SomeDecl (Passes (refusal_at 13 p)) [] x.decls
  wide_first o h =
      ⊎_elim
      (λ y. absurd (no_name y.0))
      (⊎_elim (λ y. absurd (no_type y.1.0)) (λ y. passed (refusal_at 13 p) x o y.2 refl))
      h

pub refused_exactly : RefusedExactly
refused_exactly =
    record {
      refused = refused_source;
      accepted = accepted_source;
      passed = λ source x e p h. wide_first x p (source_order source x e) ((refused_source source x e (refusal_at 13 p)).0 h);
    }
