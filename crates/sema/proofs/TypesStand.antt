-- Where the faults of types stand. Assumes nothing.
use Rattle.std.proofs.Common.{◌≡◌, ℕ, false, ◌&&◌, ◌⊎◌, ◌↔◌, ◌≢◌, List, [], Contains, sym, inl, inr, ⊎_elim, ap}
use Rattle.std.proofs.lemmas.Bool.{and_from, and_parts, and_cases, and_left, and_right, false_from_ne_true}
use Rattle.base.specs.declared.refusal.Refusal.{Refusal}
use Rattle.base.specs.Refusals.{refusal_at}
use Rattle.parser.specs.declared.value_type.ValueType.{ValueType}
use Rattle.parser.specs.declared.value_type.ValueType.TheVariants.{Integer, Logical}
use Rattle.parser.specs.declared.node.Operator.{Operator}
use Rattle.ast.specs.Trees.{Expr, number, load, index, binary, negate, lnot, convert, field, shift, Clause, test, and, Cond, only, or, Step, absent, by, Stmt, assign, assign_at, deposit, deposit_at, when, either, choose, while, repeat, count, Body, end, then, Arms, last, arm, Program}
use Rattle.sema.specs.Faults.{also}
use Rattle.sema.specs.Tables.{Table, row_of}
use Rattle.sema.specs.Names.{program_table}
use Rattle.sema.specs.Types.{is_type, takes_type, agree, other_type, type_e, types_e, types_k, types_l, types_c, types_p, types_s, types_b, types_a, program_types}
use Rattle.sema.specs.Rules.{Suits}
use Rattle.sema.specs.Parts.{SomeE, SomeL, SomeC, SomeP, SomeS, SomeB, SomeA}
use Rattle.sema.specs.Standing.{IllE, IllT, IllStep, IllS, TypeFault}
use Rattle.sema.proofs.TypeRules.{same_type, type_same, suits_there, suits_back}
use Rattle.sema.proofs.NamesStand.{true_false}
use Rattle.sema.proofs.Shares.{both, swapped, skipped, nothing, recast, ended, judged, from_b, last_there, last_back}

not_type : (w k : ValueType) → (k ≢ w) ↔ (is_type w k ≡ false)
not_type w k = (
  λ h. false_from_ne_true (is_type w k) (λ e. h (same_type w k e)),
  λ e f. true_false (is_type w k) (type_same w k f) e,
)

not_agreed : (o : Operator) (a b : ValueType) → ((a ≡ b) × Suits o a → ⊥) ↔ (agree o a b ≡ false)
not_agreed o a b = (
  λ h. false_from_ne_true (agree o a b) (λ e. let x = and_parts (is_type a b) (takes_type o a) e in h (sym (same_type a b x.0), suits_there o a x.1)),
  λ e f. true_false (agree o a b) (and_from (is_type a b) (takes_type o a) (type_same a b (sym f.0)) (suits_back o a f.1)) e,
)

not_started : (v k : ValueType) → ((v ≢ Integer) ⊎ (k ≢ Integer)) ↔ ((is_type Integer v && is_type Integer k) ≡ false)
not_started v k = (
  λ h. ⊎_elim
      (λ x. and_left (is_type Integer v) (is_type Integer k) ((not_type Integer v).0 x))
      (λ x. and_right (is_type Integer v) (is_type Integer k) ((not_type Integer k).0 x))
      h,
  λ e. ⊎_elim (λ x. inl ((not_type Integer v).1 x)) (λ x. inr ((not_type Integer k).1 x)) (and_cases (is_type Integer v) (is_type Integer k) e),
)

-- the judgements of a form are told before its parts
pair_there : {I W V J : Type 0} → (I ⊎ W) ⊎ (V ⊎ J) → (W ⊎ J) ⊎ I ⊎ V
pair_there (inl (inl i)) = inr (inl i)
pair_there (inl (inr w)) = inl (inl w)
pair_there (inr (inl e)) = inr (inr e)
pair_there (inr (inr v)) = inl (inr v)

pair_back : {I W V J : Type 0} → (W ⊎ J) ⊎ I ⊎ V → (I ⊎ W) ⊎ (V ⊎ J)
pair_back (inl (inl w)) = inl (inr w)
pair_back (inl (inr v)) = inr (inr v)
pair_back (inr (inl i)) = inl (inl i)
pair_back (inr (inr e)) = inr (inl e)

choose_there : {I W A : Type 0} → (I ⊎ W) ⊎ A → W ⊎ I ⊎ A
choose_there (inl (inl i)) = inr (inl i)
choose_there (inl (inr w)) = inl w
choose_there (inr a) = inr (inr a)

choose_back : {I W A : Type 0} → W ⊎ I ⊎ A → (I ⊎ W) ⊎ A
choose_back (inl w) = inl (inr w)
choose_back (inr (inl i)) = inl (inl i)
choose_back (inr (inr a)) = inr a

count_there : {Q V K S L A B C D : Type 0} → A ⊎ (Q × (V ⊎ K)) ⊎ (B ⊎ (Q × S)) ⊎ (C ⊎ (Q × L)) ⊎ D → (Q × (V ⊎ K ⊎ S ⊎ L)) ⊎ A ⊎ B ⊎ C ⊎ D
count_there (inl a) = inr (inl a)
count_there (inr (inl x)) = inl (x.0, ⊎_elim (λ v. inl v) (λ k. inr (inl k)) x.1)
count_there (inr (inr (inl (inl b)))) = inr (inr (inl b))
count_there (inr (inr (inl (inr x)))) = inl (x.0, inr (inr (inl x.1)))
count_there (inr (inr (inr (inl (inl c))))) = inr (inr (inr (inl c)))
count_there (inr (inr (inr (inl (inr x))))) = inl (x.0, inr (inr (inr x.1)))
count_there (inr (inr (inr (inr d)))) = inr (inr (inr (inr d)))

count_one : {Q V K S L A B C D : Type 0} → Q → V ⊎ K ⊎ S ⊎ L → A ⊎ (Q × (V ⊎ K)) ⊎ (B ⊎ (Q × S)) ⊎ (C ⊎ (Q × L)) ⊎ D
count_one q (inl v) = inr (inl (q, inl v))
count_one q (inr (inl k)) = inr (inl (q, inr k))
count_one q (inr (inr (inl s))) = inr (inr (inl (inr (q, s))))
count_one q (inr (inr (inr l))) = inr (inr (inr (inl (inr (q, l)))))

count_back : {Q V K S L A B C D : Type 0} → (Q × (V ⊎ K ⊎ S ⊎ L)) ⊎ A ⊎ B ⊎ C ⊎ D → A ⊎ (Q × (V ⊎ K)) ⊎ (B ⊎ (Q × S)) ⊎ (C ⊎ (Q × L)) ⊎ D
count_back (inl x) = count_one x.0 x.1
count_back (inr (inl a)) = inl a
count_back (inr (inr (inl b))) = inr (inr (inl (inl b)))
count_back (inr (inr (inr (inl c)))) = inr (inr (inr (inl (inl c))))
count_back (inr (inr (inr (inr d)))) = inr (inr (inr (inr d)))

-- no step, no fault of one
no_step : {X Q : Type 0} → X ↔ ((⊥ ⊎ (Q × ⊥)) ⊎ X)
no_step = (λ x. inr x, λ v. ⊎_elim (λ y. ⊎_elim (λ b. absurd b) (λ z. absurd z.1) y) (λ x. x) v)

module _ (t : Table) (r : Refusal) where
  abbrev E : Expr → Type 0
  E e = IllE t r e

  abbrev T : ℕ → Expr → Type 0
  T p e = IllT t r p e

  abbrev S : Stmt → Type 0
  S s = IllS t r s

  want : (w k : ValueType) (p : ℕ) (fs : List Refusal) → Contains (also (other_type w k p) fs) r ↔ (((r ≡ refusal_at 11 p) × (k ≢ w)) ⊎ Contains fs r)
  want w k p fs = judged (is_type w k) 11 p fs r (not_type w k)

  stands_e : (e : Expr) (fs : List Refusal) → Contains (types_e t e fs) r ↔ (SomeE E T S e ⊎ Contains fs r)
  stands_e (number v k) fs = nothing
  stands_e (load n p) fs = nothing
  stands_e (index n p q e) fs = swapped (both (stands_e e _) (want Integer (type_e t e) q fs))
  stands_e (binary o p a b) fs =
      recast last_there last_back
      (both (stands_e a _) (both (stands_e b _) (judged (agree o (type_e t a) (type_e t b)) 11 p fs r (not_agreed o (type_e t a) (type_e t b)))))
  stands_e (negate p a) fs = swapped (both (stands_e a _) (want Integer (type_e t a) p fs))
  stands_e (lnot p a) fs = swapped (both (stands_e a _) (want Logical (type_e t a) p fs))
  stands_e (convert k a) fs = skipped (stands_e a fs)
  stands_e (field a b p e) fs = skipped (stands_e e fs)
  stands_e (shift s c p e) fs = skipped (stands_e e fs)

  -- an expression, and its judgement behind it
  stands_k : (w : ValueType) (p : ℕ) (e : Expr) (fs : List Refusal) → Contains (types_k t w p e fs) r ↔ ((SomeE E T S e ⊎ ((r ≡ refusal_at 11 p) × (type_e t e ≢ w))) ⊎ Contains fs r)
  stands_k w p e fs = both (stands_e e _) (want w (type_e t e) p fs)

  stands_l : (c : Clause) (fs : List Refusal) → Contains (types_l t c fs) r ↔ (SomeL E T S c ⊎ Contains fs r)
  stands_l (test p e) fs = swapped (stands_k Logical p e fs)
  stands_l (and p e c) fs = both (swapped (stands_k Logical p e _)) (stands_l c fs)

  stands_c : (c : Cond) (fs : List Refusal) → Contains (types_c t c fs) r ↔ (SomeC E T S c ⊎ Contains fs r)
  stands_c (only c) fs = stands_l c fs
  stands_c (or c d) fs = both (stands_l c _) (stands_c d fs)

  stands_p : (f : ℕ) (s : Step) (fs : List Refusal) → Contains (types_p t f s fs) r ↔ ((SomeP E T S s ⊎ ((r ≡ refusal_at 11 f) × IllStep t s)) ⊎ Contains fs r)
  stands_p f absent fs = no_step
  stands_p f (by e) fs = stands_k Integer f e fs

  mutual
    stands_s : (s : Stmt) (fs : List Refusal) → Contains (types_s t s fs) r ↔ (SomeS E T S s ⊎ Contains fs r)
    stands_s (assign n p q e) fs = swapped (stands_k (row_of t n).value_type q e fs)
    stands_s (assign_at n p o i q e) fs = recast pair_there pair_back (both (stands_k Integer o i _) (stands_k (row_of t n).value_type q e fs))
    stands_s (deposit n p a b f q e) fs = swapped (stands_k (row_of t n).value_type q e fs)
    stands_s (deposit_at n p o i a b f q e) fs = recast pair_there pair_back (both (stands_k Integer o i _) (stands_k (row_of t n).value_type q e fs))
    stands_s (when c b) fs = skipped (both (stands_c c _) (stands_b b fs))
    stands_s (either c b d) fs = skipped (both (stands_c c _) (both (stands_b b _) (stands_b d fs)))
    stands_s (choose p e a) fs = recast choose_there choose_back (both (stands_k Integer p e _) (stands_a a fs))
    stands_s (while c b) fs = skipped (both (stands_c c _) (stands_b b fs))
    stands_s (repeat b c) fs = skipped (both (stands_b b _) (stands_c c fs))
    stands_s (count n p f e s l b) fs =
        recast count_there count_back
        (both (stands_e e _)
        (both (judged (is_type Integer (row_of t n).value_type && is_type Integer (type_e t e)) 11 f _ r (not_started (row_of t n).value_type (type_e t e)))
        (both (stands_p f s _) (both (stands_k Integer f l _) (stands_b b fs)))))

    stands_b : (b : Body) (fs : List Refusal) → Contains (types_b t b fs) r ↔ (SomeB E T S b ⊎ Contains fs r)
    stands_b end fs = nothing
    stands_b (then s b) fs = both (stands_s s _) (stands_b b fs)

    stands_a : (a : Arms) (fs : List Refusal) → Contains (types_a t a fs) r ↔ (SomeA E T S a ⊎ Contains fs r)
    stands_a (last b) fs = stands_b b fs
    stands_a (arm b a) fs = both (stands_b b _) (stands_a a fs)

-- a fault of types is 11
module _ (t : Table) (r : Refusal) where
  ill_e : (e : Expr) → IllE t r e → r.number ≡ 11
  ill_e (number v k) y = absurd y
  ill_e (load n p) y = absurd y
  ill_e (index n p q e) y = ap (λ z. z.number) y.0
  ill_e (binary o p a b) y = ap (λ z. z.number) y.0
  ill_e (negate p a) y = ap (λ z. z.number) y.0
  ill_e (lnot p a) y = ap (λ z. z.number) y.0
  ill_e (convert k a) y = absurd y
  ill_e (field a b p e) y = absurd y
  ill_e (shift s c p e) y = absurd y

  ill_s : (s : Stmt) → IllS t r s → r.number ≡ 11
  ill_s (assign n p q e) y = ap (λ z. z.number) y.0
  ill_s (assign_at n p o i q e) y = ⊎_elim (λ w. ap (λ z. z.number) w.0) (λ w. ap (λ z. z.number) w.0) y
  ill_s (deposit n p a b f q e) y = ap (λ z. z.number) y.0
  ill_s (deposit_at n p o i a b f q e) y = ⊎_elim (λ w. ap (λ z. z.number) w.0) (λ w. ap (λ z. z.number) w.0) y
  ill_s (when c b) y = absurd y
  ill_s (either c b d) y = absurd y
  ill_s (choose p e a) y = ap (λ z. z.number) y.0
  ill_s (while c b) y = absurd y
  ill_s (repeat b c) y = absurd y
  ill_s (count n p f e s l b) y = ap (λ z. z.number) y.0

pub type_number : (x : Program) (r : Refusal) → TypeFault x r → r.number ≡ 11
type_number x r h =
    let t = program_table x in
    from_b (IllE t r) (IllT t r) (IllS t r) (ill_e t r) (λ p e y. ap (λ z. z.number) y.0) (ill_s t r) x.body h

pub types_stand : (x : Program) (r : Refusal) → Contains (program_types x) r ↔ TypeFault x r
unfolding program_types
types_stand x r = ended r (stands_b (program_table x) r x.body [])
