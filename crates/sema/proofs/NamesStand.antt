-- Where the faults of names stand. Assumes nothing.
use Rattle.std.proofs.Common.{◌≡◌, ℕ, ◌+◌, ◌<◌, ◌≤◌, min, Bool, true, false, eqb, ◌⊎◌, ◌↔◌, ◌≢◌, List, [], ◌∷◌, ◌++◌, length, reverse, Contains, Some, None, Option, sym, refl, ap, ◌∙◌, subst, inl, inr, ⊎_elim, arith, length-append}
use mathlib.Core.List.{reverse_aux}
use Rattle.std.proofs.lemmas.Bool.{cases_Bool, cases_lt, eqb-true, eqb-false, or_left, or_right, or_parts, or_from, or_cases}
use Rattle.std.proofs.lemmas.Slice.Eq.{bytes_eq-Decides}
use Rattle.std.specs.Str.{bytes_eq}
use Rattle.base.specs.declared.refusal.Refusal.{Refusal}
use Rattle.base.specs.Refusals.{refusal_at}
use Rattle.parser.specs.declared.value_type.ValueType.{ValueType}
use Rattle.ast.specs.Trees.{Expr, number, load, index, binary, negate, lnot, convert, field, shift, Clause, test, and, Cond, only, or, Step, absent, by, Stmt, assign, assign_at, deposit, deposit_at, when, either, choose, while, repeat, count, Body, end, then, Arms, last, arm, Decl, simple, array, Program}
use Rattle.sema.specs.declared.entry.Sort.{Sort}
use Rattle.sema.specs.declared.entry.Sort.TheVariants as sort
use Rattle.sema.specs.Faults.{also}
use Rattle.sema.specs.Tables.{Row, Table, look, empty, is_known, with_row, declare}
use Rattle.sema.specs.Names.{Use, is_sort, used_as, use_refusal, declaration_refusal, table_of_decls, names_d, program_table, program_names, names_e, names_l, names_c, names_p, names_s, names_b, names_a}
use Rattle.sema.specs.Rules.{IsDeclared, declared_name, IsUnused}
use Rattle.sema.specs.Parts.{SomeE, SomeL, SomeC, SomeP, SomeS, SomeB, SomeA, SomeDecl}
use Rattle.sema.specs.Standing.{offset_of_decl, sort_of, declares, distinct_names, IsEntered, IsKnown, Again, Past, use_e, use_s, IfUsed, SomeUse, IsUnknownUse, IsOtherUse, UsesUnknown, UsesWrongly, NameFault, DeclaresAgain, DeclaresPast}
use Rattle.lexer.proofs.Lookups.{same, other}
use Rattle.sema.proofs.Laying.{some_none, look_push, not_known}
use Rattle.sema.proofs.Entering.{known, full, room}
use Rattle.sema.proofs.Shares.{both, swapped, skipped, nothing, recast, ended, told, told_unless, from_b, from_decl, split_there, split_back}

pub true_false : {A : Type 0} (b : Bool) → b ≡ true → b ≡ false → A
true_false b e f = absurd (let g : ◌≡◌ {A = Bool} true false = sym e ∙ f in let z : ◌≡◌ {A = ℕ} 0 1 = cc in omega (arith, z))

-- which names these declare
pub declares_false : (b : List Decl) (n : List ℕ) → declares b n ≡ false → IsUnused n b
declares_false [] n e = tt
declares_false (d ∷ b) n e =
    let x = or_parts (bytes_eq (declared_name d) n) (declares b n) e in
    (λ q. true_false (bytes_eq (declared_name d) n) (same (declared_name d) n q) x.0, declares_false b n x.1)

pub unused_false : (b : List Decl) (n : List ℕ) → IsUnused n b → declares b n ≡ false
unused_false [] n u = refl
unused_false (d ∷ b) n u = or_from (bytes_eq (declared_name d) n) (declares b n) (other (declared_name d) n u.0) (unused_false b n u.1)

entered_declares : (b : List Decl) (n : List ℕ) (s : Sort) → IsEntered b n s → declares b n ≡ true
entered_declares [] n s x = absurd x
entered_declares (d ∷ b) n s (inl x) = or_right (bytes_eq (declared_name d) n) (declares b n) (entered_declares b n s x)
entered_declares (d ∷ b) n s (inr x) = or_left (bytes_eq (declared_name d) n) (declares b n) (same (declared_name d) n x.0)

grows : (b : List Decl) (d : Decl) → distinct_names b ≤ distinct_names (d ∷ b)
grows b d = ⊎_elim (λ e. rw e (omega arith)) (λ e. rw e (omega arith)) (cases_Bool (declares b (declared_name d)))

one_more : (b : List Decl) (d : Decl) → declares b (declared_name d) ≡ false → distinct_names (d ∷ b) ≡ distinct_names b + 1
one_more b d e = rw e refl

no_more : (b : List Decl) (d : Decl) → declares b (declared_name d) ≡ true → distinct_names (d ∷ b) ≡ distinct_names b
no_more b d e = rw e refl

pub declares_known : (b : List Decl) (n : List ℕ) → distinct_names b ≤ 64 → declares b n ≡ true → IsKnown b n
declares_known [] n l e = true_false false e refl
declares_known (d ∷ b) n l e =
    ⊎_elim
    (λ h. let x = declares_known b n (omega (arith, l, grows b d)) h in (x.0, inl x.1))
    (λ h.
    let q : bytes_eq (declared_name d) n ≡ true = ⊎_elim (λ y. y) (λ y. true_false (declares b n) y h) (or_cases (bytes_eq (declared_name d) n) (declares b n) e) in
    let i : declared_name d ≡ n = (bytes_eq-Decides (declared_name d) n).0 q in
    let m = one_more b d (ap (declares b) i ∙ h) in
    (sort_of d, inr (i, refl, declares_false b n h, omega (arith, l, m))))
    (cases_Bool (declares b n))

pub known_declares : (b : List Decl) (n : List ℕ) → IsKnown b n → declares b n ≡ true
known_declares b n k = entered_declares b n k.0 k.1

-- the table has the names that are known, and no more rows than there are names
record Told (t : Table) (b : List Decl) : Type 0 where
  names : (n : List ℕ) (s : Sort) → IsEntered b n s ↔ IsDeclared t n s
  long : length t.rows ≡ min (distinct_names b) 64

module _ (t : Table) (b : List Decl) (g : Told t b) (n : List ℕ) where
  looked : (r : Row) → look t.rows n ≡ Some r → IsEntered b n r.sort
  looked r e = (g.names n r.sort).1 record { row = r; found = e; sort = refl }

  not_there : look t.rows n ≡ None → IsKnown b n → ⊥
  not_there e k = let d = (g.names n k.0).0 k.1 in some_none d.row (sym d.found ∙ e)

  found_known : (o : Option Row) → look t.rows n ≡ o → is_known o ≡ true → IsKnown b n
  found_known None e k = true_false false k refl
  found_known (Some r) e k = (r.sort, looked r e)

  not_known_there : is_known (look t.rows n) ≡ false → IsKnown b n → ⊥
  not_known_there e = not_there (not_known (look t.rows n) e)

-- a row more is found after the others
push_found : (rs : List Row) (r x : Row) (n : List ℕ) → look rs n ≡ Some x → look (rs ++ r ∷ []) n ≡ Some x
push_found [] r x n e = some_none x (sym e)
push_found (y ∷ rs) r x n e = ⊎_elim (λ h. rw h (rw h at e)) (λ h. rw h (push_found rs r x n (rw h at e))) (cases_Bool (bytes_eq y.name n))

push_last : (rs : List Row) (r : Row) (n : List ℕ) → look rs n ≡ None → bytes_eq r.name n ≡ true → look (rs ++ r ∷ []) n ≡ Some r
push_last [] r n e h = rw h refl
push_last (y ∷ rs) r n e h = ⊎_elim (λ k. some_none y (rw k at e)) (λ k. rw k (push_last rs r n (rw k at e) h)) (cases_Bool (bytes_eq y.name n))

pub some_same : {A : Type 0} (x y : A) → Some x ≡ Some y → x ≡ y
some_same x y e = cc

-- a declaration whose name is not entered
module _ (t : Table) (b : List Decl) (d : Decl) (g : Told t b) where
  left_out : ((n : List ℕ) (s : Sort) → (declared_name d ≡ n) × (sort_of d ≡ s) × IsUnused n b × (distinct_names b < 64) → ⊥) → min (distinct_names b) 64 ≡ min (distinct_names (d ∷ b)) 64 → Told t (d ∷ b)
  left_out never m =
      record {
        names = λ n s. (λ x. ⊎_elim (λ y. (g.names n s).0 y) (λ y. absurd (never n s y)) x, λ x. inl ((g.names n s).1 x));
        long = g.long ∙ m;
      }

  known_stays : IsKnown b (declared_name d) → Told t (d ∷ b)
  known_stays k =
      let e = known_declares b (declared_name d) k in
      left_out (λ n s x. true_false (declares b (declared_name d)) e (ap (declares b) x.0 ∙ unused_false b n x.2)) (ap (λ m. min m 64) (sym (no_more b d e)))

  full_stays : 64 ≤ distinct_names b → Told t (d ∷ b)
  full_stays l = left_out (λ n s x. omega (arith, l, x.3)) (let m = grows b d in omega (arith, l, m))

  module _ (k : ValueType) (c : ℕ) (new : IsKnown b (declared_name d) → ⊥) (l : distinct_names b < 64) where
    abbrev r : Row
    r = record { name = declared_name d; value_type = k; sort = sort_of d; cell = t.cells; cells = c }

    not_declared : declares b (declared_name d) ≡ false
    not_declared = ⊎_elim (λ e. absurd (new (declares_known b (declared_name d) (omega (arith, l)) e))) (λ e. e) (cases_Bool (declares b (declared_name d)))

    not_found : (o : Option Row) → look t.rows (declared_name d) ≡ o → o ≡ None
    not_found None e = refl
    not_found (Some x) e = absurd (new (x.sort, looked t b g (declared_name d) x e))

    row_there : (n : List ℕ) (s : Sort) → declared_name d ≡ n → sort_of d ≡ s → IsDeclared (with_row t (declared_name d) k (sort_of d) c) n s
    row_there n s e f =
        record {
          row = r;
          found = push_last t.rows r n (ap (look t.rows) (sym e) ∙ not_found (look t.rows (declared_name d)) refl) (same (declared_name d) n e);
          sort = f;
        }

    row_back : (n : List ℕ) (s : Sort) (o : Option Row) → look t.rows n ≡ o → IsDeclared (with_row t (declared_name d) k (sort_of d) c) n s → IsEntered (d ∷ b) n s
    row_back n s (Some x) e h =
        let f : x ≡ h.row = some_same x h.row (sym (push_found t.rows r x n e) ∙ h.found) in
        inl (subst (IsEntered b n) (ap (λ y. y.sort) f ∙ h.sort) (looked t b g n x e))
    row_back n s None e h =
        ⊎_elim
        (λ q.
        let f : r ≡ h.row = some_same r h.row (sym (push_last t.rows r n e q) ∙ h.found) in
        let i : declared_name d ≡ n = (bytes_eq-Decides (declared_name d) n).0 q in
        inr (i, ap (λ y. y.sort) f ∙ h.sort, subst (λ m. IsUnused m b) i (declares_false b (declared_name d) not_declared), l))
        (λ q. some_none h.row (sym h.found ∙ look_push t.rows r n e q))
        (cases_Bool (bytes_eq (declared_name d) n))

    entered_now : Told (with_row t (declared_name d) k (sort_of d) c) (d ∷ b)
    entered_now =
        record {
          names = λ n s. (
            λ x. ⊎_elim
                (λ y. let h = (g.names n s).0 y in record { row = h.row; found = push_found t.rows r h.row n h.found; sort = h.sort })
                (λ y. row_there n s y.0 y.1)
                x,
            λ h. row_back n s (look t.rows n) refl h,
          );
          long = (let m = one_more b d not_declared in let a = g.long in simp length-append (omega (arith, m, a, l)));
        }

module _ (r : Refusal) where
  abbrev Fault : List Decl → Decl → Type 0
  Fault b d = Again r b d ⊎ Past r b d

  module _ (t : Table) (b : List Decl) (d : Decl) (g : Told t b) (k : ValueType) (c : ℕ) where
    abbrev Judged : Type 0
    Judged = (Fault b d ↔ (declaration_refusal t (declared_name d) (offset_of_decl d) ≡ Some r)) × Told (declare t (declared_name d) k (sort_of d) c) (d ∷ b)

    of_known : is_known (look t.rows (declared_name d)) ≡ true → Judged
    of_known e =
        let h = known t (declared_name d) k (sort_of d) c (offset_of_decl d) e in
        let n = found_known t b g (declared_name d) (look t.rows (declared_name d)) refl e in (
          (
            λ x. ⊎_elim (λ y. sym h.0 ∙ ap Some (sym y.0)) (λ y. absurd (y.1 n)) x,
            λ x. inl (sym (some_same (refusal_at 8 (offset_of_decl d)) r (h.0 ∙ x)), n),
          ),
          subst (λ u. Told u (d ∷ b)) h.1 (known_stays t b d g n),
        )

    of_full : is_known (look t.rows (declared_name d)) ≡ false → 64 ≤ length t.rows → Judged
    of_full e l =
        let h = full t (declared_name d) k (sort_of d) c (offset_of_decl d) e l in
        let n = not_known_there t b g (declared_name d) e in
        let m : 64 ≤ distinct_names b = (let a = g.long in omega (arith, a, l)) in (
          (
            λ x. ⊎_elim (λ y. absurd (n y.1)) (λ y. sym h.0 ∙ ap Some (sym y.0)) x,
            λ x. inr (sym (some_same (refusal_at 9 (offset_of_decl d)) r (h.0 ∙ x)), n, m),
          ),
          subst (λ u. Told u (d ∷ b)) h.1 (full_stays t b d g m),
        )

    of_room : is_known (look t.rows (declared_name d)) ≡ false → length t.rows < 64 → Judged
    of_room e l =
        let h = room t (declared_name d) k (sort_of d) c (offset_of_decl d) e l in
        let n = not_known_there t b g (declared_name d) e in
        let m : distinct_names b < 64 = (let a = g.long in omega (arith, a, l)) in (
          (
            λ x. ⊎_elim (λ y. absurd (n y.1)) (λ y. absurd (omega (arith, m, y.2))) x,
            λ x. some_none r (sym x ∙ sym h.0),
          ),
          subst (λ u. Told u (d ∷ b)) h.1 (entered_now t b d g k c n m),
        )

    of_decl : Judged
    of_decl =
        ⊎_elim of_known (λ e. ⊎_elim (of_room e) (of_full e) (cases_lt (length t.rows) 64)) (cases_Bool (is_known (look t.rows (declared_name d))))

  stands_d : (ds : List Decl) (t : Table) (b : List Decl) (fs : List Refusal) → Told t b → Contains (names_d t ds fs) r ↔ (SomeDecl Fault b ds ⊎ Contains fs r)
  stands_d [] t b fs g = nothing
  stands_d (simple n k p ∷ ds) t b fs g =
      let x = of_decl t b (simple n k p) g k 1 in
      both (told (declaration_refusal t n p) (names_d (declare t n k sort.Simple 1) ds fs) r x.0) (stands_d ds (declare t n k sort.Simple 1) (simple n k p ∷ b) fs x.1)
  stands_d (array n k l h p q ∷ ds) t b fs g =
      let x = of_decl t b (array n k l h p q) g k (h + 1) in
      both (told (declaration_refusal t n p) (names_d (declare t n k sort.Array (h + 1)) ds fs) r x.0) (stands_d ds (declare t n k sort.Array (h + 1)) (array n k l h p q ∷ b) fs x.1)

-- a name is judged before and after what stands right of it
twice_there : {I U V : Type 0} → I ⊎ U ⊎ V ⊎ U → U ⊎ I ⊎ V
twice_there (inl i) = inr (inl i)
twice_there (inr (inl u)) = inl u
twice_there (inr (inr (inl e))) = inr (inr e)
twice_there (inr (inr (inr u))) = inl u

twice_back : {I U V : Type 0} → U ⊎ I ⊎ V → I ⊎ U ⊎ V ⊎ U
twice_back (inl u) = inr (inl u)
twice_back (inr (inl i)) = inl i
twice_back (inr (inr e)) = inr (inr (inl e))

first_there : {U V : Type 0} → U ⊎ V ⊎ U → U ⊎ V
first_there (inl u) = inl u
first_there (inr (inl e)) = inr e
first_there (inr (inr u)) = inl u

first_back : {U V : Type 0} → U ⊎ V → U ⊎ V ⊎ U
first_back (inl u) = inl u
first_back (inr e) = inr (inl e)

count_there : {V U P L B : Type 0} → V ⊎ U ⊎ P ⊎ L ⊎ U ⊎ B → U ⊎ V ⊎ P ⊎ L ⊎ B
count_there (inl e) = inr (inl e)
count_there (inr (inl u)) = inl u
count_there (inr (inr (inl s))) = inr (inr (inl s))
count_there (inr (inr (inr (inl l)))) = inr (inr (inr (inl l)))
count_there (inr (inr (inr (inr (inl u))))) = inl u
count_there (inr (inr (inr (inr (inr b))))) = inr (inr (inr (inr b)))

count_back : {V U P L B : Type 0} → U ⊎ V ⊎ P ⊎ L ⊎ B → V ⊎ U ⊎ P ⊎ L ⊎ U ⊎ B
count_back (inl u) = inr (inl u)
count_back (inr (inl e)) = inl e
count_back (inr (inr (inl s))) = inr (inr (inl s))
count_back (inr (inr (inr (inl l)))) = inr (inr (inr (inl l)))
count_back (inr (inr (inr (inr b)))) = inr (inr (inr (inr (inr b))))

-- what is judged at each use
module _ (t : Table) (r : Refusal) (P : Use → Type 0) (h : (n : List ℕ) (s : Sort) (p : ℕ) → P record { name = n; sort = s; offset = p } ↔ (use_refusal t n s p ≡ Some r)) where
  abbrev E : Expr → Type 0
  E e = IfUsed P (use_e e)

  abbrev T : ℕ → Expr → Type 0
  T p e = ⊥

  abbrev S : Stmt → Type 0
  S s = IfUsed P (use_s s)

  met : (n : List ℕ) (s : Sort) (p : ℕ) (fs : List Refusal) → Contains (also (use_refusal t n s p) fs) r ↔ (P record { name = n; sort = s; offset = p } ⊎ Contains fs r)
  met n s p fs = told (use_refusal t n s p) fs r (h n s p)

  stands_e : (e : Expr) (fs : List Refusal) → Contains (names_e t e fs) r ↔ (SomeE E T S e ⊎ Contains fs r)
  stands_e (number v k) fs = nothing
  stands_e (load n p) fs = met n sort.Simple p fs
  stands_e (index n p q e) fs = swapped (both (stands_e e _) (met n sort.Array p fs))
  stands_e (binary o p a b) fs = skipped (both (stands_e a _) (stands_e b fs))
  stands_e (negate p a) fs = skipped (stands_e a fs)
  stands_e (lnot p a) fs = skipped (stands_e a fs)
  stands_e (convert k a) fs = skipped (stands_e a fs)
  stands_e (field a b p e) fs = skipped (stands_e e fs)
  stands_e (shift s c p e) fs = skipped (stands_e e fs)

  stands_l : (c : Clause) (fs : List Refusal) → Contains (names_l t c fs) r ↔ (SomeL E T S c ⊎ Contains fs r)
  stands_l (test p e) fs = skipped (stands_e e fs)
  stands_l (and p e c) fs = both (skipped (stands_e e _)) (stands_l c fs)

  stands_c : (c : Cond) (fs : List Refusal) → Contains (names_c t c fs) r ↔ (SomeC E T S c ⊎ Contains fs r)
  stands_c (only c) fs = stands_l c fs
  stands_c (or c d) fs = both (stands_l c _) (stands_c d fs)

  stands_p : (s : Step) (fs : List Refusal) → Contains (names_p t s fs) r ↔ (SomeP E T S s ⊎ Contains fs r)
  stands_p absent fs = nothing
  stands_p (by e) fs = stands_e e fs

  mutual
    stands_s : (s : Stmt) (fs : List Refusal) → Contains (names_s t s fs) r ↔ (SomeS E T S s ⊎ Contains fs r)
    stands_s (assign n p q e) fs = swapped (both (stands_e e _) (met n sort.Simple p fs))
    stands_s (assign_at n p o i q e) fs = recast twice_there twice_back (both (stands_e i _) (both (met n sort.Array p _) (both (stands_e e _) (met n sort.Array p fs))))
    stands_s (deposit n p a b f q e) fs = recast first_there first_back (both (met n sort.Simple p _) (both (stands_e e _) (met n sort.Simple p fs)))
    stands_s (deposit_at n p o i a b f q e) fs = recast twice_there twice_back (both (stands_e i _) (both (met n sort.Array p _) (both (stands_e e _) (met n sort.Array p fs))))
    stands_s (when c b) fs = skipped (both (stands_c c _) (stands_b b fs))
    stands_s (either c b d) fs = skipped (both (stands_c c _) (both (stands_b b _) (stands_b d fs)))
    stands_s (choose p e a) fs = skipped (both (stands_e e _) (stands_a a fs))
    stands_s (while c b) fs = skipped (both (stands_c c _) (stands_b b fs))
    stands_s (repeat b c) fs = skipped (both (stands_b b _) (stands_c c fs))
    stands_s (count n p f e s l b) fs =
        recast count_there count_back
        (both (stands_e e _) (both (met n sort.Simple p _) (both (stands_p s _) (both (stands_e l _) (both (met n sort.Simple p _) (stands_b b fs))))))

    stands_b : (b : Body) (fs : List Refusal) → Contains (names_b t b fs) r ↔ (SomeB E T S b ⊎ Contains fs r)
    stands_b end fs = nothing
    stands_b (then s b) fs = both (stands_s s _) (stands_b b fs)

    stands_a : (a : Arms) (fs : List Refusal) → Contains (names_a t a fs) r ↔ (SomeA E T S a ⊎ Contains fs r)
    stands_a (last b) fs = stands_b b fs
    stands_a (arm b a) fs = both (stands_b b _) (stands_a a fs)

-- the table of a program, and those of its names that are known
told_all : (ds : List Decl) (t : Table) (b : List Decl) → Told t b → Told (table_of_decls t ds) (reverse_aux ds b)
told_all [] t b g = g
told_all (simple n k p ∷ ds) t b g =
    told_all ds (declare t n k sort.Simple 1) (simple n k p ∷ b) (of_decl (refusal_at 0 0) t b (simple n k p) g k 1).1
told_all (array n k l h p q ∷ ds) t b g =
    told_all ds (declare t n k sort.Array (h + 1)) (array n k l h p q ∷ b) (of_decl (refusal_at 0 0) t b (array n k l h p q) g k (h + 1)).1

told_empty : Told empty []
told_empty = record { names = λ n s. (λ x. absurd x, λ h. some_none h.row (sym h.found)); long = omega arith }

told_program : (x : Program) → Told (program_table x) (reverse x.decls)
unfolding program_table
told_program x = told_all x.decls empty [] told_empty

number_of : (n m p : ℕ) (r : Refusal) → refusal_at n p ≡ r → r.number ≡ m → n ≡ m
number_of n m p r e f = ap (λ y. y.number) e ∙ f

other_sort : (a b : Sort) → (is_sort a b ≡ false) ↔ (b ≢ a)
other_sort sort.Simple sort.Simple = (λ e. true_false true refl e, λ h. absurd (h refl))
other_sort sort.Simple sort.Array = (λ e h. absurd (let z : ◌≡◌ {A = ℕ} 0 1 = cc in omega (arith, z)), λ h. refl)
other_sort sort.Array sort.Simple = (λ e h. absurd (let z : ◌≡◌ {A = ℕ} 0 1 = cc in omega (arith, z)), λ h. refl)
other_sort sort.Array sort.Array = (λ e. true_false true refl e, λ h. absurd (h refl))

module _ (x : Program) (r : Refusal) where
  abbrev t : Table
  t = program_table x

  abbrev g : Told t (reverse x.decls)
  g = told_program x

  module _ (seven : r.number ≡ 7) (n : List ℕ) (s : Sort) (p : ℕ) where
    unknown_there : (o : Option Row) → look t.rows n ≡ o → IsUnknownUse x r record { name = n; sort = s; offset = p } → used_as o s p ≡ Some r
    unknown_there None e h = ap Some (sym h.0)
    unknown_there (Some y) e h = absurd (h.1 (y.sort, looked t (reverse x.decls) g n y e))

    unknown_back : (o : Option Row) → look t.rows n ≡ o → used_as o s p ≡ Some r → IsUnknownUse x r record { name = n; sort = s; offset = p }
    unknown_back None e h = (sym (some_same (refusal_at 7 p) r h), not_there t (reverse x.decls) g n e)
    unknown_back (Some y) e h =
        let v = (told_unless (is_sort s y.sort) 10 p r).1 h in
        absurd (let z : 10 ≡ 7 = number_of 10 7 p r (sym v.0) seven in omega (arith, z))

    unknown : IsUnknownUse x r record { name = n; sort = s; offset = p } ↔ (use_refusal t n s p ≡ Some r)
    unfolding use_refusal
    unknown = (unknown_there (look t.rows n) refl, unknown_back (look t.rows n) refl)

  module _ (other_number : r.number ≡ 7 → ⊥) (n : List ℕ) (s : Sort) (p : ℕ) where
    sorted_there : (o : Option Row) → look t.rows n ≡ o → IsOtherUse x r record { name = n; sort = s; offset = p } → used_as o s p ≡ Some r
    sorted_there None e h = absurd (not_there t (reverse x.decls) g n e (h.1.0, h.1.1))
    sorted_there (Some y) e h =
        let d = (g.names n h.1.0).0 h.1.1 in
        let f : y ≡ d.row = some_same y d.row (sym e ∙ d.found) in
        (told_unless (is_sort s y.sort) 10 p r).0 (h.0, (other_sort s y.sort).1 (λ i. h.1.2 (sym d.sort ∙ ap (λ z. z.sort) (sym f) ∙ i)))

    sorted_back : (o : Option Row) → look t.rows n ≡ o → used_as o s p ≡ Some r → IsOtherUse x r record { name = n; sort = s; offset = p }
    sorted_back None e h = absurd (other_number (ap (λ y. y.number) (sym (some_same (refusal_at 7 p) r h))))
    sorted_back (Some y) e h =
        let v = (told_unless (is_sort s y.sort) 10 p r).1 h in
        (v.0, (y.sort, looked t (reverse x.decls) g n y e, (other_sort s y.sort).0 v.1))

    sorted : IsOtherUse x r record { name = n; sort = s; offset = p } ↔ (use_refusal t n s p ≡ Some r)
    unfolding use_refusal
    sorted = (sorted_there (look t.rows n) refl, sorted_back (look t.rows n) refl)

  -- a fault of uses has its number
  if_used : {C : Type 0} (P : Use → Type 0) (f : (u : Use) → P u → C) (o : Option Use) → IfUsed P o → C
  if_used P f None h = absurd h
  if_used P f (Some u) h = f u h

  some_use : {C : Type 0} (P : Use → Type 0) (f : (u : Use) → P u → C) → SomeUse P x.body → C
  some_use P f h =
      from_b (λ e. IfUsed P (use_e e)) (λ p e. ⊥) (λ s. IfUsed P (use_s s)) (λ e. if_used P f (use_e e)) (λ p e y. absurd y) (λ s. if_used P f (use_s s)) x.body h

  pub unknown_number : UsesUnknown x r → r.number ≡ 7
  unknown_number h = some_use (IsUnknownUse x r) (λ u y. ap (λ z. z.number) y.0) h

  pub wrongly_number : UsesWrongly x r → r.number ≡ 10
  wrongly_number h = some_use (IsOtherUse x r) (λ u y. ap (λ z. z.number) y.0) h

  pub again_number : DeclaresAgain x r → r.number ≡ 8
  again_number h = from_decl (Again r) (λ b d y. ap (λ z. z.number) y.0) x.decls [] h

  pub past_number : DeclaresPast x r → r.number ≡ 9
  past_number h = from_decl (Past r) (λ b d y. ap (λ z. z.number) y.0) x.decls [] h

  abbrev Used : Type 0
  Used = Contains (names_b t x.body []) r ↔ (UsesUnknown x r ⊎ UsesWrongly x r)

  used_seven : r.number ≡ 7 → Used
  used_seven e =
      let h = ended r (stands_b t r (IsUnknownUse x r) (unknown e) x.body []) in (
        λ c. inl (h.0 c),
        λ v. ⊎_elim h.1 (λ w. absurd (let n = wrongly_number w in omega (arith, n, e))) v,
      )

  used_other : (r.number ≡ 7 → ⊥) → Used
  used_other e =
      let h = ended r (stands_b t r (IsOtherUse x r) (sorted e) x.body []) in (
        λ c. inr (h.0 c),
        λ v. ⊎_elim (λ w. absurd (e (unknown_number w))) h.1 v,
      )

  used_stand : Used
  used_stand = ⊎_elim (λ e. used_seven (eqb-true r.number 7 e)) (λ e. used_other (eqb-false r.number 7 e)) (cases_Bool (eqb r.number 7))

  pub names_stand : Contains (program_names x) r ↔ NameFault x r
  unfolding program_names
  names_stand =
      let h = stands_d r x.decls empty [] (names_b t x.body []) told_empty in
      let u = used_stand in (
        λ c. ⊎_elim
            (λ d. ⊎_elim (λ y. inr (inl y)) (λ y. inr (inr (inl y))) (split_there (Again r) (Past r) x.decls [] d))
            (λ b. ⊎_elim (λ y. inl y) (λ y. inr (inr (inr y))) (u.0 b))
            (h.0 c),
        λ f. h.1 (⊎_elim
            (λ y. inr (u.1 (inl y)))
            (⊎_elim
            (λ y. inl (split_back (Again r) (Past r) x.decls [] (inl y)))
            (⊎_elim (λ y. inl (split_back (Again r) (Past r) x.decls [] (inr y))) (λ y. inr (u.1 (inr y)))))
            f),
      )
