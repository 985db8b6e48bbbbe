-- Where the faults of sizes stand. Assumes nothing.
use Rattle.std.proofs.Common.{◌≡◌, ℕ, ◌+◌, ◌<◌, ◌≤◌, Bool, true, false, leb, eqb, ◌⊎◌, ◌↔◌, ◌≢◌, List, [], ◌∷◌, Contains, Some, sym, refl, ap, ◌∙◌, inl, inr, ⊎_elim, arith}
use Rattle.std.proofs.lemmas.Bool.{cases_Bool, cases_lt, leb-false, lt-leb, eqb-false, ne_eqb, or_right}
use Rattle.std.proofs.lemmas.Slice.Eq.{bytes_eq-Decides}
use Rattle.std.specs.Str.{bytes_eq}
use Rattle.base.specs.declared.refusal.Refusal.{Refusal}
use Rattle.base.specs.Refusals.{refusal_at}
use Rattle.arith.specs.Fields.{is_field}
use Rattle.ast.specs.Trees.{Expr, number, load, index, binary, negate, lnot, convert, field, shift, Clause, test, and, Cond, only, or, Step, absent, by, Stmt, assign, assign_at, deposit, deposit_at, when, either, choose, while, repeat, count, Body, end, then, Arms, last, arm, Decl, simple, array, Program}
use Rattle.sema.specs.Faults.{also}
use Rattle.sema.specs.Tables.{Row, Table, look, row_or_none, row_of}
use Rattle.sema.specs.Names.{program_table}
use Rattle.sema.specs.Sizes.{bits_fault, cells_at, sizes_d, sizes_e, sizes_l, sizes_c, sizes_p, sizes_s, sizes_b, sizes_a, program_sizes}
use Rattle.sema.specs.Rules.{declared_name, IsUnused, Once, NamesHold, width, widths, rows_from, layout_of}
use Rattle.sema.specs.Deciding.{Precedes, Decides}
use Rattle.sema.specs.Parts.{SomeE, SomeL, SomeC, SomeP, SomeS, SomeB, SomeA, SomeDecl}
use Rattle.sema.specs.Standing.{offset_of_decl, declares, OutE, OutS, OutD, Over, Passes, SizeFault, OutOfRange, TooWide}
use Rattle.lexer.proofs.Lookups.{same}
use Rattle.sema.proofs.NameRules.{laid_program}
use Rattle.sema.proofs.NamesStand.{true_false, unused_false}
use Rattle.sema.proofs.Shares.{both, swapped, skipped, nothing, recast, ended, judged, last_there, last_back, from_b, from_decl, split_there, split_back}

same_test : (b : Bool) → (b ≡ false) ↔ (b ≡ false)
same_test b = (λ e. e, λ e. e)

above : (c n : ℕ) → (n < c) ↔ (leb c n ≡ false)
above c n = (λ l. lt-leb c n l, λ e. leb-false c n e)

not_zero : (l : ℕ) → (l ≢ 0) ↔ (eqb l 0 ≡ false)
not_zero l = (λ h. ne_eqb l 0 h, λ e. eqb-false l 0 e)

module _ (r : Refusal) where
  abbrev E : Expr → Type 0
  E e = OutE r e

  abbrev T : ℕ → Expr → Type 0
  T p e = ⊥

  abbrev S : Stmt → Type 0
  S s = OutS r s

  bits : (a b p : ℕ) (fs : List Refusal) → Contains (also (bits_fault a b p) fs) r ↔ (((r ≡ refusal_at 12 p) × (is_field a b ≡ false)) ⊎ Contains fs r)
  bits a b p fs = judged (is_field a b) 12 p fs r (same_test (is_field a b))

  stands_e : (e : Expr) (fs : List Refusal) → Contains (sizes_e e fs) r ↔ (SomeE E T S e ⊎ Contains fs r)
  stands_e (number v k) fs = nothing
  stands_e (load n p) fs = nothing
  stands_e (index n p q e) fs = skipped (stands_e e fs)
  stands_e (binary o p a b) fs = skipped (both (stands_e a _) (stands_e b fs))
  stands_e (negate p a) fs = skipped (stands_e a fs)
  stands_e (lnot p a) fs = skipped (stands_e a fs)
  stands_e (convert k a) fs = skipped (stands_e a fs)
  stands_e (field a b p e) fs = swapped (both (stands_e e _) (bits a b p fs))
  stands_e (shift s c p e) fs = swapped (both (stands_e e _) (judged (leb c 15) 12 p fs r (above c 15)))

  stands_l : (c : Clause) (fs : List Refusal) → Contains (sizes_l c fs) r ↔ (SomeL E T S c ⊎ Contains fs r)
  stands_l (test p e) fs = skipped (stands_e e fs)
  stands_l (and p e c) fs = both (skipped (stands_e e _)) (stands_l c fs)

  stands_c : (c : Cond) (fs : List Refusal) → Contains (sizes_c c fs) r ↔ (SomeC E T S c ⊎ Contains fs r)
  stands_c (only c) fs = stands_l c fs
  stands_c (or c d) fs = both (stands_l c _) (stands_c d fs)

  stands_p : (s : Step) (fs : List Refusal) → Contains (sizes_p s fs) r ↔ (SomeP E T S s ⊎ Contains fs r)
  stands_p absent fs = nothing
  stands_p (by e) fs = stands_e e fs

  mutual
    stands_s : (s : Stmt) (fs : List Refusal) → Contains (sizes_s s fs) r ↔ (SomeS E T S s ⊎ Contains fs r)
    stands_s (assign n p q e) fs = skipped (stands_e e fs)
    stands_s (assign_at n p o i q e) fs = skipped (both (stands_e i _) (stands_e e fs))
    stands_s (deposit n p a b f q e) fs = swapped (both (stands_e e _) (bits a b f fs))
    stands_s (deposit_at n p o i a b f q e) fs = recast last_there last_back (both (stands_e i _) (both (stands_e e _) (bits a b f fs)))
    stands_s (when c b) fs = skipped (both (stands_c c _) (stands_b b fs))
    stands_s (either c b d) fs = skipped (both (stands_c c _) (both (stands_b b _) (stands_b d fs)))
    stands_s (choose p e a) fs = skipped (both (stands_e e _) (stands_a a fs))
    stands_s (while c b) fs = skipped (both (stands_c c _) (stands_b b fs))
    stands_s (repeat b c) fs = skipped (both (stands_b b _) (stands_c c fs))
    stands_s (count n p f e s l b) fs = skipped (both (stands_e e _) (both (stands_p s _) (both (stands_e l _) (stands_b b fs))))

    stands_b : (b : Body) (fs : List Refusal) → Contains (sizes_b b fs) r ↔ (SomeB E T S b ⊎ Contains fs r)
    stands_b end fs = nothing
    stands_b (then s b) fs = both (stands_s s _) (stands_b b fs)

    stands_a : (a : Arms) (fs : List Refusal) → Contains (sizes_a a fs) r ↔ (SomeA E T S a ⊎ Contains fs r)
    stands_a (last b) fs = stands_b b fs
    stands_a (arm b a) fs = both (stands_b b _) (stands_a a fs)

-- the rows of declarations, the cells of each behind those of the ones before it
abbrev Rows : Table → ℕ → List Decl → Type 0
Rows t c [] = Unit {0}
Rows t c (d ∷ ds) = ((row_of t (declared_name d)).cell ≡ c) × ((row_of t (declared_name d)).cells ≡ width d) × Rows t (c + width d) ds

row_found : (t : Table) (n : List ℕ) (r : Row) → look t.rows n ≡ Some r → row_of t n ≡ r
unfolding row_of
row_found t n r e = ap row_or_none e

module _ (t : Table) where
  -- among the rows of these declarations a name that one of the later ones has is found behind the first
  rest : (d : Decl) (ds : List Decl) (r : Row) (rs : List Row) → r.name ≡ declared_name d → IsUnused (declared_name d) ds → ((n : List ℕ) → declares (d ∷ ds) n ≡ true → look t.rows n ≡ look (r ∷ rs) n) → (n : List ℕ) → declares ds n ≡ true → look t.rows n ≡ look rs n
  rest d ds r rs i u h n e =
      h n (or_right (bytes_eq (declared_name d) n) (declares ds n) e)
      ∙ ⊎_elim
      (λ q. true_false (declares ds n) e (ap (declares ds) (sym ((bytes_eq-Decides r.name n).0 q) ∙ i) ∙ unused_false ds (declared_name d) u))
      (λ q. rw q refl)
      (cases_Bool (bytes_eq r.name n))

  here : (d : Decl) (ds : List Decl) (r : Row) (rs : List Row) → r.name ≡ declared_name d → ((n : List ℕ) → declares (d ∷ ds) n ≡ true → look t.rows n ≡ look (r ∷ rs) n) → row_of t (declared_name d) ≡ r
  here d ds r rs i h =
      let s : bytes_eq (declared_name d) (declared_name d) ≡ true = same (declared_name d) (declared_name d) refl in
      let q : bytes_eq r.name (declared_name d) ≡ true = same r.name (declared_name d) i in
      row_found t (declared_name d) r (h (declared_name d) (rw s refl) ∙ rw q refl)

  rows_are : (ds : List Decl) (c : ℕ) → Once ds → ((n : List ℕ) → declares ds n ≡ true → look t.rows n ≡ look (rows_from c ds) n) → Rows t c ds
  rows_are [] c o h = tt
  rows_are (simple n k p ∷ ds) c o h =
      let e = here (simple n k p) ds _ (rows_from (c + 1) ds) refl h in
      (ap (λ r. r.cell) e, ap (λ r. r.cells) e, rows_are ds (c + 1) o.1 (rest (simple n k p) ds _ (rows_from (c + 1) ds) refl o.0 h))
  rows_are (array n k l u p q ∷ ds) c o h =
      let e = here (array n k l u p q) ds _ (rows_from (c + (u + 1)) ds) refl h in
      (ap (λ r. r.cell) e, ap (λ r. r.cells) e, rows_are ds (c + (u + 1)) o.1 (rest (array n k l u p q) ds _ (rows_from (c + (u + 1)) ds) refl o.0 h))

rows_program : (x : Program) → NamesHold x → Rows (program_table x) 0 x.decls
rows_program x d = rw (laid_program x d) (rows_are (layout_of x.decls) x.decls 0 d.once (λ n e. refl))

module _ (t : Table) (r : Refusal) where
  abbrev Fault : List Decl → Decl → Type 0
  Fault b d = OutD r b d ⊎ Over r b d

  cells : (b : List Decl) (d : Decl) (c : ℕ) (fs : List Refusal) → c ≡ widths b → (row_of t (declared_name d)).cell ≡ c → (row_of t (declared_name d)).cells ≡ width d → Contains (also (cells_at t (declared_name d) (offset_of_decl d)) fs) r ↔ (Over r b d ⊎ Contains fs r)
  unfolding cells_at
  cells b d c fs e f g =
      let n = (row_of t (declared_name d)).cell + (row_of t (declared_name d)).cells in
      judged (leb n 4096) 13 (offset_of_decl d) fs r (
        λ l. lt-leb n 4096 (omega (arith, e, f, g, l)),
        λ h. (let l : 4096 < n = leb-false n 4096 h in omega (arith, e, f, g, l)),
      )

  stands_d : (ds b : List Decl) (c : ℕ) (fs : List Refusal) → c ≡ widths b → Rows t c ds → Contains (sizes_d t ds fs) r ↔ (SomeDecl Fault b ds ⊎ Contains fs r)
  stands_d [] b c fs e h = nothing
  stands_d (simple n k p ∷ ds) b c fs e h =
      both (skipped (cells b (simple n k p) c _ e h.0 h.1)) (stands_d ds (simple n k p ∷ b) (c + 1) fs (omega (arith, e)) h.2)
  stands_d (array n k l u p q ∷ ds) b c fs e h =
      both
      (swapped (both (cells b (array n k l u p q) c _ e h.0 h.1) (judged (eqb l 0) 12 q _ r (not_zero l))))
      (stands_d ds (array n k l u p q ∷ b) (c + (u + 1)) fs (omega (arith, e)) h.2)

module _ (x : Program) where
  pub sizes_stand : NamesHold x → (r : Refusal) → Contains (program_sizes x) r ↔ SizeFault x r
  unfolding program_sizes
  sizes_stand d r =
      let h = stands_d (program_table x) r x.decls [] 0 (sizes_b x.body []) refl (rows_program x d) in
      let u = ended r (stands_b r x.body []) in (
        λ c. ⊎_elim
            (λ y. ⊎_elim (λ z. inl (inl z)) (λ z. inr z) (split_there (OutD r) (Over r) x.decls [] y))
            (λ y. inl (inr (u.0 y)))
            (h.0 c),
        λ f. h.1 (⊎_elim
            (⊎_elim (λ y. inl (split_back (OutD r) (Over r) x.decls [] (inl y))) (λ y. inr (u.1 y)))
            (λ y. inl (split_back (OutD r) (Over r) x.decls [] (inr y)))
            f),
      )

-- each declaration stands at a larger offset than the one before it
abbrev pub After : ℕ → List Decl → Type 0
After p [] = Unit {0}
After p (d ∷ ds) = p < offset_of_decl d

abbrev pub InOrder : List Decl → Type 0
InOrder [] = Unit {0}
InOrder (d ∷ ds) = After (offset_of_decl d) ds × InOrder ds

module _ (r : Refusal) where
  -- all places behind a name are larger
  later : (ds b : List Decl) (p : ℕ) → After p ds → InOrder ds → SomeDecl (Over r) b ds → p < r.place
  later [] b p a o x = absurd x
  later (d ∷ ds) b p a o (inl y) = (let e : r.place ≡ offset_of_decl d = ap (λ z. z.place) y.0 in omega (arith, e, a))
  later (d ∷ ds) b p a o (inr y) = (let l = later ds (d ∷ b) (offset_of_decl d) o.0 o.1 y in omega (arith, l, a))

  not_before : (p : ℕ) → p < r.place → Precedes r (refusal_at 13 p) → ⊥
  not_before p l (inl m) = omega (arith, l, m)
  not_before p l (inr m) = omega (arith, l, m.0)

  first_d : (ds b : List Decl) → InOrder ds → widths b ≤ 4096 → ((g : Refusal) → SomeDecl (Over g) b ds → Precedes r g) → SomeDecl (Over r) b ds → SomeDecl (Passes r) b ds
  first_d [] b o l h x = absurd x
  first_d (d ∷ ds) b o l h (inl y) = inl (y, l)
  first_d (d ∷ ds) b o l h (inr y) =
      inr (⊎_elim
      (λ m. absurd (not_before (offset_of_decl d) (later ds (d ∷ b) (offset_of_decl d) o.0 o.1 y) (h (refusal_at 13 (offset_of_decl d)) (inl (refl, m)))))
      (λ m. first_d ds (d ∷ b) o.1 (omega (arith, m)) (λ g z. h g (inr z)) y)
      (cases_lt 4096 (widths b + width d)))

  out_number : (b : List Decl) (d : Decl) → OutD r b d → r.number ≡ 12
  out_number b (simple n k p) y = absurd y
  out_number b (array n k l u p q) y = ap (λ z. z.number) y.0

  out_e : (e : Expr) → OutE r e → r.number ≡ 12
  out_e (number v k) y = absurd y
  out_e (load n p) y = absurd y
  out_e (index n p q e) y = absurd y
  out_e (binary o p a b) y = absurd y
  out_e (negate p a) y = absurd y
  out_e (lnot p a) y = absurd y
  out_e (convert k a) y = absurd y
  out_e (field a b p e) y = ap (λ z. z.number) y.0
  out_e (shift s c p e) y = ap (λ z. z.number) y.0

  out_s : (s : Stmt) → OutS r s → r.number ≡ 12
  out_s (assign n p q e) y = absurd y
  out_s (assign_at n p o i q e) y = absurd y
  out_s (deposit n p a b f q e) y = ap (λ z. z.number) y.0
  out_s (deposit_at n p o i a b f q e) y = ap (λ z. z.number) y.0
  out_s (when c b) y = absurd y
  out_s (either c b d) y = absurd y
  out_s (choose p e a) y = absurd y
  out_s (while c b) y = absurd y
  out_s (repeat b c) y = absurd y
  out_s (count n p f e s l b) y = absurd y

  pub range_number : (x : Program) → OutOfRange x r → r.number ≡ 12
  range_number x v =
      ⊎_elim
      (λ y. from_decl (OutD r) out_number x.decls [] y)
      (λ y. from_b (OutE r) (λ p e. ⊥) (OutS r) out_e (λ p e z. absurd z) out_s x.body y)
      v

  pub wide_number : (x : Program) → TooWide x r → r.number ≡ 13
  wide_number x v = from_decl (Over r) (λ b d y. ap (λ z. z.number) y.0) x.decls [] v

  pub passed : (x : Program) → InOrder x.decls → Decides (SizeFault x) r → r.number ≡ 13 → SomeDecl (Passes r) [] x.decls
  passed x o h n =
      first_d x.decls [] o (omega arith) (λ g z. h.1 g (inr z))
      (⊎_elim (λ y. absurd (let e = range_number x y in omega (arith, e, n))) (λ y. y) h.0)
