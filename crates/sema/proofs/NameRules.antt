-- The stage of names finds no fault exactly where the names are in order. Assumes nothing.
use Rattle.std.proofs.Common.{◌≡◌, ℕ, ◌+◌, ◌<◌, ◌≤◌, true, ltb, List, [], ◌∷◌, ◌++◌, length, Some, None, Option, sym, refl, ap, ◌∙◌, ⊎_elim, arith, length-append, append_assoc}
use Rattle.std.proofs.lemmas.List.{append-nil}
use Rattle.std.proofs.lemmas.Bool.{cases_Bool, ltb-true}
use Rattle.std.specs.Str.{bytes_eq}
use Rattle.base.specs.declared.refusal.Refusal.{Refusal}
use Rattle.base.specs.Refusals.{refusal_at}
use Rattle.parser.specs.declared.value_type.ValueType.{ValueType}
use Rattle.ast.specs.Trees.{Expr, number, load, index, binary, negate, lnot, convert, field, shift, Clause, test, and, Cond, only, or, Step, absent, by, Stmt, assign, assign_at, deposit, deposit_at, when, either, choose, while, repeat, count, Body, end, then, Arms, last, arm, Decl, simple, array, Program}
use Rattle.sema.specs.declared.entry.Sort.{Sort}
use Rattle.sema.specs.declared.entry.Sort.TheVariants as sort
use Rattle.sema.specs.Faults.{also, unless, least}
use Rattle.sema.specs.Tables.{Row, Table, look, empty, is_known, with_row, declare}
use Rattle.sema.specs.Names.{is_sort, used_as, use_refusal, declaration_refusal, table_of_decls, names_d, program_table, program_names, names_e, names_l, names_c, names_p, names_s, names_b, names_a}
use Rattle.sema.specs.Rules.{IsDeclared, NamesHoldE, NamesHoldL, NamesHoldC, NamesHoldP, NamesHoldS, NamesHoldB, NamesHoldA, declared_name, IsUnused, Once, NamesHold, widths, rows_from, layout_of}
use Rattle.lexer.proofs.Lookups.{same, other}
use Rattle.sema.proofs.Entering.{room, table_of}
use Rattle.sema.proofs.Laying.{some_none, look_push, not_known}
use Rattle.sema.proofs.Narrowing.{least_none, also_none, unless_none}
use Rattle.sema.proofs.Faultless.{none_least}

same_sort : (a b : Sort) → is_sort a b ≡ true → b ≡ a
same_sort sort.Simple sort.Simple e = refl
same_sort sort.Simple sort.Array e = absurd (let z : ◌≡◌ {A = ℕ} 0 1 = cc in omega arith)
same_sort sort.Array sort.Simple e = absurd (let z : ◌≡◌ {A = ℕ} 0 1 = cc in omega arith)
same_sort sort.Array sort.Array e = refl

untold_sort : (s r : Sort) (p : ℕ) → r ≡ s → unless (is_sort s r) 10 p ≡ None
untold_sort sort.Simple sort.Simple p e = refl
untold_sort sort.Simple sort.Array p e = absurd (let z : ◌≡◌ {A = ℕ} 0 1 = cc in omega arith)
untold_sort sort.Array sort.Simple p e = absurd (let z : ◌≡◌ {A = ℕ} 0 1 = cc in omega arith)
untold_sort sort.Array sort.Array p e = refl

module _ (t : Table) where
  looked_up : (n : List ℕ) (s : Sort) (p : ℕ) (o : Option Row) → look t.rows n ≡ o → used_as o s p ≡ None → IsDeclared t n s
  looked_up n s p None l e = some_none (refusal_at 7 p) e
  looked_up n s p (Some r) l e = record { row = r; found = l; sort = same_sort s r.sort (unless_none (is_sort s r.sort) 10 p e) }

  used_there : (n : List ℕ) (s : Sort) (p : ℕ) (fs : List Refusal) → also (use_refusal t n s p) fs ≡ [] → IsDeclared t n s × (fs ≡ [])
  unfolding use_refusal
  used_there n s p fs h =
      let x = also_none (used_as (look t.rows n) s p) fs h in
      (looked_up n s p (look t.rows n) refl x.0, x.1)

  there_e : (e : Expr) (fs : List Refusal) → names_e t e fs ≡ [] → NamesHoldE t e × (fs ≡ [])
  there_e (number v k) fs h = (tt, h)
  there_e (load n p) fs h = used_there n sort.Simple p fs h
  there_e (index n p q e) fs h =
      let x = there_e e (also (use_refusal t n sort.Array p) fs) h in
      let y = used_there n sort.Array p fs x.1 in
      ((y.0, x.0), y.1)
  there_e (binary o p a b) fs h =
      let x = there_e a (names_e t b fs) h in
      let y = there_e b fs x.1 in
      ((x.0, y.0), y.1)
  there_e (negate p a) fs h = there_e a fs h
  there_e (lnot p a) fs h = there_e a fs h
  there_e (convert k a) fs h = there_e a fs h
  there_e (field a b p e) fs h = there_e e fs h
  there_e (shift s c p e) fs h = there_e e fs h

  there_l : (c : Clause) (fs : List Refusal) → names_l t c fs ≡ [] → NamesHoldL t c × (fs ≡ [])
  there_l (test p e) fs h = there_e e fs h
  there_l (and p e c) fs h =
      let x = there_e e (names_l t c fs) h in
      let y = there_l c fs x.1 in
      ((x.0, y.0), y.1)

  there_c : (c : Cond) (fs : List Refusal) → names_c t c fs ≡ [] → NamesHoldC t c × (fs ≡ [])
  there_c (only c) fs h = there_l c fs h
  there_c (or c d) fs h =
      let x = there_l c (names_c t d fs) h in
      let y = there_c d fs x.1 in
      ((x.0, y.0), y.1)

  there_p : (s : Step) (fs : List Refusal) → names_p t s fs ≡ [] → NamesHoldP t s × (fs ≡ [])
  there_p absent fs h = (tt, h)
  there_p (by e) fs h = there_e e fs h

  mutual
    there_s : (s : Stmt) (fs : List Refusal) → names_s t s fs ≡ [] → NamesHoldS t s × (fs ≡ [])
    there_s (assign n p q e) fs h =
        let x = there_e e (also (use_refusal t n sort.Simple p) fs) h in
        let y = used_there n sort.Simple p fs x.1 in
        ((y.0, x.0), y.1)
    there_s (assign_at n p o i q e) fs h =
        let x = there_e i (also (use_refusal t n sort.Array p) (names_e t e (also (use_refusal t n sort.Array p) fs))) h in
        let y = used_there n sort.Array p (names_e t e (also (use_refusal t n sort.Array p) fs)) x.1 in
        let z = there_e e (also (use_refusal t n sort.Array p) fs) y.1 in
        let w = used_there n sort.Array p fs z.1 in
        ((y.0, x.0, z.0), w.1)
    there_s (deposit n p a b f q e) fs h =
        let x = used_there n sort.Simple p (names_e t e (also (use_refusal t n sort.Simple p) fs)) h in
        let y = there_e e (also (use_refusal t n sort.Simple p) fs) x.1 in
        let z = used_there n sort.Simple p fs y.1 in
        ((x.0, y.0), z.1)
    there_s (deposit_at n p o i a b f q e) fs h =
        let x = there_e i (also (use_refusal t n sort.Array p) (names_e t e (also (use_refusal t n sort.Array p) fs))) h in
        let y = used_there n sort.Array p (names_e t e (also (use_refusal t n sort.Array p) fs)) x.1 in
        let z = there_e e (also (use_refusal t n sort.Array p) fs) y.1 in
        let w = used_there n sort.Array p fs z.1 in
        ((y.0, x.0, z.0), w.1)
    there_s (when c b) fs h =
        let x = there_c c (names_b t b fs) h in
        let y = there_b b fs x.1 in
        ((x.0, y.0), y.1)
    there_s (either c b d) fs h =
        let x = there_c c (names_b t b (names_b t d fs)) h in
        let y = there_b b (names_b t d fs) x.1 in
        let z = there_b d fs y.1 in
        ((x.0, y.0, z.0), z.1)
    there_s (choose p e a) fs h =
        let x = there_e e (names_a t a fs) h in
        let y = there_a a fs x.1 in
        ((x.0, y.0), y.1)
    there_s (while c b) fs h =
        let x = there_c c (names_b t b fs) h in
        let y = there_b b fs x.1 in
        ((x.0, y.0), y.1)
    there_s (repeat b c) fs h =
        let x = there_b b (names_c t c fs) h in
        let y = there_c c fs x.1 in
        ((x.0, y.0), y.1)
    there_s (count n p f e s l b) fs h =
        let v = also (use_refusal t n sort.Simple p) (names_b t b fs) in
        let x = there_e e (also (use_refusal t n sort.Simple p) (names_p t s (names_e t l v))) h in
        let y = used_there n sort.Simple p (names_p t s (names_e t l v)) x.1 in
        let z = there_p s (names_e t l v) y.1 in
        let w = there_e l v z.1 in
        let u = used_there n sort.Simple p (names_b t b fs) w.1 in
        let r = there_b b fs u.1 in
        ((y.0, x.0, z.0, w.0, r.0), r.1)

    there_b : (b : Body) (fs : List Refusal) → names_b t b fs ≡ [] → NamesHoldB t b × (fs ≡ [])
    there_b end fs h = (tt, h)
    there_b (then s b) fs h =
        let x = there_s s (names_b t b fs) h in
        let y = there_b b fs x.1 in
        ((x.0, y.0), y.1)

    there_a : (a : Arms) (fs : List Refusal) → names_a t a fs ≡ [] → NamesHoldA t a × (fs ≡ [])
    there_a (last b) fs h = there_b b fs h
    there_a (arm b a) fs h =
        let x = there_b b (names_a t a fs) h in
        let y = there_a a fs x.1 in
        ((x.0, y.0), y.1)

  looked_back : (n : List ℕ) (s : Sort) (p : ℕ) → IsDeclared t n s → use_refusal t n s p ≡ None
  unfolding use_refusal
  looked_back n s p d = rw d.found (untold_sort s d.row.sort p d.sort)

  used_back : (n : List ℕ) (s : Sort) (p : ℕ) (fs : List Refusal) → IsDeclared t n s → also (use_refusal t n s p) fs ≡ fs
  used_back n s p fs d = ap (λ x. also x fs) (looked_back n s p d)

  back_e : (e : Expr) (fs : List Refusal) → NamesHoldE t e → names_e t e fs ≡ fs
  back_e (number v k) fs d = refl
  back_e (load n p) fs d = used_back n sort.Simple p fs d
  back_e (index n p q e) fs d = back_e e _ d.1 ∙ used_back n sort.Array p fs d.0
  back_e (binary o p a b) fs d = back_e a _ d.0 ∙ back_e b fs d.1
  back_e (negate p a) fs d = back_e a fs d
  back_e (lnot p a) fs d = back_e a fs d
  back_e (convert k a) fs d = back_e a fs d
  back_e (field a b p e) fs d = back_e e fs d
  back_e (shift s c p e) fs d = back_e e fs d

  back_l : (c : Clause) (fs : List Refusal) → NamesHoldL t c → names_l t c fs ≡ fs
  back_l (test p e) fs d = back_e e fs d
  back_l (and p e c) fs d = back_e e _ d.0 ∙ back_l c fs d.1

  back_c : (c : Cond) (fs : List Refusal) → NamesHoldC t c → names_c t c fs ≡ fs
  back_c (only c) fs d = back_l c fs d
  back_c (or c e) fs d = back_l c _ d.0 ∙ back_c e fs d.1

  back_p : (s : Step) (fs : List Refusal) → NamesHoldP t s → names_p t s fs ≡ fs
  back_p absent fs d = refl
  back_p (by e) fs d = back_e e fs d

  mutual
    back_s : (s : Stmt) (fs : List Refusal) → NamesHoldS t s → names_s t s fs ≡ fs
    back_s (assign n p q e) fs d = back_e e _ d.1 ∙ used_back n sort.Simple p fs d.0
    back_s (assign_at n p o i q e) fs d = back_e i _ d.1 ∙ used_back n sort.Array p _ d.0 ∙ back_e e _ d.2 ∙ used_back n sort.Array p fs d.0
    back_s (deposit n p a b f q e) fs d = used_back n sort.Simple p _ d.0 ∙ back_e e _ d.1 ∙ used_back n sort.Simple p fs d.0
    back_s (deposit_at n p o i a b f q e) fs d = back_e i _ d.1 ∙ used_back n sort.Array p _ d.0 ∙ back_e e _ d.2 ∙ used_back n sort.Array p fs d.0
    back_s (when c b) fs d = back_c c _ d.0 ∙ back_b b fs d.1
    back_s (either c b e) fs d = back_c c _ d.0 ∙ back_b b _ d.1 ∙ back_b e fs d.2
    back_s (choose p e a) fs d = back_e e _ d.0 ∙ back_a a fs d.1
    back_s (while c b) fs d = back_c c _ d.0 ∙ back_b b fs d.1
    back_s (repeat b c) fs d = back_b b _ d.0 ∙ back_c c fs d.1
    back_s (count n p f e s l b) fs d =
        back_e e _ d.1 ∙ used_back n sort.Simple p _ d.0 ∙ back_p s _ d.2 ∙ back_e l _ d.3 ∙ used_back n sort.Simple p _ d.0 ∙ back_b b fs d.4

    back_b : (b : Body) (fs : List Refusal) → NamesHoldB t b → names_b t b fs ≡ fs
    back_b end fs d = refl
    back_b (then s b) fs d = back_s s _ d.0 ∙ back_b b fs d.1

    back_a : (a : Arms) (fs : List Refusal) → NamesHoldA t a → names_a t a fs ≡ fs
    back_a (last b) fs d = back_b b fs d
    back_a (arm b a) fs d = back_b b _ d.0 ∙ back_a a fs d.1

-- no row has any of these names
abbrev Apart : List Row → List Decl → Type 0
Apart rs [] = Unit {0}
Apart rs (d ∷ ds) = (look rs (declared_name d) ≡ None) × Apart rs ds

apart_none : (ds : List Decl) → Apart [] ds
apart_none [] = tt
apart_none (d ∷ ds) = (refl, apart_none ds)

look_parts : (rs : List Row) (r : Row) (n : List ℕ) → look (rs ++ r ∷ []) n ≡ None → (look rs n ≡ None) × (n ≡ r.name → ⊥)
look_parts [] r n e = (refl, λ q. some_none r (rw (same r.name n (sym q)) at e))
look_parts (x ∷ rs) r n e =
    ⊎_elim
    (λ t. some_none x (rw t at e))
    (λ f. let y = look_parts rs r n (rw f at e) in (rw f y.0, y.1))
    (cases_Bool (bytes_eq x.name n))

apart_parts : (rs : List Row) (r : Row) (ds : List Decl) → Apart (rs ++ r ∷ []) ds → Apart rs ds × IsUnused r.name ds
apart_parts rs r [] a = (tt, tt)
apart_parts rs r (d ∷ ds) a =
    let x = look_parts rs r (declared_name d) a.0 in
    let y = apart_parts rs r ds a.1 in
    ((x.0, y.0), (x.1, y.1))

-- a declaration that is no fault makes the table one row longer
module _ (t : Table) (n : List ℕ) (k : ValueType) (s : Sort) (c p : ℕ) where
  fresh : declaration_refusal t n p ≡ None → (look t.rows n ≡ None) × (length t.rows < 64)
  unfolding declaration_refusal
  fresh h =
      ⊎_elim
      (λ e. some_none (refusal_at 8 p) (rw e at h))
      (λ e. (not_known (look t.rows n) e, ltb-true (length t.rows) 64 (unless_none (ltb (length t.rows) 64) 9 p (rw e at h))))
      (cases_Bool (is_known (look t.rows n)))

  longer : look t.rows n ≡ None → length t.rows < 64 → with_row t n k s c ≡ declare t n k s c
  longer e l = (room t n k s c p (ap is_known e) l).1

  one_more : length (with_row t n k s c).rows ≡ length t.rows + 1
  one_more = simp length-append (omega arith)

  entered_there : (ds : List Decl) (fs : List Refusal) → also (declaration_refusal t n p) (names_d (declare t n k s c) ds fs) ≡ [] → (look t.rows n ≡ None) × (length t.rows < 64) × (names_d (with_row t n k s c) ds fs ≡ [])
  entered_there ds fs h =
      let x = also_none (declaration_refusal t n p) (names_d (declare t n k s c) ds fs) h in
      let y = fresh x.0 in
      (y.0, y.1, ap (λ u. names_d u ds fs) (longer y.0 y.1) ∙ x.1)

  entered_back : (ds : List Decl) (fs : List Refusal) → look t.rows n ≡ None → length t.rows < 64 → names_d (with_row t n k s c) ds fs ≡ fs → also (declaration_refusal t n p) (names_d (declare t n k s c) ds fs) ≡ fs
  entered_back ds fs e l h = rw (← (room t n k s c p (ap is_known e) l).0, ← longer e l) h

there_d : (ds : List Decl) (t : Table) (fs : List Refusal) → length t.rows ≤ 64 → names_d t ds fs ≡ [] → Apart t.rows ds × Once ds × (length t.rows + length ds ≤ 64) × (fs ≡ [])
there_d [] t fs l h = (tt, tt, omega (arith, l), h)
there_d (simple n k p ∷ ds) t fs l h =
    let m = one_more t n k sort.Simple 1 p in
    let x = entered_there t n k sort.Simple 1 p ds fs h in
    let y = there_d ds (with_row t n k sort.Simple 1) fs (omega (arith, m, x.1)) x.2 in
    let z = apart_parts t.rows _ ds y.0 in
    ((x.0, z.0), (z.1, y.1), omega (arith, m, y.2), y.3)
there_d (array n k u h p q ∷ ds) t fs l e =
    let m = one_more t n k sort.Array (h + 1) p in
    let x = entered_there t n k sort.Array (h + 1) p ds fs e in
    let y = there_d ds (with_row t n k sort.Array (h + 1)) fs (omega (arith, m, x.1)) x.2 in
    let z = apart_parts t.rows _ ds y.0 in
    ((x.0, z.0), (z.1, y.1), omega (arith, m, y.2), y.3)

apart_push : (rs : List Row) (r : Row) (ds : List Decl) → Apart rs ds → IsUnused r.name ds → Apart (rs ++ r ∷ []) ds
apart_push rs r [] a u = tt
apart_push rs r (d ∷ ds) a u = (look_push rs r (declared_name d) a.0 (other r.name (declared_name d) (λ e. u.0 (sym e))), apart_push rs r ds a.1 u.1)

back_d : (ds : List Decl) (t : Table) (fs : List Refusal) → Apart t.rows ds → Once ds → length t.rows + length ds ≤ 64 → names_d t ds fs ≡ fs
back_d [] t fs a o l = refl
back_d (simple n k p ∷ ds) t fs a o l =
    let m = one_more t n k sort.Simple 1 p in
    entered_back t n k sort.Simple 1 p ds fs a.0 (omega (arith, l))
    (back_d ds (with_row t n k sort.Simple 1) fs (apart_push t.rows _ ds a.1 o.0) o.1 (omega (arith, m, l)))
back_d (array n k u h p q ∷ ds) t fs a o l =
    let m = one_more t n k sort.Array (h + 1) p in
    entered_back t n k sort.Array (h + 1) p ds fs a.0 (omega (arith, l))
    (back_d ds (with_row t n k sort.Array (h + 1)) fs (apart_push t.rows _ ds a.1 o.0) o.1 (omega (arith, m, l)))

pub named_there : (p : Program) → least (program_names p) ≡ None → NamesHold p
unfolding program_names
named_there p h =
    let e = least_none (program_names p) h in
    let x = there_d p.decls empty (names_b (program_table p) p.body []) (omega arith) e in
    record { once = x.1; few = omega (arith, x.2); body = (there_b (program_table p) p.body [] x.3).0 }

pub named_back : (p : Program) → NamesHold p → least (program_names p) ≡ None
unfolding program_names
named_back p d =
    none_least (program_names p)
    (back_d p.decls empty (names_b (program_table p) p.body []) (apart_none p.decls) d.once (omega (arith, d.few)) ∙ back_b (program_table p) p.body [] d.body)

-- the rows of declarations in order, behind those of the table
laid_d : (ds : List Decl) (t : Table) → Apart t.rows ds → Once ds → length t.rows + length ds ≤ 64 → table_of_decls t ds ≡ record { rows = t.rows ++ rows_from t.cells ds; cells = t.cells + widths ds }
laid_d [] t a o l = table_of t.rows (t.rows ++ []) t.cells (t.cells + 0) (sym (append-nil t.rows)) (omega arith)
laid_d (simple n k p ∷ ds) t a o l =
    let m = one_more t n k sort.Simple 1 p in
    let r : Row = record { name = n; value_type = k; sort = sort.Simple; cell = t.cells; cells = 1 } in
    ap (λ u. table_of_decls u ds) (sym (longer t n k sort.Simple 1 p a.0 (omega (arith, l))))
    ∙ laid_d ds (with_row t n k sort.Simple 1) (apart_push t.rows r ds a.1 o.0) o.1 (omega (arith, m, l))
    ∙ table_of _ _ _ _ (append_assoc t.rows (r ∷ []) (rows_from (t.cells + 1) ds)) (omega arith)
laid_d (array n k u h p q ∷ ds) t a o l =
    let m = one_more t n k sort.Array (h + 1) p in
    let r : Row = record { name = n; value_type = k; sort = sort.Array; cell = t.cells; cells = h + 1 } in
    ap (λ u. table_of_decls u ds) (sym (longer t n k sort.Array (h + 1) p a.0 (omega (arith, l))))
    ∙ laid_d ds (with_row t n k sort.Array (h + 1)) (apart_push t.rows r ds a.1 o.0) o.1 (omega (arith, m, l))
    ∙ table_of _ _ _ _ (append_assoc t.rows (r ∷ []) (rows_from (t.cells + (h + 1)) ds)) (omega arith)

pub laid_program : (p : Program) → NamesHold p → program_table p ≡ layout_of p.decls
unfolding program_table
laid_program p d =
    laid_d p.decls empty (apart_none p.decls) d.once (omega (arith, d.few)) ∙ table_of _ _ _ _ refl (omega arith)
