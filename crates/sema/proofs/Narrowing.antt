-- In a list without faults of sizes the cells of all names lie below 4,096. Assumes nothing.
use Rattle.std.proofs.Common.{◌≡◌, ℕ, ◌+◌, ◌≤◌, Bool, true, false, cond, leb, ◌⊎◌, List, [], ◌∷◌, Some, None, Option, sym, refl, ap, ◌∙◌, subst, inl, inr, ⊎_elim, arith}
use Rattle.std.proofs.lemmas.Slice.Eq.{bytes_eq-Decides}
use Rattle.std.proofs.lemmas.Bool.{cases_Bool, leb-true}
use Rattle.std.specs.Str.{bytes_eq}
use Rattle.base.specs.declared.refusal.Refusal.{Refusal}
use Rattle.base.specs.Refusals.{refusal_at}
use Rattle.parser.specs.Nodes.{Node}
use Rattle.sema.specs.Faults.{before, also, unless, least_from, least}
use Rattle.sema.specs.Tables.{Row, Table, look, row_of, empty}
use Rattle.sema.specs.Names.{DeclaredName, decl_of, entered_by, table_after, table_from}
use Rattle.sema.specs.Sizes.{cells_at, cells_fault, range_fault, size_faults}
use Rattle.sema.specs.Emissions.{Narrow}
use Rattle.lexer.proofs.Lookups.{same}
use Rattle.sema.proofs.Laying.{Laid, Once, Each, some_none, each_push, declared_keeps, good}

-- no fault decides only where there is none
some_least : (fs : List Refusal) (f : Refusal) → least_from (Some f) fs ≡ None → ⊥
some_least [] f e = some_none f e
some_least (g ∷ gs) f e = some_least gs (cond (before g f) g f) e

pub least_none : (fs : List Refusal) → least fs ≡ None → fs ≡ []
least_none [] e = refl
least_none (f ∷ fs) e = absurd (some_least fs f e)

cons_nil : {A : Type 0} {B : Type 0} (x : A) (xs : List A) → x ∷ xs ≡ [] → B
cons_nil x xs e = absurd (let z : ◌≡◌ {A = ℕ} 0 1 = cc in omega arith)

pub also_none : (x : Option Refusal) (fs : List Refusal) → also x fs ≡ [] → (x ≡ None) × (fs ≡ [])
also_none None fs e = (refl, e)
also_none (Some f) fs e = cons_nil f fs e

pub unless_none : (b : Bool) (n p : ℕ) → unless b n p ≡ None → b ≡ true
unless_none true n p e = refl
unless_none false n p e = some_none (refusal_at n p) e

each_map : (P Q : Row → Type 0) (rs : List Row) → ((r : Row) → P r → Q r) → Each P rs → Each Q rs
each_map P Q [] f h = tt
each_map P Q (r ∷ rs) f h = (f r h.0, each_map P Q rs f h.1)

each_both : (P Q R : Row → Type 0) (rs : List Row) → ((r : Row) → P r → Q r → R r) → Each P rs → Each Q rs → Each R rs
each_both P Q R [] f h k = tt
each_both P Q R (r ∷ rs) f h k = (f r h.0 k.0, each_both P Q R rs f h.1 k.1)

-- the row of a name that was declared once is its own
own_rows : (rs : List Row) → Once rs → Each (λ r. look rs r.name ≡ Some r) rs
own_rows [] h = tt
own_rows (x ∷ rs) h = (
  rw (same x.name x.name refl),
  each_map (λ r. look rs r.name ≡ Some r) (λ r. look (x ∷ rs) r.name ≡ Some r) rs
      (λ r e.
      ⊎_elim
      (λ t. some_none r (sym e ∙ ap (look rs) (sym ((bytes_eq-Decides x.name r.name).0 t)) ∙ h.0))
      (λ f. rw f e)
      (cases_Bool (bytes_eq x.name r.name)))
      (own_rows rs h.1),
)

abbrev low : Table → List ℕ → Type 0
low T n = (row_of T n).cell + (row_of T n).cells ≤ 4096

cells_low : (T : Table) (n : List ℕ) (p : ℕ) → cells_at T n p ≡ None → low T n
unfolding cells_at
cells_low T n p e = leb-true _ 4096 (unless_none (leb ((row_of T n).cell + (row_of T n).cells) 4096) 13 p e)

module _ (T : Table) where
  low_by : (t : Table) (o : Option DeclaredName) → cells_fault T o ≡ None → Each (λ r. low T r.name) t.rows → Each (λ r. low T r.name) (entered_by t o).rows
  low_by t None e h = h
  low_by t (Some d) e h =
      declared_keeps (λ u. Each (λ r. low T r.name) u.rows) t d.name d.value_type d.sort d.cells h
      (λ _ _. each_push (λ r. low T r.name) t.rows _ h (cells_low T d.name d.offset e))

  low_from : (es : List Node) (t : Table) → size_faults T es ≡ [] → Each (λ r. low T r.name) t.rows → Each (λ r. low T r.name) (table_from t es).rows
  low_from [] t e h = h
  low_from (x ∷ es) t e h =
      let p = also_none (cells_fault T (decl_of x)) (also (range_fault x) (size_faults T es)) e in
      let q = also_none (range_fault x) (size_faults T es) p.1 in
      low_from es (table_after t x) q.1 (low_by t (decl_of x) p.0 h)

look_each : (P : List ℕ → Type 0) (rs : List Row) (n : List ℕ) → Each (λ r. P r.name) rs → (look rs n ≡ None) ⊎ P n
look_each P [] n h = inl refl
look_each P (r ∷ rs) n h =
    ⊎_elim (λ t. inr (subst P ((bytes_eq-Decides r.name n).0 t) h.0)) (λ f. rw f (look_each P rs n h.1)) (cases_Bool (bytes_eq r.name n))

missing_low : (T : Table) (n : List ℕ) → look T.rows n ≡ None → low T n
unfolding row_of
missing_low T n e = rw e (omega arith)

own_low : (T : Table) (r : Row) → low T r.name → look T.rows r.name ≡ Some r → r.cell + r.cells ≤ 4096
unfolding row_of
own_low T r h e = rw e at h

laid_low : (s : ℕ) (rs : List Row) (n : ℕ) → Laid s rs n → s ≤ 4096 → Each (λ r. r.cell + r.cells ≤ 4096) rs → n ≤ 4096
laid_low s [] n h l e = omega arith
laid_low s (r ∷ rs) n h l e = laid_low (s + r.cells) rs n h.1 (omega (arith, h.0, e.0)) e.1

pub narrow_list : (es : List Node) → size_faults (table_from empty es) es ≡ [] → Narrow (table_from empty es)
narrow_list es e =
    let T = table_from empty es in
    let h = low_from T es empty e tt in
    record { narrow = λ n. ⊎_elim (λ m. missing_low T n m) (λ l. l) (look_each (low T) T.rows n h) }

pub total_list : (es : List Node) → size_faults (table_from empty es) es ≡ [] → (table_from empty es).cells ≤ 4096
total_list es e =
    let T = table_from empty es in
    let g = good es in
    laid_low 0 T.rows T.cells g.laid (omega arith)
    (each_both (λ r. low T r.name) (λ r. look T.rows r.name ≡ Some r) (λ r. r.cell + r.cells ≤ 4096) T.rows (λ r h k. own_low T r h k) (low_from T es empty e tt) (own_rows T.rows g.once))
