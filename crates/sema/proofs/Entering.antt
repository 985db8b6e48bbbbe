-- A name more in the table. Assumes nothing.
use Rattle.std.proofs.Common.{◌≡◌, ℕ, ◌<◌, ◌≤◌, arith, Bool, true, false, eqb, List, [], ◌∷◌, ◌++◌, map, length, get_or, take, set, Some, None, Ok, Err, Option, sym, refl, ap, ◌∙◌, ⊎_elim}
use Rattle.std.proofs.lemmas.List.{drop_all, take_all, append-nil, length-set}
use Rattle.std.proofs.lemmas.Bool.{lt-ltb, le-ltb, eq-eqb, cases_lt}
use Rattle.base.specs.Refusals.{refusal_at}
use Rattle.parser.specs.declared.value_type.ValueType.{ValueType}
use Rattle.sema.specs.declared.entry.Sort.{Sort}
use Rattle.sema.specs.declared.entry.Sort.TheVariants as sort
use Rattle.sema.specs.contracts.entry.Sort.{the_type}
use denote.Enum.Bare.{sameb}
use Rattle.sema.specs.declared.entry.NameEntry.{NameEntry}
use Rattle.std.specs.List.{refill}
use Rattle.std.specs.Option.{UnwrapsOrElse, option_map, is_some, ok_or}
use Rattle.sema.specs.declared.fault.CheckFault.{CheckFault}
use Rattle.sema.specs.Faults.{unless, refusal_of}
use Rattle.sema.specs.Tables.{Row, Table, look, nothing, row_or_none, is_known, with_row, declare}
use Rattle.sema.specs.Names.{declaration_refusal, use_refusal, is_sort}
use Rattle.sema.specs.Entered.{row_as, with_bound}

-- the entry x is put at the end, and completed to e in its place
entered_rows : (xs : List NameEntry) (x e d : NameEntry) (high : Option ℕ) → row_as e ≡ with_bound (row_as (get_or (xs ++ x ∷ []) (length xs) d)) high → map row_as (set (xs ++ x ∷ []) (length xs) e) ≡ map row_as xs ++ with_bound (row_as x) high ∷ []
entered_rows [] x e d high q = ap (λ r. r ∷ []) q
entered_rows (y ∷ xs) x e d high q = ap (λ r. row_as y ∷ r) (entered_rows xs x e d high q)

refill_same : {X : Type 0} (n : ℕ) (xs ws : List X) → length ws ≡ n → length xs ≡ n → refill n xs ws ≡ ws
refill_same n xs ws e f =
    let k : length xs ≤ length ws = omega arith in
    ap (λ l. take n (ws ++ l)) (drop_all (length ws) xs k) ∙ ap (take n) (append-nil ws) ∙ take_all n ws (omega arith)

pub entered : (xs ys zs : List NameEntry) (i : ℕ) (x e d : NameEntry) (high : Option ℕ) → i ≡ length xs → ys ≡ xs ++ x ∷ [] → zs ≡ ys → row_as e ≡ with_bound (row_as (get_or zs i d)) high → map row_as (refill (length ys) ys (set zs i e)) ≡ map row_as xs ++ with_bound (row_as x) high ∷ []
entered xs ys zs i x e d high ei ey ez q =
    let o = ap (λ l. get_or l i d) (ez ∙ ey) ∙ ap (λ k. get_or (xs ++ x ∷ []) k d) ei in
    let p = ap (λ l. set l i e) (ez ∙ ey) ∙ ap (λ k. set (xs ++ x ∷ []) k e) ei in
    ap (map row_as) (refill_same (length ys) ys (set zs i e) (length-set zs i e ∙ ap length ez) refl ∙ p)
    ∙ entered_rows xs x e d high (q ∙ ap (λ v. with_bound (row_as v) high) o)

pub table_of : (rows rows' : List Row) (n n' : ℕ) → rows ≡ rows' → n ≡ n' → ◌≡◌ {A = Table} record { rows = rows; cells = n } record { rows = rows'; cells = n' }
table_of rows rows' n n' e f = rw (e, f)

-- what becomes of a declaration: the name is known, the table is full, or there is room
module _ (t : Table) (n : List ℕ) (k : ValueType) (s : Sort) (c p : ℕ) where
  pub known : is_known (look t.rows n) ≡ true → (Some (refusal_at 8 p) ≡ declaration_refusal t n p) × (t ≡ declare t n k s c)
  unfolding declaration_refusal declare
  known e = (rw e, rw e)

  pub full : is_known (look t.rows n) ≡ false → 64 ≤ length t.rows → (Some (refusal_at 9 p) ≡ declaration_refusal t n p) × (t ≡ declare t n k s c)
  unfolding declaration_refusal declare
  full e l = (rw (e, le-ltb (length t.rows) 64 l), rw (e, le-ltb (length t.rows) 64 l))

  pub room : is_known (look t.rows n) ≡ false → length t.rows < 64 → (None ≡ declaration_refusal t n p) × (with_row t n k s c ≡ declare t n k s c)
  unfolding declaration_refusal declare
  room e l = (rw (e, lt-ltb (length t.rows) 64 l), rw (e, lt-ltb (length t.rows) 64 l))

pub not_full : (n : ℕ) → n ≤ 64 → eqb n 64 ≡ false → n < 64
not_full n h e = ⊎_elim (λ l. l) (λ l. let f : n ≡ 64 = omega arith in let g : ◌≡◌ {A = Bool} true false = sym (eq-eqb n 64 f) ∙ e in absurd (let z : ◌≡◌ {A = ℕ} 0 1 = cc in omega arith)) (cases_lt n 64)

-- what is found by a search, told as a row
pub known_some : (o : Option NameEntry) (x : Option Row) → option_map row_as o ≡ x → is_known x ≡ is_some o
known_some None x e = ap is_known (sym e)
known_some (Some r) x e = ap is_known (sym e)

pub row_found : (o : Option NameEntry) (d : NameEntry) (x : Option Row) → UnwrapsOrElse o (λ e. row_as e ≡ nothing) d → option_map row_as o ≡ x → row_as d ≡ row_or_none x
row_found None d x z e = z ∙ ap row_or_none e
row_found (Some r) d x z e = ap row_as z ∙ ap row_or_none e

pub same_sort : (a b : Sort) → sameb the_type a b ≡ is_sort b a
same_sort sort.Simple sort.Simple = refl
same_sort sort.Simple sort.Array = refl
same_sort sort.Array sort.Simple = refl
same_sort sort.Array sort.Array = refl

-- what becomes of a use: the name is unknown, or its entry is judged
module _ (t : Table) (n : List ℕ) (s : Sort) (p : ℕ) where
  pub unknown : (o : Option NameEntry) (u v : CheckFault) → option_map row_as o ≡ look t.rows n → refusal_of u ≡ refusal_at 7 p → ok_or o u ≡ Err v → Some (refusal_of v) ≡ use_refusal t n s p
  unfolding use_refusal
  unknown None u v i h e = let f : u ≡ v = cc in rw (← i) (ap (λ w. Some (refusal_of w)) (sym f) ∙ ap Some h)
  unknown (Some r) u v i h e = absurd (let z : ◌≡◌ {A = ℕ} 0 1 = cc in omega arith)

  pub judged : (o : Option NameEntry) (u : CheckFault) (r : NameEntry) → option_map row_as o ≡ look t.rows n → ok_or o u ≡ Ok r → unless (is_sort s r.sort) 10 p ≡ use_refusal t n s p
  unfolding use_refusal
  judged None u r i e = absurd (let z : ◌≡◌ {A = ℕ} 0 1 = cc in omega arith)
  judged (Some q) u r i e = let f : q ≡ r = cc in rw (← i, f)
