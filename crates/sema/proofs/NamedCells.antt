-- The cells of a declared name are cells of the table. Assumes nothing.
use Rattle.std.proofs.Common.{◌≡◌, ℕ, ◌+◌, ◌<◌, ◌≤◌, List, [], ◌∷◌, Some, sym, ap, subst, ⊎_elim, arith}
use Rattle.std.proofs.lemmas.Bool.{cases_Bool}
use Rattle.std.specs.Str.{bytes_eq}
use Rattle.ast.specs.Trees.{Program}
use Rattle.ast.specs.Lists.{list}
use Rattle.sema.specs.declared.entry.Sort.{Sort}
use Rattle.sema.specs.declared.entry.Sort.TheVariants as sort
use Rattle.sema.specs.Tables.{Row, Table, look, row_or_none, row_of}
use Rattle.sema.specs.Names.{program_table}
use Rattle.sema.specs.Layout.{HasItsSize}
use Rattle.sema.specs.Rules.{IsDeclared}
use Rattle.sema.proofs.Laying.{Laid, Each, Good, some_none, good}
use Rattle.sema.proofs.OnNames.{table_program}

pub laid_each : (s : ℕ) (rs : List Row) (n : ℕ) → Laid s rs n → (s ≤ n) × Each (λ r. r.cell + r.cells ≤ n) rs
laid_each s [] n h = (omega (arith, h), tt)
laid_each s (r ∷ rs) n h =
    let x = laid_each (s + r.cells) rs n h.1 in
    (omega (arith, x.0), (omega (arith, h.0, x.0), x.1))

-- what holds of each row holds of the one that is found
pub each_found : (P : Row → Type 0) (rs : List Row) (n : List ℕ) (r : Row) → Each P rs → look rs n ≡ Some r → P r
each_found P [] n r h e = some_none r (sym e)
each_found P (x ∷ rs) n r h e =
    ⊎_elim
    (λ t. let f : x ≡ r = (let g : ◌≡◌ {A = _} (Some x) (Some r) = rw t at e in cc) in subst P f h.0)
    (λ t. each_found P rs n r h.1 (rw t at e))
    (cases_Bool (bytes_eq x.name n))

pub table_good : (p : Program) → Good (program_table p)
table_good p = subst Good (table_program p) (good (list p))

module _ (t : Table) (g : Good t) (n : List ℕ) where
  row_is : (r : Row) → look t.rows n ≡ Some r → row_of t n ≡ r
  unfolding row_of
  row_is r e = ap row_or_none e

  inside : (r : Row) → look t.rows n ≡ Some r → r.cell + r.cells ≤ t.cells
  inside r e = each_found (λ r. r.cell + r.cells ≤ t.cells) t.rows n r (laid_each 0 t.rows t.cells g.laid).1 e

  sized : (s : Sort) (r : Row) → look t.rows n ≡ Some r → r.sort ≡ s → HasItsSize s r.cells
  sized s r e f = subst (λ v. HasItsSize v r.cells) f (each_found (λ r. HasItsSize r.sort r.cells) t.rows n r g.sized e)

  -- a simple name's cell is one of the table's
  pub simple_cell : IsDeclared t n sort.Simple → (row_of t n).cell < t.cells
  simple_cell d =
      let z = sized sort.Simple d.row d.found d.sort in
      rw (row_is d.row d.found) (omega (arith, z, inside d.row d.found))

  -- all of an array's are, and it has one at least
  pub array_cells : IsDeclared t n sort.Array → ((row_of t n).cell + (row_of t n).cells ≤ t.cells) × (1 ≤ (row_of t n).cells)
  array_cells d = rw (row_is d.row d.found) (inside d.row d.found, sized sort.Array d.row d.found d.sort)

-- of a program's own table
pub simple_inside : (p : Program) (n : List ℕ) → IsDeclared (program_table p) n sort.Simple → (row_of (program_table p) n).cell < (program_table p).cells
simple_inside p n d = simple_cell (program_table p) (table_good p) n d

pub array_inside : (p : Program) (n : List ℕ) → IsDeclared (program_table p) n sort.Array → ((row_of (program_table p) n).cell + (row_of (program_table p) n).cells ≤ (program_table p).cells) × (1 ≤ (row_of (program_table p) n).cells)
array_inside p n d = array_cells (program_table p) (table_good p) n d
