-- A search by name, and what it finds. Assumes nothing.
use Rattle.std.proofs.Common.{◌≡◌, ℕ, List, map, get_or, Some, None, refl, ap, ◌∙◌}
use Rattle.lexer.specs.Names.{name_of, First}
use Rattle.lexer.proofs.Lookups.{named_some, named_none}
use Rattle.sema.specs.declared.entry.NameEntry.{NameEntry}
use Rattle.sema.specs.Tables.{Row, look}
use Rattle.sema.specs.Entered.{row_as}

abbrev pub spelled : NameEntry → List ℕ
spelled e = name_of e.name

look_some : (es : List NameEntry) (w : List ℕ) (i : ℕ) (d : NameEntry) → First (map spelled es) w (Some i) → Some (row_as (get_or es i d)) ≡ look (map row_as es) w
look_some es w i d h = named_some spelled row_as (λ (r : Row). r.name) (λ e. refl) es w i d h

look_none : (es : List NameEntry) (w : List ℕ) → First (map spelled es) w None → None ≡ look (map row_as es) w
look_none es w h = named_none spelled row_as (λ (r : Row). r.name) (λ e. refl) es w h

-- of the entries that were searched, for the name that was sought
module _ (es : List NameEntry) {fs : List NameEntry} {v w : List ℕ} (same_entries : fs ≡ es) (same_name : v ≡ w) where
  pub get_some : (i : ℕ) (e : NameEntry) → e ≡ get_or fs i e → First (map spelled fs) v (Some i) → Some (row_as e) ≡ look (map row_as es) w
  get_some i e m h = ap (λ (x : NameEntry). Some (row_as x)) m ∙ rw (← same_entries, ← same_name) (look_some fs v i e h)

  pub get_none : First (map spelled fs) v None → None ≡ look (map row_as es) w
  get_none h = rw (← same_entries, ← same_name) (look_none fs v h)
