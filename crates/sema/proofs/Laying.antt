-- The table of names lies in its cells without gaps, and each name stands once. Assumes nothing.
use Rattle.std.proofs.Common.{◌≡◌, ℕ, zero, suc, ◌+◌, ◌<◌, ◌≤◌, Bool, true, false, ltb, List, [], ◌∷◌, ◌++◌, length, get_or, Some, None, Option, sym, refl, ap, ◌∙◌, ⊎_elim, arith, length-append}
use Rattle.std.proofs.lemmas.Bool.{cases_Bool, ltb-true}
use Rattle.std.specs.Str.{bytes_eq}
use Rattle.parser.specs.declared.value_type.ValueType.{ValueType}
use Rattle.parser.specs.Nodes.{Node}
use Rattle.parser.specs.Nodes as node
use Rattle.sema.specs.declared.entry.Sort.{Sort}
use Rattle.sema.specs.Tables.{Row, Table, look, nothing, is_known, with_row, declare, empty}
use Rattle.sema.specs.Names.{DeclaredName, decl_of, entered_by, table_after, table_from}
use Rattle.sema.specs.Layout.{HasItsSize, IsLaidOut}
use Rattle.lexer.proofs.Lookups.{same, other}

-- one after the other from s to n
abbrev pub Laid : ℕ → List Row → ℕ → Type 0
Laid s [] n = s ≡ n
Laid s (r ∷ rs) n = (r.cell ≡ s) × Laid (s + r.cells) rs n

abbrev pub Once : List Row → Type 0
Once [] = Unit {0}
Once (r ∷ rs) = (look rs r.name ≡ None) × Once rs

abbrev pub Each : (Row → Type 0) → List Row → Type 0
Each P [] = Unit {0}
Each P (r ∷ rs) = P r × Each P rs

pub record Good (t : Table) : Type 0 where
  pub few : length t.rows ≤ 64
  pub laid : Laid 0 t.rows t.cells
  pub once : Once t.rows
  pub sized : Each (λ r. HasItsSize r.sort r.cells) t.rows

pub some_none : {A B : Type 0} (x : A) → Some x ≡ None → B
some_none x e = let z : ◌≡◌ {A = ℕ} 0 1 = cc in absurd (omega arith)

pub each_push : (P : Row → Type 0) (rs : List Row) (r : Row) → Each P rs → P r → Each P (rs ++ r ∷ [])
each_push P [] r h p = (p, tt)
each_push P (x ∷ rs) r h p = (h.0, each_push P rs r h.1 p)

laid_push : (s : ℕ) (rs : List Row) (n : ℕ) (r : Row) → Laid s rs n → r.cell ≡ n → Laid s (rs ++ r ∷ []) (n + r.cells)
laid_push s [] n r h e = (e ∙ sym h, ap (λ k. k + r.cells) h)
laid_push s (x ∷ rs) n r h e = (h.0, laid_push (s + x.cells) rs n r h.1 e)

-- a name that none of the rows has
not_first : (x r : Row) (rs : List Row) → look (x ∷ rs) r.name ≡ None → (bytes_eq x.name r.name ≡ false) × (look rs r.name ≡ None)
not_first x r rs e =
    ⊎_elim (λ t. some_none x (rw t at e)) (λ f. (f, rw f at e)) (cases_Bool (bytes_eq x.name r.name))

turned : (a b : List ℕ) → bytes_eq a b ≡ false → bytes_eq b a ≡ false
turned a b f = other b a (λ e. let z : ◌≡◌ {A = Bool} true false = sym (same a b (sym e)) ∙ f in absurd (let y : ◌≡◌ {A = ℕ} 0 1 = cc in omega arith))

pub look_push : (rs : List Row) (r : Row) (n : List ℕ) → look rs n ≡ None → bytes_eq r.name n ≡ false → look (rs ++ r ∷ []) n ≡ None
look_push [] r n e f = rw f
look_push (x ∷ rs) r n e f =
    ⊎_elim (λ t. some_none x (rw t at e)) (λ g. rw g (look_push rs r n (rw g at e) f)) (cases_Bool (bytes_eq x.name n))

once_push : (rs : List Row) (r : Row) → Once rs → look rs r.name ≡ None → Once (rs ++ r ∷ [])
once_push [] r h e = (refl, tt)
once_push (x ∷ rs) r h e =
    let p = not_first x r rs e in
    (look_push rs r x.name h.0 (turned x.name r.name p.0), once_push rs r h.1 p.1)

pub good_extended : (t : Table) (n : List ℕ) (k : ValueType) (s : Sort) (c : ℕ) → Good t → look t.rows n ≡ None → length t.rows < 64 → HasItsSize s c → Good (with_row t n k s c)
good_extended t n k s c g e l z =
    let r : Row = record { name = n; value_type = k; sort = s; cell = t.cells; cells = c } in
    record {
      few = simp length-append (omega arith);
      laid = laid_push 0 t.rows t.cells r g.laid refl;
      once = once_push t.rows r g.once e;
      sized = each_push (λ r. HasItsSize r.sort r.cells) t.rows r g.sized z;
    }

pub not_known : (o : Option Row) → is_known o ≡ false → o ≡ None
not_known None e = refl
not_known (Some r) e = absurd (let z : ◌≡◌ {A = ℕ} 0 1 = cc in omega arith)

-- what holds of a table still holds after a declaration: it stays, or is one name longer
pub declared_keeps : (P : Table → Type 0) (t : Table) (n : List ℕ) (k : ValueType) (s : Sort) (c : ℕ) → P t → (look t.rows n ≡ None → length t.rows < 64 → P (with_row t n k s c)) → P (declare t n k s c)
unfolding declare
declared_keeps P t n k s c p f =
    ⊎_elim (λ e. rw e p)
    (λ e.
    rw e
    (⊎_elim (λ l. rw l (f (not_known (look t.rows n) e) (ltb-true (length t.rows) 64 l))) (λ l. rw l p) (cases_Bool (ltb (length t.rows) 64))))
    (cases_Bool (is_known (look t.rows n)))

abbrev DeclSized : Option DeclaredName → Type 0
DeclSized None = Unit {0}
DeclSized (Some d) = HasItsSize d.sort d.cells

decl_sized : (e : Node) → DeclSized (decl_of e)
decl_sized (node.Simple n k p) = refl
decl_sized (node.Array n k l h p q) = omega arith
decl_sized (node.Number v k) = tt
decl_sized (node.Load n p) = tt
decl_sized (node.Index n p q) = tt
decl_sized (node.Binary o p) = tt
decl_sized (node.Negate p) = tt
decl_sized (node.Lnot p) = tt
decl_sized (node.Convert k) = tt
decl_sized (node.Field a b p) = tt
decl_sized (node.Shift h c p) = tt
decl_sized (node.Store n p q) = tt
decl_sized (node.Checked n p q) = tt
decl_sized (node.StoreAt n p q) = tt
decl_sized (node.Fetch n p) = tt
decl_sized (node.FetchAt n p q) = tt
decl_sized (node.Deposit a b p) = tt
decl_sized (node.Test p) = tt
decl_sized node.Or = tt
decl_sized node.If = tt
decl_sized node.Then = tt
decl_sized node.Else = tt
decl_sized node.Fi = tt
decl_sized node.While = tt
decl_sized node.Loop = tt
decl_sized node.Do = tt
decl_sized node.Until = tt
decl_sized node.Done = tt
decl_sized (node.First n p f) = tt
decl_sized (node.Step f) = tt
decl_sized node.One = tt
decl_sized (node.For n p f) = tt
decl_sized (node.Next n) = tt
decl_sized node.Drop = tt
decl_sized (node.Case p) = tt
decl_sized node.Arm = tt
decl_sized node.Out = tt
decl_sized node.Esac = tt

good_by : (t : Table) (o : Option DeclaredName) → DeclSized o → Good t → Good (entered_by t o)
good_by t None z g = g
good_by t (Some d) z g = declared_keeps Good t d.name d.value_type d.sort d.cells g (λ e l. good_extended t d.name d.value_type d.sort d.cells g e l z)

pub good_from : (es : List Node) (t : Table) → Good t → Good (table_from t es)
good_from [] t g = g
good_from (e ∷ es) t g = good_from es (table_after t e) (good_by t (decl_of e) (decl_sized e) g)

pub good : (es : List Node) → Good (table_from empty es)
good es = good_from es empty record { few = omega arith; laid = refl; once = tt; sized = tt }

-- the same by places
module _ where
  laid_up : (s : ℕ) (rs : List Row) (n : ℕ) → Laid s rs n → s ≤ n
  laid_up s [] n h = omega arith
  laid_up s (r ∷ rs) n h = omega (arith, laid_up (s + r.cells) rs n h.1)

  laid_at : (s : ℕ) (rs : List Row) (n : ℕ) (i : ℕ) → Laid s rs n → i < length rs → (s ≤ (get_or rs i nothing).cell) × ((get_or rs i nothing).cell + (get_or rs i nothing).cells ≤ n)
  laid_at s [] n i h l = absurd (omega arith)
  laid_at s (r ∷ rs) n zero h l = (omega (arith, h.0), omega (arith, h.0, laid_up (s + r.cells) rs n h.1))
  laid_at s (r ∷ rs) n (suc i) h l =
      let p = laid_at (s + r.cells) rs n i h.1 (omega arith) in
      (omega (arith, p.0), p.1)

  laid_apart : (s : ℕ) (rs : List Row) (n : ℕ) (i j : ℕ) → Laid s rs n → i < j → j < length rs → (get_or rs i nothing).cell + (get_or rs i nothing).cells ≤ (get_or rs j nothing).cell
  laid_apart s [] n i j h k l = absurd (omega arith)
  laid_apart s (r ∷ rs) n i zero h k l = absurd (omega arith)
  laid_apart s (r ∷ rs) n zero (suc j) h k l = omega (arith, h.0, (laid_at (s + r.cells) rs n j h.1 (omega arith)).0)
  laid_apart s (r ∷ rs) n (suc i) (suc j) h k l = laid_apart (s + r.cells) rs n i j h.1 (omega arith) (omega arith)

  found_at : (rs : List Row) (n : List ℕ) (j : ℕ) → j < length rs → n ≡ (get_or rs j nothing).name → look rs n ≡ None → ⊥
  found_at [] n j l e f = absurd (omega arith)
  found_at (r ∷ rs) n zero l e f = some_none r (rw (same r.name n (sym e)) at f)
  found_at (r ∷ rs) n (suc j) l e f =
      ⊎_elim (λ t. some_none r (rw t at f)) (λ g. found_at rs n j (omega arith) e (rw g at f)) (cases_Bool (bytes_eq r.name n))

  once_at : (rs : List Row) (i j : ℕ) → Once rs → i < j → j < length rs → (get_or rs i nothing).name ≡ (get_or rs j nothing).name → ⊥
  once_at [] i j h k l e = absurd (omega arith)
  once_at (r ∷ rs) i zero h k l e = absurd (omega arith)
  once_at (r ∷ rs) zero (suc j) h k l e = found_at rs r.name j (omega arith) e h.0
  once_at (r ∷ rs) (suc i) (suc j) h k l e = once_at rs i j h.1 (omega arith) (omega arith) e

  each_at : (P : Row → Type 0) (rs : List Row) (i : ℕ) → Each P rs → i < length rs → P (get_or rs i nothing)
  each_at P [] i h l = absurd (omega arith)
  each_at P (r ∷ rs) zero h l = h.0
  each_at P (r ∷ rs) (suc i) h l = each_at P rs i h.1 (omega arith)

pub laid_out : (t : Table) → Good t → IsLaidOut t
laid_out t g =
    record {
      few = g.few;
      distinct = λ i j k l e. once_at t.rows i j g.once k l e;
      apart = λ i j k l. laid_apart 0 t.rows t.cells i j g.laid k l;
      below = λ i l. (laid_at 0 t.rows t.cells i g.laid l).1;
      sized = λ i l. each_at (λ r. HasItsSize r.sort r.cells) t.rows i g.sized l;
    }
