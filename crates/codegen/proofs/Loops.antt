-- The loops over the items.
use Rattle.std.proofs.Common.{◌≡◌, ℕ, zero, suc, ◌+◌, ◌-◌, ◌<◌, ◌≤◌, List, [], ◌∷◌, ◌++◌, length, get_or, drop, sym, refl, ap, ◌∙◌, append_assoc, arith, length-append}
use Rattle.std.proofs.lemmas.List.{drop_more, drop_all, append-nil}
use Rattle.base.specs.declared.instr.Instr.{Instr}
use Rattle.base.specs.Stacks.{below}
use Rattle.ir.specs.declared.item.Item.{Item}
use Rattle.ir.specs.declared.item.Item.TheVariants as item
use Rattle.ir.specs.Instrs.{BR}
use Rattle.codegen.specs.declared.placed.Placed.{Placed}
use Rattle.codegen.specs.declared.placed.Aim.{Aim}
use Rattle.codegen.specs.Items.{Back, behind, back, emits, aims, top, along, next, starts, placement, placements, ends, table, without, last, code_of_items}
use Rattle.codegen.specs.Passes.{Low}

pub along_sum : (n p : ℕ) → along n p ≡ p + n
along_sum zero p = omega arith
along_sum (suc n) p = omega (arith, along_sum n (suc p))

-- forward
pub further : (n : Item) (p : ℕ) → p ≤ next n p
further (item.Plain i) p = omega arith
further item.Test p = omega arith
further item.Or p = omega arith
further item.If p = omega arith
further item.Then p = omega arith
further item.Else p = omega arith
further item.Fi p = omega arith
further item.While p = omega arith
further item.Loop p = omega arith
further item.Do p = omega arith
further item.Until p = omega arith
further item.Done p = omega arith
further (item.For c) p = omega arith
further (item.Next c) p = omega arith
further (item.Case n) p = omega (arith, along_sum n (suc p))
further item.Arm p = omega arith
further item.Out p = omega arith
further item.Esac p = omega arith

pub ends_further : (ns : List Item) (p : ℕ) → p ≤ ends ns p
ends_further [] p = omega arith
ends_further (n ∷ ns) p = omega (arith, further n p, ends_further ns (next n p))

module _ (ns : List Item) (i : ℕ) (d : Item) (h : i < length ns) where
  pub ends_more : (p : ℕ) → ends (drop i ns) p ≡ ends (drop (i + 1) ns) (next (get_or ns i d) p)
  ends_more p = ap (λ l. ends l p) (drop_more ns i d h)

  pub fits_more : (p : ℕ) → ends (drop i ns) p ≡ ends ns 0 → ends ns 0 < 65536 → next (get_or ns i d) p < 65536
  fits_more p e f = omega (arith, ends_more p, ends_further (drop (i + 1) ns) (next (get_or ns i d) p))

  pub places_more : (o o' r : List Placed) (p : ℕ) (ss : List ℕ) → o' ≡ o ++ placement (get_or ns i d) p ss ∷ [] → o ++ placements (drop i ns) p ss ≡ r → o' ++ placements (drop (i + 1) ns) (next (get_or ns i d) p) (starts (get_or ns i d) p ss) ≡ r
  places_more o o' r p ss f e =
      let n = get_or ns i d in
      ap (λ l. l ++ placements (drop (i + 1) ns) (next n p) (starts n p ss)) f
      ∙ append_assoc o (placement n p ss ∷ []) (placements (drop (i + 1) ns) (next n p) (starts n p ss))
      ∙ ap (λ l. o ++ placements l p ss) (sym (drop_more ns i d h))
      ∙ e

pub places_all : (ns : List Item) (i : ℕ) (o r : List Placed) (p : ℕ) (ss : List ℕ) → length ns ≤ i → o ++ placements (drop i ns) p ss ≡ r → o ≡ r
places_all ns i o r p ss h e = sym (append-nil o) ∙ ap (λ l. o ++ placements l p ss) (sym (drop_all i ns h)) ∙ e

pub places_long : (ns : List Item) (p : ℕ) (ss : List ℕ) → length (placements ns p ss) ≡ length ns
places_long [] p ss = refl
places_long (n ∷ ns) p ss = ap suc (places_long ns (next n p) (starts n p ss))

-- the arms of a CASE
get_or_below : (ts : List Aim) (k : ℕ) (d : Aim) → get_or (below ts) k d ≡ get_or ts (suc k) d
get_or_below [] k d = refl
get_or_below (t ∷ ts) k d = refl

table_last : (k : ℕ) (ts : List Aim) → table (suc k) ts ≡ table k ts ++ BR (get_or ts k (aims 0 0)).no ∷ []
table_last zero ts = refl
table_last (suc k) ts = ap (λ is. BR (top ts).no ∷ is) (table_last k (below ts) ∙ ap (λ (t : Aim). table k (below ts) ++ BR t.no ∷ []) (get_or_below ts k (aims 0 0)))

table_less : (k : ℕ) (ts : List Aim) → 0 < k → table k ts ≡ table (k - 1) ts ++ BR (get_or ts (k - 1) (aims 0 0)).no ∷ []
table_less zero ts h = absurd (omega arith)
table_less (suc k) ts h = let e : k ≡ suc k - 1 = omega arith in table_last k ts ∙ ap (λ j. table j ts ++ BR (get_or ts j (aims 0 0)).no ∷ []) e

pub branch_more : (k : ℕ) (ts : List Aim) (is is' r : List Instr) → 0 < k → is' ≡ BR (get_or ts (k - 1) (aims 0 0)).no ∷ is → table k ts ++ is ≡ r → table (k - 1) ts ++ is' ≡ r
branch_more k ts is is' r h f e =
    let i = BR (get_or ts (k - 1) (aims 0 0)).no in
    ap (λ l. table (k - 1) ts ++ l) f
    ∙ sym (append_assoc (table (k - 1) ts) (i ∷ []) is)
    ∙ ap (λ l. l ++ is) (sym (table_less k ts h))
    ∙ e

pub without_more : (k : ℕ) (ts : List Aim) → without (suc k) ts ≡ below (without k ts)
without_more zero ts = refl
without_more (suc k) ts = without_more k (below ts)

below_short : (ts : List Aim) → length (below ts) ≤ length ts
below_short [] = omega arith
below_short (t ∷ ts) = omega arith

pub without_short : (k : ℕ) (ts : List Aim) → length (below (without k ts)) ≤ length ts
without_short zero ts = below_short ts
without_short (suc k) ts = omega (arith, without_short k (below ts), below_short ts)

-- backward
back_last : (xs : List Placed) (x : Placed) (z : Back) → back (xs ++ x ∷ []) z ≡ back xs (behind x z)
back_last [] x z = refl
back_last (y ∷ xs) x z = ap (behind y) (back_last xs x z)

pub back_more : (xs ys : List Placed) (x : Placed) (z z' r : Back) → ys ≡ xs ++ x ∷ [] → z' ≡ behind x z → back ys z ≡ r → back xs z' ≡ r
back_more xs ys x z z' r e a h = ap (back xs) a ∙ sym (back_last xs x z) ∙ ap (λ l. back l z) (sym e) ∙ h

pub back_code : (ns : List Item) (xs : List Placed) → xs ≡ placements ns 0 [] → (back xs last).code ≡ code_of_items ns
unfolding code_of_items
back_code ns xs e = ap (λ (z : Back). z.code) (ap (λ l. back l last) e)

-- rooms
pub low_places : (ns : List Item) (p : ℕ) (ss : List ℕ) → ends ns p < 65535 → Low (placements ns p ss)
low_places [] p ss h = tt
low_places (n ∷ ns) p ss h = (omega (arith, further n p, ends_further ns (next n p)), low_places ns (next n p) (starts n p ss) h)

pub low_last : (xs : List Placed) (x : Placed) → Low (xs ++ x ∷ []) → Low xs × (x.index < 65535)
low_last [] x h = (tt, h.0)
low_last (y ∷ xs) x h = let r = low_last xs x h.1 in ((h.0, r.0), r.1)

pub longer : (xs : List Placed) (z : Back) → length z.code ≤ length (back xs z).code
longer [] z = omega arith
longer (x ∷ xs) z =
    let y = back xs z in
    omega (arith, longer xs z, length-append (emits x.item x.index x.after x.start y.todo) y.code)

-- what is emitted of an item is no longer than the whole
pub back_room : (xs ys : List Placed) (x : Placed) (z r : Back) → ys ≡ xs ++ x ∷ [] → back ys z ≡ r → length (emits x.item x.index x.after x.start z.todo) + length z.code ≤ length r.code
back_room xs ys x z r e h =
    let k = ap (λ (w : Back). length w.code) (sym (back_last xs x z) ∙ ap (λ l. back l z) (sym e) ∙ h) in
    omega (arith, k, longer xs (behind x z), length-append (emits x.item x.index x.after x.start z.todo) z.code)
