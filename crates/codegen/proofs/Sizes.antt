-- The length and the depth of what is emitted.
use Rattle.std.proofs.Common.{◌≡◌, ℕ, zero, suc, ◌+◌, ◌-◌, ◌<◌, ◌≤◌, max, List, [], ◌∷◌, ◌++◌, length, get_or, drop, None, sym, refl, ap, ◌∙◌, arith, length-append}
use Rattle.std.proofs.lemmas.List.{drop_more, drop_all}
use Rattle.base.specs.declared.instr.Instr.{Instr}
use Rattle.base.specs.Stacks.{below}
use Rattle.ir.specs.declared.item.Item.{Item}
use Rattle.ir.specs.declared.item.Item.TheVariants as item
use Rattle.ir.specs.Instrs.{HALT, peak}
use Rattle.base.specs.Heights.{up, down, height}
use Rattle.ir.specs.Trees.{Body}
use Rattle.ir.specs.Lists.{items}
use Rattle.codegen.specs.Code.{depth}
use Rattle.codegen.specs.declared.placed.Aim.{Aim}
use Rattle.codegen.specs.Items.{go, emits, next, starts, ends, table, code_of_items}
use Rattle.codegen.specs.Measure.{height_after_item, deepest}
use Rattle.codegen.specs.Trees.{Emission}
use Rattle.codegen.proofs.Loops.{along_sum}
use Rattle.codegen.proofs.Trees.{emission}

pub table_long : (n : ℕ) (ts : List Aim) → length (table n ts) ≡ n
table_long zero ts = refl
table_long (suc n) ts = ap suc (table_long n _)

item_long : (n : Item) (p q s : ℕ) (ts : List Aim) → p + length (emits n p q s ts) ≡ next n p
item_long (item.Plain i) p q s ts = omega arith
item_long item.Test p q s ts = omega arith
item_long item.Or p q s ts = omega arith
item_long item.If p q s ts = omega arith
item_long item.Then p q s ts = omega arith
item_long item.Else p q s ts = omega arith
item_long item.Fi p q s ts = omega arith
item_long item.While p q s ts = omega arith
item_long item.Loop p q s ts = omega arith
item_long item.Do p q s ts = omega arith
item_long item.Until p q s ts = omega arith
item_long item.Done p q s ts = omega arith
item_long (item.For c) p q s ts = omega arith
item_long (item.Next c) p q s ts = omega arith
item_long (item.Case n) p q s ts = omega (arith, along_sum n (suc p), table_long n ts)
item_long item.Arm p q s ts = omega arith
item_long item.Out p q s ts = omega arith
item_long item.Esac p q s ts = omega arith

long : (ns : List Item) (p : ℕ) (ss : List ℕ) → p + length (go ns p ss).code ≡ ends ns p + 1
long [] p ss = omega arith
long (n ∷ ns) p ss =
    let z = go ns (next n p) (starts n p ss) in
    let is = emits n p (next n p) (get_or ss 0 0) z.todo in
    omega (arith, length-append is z.code, item_long n p (next n p) (get_or ss 0 0) z.todo, long ns (next n p) (starts n p ss))

pub emitted_long : (ns : List Item) → length (code_of_items ns) ≡ ends ns 0 + 1
unfolding code_of_items
emitted_long ns = omega (arith, long ns 0 [])

above : (h : ℕ) (is : List Instr) → h ≤ peak h is
unfolding peak
above h [] = omega arith
above h (i ∷ is) = omega arith

table_deep : (n : ℕ) (ts : List Aim) (h : ℕ) (r : List Instr) → peak h (table n ts ++ r) ≡ peak h r
unfolding peak
table_deep zero ts h r = refl
table_deep (suc n) ts h r = omega (arith, table_deep n (below ts) h r, above h r)

item_deep : (n : Item) (p q s : ℕ) (ts : List Aim) (h : ℕ) (r : List Instr) → peak h (emits n p q s ts ++ r) ≡ max h (peak (height_after_item n h) r)
unfolding peak
item_deep (item.Plain i) p q s ts h r = refl
item_deep item.Test p q s ts h r = refl
item_deep item.Or p q s ts h r = refl
item_deep item.If p q s ts h r = omega (arith, above h r)
item_deep item.Then p q s ts h r = omega (arith, above h r)
item_deep item.Else p q s ts h r = refl
item_deep item.Fi p q s ts h r = omega (arith, above h r)
item_deep item.While p q s ts h r = omega (arith, above h r)
item_deep item.Loop p q s ts h r = refl
item_deep item.Do p q s ts h r = omega (arith, above h r)
item_deep item.Until p q s ts h r = omega (arith, above h r)
item_deep item.Done p q s ts h r = omega (arith, above h r)
item_deep (item.For c) p q s ts h r = refl
item_deep (item.Next c) p q s ts h r = refl
item_deep (item.Case n) p q s ts h r = ap (max h) (table_deep n ts (down 1 h) r)
item_deep item.Arm p q s ts h r = omega (arith, above h r)
item_deep item.Out p q s ts h r = refl
item_deep item.Esac p q s ts h r = omega (arith, above h r)

last_deep : (h : ℕ) → peak h (HALT ∷ []) ≡ h
unfolding peak
last_deep h = omega arith

deep : (ns : List Item) (p : ℕ) (ss : List ℕ) (h : ℕ) → peak h (go ns p ss).code ≡ deepest ns h
deep [] p ss h = last_deep h
deep (n ∷ ns) p ss h =
    let z = go ns (next n p) (starts n p ss) in
    item_deep n p (next n p) (get_or ss 0 0) z.todo h z.code ∙ ap (max h) (deep ns (next n p) (starts n p ss) (height_after_item n h))

emitted_deep : (ns : List Item) → peak 0 (code_of_items ns) ≡ deepest ns 0
unfolding code_of_items
emitted_deep ns = deep ns 0 [] 0

tree_deep : (b : Body) → deepest (items b) 0 ≡ depth b
unfolding depth
tree_deep b = sym (emitted_deep (items b)) ∙ ap (peak 0) (emission b)

pub stands : Emission
stands = record { long = emitted_long; deep = emitted_deep; code = emission; stack = tree_deep }

-- the loop
module _ (ns : List Item) (i : ℕ) (d : Item) (h : i < length ns) where
  pub deepest_more : (k m : ℕ) → m ≡ height_after_item (get_or ns i d) k → deepest (drop i ns) k ≡ max k (deepest (drop (i + 1) ns) m)
  deepest_more k m e = ap (λ l. deepest l k) (drop_more ns i d h) ∙ ap (λ (j : ℕ). max k (deepest (drop (i + 1) ns) j)) (sym e)

pub at_end : (ns : List Item) (i : ℕ) → length ns ≤ i → (p h : ℕ) → (ends (drop i ns) p ≡ p) × (deepest (drop i ns) h ≡ h)
at_end ns i l p h = (ap (λ m. ends m p) (drop_all i ns l), ap (λ m. deepest m h) (drop_all i ns l))
