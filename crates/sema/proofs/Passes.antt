-- One node more in each pass over the list. Assumes nothing.
use Rattle.std.proofs.Common.{◌≡◌, ℕ, ◌+◌, ◌<◌, ◌≤◌, List, [], ◌∷◌, ◌++◌, length, get_or, drop, Some, None, Option, sym, refl, ap, ◌∙◌, append_assoc, add-one, drop-cons}
use Rattle.std.proofs.lemmas.List.{drop_all, append-nil}
use Rattle.base.specs.declared.refusal.Refusal.{Refusal}
use Rattle.parser.specs.declared.node.Node.{Node as CodeNode}
use Rattle.parser.specs.Nodes.{node_of, node_list}
use Rattle.sema.specs.Faults.{also, soonest, least_from}
use Rattle.sema.specs.Tables.{Table}
use Rattle.parser.specs.declared.value_type.ValueType.{ValueType}
use Rattle.sema.specs.declared.rule.Rule.{Rule}
use Rattle.sema.specs.Names.{decl_of, name_fault, name_faults, table_after, table_from}
use Rattle.sema.specs.Types.{rule_of, clash, after, type_faults, second}
use Rattle.ir.specs.declared.item.Item.{Item}
use Rattle.sema.specs.Emitting.{emits, writes}
use Rattle.sema.specs.CaseArms.{counts_after, first}
use Rattle.sema.specs.Sizes.{cells_fault, range_fault, size_faults}

-- the nodes from the offset i on
pub one_more : (ns : List CodeNode) (i : ℕ) (n : CodeNode) → i < length ns → n ≡ get_or ns i n → node_list (drop i ns) ≡ node_of n ∷ node_list (drop (i + 1) ns)
unfolding node_list
one_more ns i n l m = rw (add-one, drop-cons ns i n l, ← m)

pub none_left : (ns : List CodeNode) (i : ℕ) → length ns ≤ i → node_list (drop i ns) ≡ []
unfolding node_list
none_left ns i l = rw (drop_all i ns l)

-- a fault that is kept if it goes first
pub kept_first : (f g : Option Refusal) (fs : List Refusal) → least_from f (also g fs) ≡ least_from (soonest f g) fs
kept_first f None fs = refl
kept_first f (Some g) fs = refl

-- the stage of names: one node more, and all of them
module _ (ns : List CodeNode) (i : ℕ) (f : Option Refusal) (t : Table) (x : Option Refusal) (y : Table) (inv : (least_from f (name_faults t (node_list (drop i ns))) ≡ x) × (table_from t (node_list (drop i ns)) ≡ y)) where
  pub names_more : (n : CodeNode) (g h : Option Refusal) (u : Table) → i < length ns → n ≡ get_or ns i n → g ≡ name_fault t (node_of n) → h ≡ soonest f g → u ≡ table_after t (node_of n) → (least_from h (name_faults u (node_list (drop (i + 1) ns))) ≡ x) × (table_from u (node_list (drop (i + 1) ns)) ≡ y)
  names_more n g h u l m eg eh eu =
      let e = one_more ns i n l m in (
        rw (eh, eg, eu) (sym (kept_first f (name_fault t (node_of n)) _) ∙ ap (λ es. least_from f (name_faults t es)) (sym e) ∙ inv.0),
        rw eu (ap (table_from t) (sym e) ∙ inv.1),
      )

  pub names_all : length ns ≤ i → (f ≡ x) × (t ≡ y)
  names_all l = let e = none_left ns i l in (ap (λ es. least_from f (name_faults t es)) (sym e) ∙ inv.0, ap (table_from t) (sym e) ∙ inv.1)

-- the stage of types
module _ (ns : List CodeNode) (i : ℕ) (f : Option Refusal) (t : Table) (s : List ValueType) (x : Option Refusal) (inv : least_from f (type_faults t (node_list (drop i ns)) s) ≡ x) where
  pub types_more : (n : CodeNode) (r : Rule) (g h : Option Refusal) (s' : List ValueType) → i < length ns → n ≡ get_or ns i n → r ≡ rule_of t (node_of n) → g ≡ clash r s → h ≡ soonest f g → s' ≡ after r s → least_from h (type_faults t (node_list (drop (i + 1) ns)) s') ≡ x
  types_more n r g h s' l m er eg eh es =
      rw (eh, eg, es, er) (sym (kept_first f (clash (rule_of t (node_of n)) s) _) ∙ ap (λ z. least_from f (type_faults t z s)) (sym (one_more ns i n l m)) ∙ inv)

  pub types_all : length ns ≤ i → f ≡ x
  types_all l = ap (λ es. least_from f (type_faults t es s)) (sym (none_left ns i l)) ∙ inv

-- the stage of sizes
module _ (ns : List CodeNode) (i : ℕ) (f : Option Refusal) (t : Table) (x : Option Refusal) (inv : least_from f (size_faults t (node_list (drop i ns))) ≡ x) where
  pub sizes_more : (n : CodeNode) (g h j k : Option Refusal) → i < length ns → n ≡ get_or ns i n → g ≡ cells_fault t (decl_of (node_of n)) → h ≡ soonest f g → j ≡ range_fault (node_of n) → k ≡ soonest h j → least_from k (size_faults t (node_list (drop (i + 1) ns))) ≡ x
  sizes_more n g h j k l m eg eh ej ek =
      let e = node_of n in
      rw (ek, eh, eg, ej)
      (sym (kept_first (soonest f (cells_fault t (decl_of e))) (range_fault e) _)
      ∙ sym (kept_first f (cells_fault t (decl_of e)) _)
      ∙ ap (λ z. least_from f (size_faults t z)) (sym (one_more ns i n l m))
      ∙ inv)

  pub sizes_all : length ns ≤ i → f ≡ x
  sizes_all l = ap (λ es. least_from f (size_faults t es)) (sym (none_left ns i l)) ∙ inv

-- the typed list
module _ (ns : List CodeNode) (i : ℕ) (out : List Item) (t : Table) (s : List ValueType) (ms : List ℕ) (x : List Item) (inv : out ++ writes t (node_list (drop i ns)) s ms ≡ x) where
  pub writes_more : (n : CodeNode) (r : Rule) (is out' : List Item) (s' : List ValueType) (ms' : List ℕ) → i < length ns → n ≡ get_or ns i n → is ≡ emits t (second s) (first ms) (node_of n) → out' ≡ out ++ is → r ≡ rule_of t (node_of n) → s' ≡ after r s → ms' ≡ counts_after (node_of n) ms → out' ++ writes t (node_list (drop (i + 1) ns)) s' ms' ≡ x
  writes_more n r is out' s' ms' l m ei eo er es em =
      rw (eo, ei, es, er, em)
      (append_assoc out (emits t (second s) (first ms) (node_of n)) _
      ∙ ap (λ z. out ++ writes t z s ms) (sym (one_more ns i n l m))
      ∙ inv)

  pub writes_all : length ns ≤ i → out ≡ x
  writes_all l = sym (append-nil out) ∙ ap (λ es. out ++ writes t es s ms) (sym (none_left ns i l)) ∙ inv
