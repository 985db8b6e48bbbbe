-- The stages one after the other. Assumes nothing.
use Rattle.std.proofs.Common.{◌≡◌, ℕ, ◌≤◌, List, [], Some, None, Ok, Err, Option, sym, ap, ◌∙◌}
use Rattle.base.specs.declared.refusal.Refusal.{Refusal}
use Rattle.base.specs.Refusals.{then}
use Rattle.parser.specs.Nodes.{Node}
use Rattle.parser.specs.Works.{syntax_list}
use Rattle.ir.specs.declared.item.Item.{Item}
use Rattle.sema.specs.Faults.{least}
use Rattle.sema.specs.Tables.{Table, empty}
use Rattle.sema.specs.Names.{name_faults, table_from}
use Rattle.sema.specs.Types.{type_faults}
use Rattle.sema.specs.Sizes.{size_faults}
use Rattle.sema.specs.CaseArms.{arm_counts}
use Rattle.sema.specs.Emitting.{writes, typed_list}
use Rattle.sema.specs.Emissions.{Narrow}
use Rattle.sema.specs.Works.{earlier, verdict, unless_fault, outcome, list_check, source_check}
use Rattle.sema.proofs.Laying.{some_none}
use Rattle.sema.proofs.Narrowing.{least_none, narrow_list, total_list}

module _ (es : List Node) where
  pub by_names : (f : Refusal) → Some f ≡ least (name_faults empty es) → Some f ≡ verdict es
  unfolding verdict
  by_names f e = rw (← e)

  pub by_types : (t : Table) (f : Refusal) → None ≡ least (name_faults empty es) → t ≡ table_from empty es → Some f ≡ least (type_faults t es []) → Some f ≡ verdict es
  unfolding verdict
  by_types t f e is h = rw (← e, ← is, ← h)

  pub by_sizes : (t : Table) (x : Option Refusal) → None ≡ least (name_faults empty es) → t ≡ table_from empty es → None ≡ least (type_faults t es []) → x ≡ least (size_faults t es) → x ≡ verdict es
  unfolding verdict
  by_sizes t x e is h k = rw (← e, ← is, ← h, ← k)

-- a list that passes has no faults of sizes
last_stage : (a b c : Option Refusal) → None ≡ earlier a (earlier b c) → c ≡ None
last_stage None None c e = sym e
last_stage None (Some g) c e = some_none g (sym e)
last_stage (Some f) b c e = some_none f (sym e)

pub no_sizes : (es : List Node) → None ≡ verdict es → size_faults (table_from empty es) es ≡ []
unfolding verdict
no_sizes es e = least_none _ (last_stage (least (name_faults empty es)) (least (type_faults (table_from empty es) es [])) _ e)

pub narrow_passed : (es : List Node) (t : Table) → t ≡ table_from empty es → None ≡ verdict es → Narrow t
narrow_passed es t is e = rw is (narrow_list es (no_sizes es e))

pub total_passed : (es : List Node) (t : Table) → t ≡ table_from empty es → None ≡ verdict es → t.cells ≤ 4096
total_passed es t is e = rw is (total_list es (no_sizes es e))

-- what becomes of a source
module _ (source : List ℕ) (es : List Node) (read : syntax_list source ≡ Ok es) where
  pub refused_later : (f : Refusal) → Some f ≡ verdict es → source_check source ≡ Err f
  unfolding source_check list_check
  refused_later f e = ap (λ r. then r list_check) read ∙ ap (λ v. unless_fault v (outcome es)) (sym e)

  pub accepted : (is : List Item) (t : Table) (ms : List ℕ) → None ≡ verdict es → t ≡ table_from empty es → ms ≡ (arm_counts es).closed → is ≡ writes t es [] ms → source_check source ≡ Ok record { items = is; table = t }
  unfolding source_check list_check typed_list
  accepted is t ms e et em ei =
      ap (λ r. then r list_check) read ∙ ap (λ v. unless_fault v (outcome es)) (sym e) ∙ rw (ei, et, em)

pub refused_first : (source : List ℕ) (f : Refusal) → syntax_list source ≡ Err f → source_check source ≡ Err f
unfolding source_check
refused_first source f e = ap (λ r. then r list_check) e
