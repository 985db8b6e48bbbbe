-- Which faults the stages find in a tree, and what they answer for a source, stated by the faults that stand in its
-- tree.
use Rattle.std.specs.Prelude.{◌≡◌, ℕ, ◌≤◌, true, false, ◌⊎◌, ◌↔◌, List, [], Contains, Ok, Err}
use Rattle.base.specs.Limits.{most_names}
use Rattle.base.specs.declared.refusal.Refusal.{Refusal}
use Rattle.base.specs.Refusals.{refusal_at}
use Rattle.parser.specs.Works.{syntax_list}
use Rattle.ast.specs.Trees.{Decl, Program}
use Rattle.ast.specs.Lists.{list}
use Rattle.sema.specs.Names.{program_names}
use Rattle.sema.specs.Types.{program_types}
use Rattle.sema.specs.Sizes.{program_sizes}
use Rattle.sema.specs.Works.{outcome, source_check}
use Rattle.sema.specs.Rules.{IsUnused, NamesHold}
use Rattle.sema.specs.Deciding.{Decides, Free}
use Rattle.sema.specs.Parts.{SomeDecl}
use Rattle.sema.specs.Standing.{declares, distinct_names, IsKnown, UsesUnknown, DeclaresAgain, DeclaresPast, UsesWrongly, NameFault, TypeFault, OutOfRange, TooWide, SizeFault, Passes}

-- The faults that each stage finds in a tree are exactly those that stand in it. This is stated for each number.
pub record FaultsStand : Type 0 where
  pub seven : (x : Program) (p : ℕ) → Contains (program_names x) (refusal_at 7 p) ↔ UsesUnknown x (refusal_at 7 p)
  pub eight : (x : Program) (p : ℕ) → Contains (program_names x) (refusal_at 8 p) ↔ DeclaresAgain x (refusal_at 8 p)
  pub nine : (x : Program) (p : ℕ) → Contains (program_names x) (refusal_at 9 p) ↔ DeclaresPast x (refusal_at 9 p)
  pub ten : (x : Program) (p : ℕ) → Contains (program_names x) (refusal_at 10 p) ↔ UsesWrongly x (refusal_at 10 p)
  pub names : (x : Program) (r : Refusal) → Contains (program_names x) r ↔ NameFault x r
  -- 11
  pub types : (x : Program) (r : Refusal) → Contains (program_types x) r ↔ TypeFault x r
  -- This holds where the names are in order, as they are where this stage is reached: then the cells of each name lie
  -- after those of the names before it.
  pub twelve : (x : Program) → NamesHold x → (p : ℕ) → Contains (program_sizes x) (refusal_at 12 p) ↔ OutOfRange x (refusal_at 12 p)
  pub thirteen : (x : Program) → NamesHold x → (p : ℕ) → Contains (program_sizes x) (refusal_at 13 p) ↔ TooWide x (refusal_at 13 p)
  pub sizes : (x : Program) → NamesHold x → (r : Refusal) → Contains (program_sizes x) r ↔ SizeFault x r
  -- if at most 64 names are declared, each of them is known
  pub known : (ds : List Decl) (n : List ℕ) → distinct_names ds ≤ most_names → IsKnown ds n ↔ (declares ds n ≡ true)
  pub unused : (ds : List Decl) (n : List ℕ) → IsUnused n ds ↔ (declares ds n ≡ false)

-- The refusal r decides in a program: among its faults of names; if it has none, among its faults of types; if it has
-- none of either, among its faults of sizes.
abbrev pub IsRefusedWith : Program → Refusal → Type 0
IsRefusedWith x r =
    Decides (NameFault x) r
    ⊎ (Free (NameFault x) × Decides (TypeFault x) r)
    ⊎ (Free (NameFault x) × Free (TypeFault x) × Decides (SizeFault x) r)

-- A program has no fault.
abbrev pub IsNotRefused : Program → Type 0
IsNotRefused x = Free (NameFault x) × Free (TypeFault x) × Free (SizeFault x)

-- The refusal of a source that is a program is the one that decides in that program.
pub record RefusedExactly : Type 0 where
  pub refused : (source : List ℕ) (x : Program) → syntax_list source ≡ Ok (list x) →
      (r : Refusal) → (source_check source ≡ Err r) ↔ IsRefusedWith x r
  pub accepted : (source : List ℕ) (x : Program) → syntax_list source ≡ Ok (list x) →
      (source_check source ≡ Ok (outcome (list x))) ↔ IsNotRefused x
  -- 13 stands at the first name with which the cells are over 4,096: the names before it take no more than 4,096
  pub passed : (source : List ℕ) (x : Program) → syntax_list source ≡ Ok (list x) →
      (p : ℕ) → source_check source ≡ Err (refusal_at 13 p) → SomeDecl (Passes (refusal_at 13 p)) [] x.decls
