-- What a source is compiled to, stated by the tree of which it is the text.
use Rattle.std.specs.Prelude.{◌≡◌, ℕ, ◌<◌, ◌≤◌, ◌⊎◌, ◌↔◌, min, List, length, Some, None, Ok, Err, Option}
use Rattle.base.specs.Limits.{most_instructions}
use Rattle.base.specs.declared.refusal.Refusal.{Refusal}
use Rattle.base.specs.Refusals.{refuse}
use Rattle.lexer.specs.Cut.{Piece, token_list}
use Rattle.parser.specs.Works.{parse}
use Rattle.ast.specs.Trees.{Program}
use Rattle.codegen.specs.Code.{program, depth}
use Rattle.sema.specs.Rules.{KeepsTheRules, widths}
use Rattle.sema.specs.Verdicts.{IsRefusedWith, IsNotRefused}
use Rattle.sema.specs.Resolving.{resolve}
use Rattle.compiler.specs.Compile.{Code, compilation, IsWritten, CompiledTree}

-- The code, the cells and the depth that the rules give for a tree.
abbrev pub code_for : Program → Code
code_for p = record { cells = widths p.decls; depth = depth (resolve p); instrs = program (resolve p) }

-- The text or the grammar refuses the source with f.
abbrev pub Unread : List ℕ → Refusal → Type 0
Unread source f =
    (token_list source ≡ Err f) ⊎ ((ps : List Piece) × (token_list source ≡ Ok ps) × (parse (length source) ps ≡ Err f))

-- Which sources are accepted, with which code, and which refusal any other source has.
pub record CompilesExactly : Type 0 where
  -- each source is the text of exactly one tree; or it is the text of none, and then the text or the grammar refuses
  -- it
  pub read : (source : List ℕ) → ((p : Program) × IsWritten source p) ⊎ ((f : Refusal) × Unread source f)
  pub one : (source : List ℕ) (p q : Program) → IsWritten source p → IsWritten source q → p ≡ q
  pub none : (source : List ℕ) (p : Program) (f : Refusal) → IsWritten source p → Unread source f → ⊥
  -- if code is answered, it is that of such a tree, which keeps the rules, and there is room for it
  pub only : (source : List ℕ) (room : ℕ) (c : Code) →
      compilation source room ≡ Ok c → (p : Program) × CompiledTree source p c × (length c.instrs ≤ min most_instructions room)
  -- and for each such tree the code is answered
  pub each : (source : List ℕ) (room : ℕ) (p : Program) →
      IsWritten source p → KeepsTheRules p → length (program (resolve p)) ≤ min most_instructions room → compilation source room ≡ Ok (code_for p)
  -- which refusal is answered: that of the text or the grammar;
  pub unread : (source : List ℕ) (room : ℕ) (f : Refusal) → Unread source f → compilation source room ≡ Err f
  -- or that of the first stage whose rules the tree breaks; the tree keeps the rules exactly where no fault stands in
  -- it;
  pub faulty : (source : List ℕ) (room : ℕ) (p : Program) (f : Refusal) → IsWritten source p → IsRefusedWith p f → compilation source room ≡ Err f
  pub admitted : (p : Program) → KeepsTheRules p ↔ IsNotRefused p
  -- or 14, if the code is too long
  pub long : (source : List ℕ) (room : ℕ) (p : Program) →
      IsWritten source p → KeepsTheRules p → min most_instructions room < length (program (resolve p)) → compilation source room ≡ refuse 14 (length source)
