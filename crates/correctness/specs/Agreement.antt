-- The theorem that the machine, run on the code of a source, does what the source means.
use Rattle.std.specs.Prelude.{◌≡◌, ℕ, ◌<◌, ◌≤◌, List, ◌++◌, length, take, Some, None, Ok, Err, Option}
use Rattle.ir.specs.Trees.{Body}
use Rattle.codegen.specs.Code.{program, depth}
use Rattle.machine.specs.declared.ending.Ending.{Ending}
use Rattle.machine.specs.declared.ending.Ending.TheVariants.{Halted, Stopped}
use Rattle.machine.specs.Endings.{number_of}
use Rattle.machine.specs.Machine.{State, state, run}
use Rattle.semantics.specs.Effects.{Store, Write, leave, Effect, effect, cut, writes_of}
use Rattle.semantics.specs.Meaning.{exec, Within}
use Rattle.ast.specs.Trees.{Program}
use Rattle.sema.specs.Rules.{KeepsTheRules, widths}
use Rattle.sema.specs.Resolving.{resolve}

-- How a source ends; none if the bound was reached first.
abbrev pub end_of : Effect (Unit {0}) → Option Ending
end_of (effect ws (Ok a)) = Some Halted
end_of (effect ws (Err e)) = Some (Stopped e)
end_of (cut ws) = None

-- The machine before its first step, with these stack words and this store.
abbrev pub start : List ℕ → Store → State
start st σ = state record { pc = 0; height = 0; steps = 0; writes = 0; ending = None } st σ

-- The machine after m steps on the code of a source.
unfoldable pub after : Body → List ℕ → Store → ℕ → State
after b st σ m = run (program b) (depth b) m (start st σ)

-- The state x of the machine agrees with a source: `src k` is what the source does with at most k turns of each loop,
-- and d is the depth.
pub record Agrees (σ : Store) (d : ℕ) (src : ℕ → Effect (Unit {0})) (x : State) : Type 0 where
  -- some bound gives at least as many writes; and for every bound that does, the first of them leave these cells
  pub reached : (k : ℕ) × (x.registers.writes ≤ length (writes_of (src k)))
  pub same : (k : ℕ) → x.registers.writes ≤ length (writes_of (src k)) → x.cells ≡ leave (take x.registers.writes (writes_of (src k))) σ
  pub low : x.registers.height ≤ d
  -- an ending is HALT or one of the four stops
  pub sound : (e : Ending) → x.registers.ending ≡ Some e → number_of e ≤ 4
  -- the source has this ending too, after exactly these writes
  pub ends : (e : Ending) → x.registers.ending ≡ Some e → (k : ℕ) × (end_of (src k) ≡ Some e) × (length (writes_of (src k)) ≡ x.registers.writes)

-- The machine on the code of a source agrees with the source after every number of steps, and ends where the source
-- does.
pub record Keeps (b : Body) (st : List ℕ) (σ : Store) : Type 0 where
  pub always : (m : ℕ) → Agrees σ (depth b) (λ k. exec b k σ) (after b st σ m)
  -- if the source ends, the machine ends in the same way
  pub ending : (k : ℕ) (e : Ending) → end_of (exec b k σ) ≡ Some e → (m : ℕ) × ((after b st σ m).registers.ending ≡ Some e)
  -- the writes for a larger bound begin with those for a smaller one; once the source has ended a larger bound
  -- changes nothing
  pub further : (k j : ℕ) → k ≤ j → (vs : List Write) × (writes_of (exec b j σ) ≡ writes_of (exec b k σ) ++ vs)
  pub settled : (k j : ℕ) → k ≤ j → (e : Ending) → end_of (exec b k σ) ≡ Some e → exec b j σ ≡ exec b k σ
  -- each step is counted
  pub counts : (m : ℕ) → (after b st σ m).registers.ending ≡ None → (after b st σ m).registers.steps ≡ m
  -- the steps of an ended machine are the least number at which it has ended, and it stays as it is from there on
  pub least : (m : ℕ) (e : Ending) → (after b st σ m).registers.ending ≡ Some e →
      (n : ℕ) × (n ≤ m) × ((after b st σ m).registers.steps ≡ n) × ((j : ℕ) → j < n → (after b st σ j).registers.ending ≡ None) × ((j : ℕ) → n ≤ j → after b st σ j ≡ after b st σ m)

-- This holds of every source that keeps the rules, over a store with its cells and a stack at least as long as its
-- depth.
abbrev pub Agreement : Type 0
Agreement =
    (p : Program) (st : List ℕ) (σ : Store) → KeepsTheRules p → widths p.decls ≤ length σ → depth (resolve p) ≤ length st → Keeps (resolve p) st σ

-- The same of every tree of statements, also of one that no source resolves to: each cell that it names is one of the
-- store's, and the stack is at least as long as its depth.
abbrev pub AgreementOfTrees : Type 0
AgreementOfTrees = (b : Body) (st : List ℕ) (σ : Store) → Within b (length σ) → depth b ≤ length st → Keeps b st σ
