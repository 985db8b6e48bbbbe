-- Sessions: what holds after any list of calls on the code of a source.
use Rattle.std.specs.Prelude.{◌≡◌, ℕ, zero, suc, ◌+◌, ◌<◌, ◌≤◌, min, Bool, false, cond, List, [], ◌∷◌, length, take, is_some, Some, None, slice_index, true, Option, slice_get}
use Rattle.base.specs.Limits.{most_instructions, most_steps}
use Rattle.base.specs.declared.op.Op.{Op}
use Rattle.base.specs.declared.op.Op.TheVariants.{Stor, Stx, Next}
use Rattle.base.specs.Ops.{ops}
use Rattle.ir.specs.Trees.{Body}
use Rattle.codegen.specs.Code.{program, depth}
use Rattle.machine.specs.declared.ending.Ending.{Ending}
use Rattle.machine.specs.Endings.{number_of}
use Rattle.machine.specs.Machine.{State, state}
use Rattle.machine.specs.declared.call.Call.{Call}
use Rattle.machine.specs.declared.call.Call.TheVariants.{Resume, Look, Report}
use Rattle.machine.specs.Sessions.{initial_registers}
use Rattle.machine.specs.Calls.{state_after_calls}
use Rattle.semantics.specs.Effects.{Store, leave, writes_of}
use Rattle.semantics.specs.Meaning.{exec, Within}
use Rattle.ast.specs.Trees.{Program}
use Rattle.sema.specs.Rules.{KeepsTheRules, widths}
use Rattle.sema.specs.Resolving.{resolve}
use Rattle.correctness.specs.Agreement.{end_of, after}
use Rattle.correctness.specs.Heights.{instruction_at}

-- The sum of the limits of all resumes, also of refused ones.
unfoldable pub limits : List Call → ℕ
limits [] = 0
limits (Resume limit ∷ xs) = limit + limits xs
limits (Look cell ∷ xs) = limits xs
limits (Report ∷ xs) = limits xs

-- The code of a source, run without a limit, ends after n steps with the ending e. The step that ends it is counted.
pub record EndsIn (b : Body) (st : List ℕ) (σ : Store) (n : ℕ) (e : Ending) : Type 0 where
  pub ended : (after b st σ n).registers.ending ≡ Some e
  pub first : (j : ℕ) → j < n → (after b st σ j).registers.ending ≡ None

-- The instructions that write a cell.
abbrev pub stores : Op → Bool
stores Stor = true
stores Stx = true
stores Next = true
stores _ = false

-- Whether the instruction of a number, if there is one, writes a cell.
abbrev pub is_store : Option Op → Bool
is_store None = false
is_store (Some o) = stores o

-- Whether the step after the first m steps writes a cell. A step that ends the run writes none, and after the end
-- there is no step.
abbrev pub writes_at : Body → List ℕ → Store → ℕ → Bool
writes_at b st σ m =
    cond (is_some (after b st σ (suc m)).registers.ending) false (is_store (slice_get ops (instruction_at (program b) (after b st σ m)).number))

-- How many of the first m steps write a cell.
unfoldable pub writes_in : Body → List ℕ → Store → ℕ → ℕ
writes_in b st σ zero = 0
writes_in b st σ (suc m) = writes_in b st σ m + cond (writes_at b st σ m) 1 0

-- The promise speaks of the session x after calls whose limits have the sum l. The source has c cells. It holds after
-- every list of calls, and so after each call of a list.

-- The store and the count. The reported number of writes is how many of the reported steps write a cell. For some
-- bound the source makes at least as many writes, and for every such bound the first of them leave these cells.
pub record StoreAndCount (b : Body) (st : List ℕ) (σ : Store) (x : State) : Type 0 where
  pub writes : x.registers.writes ≡ writes_in b st σ x.registers.steps
  pub reached : (k : ℕ) × (x.registers.writes ≤ length (writes_of (exec b k σ)))
  pub cells : (k : ℕ) → x.registers.writes ≤ length (writes_of (exec b k σ)) → x.cells ≡ leave (take x.registers.writes (writes_of (exec b k σ))) σ

-- Endings and height. The endings 6 to 9 never come, and the stack stays within the depth.
pub record EndingsAndHeight (b : Body) (x : State) : Type 0 where
  pub sound : (e : Ending) → x.registers.ending ≡ Some e → number_of e ≤ 4
  pub low : x.registers.height ≤ depth b

-- The end and the steps.
pub record EndAndSteps (b : Body) (st : List ℕ) (σ : Store) (l : ℕ) (x : State) : Type 0 where
  -- the number of steps is the smallest of `most`, of the sum of all limits, and of n, if the code ends after n steps
  pub steps : (n : ℕ) (e : Ending) → EndsIn b st σ n e → x.registers.steps ≡ min most_steps (min l n)
  pub going : ((n : ℕ) (e : Ending) → EndsIn b st σ n e → ⊥) → x.registers.steps ≡ min most_steps l
  -- it has ended exactly where the code ends after n steps and n steps are reported, and then with the ending of the
  -- code
  pub ended : (e : Ending) → x.registers.ending ≡ Some e → EndsIn b st σ x.registers.steps e
  pub ending : (n : ℕ) (e : Ending) → EndsIn b st σ n e → x.registers.steps ≡ n → x.registers.ending ≡ Some e
  -- then the source has this ending too, after exactly these writes
  pub source : (e : Ending) → x.registers.ending ≡ Some e → (k : ℕ) × (end_of (exec b k σ) ≡ Some e) × (length (writes_of (exec b k σ)) ≡ x.registers.writes)
  -- the source ends exactly where the code ends after some number of steps, and with the same ending
  pub ends : (k : ℕ) (e : Ending) → end_of (exec b k σ) ≡ Some e → (n : ℕ) × EndsIn b st σ n e
  pub back : (n : ℕ) (e : Ending) → EndsIn b st σ n e → (k : ℕ) × (end_of (exec b k σ) ≡ Some e)

-- The promise: its three parts, and what holds besides.
pub record Promise (b : Body) (c : ℕ) (st : List ℕ) (σ : Store) (l : ℕ) (x : State) : Type 0 where
  pub store : StoreAndCount b st σ x
  pub endings : EndingsAndHeight b x
  pub end : EndAndSteps b st σ l x
  -- Besides these three, the session is the machine after as many steps as it reports, and the cells that are not the
  -- source's keep their words.
  pub machine : x ≡ after b st σ x.registers.steps
  pub others : (i : ℕ) → c ≤ i → slice_index x.cells i ≡ slice_index σ i

-- The promise holds after every list of calls on a session that is started with the code, the cells and the depth of
-- a source that keeps the rules, if the code is not too long and the stack and the store that are lent are large
-- enough.
abbrev pub KeepsStep : Type 0
KeepsStep =
    (p : Program) (st : List ℕ) (σ : Store) → KeepsTheRules p → length (program (resolve p)) ≤ most_instructions → depth (resolve p) ≤ length st → widths p.decls ≤ length σ →
    (xs : List Call) →
    Promise (resolve p) (widths p.decls) st σ (limits xs) (state_after_calls (widths p.decls) (depth (resolve p)) (program (resolve p)) xs (state initial_registers st σ))

-- The same of every tree of statements, also of one that no source resolves to, on a session that is started with c
-- cells: each cell that the tree names is below c.
abbrev pub TreesKeepStep : Type 0
TreesKeepStep =
    (b : Body) (c : ℕ) (st : List ℕ) (σ : Store) → Within b c → length (program b) ≤ most_instructions → depth b ≤ length st → c ≤ length σ → (xs : List Call) →
    Promise b c st σ (limits xs) (state_after_calls c (depth b) (program b) xs (state initial_registers st σ))
