-- The promise for whoever makes the calls of a session with what a source is compiled to.
use Rattle.std.specs.Prelude.{◌≡◌, ℕ, ◌≤◌, List, length, Ok}
use Rattle.ast.specs.Trees.{Program}
use Rattle.sema.specs.Resolving.{resolve}
use Rattle.compiler.specs.Compile.{Code, compilation, CompiledTree}
use Rattle.machine.specs.Machine.{state}
use Rattle.machine.specs.declared.call.Call.{Call}
use Rattle.machine.specs.Sessions.{start_refusal, initial_registers}
use Rattle.machine.specs.Calls.{state_after_calls}
use Rattle.correctness.specs.Sessions.{limits, Promise}

-- The source is the text of this tree, and this is its code. Over every stack at least as long as the depth and every
-- store that has the cells, a session starts. The state after any calls on it keeps the promise for the meaning of
-- this source.
pub record IsServed (source : List ℕ) (code : Code) : Type 0 where
  pub tree : Program
  pub written : CompiledTree source tree code
  pub starts : (st σ : List ℕ) → code.depth ≤ length st → code.cells ≤ length σ → start_refusal code.cells code.depth (length code.instrs) (length st) (length σ) ≡ Ok tt
  pub keeps : (st σ : List ℕ) → code.depth ≤ length st → code.cells ≤ length σ → (xs : List Call) →
      Promise (resolve tree) code.cells st σ (limits xs) (state_after_calls code.cells code.depth code.instrs xs (state initial_registers st σ))

-- This holds of every source that is compiled, for a table of any length.
abbrev pub KeepsThePromise : Type 0
KeepsThePromise = (source : List ℕ) (room : ℕ) (code : Code) → compilation source room ≡ Ok code → IsServed source code
