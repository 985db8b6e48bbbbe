-- What a trial of a source leaves: its code is the code of the tree, and after every call the session keeps step with
-- what the tree means.
use Rattle.std.specs.Prelude.{◌≡◌, ℕ, ◌<◌, ◌≤◌, ◌⊎◌, List, ◌++◌, length, Ok, Err, Result}
use Rattle.base.specs.Limits.{most_instructions}
use Rattle.ast.specs.Trees.{Program}
use Rattle.sema.specs.Resolving.{resolve}
use Rattle.compiler.specs.Compile.{Code, compilation, CompiledTree}
use Rattle.compiler.specs.Faults.{refusal_of as compile_refusal}
use Rattle.machine.specs.Machine.{state}
use Rattle.machine.specs.declared.call.Call.{Call}
use Rattle.machine.specs.declared.call.Exchange.{Exchange}
use Rattle.machine.specs.declared.session.Session.{Session}
use Rattle.machine.specs.Sessions.{start_refusal, initial_registers}
use Rattle.machine.specs.Calls.{state_after_calls, answers_of, calls_in, answers_in}
use Rattle.correctness.specs.Sessions.{limits, Promise}
use Rattle.base.specs.declared.code.Code.{Code as CodeSlice}
use Rattle.base.specs.declared.refusal.Refusal.{Refusal}
use Rattle.base.specs.Refusals.{refusal_at}
use Rattle.compiler.specs.declared.fault.CompileFault.{CompileFault}

-- What is lent to a trial: the exchanges, the stack words and the cells.
pub record Lending : Type 0 where
  pub exchanges : List Exchange
  pub stack : List ℕ
  pub cells : List ℕ

-- What is lent, with these exchanges, stack words and cells.
abbrev pub lending : List Exchange → (stack cells : List ℕ) → Lending
lending xs st σ = record { exchanges = xs; stack = st; cells = σ }

-- The trial of a source that started a session x; b is what was lent before it, and a the same afterwards. The source
-- is the text of this tree, this is its code, and the session may start. The exchanges have the same calls as before,
-- with the answers to them, one after another. The session keeps its cells and its depth. After the last call the
-- registers, the stack and the cells keep the promise for the meaning of this source, and so they did after each call
-- before.
pub record TrialRuns (source : List ℕ) (b a : Lending) (x : Session) : Type 0 where
  pub tree : Program
  pub code : Code
  pub accepted : compilation source most_instructions ≡ Ok code
  pub written : CompiledTree source tree code
  pub fits : start_refusal code.cells code.depth (length code.instrs) (length b.stack) (length b.cells) ≡ Ok tt
  pub cells : x.cells ≡ code.cells
  pub depth : x.depth ≡ code.depth
  pub calls : calls_in a.exchanges ≡ calls_in b.exchanges
  pub answers : answers_in a.exchanges ≡ answers_of code.cells code.depth code.instrs (calls_in b.exchanges) (state initial_registers b.stack b.cells)
  pub left : state x.registers a.stack a.cells ≡ state_after_calls code.cells code.depth code.instrs (calls_in b.exchanges) (state initial_registers b.stack b.cells)
  pub kept : Promise (resolve tree) code.cells b.stack b.cells (limits (calls_in b.exchanges)) (state x.registers a.stack a.cells)
  pub each : (front rest : List Call) → calls_in b.exchanges ≡ front ++ rest →
      Promise (resolve tree) code.cells b.stack b.cells (limits front) (state_after_calls code.cells code.depth code.instrs front (state initial_registers b.stack b.cells))

-- The refusal is 31 if the stack is shorter than the depth. It is 32 if the stack is long enough and the store has
-- fewer words than the code has cells.
abbrev pub Lacks : Code → (stack size : ℕ) → Refusal → Type 0
Lacks c w size r =
    ((w < c.depth) × (r ≡ refusal_at 31 0)) ⊎ ((c.depth ≤ w) × (size < c.cells) × (r ≡ refusal_at 32 0))

-- A session of the source does not start, for the reason r.
pub record StartIsRefused (source : List ℕ) (b : Lending) (r : Refusal) : Type 0 where
  pub code : Code
  pub accepted : compilation source most_instructions ≡ Ok code
  pub lacks : Lacks code (length b.stack) (length b.cells) r

-- A code that is lent, by its cells, its depth and its instructions.
abbrev pub code_of_slice : CodeSlice → Code
code_of_slice c = record { cells = c.cells; depth = c.depth; instrs = c.instructions.now }

-- The code, or the refusal of the compiler.
abbrev pub compile_answer : Result CodeSlice CompileFault → Result Code Refusal
compile_answer (Ok c) = Ok (code_of_slice c)
compile_answer (Err e) = Err (compile_refusal e)

-- What the calls on a session of this code leave. If the session does not start, this is the refusal, and nothing
-- that was lent has changed.
abbrev pub Makes : Result Session Refusal → CodeSlice → (b a : Lending) → Type 0
Makes (Ok x) c b a =
    (start_refusal c.cells c.depth (length c.instructions.now) (length b.stack) (length b.cells) ≡ Ok tt)
    × (x.cells ≡ c.cells)
    × (x.depth ≡ c.depth)
    × (calls_in a.exchanges ≡ calls_in b.exchanges)
    × (answers_in a.exchanges ≡ answers_of c.cells c.depth c.instructions.now (calls_in b.exchanges) (state initial_registers b.stack b.cells))
    × (state x.registers a.stack a.cells ≡ state_after_calls c.cells c.depth c.instructions.now (calls_in b.exchanges) (state initial_registers b.stack b.cells))
Makes (Err r) c b a =
    (start_refusal c.cells c.depth (length c.instructions.now) (length b.stack) (length b.cells) ≡ Err r) × (a ≡ b)

-- What a trial leaves. If the compiler or the session refuses, this is the refusal, and nothing that was lent has
-- changed.
abbrev pub Tries : Result Session Refusal → List ℕ → (b a : Lending) → Type 0
Tries (Ok x) source b a = TrialRuns source b a x
Tries (Err r) source b a = ((compilation source most_instructions ≡ Err r) ⊎ StartIsRefused source b r) × (a ≡ b)
