-- What the machine does on the code of a text, the text means. Assumes nothing.
use Rattle.std.proofs.Common.{ℕ, ◌≤◌, List, length, replicate, sym, ap, ◌∙◌, arith}
use Rattle.std.proofs.lemmas.List.{length-replicate, take_all}
use Rattle.ast.specs.Trees.{Program}
use Rattle.codegen.specs.Code.{depth}
use Rattle.sema.specs.Resolving.{resolve}
use Rattle.machine.specs.Machine.{State, state, run}
use Rattle.semantics.specs.Effects.{Store, leave, writes_of}
use Rattle.semantics.specs.Meaning.{exec}
use Rattle.machine.specs.Sessions.{initial_registers}
use Rattle.correctness.specs.Agreement.{Agrees, after}
use Rattle.correctness.proofs.Ruled.{agrees as keeps_source}
use Rattle.sema.specs.Rules.{widths}
use Rattle.compiler.specs.Compile.{Code, CompiledTree}
use Rattle.compiler.proofs.Exact.{tree_of}
use Rattle.driver.specs.Examples.{Outcome, Run, OnMachine, Meant}

module _ (text : List ℕ) (p : Program) (c : Code) (w : CompiledTree text p c) (σ : Store) (there : c.cells ≤ length σ) (m : ℕ) where
  machine : State
  machine = run c.instrs c.depth m (state initial_registers (replicate c.depth 0) σ)

  agrees : Agrees σ (depth (resolve p)) (λ k. exec (resolve p) k σ) machine
  unfolding machine after
  agrees =
      let cells : widths p.decls ≤ length σ = rw w.cells at there in
      let lent : depth (resolve p) ≤ length (replicate (depth (resolve p)) 0) = omega (arith, length-replicate {A = ℕ} (depth (resolve p)) 0) in
      rw (w.depth, w.instrs) ((keeps_source p (replicate (depth (resolve p)) 0) σ w.admitted cells lent).always m)

pub meant : (r : Run) → OnMachine r → r.code.cells ≤ length r.cells → Meant r
unfolding machine
meant r o l =
    let t = tree_of r.text 16383 r.code o.compiles in
    let a = agrees r.text t.0 r.code t.1 r.cells l r.most in
    let k = a.ends r.ending (ap (λ (x : Outcome). x.ending) o.ends) in
    let ws = writes_of (exec (resolve t.0) k.0 r.cells) in
    let n = ap (λ (x : Outcome). x.writes) o.ends in
    let c = ap (λ (x : Outcome). x.cells) o.ends in
    record {
      tree = t.0;
      compiles = t.1;
      bound = k.0;
      ends = k.1;
      writes = k.2 ∙ n;
      left = ap (λ vs. leave vs r.cells) (sym (take_all _ ws (omega (arith, k.2)))) ∙ sym (a.same k.0 (omega (arith, k.2))) ∙ c;
    }
