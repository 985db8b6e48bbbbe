-- A session of what a source is compiled to keeps the promise of the source. Assumes nothing.
use Rattle.std.proofs.Common.{◌≡◌, ℕ, ◌<◌, ◌≤◌, min, Bool, true, false, ◌⊎◌, cond, ltb, List, length, Ok, Err, Result, refl, inl, inr, arith}
use Rattle.std.proofs.lemmas.Bool.{ltb-true, ltb-false, ne_eqb, le-ltb}
use Rattle.ast.specs.Trees.{Program}
use Rattle.codegen.specs.Code.{program, depth}
use Rattle.sema.specs.Resolving.{resolve}
use Rattle.compiler.specs.Compile.{Code, compilation, CompiledTree}
use Rattle.compiler.proofs.Exact.{tree_of}
use Rattle.machine.specs.Machine.{state}
use Rattle.machine.specs.declared.call.Call.{Call}
use Rattle.machine.specs.Sessions.{start_refusal, initial_registers}
use Rattle.machine.specs.Calls.{state_after_calls, calls_in}
use Rattle.machine.specs.declared.session.Session.{Session}
use Rattle.base.specs.declared.code.Code.{Code as CodeSlice}
use Rattle.base.specs.declared.refusal.Refusal.{Refusal}
use Rattle.base.specs.Refusals.{refuse}
use Rattle.correctness.specs.Sessions.{limits, Promise}
use Rattle.driver.specs.Trials.{Lending, code_of_slice, Makes, TrialRuns, Lacks, StartIsRefused}
use Rattle.driver.specs.Promised.{IsServed, KeepsThePromise}
use Rattle.correctness.proofs.Calls.{fits}
use Rattle.correctness.proofs.Ruled.{keeps_step}
use Rattle.sema.specs.Rules.{widths}
use Rattle.correctness.proofs.Whole.{some_code}

-- the rows of start, for the stack and the store, and all three
abbrev lent_rows : (b e : Bool) → Result (Unit {0}) Refusal
lent_rows b e = cond b (refuse 31 0) (cond e (refuse 32 0) (Ok tt))

abbrev rows : (a b e : Bool) → Result (Unit {0}) Refusal
rows a b e = cond a (refuse 30 0) (lent_rows b e)

-- what fits is refused by no row
passes : (a b e : Bool) → rows a b e ≡ Ok tt → (b ≡ false) × (e ≡ false)
passes true b e h = absurd cc
passes false true e h = absurd cc
passes false false true h = absurd cc
passes false false false h = (refl, refl)

pub roomy : (c d n w size : ℕ) → start_refusal c d n w size ≡ Ok tt → (d ≤ w) × (c ≤ size)
roomy c d n w size h =
    let q = passes _ _ _ h in
    (omega (arith, ltb-false w d q.0), omega (arith, ltb-false size c q.1))

-- a code that has instructions, and not too many, is refused for its stack or its store
lacking : (c d w size : ℕ) (b e : Bool) (r : Refusal) → ltb w d ≡ b → ltb size c ≡ e → lent_rows b e ≡ Err r →
    ((w < d) × (r ≡ record { number = 31; place = 0 })) ⊎ ((d ≤ w) × (size < c) × (r ≡ record { number = 32; place = 0 }))
lacking c d w size true e r p q h = inl (ltb-true w d p, cc)
lacking c d w size false true r p q h = inr (omega (arith, ltb-false w d p), ltb-true size c q, cc)
lacking c d w size false false r p q h = absurd cc

lacks : (c : Code) (w size : ℕ) (r : Refusal) → 1 ≤ length c.instrs → length c.instrs ≤ 16383 → start_refusal c.cells c.depth (length c.instrs) w size ≡ Err r → Lacks c w size r
lacks c w size r one short h =
    lacking c.cells c.depth w size (ltb w c.depth) (ltb size c.cells) r refl refl (rw (ne_eqb (length c.instrs) 0 (λ e. omega arith), le-ltb 16383 (length c.instrs) short) at h)

module _ (source : List ℕ) (p : Program) (c : Code) (w : CompiledTree source p c) (short : length c.instrs ≤ 16383) where
  some : 1 ≤ length c.instrs
  some = rw w.instrs (some_code (resolve p))

  keeps : (st σ : List ℕ) → c.depth ≤ length st → c.cells ≤ length σ → (xs : List Call) →
      Promise (resolve p) c.cells st σ (limits xs) (state_after_calls c.cells c.depth c.instrs xs (state initial_registers st σ))
  keeps st σ d n xs =
      let low : length (program (resolve p)) ≤ 16383 = rw w.instrs at short in
      let lent : depth (resolve p) ≤ length st = rw w.depth at d in
      let there : widths p.decls ≤ length σ = rw w.cells at n in
      rw (w.cells, w.depth, w.instrs) (keeps_step p st σ w.admitted low lent there xs)

  serves : IsServed source c
  serves =
      record {
        tree = p;
        written = w;
        starts = λ st σ d n. fits c.cells c.depth (length c.instrs) (length st) (length σ) some short d n;
        keeps = keeps;
      }

short_code : (source : List ℕ) (room : ℕ) (c : Code) → compilation source room ≡ Ok c → length c.instrs ≤ 16383
short_code source room c e =
    let n : length c.instrs ≤ min 16383 room = (tree_of source room c e).2 in
    omega (arith, n)

pub promised : KeepsThePromise
promised source room c e = let t = tree_of source room c e in serves source t.0 c t.1 (short_code source room c e)

pub tried : (source : List ℕ) (b a : Lending) (l : CodeSlice) (x : Session) → compilation source 16383 ≡ Ok (code_of_slice l) → Makes (Ok x) l b a → TrialRuns source b a x
tried source b a l x e m =
    let c = code_of_slice l in
    let s = promised source 16383 c e in
    let r = roomy c.cells c.depth (length c.instrs) (length b.stack) (length b.cells) m.0 in
    let k : (ys : List Call) → Promise (resolve s.tree) c.cells b.stack b.cells (limits ys) (state_after_calls c.cells c.depth c.instrs ys (state initial_registers b.stack b.cells)) =
    λ ys. s.keeps b.stack b.cells r.0 r.1 ys in
    record {
      tree = s.tree;
      code = c;
      accepted = e;
      written = s.written;
      fits = m.0;
      cells = m.1;
      depth = m.2;
      calls = m.3;
      answers = m.4;
      left = m.5;
      kept = rw m.5 (k (calls_in b.exchanges));
      each = λ front _ _. k front;
    }

pub unstarted : (source : List ℕ) (b : Lending) (l : CodeSlice) (r : Refusal) → compilation source 16383 ≡ Ok (code_of_slice l) →
    start_refusal l.cells l.depth (length l.instructions.now) (length b.stack) (length b.cells) ≡ Err r → StartIsRefused source b r
unstarted source b l r e h =
    let c = code_of_slice l in
    let t = tree_of source 16383 c e in
    let short = short_code source 16383 c e in
    record { code = c; accepted = e; lacks = lacks c (length b.stack) (length b.cells) r (some source t.0 c t.1 short) short h }
