-- Any list of calls leaves the machine after the steps that it grants.
use Rattle.std.proofs.Common.{◌≡◌, ℕ, zero, suc, ◌+◌, ◌≤◌, min, Bool, true, false, cond, eqb, leb, List, [], ◌∷◌, length, get_or, take, is_some, Some, None, Ok, Option, Result, sym, refl, ap, ◌∙◌, subst, ⊎_elim, arith, length-set}
use Rattle.std.proofs.lemmas.Bool.{cases_lt, eqb-true, leb-true, le-ltb, ne_eqb, true≢false}
use Rattle.base.specs.declared.instr.Instr.{Instr}
use Rattle.base.specs.declared.refusal.Refusal.{Refusal}
use Rattle.base.specs.Refusals.{refuse, then}
use Rattle.ir.specs.Trees.{Body}
use Rattle.codegen.specs.Code.{program, depth}
use Rattle.machine.specs.declared.ending.Ending.{Ending}
use Rattle.machine.specs.Machine.{State, state, step, run}
use Rattle.machine.proofs.Runs.{lawful}
use Rattle.machine.specs.declared.call.Call.{Call}
use Rattle.machine.specs.declared.call.Call.TheVariants.{Resume, Look, Report}
use Rattle.machine.specs.Calls.{state_after_call, state_after_calls}
use Rattle.base.specs.Limits.{most_steps}
use Rattle.machine.specs.Sessions.{start_refusal, resume_refusal, grant, state_after, initial_registers}
use Rattle.semantics.specs.Cells.{Below}
use Rattle.semantics.specs.Effects.{Store, Write, put, writes_of}
use Rattle.semantics.specs.Meaning.{exec, Within}
use Rattle.semantics.proofs.Cells.{confined}
use Rattle.correctness.specs.Agreement.{start, after, Agrees, Keeps}
use Rattle.correctness.specs.Sessions.{limits, EndsIn, Promise}
use Rattle.correctness.proofs.Counted.{Count, going, over, count}
use Rattle.correctness.proofs.Stored.{writes_counted}
use Rattle.correctness.proofs.Whole.{agreement, some_code}

some≢none : {e : Ending} → Some e ≡ None → ⊥
some≢none q = true≢false (ap is_some q)

-- steps change no length
pub record Sized (s t : State) : Type 0 where
  pub stack : length t.stack ≡ length s.stack
  pub cells : length t.cells ≡ length s.cells

sized_step : (P : List Instr) (d : ℕ) (s : State) → Sized s (step P d s)
sized_step P d s =
    record {
      stack = ⊎_elim (λ h. ap length h) (λ h. ap length h.3 ∙ length-set s.stack h.0 h.1) (lawful.pushes P d s);
      cells = ⊎_elim (λ h. ap length h.0) (λ h. ap length h.3 ∙ length-set s.cells h.0 h.1) (lawful.writes P d s);
    }

sized_run : (P : List Instr) (d n : ℕ) (s : State) → Sized s (run P d n s)
unfolding run
sized_run P d zero s = record { stack = refl; cells = refl }
sized_run P d (suc n) s =
    let h = sized_step P d (run P d n s) in
    let k = sized_run P d n s in
    record { stack = h.stack ∙ k.stack; cells = h.cells ∙ k.cells }

-- none of the rows of start refuses
pub fits : (c d n w size : ℕ) → 1 ≤ n → n ≤ 16383 → d ≤ w → c ≤ size → start_refusal c d n w size ≡ Ok tt
fits c d n w size one short lent there = rw (ne_eqb n 0 (λ e. omega arith), le-ltb 16383 n short, le-ltb w d lent, le-ltb size c there)

-- t where nothing refuses, else s
abbrev unless : Result (Unit {0}) Refusal → State → State → State
unless o t s = state_after (then o (λ _. Ok t)) s

-- a resume that is refused for its limit, its ending or its steps would not run either
resumed_runs : (c d : ℕ) (P : List Instr) (limit : ℕ) (s : State) → start_refusal c d (length P) (length s.stack) (length s.cells) ≡ Ok tt → state_after_call c d P (Resume limit) s ≡ run P d (grant limit s) s
unfolding run
resumed_runs c d P limit s fit =
    ap (λ (o : Result (Unit {0}) Refusal). state_after (then o (λ _. then (resume_refusal limit s) (λ _. Ok (run P d (grant limit s) s)))) s) fit ∙ of (eqb limit 0) refl
  where
    stay : grant limit s ≡ 0 → s ≡ run P d (grant limit s) s
    stay e = ap (λ (k : ℕ). run P d k s) (sym e)

    used : (u : Bool) → leb most_steps s.registers.steps ≡ u → unless (cond u (refuse 35 0) (Ok tt)) (run P d (grant limit s) s) s ≡ run P d (grant limit s) s
    used true q = stay (omega (arith, leb-true most_steps s.registers.steps q))
    used false q = refl

    over_by : (o : Option Ending) → s.registers.ending ≡ o → unless (cond (is_some o) (refuse 34 0) (cond (leb most_steps s.registers.steps) (refuse 35 0) (Ok tt))) (run P d (grant limit s) s) s ≡ run P d (grant limit s) s
    over_by (Some e) q = sym (lawful.ended P d (grant limit s) s e q)
    over_by None q = used (leb most_steps s.registers.steps) refl

    of : (z : Bool) → eqb limit 0 ≡ z → unless (cond z (refuse 33 0) (cond (is_some s.registers.ending) (refuse 34 0) (cond (leb most_steps s.registers.steps) (refuse 35 0) (Ok tt)))) (run P d (grant limit s) s) s ≡ run P d (grant limit s) s
    of true q = stay (omega (arith, eqb-true limit 0 q))
    of false q = over_by s.registers.ending refl

module _ (c d : ℕ) (P : List Instr) (s₀ : State) (q₀ : s₀.registers.ending ≡ None) (c₀ : s₀.registers.steps ≡ 0)
    (one : 1 ≤ length P) (short : length P ≤ 16383) (lent : d ≤ length s₀.stack) (there : c ≤ length s₀.cells) where
  -- s is the machine after the steps it has counted, of at most l that were granted
  record Standing (l : ℕ) (s : State) : Type 0 where
    machine : s ≡ run P d s.registers.steps s₀
    below : s.registers.steps ≤ most_steps
    granted : s.registers.steps ≤ l
    all : s.registers.ending ≡ None → s.registers.steps ≡ min most_steps l

  stands_ended : (l m : ℕ) (s : State) (e : Ending) → Standing l s → s.registers.ending ≡ Some e → l ≤ m → Standing m s
  stands_ended l m s e h q r = record { machine = h.machine; below = h.below; granted = omega (arith, h.granted); all = λ z. absurd (some≢none (sym q ∙ z)) }

  stands_count : (l m g : ℕ) (s t : State) → t ≡ run P d g s₀ → g ≤ most_steps → g ≤ m → g ≡ min most_steps m → Count P d s₀ g → Standing m t
  stands_count l m g s t e a b c (going q n f) =
      let k : t.registers.steps ≡ g = ap (λ (x : State). x.registers.steps) e ∙ n in
      record { machine = e ∙ ap (λ (j : ℕ). run P d j s₀) (sym k); below = omega arith; granted = omega arith; all = λ _. k ∙ c }
  stands_count l m g s t e a b c (over x n q r k f h) =
      let w : t.registers.steps ≡ n = ap (λ (x : State). x.registers.steps) e ∙ k in
      record {
        machine = e ∙ sym (h n (omega arith)) ∙ ap (λ (j : ℕ). run P d j s₀) (sym w);
        below = omega arith;
        granted = omega arith;
        all = λ z. absurd (some≢none (sym q ∙ ap (λ (y : State). y.registers.ending) (sym e) ∙ z));
      }

  fits_there : (l : ℕ) (s : State) → Standing l s → start_refusal c d (length P) (length s.stack) (length s.cells) ≡ Ok tt
  fits_there l s h =
      let k = subst (Sized s₀) (sym h.machine) (sized_run P d s.registers.steps s₀) in
      fits c d (length P) (length s.stack) (length s.cells) one short (omega (arith, k.stack)) (omega (arith, k.cells))

  stands_resumed : (l limit : ℕ) (s : State) → Standing l s → (o : Option Ending) → s.registers.ending ≡ o → Standing (limit + l) (state_after_call c d P (Resume limit) s)
  stands_resumed l limit s h (Some e) q =
      subst (Standing (limit + l)) (sym (resumed_runs c d P limit s (fits_there l s h) ∙ lawful.ended P d (grant limit s) s e q)) (stands_ended l (limit + l) s e h q (omega arith))
  stands_resumed l limit s h None q =
      let t = s.registers.steps in
      let g = grant limit s in
      let a = h.all q in
      let e : state_after_call c d P (Resume limit) s ≡ run P d (g + t) s₀ = resumed_runs c d P limit s (fits_there l s h) ∙ ap (run P d g) h.machine ∙ sym (lawful.on P d g t s₀) in
      stands_count l (limit + l) (g + t) s (state_after_call c d P (Resume limit) s) e (omega (arith, h.below)) (omega (arith, a)) (omega (arith, a, h.below)) (count P d s₀ q₀ c₀ (g + t))

  stands_called : (l : ℕ) (xs : List Call) (s : State) → Standing l s → Standing (limits xs + l) (state_after_calls c d P xs s)
  unfolding limits state_after_calls
  stands_called l [] s h = let e : l ≡ 0 + l = omega arith in subst (λ (k : ℕ). Standing k s) e h
  stands_called l (Resume limit ∷ xs) s h =
      let t = state_after_call c d P (Resume limit) s in
      let e : limits xs + (limit + l) ≡ limit + limits xs + l = omega arith in
      subst (λ (k : ℕ). Standing k (state_after_calls c d P xs t)) e (stands_called (limit + l) xs t (stands_resumed l limit s h s.registers.ending refl))
  stands_called l (Look cell ∷ xs) s h = stands_called l xs s h
  stands_called l (Report ∷ xs) s h = stands_called l xs s h

  stands : (xs : List Call) → Standing (limits xs) (state_after_calls c d P xs s₀)
  unfolding run
  stands xs =
      let e : limits xs + 0 ≡ limits xs = omega arith in
      subst (λ (k : ℕ). Standing k (state_after_calls c d P xs s₀)) e
      (stands_called 0 xs s₀ record { machine = ap (λ (j : ℕ). run P d j s₀) (sym c₀); below = omega arith; granted = omega arith; all = λ _. omega arith })

below_take : (n j : ℕ) (ws : List Write) → Below n ws → Below n (take j ws)
below_take n zero ws h = tt
below_take n (suc j) [] h = tt
below_take n (suc j) (put c w ∷ ws) h = (h.0, below_take n j ws h.1)

module _ (b : Body) (c : ℕ) (st : List ℕ) (σ : Store) (within : Within b c) (short : length (program b) ≤ 16383) (lent : depth b ≤ length st) (there : c ≤ length σ) where
  keeps : Keeps b st σ
  keeps = agreement b st σ (confined.more b c (length σ) there within) lent

  -- a machine that has ended after m steps did so in some number of them
  ends_by : (m : ℕ) (e : Ending) → (after b st σ m).registers.ending ≡ Some e → EndsIn b st σ (after b st σ m).registers.steps e
  ends_by m e q =
      let l = keeps.least m e q in
      record {
        ended = ap (λ (x : State). x.registers.ending) (l.4 (after b st σ m).registers.steps (omega (arith, l.2))) ∙ q;
        first = λ j h. l.3 j (omega (arith, l.2));
      }

  -- it ends in one number of steps, and stays as it is from there on
  one_end : (n m : ℕ) (e f : Ending) → EndsIn b st σ n e → EndsIn b st σ m f → n ≡ m
  one_end n m e f p q =
      ⊎_elim (λ h. absurd (some≢none (sym p.ended ∙ q.first n h)))
      (λ h. ⊎_elim (λ k. absurd (some≢none (sym q.ended ∙ p.first m k))) (λ k. omega arith) (cases_lt m n)) (cases_lt n m)

  ended_on : (n m : ℕ) (e : Ending) → EndsIn b st σ n e → n ≤ m → (after b st σ m).registers.ending ≡ Some e
  ended_on n m e p h = let l = keeps.least n e p.ended in ap (λ (x : State). x.registers.ending) (l.4 m (omega (arith, l.1))) ∙ p.ended

  module _ (xs : List Call) where
    here : State
    here = state_after_calls c (depth b) (program b) xs (state initial_registers st σ)

    standing : Standing c (depth b) (program b) (start st σ) refl refl (some_code b) short lent there (limits xs) here
    unfolding here
    standing = stands c (depth b) (program b) (start st σ) refl refl (some_code b) short lent there xs

    is_machine : here ≡ after b st σ here.registers.steps
    unfolding after
    is_machine = standing.machine

    agreed : Agrees σ (depth b) (λ k. exec b k σ) here
    agreed = subst (Agrees σ (depth b) (λ k. exec b k σ)) (sym is_machine) (keeps.always here.registers.steps)

    has_ended : (e : Ending) → here.registers.ending ≡ Some e → EndsIn b st σ here.registers.steps e
    has_ended e q =
        let r = ap (λ (x : State). x.registers.ending) (sym is_machine) ∙ q in
        let s : (after b st σ here.registers.steps).registers.steps ≡ here.registers.steps = ap (λ (x : State). x.registers.steps) (sym is_machine) in
        subst (λ (n : ℕ). EndsIn b st σ n e) s (ends_by here.registers.steps e r)

    counted : (n : ℕ) (e : Ending) → EndsIn b st σ n e → (o : Option Ending) → here.registers.ending ≡ o → here.registers.steps ≡ min most_steps (min (limits xs) n)
    counted n e p (Some f) q = omega (arith, one_end n here.registers.steps e f p (has_ended f q), standing.below, standing.granted)
    counted n e p None q =
        ⊎_elim (λ h. omega (arith, standing.all q))
        (λ h. absurd (some≢none (sym (ended_on n here.registers.steps e p h) ∙ ap (λ (x : State). x.registers.ending) (sym is_machine) ∙ q)))
        (cases_lt here.registers.steps n)

    counted_on : ((n : ℕ) (e : Ending) → EndsIn b st σ n e → ⊥) → (o : Option Ending) → here.registers.ending ≡ o → here.registers.steps ≡ min most_steps (limits xs)
    counted_on f None q = standing.all q
    counted_on f (Some e) q = absurd (f here.registers.steps e (has_ended e q))

    -- the writes are into the source's cells
    kept_others : (i : ℕ) → c ≤ i → get_or here.cells i 0 ≡ get_or σ i 0
    kept_others i h =
        let k = agreed.reached in
        let ws = take here.registers.writes (writes_of (exec b k.0 σ)) in
        ap (λ (τ : Store). get_or τ i 0) (agreed.same k.0 k.1) ∙ confined.others c ws (below_take c here.registers.writes (writes_of (exec b k.0 σ)) (confined.own b c within k.0 σ)) σ i h

    promise : Promise b c st σ (limits xs) (state_after_calls c (depth b) (program b) xs (state initial_registers st σ))
    unfolding here
    promise =
        record {
          store = record { writes = ap (λ (x : State). x.registers.writes) is_machine ∙ writes_counted b st σ here.registers.steps; reached = agreed.reached; cells = agreed.same };
          endings = record { sound = agreed.sound; low = agreed.low };
          end =
              record {
                steps = λ n e p. counted n e p here.registers.ending refl;
                going = λ f. counted_on f here.registers.ending refl;
                ended = has_ended;
                ending = λ n e p q. ap (λ (x : State). x.registers.ending) (is_machine ∙ ap (after b st σ) q) ∙ p.ended;
                source = agreed.ends;
                ends = λ k e q. let m = keeps.ending k e q in ((after b st σ m.0).registers.steps, ends_by m.0 e m.1);
                back = λ n e p. let k = (keeps.always n).ends e p.ended in (k.0, k.1);
              };
          machine = is_machine;
          others = kept_others;
        }

pub kept : (b : Body) (c : ℕ) (st : List ℕ) (σ : Store) → Within b c → length (program b) ≤ 16383 → depth b ≤ length st → c ≤ length σ → (xs : List Call) →
    Promise b c st σ (limits xs) (state_after_calls c (depth b) (program b) xs (state initial_registers st σ))
kept = promise
