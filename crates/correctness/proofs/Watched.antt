-- What is seen of the machine in m steps: its writes, and its ending.
use Rattle.std.proofs.Common.{◌≡◌, ℕ, zero, suc, ◌+◌, ◌≤◌, List, [], ◌++◌, length, Some, None, Option, Result, sym, refl, ap, ◌∙◌, subst, append_assoc, suc-add, zero-add, arith, length-append}
use Rattle.base.specs.declared.instr.Instr.{Instr}
use Rattle.machine.specs.declared.ending.Ending.{Ending}
use Rattle.machine.specs.Machine.{State, goes, one_step_more, with_ending as EndedBy, state_or_ending, unless_ended, step, run}
use Rattle.machine.proofs.Runs.{lawful}
use Rattle.semantics.specs.Effects.{Store, Write, leave}
use Rattle.semantics.proofs.Stores.{leave_append}
use Rattle.correctness.proofs.Moves.{Pos, Way, on, halt, move}
use Rattle.correctness.proofs.Runs.{Run, stay, go}
use Rattle.correctness.proofs.Simulated.{view, Tells, tells_on, tells_halt, tells}

pub data Seen : Type 0 where
  seen : List Write → Option Ending → Seen

abbrev pub written : Seen → List Write
written (seen ws e) = ws

abbrev pub ended : Seen → Option Ending
ended (seen ws e) = e

abbrev pub more_seen : List Write → Seen → Seen
more_seen ws (seen vs e) = seen (ws ++ vs) e

-- what a step shows, with f for what is seen from there on
abbrev watched : (Pos → Store → Seen) → Way → Store → Seen
watched f (on ws c) σ = more_seen ws (f c (leave ws σ))
watched f (halt e) σ = seen [] (Some e)

more_more : (ws vs : List Write) (s : Seen) → more_seen ws (more_seen vs s) ≡ more_seen (ws ++ vs) s
more_more ws vs (seen us e) = rw append_assoc

-- s goes on as t: what it wrote is the beginning, and if it has ended, it is the same
abbrev pub GoesOn : Seen → Seen → Type 0
GoesOn s t = ((vs : List Write) × (written t ≡ written s ++ vs)) × ((e : Ending) → ended s ≡ Some e → t ≡ s)

goes_more : (ws : List Write) (s t : Seen) → GoesOn s t → GoesOn (more_seen ws s) (more_seen ws t)
goes_more ws (seen us e) (seen vs f) h = ((h.0.0, rw append_assoc (ap (λ l. ws ++ l) h.0.1)), λ x q. ap (more_seen ws) (h.1 x q))

more_none : (s : Seen) → s ≡ more_seen [] s
more_none (seen us e) = refl

-- x shows what was seen, from a machine with the store σ and w writes on
pub record Shows (σ : Store) (w : ℕ) (s : Seen) (x : State) : Type 0 where
  pub cells : x.cells ≡ leave (written s) σ
  pub writes : x.registers.writes ≡ w + length (written s)
  pub ending : x.registers.ending ≡ ended s

shows_more : (σ : Store) (w : ℕ) (ws : List Write) (s : Seen) (x : State) → Shows (leave ws σ) (w + length ws) s x → Shows σ w (more_seen ws s) x
shows_more σ w ws (seen vs e) x h = record { cells = h.cells ∙ sym (leave_append ws vs σ); writes = omega (arith, h.writes, length-append ws vs); ending = h.ending }

module _ (P : List Instr) (d n : ℕ) where
  unfoldable pub watch : ℕ → Pos → Store → Seen
  watch zero c σ = seen [] None
  watch (suc m) c σ = watched (watch m) (move P d c σ) σ

  pub watch_run : {m : ℕ} {c c' : Pos} {σ : Store} {ws : List Write} (j : ℕ) → Run P d n m c σ ws c' → watch (m + j) c σ ≡ more_seen ws (watch j c' (leave ws σ))
  unfolding watch
  watch_run {c = c} {σ = σ} j stay = rw (zero-add j) (more_none (watch j c σ))
  watch_run j (go {m = m} {c₁ = c₁} {c₂ = c₂} {σ = σ} {ws = ws} {vs = vs} e r) =
      rw (suc-add m j, e, watch_run j r, leave_append ws vs σ) (more_more ws vs (watch j c₂ (leave vs (leave ws σ))))

  pub watch_halt : (c : Pos) (σ : Store) {e : Ending} (j : ℕ) → move P d c σ ≡ halt e → watch (suc j) c σ ≡ seen [] (Some e)
  unfolding watch
  watch_halt c σ j q = rw q

  watched_more : (m j : ℕ) (σ : Store) (v : Way) → ((c : Pos) (τ : Store) → GoesOn (watch m c τ) (watch (m + j) c τ)) → GoesOn (watched (watch m) v σ) (watched (watch (m + j)) v σ)
  watched_more m j σ (on ws c) f = goes_more ws (watch m c (leave ws σ)) (watch (m + j) c (leave ws σ)) (f c (leave ws σ))
  watched_more m j σ (halt e) f = (([], refl), λ x q. refl)

  pub watch_more : (m j : ℕ) (c : Pos) (σ : Store) → GoesOn (watch m c σ) (watch (m + j) c σ)
  unfolding watch
  watch_more zero j c σ = ((written (watch (zero + j) c σ), refl), λ e q. absurd (let z : ◌≡◌ {A = ℕ} 0 1 = cc in omega arith))
  watch_more (suc m) j c σ = rw (suc-add m j) (watched_more m j σ (move P d c σ) (λ c₁ τ. watch_more m j c₁ τ))

  run_front : (m : ℕ) (x : State) → run P d (suc m) x ≡ run P d m (step P d x)
  unfolding run
  run_front m x = let e : suc m ≡ m + 1 = omega arith in ap (λ (k : ℕ). run P d k x) e ∙ lawful.on P d m 1 x

  -- what the machine does next is what is seen next
  shows_tells : (m : ℕ) (x : State) (v : Way) (r : Result State Ending) → Tells x v r → x.registers.ending ≡ None → d ≤ length x.stack →
      ((y : State) → y.registers.ending ≡ None → d ≤ length y.stack → Shows y.cells y.registers.writes (watch m (view y) y.cells) (run P d m y)) →
      Shows x.cells x.registers.writes (watched (watch m) v x.cells) (run P d m (state_or_ending r x))
  shows_tells m x v r (tells_on {ws = ws} {c = c} {t = t} a b w e s) q l f =
      let h₀ = f t (e ∙ q) (omega arith) in
      let h₁ = subst (λ (p : Pos). Shows t.cells t.registers.writes (watch m p t.cells) (run P d m t)) a h₀ in
      let h₂ = subst (λ (τ : Store). Shows τ t.registers.writes (watch m c τ) (run P d m t)) b h₁ in
      let h₃ = subst (λ (k : ℕ). Shows (leave ws x.cells) k (watch m c (leave ws x.cells)) (run P d m t)) w h₂ in
      shows_more x.cells x.registers.writes ws (watch m c (leave ws x.cells)) (run P d m t) h₃
  shows_tells m x v r (tells_halt {e = e}) q l f =
      rw (lawful.ended P d m (EndedBy e x) e refl) (record { cells = refl; writes = omega arith; ending = refl })

  steps_so : (x : State) → x.registers.ending ≡ None → step P d x ≡ state_or_ending (goes P d (one_step_more x)) (one_step_more x)
  unfolding step
  steps_so x q = ap (λ (o : Option Ending). unless_ended P d x o) q

  pub shows : (m : ℕ) (x : State) → x.registers.ending ≡ None → d ≤ length x.stack → Shows x.cells x.registers.writes (watch m (view x) x.cells) (run P d m x)
  unfolding watch run
  shows zero x q l = record { cells = refl; writes = omega arith; ending = q }
  shows (suc m) x q l =
      subst (Shows x.cells x.registers.writes (watched (watch m) (move P d (view x) x.cells) x.cells)) (sym (run_front m x ∙ ap (run P d m) (steps_so x q)))
      (shows_tells m (one_step_more x) (move P d (view x) x.cells) (goes P d (one_step_more x)) (tells P d (one_step_more x) l) q l (λ y r s. shows m y r s))
