-- A larger bound changes nothing that was done, and nothing at all once the source has ended.
use Rattle.std.proofs.Common.{◌≡◌, ℕ, zero, suc, ◌≤◌, Bool, true, false, List, [], ◌++◌, Ok, Err, Result, sym, refl, append_assoc, append-nil, arith}
use Rattle.arith.specs.declared.stop.Stop.{Stop}
use Rattle.ir.specs.Trees.{Stmt, assign, fill, deposit, deposit_at, when, either, while, repeat, for, case, Body, end, then, Arms, last, arm}
use Rattle.semantics.specs.Effects.{Store, Write, leave, Effect, effect, cut, writes_of, M, before, onward, bind, meets, loop, until}
use Rattle.semantics.specs.Meaning.{exec_s, exec, choice}
use Rattle.semantics.specs.Bounds.{BoundsHold}
use Rattle.semantics.proofs.Stores.{leave_append}

-- y' is y, or goes on where y was cut
data Below {A : Type 0} : Effect A → Effect A → Type 0 where
  same : {y : Effect A} → Below y y
  longer : {ws : List Write} (z : Effect A) → Below (cut ws) (before ws z)

abbrev Less : {A : Type 0} → M A → M A → Type 0
Less x x' = (σ : Store) → Below (x σ) (x' σ)

before_before : {A : Type 0} (ws vs : List Write) (z : Effect A) → before ws (before vs z) ≡ before (ws ++ vs) z
before_before ws vs (effect us o) = rw append_assoc
before_before ws vs (cut us) = rw append_assoc

below_before : {A : Type 0} (ws : List Write) {y y' : Effect A} → Below y y' → Below (before ws y) (before ws y')
below_before ws same = same
below_before ws (longer {ws = vs} z) = rw (before_before ws vs z) (longer z)

before_onward : {A B : Type 0} (ws : List Write) (z : Effect A) (f : A → M B) (σ : Store) → onward (before ws z) f σ ≡ before ws (onward z f (leave ws σ))
unfolding onward
before_onward ws (effect vs (Ok a)) f σ = rw (leave_append ws vs σ) (sym (before_before ws vs (f a (leave vs (leave ws σ)))))
before_onward ws (effect vs (Err e)) f σ = refl
before_onward ws (cut vs) f σ = refl

below_onward : {A B : Type 0} {y y' : Effect A} (f f' : A → M B) (σ : Store) → Below y y' → ((a : A) → Less (f a) (f' a)) → Below (onward y f σ) (onward y' f' σ)
unfolding onward
below_onward {y = effect ws (Ok a)} f f' σ same h = below_before ws (h a (leave ws σ))
below_onward {y = effect ws (Err e)} f f' σ same h = same
below_onward {y = cut ws} f f' σ same h = same
below_onward f f' σ (longer {ws = ws} z) h = rw (before_onward ws z f' σ) (longer (onward z f' (leave ws σ)))

less_bind : {A B : Type 0} {x x' : M A} {f f' : A → M B} → Less x x' → ((a : A) → Less (f a) (f' a)) → Less (bind x f) (bind x' f')
unfolding bind
less_bind {f = f} {f' = f'} hx hf σ = below_onward f f' σ (hx σ) hf

like : {A : Type 0} (x : M A) → Less x x
like x σ = same

before_none : {A : Type 0} (z : Effect A) → before [] z ≡ z
before_none (effect ws o) = refl
before_none (cut ws) = refl

less_meets : {A : Type 0} (x : M A) → Less meets x
unfolding meets
less_meets x σ = rw (before_none (x σ)) at (longer {ws = []} (x σ))

less_loop : (j j' : ℕ) → j ≤ j' → (t : M Bool) {b b' : M (Unit {0})} → Less b b' → Less (loop j t b) (loop j' t b')
unfolding loop
less_loop zero zero l t h = like _
less_loop zero (suc j') l t h = less_bind (like t) (elim [ true ↦ less_meets _ | false ↦ like _ ])
less_loop (suc j) zero l t h = absurd (omega arith)
less_loop (suc j) (suc j') l t h = less_bind (like t) (elim [ true ↦ less_bind h (λ _. less_loop j j' (omega arith) t h) | false ↦ like _ ])

less_until : (j j' : ℕ) → j ≤ j' → (t : M Bool) {b b' : M (Unit {0})} → Less b b' → Less (until j b t) (until j' b' t)
unfolding until
less_until zero j' l t h = less_meets _
less_until (suc j) zero l t h = absurd (omega arith)
less_until (suc j) (suc j') l t h = less_bind h (λ _. less_bind (like t) (elim [ true ↦ like _ | false ↦ less_until j j' (omega arith) t h ]))

mutual
  unfolding exec

  bounds_s : (s : Stmt) (k j : ℕ) → k ≤ j → Less (exec_s s k) (exec_s s j)
  bounds_s (assign c e) k j l = like _
  bounds_s (fill b n i e) k j l = like _
  bounds_s (deposit c a m e) k j l = like _
  bounds_s (deposit_at b n i a m e) k j l = like _
  bounds_s (when c b) k j l = less_bind (like _) (elim [ true ↦ bounds b k j l | false ↦ like _ ])
  bounds_s (either c b d) k j l = less_bind (like _) (elim [ true ↦ bounds b k j l | false ↦ bounds d k j l ])
  bounds_s (while c b) k j l = less_loop k j l _ (bounds b k j l)
  bounds_s (repeat b c) k j l = less_until k j l _ (bounds b k j l)
  bounds_s (for c e s u b) k j l =
      less_bind (like _) (λ _. less_bind (like _) (λ _. less_bind (like _) (λ _. less_bind (like _) (λ _. less_loop k j l _ (less_bind (bounds b k j l) (λ _. like _))))))
  bounds_s (case e a) k j l = less_bind (like _) (λ _. less_bind (like _) (λ i. bounds_a a k j l i))

  bounds : (b : Body) (k j : ℕ) → k ≤ j → Less (exec b k) (exec b j)
  bounds end k j l = like _
  bounds (then s b) k j l = less_bind (bounds_s s k j l) (λ _. bounds b k j l)

  bounds_a : (a : Arms) (k j : ℕ) → k ≤ j → (i : ℕ) → Less (choice a k i) (choice a j i)
  bounds_a (last b) k j l i = bounds b k j l
  bounds_a (arm b a) k j l zero = bounds b k j l
  bounds_a (arm b a) k j l (suc i) = bounds_a a k j l i

goes_further : {y y' : Effect (Unit {0})} → Below y y' → (vs : List Write) × (writes_of y' ≡ writes_of y ++ vs)
goes_further same = ([], sym (append-nil _))
goes_further (longer (effect vs o)) = (vs, refl)
goes_further (longer (cut vs)) = (vs, refl)

stays_ended : {y y' : Effect (Unit {0})} → Below y y' → (ws : List Write) (o : Result (Unit {0}) Stop) → y ≡ effect ws o → y' ≡ effect ws o
stays_ended same ws o q = q
stays_ended (longer z) ws o q = absurd (let w : ◌≡◌ {A = ℕ} 0 1 = cc in omega arith)

pub bounded : BoundsHold
bounded = record { further = λ b σ k j l. goes_further (bounds b k j l σ); settled = λ b σ k j l. stays_ended (bounds b k j l σ) }
