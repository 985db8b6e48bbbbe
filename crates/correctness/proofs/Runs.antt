-- Runs of the machine, and how they compose.
use Rattle.std.proofs.Common.{◌≡◌, ℕ, zero, suc, ◌+◌, ◌≤◌, Bool, true, false, ltb, List, [], ◌∷◌, ◌++◌, length, get_or, Ok, Err, refl, ◌∙◌, append_assoc, append-nil, suc-add, zero-add, arith}
use Rattle.arith.specs.declared.stop.Stop.{Stop}
use Rattle.base.specs.declared.instr.Instr.{Instr}
use Rattle.base.specs.Heights.{height}
use Rattle.machine.specs.declared.ending.Ending.TheVariants.{Stopped}
use Rattle.semantics.specs.Effects.{Store, Write, leave, Effect, effect, cut, M, before, onward, bind, ret, meets, ActAnswer, did, fails, Act, effect_of, prim, loop, until}
use Rattle.semantics.proofs.Stores.{leave_append, length_leave}
use Rattle.correctness.proofs.Moves.{Pos, at, on, halt, lay, acting, blank, move, leads}

-- P is the program, d its depth, n the number of cells
module _ (P : List Instr) (d n : ℕ) where
  -- m steps from c and σ lead to c', with the writes ws
  pub data Run : ℕ → Pos → Store → List Write → Pos → Type 0 where
    stay : {c : Pos} {σ : Store} → Run 0 c σ [] c
    go : {m : ℕ} {c c₁ c₂ : Pos} {σ : Store} {ws vs : List Write} → move P d c σ ≡ on ws c₁ → Run m c₁ (leave ws σ) vs c₂ → Run (suc m) c σ (ws ++ vs) c₂

  join : {m j : ℕ} {c c₁ c₂ : Pos} {σ : Store} {ws vs : List Write} → Run m c σ ws c₁ → Run j c₁ (leave ws σ) vs c₂ → Run (m + j) c σ (ws ++ vs) c₂
  join {j = j} stay r = rw (zero-add j) r
  join {j = j} {c₁ = c₁} {c₂ = c₂} {vs = vs} (go {m = m} {σ = σ} {ws = us} {vs = ws} e q) r =
      rw (suc-add m j, append_assoc us ws vs) (go e (join q (rw (leave_append us ws σ) at r)))

  -- c leads to what the effect says: to g of the answer in j steps or more; to a step that stops; or the bound was met, and k steps or more were made
  pub data Got {A : Type 0} (j k : ℕ) (c : Pos) (σ : Store) (g : A → Pos) : Effect A → Type 0 where
    arrives : {m : ℕ} {ws : List Write} {a : A} → Run m c σ ws (g a) → j ≤ m → Got j k c σ g (effect ws (Ok a))
    stops : {m : ℕ} {ws : List Write} {e : Stop} {c' : Pos} → Run m c σ ws c' → move P d c' (leave ws σ) ≡ halt (Stopped e) → Got j k c σ g (effect ws (Err e))
    cuts : {m : ℕ} {ws : List Write} {c' : Pos} → Run m c σ ws c' → k ≤ m → Got j k c σ g (cut ws)

  abbrev pub Lands : {A : Type 0} → ℕ → ℕ → Pos → M A → (A → Pos) → Type 0
  Lands j k c x g = (σ : Store) → length σ ≡ n → Got j k c σ g (x σ)

  prefix : {B : Type 0} {m i j k l : ℕ} {c c₁ : Pos} {σ : Store} {ws : List Write} {g : B → Pos} {y : Effect B} →
      Run m c σ ws c₁ → i ≤ m → Got j k c₁ (leave ws σ) g y → l ≤ i + k → Got (i + j) l c σ g (before ws y)
  prefix r h (arrives q h') lk = arrives (join r q) (omega arith)
  prefix {σ = σ} {ws = ws} r h (stops {ws = vs} q e) lk = stops (join r q) (rw (leave_append ws vs σ) e)
  prefix r h (cuts q h') lk = cuts (join r q) (omega arith)

  then : {A B : Type 0} {i j k k' l : ℕ} {c : Pos} {σ : Store} {g : A → Pos} {g' : B → Pos} {y : Effect A} (f : A → M B) →
      Got i k c σ g y → length σ ≡ n → ((ws : List Write) (a : A) → y ≡ effect ws (Ok a) → Lands j k' (g a) (f a) g') → l ≤ k → l ≤ i + k' → Got (i + j) l c σ g' (onward y f σ)
  unfolding onward
  then {σ = σ} f (arrives {ws = ws} {a = a} r h) s hf lk lk' = prefix r h (hf ws a refl (leave ws σ) (length_leave ws σ ∙ s)) lk'
  then f (stops r e) s hf lk lk' = stops r e
  then f (cuts r h) s hf lk lk' = cuts r (omega arith)

  -- fewer steps promised
  lower : {A : Type 0} {i j k l : ℕ} {c : Pos} {σ : Store} {g : A → Pos} {y : Effect A} → Got i k c σ g y → j ≤ i → l ≤ k → Got j l c σ g y
  lower (arrives r h) p q = arrives r (omega arith)
  lower (stops r e) p q = stops r e
  lower (cuts r h) p q = cuts r (omega arith)

  -- x, then f of its answer: in general; then as it is mostly used; then with what is known of the answer
  pub lands_bind⁺ : {A B : Type 0} {i j k k' l : ℕ} {c : Pos} {g : A → Pos} {g' : B → Pos} {x : M A} {f : A → M B} →
      Lands i k c x g → ((a : A) → Lands j k' (g a) (f a) g') → l ≤ k → l ≤ i + k' → Lands (i + j) l c (bind x f) g'
  unfolding bind
  lands_bind⁺ {f = f} hx hf lk lk' σ s = then f (hx σ s) s (λ _ a _. hf a) lk lk'

  pub lands_bind : {A B : Type 0} {i j k : ℕ} {c : Pos} {g : A → Pos} {g' : B → Pos} {x : M A} {f : A → M B} →
      Lands i k c x g → ((a : A) → Lands j k (g a) (f a) g') → Lands 0 k c (bind x f) g'
  lands_bind {i = i} {j = j} {k = k} hx hf σ s = lower {k = k} (lands_bind⁺ {i = i} {j = j} {k = k} {k' = k} {l = k} hx hf (omega arith) (omega arith) σ s) (omega arith) (omega arith)

  pub lands_bind₁ : {A B : Type 0} {j k : ℕ} {c : Pos} {g : A → Pos} {g' : B → Pos} {x : M A} {f : A → M B} →
      Lands 1 k c x g → ((a : A) → Lands j k (g a) (f a) g') → Lands 1 k c (bind x f) g'
  lands_bind₁ {j = j} {k = k} hx hf σ s = lower {k = k} (lands_bind⁺ {i = 1} {j = j} {k = k} {k' = k} {l = k} hx hf (omega arith) (omega arith) σ s) (omega arith) (omega arith)

  pub ease : {A : Type 0} {i k : ℕ} {c : Pos} {x : M A} {g : A → Pos} → Lands i k c x g → Lands 0 k c x g
  ease {k = k} hx σ s = lower {k = k} (hx σ s) (omega arith) (omega arith)

  pub lands_bind_if : {A B : Type 0} {k : ℕ} {c : Pos} {g : A → Pos} {g' : B → Pos} {x : M A} {f : A → M B} (Q : A → Type 0) →
      Lands 1 k c x g → ((σ : Store) (ws : List Write) (a : A) → x σ ≡ effect ws (Ok a) → Q a) → ((a : A) → Q a → Lands 0 k (g a) (f a) g') → Lands 0 k c (bind x f) g'
  unfolding bind
  lands_bind_if {k = k} {f = f} Q hx hq hf σ s = then {i = 0} {j = 0} {k = k} {k' = k} {l = k} f (ease hx σ s) s (λ ws a e. hf a (hq σ ws a e)) (omega arith) (omega arith)

  pub lands_ret : {A : Type 0} {k : ℕ} {g : A → Pos} (a : A) → Lands 0 k (g a) (ret a) g
  unfolding ret
  lands_ret a σ s = arrives stay (omega arith)

  -- these instructions stand at p, and there is room for what each leaves, from the height h on
  pub data Placed : ℕ → ℕ → List Instr → Type 0 where
    nothing : {p h : ℕ} → Placed p h []
    place : {p h : ℕ} {i : Instr} {is : List Instr} → ltb p (length P) ≡ true → get_or P p blank ≡ i → height i h ≤ d → Placed (suc p) (height i h) is → Placed p h (i ∷ is)

  pub next : {p h : ℕ} {i : Instr} {is : List Instr} → Placed p h (i ∷ is) → Placed (suc p) (height i h) is
  next (place l e t r) = r

  pub room : {p h : ℕ} {i : Instr} {is : List Instr} → Placed p h (i ∷ is) → height i h ≤ d
  room (place l e t r) = t

  once : {c c₁ : Pos} {σ : Store} {ws : List Write} → move P d c σ ≡ on ws c₁ → Run 1 c σ ws c₁
  once {c₁ = c₁} {ws = ws} e = rw append-nil at (go e (stay {c = c₁} {σ = leave ws _}))

  pub acts : {i : Instr} {is : List Instr} {p h : ℕ} (st : List ℕ) → Placed p h (i ∷ is) → (σ : Store) → move P d (at p st) σ ≡ lay d p st σ (acting i p st σ)
  unfolding move
  acts st (place l e t r) σ = rw (l, e)

  did_lands : {A : Type 0} {k : ℕ} {c : Pos} {σ : Store} {g : A → Pos} (y : ActAnswer A) → move P d c σ ≡ leads y g → Got 1 k c σ g (effect_of y)
  did_lands (did ws a) e = arrives (once e) (omega arith)
  did_lands (fails x) e = stops stay e

  -- one instruction, which does the act x
  pub does : {A : Type 0} {k p h : ℕ} {i : Instr} {is : List Instr} (st : List ℕ) (x : Act A) {g : A → Pos} →
      Placed p h (i ∷ is) → ((σ : Store) → length σ ≡ n → lay d p st σ (acting i p st σ) ≡ leads (x σ) g) → Lands 1 k (at p st) (prim x) g
  unfolding prim
  does st x pl a σ l = did_lands (x σ) (acts st pl σ ∙ a σ l)

  -- an instruction that answers nothing and writes nothing, which no part of the source stands for
  abbrev pub Quiet : Pos → Pos → Type 0
  Quiet c c₁ = (σ : Store) → length σ ≡ n → move P d c σ ≡ on [] c₁

  unbefore : {A : Type 0} {j k : ℕ} {c : Pos} {σ : Store} {g : A → Pos} (y : Effect A) → Got j k c σ g (before [] y) → Got j k c σ g y
  unbefore (effect ws o) r = r
  unbefore (cut ws) r = r

  pub lands_pre : {A : Type 0} {k : ℕ} {c c₁ : Pos} {x : M A} {g : A → Pos} → Quiet c c₁ → Lands 0 k c₁ x g → Lands 0 k c x g
  lands_pre {k = k} {x = x} q hx σ l = unbefore (x σ) (prefix {i = 0} {j = 0} {k = k} {l = k} (once (q σ l)) (omega arith) (hx σ l) (omega arith))

  then_quiet : {A : Type 0} {k : ℕ} {c : Pos} {σ : Store} {g g' : A → Pos} {y : Effect A} → ((a : A) → Quiet (g a) (g' a)) → length σ ≡ n → Got 0 k c σ g y → Got 1 k c σ g' y
  then_quiet {σ = σ} q s (arrives {ws = ws} {a = a} r h) = arrives (rw append-nil at (join r (once (q a (leave ws σ) (length_leave ws σ ∙ s))))) (omega arith)
  then_quiet q s (stops r e) = stops r e
  then_quiet q s (cuts r h) = cuts r h

  pub lands_post : {A : Type 0} {k : ℕ} {c : Pos} {x : M A} {g g' : A → Pos} → Lands 0 k c x g → ((a : A) → Quiet (g a) (g' a)) → Lands 1 k c x g'
  lands_post hx q σ l = then_quiet q l (hx σ l)

  pub lands_ends : {A : Type 0} {k : ℕ} {c : Pos} {x : M A} {g g' : A → Pos} → Lands 0 k c x g → ((a : A) → Quiet (g a) (g' a)) → Lands 0 k c x g'
  lands_ends {k = k} hx q σ l = lower {k = k} (lands_post hx q σ l) (omega arith) (omega arith)

  lands_meets : {c : Pos} {g : Unit {0} → Pos} → Lands 0 0 c meets g
  unfolding meets
  lands_meets σ s = cuts stay (omega arith)

  -- a loop: the test is at c; if it holds, the turn leads back to c
  pub lands_loop : {i k : ℕ} (j : ℕ) {c : Pos} {g : Bool → Pos} {t : M Bool} {x : M (Unit {0})} →
      Lands i k c t g → Lands 1 k (g true) x (λ _. c) → j ≤ k → Lands 0 j c (loop j t x) (λ _. g false)
  unfolding loop
  lands_loop {k = k} zero ht hx l = lands_bind⁺ {i = 0} {j = 0} {k = k} {k' = 0} {l = 0} (ease ht) (elim [ true ↦ lands_meets | false ↦ lands_ret tt ]) (omega arith) (omega arith)
  lands_loop {k = k} (suc j) ht hx l =
      lands_bind⁺ {i = 0} {j = 0} {k = k} {k' = suc j} {l = suc j} (ease ht)
      (elim [
        | true ↦ λ σ s. lower (lands_bind⁺ {i = 1} {j = 0} {k = k} {k' = j} {l = suc j} hx (λ _. lands_loop j ht hx (omega arith)) (omega arith) (omega arith) σ s) (omega arith) (omega arith)
        | false ↦ lands_ret tt
      ]) (omega arith) (omega arith)

  -- turns until a test holds, which takes a step at least
  pub lands_until : {k : ℕ} (j : ℕ) {c c₁ : Pos} {g : Bool → Pos} {t : M Bool} {x : M (Unit {0})} →
      Lands 0 k c x (λ _. c₁) → Lands 1 k c₁ t g → g false ≡ c → j ≤ k → Lands 0 j c (until j x t) (λ _. g true)
  unfolding until
  lands_until zero hx ht q l = lands_meets
  lands_until {k} (suc j) {g = g} {t = t} {x = x} hx ht q l =
      lands_bind⁺ {i = 0} {j = 0} {k = k} {k' = suc j} {l = suc j} hx
      (λ _ σ s. lower (lands_bind⁺ {i = 1} {j = 0} {k = k} {k' = j} {l = suc j} ht
      (elim [ true ↦ lands_ret tt | false ↦ rw q (lands_until j hx ht q (omega arith)) ]) (omega arith) (omega arith) σ s) (omega arith) (omega arith))
      (omega arith) (omega arith)
