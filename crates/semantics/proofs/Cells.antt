-- A source writes its own cells and no other.
use Rattle.std.proofs.Common.{◌≡◌, ℕ, zero, suc, ◌+◌, ◌<◌, ◌≤◌, Bool, true, false, ◌≢◌, List, [], ◌∷◌, ◌++◌, get_or, set, Ok, Err, Result, refl, ◌∙◌, arith, get_or-set_other}
use Rattle.arith.specs.declared.stop.Stop.{Stop}
use Rattle.arith.specs.Integers.{sum, subscript}
use Rattle.ir.specs.Trees.{Expr, lit, var, pick, bin, un, Clause, test, and, Cond, only, or, Stmt, assign, fill, deposit, deposit_at, when, either, while, repeat, for, case, Body, end, then, Arms, last, arm}
use Rattle.semantics.specs.Effects.{Store, Write, put, leave, Effect, effect, cut, writes_of, M, before, onward, bind, ret, meets, loop, until, prim, says, load, store, load_at, element, put_at, put_element, goes_on, put_or_stop, advance, effect_of}
use Rattle.semantics.specs.Meaning.{eval, holds_l, holds, exec_s, exec, choice, WithinE, WithinL, WithinC, WithinS, Within, WithinA}
use Rattle.semantics.specs.Cells.{Below, WritesStayInside}
use Rattle.semantics.proofs.Indexes.{subscript_below, says_answers}

-- more cells

module _ (n m : ℕ) (l : n ≤ m) where
  more_e : (e : Expr) → WithinE n e → WithinE m e
  more_e (lit w) h = tt
  more_e (var c) h = omega arith
  more_e (pick b k i) h = (omega (arith, h.0), more_e i h.1)
  more_e (bin o x y) h = (more_e x h.0, more_e y h.1)
  more_e (un o x) h = (h.0, more_e x h.1)

  more_l : (c : Clause) → WithinL n c → WithinL m c
  more_l (test e) h = more_e e h
  more_l (and e c) h = (more_e e h.0, more_l c h.1)

  more_c : (c : Cond) → WithinC n c → WithinC m c
  more_c (only c) h = more_l c h
  more_c (or c d) h = (more_l c h.0, more_c d h.1)

  mutual
    more_s : (s : Stmt) → WithinS s n → WithinS s m
    more_s (assign c e) h = (omega (arith, h.0), more_e e h.1)
    more_s (fill b k i e) h = (omega (arith, h.0), more_e i h.1, more_e e h.2)
    more_s (deposit c a k e) h = (omega (arith, h.0), h.1, more_e e h.2)
    more_s (deposit_at b k i a w e) h = (omega (arith, h.0), h.1, more_e i h.2, more_e e h.3)
    more_s (when c b) h = (more_c c h.0, more_b b h.1)
    more_s (either c b d) h = (more_c c h.0, more_b b h.1, more_b d h.2)
    more_s (while c b) h = (more_c c h.0, more_b b h.1)
    more_s (repeat b c) h = (more_b b h.0, more_c c h.1)
    more_s (for c e s u b) h = (omega (arith, h.0), more_e e h.1, more_e s h.2, more_e u h.3, more_b b h.4)
    more_s (case e a) h = (more_e e h.0, more_a a h.1)

    more_b : (b : Body) → Within b n → Within b m
    more_b end h = tt
    more_b (then s b) h = (more_s s h.0, more_b b h.1)

    more_a : (a : Arms) → WithinA a n → WithinA a m
    more_a (last b) h = more_b b h
    more_a (arm b a) h = (more_b b h.0, more_a a h.1)

-- writes

module _ (n : ℕ) where
  below_append : (ws vs : List Write) → Below n ws → Below n vs → Below n (ws ++ vs)
  below_append [] vs h k = k
  below_append (put c w ∷ ws) vs h k = (h.0, below_append ws vs h.1 k)

  data Owned {A : Type 0} : Effect A → Type 0 where
    owned : {y : Effect A} → Below n (writes_of y) → Owned y

  below_of : {A : Type 0} {y : Effect A} → Owned y → Below n (writes_of y)
  below_of (owned h) = h

  -- whatever the store, x writes below n
  abbrev Own : {A : Type 0} → M A → Type 0
  Own x = (σ : Store) → Owned (x σ)

  own_before : {A : Type 0} (ws : List Write) (y : Effect A) → Below n ws → Below n (writes_of y) → Owned (before ws y)
  own_before ws (effect vs o) h k = owned (below_append ws vs h k)
  own_before ws (cut vs) h k = owned (below_append ws vs h k)

  own_onward : {A B : Type 0} (y : Effect A) (f : A → M B) (σ : Store) → Below n (writes_of y) → ((ws : List Write) (a : A) → y ≡ effect ws (Ok a) → Own (f a)) → Owned (onward y f σ)
  unfolding onward
  own_onward (effect ws (Ok a)) f σ h k = own_before ws (f a (leave ws σ)) h (below_of (k ws a refl (leave ws σ)))
  own_onward (effect ws (Err e)) f σ h k = owned h
  own_onward (cut ws) f σ h k = owned h

  own_bind_if : {A B : Type 0} {x : M A} {f : A → M B} (Q : A → Type 0) → Own x → ((σ : Store) (ws : List Write) (a : A) → x σ ≡ effect ws (Ok a) → Q a) → ((a : A) → Q a → Own (f a)) → Own (bind x f)
  unfolding bind
  own_bind_if {x = x} {f = f} Q hx hq hf σ = own_onward (x σ) f σ (below_of (hx σ)) (λ ws a e. hf a (hq σ ws a e))

  own_bind : {A B : Type 0} {x : M A} {f : A → M B} → Own x → ((a : A) → Own (f a)) → Own (bind x f)
  unfolding bind
  own_bind {x = x} {f = f} hx hf σ = own_onward (x σ) f σ (below_of (hx σ)) (λ ws a e. hf a)

  own_ret : {A : Type 0} (a : A) → Own (ret a)
  unfolding ret
  own_ret a σ = owned tt

  own_meets : Own (meets {A = Unit {0}})
  unfolding meets
  own_meets σ = owned tt

  own_says : {A : Type 0} (r : Result A Stop) → Own (prim (says r))
  unfolding prim says
  own_says (Ok a) σ = owned tt
  own_says (Err e) σ = owned tt

  own_load : (c : ℕ) → Own (prim (load c))
  unfolding prim load
  own_load c σ = owned tt

  own_store : (c w : ℕ) → c < n → Own (prim (store c w))
  unfolding prim store
  own_store c w h σ = owned (h, tt)

  own_element : (b m x : ℕ) → Own (prim (element b m x))
  unfolding prim element
  own_element b m x σ = of (subscript x m)
    where
      of : (r : Result ℕ Stop) → Owned (effect_of (load_at b r σ))
      of (Ok i) = owned tt
      of (Err e) = owned tt

  own_place : (b m x w : ℕ) → b + m ≤ n → Own (prim (put_element b m x w))
  unfolding prim put_element
  own_place b m x w h σ = of (subscript x m) refl
    where
      of : (r : Result ℕ Stop) → subscript x m ≡ r → Owned (effect_of (put_at b w r))
      of (Ok j) q = owned (omega (arith, subscript_below x m j q), tt)
      of (Err e) q = owned tt

  own_goes : (c s l : ℕ) → Own (prim (goes_on c s l))
  unfolding prim goes_on
  own_goes c s l σ = owned tt

  own_advance : (c s : ℕ) → c < n → Own (prim (advance c s))
  unfolding prim advance
  own_advance c s h σ = of (sum (get_or σ c 0) s)
    where
      of : (r : Result ℕ Stop) → Owned (effect_of (put_or_stop c r))
      of (Ok w) = owned (h, tt)
      of (Err e) = owned tt

  own_loop : (j : ℕ) {t : M Bool} {x : M (Unit {0})} → Own t → Own x → Own (loop j t x)
  unfolding loop
  own_loop zero ht hx = own_bind ht (elim [ true ↦ own_meets | false ↦ own_ret tt ])
  own_loop (suc j) ht hx = own_bind ht (elim [ true ↦ own_bind hx (λ _. own_loop j ht hx) | false ↦ own_ret tt ])

  own_until : (j : ℕ) {t : M Bool} {x : M (Unit {0})} → Own x → Own t → Own (until j x t)
  unfolding until
  own_until zero hx ht = own_meets
  own_until (suc j) hx ht = own_bind hx (λ _. own_bind ht (elim [ true ↦ own_ret tt | false ↦ own_until j hx ht ]))

  own_e : (e : Expr) → Own (eval e)
  unfolding eval
  own_e (lit w) = own_says _
  own_e (var c) = own_load c
  own_e (pick b m i) = own_bind (own_e i) (λ x. own_element b m x)
  own_e (bin o x y) = own_bind (own_e x) (λ _. own_bind (own_e y) (λ _. own_says _))
  own_e (un o x) = own_bind (own_e x) (λ _. own_says _)

  own_l : (c : Clause) → Own (holds_l c)
  unfolding holds_l
  own_l (test e) = own_bind (own_e e) (λ _. own_says _)
  own_l (and e c) = own_bind (own_e e) (λ _. own_bind (own_says _) (elim [ true ↦ own_l c | false ↦ own_ret false ]))

  own_c : (c : Cond) → Own (holds c)
  unfolding holds
  own_c (only c) = own_l c
  own_c (or c d) = own_bind (own_l c) (elim [ true ↦ own_ret true | false ↦ own_c d ])

  mutual
    unfolding exec

    own_s : (s : Stmt) (k : ℕ) → WithinS s n → Own (exec_s s k)
    own_s (assign c e) k h = own_bind (own_e e) (λ w. own_store c w h.0)
    own_s (fill b m i e) k h =
        own_bind (own_e i)
        (λ x. own_bind_if (λ j. subscript x m ≡ Ok j) (own_says _) (says_answers (subscript x m)) (λ j q. own_bind (own_e e) (λ w. own_store (b + j) w (omega (arith, subscript_below x m j q, h.0)))))
    own_s (deposit c a m e) k h = own_bind (own_load c) (λ _. own_bind (own_e e) (λ _. own_store c _ h.0))
    own_s (deposit_at b m i a w e) k h = own_bind (own_e i) (λ x. own_bind (own_element b m x) (λ _. own_bind (own_e e) (λ _. own_place b m x _ h.0)))
    own_s (when c b) k h = own_bind (own_c c) (elim [ true ↦ own_b b k h.1 | false ↦ own_ret tt ])
    own_s (either c b d) k h = own_bind (own_c c) (elim [ true ↦ own_b b k h.1 | false ↦ own_b d k h.2 ])
    own_s (while c b) k h = own_loop k (own_c c) (own_b b k h.1)
    own_s (repeat b c) k h = own_until k (own_b b k h.0) (own_c c)
    own_s (for c e s l b) k h =
        own_bind (own_e e)
        (λ v. own_bind (own_store c v h.0) (λ _. own_bind (own_e s) (λ x. own_bind (own_e l) (λ y. own_loop k (own_goes c x y) (own_bind (own_b b k h.4) (λ _. own_advance c x h.0))))))
    own_s (case e a) k h = own_bind (own_e e) (λ _. own_bind (own_says _) (λ i. own_a a k i h.1))

    own_b : (b : Body) (k : ℕ) → Within b n → Own (exec b k)
    own_b end k h = own_ret tt
    own_b (then s b) k h = own_bind (own_s s k h.0) (λ _. own_b b k h.1)

    own_a : (a : Arms) (k i : ℕ) → WithinA a n → Own (choice a k i)
    own_a (last b) k i h = own_b b k h
    own_a (arm b a) k zero h = own_b b k h.0
    own_a (arm b a) k (suc i) h = own_a a k i h.1

  kept_others : (ws : List Write) → Below n ws → (σ : Store) (i : ℕ) → n ≤ i → get_or (leave ws σ) i 0 ≡ get_or σ i 0
  kept_others [] h σ i l = refl
  kept_others (put c w ∷ ws) h σ i l =
      let ne : i ≢ c = omega (arith, h.0) in
      kept_others ws h.1 (set σ c w) i l ∙ rw get_or-set_other refl

pub confined : WritesStayInside
confined = record { more = λ b n m l h. more_b n m l b h; own = λ b n h k σ. below_of n (own_b n b k h σ); others = kept_others }
