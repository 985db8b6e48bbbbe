-- A list of faults in parts: what it holds is in the first or in the rest. Assumes nothing.
use Rattle.std.proofs.Common.{◌≡◌, ℕ, Bool, true, false, ◌⊎◌, ◌↔◌, List, [], ◌∷◌, Contains, Some, None, Option, sym, refl, ap, inl, inr, ⊎_elim, arith}
use Rattle.base.specs.declared.refusal.Refusal.{Refusal}
use Rattle.base.specs.Refusals.{refusal_at}
use Rattle.ast.specs.Trees.{Expr, number, load, index, binary, negate, lnot, convert, field, shift, Clause, test, and, Cond, only, or, Step, absent, by, Stmt, assign, assign_at, deposit, deposit_at, when, either, choose, while, repeat, count, Body, end, then, Arms, last, arm, Decl}
use Rattle.sema.specs.Faults.{also, unless}
use Rattle.sema.specs.Parts.{SomeE, SomeL, SomeC, SomeP, SomeS, SomeB, SomeA, SomeDecl}
use Rattle.sema.proofs.Laying.{some_none}
use Rattle.sema.proofs.Least.{held, first_held, later_held, none_held}

pub left : {A B Z : Type 0} → (A → B) → A ⊎ Z → B ⊎ Z
left f (inl a) = inl (f a)
left f (inr z) = inr z

pub right : {A Y Z : Type 0} → (Y → Z) → A ⊎ Y → A ⊎ Z
right f (inl a) = inl a
right f (inr y) = inr (f y)

nested : {A B Z : Type 0} → A ⊎ (B ⊎ Z) → (A ⊎ B) ⊎ Z
nested (inl a) = inl (inl a)
nested (inr (inl b)) = inl (inr b)
nested (inr (inr z)) = inr z

opened : {A B Z : Type 0} → (A ⊎ B) ⊎ Z → A ⊎ (B ⊎ Z)
opened (inl (inl a)) = inl a
opened (inl (inr b)) = inr (inl b)
opened (inr z) = inr (inr z)

pub swap : {A B : Type 0} → A ⊎ B → B ⊎ A
swap (inl a) = inr a
swap (inr b) = inl b

-- the first part, and then the next
pub both : {X A B Y Z : Type 0} → X ↔ (A ⊎ Y) → Y ↔ (B ⊎ Z) → X ↔ ((A ⊎ B) ⊎ Z)
both x y = (λ v. nested (right y.0 (x.0 v)), λ v. x.1 (right y.1 (opened v)))

-- the first part told otherwise
pub recast : {X A B Z : Type 0} → (A → B) → (B → A) → X ↔ (A ⊎ Z) → X ↔ (B ⊎ Z)
recast f g x = (λ v. left f (x.0 v), λ v. x.1 (left g v))

pub swapped : {X A B Z : Type 0} → X ↔ ((A ⊎ B) ⊎ Z) → X ↔ ((B ⊎ A) ⊎ Z)
swapped x = recast swap swap x

unskip : {A : Type 0} → ⊥ ⊎ A → A
unskip (inl b) = absurd b
unskip (inr a) = a

-- a part that has none
pub skipped : {X A Z : Type 0} → X ↔ (A ⊎ Z) → X ↔ ((⊥ ⊎ A) ⊎ Z)
skipped x = recast (λ a. inr a) unskip x

pub nothing : {X : Type 0} → X ↔ (⊥ ⊎ X)
nothing = (λ x. inr x, unskip)

-- the last of three parts is told first
pub last_there : {A B C : Type 0} → A ⊎ B ⊎ C → C ⊎ A ⊎ B
last_there (inl a) = inr (inl a)
last_there (inr (inl b)) = inr (inr b)
last_there (inr (inr c)) = inl c

pub last_back : {A B C : Type 0} → C ⊎ A ⊎ B → A ⊎ B ⊎ C
last_back (inl c) = inr (inr c)
last_back (inr (inl a)) = inl a
last_back (inr (inr b)) = inr (inl b)

-- nothing follows
pub ended : {X A : Type 0} (r : Refusal) → X ↔ (A ⊎ Contains [] r) → X ↔ A
ended r x = (λ v. ⊎_elim (λ a. a) (λ c. absurd (none_held r c)) (x.0 v), λ a. x.1 (inl a))

pub through : {A B C : Type 0} → A ↔ B → B ↔ C → A ↔ C
through x y = (λ a. y.0 (x.0 a), λ c. x.1 (y.1 c))

-- perhaps one fault, and then others
pub told : {L : Type 0} (o : Option Refusal) (fs : List Refusal) (r : Refusal) → L ↔ (o ≡ Some r) → Contains (also o fs) r ↔ (L ⊎ Contains fs r)
told None fs r x = (λ c. inr c, λ v. ⊎_elim (λ l. some_none r (sym (x.0 l))) (λ c. c) v)
told (Some f) fs r x = (
  λ c. left (λ e. x.1 (ap Some (sym e))) (held f fs r c),
  λ v. ⊎_elim (λ l. first_held f fs r (let e : ◌≡◌ {A = Option Refusal} (Some f) (Some r) = x.0 l in let g : f ≡ r = cc in sym g)) (λ c. later_held f fs r c) v,
)

pub told_unless : (b : Bool) (n p : ℕ) (r : Refusal) → ((r ≡ refusal_at n p) × (b ≡ false)) ↔ (unless b n p ≡ Some r)
told_unless true n p r = (λ x. absurd (let z : ◌≡◌ {A = ℕ} 0 1 = (let e : ◌≡◌ {A = Bool} true false = x.1 in cc) in omega (arith, z)), λ e. some_none r (sym e))
told_unless false n p r = (λ x. ap Some (sym x.0), λ e. (let g : refusal_at n p ≡ r = cc in (sym g, refl)))

-- a fault that is told unless the test holds, its reason told otherwise
pub judged : {Q : Type 0} (b : Bool) (n p : ℕ) (fs : List Refusal) (r : Refusal) → Q ↔ (b ≡ false) → Contains (also (unless b n p) fs) r ↔ (((r ≡ refusal_at n p) × Q) ⊎ Contains fs r)
judged b n p fs r q = told (unless b n p) fs r (through (λ x. (x.0, q.0 x.1), λ x. (x.0, q.1 x.1)) (told_unless b n p r))

-- what follows from each part where it stands follows from the whole
module _ (E : Expr → Type 0) (T : ℕ → Expr → Type 0) (S : Stmt → Type 0) {C : Type 0} (e→ : (e : Expr) → E e → C) (t→ : (p : ℕ) (e : Expr) → T p e → C) (s→ : (s : Stmt) → S s → C) where
  from_e : (e : Expr) → SomeE E T S e → C
  from_e (number v k) x = e→ (number v k) x
  from_e (load n p) x = e→ (load n p) x
  from_e (index n p q e) x = ⊎_elim (e→ (index n p q e)) (from_e e) x
  from_e (binary o p a b) x = ⊎_elim (e→ (binary o p a b)) (⊎_elim (from_e a) (from_e b)) x
  from_e (negate p a) x = ⊎_elim (e→ (negate p a)) (from_e a) x
  from_e (lnot p a) x = ⊎_elim (e→ (lnot p a)) (from_e a) x
  from_e (convert k a) x = ⊎_elim (e→ (convert k a)) (from_e a) x
  from_e (field a b p e) x = ⊎_elim (e→ (field a b p e)) (from_e e) x
  from_e (shift s c p e) x = ⊎_elim (e→ (shift s c p e)) (from_e e) x

  from_l : (c : Clause) → SomeL E T S c → C
  from_l (test p e) x = ⊎_elim (t→ p e) (from_e e) x
  from_l (and p e c) x = ⊎_elim (⊎_elim (t→ p e) (from_e e)) (from_l c) x

  from_c : (c : Cond) → SomeC E T S c → C
  from_c (only c) x = from_l c x
  from_c (or c d) x = ⊎_elim (from_l c) (from_c d) x

  from_p : (s : Step) → SomeP E T S s → C
  from_p absent x = absurd x
  from_p (by e) x = from_e e x

  mutual
    from_s : (s : Stmt) → SomeS E T S s → C
    from_s (assign n p q e) x = ⊎_elim (s→ (assign n p q e)) (from_e e) x
    from_s (assign_at n p o i q e) x = ⊎_elim (s→ (assign_at n p o i q e)) (⊎_elim (from_e i) (from_e e)) x
    from_s (deposit n p a b f q e) x = ⊎_elim (s→ (deposit n p a b f q e)) (from_e e) x
    from_s (deposit_at n p o i a b f q e) x = ⊎_elim (s→ (deposit_at n p o i a b f q e)) (⊎_elim (from_e i) (from_e e)) x
    from_s (when c b) x = ⊎_elim (s→ (when c b)) (⊎_elim (from_c c) (λ y. from_b b y)) x
    from_s (either c b d) x = ⊎_elim (s→ (either c b d)) (⊎_elim (from_c c) (⊎_elim (λ y. from_b b y) (λ y. from_b d y))) x
    from_s (choose p e a) x = ⊎_elim (s→ (choose p e a)) (⊎_elim (from_e e) (λ y. from_a a y)) x
    from_s (while c b) x = ⊎_elim (s→ (while c b)) (⊎_elim (from_c c) (λ y. from_b b y)) x
    from_s (repeat b c) x = ⊎_elim (s→ (repeat b c)) (⊎_elim (λ y. from_b b y) (from_c c)) x
    from_s (count n p f e s l b) x =
        ⊎_elim (s→ (count n p f e s l b)) (⊎_elim (from_e e) (⊎_elim (from_p s) (⊎_elim (from_e l) (λ y. from_b b y)))) x

    pub from_b : (b : Body) → SomeB E T S b → C
    from_b end x = absurd x
    from_b (then s b) x = ⊎_elim (λ y. from_s s y) (λ y. from_b b y) x

    from_a : (a : Arms) → SomeA E T S a → C
    from_a (last b) x = from_b b x
    from_a (arm b a) x = ⊎_elim (λ y. from_b b y) (λ y. from_a a y) x

-- what is so of some declaration
pub from_decl : {C : Type 0} (P : List Decl → Decl → Type 0) → ((b : List Decl) (d : Decl) → P b d → C) → (ds b : List Decl) → SomeDecl P b ds → C
from_decl P f [] b x = absurd x
from_decl P f (d ∷ ds) b x = ⊎_elim (f b d) (from_decl P f ds (d ∷ b)) x

-- of two things one is so of some declaration
module _ (P Q : List Decl → Decl → Type 0) where
  pub split_there : (ds before : List Decl) → SomeDecl (λ b d. P b d ⊎ Q b d) before ds → SomeDecl P before ds ⊎ SomeDecl Q before ds
  split_there [] before x = absurd x
  split_there (d ∷ ds) before x =
      ⊎_elim
      (λ y. ⊎_elim (λ p. inl (inl p)) (λ q. inr (inl q)) y)
      (λ y. ⊎_elim (λ p. inl (inr p)) (λ q. inr (inr q)) (split_there ds (d ∷ before) y))
      x

  pub split_back : (ds before : List Decl) → SomeDecl P before ds ⊎ SomeDecl Q before ds → SomeDecl (λ b d. P b d ⊎ Q b d) before ds
  split_back [] before x = ⊎_elim (λ b. b) (λ b. b) x
  split_back (d ∷ ds) before x =
      ⊎_elim
      (λ p. ⊎_elim (λ y. inl (inl y)) (λ y. inr (split_back ds (d ∷ before) (inl y))) p)
      (λ q. ⊎_elim (λ y. inl (inr y)) (λ y. inr (split_back ds (d ∷ before) (inr y))) q)
      x
