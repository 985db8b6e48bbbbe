-- Instructions that are read one after another.
use Rattle.std.proofs.Common.{◌≡◌, ℕ, suc, ◌+◌, ◌-◌, ◌<◌, ◌≤◌, List, [], ◌∷◌, ◌++◌, length, take, drop, Ok, Err, Result, sym, refl, ap, ◌∙◌, arith}
use Rattle.base.specs.Refusals.{refuse}
use Rattle.base.specs.declared.instr.Instr.{Instr}
use Rattle.base.specs.declared.refusal.Refusal.{Refusal}
use Rattle.image.specs.declared.fault.ImageFault.{ImageFault}
use Rattle.image.specs.Cursors.{EndsThere, AllAreRead, IsFilled}
use Rattle.image.specs.Reading.{Read, entry_at, entries_at}

-- an instruction and the bytes after it
abbrev pub one : Instr → List ℕ → Read Instr
one i bs = Ok (i, bs)

pub entries_none : (end : ℕ) (o : List Instr) (bs : List ℕ) → length bs ≡ 0 → entries_at end 0 o bs ≡ Ok o
unfolding entries_at
entries_none end o [] z = refl
entries_none end o (b ∷ bs) z = absurd (omega arith)

pub entries_left : (end at : ℕ) (o : List Instr) (bs : List ℕ) → 0 < length bs → at ≡ end - length bs → entries_at end 0 o bs ≡ refuse 24 at
unfolding entries_at
entries_left end at o [] h e = absurd (omega arith)
entries_left end at o (b ∷ bs) h e = ap (λ p. refuse 24 p) (sym e)

pub entries_on : (end n m : ℕ) (o : List Instr) (bs : List ℕ) (i : Instr) (cs : List ℕ) → n ≡ suc m → entry_at end bs ≡ one i cs → entries_at end n o bs ≡ entries_at end m (o ++ i ∷ []) cs
unfolding entries_at
entries_on end n m o bs i cs e f = rw e (rw f refl)

pub entries_stop : (end n m : ℕ) (o : List Instr) (bs : List ℕ) (r : Refusal) → n ≡ suc m → entry_at end bs ≡ Err r → entries_at end n o bs ≡ Err r
unfolding entries_at
entries_stop end n m o bs r e f = rw e (rw f refl)

-- A loop of n turns that is to read x; before the turn i the entries o were read, and the bytes bs are left.
module _ (end at n i : ℕ) (x : Result (List Instr) Refusal) (o : List Instr) (bs : List ℕ) (e : at ≡ end) (f : x ≡ entries_at end (n - i) o bs) where
  pub walk_on : (k : Instr) (cs : List ℕ) → i < n → entry_at at bs ≡ one k cs → x ≡ entries_at end (n - (i + 1)) (o ++ k ∷ []) cs
  walk_on k cs h g =
      let u : n - i ≡ suc (n - (i + 1)) = omega arith in
      let v : entry_at end bs ≡ one k cs = ap (λ m. entry_at m bs) (sym e) ∙ g in
      f ∙ entries_on end (n - i) (n - (i + 1)) o bs k cs u v

  pub walk_stop : (r : Refusal) → i < n → entry_at at bs ≡ Err r → x ≡ Err r
  walk_stop r h g =
      let u : n - i ≡ suc (n - (i + 1)) = omega arith in
      let v : entry_at end bs ≡ Err r = ap (λ m. entry_at m bs) (sym e) ∙ g in
      f ∙ entries_stop end (n - i) (n - (i + 1)) o bs r u v

  pub walk_end : (r : Result (Unit {0}) ImageFault) → n ≤ i → EndsThere (entries_at at 0 o bs) o r → EndsThere x o r
  walk_end (Ok t) h g =
      let u : n - i ≡ 0 = omega arith in
      f ∙ ap (λ m. entries_at end m o bs) u ∙ ap (λ m. entries_at m 0 o bs) (sym e) ∙ g
  walk_end (Err t) h g =
      let u : n - i ≡ 0 = omega arith in
      f ∙ ap (λ m. entries_at end m o bs) u ∙ ap (λ m. entries_at m 0 o bs) (sym e) ∙ g

pub walked : (x : Result (List Instr) Refusal) (o : List Instr) (r : Result (Unit {0}) ImageFault) → EndsThere x o r → AllAreRead x r
walked x o (Ok t) h = (o, h)
walked x o (Err t) h = h

-- the first m of the new entries were read, and from the place i on the old ones are there
pub filled : (x : Result (List Instr) Refusal) (n : ℕ) (old new : List Instr) (r : Result (Unit {0}) ImageFault) (m i : ℕ) → m ≡ n → i ≡ n → EndsThere x (take m new) r → drop i new ≡ drop i old → IsFilled x n old new r
filled x n old new (Ok t) m i e f h d = (h ∙ ap (λ k. Ok (take k new)) e, ap (λ k. drop k new) (sym f) ∙ d ∙ ap (λ k. drop k old) f)
filled x n old new (Err t) m i e f h d = h
