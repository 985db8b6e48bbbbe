-- What an answer tells of the parts that were read.
use Rattle.std.proofs.Common.{◌≡◌, ℕ, zero, suc, ◌+◌, ◌-◌, ◌≤◌, cond, eqb, ltb, List, [], ◌∷◌, ◌++◌, length, take, drop, Ok, Err, Result, sym, refl, ap, ◌∙◌, subst, arith}
use Rattle.std.proofs.lemmas.List.{length-append, take-append-drop}
use Rattle.std.proofs.lemmas.Bool.{ltb-false, eqb-false, cond_both}
use Rattle.base.specs.Refusals.{refuse, then}
use Rattle.base.specs.declared.refusal.Refusal.{Refusal}
use Rattle.base.specs.declared.instr.Instr.{Instr}
use Rattle.base.specs.declared.code.Figures.{Figures}
use Rattle.image.specs.Groups.{number}
use Rattle.image.specs.Reading.{cells_at, count_at, figures_at, entry_at, entries_at, decoding, figures_of, table_after}
use Rattle.image.proofs.Numbers.{got}

-- a refusal is no answer
pub clash : {A : Type 0} (e : Refusal) (x : A) → Err e ≡ Ok x → ⊥
clash e x p = let z : ◌≡◌ {A = ℕ} 0 1 = cc in omega arith

pub same : {A : Type 0} (x y : A) → ◌≡◌ {A = Result A Refusal} (Ok x) (Ok y) → x ≡ y
same x y p = cc

pub then_ok : {A B : Type 0} (x : Result A Refusal) (k : A → Result B Refusal) (b : B) → then x k ≡ Ok b → (a : A) × (x ≡ Ok a) × (k a ≡ Ok b)
then_ok (Ok a) k b p = (a, refl, p)
then_ok (Err e) k b p = absurd (clash e b p)

pub cells_ok : (at n m : ℕ) → cells_at at n ≡ Ok m → (n ≤ 4096) × (n ≡ m)
cells_ok at n m =
    cond_both (ltb 4096 n) (refuse 25 at) (Ok n) (λ r. r ≡ Ok m → (n ≤ 4096) × (n ≡ m)) (λ t p. absurd (clash _ m p)) (λ t p. (ltb-false 4096 n t, same n m p))

pub count_ok : (at room n m : ℕ) → count_at at room n ≡ Ok m → (1 ≤ n) × (n ≤ 16383) × (n ≤ room) × (n ≡ m)
count_ok at room n m =
    cond_both (eqb n 0) (refuse 25 at) (cond (ltb 16383 n) (refuse 25 at) (cond (ltb room n) (refuse 26 at) (Ok n))) (λ r. r ≡ Ok m → (1 ≤ n) × (n ≤ 16383) × (n ≤ room) × (n ≡ m))
    (λ t p. absurd (clash _ m p))
    (λ t.
    cond_both (ltb 16383 n) (refuse 25 at) (cond (ltb room n) (refuse 26 at) (Ok n)) (λ r. r ≡ Ok m → (1 ≤ n) × (n ≤ 16383) × (n ≤ room) × (n ≡ m))
    (λ u p. absurd (clash _ m p))
    (λ u.
    cond_both (ltb room n) (refuse 26 at) (Ok n) (λ r. r ≡ Ok m → (1 ≤ n) × (n ≤ 16383) × (n ≤ room) × (n ≡ m))
    (λ v p. absurd (clash _ m p))
    (λ v p. (omega (arith, eqb-false n 0 t), ltb-false 16383 n u, ltb-false room n v, same n m p))))

-- the three numbers that were read as figures
pub record Parts (end room : ℕ) (bs : List ℕ) (f : Figures) (cs : List ℕ) : Type 0 where
  pub first : List ℕ
  pub second : List ℕ
  pub cells : number end bs ≡ got f.cells first
  pub depth : number end first ≡ got f.depth second
  pub count : number end second ≡ got f.count cs
  pub few : f.cells ≤ 4096
  pub some : 1 ≤ f.count
  pub many : f.count ≤ 16383
  pub within : f.count ≤ room

pub figures_ok : (end room : ℕ) (bs : List ℕ) (f : Figures) (cs : List ℕ) → figures_at end room bs ≡ Ok (f, cs) → Parts end room bs f cs
unfolding figures_at
figures_ok end room bs f cs p =
    let x = then_ok (number end bs) _ _ p in
    let c = then_ok (cells_at (end - length bs) x.0.0) _ _ x.2 in
    let y = then_ok (number end x.0.1) _ _ c.2 in
    let z = then_ok (number end y.0.1) _ _ y.2 in
    let n = then_ok (count_at (end - length y.0.1) room z.0.0) _ _ z.2 in
    let u = cells_ok (end - length bs) x.0.0 c.0 c.1 in
    let v = count_ok (end - length y.0.1) room z.0.0 n.0 n.1 in
    subst (λ (w : Figures × List ℕ). Parts end room bs w.0 w.1) (same _ (f, cs) n.2)
    record {
      first = x.0.1;
      second = y.0.1;
      cells = x.1 ∙ ap (λ m. got m x.0.1) u.1;
      depth = y.1;
      count = z.1 ∙ ap (λ m. got m z.0.1) v.3;
      few = omega (arith, u.0, u.1);
      some = omega (arith, v.0, v.3);
      many = omega (arith, v.1, v.3);
      within = omega (arith, v.2, v.3);
    }

-- every entry is one turn
pub entries_length : (end n : ℕ) (o : List Instr) (bs : List ℕ) (is : List Instr) → entries_at end n o bs ≡ Ok is → length is ≡ n + length o
unfolding entries_at
entries_length end zero o [] is p = omega (arith, ap length (same o is p))
entries_length end zero o (b ∷ bs) is p = absurd (clash _ is p)
entries_length end (suc n) o bs is p =
    let x = then_ok (entry_at end bs) _ is p in
    omega (arith, entries_length end n (o ++ x.0.0 ∷ []) x.0.1 is x.2, length-append o (x.0.0 ∷ []))

-- the whole, from its two parts
pub decoded_from : (room : ℕ) (bs : List ℕ) (f : Figures) (cs : List ℕ) (is : List Instr) →
    figures_at (length bs) room bs ≡ Ok (f, cs) → entries_at (length bs) f.count [] cs ≡ Ok is →
    decoding room bs ≡ Ok record { cells = f.cells; depth = f.depth; entries = is }
unfolding decoding
decoded_from room bs f cs is p q = rw p (rw q refl)

pub decoded_figures : (room : ℕ) (bs : List ℕ) (e : Refusal) → figures_at (length bs) room bs ≡ Err e → decoding room bs ≡ Err e
unfolding decoding
decoded_figures room bs e p = rw p refl

pub decoded_entries : (room : ℕ) (bs : List ℕ) (f : Figures) (cs : List ℕ) (e : Refusal) →
    figures_at (length bs) room bs ≡ Ok (f, cs) → entries_at (length bs) f.count [] cs ≡ Err e → decoding room bs ≡ Err e
unfolding decoding
decoded_entries room bs f cs e p q = rw p (rw q refl)

abbrev told_as : Figures → ℕ → Result Figures Refusal
told_as f n = Ok record { cells = f.cells; depth = f.depth; count = n }

-- the figures of what was read
pub figures_told : (end n : ℕ) (bs : List ℕ) (is : List Instr) (f : Figures) → n ≡ f.count → entries_at end n [] bs ≡ Ok is →
    Ok f ≡ figures_of (Ok record { cells = f.cells; depth = f.depth; entries = is })
figures_told end n bs is f e p =
    let l : f.count ≡ length is = omega (arith, entries_length end n [] bs is p) in
    ap (λ m. told_as f m) l

-- the table, from its two parts
pub laid_down : (end n : ℕ) (bs : List ℕ) (f : Figures) (old new : List Instr) → entries_at end n [] bs ≡ Ok (take n new) → drop n new ≡ drop n old →
    new ≡ table_after (Ok record { cells = f.cells; depth = f.depth; entries = take n new }) old
laid_down end n bs f old new p d =
    let l : length (take n new) ≡ n = omega (arith, entries_length end n [] bs (take n new) p) in
    sym (take-append-drop n new) ∙ ap (λ r. take n new ++ r) (d ∙ ap (λ m. drop m old) (sym l))
