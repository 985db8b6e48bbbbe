-- The stage of types finds no fault exactly where the types are in order. Assumes nothing.
use Rattle.std.proofs.Common.{◌≡◌, ℕ, true, ◌&&◌, List, [], None, refl, sym, ◌∙◌, arith}
use Rattle.std.proofs.lemmas.Bool.{and_from, and_parts}
use Rattle.base.specs.declared.refusal.Refusal.{Refusal}
use Rattle.parser.specs.declared.value_type.ValueType.{ValueType}
use Rattle.parser.specs.declared.value_type.ValueType.TheVariants.{Integer, Logical}
use Rattle.parser.specs.declared.node.Operator.{Operator}
use Rattle.parser.specs.declared.node.Operator.TheVariants.{Times, Divide, Mod, Plus, Minus, Equal, Unequal, Less, AtMost, Greater, AtLeast, Land, Xor, Lor}
use Rattle.ast.specs.Trees.{Expr, number, load, index, binary, negate, lnot, convert, field, shift, Clause, test, and, Cond, only, or, Step, absent, by, Stmt, assign, assign_at, deposit, deposit_at, when, either, choose, while, repeat, count, Body, end, then, Arms, last, arm, Program}
use Rattle.sema.specs.Faults.{also, least}
use Rattle.sema.specs.Tables.{Table, row_of}
use Rattle.sema.specs.Names.{program_table}
use Rattle.sema.specs.Types.{is_type, takes_type, agree, other_type, sides, first_value, type_e, types_e, types_k, types_l, types_c, types_p, types_s, types_b, types_a, program_types}
use Rattle.sema.specs.Rules.{Suits, TypesHoldE, OfType, TypesHoldL, TypesHoldC, TypesHoldP, TypesHoldS, TypesHoldB, TypesHoldA, TypesHold}
use Rattle.sema.proofs.Narrowing.{least_none}
use Rattle.sema.proofs.Faultless.{tested, untold, none_least}

pub same_type : (w k : ValueType) → is_type w k ≡ true → k ≡ w
same_type Integer Integer e = refl
same_type Integer Logical e = absurd (let z : ◌≡◌ {A = ℕ} 0 1 = cc in omega arith)
same_type Logical Integer e = absurd (let z : ◌≡◌ {A = ℕ} 0 1 = cc in omega arith)
same_type Logical Logical e = refl

pub type_same : (w k : ValueType) → k ≡ w → is_type w k ≡ true
type_same Integer Integer e = refl
type_same Integer Logical e = absurd (let z : ◌≡◌ {A = ℕ} 0 1 = cc in omega arith)
type_same Logical Integer e = absurd (let z : ◌≡◌ {A = ℕ} 0 1 = cc in omega arith)
type_same Logical Logical e = refl

pub suits_there : (o : Operator) (k : ValueType) → takes_type o k ≡ true → Suits o k
suits_there Times k e = tt
suits_there Divide k e = tt
suits_there Mod k e = tt
suits_there Plus k e = tt
suits_there Minus k e = tt
suits_there Equal k e = tt
suits_there Unequal k e = tt
suits_there Less k e = tt
suits_there AtMost k e = tt
suits_there Greater k e = tt
suits_there AtLeast k e = tt
suits_there Land k e = same_type Logical k e
suits_there Xor k e = same_type Logical k e
suits_there Lor k e = same_type Logical k e

pub suits_back : (o : Operator) (k : ValueType) → Suits o k → takes_type o k ≡ true
suits_back Times k e = refl
suits_back Divide k e = refl
suits_back Mod k e = refl
suits_back Plus k e = refl
suits_back Minus k e = refl
suits_back Equal k e = refl
suits_back Unequal k e = refl
suits_back Less k e = refl
suits_back AtMost k e = refl
suits_back Greater k e = refl
suits_back AtLeast k e = refl
suits_back Land k e = type_same Logical k e
suits_back Xor k e = type_same Logical k e
suits_back Lor k e = type_same Logical k e

wanted_there : (w k : ValueType) (p : ℕ) (fs : List Refusal) → also (other_type w k p) fs ≡ [] → (k ≡ w) × (fs ≡ [])
wanted_there w k p fs h =
    let x = tested (is_type w k) 11 p fs h in
    (same_type w k x.0, x.1)

sides_there : (o : Operator) (a b : ValueType) (p : ℕ) (fs : List Refusal) → also (sides o a b p) fs ≡ [] → (a ≡ b) × Suits o a × (fs ≡ [])
sides_there o a b p fs h =
    let x = tested (agree o a b) 11 p fs h in
    let y = and_parts (is_type a b) (takes_type o a) x.0 in
    (sym (same_type a b y.0), suits_there o a y.1, x.1)

starting_there : (v k : ValueType) (p : ℕ) (fs : List Refusal) → also (first_value v k p) fs ≡ [] → (v ≡ Integer) × (k ≡ Integer) × (fs ≡ [])
starting_there v k p fs h =
    let y = and_parts (is_type Integer v) (is_type Integer k) (tested _ 11 p fs h).0 in
    (same_type Integer v y.0, same_type Integer k y.1, (tested _ 11 p fs h).1)

wanted_back : (w k : ValueType) (p : ℕ) (fs : List Refusal) → k ≡ w → also (other_type w k p) fs ≡ fs
wanted_back w k p fs e = untold (is_type w k) 11 p fs (type_same w k e)

sides_back : (o : Operator) (a b : ValueType) (p : ℕ) (fs : List Refusal) → a ≡ b → Suits o a → also (sides o a b p) fs ≡ fs
sides_back o a b p fs e f = untold (agree o a b) 11 p fs (and_from (is_type a b) (takes_type o a) (type_same a b (sym e)) (suits_back o a f))

starting_back : (v k : ValueType) (p : ℕ) (fs : List Refusal) → v ≡ Integer → k ≡ Integer → also (first_value v k p) fs ≡ fs
starting_back v k p fs e f =
    untold (is_type Integer v && is_type Integer k) 11 p fs (and_from (is_type Integer v) (is_type Integer k) (type_same Integer v e) (type_same Integer k f))

module _ (t : Table) where
  there_e : (e : Expr) (fs : List Refusal) → types_e t e fs ≡ [] → TypesHoldE t e × (fs ≡ [])
  there_e (number v k) fs h = (tt, h)
  there_e (load n p) fs h = (tt, h)
  there_e (index n p q e) fs h =
      let x = there_e e (also (other_type Integer (type_e t e) q) fs) h in
      let y = wanted_there Integer (type_e t e) q fs x.1 in
      ((y.0, x.0), y.1)
  there_e (binary o p a b) fs h =
      let v = also (sides o (type_e t a) (type_e t b) p) fs in
      let x = there_e a (types_e t b v) h in
      let y = there_e b v x.1 in
      let z = sides_there o (type_e t a) (type_e t b) p fs y.1 in
      ((z.0, z.1, x.0, y.0), z.2)
  there_e (negate p a) fs h =
      let x = there_e a (also (other_type Integer (type_e t a) p) fs) h in
      let y = wanted_there Integer (type_e t a) p fs x.1 in
      ((y.0, x.0), y.1)
  there_e (lnot p a) fs h =
      let x = there_e a (also (other_type Logical (type_e t a) p) fs) h in
      let y = wanted_there Logical (type_e t a) p fs x.1 in
      ((y.0, x.0), y.1)
  there_e (convert k a) fs h = there_e a fs h
  there_e (field a b p e) fs h = there_e e fs h
  there_e (shift s c p e) fs h = there_e e fs h

  there_k : (w : ValueType) (p : ℕ) (e : Expr) (fs : List Refusal) → types_k t w p e fs ≡ [] → OfType t w e × (fs ≡ [])
  there_k w p e fs h =
      let x = there_e e (also (other_type w (type_e t e) p) fs) h in
      let y = wanted_there w (type_e t e) p fs x.1 in
      ((y.0, x.0), y.1)

  there_l : (c : Clause) (fs : List Refusal) → types_l t c fs ≡ [] → TypesHoldL t c × (fs ≡ [])
  there_l (test p e) fs h = there_k Logical p e fs h
  there_l (and p e c) fs h =
      let x = there_k Logical p e (types_l t c fs) h in
      let y = there_l c fs x.1 in
      ((x.0, y.0), y.1)

  there_c : (c : Cond) (fs : List Refusal) → types_c t c fs ≡ [] → TypesHoldC t c × (fs ≡ [])
  there_c (only c) fs h = there_l c fs h
  there_c (or c d) fs h =
      let x = there_l c (types_c t d fs) h in
      let y = there_c d fs x.1 in
      ((x.0, y.0), y.1)

  there_p : (f : ℕ) (s : Step) (fs : List Refusal) → types_p t f s fs ≡ [] → TypesHoldP t s × (fs ≡ [])
  there_p f absent fs h = (tt, h)
  there_p f (by e) fs h = there_k Integer f e fs h

  mutual
    there_s : (s : Stmt) (fs : List Refusal) → types_s t s fs ≡ [] → TypesHoldS t s × (fs ≡ [])
    there_s (assign n p q e) fs h = there_k (row_of t n).value_type q e fs h
    there_s (assign_at n p o i q e) fs h =
        let x = there_k Integer o i (types_k t (row_of t n).value_type q e fs) h in
        let y = there_k (row_of t n).value_type q e fs x.1 in
        ((x.0, y.0), y.1)
    there_s (deposit n p a b f q e) fs h = there_k (row_of t n).value_type q e fs h
    there_s (deposit_at n p o i a b f q e) fs h =
        let x = there_k Integer o i (types_k t (row_of t n).value_type q e fs) h in
        let y = there_k (row_of t n).value_type q e fs x.1 in
        ((x.0, y.0), y.1)
    there_s (when c b) fs h =
        let x = there_c c (types_b t b fs) h in
        let y = there_b b fs x.1 in
        ((x.0, y.0), y.1)
    there_s (either c b d) fs h =
        let x = there_c c (types_b t b (types_b t d fs)) h in
        let y = there_b b (types_b t d fs) x.1 in
        let z = there_b d fs y.1 in
        ((x.0, y.0, z.0), z.1)
    there_s (choose p e a) fs h =
        let x = there_k Integer p e (types_a t a fs) h in
        let y = there_a a fs x.1 in
        ((x.0, y.0), y.1)
    there_s (while c b) fs h =
        let x = there_c c (types_b t b fs) h in
        let y = there_b b fs x.1 in
        ((x.0, y.0), y.1)
    there_s (repeat b c) fs h =
        let x = there_b b (types_c t c fs) h in
        let y = there_c c fs x.1 in
        ((x.0, y.0), y.1)
    there_s (count n p f e s l b) fs h =
        let u = types_p t f s (types_k t Integer f l (types_b t b fs)) in
        let x = there_e e (also (first_value (row_of t n).value_type (type_e t e) f) u) h in
        let y = starting_there (row_of t n).value_type (type_e t e) f u x.1 in
        let z = there_p f s (types_k t Integer f l (types_b t b fs)) y.2 in
        let w = there_k Integer f l (types_b t b fs) z.1 in
        let v = there_b b fs w.1 in
        ((y.0, (y.1, x.0), z.0, w.0, v.0), v.1)

    there_b : (b : Body) (fs : List Refusal) → types_b t b fs ≡ [] → TypesHoldB t b × (fs ≡ [])
    there_b end fs h = (tt, h)
    there_b (then s b) fs h =
        let x = there_s s (types_b t b fs) h in
        let y = there_b b fs x.1 in
        ((x.0, y.0), y.1)

    there_a : (a : Arms) (fs : List Refusal) → types_a t a fs ≡ [] → TypesHoldA t a × (fs ≡ [])
    there_a (last b) fs h = there_b b fs h
    there_a (arm b a) fs h =
        let x = there_b b (types_a t a fs) h in
        let y = there_a a fs x.1 in
        ((x.0, y.0), y.1)

  back_e : (e : Expr) (fs : List Refusal) → TypesHoldE t e → types_e t e fs ≡ fs
  back_e (number v k) fs d = refl
  back_e (load n p) fs d = refl
  back_e (index n p q e) fs d = back_e e _ d.1 ∙ wanted_back Integer (type_e t e) q fs d.0
  back_e (binary o p a b) fs d = back_e a _ d.2 ∙ back_e b _ d.3 ∙ sides_back o (type_e t a) (type_e t b) p fs d.0 d.1
  back_e (negate p a) fs d = back_e a _ d.1 ∙ wanted_back Integer (type_e t a) p fs d.0
  back_e (lnot p a) fs d = back_e a _ d.1 ∙ wanted_back Logical (type_e t a) p fs d.0
  back_e (convert k a) fs d = back_e a fs d
  back_e (field a b p e) fs d = back_e e fs d
  back_e (shift s c p e) fs d = back_e e fs d

  back_k : (w : ValueType) (p : ℕ) (e : Expr) (fs : List Refusal) → OfType t w e → types_k t w p e fs ≡ fs
  back_k w p e fs d = back_e e _ d.1 ∙ wanted_back w (type_e t e) p fs d.0

  back_l : (c : Clause) (fs : List Refusal) → TypesHoldL t c → types_l t c fs ≡ fs
  back_l (test p e) fs d = back_k Logical p e fs d
  back_l (and p e c) fs d = back_k Logical p e _ d.0 ∙ back_l c fs d.1

  back_c : (c : Cond) (fs : List Refusal) → TypesHoldC t c → types_c t c fs ≡ fs
  back_c (only c) fs d = back_l c fs d
  back_c (or c e) fs d = back_l c _ d.0 ∙ back_c e fs d.1

  back_p : (f : ℕ) (s : Step) (fs : List Refusal) → TypesHoldP t s → types_p t f s fs ≡ fs
  back_p f absent fs d = refl
  back_p f (by e) fs d = back_k Integer f e fs d

  mutual
    back_s : (s : Stmt) (fs : List Refusal) → TypesHoldS t s → types_s t s fs ≡ fs
    back_s (assign n p q e) fs d = back_k (row_of t n).value_type q e fs d
    back_s (assign_at n p o i q e) fs d = back_k Integer o i _ d.0 ∙ back_k (row_of t n).value_type q e fs d.1
    back_s (deposit n p a b f q e) fs d = back_k (row_of t n).value_type q e fs d
    back_s (deposit_at n p o i a b f q e) fs d = back_k Integer o i _ d.0 ∙ back_k (row_of t n).value_type q e fs d.1
    back_s (when c b) fs d = back_c c _ d.0 ∙ back_b b fs d.1
    back_s (either c b e) fs d = back_c c _ d.0 ∙ back_b b _ d.1 ∙ back_b e fs d.2
    back_s (choose p e a) fs d = back_k Integer p e _ d.0 ∙ back_a a fs d.1
    back_s (while c b) fs d = back_c c _ d.0 ∙ back_b b fs d.1
    back_s (repeat b c) fs d = back_b b _ d.0 ∙ back_c c fs d.1
    back_s (count n p f e s l b) fs d =
        back_e e _ d.1.1
        ∙ starting_back (row_of t n).value_type (type_e t e) f _ d.0 d.1.0
        ∙ back_p f s _ d.2
        ∙ back_k Integer f l _ d.3
        ∙ back_b b fs d.4

    back_b : (b : Body) (fs : List Refusal) → TypesHoldB t b → types_b t b fs ≡ fs
    back_b end fs d = refl
    back_b (then s b) fs d = back_s s _ d.0 ∙ back_b b fs d.1

    back_a : (a : Arms) (fs : List Refusal) → TypesHoldA t a → types_a t a fs ≡ fs
    back_a (last b) fs d = back_b b fs d
    back_a (arm b a) fs d = back_b b _ d.0 ∙ back_a a fs d.1

pub typed_there : (p : Program) → least (program_types p) ≡ None → TypesHold p
unfolding program_types
typed_there p h = (there_b (program_table p) p.body [] (least_none (program_types p) h)).0

pub typed_back : (p : Program) → TypesHold p → least (program_types p) ≡ None
unfolding program_types
typed_back p d = none_least (program_types p) (back_b (program_table p) p.body [] d)
