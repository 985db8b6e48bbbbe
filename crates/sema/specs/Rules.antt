-- The rules that a source has to keep: what each form requires of its names, its types and its numbers.
use Rattle.std.specs.Prelude.{◌≡◌, ℕ, ◌+◌, ◌≤◌, true, List, [], ◌∷◌, length, Some, None}
use Rattle.base.specs.Limits.{most_names, most_cells}
use Rattle.base.specs.declared.refusal.Refusal.{Refusal}
use Rattle.arith.specs.Fields.{is_field}
use Rattle.parser.specs.declared.value_type.ValueType.{ValueType}
use Rattle.parser.specs.declared.value_type.ValueType.TheVariants.{Integer, Logical}
use Rattle.parser.specs.declared.node.Operator.{Operator}
use Rattle.parser.specs.declared.node.Operator.TheVariants.{Times, Divide, Mod, Plus, Minus, Equal, Unequal, Less, AtMost, Greater, AtLeast, Land, Xor, Lor}
use Rattle.ast.specs.Trees.{Expr, number, load, index, binary, negate, lnot, convert, field, shift, Clause, test, and, Cond, only, or, Step, absent, by, Stmt, assign, assign_at, deposit, deposit_at, when, either, choose, while, repeat, count, Body, end, then, Arms, last, arm, Decl, simple, array, Program}
use Rattle.sema.specs.declared.entry.Sort.{Sort}
use Rattle.sema.specs.declared.entry.Sort.TheVariants as sort
use Rattle.sema.specs.Tables.{Row, Table, array_cells, look, row_of}
use Rattle.sema.specs.Faults.{least}
use Rattle.sema.specs.Names.{program_table, program_names}
use Rattle.sema.specs.Types.{type_e, program_types}
use Rattle.sema.specs.Sizes.{program_sizes}

-- Rules of names. The name n is declared, as a simple name or as an array.
pub record IsDeclared (t : Table) (n : List ℕ) (s : Sort) : Type 0 where
  pub row : Row
  pub found : look t.rows n ≡ Some row
  pub sort : row.sort ≡ s

-- The names of an expression are in order: an array stands with a subscript, a simple name without one.
abbrev pub NamesHoldE : Table → Expr → Type 0
NamesHoldE t (number v k) = Unit {0}
NamesHoldE t (load n p) = IsDeclared t n sort.Simple
NamesHoldE t (index n p q e) = IsDeclared t n sort.Array × NamesHoldE t e
NamesHoldE t (binary o p a b) = NamesHoldE t a × NamesHoldE t b
NamesHoldE t (negate p a) = NamesHoldE t a
NamesHoldE t (lnot p a) = NamesHoldE t a
NamesHoldE t (convert k a) = NamesHoldE t a
NamesHoldE t (field a b p e) = NamesHoldE t e
NamesHoldE t (shift s c p e) = NamesHoldE t e

-- The names of a clause are in order.
abbrev pub NamesHoldL : Table → Clause → Type 0
NamesHoldL t (test p e) = NamesHoldE t e
NamesHoldL t (and p e c) = NamesHoldE t e × NamesHoldL t c

-- The names of a condition are in order.
abbrev pub NamesHoldC : Table → Cond → Type 0
NamesHoldC t (only c) = NamesHoldL t c
NamesHoldC t (or c d) = NamesHoldL t c × NamesHoldC t d

-- The names of the step of a FOR are in order.
abbrev pub NamesHoldP : Table → Step → Type 0
NamesHoldP t absent = Unit {0}
NamesHoldP t (by e) = NamesHoldE t e

abbrev mutual
  -- The names of a statement are in order.
  pub NamesHoldS : Table → Stmt → Type 0
  NamesHoldS t (assign n p q e) = IsDeclared t n sort.Simple × NamesHoldE t e
  NamesHoldS t (assign_at n p o i q e) = IsDeclared t n sort.Array × NamesHoldE t i × NamesHoldE t e
  NamesHoldS t (deposit n p a b f q e) = IsDeclared t n sort.Simple × NamesHoldE t e
  NamesHoldS t (deposit_at n p o i a b f q e) = IsDeclared t n sort.Array × NamesHoldE t i × NamesHoldE t e
  NamesHoldS t (when c b) = NamesHoldC t c × NamesHoldB t b
  NamesHoldS t (either c b d) = NamesHoldC t c × NamesHoldB t b × NamesHoldB t d
  NamesHoldS t (choose p e a) = NamesHoldE t e × NamesHoldA t a
  NamesHoldS t (while c b) = NamesHoldC t c × NamesHoldB t b
  NamesHoldS t (repeat b c) = NamesHoldB t b × NamesHoldC t c
  NamesHoldS t (count n p f e s l b) =
      IsDeclared t n sort.Simple × NamesHoldE t e × NamesHoldP t s × NamesHoldE t l × NamesHoldB t b

  -- The names of a list of statements are in order.
  pub NamesHoldB : Table → Body → Type 0
  NamesHoldB t end = Unit {0}
  NamesHoldB t (then s b) = NamesHoldS t s × NamesHoldB t b

  -- The names of the statements of a CASE are in order.
  pub NamesHoldA : Table → Arms → Type 0
  NamesHoldA t (last b) = NamesHoldB t b
  NamesHoldA t (arm b a) = NamesHoldB t b × NamesHoldA t a

-- The name that a declaration declares.
abbrev pub declared_name : Decl → List ℕ
declared_name (simple n k p) = n
declared_name (array n k l h p q) = n

-- None of these declarations is of the name n.
abbrev pub IsUnused : List ℕ → List Decl → Type 0
IsUnused n [] = Unit {0}
IsUnused n (d ∷ ds) = (declared_name d ≡ n → ⊥) × IsUnused n ds

-- No two of these declarations are of the same name.
abbrev pub Once : List Decl → Type 0
Once [] = Unit {0}
Once (d ∷ ds) = IsUnused (declared_name d) ds × Once ds

-- The names of a program are in order: each is declared once, at most 64 are declared, and the statements use them as
-- they are declared.
pub record NamesHold (p : Program) : Type 0 where
  pub once : Once p.decls
  pub few : length p.decls ≤ most_names
  pub body : NamesHoldB (program_table p) p.body

-- Rules of types. An operator takes sides of this type: LAND, XOR and LOR take LOGICALs only.
abbrev pub Suits : Operator → ValueType → Type 0
Suits Times k = Unit {0}
Suits Divide k = Unit {0}
Suits Mod k = Unit {0}
Suits Plus k = Unit {0}
Suits Minus k = Unit {0}
Suits Equal k = Unit {0}
Suits Unequal k = Unit {0}
Suits Less k = Unit {0}
Suits AtMost k = Unit {0}
Suits Greater k = Unit {0}
Suits AtLeast k = Unit {0}
Suits Land k = k ≡ Logical
Suits Xor k = k ≡ Logical
Suits Lor k = k ≡ Logical

-- The types of an expression are in order: a subscript is an INTEGER, and both sides of an operator have the same
-- type.
abbrev pub TypesHoldE : Table → Expr → Type 0
TypesHoldE t (number v k) = Unit {0}
TypesHoldE t (load n p) = Unit {0}
TypesHoldE t (index n p q e) = (type_e t e ≡ Integer) × TypesHoldE t e
TypesHoldE t (binary o p a b) = (type_e t a ≡ type_e t b) × Suits o (type_e t a) × TypesHoldE t a × TypesHoldE t b
TypesHoldE t (negate p a) = (type_e t a ≡ Integer) × TypesHoldE t a
TypesHoldE t (lnot p a) = (type_e t a ≡ Logical) × TypesHoldE t a
TypesHoldE t (convert k a) = TypesHoldE t a
TypesHoldE t (field a b p e) = TypesHoldE t e
TypesHoldE t (shift s c p e) = TypesHoldE t e

-- An expression of this type, with its types in order.
abbrev pub OfType : Table → ValueType → Expr → Type 0
OfType t k e = (type_e t e ≡ k) × TypesHoldE t e

-- The types of a clause are in order: its expressions are LOGICAL.
abbrev pub TypesHoldL : Table → Clause → Type 0
TypesHoldL t (test p e) = OfType t Logical e
TypesHoldL t (and p e c) = OfType t Logical e × TypesHoldL t c

-- The types of a condition are in order.
abbrev pub TypesHoldC : Table → Cond → Type 0
TypesHoldC t (only c) = TypesHoldL t c
TypesHoldC t (or c d) = TypesHoldL t c × TypesHoldC t d

-- The types of the step of a FOR are in order.
abbrev pub TypesHoldP : Table → Step → Type 0
TypesHoldP t absent = Unit {0}
TypesHoldP t (by e) = OfType t Integer e

abbrev mutual
  -- The types of a statement are in order. What is assigned has the type of the variable, also where only a field of
  -- it is assigned.
  pub TypesHoldS : Table → Stmt → Type 0
  TypesHoldS t (assign n p q e) = OfType t (row_of t n).value_type e
  TypesHoldS t (assign_at n p o i q e) = OfType t Integer i × OfType t (row_of t n).value_type e
  TypesHoldS t (deposit n p a b f q e) = OfType t (row_of t n).value_type e
  TypesHoldS t (deposit_at n p o i a b f q e) = OfType t Integer i × OfType t (row_of t n).value_type e
  TypesHoldS t (when c b) = TypesHoldC t c × TypesHoldB t b
  TypesHoldS t (either c b d) = TypesHoldC t c × TypesHoldB t b × TypesHoldB t d
  TypesHoldS t (choose p e a) = OfType t Integer e × TypesHoldA t a
  TypesHoldS t (while c b) = TypesHoldC t c × TypesHoldB t b
  TypesHoldS t (repeat b c) = TypesHoldB t b × TypesHoldC t c
  TypesHoldS t (count n p f e s l b) =
      ((row_of t n).value_type ≡ Integer) × OfType t Integer e × TypesHoldP t s × OfType t Integer l × TypesHoldB t b

  -- The types of a list of statements are in order.
  pub TypesHoldB : Table → Body → Type 0
  TypesHoldB t end = Unit {0}
  TypesHoldB t (then s b) = TypesHoldS t s × TypesHoldB t b

  -- The types of the statements of a CASE are in order.
  pub TypesHoldA : Table → Arms → Type 0
  TypesHoldA t (last b) = TypesHoldB t b
  TypesHoldA t (arm b a) = TypesHoldB t b × TypesHoldA t a

-- The types of a program are in order.
abbrev pub TypesHold : Program → Type 0
TypesHold p = TypesHoldB (program_table p) p.body

-- Rules of sizes. The numbers of an expression are in range: fields lie in a word, and shifts are by at most 15.
abbrev pub RangesHoldE : Expr → Type 0
RangesHoldE (number v k) = Unit {0}
RangesHoldE (load n p) = Unit {0}
RangesHoldE (index n p q e) = RangesHoldE e
RangesHoldE (binary o p a b) = RangesHoldE a × RangesHoldE b
RangesHoldE (negate p a) = RangesHoldE a
RangesHoldE (lnot p a) = RangesHoldE a
RangesHoldE (convert k a) = RangesHoldE a
RangesHoldE (field a b p e) = (is_field a b ≡ true) × RangesHoldE e
RangesHoldE (shift s c p e) = (c ≤ 15) × RangesHoldE e

-- The numbers of a clause are in range.
abbrev pub RangesHoldL : Clause → Type 0
RangesHoldL (test p e) = RangesHoldE e
RangesHoldL (and p e c) = RangesHoldE e × RangesHoldL c

-- The numbers of a condition are in range.
abbrev pub RangesHoldC : Cond → Type 0
RangesHoldC (only c) = RangesHoldL c
RangesHoldC (or c d) = RangesHoldL c × RangesHoldC d

-- The numbers of the step of a FOR are in range.
abbrev pub RangesHoldP : Step → Type 0
RangesHoldP absent = Unit {0}
RangesHoldP (by e) = RangesHoldE e

abbrev mutual
  -- The numbers of a statement are in range.
  pub RangesHoldS : Stmt → Type 0
  RangesHoldS (assign n p q e) = RangesHoldE e
  RangesHoldS (assign_at n p o i q e) = RangesHoldE i × RangesHoldE e
  RangesHoldS (deposit n p a b f q e) = (is_field a b ≡ true) × RangesHoldE e
  RangesHoldS (deposit_at n p o i a b f q e) = (is_field a b ≡ true) × RangesHoldE i × RangesHoldE e
  RangesHoldS (when c b) = RangesHoldC c × RangesHoldB b
  RangesHoldS (either c b d) = RangesHoldC c × RangesHoldB b × RangesHoldB d
  RangesHoldS (choose p e a) = RangesHoldE e × RangesHoldA a
  RangesHoldS (while c b) = RangesHoldC c × RangesHoldB b
  RangesHoldS (repeat b c) = RangesHoldB b × RangesHoldC c
  RangesHoldS (count n p f e s l b) = RangesHoldE e × RangesHoldP s × RangesHoldE l × RangesHoldB b

  -- The numbers of a list of statements are in range.
  pub RangesHoldB : Body → Type 0
  RangesHoldB end = Unit {0}
  RangesHoldB (then s b) = RangesHoldS s × RangesHoldB b

  -- The numbers of the statements of a CASE are in range.
  pub RangesHoldA : Arms → Type 0
  RangesHoldA (last b) = RangesHoldB b
  RangesHoldA (arm b a) = RangesHoldB b × RangesHoldA a

-- Every array of these declarations begins at 0.
abbrev pub Lows : List Decl → Type 0
Lows [] = Unit {0}
Lows (simple n k p ∷ ds) = Lows ds
Lows (array n k l h p q ∷ ds) = (l ≡ 0) × Lows ds

-- The sizes of a program are in order: its arrays begin at 0, its names take at most 4,096 cells, and the numbers of
-- its statements are in range.
pub record RangesHold (p : Program) : Type 0 where
  pub lows : Lows p.decls
  pub cells : (program_table p).cells ≤ most_cells
  pub body : RangesHoldB p.body

-- A program keeps all rules: those of names, of types and of sizes.
pub record KeepsTheRules (p : Program) : Type 0 where
  pub names : NamesHold p
  pub types : TypesHold p
  pub sizes : RangesHold p

-- How many cells a declaration takes: an array takes one more than its high bound.
abbrev pub width : Decl → ℕ
width (simple n k p) = 1
width (array n k l h p q) = array_cells h

-- How many cells these declarations take together.
abbrev pub widths : List Decl → ℕ
widths [] = 0
widths (d ∷ ds) = width d + widths ds

-- The rows of declarations whose cells lie one after another from c on.
abbrev pub rows_from : ℕ → List Decl → List Row
rows_from c [] = []
rows_from c (simple n k p ∷ ds) =
    record { name = n; value_type = k; sort = sort.Simple; cell = c; cells = 1 } ∷ rows_from (c + 1) ds
rows_from c (array n k l h p q ∷ ds) =
    record { name = n; value_type = k; sort = sort.Array; cell = c; cells = array_cells h } ∷ rows_from (c + array_cells h) ds

-- The table of declarations whose cells lie one after another from 0 on.
abbrev pub layout_of : List Decl → Table
layout_of ds = record { rows = rows_from 0 ds; cells = widths ds }

-- The list has no fault.
abbrev pub Faultless : List Refusal → Type 0
Faultless fs = least fs ≡ None

-- The stages find no fault in a program exactly where it keeps the rules, and each stage finds none exactly where the
-- program keeps the rules of that stage.
pub record AdmitsExactly : Type 0 where
  pub keeps : (p : Program) → Faultless (program_names p) × Faultless (program_types p) × Faultless (program_sizes p) → KeepsTheRules p
  pub admits : (p : Program) → KeepsTheRules p → Faultless (program_names p) × Faultless (program_types p) × Faultless (program_sizes p)
  pub names : (p : Program) → (Faultless (program_names p) → NamesHold p) × (NamesHold p → Faultless (program_names p))
  pub types : (p : Program) → (Faultless (program_types p) → TypesHold p) × (TypesHold p → Faultless (program_types p))
  pub sizes : (p : Program) → (Faultless (program_sizes p) → RangesHold p) × (RangesHold p → Faultless (program_sizes p))
  -- where the names are in order, this is the table by which names, types and sizes are judged
  pub table : (p : Program) → NamesHold p → program_table p ≡ layout_of p.decls
