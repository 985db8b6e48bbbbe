-- Where in a tree each fault of names, types and sizes stands, stated for each number on the tree itself. A
-- definition over a refusal r says that r stands there.
use Rattle.std.specs.Prelude.{◌≡◌, ℕ, ◌+◌, ◌<◌, ◌≤◌, Bool, false, cond, ◌||◌, ◌≢◌, ◌⊎◌, List, [], ◌∷◌, reverse, Some, None, Option}
use Rattle.std.specs.Str.{bytes_eq}
use Rattle.base.specs.Limits.{most_names, most_cells}
use Rattle.base.specs.declared.refusal.Refusal.{Refusal}
use Rattle.base.specs.Refusals.{refusal_at}
use Rattle.arith.specs.Fields.{is_field}
use Rattle.parser.specs.declared.value_type.ValueType.TheVariants.{Integer, Logical}
use Rattle.ast.specs.Trees.{Expr, number, load, index, binary, negate, lnot, convert, field, shift, Step, absent, by, Stmt, assign, assign_at, deposit, deposit_at, when, either, choose, while, repeat, count, Body, Decl, simple, array, Program}
use Rattle.sema.specs.declared.entry.Sort.{Sort}
use Rattle.sema.specs.declared.entry.Sort.TheVariants as sort
use Rattle.sema.specs.Tables.{Table, row_of}
use Rattle.sema.specs.Names.{Use, simple_use, array_use, program_table}
use Rattle.sema.specs.Types.{type_e}
use Rattle.sema.specs.Rules.{declared_name, IsUnused, Suits, width, widths}
use Rattle.sema.specs.Parts.{SomeB, SomeDecl}

-- Lists of declarations have the last one first here, so that the declarations before one are the rest of its list.

-- The offset of the name in a declaration.
abbrev pub offset_of_decl : Decl → ℕ
offset_of_decl (simple n k p) = p
offset_of_decl (array n k l h p q) = p

-- Whether a declaration is that of an array or of a simple name.
abbrev pub sort_of : Decl → Sort
sort_of (simple n k p) = sort.Simple
sort_of (array n k l h p q) = sort.Array

-- One of these declarations is of the name n.
abbrev pub declares : List Decl → List ℕ → Bool
declares [] n = false
declares (d ∷ ds) n = bytes_eq (declared_name d) n || declares ds n

-- How many different names these declarations declare.
abbrev pub distinct_names : List Decl → ℕ
distinct_names [] = 0
distinct_names (d ∷ ds) = cond (declares ds (declared_name d)) (distinct_names ds) (distinct_names ds + 1)

-- The name n is one of the first 64 that these declare, and its first declaration is that of an array or of a simple
-- name, as s says.
abbrev pub IsEntered : List Decl → List ℕ → Sort → Type 0
IsEntered [] n s = ⊥
IsEntered (d ∷ before) n s =
    IsEntered before n s ⊎ ((declared_name d ≡ n) × (sort_of d ≡ s) × IsUnused n before × (distinct_names before < most_names))

-- The name n is one of the first 64 that these declare.
abbrev pub IsKnown : List Decl → List ℕ → Type 0
IsKnown ds n = (s : Sort) × IsEntered ds n s

-- 8 stands at a declaration whose name is known already.
abbrev pub Again : Refusal → List Decl → Decl → Type 0
Again r before d = (r ≡ refusal_at 8 (offset_of_decl d)) × IsKnown before (declared_name d)

-- 9 stands at a declaration whose name is not known, if 64 names are known already.
abbrev pub Past : Refusal → List Decl → Decl → Type 0
Past r before d =
    (r ≡ refusal_at 9 (offset_of_decl d)) × (IsKnown before (declared_name d) → ⊥) × (most_names ≤ distinct_names before)

-- 8 stands at some declaration of the program.
abbrev pub DeclaresAgain : Program → Refusal → Type 0
DeclaresAgain x r = SomeDecl (Again r) [] x.decls

-- 9 stands at some declaration of the program.
abbrev pub DeclaresPast : Program → Refusal → Type 0
DeclaresPast x r = SomeDecl (Past r) [] x.decls

-- The name that an expression itself uses, not in one of its parts, with its offset and whether it has a subscript.
abbrev pub use_e : Expr → Option Use
use_e (load n p) = simple_use n p
use_e (index n p q e) = array_use n p
use_e _ = None

-- The name that a statement itself uses, not in one of its parts, with its offset and whether it has a subscript.
abbrev pub use_s : Stmt → Option Use
use_s (assign n p q e) = simple_use n p
use_s (assign_at n p o i q e) = array_use n p
use_s (deposit n p a b f q e) = simple_use n p
use_s (deposit_at n p o i a b f q e) = array_use n p
use_s (count n p f e s l b) = simple_use n p
use_s _ = None

-- A name is used, and its use satisfies P.
abbrev pub IfUsed : (Use → Type 0) → Option Use → Type 0
IfUsed P None = ⊥
IfUsed P (Some u) = P u

-- Somewhere in the statements a name is used in a way that satisfies P.
abbrev pub SomeUse : (Use → Type 0) → Body → Type 0
SomeUse P b = SomeB (λ e. IfUsed P (use_e e)) (λ p e. ⊥) (λ s. IfUsed P (use_s s)) b

-- 7 stands at a use of a name that is not known.
abbrev pub IsUnknownUse : Program → Refusal → Use → Type 0
IsUnknownUse x r u = (r ≡ refusal_at 7 u.offset) × (IsKnown (reverse x.decls) u.name → ⊥)

-- 10 stands at a use of a name that is known, but as an array where it is used as a simple name or the other way
-- round.
abbrev pub IsOtherUse : Program → Refusal → Use → Type 0
IsOtherUse x r u = (r ≡ refusal_at 10 u.offset) × ((s : Sort) × IsEntered (reverse x.decls) u.name s × (s ≢ u.sort))

-- 7 stands at some use of a name.
abbrev pub UsesUnknown : Program → Refusal → Type 0
UsesUnknown x r = SomeUse (IsUnknownUse x r) x.body

-- 10 stands at some use of a name.
abbrev pub UsesWrongly : Program → Refusal → Type 0
UsesWrongly x r = SomeUse (IsOtherUse x r) x.body

-- The refusal r is a fault of names: one of 7 to 10.
abbrev pub NameFault : Program → Refusal → Type 0
NameFault x r = UsesUnknown x r ⊎ DeclaresAgain x r ⊎ DeclaresPast x r ⊎ UsesWrongly x r

-- 11 stands at the parenthesis of a subscript, at a leading `-` or at an operator, where a type is not the one that
-- is wanted.
abbrev pub IllE : Table → Refusal → Expr → Type 0
IllE t r (index n p q e) = (r ≡ refusal_at 11 q) × (type_e t e ≢ Integer)
IllE t r (binary o p a b) = (r ≡ refusal_at 11 p) × ((type_e t a ≡ type_e t b) × Suits o (type_e t a) → ⊥)
IllE t r (negate p a) = (r ≡ refusal_at 11 p) × (type_e t a ≢ Integer)
IllE t r (lnot p a) = (r ≡ refusal_at 11 p) × (type_e t a ≢ Logical)
IllE t r _ = ⊥

-- 11 stands at the first token of an expression of a condition that is not LOGICAL.
abbrev pub IllT : Table → Refusal → ℕ → Expr → Type 0
IllT t r p e = (r ≡ refusal_at 11 p) × (type_e t e ≢ Logical)

-- The step of a FOR is written and is not an INTEGER.
abbrev pub IllStep : Table → Step → Type 0
IllStep t absent = ⊥
IllStep t (by e) = type_e t e ≢ Integer

-- 11 stands at a `:=`, at the parenthesis of the subscript left of it, at CASE or at FOR, where a type is not the one
-- that is wanted.
abbrev pub IllS : Table → Refusal → Stmt → Type 0
IllS t r (assign n p q e) = (r ≡ refusal_at 11 q) × (type_e t e ≢ (row_of t n).value_type)
IllS t r (assign_at n p o i q e) =
    ((r ≡ refusal_at 11 o) × (type_e t i ≢ Integer)) ⊎ ((r ≡ refusal_at 11 q) × (type_e t e ≢ (row_of t n).value_type))
IllS t r (deposit n p a b f q e) = (r ≡ refusal_at 11 q) × (type_e t e ≢ (row_of t n).value_type)
IllS t r (deposit_at n p o i a b f q e) =
    ((r ≡ refusal_at 11 o) × (type_e t i ≢ Integer)) ⊎ ((r ≡ refusal_at 11 q) × (type_e t e ≢ (row_of t n).value_type))
IllS t r (choose p e a) = (r ≡ refusal_at 11 p) × (type_e t e ≢ Integer)
IllS t r (count n p f e s l b) =
    (r ≡ refusal_at 11 f) × (((row_of t n).value_type ≢ Integer) ⊎ (type_e t e ≢ Integer) ⊎ IllStep t s ⊎ (type_e t l ≢ Integer))
IllS t r _ = ⊥

-- The refusal r is a fault of types: 11 at its place.
abbrev pub TypeFault : Program → Refusal → Type 0
TypeFault x r = SomeB (IllE (program_table x) r) (IllT (program_table x) r) (IllS (program_table x) r) x.body

-- 12 stands at the first number of a field that does not lie in a word, or at the count of a shift by more than 15.
abbrev pub OutE : Refusal → Expr → Type 0
OutE r (field a b p e) = (r ≡ refusal_at 12 p) × (is_field a b ≡ false)
OutE r (shift s c p e) = (r ≡ refusal_at 12 p) × (15 < c)
OutE r _ = ⊥

-- 12 stands at the first number of a field that is assigned and does not lie in a word.
abbrev pub OutS : Refusal → Stmt → Type 0
OutS r (deposit n p a b f q e) = (r ≡ refusal_at 12 f) × (is_field a b ≡ false)
OutS r (deposit_at n p o i a b f q e) = (r ≡ refusal_at 12 f) × (is_field a b ≡ false)
OutS r _ = ⊥

-- 12 stands at a low bound that is not 0.
abbrev pub OutD : Refusal → List Decl → Decl → Type 0
OutD r before (simple n k p) = ⊥
OutD r before (array n k l h p q) = (r ≡ refusal_at 12 q) × (l ≢ 0)

-- 12 stands somewhere in the program.
abbrev pub OutOfRange : Program → Refusal → Type 0
OutOfRange x r = SomeDecl (OutD r) [] x.decls ⊎ SomeB (OutE r) (λ p e. ⊥) (OutS r) x.body

-- 13 stands at a declaration with which the names so far take over 4,096 cells.
abbrev pub Over : Refusal → List Decl → Decl → Type 0
Over r before d = (r ≡ refusal_at 13 (offset_of_decl d)) × (most_cells < widths before + width d)

-- 13 stands at a declaration with which the names so far take over 4,096 cells, while those before it do not.
abbrev pub Passes : Refusal → List Decl → Decl → Type 0
Passes r before d = Over r before d × (widths before ≤ most_cells)

-- 13 stands at some declaration of the program.
abbrev pub TooWide : Program → Refusal → Type 0
TooWide x r = SomeDecl (Over r) [] x.decls

-- The refusal r is a fault of sizes: 12 or 13.
abbrev pub SizeFault : Program → Refusal → Type 0
SizeFault x r = OutOfRange x r ⊎ TooWide x r
