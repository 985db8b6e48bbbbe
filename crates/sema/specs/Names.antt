-- The stage of names: every name is declared once, before it is used, and has a subscript if it is an array.
use Rattle.std.specs.Prelude.{ℕ, Bool, true, false, cond, List, [], ◌∷◌, length, Some, None, Option, nat_lt}
use Rattle.base.specs.Limits.{most_names}
use Rattle.base.specs.declared.refusal.Refusal.{Refusal}
use Rattle.base.specs.Refusals.{refusal_at}
use Rattle.parser.specs.declared.value_type.ValueType.{ValueType}
use Rattle.parser.specs.Nodes.{Node}
use Rattle.parser.specs.Nodes as node
use Rattle.ast.specs.Trees.{Expr, number, load, index, binary, negate, lnot, convert, field, shift, Clause, test, and, Cond, only, or, Step, absent, by, Stmt, assign, assign_at, deposit, deposit_at, when, either, choose, while, repeat, count, Body, end, then, Arms, last, arm, Decl, simple, array, Program}
use Rattle.sema.specs.declared.entry.Sort.{Sort}
use Rattle.sema.specs.declared.entry.Sort.TheVariants as sort
use Rattle.sema.specs.Faults.{also, unless}
use Rattle.sema.specs.Tables.{Row, Table, array_cells, look, is_known, declare, empty}

-- A declaration of a name: its type, whether it is an array, and how many cells it takes.
pub record DeclaredName : Type 0 where
  pub name : List ℕ
  pub value_type : ValueType
  pub sort : Sort
  pub cells : ℕ
  pub offset : ℕ

-- A use of a name: whether it has to be an array or a simple name there.
pub record Use : Type 0 where
  pub name : List ℕ
  pub sort : Sort
  pub offset : ℕ

-- A use of a name without a subscript.
abbrev pub simple_use : List ℕ → ℕ → Option Use
simple_use n p = Some record { name = n; sort = sort.Simple; offset = p }

-- A use of a name with a subscript.
abbrev pub array_use : List ℕ → ℕ → Option Use
array_use n p = Some record { name = n; sort = sort.Array; offset = p }

-- The declaration that a node is, if it is one. An array has one cell more than its high bound.
abbrev pub decl_of : Node → Option DeclaredName
decl_of (node.Simple n k p) = Some record { name = n; value_type = k; sort = sort.Simple; cells = 1; offset = p }
decl_of (node.Array n k l h p q) =
    Some record { name = n; value_type = k; sort = sort.Array; cells = array_cells h; offset = p }
decl_of _ = None

-- The use of a name that a node is, if it is one.
abbrev pub use_of : Node → Option Use
use_of (node.Load n p) = simple_use n p
use_of (node.Index n p q) = array_use n p
use_of (node.Store n p q) = simple_use n p
use_of (node.Checked n p q) = array_use n p
use_of (node.StoreAt n p q) = array_use n p
use_of (node.Fetch n p) = simple_use n p
use_of (node.FetchAt n p q) = array_use n p
use_of (node.First n p f) = simple_use n p
use_of (node.For n p f) = simple_use n p
use_of _ = None

-- Whether both are arrays or both are simple names.
abbrev pub is_sort : Sort → Sort → Bool
is_sort sort.Simple sort.Simple = true
is_sort sort.Simple sort.Array = false
is_sort sort.Array sort.Simple = false
is_sort sort.Array sort.Array = true

-- The fault of a use, from the row of its name: 7 if the name is not declared, 10 if a subscript is missing or not
-- wanted.
abbrev pub used_as : Option Row → Sort → ℕ → Option Refusal
used_as None s p = Some (refusal_at 7 p)
used_as (Some r) s p = unless (is_sort s r.sort) 10 p

-- The fault of a use of the name n at the place p.
unfoldable pub use_refusal : Table → List ℕ → Sort → ℕ → Option Refusal
use_refusal t n s p = used_as (look t.rows n) s p

-- The fault of a use, if there is a use and it has a fault.
abbrev pub use_fault : Table → Option Use → Option Refusal
use_fault t None = None
use_fault t (Some u) = use_refusal t u.name u.sort u.offset

-- The fault of a declaration of the name n: 8 if it is declared already, 9 if 64 other names are.
unfoldable pub declaration_refusal : Table → List ℕ → ℕ → Option Refusal
declaration_refusal t n p =
    cond (is_known (look t.rows n)) (Some (refusal_at 8 p)) (unless (nat_lt (length t.rows) most_names) 9 p)

-- The fault of a node that declares a name, or uses a name, or does neither.
abbrev pub name_fault_by : Table → Option DeclaredName → Option Use → Option Refusal
name_fault_by t None u = use_fault t u
name_fault_by t (Some d) u = declaration_refusal t d.name d.offset

-- The fault of names at a node, if it has one.
abbrev pub name_fault : Table → Node → Option Refusal
name_fault t e = name_fault_by t (decl_of e) (use_of e)

-- The table after a declaration, if there is one.
abbrev pub entered_by : Table → Option DeclaredName → Table
entered_by t None = t
entered_by t (Some d) = declare t d.name d.value_type d.sort d.cells

-- The table after a node of the list.
abbrev pub table_after : Table → Node → Table
table_after t e = entered_by t (decl_of e)

-- The table after all nodes of a list.
abbrev pub table_from : Table → List Node → Table
table_from t [] = t
table_from t (e ∷ es) = table_from (table_after t e) es

-- The faults of names in a list of nodes, if t is the table before it.
abbrev pub name_faults : Table → List Node → List Refusal
name_faults t [] = []
name_faults t (e ∷ es) = also (name_fault t e) (name_faults (table_after t e) es)

-- The same on the tree. Each definition puts the faults of its part of the tree before the faults fs that follow.

-- The table after declarations.
abbrev pub table_of_decls : Table → List Decl → Table
table_of_decls t [] = t
table_of_decls t (simple n k p ∷ ds) = table_of_decls (declare t n k sort.Simple 1) ds
table_of_decls t (array n k l h p q ∷ ds) = table_of_decls (declare t n k sort.Array (array_cells h)) ds

-- The faults of names in declarations.
abbrev pub names_d : Table → List Decl → List Refusal → List Refusal
names_d t [] fs = fs
names_d t (simple n k p ∷ ds) fs = also (declaration_refusal t n p) (names_d (declare t n k sort.Simple 1) ds fs)
names_d t (array n k l h p q ∷ ds) fs =
    also (declaration_refusal t n p) (names_d (declare t n k sort.Array (array_cells h)) ds fs)

-- The faults of names in an expression.
abbrev pub names_e : Table → Expr → List Refusal → List Refusal
names_e t (number v k) fs = fs
names_e t (load n p) fs = also (use_refusal t n sort.Simple p) fs
names_e t (index n p q e) fs = names_e t e (also (use_refusal t n sort.Array p) fs)
names_e t (binary o p a b) fs = names_e t a (names_e t b fs)
names_e t (negate p a) fs = names_e t a fs
names_e t (lnot p a) fs = names_e t a fs
names_e t (convert k a) fs = names_e t a fs
names_e t (field a b p e) fs = names_e t e fs
names_e t (shift s c p e) fs = names_e t e fs

-- The faults of names in a clause of a condition.
abbrev pub names_l : Table → Clause → List Refusal → List Refusal
names_l t (test p e) fs = names_e t e fs
names_l t (and p e c) fs = names_e t e (names_l t c fs)

-- The faults of names in a condition.
abbrev pub names_c : Table → Cond → List Refusal → List Refusal
names_c t (only c) fs = names_l t c fs
names_c t (or c d) fs = names_l t c (names_c t d fs)

-- The faults of names in the step of a FOR.
abbrev pub names_p : Table → Step → List Refusal → List Refusal
names_p t absent fs = fs
names_p t (by e) fs = names_e t e fs

abbrev mutual
  -- The faults of names in a statement.
  pub names_s : Table → Stmt → List Refusal → List Refusal
  names_s t (assign n p q e) fs = names_e t e (also (use_refusal t n sort.Simple p) fs)
  names_s t (assign_at n p o i q e) fs =
      names_e t i (also (use_refusal t n sort.Array p) (names_e t e (also (use_refusal t n sort.Array p) fs)))
  names_s t (deposit n p a b f q e) fs =
      also (use_refusal t n sort.Simple p) (names_e t e (also (use_refusal t n sort.Simple p) fs))
  names_s t (deposit_at n p o i a b f q e) fs =
      names_e t i (also (use_refusal t n sort.Array p) (names_e t e (also (use_refusal t n sort.Array p) fs)))
  names_s t (when c b) fs = names_c t c (names_b t b fs)
  names_s t (either c b d) fs = names_c t c (names_b t b (names_b t d fs))
  names_s t (choose p e a) fs = names_e t e (names_a t a fs)
  names_s t (while c b) fs = names_c t c (names_b t b fs)
  names_s t (repeat b c) fs = names_b t b (names_c t c fs)
  names_s t (count n p f e s l b) fs =
      names_e t e (also (use_refusal t n sort.Simple p) (names_p t s (names_e t l (also (use_refusal t n sort.Simple p) (names_b t b fs)))))

  -- The faults of names in a list of statements.
  pub names_b : Table → Body → List Refusal → List Refusal
  names_b t end fs = fs
  names_b t (then s b) fs = names_s t s (names_b t b fs)

  -- The faults of names in the statements of a CASE.
  pub names_a : Table → Arms → List Refusal → List Refusal
  names_a t (last b) fs = names_b t b fs
  names_a t (arm b a) fs = names_b t b (names_a t a fs)

-- The table of a program.
unfoldable pub program_table : Program → Table
program_table p = table_of_decls empty p.decls

-- The faults of names of a program.
unfoldable pub program_names : Program → List Refusal
program_names p = names_d empty p.decls (names_b (program_table p) p.body [])
