-- The stage of types. The types of the operands that wait for their operator lie on a stack, with the last one on
-- top.
use Rattle.std.specs.Prelude.{ℕ, Bool, true, false, ◌&&◌, List, [], ◌∷◌, None, Option, slice_index_or}
use Rattle.base.specs.declared.refusal.Refusal.{Refusal}
use Rattle.parser.specs.declared.value_type.ValueType.{ValueType}
use Rattle.parser.specs.declared.value_type.ValueType.TheVariants.{Integer, Logical}
use Rattle.parser.specs.declared.node.Operator.{Operator}
use Rattle.parser.specs.declared.node.Operator.TheVariants.{Times, Divide, Mod, Plus, Minus, Equal, Unequal, Less, AtMost, Greater, AtLeast, Land, Xor, Lor}
use Rattle.parser.specs.Nodes.{Node}
use Rattle.parser.specs.Nodes as node
use Rattle.ast.specs.Trees.{Expr, number, load, index, binary, negate, lnot, convert, field, shift, Clause, test, and, Cond, only, or, Step, absent, by, Stmt, assign, assign_at, deposit, deposit_at, when, either, choose, while, repeat, count, Body, end, then, Arms, last, arm, Program}
use Rattle.sema.specs.declared.rule.Rule.{Rule}
use Rattle.sema.specs.declared.rule.Rule.TheVariants.{Idle, Gives, Joins, Keeps, Takes, Picks, Turns, Starts}
use Rattle.sema.specs.Faults.{also, unless}
use Rattle.base.specs.Stacks.{below}
use Rattle.sema.specs.Tables.{Table, row_of}
use Rattle.sema.specs.Names.{program_table}

-- Whether two types are the same.
abbrev pub is_type : ValueType → ValueType → Bool
is_type Integer Integer = true
is_type Integer Logical = false
is_type Logical Integer = false
is_type Logical Logical = true

-- The type of an operator with a left side of type k: a relation is LOGICAL, any other operator has the type of its
-- left side.
abbrev pub operator_type : Operator → ValueType → ValueType
operator_type Times k = k
operator_type Divide k = k
operator_type Mod k = k
operator_type Plus k = k
operator_type Minus k = k
operator_type Equal k = Logical
operator_type Unequal k = Logical
operator_type Less k = Logical
operator_type AtMost k = Logical
operator_type Greater k = Logical
operator_type AtLeast k = Logical
operator_type Land k = k
operator_type Xor k = k
operator_type Lor k = k

-- Whether an operator takes sides of this type: LAND, XOR and LOR take LOGICALs only.
abbrev pub takes_type : Operator → ValueType → Bool
takes_type Land k = is_type Logical k
takes_type Xor k = is_type Logical k
takes_type Lor k = is_type Logical k
takes_type _ k = true

-- Both sides have the same type, and the operator takes it.
abbrev pub agree : Operator → ValueType → ValueType → Bool
agree o a b = is_type a b && takes_type o a

-- 11 at the offset p unless the type k is the type w that is wanted.
abbrev pub other_type : ValueType → ValueType → ℕ → Option Refusal
other_type w k p = unless (is_type w k) 11 p

-- 11 at the offset p unless the sides have types that the operator takes.
abbrev pub sides : Operator → ValueType → ValueType → ℕ → Option Refusal
sides o a b p = unless (agree o a b) 11 p

-- 11 at the offset p unless the variable of a FOR and its first value are INTEGERs.
abbrev pub first_value : ValueType → ValueType → ℕ → Option Refusal
first_value v k p = unless (is_type Integer v && is_type Integer k) 11 p

-- What each node of the list does to the types on the stack.
abbrev pub rule_of : Table → Node → Rule
rule_of t (node.Number v k) = Gives k
rule_of t (node.Load n p) = Gives (row_of t n).value_type
rule_of t (node.Index n p q) = Picks (row_of t n).value_type q
rule_of t (node.Binary o p) = Joins o p
rule_of t (node.Negate p) = Keeps Integer p
rule_of t (node.Lnot p) = Keeps Logical p
rule_of t (node.Convert k) = Turns k
rule_of t (node.Store n p q) = Takes (row_of t n).value_type q
rule_of t (node.Checked n p q) = Takes Integer q
rule_of t (node.StoreAt n p q) = Takes (row_of t n).value_type q
rule_of t (node.FetchAt n p q) = Takes Integer q
rule_of t (node.Test p) = Takes Logical p
rule_of t (node.First n p f) = Starts (row_of t n).value_type f
rule_of t (node.Step f) = Takes Integer f
rule_of t (node.For n p f) = Takes Integer f
rule_of t (node.Case p) = Takes Integer p
rule_of t _ = Idle

-- The type of the last operand. In the list of a program there is one wherever one is taken.
abbrev pub top : List ValueType → ValueType
top s = slice_index_or s 0 Integer

-- The type of the operand before the last one.
abbrev pub second : List ValueType → ValueType
second s = slice_index_or s 1 Integer

-- The fault of types at a node, if the types on the stack are s.
abbrev pub clash : Rule → List ValueType → Option Refusal
clash Idle s = None
clash (Gives k) s = None
clash (Joins o p) s = sides o (second s) (top s) p
clash (Keeps w p) s = other_type w (top s) p
clash (Takes w p) s = other_type w (top s) p
clash (Picks k p) s = other_type Integer (top s) p
clash (Turns k) s = None
clash (Starts v p) s = first_value v (top s) p

-- The types on the stack after a node.
abbrev pub after : Rule → List ValueType → List ValueType
after Idle s = s
after (Gives k) s = k ∷ s
after (Joins o p) s = operator_type o (second s) ∷ below (below s)
after (Keeps w p) s = s
after (Takes w p) s = below s
after (Picks k p) s = k ∷ below s
after (Turns k) s = k ∷ below s
after (Starts v p) s = below s

-- The faults of types in a list of nodes, if s are the types on the stack before it.
abbrev pub type_faults : Table → List Node → List ValueType → List Refusal
type_faults t [] s = []
type_faults t (e ∷ es) s = also (clash (rule_of t e) s) (type_faults t es (after (rule_of t e) s))

-- The same on the tree. Each definition of faults puts those of its part of the tree before the faults fs that
-- follow.

-- The type of an expression.
abbrev pub type_e : Table → Expr → ValueType
type_e t (number v k) = k
type_e t (load n p) = (row_of t n).value_type
type_e t (index n p q e) = (row_of t n).value_type
type_e t (binary o p a b) = operator_type o (type_e t a)
type_e t (negate p a) = type_e t a
type_e t (lnot p a) = type_e t a
type_e t (convert k a) = k
type_e t (field a b p e) = type_e t e
type_e t (shift s c p e) = type_e t e

-- The faults of types in an expression.
abbrev pub types_e : Table → Expr → List Refusal → List Refusal
types_e t (number v k) fs = fs
types_e t (load n p) fs = fs
types_e t (index n p q e) fs = types_e t e (also (other_type Integer (type_e t e) q) fs)
types_e t (binary o p a b) fs = types_e t a (types_e t b (also (sides o (type_e t a) (type_e t b) p) fs))
types_e t (negate p a) fs = types_e t a (also (other_type Integer (type_e t a) p) fs)
types_e t (lnot p a) fs = types_e t a (also (other_type Logical (type_e t a) p) fs)
types_e t (convert k a) fs = types_e t a fs
types_e t (field a b p e) fs = types_e t e fs
types_e t (shift s c p e) fs = types_e t e fs

-- The faults of types in an expression that has to be of the type w, which is judged at the place p.
abbrev pub types_k : Table → ValueType → ℕ → Expr → List Refusal → List Refusal
types_k t w p e fs = types_e t e (also (other_type w (type_e t e) p) fs)

-- The faults of types in a clause.
abbrev pub types_l : Table → Clause → List Refusal → List Refusal
types_l t (test p e) fs = types_k t Logical p e fs
types_l t (and p e c) fs = types_k t Logical p e (types_l t c fs)

-- The faults of types in a condition.
abbrev pub types_c : Table → Cond → List Refusal → List Refusal
types_c t (only c) fs = types_l t c fs
types_c t (or c d) fs = types_l t c (types_c t d fs)

-- The faults of types in the step of a FOR, judged at the place of FOR.
abbrev pub types_p : Table → ℕ → Step → List Refusal → List Refusal
types_p t f absent fs = fs
types_p t f (by e) fs = types_k t Integer f e fs

abbrev mutual
  -- The faults of types in a statement.
  pub types_s : Table → Stmt → List Refusal → List Refusal
  types_s t (assign n p q e) fs = types_k t (row_of t n).value_type q e fs
  types_s t (assign_at n p o i q e) fs = types_k t Integer o i (types_k t (row_of t n).value_type q e fs)
  types_s t (deposit n p a b f q e) fs = types_k t (row_of t n).value_type q e fs
  types_s t (deposit_at n p o i a b f q e) fs = types_k t Integer o i (types_k t (row_of t n).value_type q e fs)
  types_s t (when c b) fs = types_c t c (types_b t b fs)
  types_s t (either c b d) fs = types_c t c (types_b t b (types_b t d fs))
  types_s t (choose p e a) fs = types_k t Integer p e (types_a t a fs)
  types_s t (while c b) fs = types_c t c (types_b t b fs)
  types_s t (repeat b c) fs = types_b t b (types_c t c fs)
  types_s t (count n p f e s l b) fs =
      types_e t e (also (first_value (row_of t n).value_type (type_e t e) f) (types_p t f s (types_k t Integer f l (types_b t b fs))))

  -- The faults of types in a list of statements.
  pub types_b : Table → Body → List Refusal → List Refusal
  types_b t end fs = fs
  types_b t (then s b) fs = types_s t s (types_b t b fs)

  -- The faults of types in the statements of a CASE.
  pub types_a : Table → Arms → List Refusal → List Refusal
  types_a t (last b) fs = types_b t b fs
  types_a t (arm b a) fs = types_b t b (types_a t a fs)

-- The faults of types of a program.
unfoldable pub program_types : Program → List Refusal
program_types p = types_b (program_table p) p.body []
