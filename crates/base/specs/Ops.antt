-- The instructions: their numbers, their operands, the words that they take and leave, and their names.
use Rattle.std.specs.Prelude.{ℕ, List, [], ◌∷◌, codes, Option, slice_get}
use Rattle.std.specs.Option.{option_map}
use Rattle.base.specs.declared.op.Op.{Op}
use Rattle.base.specs.declared.op.Op.TheVariants.{Halt, Lit, Load, Stor, Ldx, Stx, Chk, Dup, Drop, Add, Sub, Mul, Div, Rem, Neg, Ladd, Lsub, Lmul, Ldiv, Lrem, Cmp, Lcmp, And, Or, Xor, Not, Fld, Dep, Shf, Br, Bre, Case, For, Next}

-- All instructions, in the order of their numbers, from 0.
abbrev pub ops : List Op
ops =
    Halt ∷ Lit ∷ Load ∷ Stor ∷ Ldx ∷ Stx ∷ Chk ∷ Dup ∷ Drop ∷ Add ∷ Sub ∷ Mul ∷ Div ∷ Rem ∷ Neg ∷ Ladd ∷ Lsub ∷ Lmul ∷ Ldiv ∷ Lrem ∷ Cmp ∷ Lcmp ∷ And ∷ Or ∷ Xor ∷ Not ∷ Fld ∷ Dep ∷ Shf ∷ Br ∷ Bre ∷ Case ∷ For ∷ Next ∷ []

-- The number of each instruction.
abbrev pub number_of : Op → ℕ
number_of Halt = 0
number_of Lit = 1
number_of Load = 2
number_of Stor = 3
number_of Ldx = 4
number_of Stx = 5
number_of Chk = 6
number_of Dup = 7
number_of Drop = 8
number_of Add = 9
number_of Sub = 10
number_of Mul = 11
number_of Div = 12
number_of Rem = 13
number_of Neg = 14
number_of Ladd = 15
number_of Lsub = 16
number_of Lmul = 17
number_of Ldiv = 18
number_of Lrem = 19
number_of Cmp = 20
number_of Lcmp = 21
number_of And = 22
number_of Or = 23
number_of Xor = 24
number_of Not = 25
number_of Fld = 26
number_of Dep = 27
number_of Shf = 28
number_of Br = 29
number_of Bre = 30
number_of Case = 31
number_of For = 32
number_of Next = 33

-- How many operands an instruction names: none, `a` alone, or `a` and `b`.
abbrev pub named_by : Op → ℕ
named_by Lit = 1
named_by Load = 1
named_by Stor = 1
named_by Chk = 1
named_by Drop = 1
named_by Cmp = 1
named_by Lcmp = 1
named_by Br = 1
named_by Bre = 1
named_by Ldx = 2
named_by Stx = 2
named_by Fld = 2
named_by Dep = 2
named_by Shf = 2
named_by Case = 2
named_by For = 2
named_by Next = 2
named_by _ = 0

-- How many operands the instruction of this number names; none if the number is over 33.
unfoldable pub operands_of : ℕ → Option ℕ
operands_of n = option_map named_by (slice_get ops n)

-- How many words an instruction looks at on the stack. DROP looks at as many as its operand says.
abbrev pub taken_by : Op → ℕ → ℕ
taken_by Halt a = 0
taken_by Lit a = 0
taken_by Load a = 0
taken_by Br a = 0
taken_by Stor a = 1
taken_by Ldx a = 1
taken_by Chk a = 1
taken_by Dup a = 1
taken_by Neg a = 1
taken_by Not a = 1
taken_by Fld a = 1
taken_by Shf a = 1
taken_by Bre a = 1
taken_by Case a = 1
taken_by Drop a = a
taken_by _ a = 2

-- How many words an instruction leaves in place of those that it looks at.
abbrev pub left_by : Op → ℕ
left_by Halt = 0
left_by Stor = 0
left_by Stx = 0
left_by Drop = 0
left_by Br = 0
left_by Bre = 0
left_by Case = 0
left_by Dup = 2
left_by For = 2
left_by Next = 2
left_by _ = 1

-- The name of each instruction in a listing.
abbrev pub op_text : Op → List ℕ
op_text Halt = codes "HALT"
op_text Lit = codes "LIT"
op_text Load = codes "LOAD"
op_text Stor = codes "STOR"
op_text Ldx = codes "LDX"
op_text Stx = codes "STX"
op_text Chk = codes "CHK"
op_text Dup = codes "DUP"
op_text Drop = codes "DROP"
op_text Add = codes "ADD"
op_text Sub = codes "SUB"
op_text Mul = codes "MUL"
op_text Div = codes "DIV"
op_text Rem = codes "REM"
op_text Neg = codes "NEG"
op_text Ladd = codes "LADD"
op_text Lsub = codes "LSUB"
op_text Lmul = codes "LMUL"
op_text Ldiv = codes "LDIV"
op_text Lrem = codes "LREM"
op_text Cmp = codes "CMP"
op_text Lcmp = codes "LCMP"
op_text And = codes "AND"
op_text Or = codes "OR"
op_text Xor = codes "XOR"
op_text Not = codes "NOT"
op_text Fld = codes "FLD"
op_text Dep = codes "DEP"
op_text Shf = codes "SHF"
op_text Br = codes "BR"
op_text Bre = codes "BRE"
op_text Case = codes "CASE"
op_text For = codes "FOR"
op_text Next = codes "NEXT"
