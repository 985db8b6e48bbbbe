-- Instructions by their names, and the depth of a code.
use Rattle.std.specs.Prelude.{List, [], ◌∷◌, ℕ, max}
use Rattle.base.specs.Heights.{height}
use Rattle.base.specs.declared.instr.Instr.{Instr}
use Rattle.base.specs.declared.op.Op.{Op}
use Rattle.base.specs.declared.op.Op.TheVariants as op
use Rattle.base.specs.Ops.{number_of}

-- The instruction record with this number and these operands.
abbrev pub ins : ℕ → ℕ → ℕ → Instr
ins n a b = record { number = n; a = a; b = b }

-- The record of an instruction with these operands.
abbrev pub of : Op → ℕ → ℕ → Instr
of o a b = ins (number_of o) a b

abbrev pub HALT : Instr
HALT = of op.Halt 0 0

abbrev pub LIT : ℕ → Instr
LIT w = of op.Lit w 0

abbrev pub LOAD : ℕ → Instr
LOAD c = of op.Load c 0

abbrev pub STOR : ℕ → Instr
STOR c = of op.Stor c 0

abbrev pub LDX : ℕ → ℕ → Instr
LDX c n = of op.Ldx c n

abbrev pub STX : ℕ → ℕ → Instr
STX c n = of op.Stx c n

abbrev pub CHK : ℕ → Instr
CHK n = of op.Chk n 0

abbrev pub DUP : Instr
DUP = of op.Dup 0 0

abbrev pub DROP : ℕ → Instr
DROP n = of op.Drop n 0

abbrev pub DEP : ℕ → ℕ → Instr
DEP a b = of op.Dep a b

abbrev pub BR : ℕ → Instr
BR t = of op.Br t 0

abbrev pub BRE : ℕ → Instr
BRE t = of op.Bre t 0

abbrev pub CASE : ℕ → ℕ → Instr
CASE t n = of op.Case t n

abbrev pub FOR : ℕ → ℕ → Instr
FOR c t = of op.For c t

abbrev pub NEXT : ℕ → ℕ → Instr
NEXT c t = of op.Next c t

-- The largest number of words stacked in the code, if h are stacked before it, counted in the order of the code.
unfoldable pub peak : ℕ → List Instr → ℕ
peak h [] = h
peak h (i ∷ is) = max h (peak (height i h) is)
