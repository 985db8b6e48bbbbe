-- What each instruction does. The operations on words are those of `arith`.
use Rattle.std.specs.Prelude.{ℕ, ◌+◌, ◌-◌, Bool, true, cond, ◌&&◌, List, length, Some, None, Ok, Err, Option, Result, ◌==◌, bit_and, bit_or, bit_xor, nat_le, nat_lt, slice_get, slice_index}
use Rattle.arith.specs.declared.stop.Stop.{Stop}
use Rattle.arith.specs.Integers.{sum, difference, product, quotient, remainder, negation, subscript, case_index, turns}
use Rattle.arith.specs.Logicals.{lsum, ldifference, lproduct, lquotient, lremainder, odd}
use Rattle.arith.specs.Relations.{relation_of, comparison, lcomparison}
use Rattle.arith.specs.Bits.{complement}
use Rattle.arith.specs.Fields.{is_field, field, with_field}
use Rattle.arith.specs.Shifts.{is_shift, kind_of, shift_of}
use Rattle.base.specs.declared.instr.Instr.{Instr}
use Rattle.base.specs.Ops.{ops, taken_by}
use Rattle.machine.specs.declared.ending.Ending.{Ending}
use Rattle.machine.specs.declared.ending.Ending.TheVariants.{Stopped}
use Rattle.machine.specs.Endings.{ends}
use Rattle.machine.specs.declared.registers.Move.{Move}
use Rattle.machine.specs.declared.registers.Move.TheVariants.{On, Push, Write}
use Rattle.base.specs.declared.op.Op.{Op}
use Rattle.base.specs.declared.op.Op.TheVariants.{Halt, Lit, Load, Stor, Ldx, Stx, Chk, Dup, Drop, Add, Sub, Mul, Div, Rem, Neg, Ladd, Lsub, Lmul, Ldiv, Lrem, Cmp, Lcmp, And, Or, Xor, Not, Fld, Dep, Shf, Br, Bre, Case, For, Next}

-- The instruction that was found; if there is none, the run ends with 8.
abbrev pub op_or_ending : Option Op → Result Op Ending
op_or_ending (Some o) = Ok o
op_or_ending None = ends 8

-- The instruction of a number. No instruction has a number over 33.
unfoldable pub op_of_number : ℕ → Result Op Ending
op_of_number n = op_or_ending (slice_get ops n)

-- Goes on with an answer by k. An ending is passed on as it is.
abbrev pub then : {X Y : Type 0} → Result X Ending → (X → Result Y Ending) → Result Y Ending
then (Ok x) k = k x
then (Err e) k = Err e

-- Neither operand is named, so both are 0.
abbrev pub plain : ℕ → ℕ → Bool
plain a b = a == 0 && b == 0

-- Only `a` is named, so `b` is 0.
abbrev pub single : ℕ → ℕ → Bool
single a b = b == 0

-- Whether the operands of an instruction keep its rules.
abbrev pub fine : Op → ℕ → ℕ → Bool
fine Halt a b = plain a b
fine Lit a b = single a b
fine Load a b = single a b
fine Stor a b = single a b
fine Ldx a b = true
fine Stx a b = true
fine Chk a b = single a b
fine Dup a b = plain a b
fine Drop a b = single a b
fine Add a b = plain a b
fine Sub a b = plain a b
fine Mul a b = plain a b
fine Div a b = plain a b
fine Rem a b = plain a b
fine Neg a b = plain a b
fine Ladd a b = plain a b
fine Lsub a b = plain a b
fine Lmul a b = plain a b
fine Ldiv a b = plain a b
fine Lrem a b = plain a b
fine Cmp a b = nat_le a 5 && single a b
fine Lcmp a b = nat_le a 5 && single a b
fine And a b = plain a b
fine Or a b = plain a b
fine Xor a b = plain a b
fine Not a b = plain a b
fine Fld a b = is_field a b
fine Dep a b = is_field a b
fine Shf a b = is_shift a b
fine Br a b = single a b
fine Bre a b = single a b
fine Case a b = true
fine For a b = true
fine Next a b = true

-- How many words have to be on the stack.
abbrev pub wants : Op → ℕ → ℕ
wants o a = taken_by o a

-- Whether the operands are in order and n of the h words that it needs are there; else the run ends with 8 or 6.
abbrev pub ready_when : Bool → ℕ → ℕ → Result (Unit {0}) Ending
ready_when f n h = cond f (cond (nat_le n h) (Ok tt) (ends 6)) (ends 8)

-- Whether an instruction can be made: its operands are in order, and the words that it needs are on the stack.
abbrev pub readiness : Op → ℕ → ℕ → ℕ → Result (Unit {0}) Ending
readiness o a b h = ready_when (fine o a b) (wants o a) h

-- The word of the cell c; if there is no such cell, the run ends with 9.
abbrev pub cell_of : List ℕ → ℕ → Result ℕ Ending
cell_of σ c = cond (nat_lt c (length σ)) (Ok (slice_index σ c)) (ends 9)

-- An operation on words that stops ends the run with that stop.
abbrev pub or_ending : {X : Type 0} → Result X Stop → Result X Ending
or_ending (Ok x) = Ok x
or_ending (Err e) = Err (Stopped e)

-- The move that pops k words and pushes the answer r.
abbrev pub push : ℕ → Result ℕ Ending → Result Move Ending
push k r = then r (λ w. Ok (Push k w))

-- What each instruction does: p is its index, x the top of the stack, y the word below it, and σ the cells.
-- `Push k w` pops k words, pushes w and goes on to p + 1. `On k q` pops k words and goes on to q. `Write k c w q`
-- pops k words, writes w into the cell c and goes on to q.
abbrev pub act : Op → ℕ → ℕ → ℕ → ℕ → ℕ → List ℕ → Result Move Ending
act Halt a b p x y σ = ends 0
act Lit a b p x y σ = Ok (Push 0 a)
act Load a b p x y σ = push 0 (cell_of σ a)
act Stor a b p x y σ = Ok (Write 1 a x (p + 1))
act Ldx a b p x y σ = push 1 (then (or_ending (subscript x b)) (λ i. cell_of σ (a + i)))
act Stx a b p x y σ = then (or_ending (subscript y b)) (λ i. Ok (Write 2 (a + i) x (p + 1)))
act Chk a b p x y σ = then (or_ending (subscript x a)) (λ i. Ok (On 0 (p + 1)))
act Dup a b p x y σ = Ok (Push 0 x)
act Drop a b p x y σ = Ok (On a (p + 1))
act Add a b p x y σ = push 2 (or_ending (sum y x))
act Sub a b p x y σ = push 2 (or_ending (difference y x))
act Mul a b p x y σ = push 2 (or_ending (product y x))
act Div a b p x y σ = push 2 (or_ending (quotient y x))
act Rem a b p x y σ = push 2 (or_ending (remainder y x))
act Neg a b p x y σ = push 1 (or_ending (negation x))
act Ladd a b p x y σ = Ok (Push 2 (lsum y x))
act Lsub a b p x y σ = Ok (Push 2 (ldifference y x))
act Lmul a b p x y σ = Ok (Push 2 (lproduct y x))
act Ldiv a b p x y σ = push 2 (or_ending (lquotient y x))
act Lrem a b p x y σ = push 2 (or_ending (lremainder y x))
act Cmp a b p x y σ = Ok (Push 2 (comparison (relation_of a) y x))
act Lcmp a b p x y σ = Ok (Push 2 (lcomparison (relation_of a) y x))
act And a b p x y σ = Ok (Push 2 (bit_and y x))
act Or a b p x y σ = Ok (Push 2 (bit_or y x))
act Xor a b p x y σ = Ok (Push 2 (bit_xor y x))
act Not a b p x y σ = Ok (Push 1 (complement x))
act Fld a b p x y σ = Ok (Push 1 (field a b x))
act Dep a b p x y σ = Ok (Push 2 (with_field a b y x))
act Shf a b p x y σ = Ok (Push 1 (shift_of (kind_of a) b x))
act Br a b p x y σ = Ok (On 0 a)
act Bre a b p x y σ = Ok (On 1 (cond (odd x) (p + 1) a))
act Case a b p x y σ = then (or_ending (case_index x b)) (λ i. Ok (On 1 (a + i)))
act For a b p x y σ = then (cell_of σ a) (λ w. Ok (On 0 (cond (turns w y x) (p + 1) b)))
act Next a b p x y σ = then (cell_of σ a) (λ w. then (or_ending (sum w y)) (λ v. Ok (Write 0 a v b)))

-- The move of an instruction. First its operands are judged, then whether the words are there, and then it is made.
abbrev pub row : Op → ℕ → ℕ → ℕ → ℕ → List ℕ → List ℕ → Result Move Ending
row o a b p h st σ = then (readiness o a b h) (λ _. act o a b p (slice_index st (h - 1)) (slice_index st (h - 2)) σ)

-- The move of the instruction record i at the index p, with h words stacked.
abbrev pub move_at : Instr → ℕ → ℕ → List ℕ → List ℕ → Result Move Ending
move_at i p h st σ = then (op_of_number i.number) (λ o. row o i.a i.b p h st σ)
