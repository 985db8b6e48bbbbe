-- No more words are popped than have to be there.
use Rattle.std.proofs.Common.{◌≡◌, ℕ, ◌+◌, ◌-◌, ◌≤◌, Bool, true, false, cond, leb, ltb, List, length, get_or, Ok, Err, Result, refl, ap, arith}
use Rattle.std.proofs.lemmas.Bool.{leb-true}
use Rattle.base.specs.declared.instr.Instr.{Instr}
use Rattle.machine.specs.declared.ending.Ending.{Ending}
use Rattle.machine.specs.declared.ending.Ending.TheVariants.{Missing, BadOperand, Outside}
use Rattle.machine.specs.declared.registers.Move.{Move}
use Rattle.machine.specs.declared.registers.Move.TheVariants.{On, Write}
use Rattle.base.specs.declared.op.Op.{Op}
use Rattle.base.specs.declared.op.Op.TheVariants.{Halt, Lit, Load, Stor, Ldx, Stx, Chk, Dup, Drop, Add, Sub, Mul, Div, Rem, Neg, Ladd, Lsub, Lmul, Ldiv, Lrem, Cmp, Lcmp, And, Or, Xor, Not, Fld, Dep, Shf, Br, Bre, Case, For, Next}
use Rattle.arith.specs.Integers.{sum, subscript, case_index, turns}
use Rattle.machine.specs.Table.{op_of_number, then, fine, wants, or_ending, cell_of, push, act, row, move_at}
use Rattle.machine.specs.Machine.{State, move_of, pops}

abbrev pops_r : Result Move Ending → ℕ
pops_r (Ok m) = pops m
pops_r (Err e) = 0

pops_then : {X : Type 0} (r : Result X Ending) (f : X → Result Move Ending) (n : ℕ) → ((x : X) → pops_r (f x) ≤ n) → pops_r (then r f) ≤ n
pops_then (Ok x) f n h = h x
pops_then (Err e) f n h = omega arith

pops_push : (k : ℕ) (r : Result ℕ Ending) → pops_r (push k r) ≤ k
pops_push k (Ok w) = omega arith
pops_push k (Err e) = omega arith

-- no more words are popped than are looked at
pops_act : (o : Op) (a b p x y : ℕ) (σ : List ℕ) → pops_r (act o a b p x y σ) ≤ wants o a
pops_act Halt a b p x y σ = omega arith
pops_act Lit a b p x y σ = omega arith
pops_act Load a b p x y σ = pops_push 0 _
pops_act Stor a b p x y σ = omega arith
pops_act Ldx a b p x y σ = pops_push 1 _
pops_act Stx a b p x y σ = pops_then (or_ending (subscript y b)) (λ i. Ok (Write 2 (a + i) x (p + 1))) 2 (λ _. omega arith)
pops_act Chk a b p x y σ = pops_then (or_ending (subscript x a)) (λ i. Ok (On 0 (p + 1))) 1 (λ _. omega arith)
pops_act Dup a b p x y σ = omega arith
pops_act Drop a b p x y σ = omega arith
pops_act Add a b p x y σ = pops_push 2 _
pops_act Sub a b p x y σ = pops_push 2 _
pops_act Mul a b p x y σ = pops_push 2 _
pops_act Div a b p x y σ = pops_push 2 _
pops_act Rem a b p x y σ = pops_push 2 _
pops_act Neg a b p x y σ = pops_push 1 _
pops_act Ladd a b p x y σ = omega arith
pops_act Lsub a b p x y σ = omega arith
pops_act Lmul a b p x y σ = omega arith
pops_act Ldiv a b p x y σ = pops_push 2 _
pops_act Lrem a b p x y σ = pops_push 2 _
pops_act Cmp a b p x y σ = omega arith
pops_act Lcmp a b p x y σ = omega arith
pops_act And a b p x y σ = omega arith
pops_act Or a b p x y σ = omega arith
pops_act Xor a b p x y σ = omega arith
pops_act Not a b p x y σ = omega arith
pops_act Fld a b p x y σ = omega arith
pops_act Dep a b p x y σ = omega arith
pops_act Shf a b p x y σ = omega arith
pops_act Br a b p x y σ = omega arith
pops_act Bre a b p x y σ = omega arith
pops_act Case a b p x y σ = pops_then (or_ending (case_index x b)) (λ i. Ok (On 1 (a + i))) 1 (λ _. omega arith)
pops_act For a b p x y σ = pops_then (cell_of σ a) (λ w. Ok (On 0 (cond (turns w y x) (p + 1) b))) 2 (λ _. omega arith)
pops_act Next a b p x y σ =
    pops_then (cell_of σ a) (λ w. then (or_ending (sum w y)) (λ v. Ok (Write 0 a v b))) 2
    (λ w. pops_then (or_ending (sum w y)) (λ v. Ok (Write 0 a v b)) 2 (λ _. omega arith))

pops_readied : (f l : Bool) (h n : ℕ) (r : Result Move Ending) → (l ≡ true → n ≤ h) → pops_r r ≤ n → pops_r (then (cond f (cond l (Ok tt) (Err Missing)) (Err BadOperand)) (λ (_ : Unit {0}). r)) ≤ h
pops_readied false l h n r e k = omega arith
pops_readied true false h n r e k = omega arith
pops_readied true true h n r e k = omega (arith, e refl)

pops_row : (o : Op) (a b p h : ℕ) (st σ : List ℕ) → pops_r (row o a b p h st σ) ≤ h
pops_row o a b p h st σ = pops_readied (fine o a b) (leb (wants o a) h) h (wants o a) _ (leb-true (wants o a) h) (pops_act o a b p (get_or st (h - 1) 0) (get_or st (h - 2) 0) σ)

pops_fetched : (P : List Instr) (s : State) (b : Bool) (i : Instr) → pops_r (cond b (move_at i s.registers.pc s.registers.height s.stack s.cells) (Err Outside)) ≤ s.registers.height
pops_fetched P s true i = pops_then (op_of_number i.number) (λ o. row o i.a i.b s.registers.pc s.registers.height s.stack s.cells) s.registers.height (λ o. pops_row o i.a i.b s.registers.pc s.registers.height s.stack s.cells)
pops_fetched P s false i = omega arith

-- what is fetched pops no more words than are stacked
pub pops_held : (P : List Instr) (s : State) (m : Move) → Ok m ≡ move_of P s → pops m ≤ s.registers.height
pops_held P s m e = let k = pops_fetched P s (ltb s.registers.pc (length P)) (get_or P s.registers.pc record { number = 0; a = 0; b = 0 }) in omega (arith, ap pops_r e, k)
