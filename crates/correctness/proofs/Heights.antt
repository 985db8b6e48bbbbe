-- The height after a step, instruction by instruction.
use Rattle.std.proofs.Common.{◌≡◌, ℕ, zero, suc, ◌+◌, ◌-◌, ◌≤◌, Bool, true, false, cond, leb, ltb, List, [], ◌∷◌, map, length, get_or, is_some, Some, None, Ok, Err, Option, Result, sym, refl, ap, ◌∙◌, subst, arith}
use Rattle.std.specs.List.{slice_get}
use Rattle.std.proofs.lemmas.Option.{slice_get-map}
use Rattle.std.proofs.lemmas.Bool.{leb-true, true≢false}
use Rattle.base.specs.declared.instr.Instr.{Instr}
use Rattle.base.specs.declared.op.Op.{Op}
use Rattle.base.specs.declared.op.Op.TheVariants.{Halt, Lit, Load, Stor, Ldx, Stx, Chk, Dup, Drop, Add, Sub, Mul, Div, Rem, Neg, Ladd, Lsub, Lmul, Ldiv, Lrem, Cmp, Lcmp, And, Or, Xor, Not, Fld, Dep, Shf, Br, Bre, Case, For, Next}
use Rattle.base.specs.Ops.{ops}
use Rattle.ir.specs.Instrs.{ins}
use Rattle.base.specs.Heights.{height, height_by}
use Rattle.base.proofs.Tables.{height_op}
use Rattle.arith.specs.Integers.{sum, subscript, case_index, turns}
use Rattle.machine.specs.declared.ending.Ending.{Ending}
use Rattle.machine.specs.declared.ending.Ending.TheVariants.{TooHigh, Missing, BadOperand, Outside}
use Rattle.machine.specs.declared.registers.Move.{Move}
use Rattle.machine.specs.declared.registers.Move.TheVariants.{On, Push, Write}
use Rattle.machine.specs.Table.{op_or_ending, op_of_number, then, fine, wants, or_ending, cell_of, push, act, row, move_at}
use Rattle.machine.specs.Machine.{State, after_move, move_of, goes, one_step_more, state_or_ending, unless_ended, step}
use Rattle.correctness.specs.Heights.{instruction_at, Heights}

-- the height after a move
abbrev lifts : Move → ℕ → ℕ
lifts (On k q) h = h - k
lifts (Push k w) h = h - k + 1
lifts (Write k c w q) h = h - k

-- a move that is made has Q
abbrev Moves : (Move → Type 0) → Result Move Ending → Type 0
Moves Q (Ok m) = Q m
Moves Q (Err e) = Unit {0}

moves_then : {X : Type 0} (Q : Move → Type 0) (r : Result X Ending) (f : X → Result Move Ending) → ((x : X) → Moves Q (f x)) → Moves Q (then r f)
moves_then Q (Ok x) f h = h x
moves_then Q (Err e) f h = tt

moves_push : (Q : Move → Type 0) (k : ℕ) (r : Result ℕ Ending) → ((w : ℕ) → Q (Push k w)) → Moves Q (push k r)
moves_push Q k (Ok w) h = h w
moves_push Q k (Err e) h = tt

-- a move of an instruction takes h words to what the table says
abbrev Fits : Op → (a b h : ℕ) → Move → Type 0
Fits o a b h m = lifts m h ≡ height_by (Some o) a h

fits_act : (o : Op) (a b p x y h : ℕ) (σ : List ℕ) → wants o a ≤ h → Moves (Fits o a b h) (act o a b p x y σ)
fits_act Halt a b p x y h σ w = tt
fits_act Lit a b p x y h σ w = omega (arith, height_op Lit a h)
fits_act Load a b p x y h σ w = moves_push (Fits Load a b h) 0 _ (λ _. omega (arith, height_op Load a h))
fits_act Stor a b p x y h σ w = omega (arith, height_op Stor a h)
fits_act Ldx a b p x y h σ w = moves_push (Fits Ldx a b h) 1 _ (λ _. omega (arith, height_op Ldx a h))
fits_act Stx a b p x y h σ w = moves_then (Fits Stx a b h) (or_ending (subscript y b)) (λ i. Ok (Write 2 (a + i) x (p + 1))) (λ _. omega (arith, height_op Stx a h))
fits_act Chk a b p x y h σ w = moves_then (Fits Chk a b h) (or_ending (subscript x a)) (λ i. Ok (On 0 (p + 1))) (λ _. omega (arith, height_op Chk a h))
fits_act Dup a b p x y h σ w = omega (arith, height_op Dup a h)
fits_act Drop a b p x y h σ w = omega (arith, height_op Drop a h)
fits_act Add a b p x y h σ w = moves_push (Fits Add a b h) 2 _ (λ _. omega (arith, height_op Add a h))
fits_act Sub a b p x y h σ w = moves_push (Fits Sub a b h) 2 _ (λ _. omega (arith, height_op Sub a h))
fits_act Mul a b p x y h σ w = moves_push (Fits Mul a b h) 2 _ (λ _. omega (arith, height_op Mul a h))
fits_act Div a b p x y h σ w = moves_push (Fits Div a b h) 2 _ (λ _. omega (arith, height_op Div a h))
fits_act Rem a b p x y h σ w = moves_push (Fits Rem a b h) 2 _ (λ _. omega (arith, height_op Rem a h))
fits_act Neg a b p x y h σ w = moves_push (Fits Neg a b h) 1 _ (λ _. omega (arith, height_op Neg a h))
fits_act Ladd a b p x y h σ w = omega (arith, height_op Ladd a h)
fits_act Lsub a b p x y h σ w = omega (arith, height_op Lsub a h)
fits_act Lmul a b p x y h σ w = omega (arith, height_op Lmul a h)
fits_act Ldiv a b p x y h σ w = moves_push (Fits Ldiv a b h) 2 _ (λ _. omega (arith, height_op Ldiv a h))
fits_act Lrem a b p x y h σ w = moves_push (Fits Lrem a b h) 2 _ (λ _. omega (arith, height_op Lrem a h))
fits_act Cmp a b p x y h σ w = omega (arith, height_op Cmp a h)
fits_act Lcmp a b p x y h σ w = omega (arith, height_op Lcmp a h)
fits_act And a b p x y h σ w = omega (arith, height_op And a h)
fits_act Or a b p x y h σ w = omega (arith, height_op Or a h)
fits_act Xor a b p x y h σ w = omega (arith, height_op Xor a h)
fits_act Not a b p x y h σ w = omega (arith, height_op Not a h)
fits_act Fld a b p x y h σ w = omega (arith, height_op Fld a h)
fits_act Dep a b p x y h σ w = omega (arith, height_op Dep a h)
fits_act Shf a b p x y h σ w = omega (arith, height_op Shf a h)
fits_act Br a b p x y h σ w = omega (arith, height_op Br a h)
fits_act Bre a b p x y h σ w = omega (arith, height_op Bre a h)
fits_act Case a b p x y h σ w = moves_then (Fits Case a b h) (or_ending (case_index x b)) (λ i. Ok (On 1 (a + i))) (λ _. omega (arith, height_op Case a h))
fits_act For a b p x y h σ w = moves_then (Fits For a b h) (cell_of σ a) (λ v. Ok (On 0 (cond (turns v y x) (p + 1) b))) (λ _. omega (arith, height_op For a h))
fits_act Next a b p x y h σ w =
    moves_then (Fits Next a b h) (cell_of σ a) (λ v. then (or_ending (sum v y)) (λ u. Ok (Write 0 a u b)))
    (λ v. moves_then (Fits Next a b h) (or_ending (sum v y)) (λ u. Ok (Write 0 a u b)) (λ _. omega (arith, height_op Next a h)))

moves_held : (Q : Move → Type 0) (f l : Bool) (r : Result Move Ending) → (l ≡ true → Moves Q r) → Moves Q (then (cond f (cond l (Ok tt) (Err Missing)) (Err BadOperand)) (λ (_ : Unit {0}). r))
moves_held Q false l r h = tt
moves_held Q true false r h = tt
moves_held Q true true r h = h refl

fits_row : (o : Op) (a b p h : ℕ) (st σ : List ℕ) → Moves (Fits o a b h) (row o a b p h st σ)
fits_row o a b p h st σ =
    moves_held (Fits o a b h) (fine o a b) (leb (wants o a) h) _
    (λ e. fits_act o a b p (get_or st (h - 1) 0) (get_or st (h - 2) 0) h σ (leb-true (wants o a) h e))

-- a move of this instruction, from h words
abbrev Lifts : Instr → ℕ → Move → Type 0
Lifts i h m = lifts m h ≡ height i h

lifts_known : (i : Instr) (p h : ℕ) (st σ : List ℕ) (v : Option Op) → slice_get ops i.number ≡ v → Moves (Lifts i h) (then (op_or_ending v) (λ o. row o i.a i.b p h st σ))
lifts_known i p h st σ (Some o) e = subst (λ r. Moves (λ m. lifts m h ≡ height_by r i.a h) (row o i.a i.b p h st σ)) (sym e) (fits_row o i.a i.b p h st σ)
lifts_known i p h st σ None e = tt

lifts_fetched : (b : Bool) (i : Instr) (p h : ℕ) (st σ : List ℕ) → Moves (Lifts i h) (cond b (move_at i p h st σ) (Err Outside))
unfolding op_of_number
lifts_fetched true i p h st σ = lifts_known i p h st σ (slice_get ops i.number) refl
lifts_fetched false i p h st σ = tt

-- a state that is reached has so many words stacked
abbrev Reaches : ℕ → Result State Ending → Type 0
Reaches k (Ok t) = t.registers.height ≡ k
Reaches k (Err e) = Unit {0}

reaches_cond : (k : ℕ) (b : Bool) (t : State) (e : Ending) → t.registers.height ≡ k → Reaches k (cond b (Ok t) (Err e))
reaches_cond k true t e h = h
reaches_cond k false t e h = tt

reaches_made : (d : ℕ) (m : Move) (s : State) → Reaches (lifts m s.registers.height) (after_move d m s)
reaches_made d (On k q) s = refl
reaches_made d (Push k w) s = reaches_cond _ (ltb (s.registers.height - k) d) _ TooHigh refl
reaches_made d (Write k c w q) s = reaches_cond _ (ltb c (length s.cells)) _ Outside refl

reaches_moved : (d : ℕ) (s : State) (i : Instr) (r : Result Move Ending) → Moves (Lifts i s.registers.height) r → Reaches (height i s.registers.height) (then r (λ m. after_move d m s))
reaches_moved d s i (Ok m) h = subst (λ k. Reaches k (after_move d m s)) h (reaches_made d m s)
reaches_moved d s i (Err e) h = tt

reaches_goes : (P : List Instr) (d : ℕ) (s : State) → Reaches (height (instruction_at P s) s.registers.height) (goes P d s)
unfolding goes
reaches_goes P d s = reaches_moved d s (instruction_at P s) (move_of P s) (lifts_fetched (ltb s.registers.pc (length P)) (instruction_at P s) s.registers.pc s.registers.height s.stack s.cells)

some≢none : (e : Ending) → Some e ≡ None → ⊥
some≢none e h = true≢false (ap is_some h)

height_settled : (k : ℕ) (s : State) (r : Result State Ending) → Reaches k r → (state_or_ending r s).registers.ending ≡ None → (state_or_ending r s).registers.height ≡ k
height_settled k s (Ok t) h q = h
height_settled k s (Err e) h q = absurd (some≢none e q)

height_stepped : (P : List Instr) (d : ℕ) (s : State) (o : Option Ending) → s.registers.ending ≡ o → (unless_ended P d s o).registers.ending ≡ None → (unless_ended P d s o).registers.height ≡ height (instruction_at P s) s.registers.height
height_stepped P d s None e q = height_settled _ (one_step_more s) (goes P d (one_step_more s)) (reaches_goes P d (one_step_more s)) q
height_stepped P d s (Some x) e q = absurd (some≢none x (sym e ∙ q))

pub heights : Heights
unfolding step
heights P d s q = height_stepped P d s s.registers.ending refl q
