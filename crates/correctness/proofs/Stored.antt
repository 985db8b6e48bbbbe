-- A step that does not end writes a cell exactly where its instruction is one of those that do.
use Rattle.std.proofs.Common.{◌≡◌, ℕ, zero, suc, ◌+◌, ◌-◌, Bool, true, false, cond, ltb, leb, List, [], ◌∷◌, length, get_or, slice_get, is_some, Some, None, Ok, Err, Option, Result, sym, refl, ap, ◌∙◌, subst, arith}
use Rattle.arith.specs.Integers.{sum, subscript, case_index, turns}
use Rattle.base.specs.declared.instr.Instr.{Instr}
use Rattle.base.specs.Ops.{ops}
use Rattle.ir.specs.Trees.{Body}
use Rattle.codegen.specs.Code.{program, depth}
use Rattle.machine.specs.declared.ending.Ending.{Ending}
use Rattle.machine.specs.declared.ending.Ending.TheVariants.{Outside, Missing, BadOperand}
use Rattle.machine.specs.declared.registers.Move.{Move}
use Rattle.machine.specs.declared.registers.Move.TheVariants.{On, Push, Write as Puts}
use Rattle.base.specs.declared.op.Op.{Op}
use Rattle.base.specs.declared.op.Op.TheVariants.{Halt, Lit, Load, Stor, Ldx, Stx, Chk, Dup, Drop, Add, Sub, Mul, Div, Rem, Neg, Ladd, Lsub, Lmul, Ldiv, Lrem, Cmp, Lcmp, And, Or, Xor, Not, Fld, Dep, Shf, Br, Bre, Case, For, Next}
use Rattle.machine.specs.Table.{op_or_ending, op_of_number, then, fine, wants, or_ending, cell_of, push, act, row, move_at}
use Rattle.machine.specs.Machine.{State, after_move, move_of, goes, one_step_more, state_or_ending, unless_ended, step, run}
use Rattle.semantics.specs.Effects.{Store}
use Rattle.correctness.specs.Agreement.{after}
use Rattle.correctness.specs.Sessions.{stores, is_store, writes_at, writes_in}
use Rattle.correctness.proofs.Moves.{blank}

abbrev writes : Move → Bool
writes (On k q) = false
writes (Push k w) = false
writes (Puts k c w q) = true

-- a move writes or not, as b says
abbrev Kinded : Bool → Result Move Ending → Type 0
Kinded b (Ok m) = writes m ≡ b
Kinded b (Err e) = Unit {0}

kinded_then : {X : Type 0} (b : Bool) (r : Result X Ending) (f : X → Result Move Ending) → ((x : X) → Kinded b (f x)) → Kinded b (then r f)
kinded_then b (Ok x) f h = h x
kinded_then b (Err e) f h = tt

kinded_push : (k : ℕ) (r : Result ℕ Ending) → Kinded false (push k r)
kinded_push k (Ok w) = refl
kinded_push k (Err e) = tt

kinded_act : (o : Op) (a b p x y : ℕ) (σ : List ℕ) → Kinded (stores o) (act o a b p x y σ)
kinded_act Halt a b p x y σ = tt
kinded_act Lit a b p x y σ = refl
kinded_act Load a b p x y σ = kinded_push 0 _
kinded_act Stor a b p x y σ = refl
kinded_act Ldx a b p x y σ = kinded_push 1 _
kinded_act Stx a b p x y σ = kinded_then true (or_ending (subscript y b)) (λ i. Ok (Puts 2 (a + i) x (p + 1))) (λ _. refl)
kinded_act Chk a b p x y σ = kinded_then false (or_ending (subscript x a)) (λ i. Ok (On 0 (p + 1))) (λ _. refl)
kinded_act Dup a b p x y σ = refl
kinded_act Drop a b p x y σ = refl
kinded_act Add a b p x y σ = kinded_push 2 _
kinded_act Sub a b p x y σ = kinded_push 2 _
kinded_act Mul a b p x y σ = kinded_push 2 _
kinded_act Div a b p x y σ = kinded_push 2 _
kinded_act Rem a b p x y σ = kinded_push 2 _
kinded_act Neg a b p x y σ = kinded_push 1 _
kinded_act Ladd a b p x y σ = refl
kinded_act Lsub a b p x y σ = refl
kinded_act Lmul a b p x y σ = refl
kinded_act Ldiv a b p x y σ = kinded_push 2 _
kinded_act Lrem a b p x y σ = kinded_push 2 _
kinded_act Cmp a b p x y σ = refl
kinded_act Lcmp a b p x y σ = refl
kinded_act And a b p x y σ = refl
kinded_act Or a b p x y σ = refl
kinded_act Xor a b p x y σ = refl
kinded_act Not a b p x y σ = refl
kinded_act Fld a b p x y σ = refl
kinded_act Dep a b p x y σ = refl
kinded_act Shf a b p x y σ = refl
kinded_act Br a b p x y σ = refl
kinded_act Bre a b p x y σ = refl
kinded_act Case a b p x y σ = kinded_then false (or_ending (case_index x b)) (λ i. Ok (On 1 (a + i))) (λ _. refl)
kinded_act For a b p x y σ = kinded_then false (cell_of σ a) (λ w. Ok (On 0 (cond (turns w y x) (p + 1) b))) (λ _. refl)
kinded_act Next a b p x y σ = kinded_then true (cell_of σ a) (λ w. then (or_ending (sum w y)) (λ v. Ok (Puts 0 a v b))) (λ w. kinded_then true (or_ending (sum w y)) (λ v. Ok (Puts 0 a v b)) (λ _. refl))

kinded_readied : (b f w : Bool) (r : Result Move Ending) → Kinded b r → Kinded b (then (cond f (cond w (Ok tt) (Err Missing)) (Err BadOperand)) (λ (_ : Unit {0}). r))
kinded_readied b false w r h = tt
kinded_readied b true false r h = tt
kinded_readied b true true r h = h

kinded_known : (v : Option Op) (f : Op → Result Move Ending) → ((o : Op) → Kinded (stores o) (f o)) → Kinded (is_store v) (then (op_or_ending v) f)
kinded_known None f g = tt
kinded_known (Some o) f g = g o

kinded_moved : (i : Instr) (p h : ℕ) (st σ : List ℕ) → Kinded (is_store (slice_get ops i.number)) (move_at i p h st σ)
unfolding op_of_number
kinded_moved i p h st σ =
    kinded_known (slice_get ops i.number) (λ o. row o i.a i.b p h st σ)
    (λ o. kinded_readied (stores o) (fine o i.a i.b) (leb (wants o i.a) h) _ (kinded_act o i.a i.b p (get_or st (h - 1) 0) (get_or st (h - 2) 0) σ))

kinded_cond : (b f : Bool) (r : Result Move Ending) → Kinded b r → Kinded b (cond f r (Err Outside))
kinded_cond b true r h = h
kinded_cond b false r h = tt

kinded_fetched : (P : List Instr) (s : State) → Kinded (is_store (slice_get ops (get_or P s.registers.pc blank).number)) (move_of P s)
kinded_fetched P s =
    let i = get_or P s.registers.pc blank in
    kinded_cond (is_store (slice_get ops i.number)) (ltb s.registers.pc (length P)) (move_at i s.registers.pc s.registers.height s.stack s.cells) (kinded_moved i s.registers.pc s.registers.height s.stack s.cells)

-- the count of writes goes up by one where b says so
abbrev Counts : Bool → State → Result State Ending → Type 0
Counts b s (Ok t) = (t.registers.writes ≡ s.registers.writes + cond b 1 0) × (t.registers.ending ≡ s.registers.ending)
Counts b s (Err e) = Unit {0}

counts_cond : (b : Bool) (s t : State) (c : Bool) (e : Ending) → Counts b s (Ok t) → Counts b s (cond c (Ok t) (Err e))
counts_cond b s t true e h = h
counts_cond b s t false e h = tt

counts_made : (d : ℕ) (m : Move) (s : State) → Counts (writes m) s (after_move d m s)
counts_made d (On k q) s = (omega arith, refl)
counts_made d (Push k w) s = counts_cond false s _ (ltb (s.registers.height - k) d) _ (omega arith, refl)
counts_made d (Puts k c w q) s = counts_cond true s _ (ltb c (length s.cells)) _ (refl, refl)

counts_then : (b : Bool) (d : ℕ) (s : State) (r : Result Move Ending) → Kinded b r → Counts b s (then r (λ m. after_move d m s))
counts_then b d s (Ok m) h = subst (λ (c : Bool). Counts c s (after_move d m s)) h (counts_made d m s)
counts_then b d s (Err e) h = tt

counts_goes : (P : List Instr) (d : ℕ) (s : State) → Counts (is_store (slice_get ops (get_or P s.registers.pc blank).number)) s (goes P d s)
unfolding goes
counts_goes P d s = counts_then (is_store (slice_get ops (get_or P s.registers.pc blank).number)) d s (move_of P s) (kinded_fetched P s)

counts_settled : (b : Bool) (s : State) (r : Result State Ending) → s.registers.ending ≡ None → Counts b s r → (state_or_ending r s).registers.writes ≡ s.registers.writes + cond (cond (is_some (state_or_ending r s).registers.ending) false b) 1 0
counts_settled b s (Ok t) q h = rw (h.1, q) h.0
counts_settled b s (Err e) q h = omega arith

counts_stepped : (P : List Instr) (d : ℕ) (s : State) (o : Option Ending) → s.registers.ending ≡ o →
    (unless_ended P d s o).registers.writes ≡ s.registers.writes + cond (cond (is_some (unless_ended P d s o).registers.ending) false (is_store (slice_get ops (get_or P s.registers.pc blank).number))) 1 0
counts_stepped P d s None q = counts_settled (is_store (slice_get ops (get_or P s.registers.pc blank).number)) (one_step_more s) (goes P d (one_step_more s)) q (counts_goes P d (one_step_more s))
counts_stepped P d s (Some e) q =
    let z : s.registers.writes ≡ s.registers.writes + 0 = omega arith in
    z ∙ ap (λ (o : Option Ending). s.registers.writes + cond (cond (is_some o) false (is_store (slice_get ops (get_or P s.registers.pc blank).number))) 1 0) (sym q)

pub writes_counted : (b : Body) (st : List ℕ) (σ : Store) (m : ℕ) → (after b st σ m).registers.writes ≡ writes_in b st σ m
unfolding writes_in after run step
writes_counted b st σ zero = refl
writes_counted b st σ (suc m) =
    let s = after b st σ m in
    counts_stepped (program b) (depth b) s s.registers.ending refl ∙ ap (λ (w : ℕ). w + cond (writes_at b st σ m) 1 0) (writes_counted b st σ m)
