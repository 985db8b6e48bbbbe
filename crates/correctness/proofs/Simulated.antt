-- The machine with lent words and a height does what it does with its stack as a list.
use Rattle.std.proofs.Common.{◌≡◌, ℕ, suc, ◌+◌, ◌-◌, ◌≤◌, Bool, true, false, cond, ltb, leb, List, length, get_or, Ok, Err, Result, sym, refl, ap, ◌∙◌, arith, length-set}
use Rattle.std.proofs.lemmas.Bool.{ltb-true, leb-true}
use Rattle.base.specs.declared.instr.Instr.{Instr}
use Rattle.machine.specs.declared.ending.Ending.{Ending}
use Rattle.machine.specs.declared.ending.Ending.TheVariants.{TooHigh, Outside, Missing, BadOperand}
use Rattle.machine.specs.declared.registers.Move.{Move}
use Rattle.machine.specs.declared.registers.Move.TheVariants.{On, Push, Write as Puts}
use Rattle.base.specs.declared.op.Op.{Op}
use Rattle.base.specs.declared.op.Op.TheVariants.{Halt, Lit, Load, Stor, Ldx, Stx, Chk, Dup, Drop, Add, Sub, Mul, Div, Rem, Neg, Ladd, Lsub, Lmul, Ldiv, Lrem, Cmp, Lcmp, And, Or, Xor, Not, Fld, Dep, Shf, Br, Bre, Case, For, Next}
use Rattle.machine.specs.Table.{op_of_number, then, fine, wants, readiness, act, row, move_at}
use Rattle.machine.specs.Machine.{State, after_move, goes}
use Rattle.machine.specs.Stacks.{stack_of, hd, tl, off, stack_of_state}
use Rattle.machine.proofs.Views.{length_stack_of, top_is, next_is, off_stack_of, push_stack_of}
use Rattle.semantics.specs.Effects.{Write, leave}
use Rattle.correctness.proofs.Moves.{Pos, at, Way, on, halt, laid, lay, acting, blank, move}

abbrev pub view : State → Pos
view s = at s.registers.pc (stack_of_state s)

-- what the machine does is what the list shows
pub data Tells (s : State) : Way → Result State Ending → Type 0 where
  tells_on : {ws : List Write} {c : Pos} {t : State} →
      view t ≡ c → t.cells ≡ leave ws s.cells → t.registers.writes ≡ s.registers.writes + length ws → t.registers.ending ≡ s.registers.ending → length t.stack ≡ length s.stack → Tells s (on ws c) (Ok t)
  tells_halt : {e : Ending} → Tells s (halt e) (Err e)

length_off : (k h : ℕ) (st : List ℕ) → length (off k (stack_of h st)) ≡ h - k
length_off k h st = ap length (off_stack_of k h st) ∙ length_stack_of (h - k) st

tells_cond : (s : State) (b : Bool) (v : Way) (t : State) (e : Ending) → (b ≡ true → Tells s v (Ok t)) → Tells s (cond b v (halt e)) (cond b (Ok t) (Err e))
tells_cond s true v t e h = h refl
tells_cond s false v t e h = tells_halt

tells_made : (d : ℕ) (m : Move) (s : State) → d ≤ length s.stack → Tells s (laid d m s.registers.pc (stack_of_state s) s.cells) (after_move d m s)
tells_made d (On k q) s l = tells_on (ap (at q) (sym (off_stack_of k s.registers.height s.stack))) refl (omega arith) refl refl
tells_made d (Push k w) s l =
    let h = s.registers.height - k in
    let f : s.registers.pc + 1 ≡ suc s.registers.pc = omega arith in
    rw (length_off k s.registers.height s.stack)
    (tells_cond s (ltb h d) _ _ TooHigh
    (λ e. tells_on (rw (f, push_stack_of h w s.stack (omega (arith, ltb-true h d e)), off_stack_of k s.registers.height s.stack)) refl (omega arith) refl (length-set s.stack h w)))
tells_made d (Puts k c w q) s l =
    tells_cond s (ltb c (length s.cells)) _ _ Outside
    (λ e. tells_on (ap (at q) (sym (off_stack_of k s.registers.height s.stack))) refl (omega arith) refl refl)

tells_then : (d : ℕ) (s : State) (r : Result Move Ending) → d ≤ length s.stack → Tells s (lay d s.registers.pc (stack_of_state s) s.cells r) (then r (λ m. after_move d m s))
tells_then d s (Ok m) l = tells_made d m s l
tells_then d s (Err e) l = tells_halt

-- the words that an instruction looks at are the first two of the list; one that wants fewer looks at fewer
both : (o : Op) (a b p h : ℕ) (st σ : List ℕ) → 2 ≤ h → act o a b p (get_or st (h - 1) 0) (get_or st (h - 2) 0) σ ≡ act o a b p (hd (stack_of h st)) (hd (tl (stack_of h st))) σ
both o a b p h st σ l =
    ap (λ (x : ℕ). act o a b p x (get_or st (h - 2) 0) σ) (top_is h st (omega arith)) ∙ ap (λ (y : ℕ). act o a b p (hd (stack_of h st)) y σ) (next_is h st l)

blind : (o : Op) (a b p h : ℕ) (st σ : List ℕ) → wants o a ≤ h → act o a b p (get_or st (h - 1) 0) (get_or st (h - 2) 0) σ ≡ act o a b p (hd (stack_of h st)) (hd (tl (stack_of h st))) σ
blind Halt a b p h st σ l = refl
blind Lit a b p h st σ l = refl
blind Load a b p h st σ l = refl
blind Stor a b p h st σ l = ap (λ (x : ℕ). act Stor a b p x 0 σ) (top_is h st l)
blind Ldx a b p h st σ l = ap (λ (x : ℕ). act Ldx a b p x 0 σ) (top_is h st l)
blind Stx a b p h st σ l = both Stx a b p h st σ l
blind Chk a b p h st σ l = ap (λ (x : ℕ). act Chk a b p x 0 σ) (top_is h st l)
blind Dup a b p h st σ l = ap (λ (x : ℕ). act Dup a b p x 0 σ) (top_is h st l)
blind Drop a b p h st σ l = refl
blind Add a b p h st σ l = both Add a b p h st σ l
blind Sub a b p h st σ l = both Sub a b p h st σ l
blind Mul a b p h st σ l = both Mul a b p h st σ l
blind Div a b p h st σ l = both Div a b p h st σ l
blind Rem a b p h st σ l = both Rem a b p h st σ l
blind Neg a b p h st σ l = ap (λ (x : ℕ). act Neg a b p x 0 σ) (top_is h st l)
blind Ladd a b p h st σ l = both Ladd a b p h st σ l
blind Lsub a b p h st σ l = both Lsub a b p h st σ l
blind Lmul a b p h st σ l = both Lmul a b p h st σ l
blind Ldiv a b p h st σ l = both Ldiv a b p h st σ l
blind Lrem a b p h st σ l = both Lrem a b p h st σ l
blind Cmp a b p h st σ l = both Cmp a b p h st σ l
blind Lcmp a b p h st σ l = both Lcmp a b p h st σ l
blind And a b p h st σ l = both And a b p h st σ l
blind Or a b p h st σ l = both Or a b p h st σ l
blind Xor a b p h st σ l = both Xor a b p h st σ l
blind Not a b p h st σ l = ap (λ (x : ℕ). act Not a b p x 0 σ) (top_is h st l)
blind Fld a b p h st σ l = ap (λ (x : ℕ). act Fld a b p x 0 σ) (top_is h st l)
blind Dep a b p h st σ l = both Dep a b p h st σ l
blind Shf a b p h st σ l = ap (λ (x : ℕ). act Shf a b p x 0 σ) (top_is h st l)
blind Br a b p h st σ l = refl
blind Bre a b p h st σ l = ap (λ (x : ℕ). act Bre a b p x 0 σ) (top_is h st l)
blind Case a b p h st σ l = ap (λ (x : ℕ). act Case a b p x 0 σ) (top_is h st l)
blind For a b p h st σ l = both For a b p h st σ l
blind Next a b p h st σ l = both Next a b p h st σ l

same_row : (o : Op) (a b p h : ℕ) (st σ : List ℕ) →
    row o a b p h st σ ≡ then (readiness o a b (length (stack_of h st))) (λ _. act o a b p (hd (stack_of h st)) (hd (tl (stack_of h st))) σ)
same_row o a b p h st σ = rw (length_stack_of h st) (of (fine o a b) (leb (wants o a) h) refl)
  where
    of : (f w : Bool) → leb (wants o a) h ≡ w →
        then (cond f (cond w (Ok tt) (Err Missing)) (Err BadOperand)) (λ (_ : Unit {0}). act o a b p (get_or st (h - 1) 0) (get_or st (h - 2) 0) σ)
        ≡ then (cond f (cond w (Ok tt) (Err Missing)) (Err BadOperand)) (λ (_ : Unit {0}). act o a b p (hd (stack_of h st)) (hd (tl (stack_of h st))) σ)
    of false w q = refl
    of true false q = refl
    of true true q = blind o a b p h st σ (leb-true (wants o a) h q)

same_then : (r : Result Op Ending) (f g : Op → Result Move Ending) → ((o : Op) → f o ≡ g o) → then r f ≡ then r g
same_then (Ok o) f g h = h o
same_then (Err e) f g h = refl

same_moved : (i : Instr) (p h : ℕ) (st σ : List ℕ) → move_at i p h st σ ≡ acting i p (stack_of h st) σ
same_moved i p h st σ = same_then (op_of_number i.number) _ _ (λ o. same_row o i.a i.b p h st σ)

pub tells : (P : List Instr) (d : ℕ) (s : State) → d ≤ length s.stack → Tells s (move P d (view s) s.cells) (goes P d s)
unfolding move goes
tells P d s l =
    rw (sym (same_moved (get_or P s.registers.pc blank) s.registers.pc s.registers.height s.stack s.cells))
    (tells_then d s (cond (ltb s.registers.pc (length P)) (move_at (get_or P s.registers.pc blank) s.registers.pc s.registers.height s.stack s.cells) (Err Outside)) l)
