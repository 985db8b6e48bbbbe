-- What each instruction does, as an act of the source or by itself.
use Rattle.std.proofs.Common.{◌≡◌, ℕ, suc, ◌+◌, ◌<◌, ◌≤◌, true, cond, List, [], ◌∷◌, length, get_or, Ok, Err, Result, refl, ap, ◌∙◌, arith}
use Rattle.std.proofs.lemmas.Bool.{lt-ltb, le-leb}
use Rattle.arith.specs.declared.relation.Relation.{Relation}
use Rattle.arith.specs.declared.relation.Relation.TheVariants.{Equal, Unequal, Less, AtMost, Greater, AtLeast}
use Rattle.arith.specs.declared.shift.Kind.{Kind}
use Rattle.arith.specs.declared.shift.Kind.TheVariants.{Lsl, Lsr, Asr, Csl, Csr}
use Rattle.arith.specs.declared.stop.Stop.{Stop}
use Rattle.arith.specs.Fields.{is_field, with_field}
use Rattle.arith.specs.Integers.{sum, subscript, case_index}
use Rattle.arith.specs.Logicals.{odd}
use Rattle.arith.specs.Relations.{relation_number, relation_of, comparison, lcomparison}
use Rattle.arith.specs.Shifts.{kind_number, kind_of, is_shift, shift_of}
use Rattle.base.specs.declared.instr.Instr.{Instr}
use Rattle.ir.specs.Instrs.{HALT, LIT, LOAD, STOR, LDX, STX, CHK, DUP, DROP, DEP, BR, BRE, CASE, FOR, NEXT}
use Rattle.ir.specs.Lists.{op_instr, uop_instr}
use Rattle.ir.specs.Trees.{add, sub, mul, div, rem, ladd, lsub, lmul, ldiv, lrem, cmp, lcmp, land, lor, lxor, Uop, neg, not, fld, shf}
use Rattle.ir.specs.Trees.{Op as Binary}
use Rattle.machine.specs.declared.ending.Ending.TheVariants.{Halted}
use Rattle.base.specs.declared.op.Op.{Op}
use Rattle.base.specs.declared.op.Op.TheVariants.{Halt, Lit, Load, Stor, Ldx, Stx, Chk, Dup, Drop, Add, Sub, Mul, Div, Rem, Neg, Ladd, Lsub, Lmul, Ldiv, Lrem, Cmp, Lcmp, And, Or, Xor, Not, Fld, Dep, Shf, Br, Bre, Case, For, Next}
use Rattle.machine.specs.declared.registers.Move.TheVariants.{On, Push, Write as Puts}
use Rattle.machine.specs.Table.{op_of_number, then, fine, wants, or_ending, cell_of, push, act}
use Rattle.machine.specs.Stacks.{hd, tl, off}
use Rattle.semantics.specs.Effects.{Store, put, says, load, store, element, load_at, put_element, put_at, goes_on, advance, put_or_stop, prim}
use Rattle.semantics.specs.Meaning.{works, works_on, WithinU}
use Rattle.semantics.proofs.Indexes.{subscript_below}
use Rattle.correctness.proofs.Moves.{at, on, halt, lay, acting, move, leads}
use Rattle.correctness.proofs.Runs.{Placed, next, room, acts, does, Lands, Quiet}

-- an instruction whose operands are in order, where the words are there
acts_as : (i : Instr) (o : Op) (p : ℕ) (st : List ℕ) (σ : Store) → op_of_number i.number ≡ Ok o → fine o i.a i.b ≡ true → wants o i.a ≤ length st → acting i p st σ ≡ act o i.a i.b p (hd st) (hd (tl st)) σ
acts_as i o p st σ e f w = rw (e, f, le-leb (wants o i.a) (length st) w)

after : (p : ℕ) → p + 1 ≡ suc p
after p = omega arith

-- how each kind of move is made: a word is pushed, a cell is written, the run goes on elsewhere

lays_word : (d p k w : ℕ) (st : List ℕ) (σ : Store) → length (off k st) < d → lay d p st σ (Ok (Push k w)) ≡ on [] (at (suc p) (w ∷ off k st))
lays_word d p k w st σ l = rw (lt-ltb (length (off k st)) d l)

lays_push : (d p k : ℕ) (r : Result ℕ Stop) (st : List ℕ) (σ : Store) → length (off k st) < d → lay d p st σ (push k (or_ending r)) ≡ leads (says r σ) (λ w. at (suc p) (w ∷ off k st))
unfolding says
lays_push d p k (Ok w) st σ l = lays_word d p k w st σ l
lays_push d p k (Err e) st σ l = refl

lays_cell : (d p k c : ℕ) (st : List ℕ) (σ : Store) → c < length σ → length (off k st) < d → lay d p st σ (push k (cell_of σ c)) ≡ on [] (at (suc p) (get_or σ c 0 ∷ off k st))
lays_cell d p k c st σ h l = rw (lt-ltb c (length σ) h) (lays_word d p k (get_or σ c 0) st σ l)

lays_element : (d p b : ℕ) (r : Result ℕ Stop) (st : List ℕ) (σ : Store) → ((j : ℕ) → r ≡ Ok j → b + j < length σ) → length (off 1 st) < d →
    lay d p st σ (push 1 (then (or_ending r) (λ i. cell_of σ (b + i)))) ≡ leads (load_at b r σ) (λ w. at (suc p) (w ∷ off 1 st))
lays_element d p b (Ok j) st σ h l = lays_cell d p 1 (b + j) st σ (h j refl) l
lays_element d p b (Err e) st σ h l = refl

lays_write : (d p k c w q q' : ℕ) (st : List ℕ) (σ : Store) → c < length σ → q ≡ q' → lay d p st σ (Ok (Puts k c w q)) ≡ on (put c w ∷ []) (at q' (off k st))
lays_write d p k c w q q' st σ h e = rw (lt-ltb c (length σ) h, e)

lays_fill : (d p b w q q' : ℕ) (r : Result ℕ Stop) (st : List ℕ) (σ : Store) → ((j : ℕ) → r ≡ Ok j → b + j < length σ) → q ≡ q' →
    lay d p st σ (then (or_ending r) (λ i. Ok (Puts 2 (b + i) w q))) ≡ leads (put_at b w r) (λ _. at q' (off 2 st))
lays_fill d p b w q q' (Ok j) st σ h e = lays_write d p 2 (b + j) w q q' st σ (h j refl) e
lays_fill d p b w q q' (Err x) st σ h e = refl

lays_advance : (d p c q : ℕ) (r : Result ℕ Stop) (st : List ℕ) (σ : Store) → c < length σ →
    lay d p st σ (then (or_ending r) (λ v. Ok (Puts 0 c v q))) ≡ leads (put_or_stop c r) (λ _. at q st)
lays_advance d p c q (Ok v) st σ h = lays_write d p 0 c v q q st σ h refl
lays_advance d p c q (Err x) st σ h = refl

lays_on : (d p k q q' : ℕ) (st : List ℕ) (σ : Store) → q ≡ q' → lay d p st σ (Ok (On k q)) ≡ on [] (at q' (off k st))
lays_on d p k q q' st σ e = ap (λ (j : ℕ). on [] (at j (off k st))) e

lays_go : (d p k : ℕ) (f g : ℕ → ℕ) (r : Result ℕ Stop) (st : List ℕ) (σ : Store) → ((j : ℕ) → f j ≡ g j) →
    lay d p st σ (then (or_ending r) (λ j. Ok (On k (f j)))) ≡ leads (says r σ) (λ j. at (g j) (off k st))
unfolding says
lays_go d p k f g (Ok j) st σ e = lays_on d p k (f j) (g j) st σ (e j)
lays_go d p k f g (Err x) st σ e = refl

-- numbers of relations and shifts
relation : (r : Relation) → relation_of (relation_number r) ≡ r
relation Equal = refl
relation Unequal = refl
relation Less = refl
relation AtMost = refl
relation Greater = refl
relation AtLeast = refl

fine_relation : (r : Relation) → fine Cmp (relation_number r) 0 ≡ true
fine_relation Equal = refl
fine_relation Unequal = refl
fine_relation Less = refl
fine_relation AtMost = refl
fine_relation Greater = refl
fine_relation AtLeast = refl

kind : (k : Kind) → kind_of (kind_number k) ≡ k
kind Lsl = refl
kind Lsr = refl
kind Asr = refl
kind Csl = refl
kind Csr = refl

fine_kind : (k : Kind) (n : ℕ) → n ≤ 15 → is_shift (kind_number k) n ≡ true
fine_kind Lsl n h = le-leb n 15 h
fine_kind Lsr n h = le-leb n 15 h
fine_kind Asr n h = le-leb n 15 h
fine_kind Csl n h = le-leb n 15 h
fine_kind Csr n h = le-leb n 15 h

module _ (P : List Instr) (d n : ℕ) where
  pub lit_lands : {k p : ℕ} (w : ℕ) (st : List ℕ) {r : List Instr} → Placed P d n p (length st) (LIT w ∷ r) → Lands P d n 1 k (at p st) (prim (says (Ok w))) (λ v. at (suc p) (v ∷ st))
  unfolding op_of_number
  lit_lands {p = p} w st pl = does P d n st _ pl (λ σ l. ap (lay d p st σ) (acts_as (LIT w) Lit p st σ refl refl (omega arith)) ∙ lays_push d p 0 (Ok w) st σ (room P d n pl))

  pub load_lands : {k p : ℕ} (c : ℕ) (st : List ℕ) {r : List Instr} → c < n → Placed P d n p (length st) (LOAD c ∷ r) → Lands P d n 1 k (at p st) (prim (load c)) (λ v. at (suc p) (v ∷ st))
  unfolding op_of_number load
  load_lands {p = p} c st h pl = does P d n st _ pl (λ σ l. ap (lay d p st σ) (acts_as (LOAD c) Load p st σ refl refl (omega arith)) ∙ lays_cell d p 0 c st σ (omega arith) (room P d n pl))

  pub stor_lands : {k p : ℕ} (c w : ℕ) (st : List ℕ) {r : List Instr} → c < n → Placed P d n p (suc (length st)) (STOR c ∷ r) → Lands P d n 1 k (at p (w ∷ st)) (prim (store c w)) (λ _. at (suc p) st)
  unfolding op_of_number store
  stor_lands {p = p} c w st h pl =
      does P d n (w ∷ st) _ pl (λ σ l. ap (lay d p (w ∷ st) σ) (acts_as (STOR c) Stor p (w ∷ st) σ refl refl (omega arith)) ∙ lays_write d p 1 c w (p + 1) (suc p) (w ∷ st) σ (omega arith) (after p))

  pub ldx_lands : {k p : ℕ} (b m x : ℕ) (st : List ℕ) {r : List Instr} → b + m ≤ n → Placed P d n p (suc (length st)) (LDX b m ∷ r) → Lands P d n 1 k (at p (x ∷ st)) (prim (element b m x)) (λ v. at (suc p) (v ∷ st))
  unfolding op_of_number element
  ldx_lands {p = p} b m x st h pl =
      does P d n (x ∷ st) _ pl
      (λ σ l. ap (lay d p (x ∷ st) σ) (acts_as (LDX b m) Ldx p (x ∷ st) σ refl refl (omega arith)) ∙ lays_element d p b (subscript x m) (x ∷ st) σ (λ j q. omega (arith, subscript_below x m j q)) (room P d n pl))

  pub chk_lands : {k p : ℕ} (m x : ℕ) (st : List ℕ) {r : List Instr} → Placed P d n p (suc (length st)) (CHK m ∷ r) → Lands P d n 1 k (at p (x ∷ st)) (prim (says (subscript x m))) (λ _. at (suc p) (x ∷ st))
  unfolding op_of_number
  chk_lands {p = p} m x st pl =
      does P d n (x ∷ st) _ pl (λ σ l. ap (lay d p (x ∷ st) σ) (acts_as (CHK m) Chk p (x ∷ st) σ refl refl (omega arith)) ∙ lays_go d p 0 (λ _. p + 1) (λ _. suc p) (subscript x m) (x ∷ st) σ (λ _. after p))

  -- the subscript is known to pass, or is tested once more
  pub stx_lands : {k p : ℕ} (b m j x w : ℕ) (st : List ℕ) {r : List Instr} → b + m ≤ n → subscript x m ≡ Ok j → Placed P d n p (suc (suc (length st))) (STX b m ∷ r) → Lands P d n 1 k (at p (w ∷ x ∷ st)) (prim (store (b + j) w)) (λ _. at (suc p) st)
  unfolding op_of_number store
  stx_lands {p = p} b m j x w st h q pl =
      does P d n (w ∷ x ∷ st) _ pl
      (λ σ l. ap (lay d p (w ∷ x ∷ st) σ) (acts_as (STX b m) Stx p (w ∷ x ∷ st) σ refl refl (omega arith))
      ∙ ap (λ (r : Result ℕ Stop). lay d p (w ∷ x ∷ st) σ (then (or_ending r) (λ i. Ok (Puts 2 (b + i) w (p + 1))))) q
      ∙ lays_write d p 2 (b + j) w (p + 1) (suc p) (w ∷ x ∷ st) σ (omega (arith, subscript_below x m j q)) (after p))

  pub place_lands : {k p : ℕ} (b m x w : ℕ) (st : List ℕ) {r : List Instr} → b + m ≤ n → Placed P d n p (suc (suc (length st))) (STX b m ∷ r) → Lands P d n 1 k (at p (w ∷ x ∷ st)) (prim (put_element b m x w)) (λ _. at (suc p) st)
  unfolding op_of_number put_element
  place_lands {p = p} b m x w st h pl =
      does P d n (w ∷ x ∷ st) _ pl
      (λ σ l. ap (lay d p (w ∷ x ∷ st) σ) (acts_as (STX b m) Stx p (w ∷ x ∷ st) σ refl refl (omega arith))
      ∙ lays_fill d p b w (p + 1) (suc p) (subscript x m) (w ∷ x ∷ st) σ (λ j q. omega (arith, subscript_below x m j q)) (after p))

  -- instructions that the source has no word for
  pub dup : {p : ℕ} (x : ℕ) (st : List ℕ) {r : List Instr} → Placed P d n p (suc (length st)) (DUP ∷ r) → Quiet P d n (at p (x ∷ st)) (at (suc p) (x ∷ x ∷ st))
  unfolding op_of_number
  dup {p = p} x st pl σ l = acts P d n (x ∷ st) pl σ ∙ ap (lay d p (x ∷ st) σ) (acts_as DUP Dup p (x ∷ st) σ refl refl (omega arith)) ∙ lays_word d p 0 x (x ∷ st) σ (room P d n pl)

  pub drop_two : {p : ℕ} (x y : ℕ) (st : List ℕ) {r : List Instr} → Placed P d n p (suc (suc (length st))) (DROP 2 ∷ r) → Quiet P d n (at p (x ∷ y ∷ st)) (at (suc p) st)
  unfolding op_of_number
  drop_two {p = p} x y st pl σ l =
      acts P d n (x ∷ y ∷ st) pl σ ∙ ap (lay d p (x ∷ y ∷ st) σ) (acts_as (DROP 2) Drop p (x ∷ y ∷ st) σ refl refl (omega arith)) ∙ lays_on d p 2 (p + 1) (suc p) (x ∷ y ∷ st) σ (after p)

  pub dep : {p : ℕ} (a b v w : ℕ) (st : List ℕ) {r : List Instr} → is_field a b ≡ true → Placed P d n p (suc (suc (length st))) (DEP a b ∷ r) → Quiet P d n (at p (w ∷ v ∷ st)) (at (suc p) (with_field a b v w ∷ st))
  unfolding op_of_number
  dep {p = p} a b v w st f pl σ l =
      acts P d n (w ∷ v ∷ st) pl σ ∙ ap (lay d p (w ∷ v ∷ st) σ) (acts_as (DEP a b) Dep p (w ∷ v ∷ st) σ refl f (omega arith)) ∙ lays_word d p 2 (with_field a b v w) (w ∷ v ∷ st) σ (room P d n pl)

  pub jump : {p t : ℕ} (st : List ℕ) {r : List Instr} → Placed P d n p (length st) (BR t ∷ r) → Quiet P d n (at p st) (at t st)
  unfolding op_of_number
  jump {p = p} {t = t} st pl σ l = acts P d n st pl σ ∙ ap (lay d p st σ) (acts_as (BR t) Br p st σ refl refl (omega arith))

  pub ends_at : {p : ℕ} (st : List ℕ) {r : List Instr} → Placed P d n p (length st) (HALT ∷ r) → (σ : Store) → move P d (at p st) σ ≡ halt Halted
  unfolding op_of_number
  ends_at {p = p} st pl σ = acts P d n st pl σ ∙ ap (lay d p st σ) (acts_as HALT Halt p st σ refl refl (omega arith))

  -- branches
  pub bre_lands : {k p : ℕ} (t w : ℕ) (st : List ℕ) {r : List Instr} → Placed P d n p (suc (length st)) (BRE t ∷ r) → Lands P d n 1 k (at p (w ∷ st)) (prim (says (Ok (odd w)))) (λ y. at (cond y (suc p) t) st)
  unfolding op_of_number says
  bre_lands {p = p} t w st pl =
      does P d n (w ∷ st) _ pl
      (λ σ l. ap (lay d p (w ∷ st) σ) (acts_as (BRE t) Bre p (w ∷ st) σ refl refl (omega arith))
      ∙ lays_on d p 1 (cond (odd w) (p + 1) t) (cond (odd w) (suc p) t) (w ∷ st) σ (ap (λ (q : ℕ). cond (odd w) q t) (after p)))

  pub case_lands : {k p : ℕ} (t m x : ℕ) (st : List ℕ) {r : List Instr} → Placed P d n p (suc (length st)) (CASE t m ∷ r) → Lands P d n 1 k (at p (x ∷ st)) (prim (says (case_index x m))) (λ i. at (t + i) st)
  unfolding op_of_number
  case_lands {p = p} t m x st pl =
      does P d n (x ∷ st) _ pl
      (λ σ l. ap (lay d p (x ∷ st) σ) (acts_as (CASE t m) Case p (x ∷ st) σ refl refl (omega arith)) ∙ lays_go d p 1 (λ i. t + i) (λ i. t + i) (case_index x m) (x ∷ st) σ (λ _. refl))

  pub for_lands : {k p : ℕ} (c t l s : ℕ) (st : List ℕ) {r : List Instr} → c < n → Placed P d n p (suc (suc (length st))) (FOR c t ∷ r) →
      Lands P d n 1 k (at p (l ∷ s ∷ st)) (prim (goes_on c s l)) (λ y. at (cond y (suc p) t) (l ∷ s ∷ st))
  unfolding op_of_number goes_on
  for_lands {p = p} c t l s st h pl =
      does P d n (l ∷ s ∷ st) _ pl
      (λ σ e. ap (lay d p (l ∷ s ∷ st) σ) (acts_as (FOR c t) For p (l ∷ s ∷ st) σ refl refl (omega arith)) ∙ rw (lt-ltb c (length σ) (omega arith), after p))

  pub next_lands : {k p : ℕ} (c t l s : ℕ) (st : List ℕ) {r : List Instr} → c < n → Placed P d n p (suc (suc (length st))) (NEXT c t ∷ r) →
      Lands P d n 1 k (at p (l ∷ s ∷ st)) (prim (advance c s)) (λ _. at t (l ∷ s ∷ st))
  unfolding op_of_number advance
  next_lands {p = p} c t l s st h pl =
      does P d n (l ∷ s ∷ st) _ pl
      (λ σ e. ap (lay d p (l ∷ s ∷ st) σ) (acts_as (NEXT c t) Next p (l ∷ s ∷ st) σ refl refl (omega arith))
      ∙ rw (lt-ltb c (length σ) (omega arith)) (lays_advance d p c t (sum (get_or σ c 0) s) (l ∷ s ∷ st) σ (omega arith)))

  -- an operation on two words, or on one
  binary : {k p : ℕ} (i : Instr) (o : Op) (y x : ℕ) (st : List ℕ) {is : List Instr} (r : Result ℕ Stop) → Placed P d n p (suc (suc (length st))) (i ∷ is) → op_of_number i.number ≡ Ok o → fine o i.a i.b ≡ true → wants o i.a ≤ 2 →
      ((σ : Store) → act o i.a i.b p x y σ ≡ push 2 (or_ending r)) → length st < d → Lands P d n 1 k (at p (x ∷ y ∷ st)) (prim (says r)) (λ w. at (suc p) (w ∷ st))
  binary {p = p} i o y x st r pl e f w a h =
      does P d n (x ∷ y ∷ st) _ pl
      (λ σ l. ap (lay d p (x ∷ y ∷ st) σ) (acts_as i o p (x ∷ y ∷ st) σ e f (omega arith) ∙ a σ) ∙ lays_push d p 2 r (x ∷ y ∷ st) σ h)

  unary : {k p : ℕ} (i : Instr) (o : Op) (x : ℕ) (st : List ℕ) {is : List Instr} (r : Result ℕ Stop) → Placed P d n p (suc (length st)) (i ∷ is) → op_of_number i.number ≡ Ok o → fine o i.a i.b ≡ true → wants o i.a ≤ 1 →
      ((σ : Store) → act o i.a i.b p x (hd st) σ ≡ push 1 (or_ending r)) → length st < d → Lands P d n 1 k (at p (x ∷ st)) (prim (says r)) (λ w. at (suc p) (w ∷ st))
  unary {p = p} i o x st r pl e f w a h =
      does P d n (x ∷ st) _ pl
      (λ σ l. ap (lay d p (x ∷ st) σ) (acts_as i o p (x ∷ st) σ e f (omega arith) ∙ a σ) ∙ lays_push d p 1 r (x ∷ st) σ h)

  pub bin_lands : (o : Binary) {k p : ℕ} (y x : ℕ) (st : List ℕ) {r : List Instr} → Placed P d n p (suc (suc (length st))) (op_instr o ∷ r) → Lands P d n 1 k (at p (x ∷ y ∷ st)) (prim (says (works o y x))) (λ w. at (suc p) (w ∷ st))
  unfolding op_of_number works
  bin_lands add y x st pl = binary _ Add y x st _ pl refl refl (omega arith) (λ _. refl) (room P d n pl)
  bin_lands sub y x st pl = binary _ Sub y x st _ pl refl refl (omega arith) (λ _. refl) (room P d n pl)
  bin_lands mul y x st pl = binary _ Mul y x st _ pl refl refl (omega arith) (λ _. refl) (room P d n pl)
  bin_lands div y x st pl = binary _ Div y x st _ pl refl refl (omega arith) (λ _. refl) (room P d n pl)
  bin_lands rem y x st pl = binary _ Rem y x st _ pl refl refl (omega arith) (λ _. refl) (room P d n pl)
  bin_lands ladd y x st pl = binary _ Ladd y x st _ pl refl refl (omega arith) (λ _. refl) (room P d n pl)
  bin_lands lsub y x st pl = binary _ Lsub y x st _ pl refl refl (omega arith) (λ _. refl) (room P d n pl)
  bin_lands lmul y x st pl = binary _ Lmul y x st _ pl refl refl (omega arith) (λ _. refl) (room P d n pl)
  bin_lands ldiv y x st pl = binary _ Ldiv y x st _ pl refl refl (omega arith) (λ _. refl) (room P d n pl)
  bin_lands lrem y x st pl = binary _ Lrem y x st _ pl refl refl (omega arith) (λ _. refl) (room P d n pl)
  bin_lands (cmp r) y x st pl = binary _ Cmp y x st _ pl refl (fine_relation r) (omega arith) (λ _. ap (λ (q : Relation). Ok (Push 2 (comparison q y x))) (relation r)) (room P d n pl)
  bin_lands (lcmp r) y x st pl = binary _ Lcmp y x st _ pl refl (fine_relation r) (omega arith) (λ _. ap (λ (q : Relation). Ok (Push 2 (lcomparison q y x))) (relation r)) (room P d n pl)
  bin_lands land y x st pl = binary _ And y x st _ pl refl refl (omega arith) (λ _. refl) (room P d n pl)
  bin_lands lor y x st pl = binary _ Or y x st _ pl refl refl (omega arith) (λ _. refl) (room P d n pl)
  bin_lands lxor y x st pl = binary _ Xor y x st _ pl refl refl (omega arith) (λ _. refl) (room P d n pl)

  pub un_lands : (o : Uop) {k p : ℕ} (x : ℕ) (st : List ℕ) {r : List Instr} → WithinU o → Placed P d n p (suc (length st)) (uop_instr o ∷ r) → Lands P d n 1 k (at p (x ∷ st)) (prim (says (works_on o x))) (λ w. at (suc p) (w ∷ st))
  unfolding op_of_number works_on
  un_lands neg x st h pl = unary _ Neg x st _ pl refl refl (omega arith) (λ _. refl) (room P d n pl)
  un_lands not x st h pl = unary _ Not x st _ pl refl refl (omega arith) (λ _. refl) (room P d n pl)
  un_lands (fld a b) x st h pl = unary _ Fld x st _ pl refl h (omega arith) (λ _. refl) (room P d n pl)
  un_lands (shf q c) x st h pl = unary _ Shf x st _ pl refl (fine_kind q c h) (omega arith) (λ _. ap (λ (z : Kind). Ok (Push 1 (shift_of z c x))) (kind q)) (room P d n pl)

  -- what follows an operation has its answer on the stack
  pub next_bin : (o : Binary) {p h : ℕ} {r : List Instr} → Placed P d n p (suc (suc h)) (op_instr o ∷ r) → Placed P d n (suc p) (suc h) r
  next_bin add pl = next P d n pl
  next_bin sub pl = next P d n pl
  next_bin mul pl = next P d n pl
  next_bin div pl = next P d n pl
  next_bin rem pl = next P d n pl
  next_bin ladd pl = next P d n pl
  next_bin lsub pl = next P d n pl
  next_bin lmul pl = next P d n pl
  next_bin ldiv pl = next P d n pl
  next_bin lrem pl = next P d n pl
  next_bin (cmp r) pl = next P d n pl
  next_bin (lcmp r) pl = next P d n pl
  next_bin land pl = next P d n pl
  next_bin lor pl = next P d n pl
  next_bin lxor pl = next P d n pl

  pub next_un : (o : Uop) {p h : ℕ} {r : List Instr} → Placed P d n p (suc h) (uop_instr o ∷ r) → Placed P d n (suc p) (suc h) r
  next_un neg pl = next P d n pl
  next_un not pl = next P d n pl
  next_un (fld a b) pl = next P d n pl
  next_un (shf q c) pl = next P d n pl
