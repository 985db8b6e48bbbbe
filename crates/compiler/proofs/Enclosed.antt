-- Code stays inside itself. Assumes nothing.
use Rattle.std.proofs.Common.{◌≡◌, ℕ, zero, suc, ◌+◌, ◌<◌, ◌≤◌, List, [], ◌∷◌, ◌++◌, length, get_or, sym, refl, ap, subst, ◌∙◌, arith, length-append}
use Rattle.std.proofs.lemmas.List.{get_or-append-add, append_assoc}
use Rattle.base.specs.declared.instr.Instr.{Instr}
use Rattle.ir.specs.Instrs.{HALT, LIT, LOAD, STOR, LDX, STX, CHK, DUP, DROP, DEP, BR, BRE, CASE, FOR, NEXT}
use Rattle.ir.specs.Trees.{Op, add, sub, mul, div, rem, ladd, lsub, lmul, ldiv, lrem, cmp, lcmp, land, lor, lxor, Uop, neg, not, fld, shf, Expr, lit, var, pick, bin, un, Clause, test, and, Cond, only, or, Stmt, assign, fill, deposit, deposit_at, when, either, while, repeat, for, case, Body, end, then, Arms, last, arm, size}
use Rattle.codegen.specs.Code.{end_e, end_l, end_c, end_s, end_b, end_a, table_end, table, code_e, code_l, code_c, code_s, code_b, code_a, program}
use Rattle.ir.specs.Lists.{op_instr, uop_instr, items}
use Rattle.ir.specs.declared.item.Item.{Item}
use Rattle.codegen.specs.declared.placed.Placed.{Placed}
use Rattle.codegen.specs.Items.{emits, placements, back, last as final, code_of_items}
use Rattle.codegen.proofs.Sizes.{stands}
use Rattle.sema.specs.Resolving.{resolve}
use Rattle.compiler.specs.Enclosed.{Inside, Encloses, JumpsStayInside}
use Rattle.compiler.proofs.Exact.{tree_of}

-- The ends of code lie behind its starts.

grows_e : (e : Expr) (p : ℕ) → p < end_e e p
grows_e (lit w) p = omega arith
grows_e (var c) p = omega arith
grows_e (pick b n i) p = omega (arith, grows_e i p)
grows_e (bin o x y) p = omega (arith, grows_e x p, grows_e y (end_e x p))
grows_e (un o x) p = omega (arith, grows_e x p)

grows_l : (c : Clause) (p : ℕ) → p < end_l c p
grows_l (test e) p = omega (arith, grows_e e p)
grows_l (and e c) p = omega (arith, grows_e e p, grows_l c (suc (end_e e p)))

grows_c : (c : Cond) (p : ℕ) → p < end_c c p
grows_c (only c) p = grows_l c p
grows_c (or c d) p = omega (arith, grows_l c p, grows_c d (suc (end_l c p)))

grows_t : (a : Arms) (p : ℕ) → p < table_end a p
grows_t (last b) p = omega arith
grows_t (arm b a) p = omega (arith, grows_t a (suc p))

mutual
  grows_s : (s : Stmt) (p : ℕ) → p < end_s s p
  grows_s (assign c e) p = omega (arith, grows_e e p)
  grows_s (fill b n i e) p = omega (arith, grows_e i p, grows_e e (suc (end_e i p)))
  grows_s (deposit c a b e) p = omega (arith, grows_e e (suc p))
  grows_s (deposit_at x n i a b e) p = omega (arith, grows_e i p, grows_e e (suc (suc (end_e i p))))
  grows_s (when c b) p = omega (arith, grows_c c p, grows_b b (end_c c p))
  grows_s (either c b d) p = omega (arith, grows_c c p, grows_b b (end_c c p), grows_b d (suc (end_b b (end_c c p))))
  grows_s (while c b) p = omega (arith, grows_c c p, grows_b b (end_c c p))
  grows_s (repeat b c) p = omega (arith, grows_b b p, grows_c c (end_b b p))
  grows_s (for c e d l b) p =
      omega (arith, grows_e e p, grows_e d (suc (end_e e p)), grows_e l (end_e d (suc (end_e e p))), grows_b b (suc (end_e l (end_e d (suc (end_e e p))))))
  grows_s (case e a) p = omega (arith, grows_e e p, grows_t a (suc (end_e e p)), grows_a a (table_end a (suc (end_e e p))))

  grows_b : (b : Body) (p : ℕ) → p ≤ end_b b p
  grows_b end p = omega arith
  grows_b (then s b) p = omega (arith, grows_s s p, grows_b b (end_s s p))

  grows_a : (a : Arms) (p : ℕ) → p < end_a a p
  grows_a (last b) p = omega (arith, grows_b b p)
  grows_a (arm b a) p = omega (arith, grows_b b p, grows_a a (suc (end_b b p)))

-- An instruction at the index p, with the code after it, in code of n.

-- the first k are branches
abbrev Branches : ℕ → List Instr → Type 0
Branches zero r = Unit {0}
Branches (suc k) [] = ⊥
Branches (suc k) (i ∷ r) = (i.number ≡ 29) × Branches k r

record Goes (n p : ℕ) (i : Instr) (r : List Instr) : Type 0 where
  pub br : i.number ≡ 29 → i.a < n
  pub bre : i.number ≡ 30 → i.a < n
  pub for : i.number ≡ 32 → i.b < n
  pub next : i.number ≡ 33 → i.b < n
  pub case : i.number ≡ 31 → i.a ≡ suc p
  pub branches : i.number ≡ 31 → Branches i.b r

-- code from the index p to the end of all
abbrev Good : (n p : ℕ) → List Instr → Type 0
Good n p [] = p ≡ n
Good n p (i ∷ is) = Goes n p i is × Good n (suc p) is

table_branches : (a : Arms) (q : ℕ) (r : List Instr) → Branches (size a) (table a q r)
table_branches (last b) q r = (refl, tt)
table_branches (arm b a) q r = (refl, table_branches a (suc (end_b b q)) r)

module _ (n : ℕ) where
  -- most go nowhere
  quiet : (i : Instr) (p : ℕ) (r : List Instr) → i.number < 29 → Goes n p i r
  quiet i p r l =
      record {
        br = λ e. absurd (omega (arith, e, l));
        bre = λ e. absurd (omega (arith, e, l));
        for = λ e. absurd (omega (arith, e, l));
        next = λ e. absurd (omega (arith, e, l));
        case = λ e. absurd (omega (arith, e, l));
        branches = λ e. absurd (omega (arith, e, l));
      }

  -- BR and BRE to their first operand, FOR and NEXT to their second
  first : (i : Instr) (p : ℕ) (r : List Instr) → i.number < 31 → i.a < n → Goes n p i r
  first i p r h l =
      record {
        br = λ e. l;
        bre = λ e. l;
        for = λ e. absurd (omega (arith, e, h));
        next = λ e. absurd (omega (arith, e, h));
        case = λ e. absurd (omega (arith, e, h));
        branches = λ e. absurd (omega (arith, e, h));
      }

  second : (i : Instr) (p : ℕ) (r : List Instr) → 31 < i.number → i.b < n → Goes n p i r
  second i p r h l =
      record {
        br = λ e. absurd (omega (arith, e, h));
        bre = λ e. absurd (omega (arith, e, h));
        for = λ e. l;
        next = λ e. l;
        case = λ e. absurd (omega (arith, e, h));
        branches = λ e. absurd (omega (arith, e, h));
      }

  br : (t p : ℕ) (r : List Instr) → t < n → Goes n p (BR t) r
  br t p r l = first (BR t) p r (omega arith) l

  bre : (t p : ℕ) (r : List Instr) → t < n → Goes n p (BRE t) r
  bre t p r l = first (BRE t) p r (omega arith) l

  -- CASE to the branches behind it
  choice : (k p : ℕ) (r : List Instr) → Branches k r → Goes n p (CASE (suc p) k) r
  choice k p r b =
      record {
        br = λ e. absurd (omega (arith, e));
        bre = λ e. absurd (omega (arith, e));
        for = λ e. absurd (omega (arith, e));
        next = λ e. absurd (omega (arith, e));
        case = λ e. refl;
        branches = λ e. b;
      }

  op_quiet : (o : Op) → (op_instr o).number < 29
  op_quiet add = omega arith
  op_quiet sub = omega arith
  op_quiet mul = omega arith
  op_quiet div = omega arith
  op_quiet rem = omega arith
  op_quiet ladd = omega arith
  op_quiet lsub = omega arith
  op_quiet lmul = omega arith
  op_quiet ldiv = omega arith
  op_quiet lrem = omega arith
  op_quiet (cmp r) = omega arith
  op_quiet (lcmp r) = omega arith
  op_quiet land = omega arith
  op_quiet lor = omega arith
  op_quiet lxor = omega arith

  uop_quiet : (o : Uop) → (uop_instr o).number < 29
  uop_quiet neg = omega arith
  uop_quiet not = omega arith
  uop_quiet (fld a b) = omega arith
  uop_quiet (shf k c) = omega arith

  -- code before good code is good

  good_e : (e : Expr) (p : ℕ) (r : List Instr) → Good n (end_e e p) r → Good n p (code_e e r)
  good_e (lit w) p r g = (quiet (LIT w) p r (omega arith), g)
  good_e (var c) p r g = (quiet (LOAD c) p r (omega arith), g)
  good_e (pick b k i) p r g = good_e i p (LDX b k ∷ r) (quiet (LDX b k) _ r (omega arith), g)
  good_e (bin o x y) p r g = good_e x p _ (good_e y (end_e x p) (op_instr o ∷ r) (quiet (op_instr o) _ r (op_quiet o), g))
  good_e (un o x) p r g = good_e x p (uop_instr o ∷ r) (quiet (uop_instr o) _ r (uop_quiet o), g)

  good_l : (c : Clause) (p f : ℕ) (r : List Instr) → f < n → Good n (end_l c p) r → Good n p (code_l c f r)
  good_l (test e) p f r l g = good_e e p (BRE f ∷ r) (bre f _ r l, g)
  good_l (and e c) p f r l g = good_e e p (BRE f ∷ code_l c f r) (bre f _ _ l, good_l c (suc (end_e e p)) f r l g)

  good_c : (c : Cond) (p f : ℕ) (r : List Instr) → f < n → end_c c p < n → Good n (end_c c p) r → Good n p (code_c c p f r)
  good_c (only c) p f r l m g = good_l c p f r l g
  good_c (or c d) p f r l m g =
      let q = suc (end_l c p) in
      good_l c p q _ (omega (arith, m, grows_c d q)) (br (end_c d q) _ _ m, good_c d q f r l m g)

  good_t : (a : Arms) (p q : ℕ) (r : List Instr) → end_a a q < n → Good n (table_end a p) r → Good n p (table a q r)
  good_t (last b) p q r m g = (br q p r (omega (arith, m, grows_b b q)), g)
  good_t (arm b a) p q r m g = (br q p _ (omega (arith, m, grows_b b q, grows_a a (suc (end_b b q)))), good_t a (suc p) (suc (end_b b q)) r m g)

  mutual
    good_s : (s : Stmt) (p : ℕ) (r : List Instr) → end_s s p < n → Good n (end_s s p) r → Good n p (code_s s p r)
    good_s (assign c e) p r m g = good_e e p (STOR c ∷ r) (quiet (STOR c) _ r (omega arith), g)
    good_s (fill b k i e) p r m g =
        good_e i p _ (quiet (CHK k) _ _ (omega arith), good_e e (suc (end_e i p)) (STX b k ∷ r) (quiet (STX b k) _ r (omega arith), g))
    good_s (deposit c a b e) p r m g =
        let z : Good n (end_e e (suc p)) (DEP a b ∷ STOR c ∷ r) = (quiet (DEP a b) _ _ (omega arith), (quiet (STOR c) _ r (omega arith), g)) in
        (quiet (LOAD c) p _ (omega arith), good_e e (suc p) (DEP a b ∷ STOR c ∷ r) z)
    good_s (deposit_at x k i a b e) p r m g =
        let q = suc (suc (end_e i p)) in
        let z : Good n (end_e e q) (DEP a b ∷ STX x k ∷ r) = (quiet (DEP a b) _ _ (omega arith), (quiet (STX x k) _ r (omega arith), g)) in
        good_e i p _ (quiet DUP _ _ (omega arith), (quiet (LDX x k) _ _ (omega arith), good_e e q (DEP a b ∷ STX x k ∷ r) z))
    good_s (when c b) p r m g =
        let q = end_c c p in
        good_c c p (end_b b q) _ m (omega (arith, m, grows_b b q)) (good_b b q r m g)
    good_s (either c b d) p r m g =
        let q = end_c c p in
        let x = suc (end_b b q) in
        let k = grows_b d x in
        let z : Good n (end_b b q) (BR (end_b d x) ∷ code_b d x r) = (br (end_b d x) _ _ m, good_b d x r m g) in
        good_c c p x _ (omega (arith, m, k)) (omega (arith, m, k, grows_b b q)) (good_b b q _ (omega (arith, m, k)) z)
    good_s (while c b) p r m g =
        let q = end_c c p in
        let k = grows_b b q in
        good_c c p (suc (end_b b q)) _ m (omega (arith, m, k)) (good_b b q _ (omega (arith, m, k)) (br p _ r (omega (arith, m, k, grows_c c p)), g))
    good_s (repeat b c) p r m g =
        let q = end_b b p in
        let k = grows_c c q in
        good_b b p _ (omega (arith, m, k)) (good_c c q p r (omega (arith, m, k, grows_b b p)) m g)
    good_s (for c e d l b) p r m g =
        let u = suc (end_e e p) in
        let q = end_e l (end_e d u) in
        let k = grows_b b (suc q) in
        let again = second (NEXT c q) (end_b b (suc q)) (DROP 2 ∷ r) (omega arith) (omega (arith, m, k)) in
        good_e e p _ (
          quiet (STOR c) _ _ (omega arith),
          good_e d u _
              (good_e l (end_e d u) _ (
                second (FOR c (suc (end_b b (suc q)))) _ _ (omega arith) (omega (arith, m)),
                good_b b (suc q) _ (omega (arith, m)) (again, (quiet (DROP 2) _ r (omega arith), g)),
              )),
        )
    good_s (case e a) p r m g =
        let t = suc (end_e e p) in
        let q = table_end a t in
        good_e e p _ (choice (size a) (end_e e p) _ (table_branches a q _), good_t a t q _ m (good_a a q (end_a a q) r m m g))

    good_b : (b : Body) (p : ℕ) (r : List Instr) → end_b b p < n → Good n (end_b b p) r → Good n p (code_b b p r)
    good_b end p r m g = g
    good_b (then s b) p r m g = good_s s p _ (omega (arith, m, grows_b b (end_s s p))) (good_b b (end_s s p) r m g)

    good_a : (a : Arms) (p x : ℕ) (r : List Instr) → x < n → end_a a p < n → Good n (end_a a p) r → Good n p (code_a a p x r)
    good_a (last b) p x r l m g = good_b b p (BR x ∷ r) (omega (arith, m)) (br x _ r l, g)
    good_a (arm b a) p x r l m g =
        let q = suc (end_b b p) in
        good_b b p _ (omega (arith, m, grows_a a q)) (br x _ _ l, good_a a q x r l m g)

-- the whole code

at : (n : ℕ) (front rest : List Instr) (i : Instr) (p q : ℕ) → p + length front ≡ q → Good n p (front ++ i ∷ rest) → Goes n q i rest
at n [] rest i p q e g = let k : p ≡ q = omega (arith, e) in subst (λ m. Goes n m i rest) k g.0
at n (x ∷ front) rest i p q e g = at n front rest i (suc p) q (omega (arith, e)) g.1

few : (k : ℕ) (r : List Instr) → Branches k r → k ≤ length r
few zero r b = omega arith
few (suc k) [] b = absurd b
few (suc k) (i ∷ r) b = omega (arith, few k r b.1)

nth_branch : (k : ℕ) (r : List Instr) → Branches k r → (j : ℕ) → j < k → (get_or r j HALT).number ≡ 29
nth_branch zero r b j l = absurd (omega (arith, l))
nth_branch (suc k) [] b j l = absurd b
nth_branch (suc k) (i ∷ r) b zero l = b.0
nth_branch (suc k) (i ∷ r) b (suc j) l = nth_branch k r b.1 j (omega (arith, l))

inside_of : (front rest : List Instr) (i : Instr) → Good (length (front ++ i ∷ rest)) 0 (front ++ i ∷ rest) → Inside (front ++ i ∷ rest) i
inside_of front rest i g =
    let a = at (length (front ++ i ∷ rest)) front rest i 0 (length front) (omega arith) g in
    record {
      br = a.br;
      bre = a.bre;
      for = a.for;
      next = a.next;
      case = λ e. omega (arith, a.case e, few i.b rest (a.branches e), length-append front (i ∷ rest));
      branches = λ e j l.
          let p : i.a + j ≡ length front + suc j = omega (arith, a.case e) in
          ap (λ k. (get_or (front ++ i ∷ rest) k HALT).number) p
          ∙ ap (λ (x : Instr). x.number) (get_or-append-add front (i ∷ rest) (suc j) HALT)
          ∙ nth_branch i.b rest (a.branches e) j l;
    }

-- the last instruction

ending : (xs : List Placed) → (front : List Instr) × ((back xs final).code ≡ front ++ HALT ∷ [])
ending [] = ([], refl)
ending (x ∷ xs) =
    let y = ending xs in
    let is = emits x.item x.index x.after x.start (back xs final).todo in
    (is ++ y.0, ap (λ l. is ++ l) y.1 ∙ sym (append_assoc is y.0 (HALT ∷ [])))

emitted_ends : (ns : List Item) → (front : List Instr) × (code_of_items ns ≡ front ++ HALT ∷ [])
unfolding code_of_items
emitted_ends ns = ending (placements ns 0 [])

halts : (b : Body) → (front : List Instr) × (program b ≡ front ++ HALT ∷ [])
halts b = let e = emitted_ends (items b) in (e.0, sym (stands.code b) ∙ e.1)

long : (n p : ℕ) (is : List Instr) → Good n p is → p + length is ≡ n
long n p [] g = omega (arith, g)
long n p (i ∷ is) g = omega (arith, long n (suc p) is g.1)

good_all : (b : Body) → Good (suc (end_b b 0)) 0 (program b)
unfolding program
good_all b = let n = suc (end_b b 0) in good_b n b 0 (HALT ∷ []) (omega arith) (quiet n HALT _ [] (omega arith), refl)

good : (b : Body) → Good (length (program b)) 0 (program b)
good b =
    let l = long (suc (end_b b 0)) 0 (program b) (good_all b) in
    let e : suc (end_b b 0) ≡ length (program b) = omega (arith, l) in
    subst (λ n. Good n 0 (program b)) e (good_all b)

encloses : (b : Body) → Encloses (program b)
encloses b =
    record {
      inside = λ front rest i e. subst (λ is. Inside is i) (sym e) (inside_of front rest i (subst (λ is. Good (length is) 0 is) e (good b)));
      halts = halts b;
    }

pub enclosed : JumpsStayInside
enclosed =
    record {
      trees = encloses;
      sources = λ source room c h. let t = tree_of source room c h in subst Encloses (sym t.1.instrs) (encloses (resolve t.0));
    }
