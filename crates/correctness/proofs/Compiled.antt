-- The code of each part of a source lands where the part's meaning says.
use Rattle.std.proofs.Common.{◌≡◌, ℕ, zero, suc, ◌+◌, ◌<◌, true, false, cond, List, ◌∷◌, length, Ok, refl, subst, arith}
use Rattle.arith.specs.Integers.{subscript, case_index}
use Rattle.base.specs.declared.instr.Instr.{Instr}
use Rattle.ir.specs.Trees.{Expr, lit, var, pick, bin, un, Clause, test, and, Cond, only, or, Stmt, assign, fill, deposit, deposit_at, when, either, while, repeat, for, case, Body, end, then, Arms, last, arm, size}
use Rattle.codegen.specs.Code.{end_e, end_l, end_c, table_end, end_s, end_b, end_a, code_e, code_l, code_c, table, code_s, code_b, code_a}
use Rattle.semantics.specs.Meaning.{eval, holds_l, holds, exec_s, exec, choice, WithinE, WithinL, WithinC, WithinS, Within, WithinA}
use Rattle.semantics.proofs.Indexes.{chosen_below, says_answers}
use Rattle.correctness.proofs.Moves.{at}
use Rattle.correctness.proofs.Runs.{Placed, next, Lands, ease, lands_bind, lands_bind₁, lands_bind⁺, lands_bind_if, lands_ret, lands_pre, lands_post, lands_ends, lands_loop, lands_until}
use Rattle.correctness.proofs.Acts.{lit_lands, load_lands, stor_lands, ldx_lands, chk_lands, stx_lands, place_lands, dup, drop_two, dep, jump, bre_lands, case_lands, for_lands, next_lands, bin_lands, un_lands, next_bin, next_un}

module _ (P : List Instr) (d n : ℕ) where
  -- what follows the code of a part is placed behind it
  rest_e : (e : Expr) (r : List Instr) {p h : ℕ} → Placed P d n p h (code_e e r) → Placed P d n (end_e e p) (suc h) r
  rest_e (lit w) r pl = next P d n pl
  rest_e (var c) r pl = next P d n pl
  rest_e (pick b m i) r pl = next P d n (rest_e i _ pl)
  rest_e (bin o x y) r pl = next_bin P d n o (rest_e y _ (rest_e x _ pl))
  rest_e (un o x) r pl = next_un P d n o (rest_e x _ pl)

  expr : (e : Expr) (k p : ℕ) (st : List ℕ) (r : List Instr) → WithinE n e → Placed P d n p (length st) (code_e e r) → Lands P d n 1 k (at p st) (eval e) (λ w. at (end_e e p) (w ∷ st))
  unfolding eval
  expr (lit w) k p st r h pl = lit_lands P d n w st pl
  expr (var c) k p st r h pl = load_lands P d n c st h pl
  expr (pick b m i) k p st r h pl = lands_bind₁ P d n (expr i k p st _ h.1 pl) (λ x. ldx_lands P d n b m x st h.0 (rest_e i _ pl))
  expr (bin o x y) k p st r h pl =
      lands_bind₁ P d n (expr x k p st _ h.0 pl)
      (λ v. lands_bind₁ P d n (expr y k _ (v ∷ st) _ h.1 (rest_e x _ pl)) (λ w. bin_lands P d n o v w st (rest_e y _ (rest_e x _ pl))))
  expr (un o x) k p st r h pl = lands_bind₁ P d n (expr x k p st _ h.1 pl) (λ v. un_lands P d n o v st h.0 (rest_e x _ pl))

  rest_l : (c : Clause) (f : ℕ) (r : List Instr) {p h : ℕ} → Placed P d n p h (code_l c f r) → Placed P d n (end_l c p) h r
  rest_l (test e) f r pl = next P d n (rest_e e _ pl)
  rest_l (and e c) f r pl = rest_l c f r (next P d n (rest_e e _ pl))

  clause : (c : Clause) (k p f : ℕ) (st : List ℕ) (r : List Instr) → WithinL n c → Placed P d n p (length st) (code_l c f r) → Lands P d n 1 k (at p st) (holds_l c) (λ y. at (cond y (end_l c p) f) st)
  unfolding holds_l
  clause (test e) k p f st r h pl = lands_bind₁ P d n (expr e k p st _ h pl) (λ w. bre_lands P d n f w st (rest_e e _ pl))
  clause (and e c) k p f st r h pl =
      lands_bind₁ P d n (expr e k p st _ h.0 pl)
      (λ w. lands_bind₁ P d n {g = λ y. at (cond y (suc (end_e e p)) f) st} (bre_lands P d n f w st (rest_e e _ pl))
      (elim [ true ↦ ease P d n (clause c k _ f st r h.1 (next P d n (rest_e e _ pl))) | false ↦ lands_ret P d n false ]))

  rest_c : (c : Cond) (p f : ℕ) (r : List Instr) {h : ℕ} → Placed P d n p h (code_c c p f r) → Placed P d n (end_c c p) h r
  rest_c (only c) p f r pl = rest_l c f r pl
  rest_c (or c e) p f r pl = rest_c e _ f r (next P d n (rest_l c _ _ pl))

  condition : (c : Cond) (k p f : ℕ) (st : List ℕ) (r : List Instr) → WithinC n c → Placed P d n p (length st) (code_c c p f r) → Lands P d n 1 k (at p st) (holds c) (λ y. at (cond y (end_c c p) f) st)
  unfolding holds
  condition (only c) k p f st r h pl = clause c k p f st r h pl
  condition (or c e) k p f st r h pl =
      lands_bind₁ P d n (clause c k p _ st _ h.0 pl)
      (elim [
        | true ↦ lands_pre P d n (jump P d n st (rest_l c _ _ pl)) (lands_ret P d n true)
        | false ↦ ease P d n (condition e k _ f st r h.1 (next P d n (rest_l c _ _ pl)))
      ])

  rest_t : (a : Arms) (q : ℕ) (r : List Instr) {p h : ℕ} → Placed P d n p h (table a q r) → Placed P d n (table_end a p) h r
  rest_t (last b) q r pl = next P d n pl
  rest_t (arm b a) q r pl = rest_t a _ r (next P d n pl)

  mutual
    rest_s : (s : Stmt) (p : ℕ) (r : List Instr) {h : ℕ} → Placed P d n p h (code_s s p r) → Placed P d n (end_s s p) h r
    rest_s (assign c e) p r pl = next P d n (rest_e e _ pl)
    rest_s (fill b m i e) p r pl = next P d n (rest_e e _ (next P d n (rest_e i _ pl)))
    rest_s (deposit c a m e) p r pl = next P d n (next P d n (rest_e e _ (next P d n pl)))
    rest_s (deposit_at b m i a w e) p r pl = next P d n (next P d n (rest_e e _ (next P d n (next P d n (rest_e i _ pl)))))
    rest_s (when c b) p r pl = rest_b b _ r (rest_c c p _ _ pl)
    rest_s (either c b e) p r pl = rest_b e _ r (next P d n (rest_b b _ _ (rest_c c p _ _ pl)))
    rest_s (while c b) p r pl = next P d n (rest_b b _ _ (rest_c c p _ _ pl))
    rest_s (repeat b c) p r pl = rest_c c _ _ r (rest_b b p _ pl)
    rest_s (for c e s l b) p r pl = next P d n (next P d n (rest_b b _ _ (next P d n (rest_e l _ (rest_e s _ (next P d n (rest_e e _ pl)))))))
    rest_s (case e a) p r pl = rest_a a _ _ r (rest_t a _ _ (next P d n (rest_e e _ pl)))

    pub rest_b : (b : Body) (p : ℕ) (r : List Instr) {h : ℕ} → Placed P d n p h (code_b b p r) → Placed P d n (end_b b p) h r
    rest_b end p r pl = pl
    rest_b (then s b) p r pl = rest_b b _ r (rest_s s p _ pl)

    rest_a : (a : Arms) (p x : ℕ) (r : List Instr) {h : ℕ} → Placed P d n p h (code_a a p x r) → Placed P d n (end_a a p) h r
    rest_a (last b) p x r pl = next P d n (rest_b b p _ pl)
    rest_a (arm b a) p x r pl = rest_a a _ x r (next P d n (rest_b b p _ pl))

  mutual
    unfolding exec

    stmt : (s : Stmt) (k p : ℕ) (st : List ℕ) (r : List Instr) → WithinS s n → Placed P d n p (length st) (code_s s p r) → Lands P d n 0 k (at p st) (exec_s s k) (λ _. at (end_s s p) st)
    stmt (assign c e) k p st r h pl = lands_bind P d n (expr e k p st _ h.1 pl) (λ w. stor_lands P d n c w st h.0 (rest_e e _ pl))
    stmt (fill b m i e) k p st r h pl =
        let pc = rest_e i _ pl in
        let pe = rest_e e _ (next P d n pc) in
        lands_bind P d n (expr i k p st _ h.1 pl)
        (λ x. lands_bind_if P d n {g = λ _. at (suc (end_e i p)) (x ∷ st)} (λ j. subscript x m ≡ Ok j) (chk_lands P d n m x st pc) (says_answers (subscript x m))
        (λ j q. lands_bind P d n (expr e k _ (x ∷ st) _ h.2 (next P d n pc)) (λ w. stx_lands P d n b m j x w st h.0 q pe)))
    stmt (deposit c a m e) k p st r h pl =
        let pe = rest_e e _ (next P d n pl) in
        lands_bind P d n (load_lands P d n c st h.0 pl)
        (λ v. lands_bind P d n (expr e k _ (v ∷ st) _ h.2 (next P d n pl))
        (λ w. lands_pre P d n (dep P d n a m v w st h.1 pe) (ease P d n (stor_lands P d n c _ st h.0 (next P d n pe)))))
    stmt (deposit_at b m i a z e) k p st r h pl =
        let pi = rest_e i _ pl in
        let pe = rest_e e _ (next P d n (next P d n pi)) in
        lands_bind P d n (expr i k p st _ h.2 pl)
        (λ x. lands_pre P d n (dup P d n x st pi)
        (lands_bind P d n (ldx_lands P d n b m x (x ∷ st) h.0 (next P d n pi))
        (λ v. lands_bind P d n (expr e k _ (v ∷ x ∷ st) _ h.3 (next P d n (next P d n pi)))
        (λ w. lands_pre P d n (dep P d n a z v w (x ∷ st) h.1 pe) (ease P d n (place_lands P d n b m x _ st h.0 (next P d n pe)))))))
    stmt (when c b) k p st r h pl =
        lands_bind P d n (condition c k p _ st _ h.0 pl)
        (elim [ true ↦ body b k _ st r h.1 (rest_c c p _ _ pl) | false ↦ lands_ret P d n tt ])
    stmt (either c b e) k p st r h pl =
        let pt = rest_b b _ _ (rest_c c p _ _ pl) in
        lands_bind P d n (condition c k p _ st _ h.0 pl)
        (elim [
          | true ↦ lands_ends P d n (body b k _ st _ h.1 (rest_c c p _ _ pl)) (λ _. jump P d n st pt)
          | false ↦ body e k _ st r h.2 (next P d n pt)
        ])
    stmt (while c b) k p st r h pl =
        lands_loop P d n k (condition c k p _ st _ h.0 pl)
        (lands_post P d n (body b k _ st _ h.1 (rest_c c p _ _ pl)) (λ _. jump P d n st (rest_b b _ _ (rest_c c p _ _ pl)))) (omega arith)
    stmt (repeat b c) k p st r h pl =
        lands_until P d n k (body b k p st _ h.0 pl) (condition c k _ p st r h.1 (rest_b b p _ pl)) refl (omega arith)
    stmt (for c e s l b) k p st r h pl =
        let pe = rest_e e _ pl in
        let ps = rest_e s _ (next P d n pe) in
        let pf = rest_e l _ ps in
        let pb = rest_b b _ _ (next P d n pf) in
        lands_bind P d n (expr e k p st _ h.1 pl)
        (λ v. lands_bind P d n {g = λ _. at (suc (end_e e p)) st} (stor_lands P d n c v st h.0 pe)
        (λ _. lands_bind P d n (expr s k _ st _ h.2 (next P d n pe))
        (λ u. lands_bind P d n (expr l k _ (u ∷ st) _ h.3 ps)
        (λ y. lands_ends P d n
        (lands_loop P d n k {g = λ t. at (cond t _ _) (y ∷ u ∷ st)} (for_lands P d n c _ y u st h.0 pf)
        (lands_bind⁺ P d n {i = 0} {j = 1} {k = k} {k' = k} {l = k} (body b k _ (y ∷ u ∷ st) _ h.4 (next P d n pf))
        (λ _. next_lands P d n c _ y u st h.0 pb) (omega arith) (omega arith))
        (omega arith))
        (λ _. drop_two P d n y u st (next P d n pb))))))
    stmt (case e a) k p st r h pl =
        let pc = rest_e e _ pl in
        lands_bind P d n (expr e k p st _ h.0 pl)
        (λ x. lands_bind_if P d n {g = λ i. at (suc (end_e e p) + i) st} (λ i. i < size a) (case_lands P d n _ (size a) x st pc) (λ σ ws i q. chosen_below x (size a) i (says_answers (case_index x (size a)) σ ws i q))
        (λ i l. branch a i k _ _ _ st _ _ l h.1 (next P d n pc) (rest_t a _ _ (next P d n pc))))

    pub body : (b : Body) (k p : ℕ) (st : List ℕ) (r : List Instr) → Within b n → Placed P d n p (length st) (code_b b p r) → Lands P d n 0 k (at p st) (exec b k) (λ _. at (end_b b p) st)
    body end k p st r h pl = lands_ret P d n tt
    body (then s b) k p st r h pl = lands_bind P d n (stmt s k p st _ h.0 pl) (λ _. body b k _ st r h.1 (rest_s s p _ pl))

    -- the i-th statement of a CASE: its entry in the table is at q + i, the statements from t on, and x is behind all
    branch : (a : Arms) (i k q t x : ℕ) (st : List ℕ) (r u : List Instr) → i < size a → WithinA a n → Placed P d n q (length st) (table a t r) → Placed P d n t (length st) (code_a a t x u) →
        Lands P d n 0 k (at (q + i) st) (choice a k i) (λ _. at x st)
    branch (last b) i k q t x st r u l h pt pb =
        let e : q ≡ q + i = omega arith in
        subst (λ (z : ℕ). Lands P d n 0 k (at z st) (exec b k) (λ _. at x st)) e
        (lands_pre P d n (jump P d n st pt) (lands_ends P d n (body b k t st _ h pb) (λ _. jump P d n st (rest_b b _ _ pb))))
    branch (arm b a) zero k q t x st r u l h pt pb =
        let e : q ≡ q + zero = omega arith in
        subst (λ (z : ℕ). Lands P d n 0 k (at z st) (exec b k) (λ _. at x st)) e
        (lands_pre P d n (jump P d n st pt) (lands_ends P d n (body b k t st _ h.0 pb) (λ _. jump P d n st (rest_b b _ _ pb))))
    branch (arm b a) (suc i) k q t x st r u l h pt pb =
        let e : suc q + i ≡ q + suc i = omega arith in
        subst (λ (z : ℕ). Lands P d n 0 k (at z st) (choice a k i) (λ _. at x st)) e
        (branch a i k _ _ x st r u (omega arith) h.1 (next P d n pt) (next P d n (rest_b b _ _ pb)))
