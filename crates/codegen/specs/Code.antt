-- The code of each form. In each definition p is the index of the first instruction of the form, and r is the code
-- that follows it.
use Rattle.std.specs.Prelude.{List, [], ◌∷◌, ℕ, suc}
use Rattle.base.specs.declared.instr.Instr.{Instr}
use Rattle.ir.specs.Instrs.{HALT, LIT, LOAD, STOR, LDX, STX, CHK, DUP, DROP, DEP, BR, BRE, CASE, FOR, NEXT, peak}
use Rattle.ir.specs.Lists.{op_instr, uop_instr}
use Rattle.ir.specs.Trees.{Expr, lit, var, pick, bin, un, Clause, test, and, Cond, only, or, Stmt, assign, fill, deposit, deposit_at, when, either, while, repeat, for, case, Body, end, then, Arms, last, arm, size}

-- Where the code of an expression ends, if it begins at p.
abbrev pub end_e : Expr → ℕ → ℕ
end_e (lit w) p = suc p
end_e (var c) p = suc p
end_e (pick b n i) p = suc (end_e i p)
end_e (bin o x y) p = suc (end_e y (end_e x p))
end_e (un o x) p = suc (end_e x p)

-- Where the code of a clause of a condition ends, if it begins at p.
abbrev pub end_l : Clause → ℕ → ℕ
end_l (test e) p = suc (end_e e p)
end_l (and e c) p = end_l c (suc (end_e e p))

-- Where the code of a condition ends, if it begins at p.
abbrev pub end_c : Cond → ℕ → ℕ
end_c (only c) p = end_l c p
end_c (or c d) p = end_c d (suc (end_l c p))

-- Where the table of branches of a CASE ends, if it begins at p.
abbrev pub table_end : Arms → ℕ → ℕ
table_end (last b) p = suc p
table_end (arm b a) p = table_end a (suc p)

abbrev mutual
  -- Where the code of a statement ends, if it begins at p.
  pub end_s : Stmt → ℕ → ℕ
  end_s (assign c e) p = suc (end_e e p)
  end_s (fill b n i e) p = suc (end_e e (suc (end_e i p)))
  end_s (deposit c a b e) p = suc (suc (end_e e (suc p)))
  end_s (deposit_at x n i a b e) p = suc (suc (end_e e (suc (suc (end_e i p)))))
  end_s (when c b) p = end_b b (end_c c p)
  end_s (either c b d) p = end_b d (suc (end_b b (end_c c p)))
  end_s (while c b) p = suc (end_b b (end_c c p))
  end_s (repeat b c) p = end_c c (end_b b p)
  end_s (for c e d l b) p = suc (suc (end_b b (suc (end_e l (end_e d (suc (end_e e p)))))))
  end_s (case e a) p = end_a a (table_end a (suc (end_e e p)))

  -- Where the code of a list of statements ends, if it begins at p.
  pub end_b : Body → ℕ → ℕ
  end_b end p = p
  end_b (then s b) p = end_b b (end_s s p)

  -- Where the code of the statements of a CASE ends, if it begins at p. Each statement is followed by a branch.
  pub end_a : Arms → ℕ → ℕ
  end_a (last b) p = suc (end_b b p)
  end_a (arm b a) p = end_a a (suc (end_b b p))

-- The code of an expression.
abbrev pub code_e : Expr → List Instr → List Instr
code_e (lit w) r = LIT w ∷ r
code_e (var c) r = LOAD c ∷ r
code_e (pick b n i) r = code_e i (LDX b n ∷ r)
code_e (bin o x y) r = code_e x (code_e y (op_instr o ∷ r))
code_e (un o x) r = code_e x (uop_instr o ∷ r)

-- The code of a clause; f is where to go if the clause is false.
abbrev pub code_l : Clause → (f : ℕ) → List Instr → List Instr
code_l (test e) f r = code_e e (BRE f ∷ r)
code_l (and e c) f r = code_e e (BRE f ∷ code_l c f r)

-- The code of a condition; f is where to go if it is false. A false clause goes on to the next one, and a true clause
-- goes past the last one.
abbrev pub code_c : Cond → (p f : ℕ) → List Instr → List Instr
code_c (only c) p f r = code_l c f r
code_c (or c d) p f r = code_l c (suc (end_l c p)) (BR (end_c d (suc (end_l c p))) ∷ code_c d (suc (end_l c p)) f r)

-- The branches to the statements of a CASE, of which the first begins at q.
abbrev pub table : Arms → (q : ℕ) → List Instr → List Instr
table (last b) q r = BR q ∷ r
table (arm b a) q r = BR q ∷ table a (suc (end_b b q)) r

abbrev mutual
  -- The code of a statement.
  pub code_s : Stmt → (p : ℕ) → List Instr → List Instr
  code_s (assign c e) p r = code_e e (STOR c ∷ r)
  code_s (fill b n i e) p r = code_e i (CHK n ∷ code_e e (STX b n ∷ r))
  code_s (deposit c a b e) p r = LOAD c ∷ code_e e (DEP a b ∷ STOR c ∷ r)
  code_s (deposit_at x n i a b e) p r = code_e i (DUP ∷ LDX x n ∷ code_e e (DEP a b ∷ STX x n ∷ r))
  code_s (when c b) p r = code_c c p (end_b b (end_c c p)) (code_b b (end_c c p) r)
  code_s (either c b d) p r =
      code_c c p (suc (end_b b (end_c c p))) (code_b b (end_c c p) (BR (end_b d (suc (end_b b (end_c c p)))) ∷ code_b d (suc (end_b b (end_c c p))) r))
  code_s (while c b) p r = code_c c p (suc (end_b b (end_c c p))) (code_b b (end_c c p) (BR p ∷ r))
  code_s (repeat b c) p r = code_b b p (code_c c (end_b b p) p r)
  code_s (for c e d l b) p r =
      let q = end_e l (end_e d (suc (end_e e p))) in
      code_e e (STOR c ∷ code_e d (code_e l (FOR c (suc (end_b b (suc q))) ∷ code_b b (suc q) (NEXT c q ∷ DROP 2 ∷ r))))
  code_s (case e a) p r =
      let t = suc (end_e e p) in
      let q = table_end a t in
      code_e e (CASE t (size a) ∷ table a q (code_a a q (end_a a q) r))

  -- The code of a list of statements.
  pub code_b : Body → (p : ℕ) → List Instr → List Instr
  code_b end p r = r
  code_b (then s b) p r = code_s s p (code_b b (end_s s p) r)

  -- The code of the statements of a CASE, each followed by a branch to x.
  pub code_a : Arms → (p x : ℕ) → List Instr → List Instr
  code_a (last b) p x r = code_b b p (BR x ∷ r)
  code_a (arm b a) p x r = code_b b p (BR x ∷ code_a a (suc (end_b b p)) x r)

-- The code of a source.
unfoldable pub program : Body → List Instr
program b = code_b b 0 (HALT ∷ [])

-- The depth of a source: the largest number of words that are stacked in its code.
unfoldable pub depth : Body → ℕ
depth b = peak 0 (program b)
