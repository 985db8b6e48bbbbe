-- The cells that code names are the source's. Assumes nothing.
use Rattle.std.proofs.Common.{◌≡◌, ℕ, ◌+◌, ◌<◌, ◌≤◌, List, [], ◌∷◌, ◌++◌, subst, arith}
use Rattle.base.specs.declared.instr.Instr.{Instr}
use Rattle.ir.specs.Instrs.{HALT, LIT, LOAD, STOR, LDX, STX, CHK, DUP, DROP, DEP, BR, BRE, CASE, FOR, NEXT}
use Rattle.ir.specs.Trees.{Op, add, sub, mul, div, rem, ladd, lsub, lmul, ldiv, lrem, cmp, lcmp, land, lor, lxor, Uop, neg, not, fld, shf, Expr, lit, var, pick, bin, un, Clause, test, and, Cond, only, or, Stmt, assign, fill, deposit, deposit_at, when, either, while, repeat, for, case, Body, end, then, Arms, last, arm}
use Rattle.ir.specs.Lists.{op_instr, uop_instr}
use Rattle.codegen.specs.Code.{table, code_e, code_l, code_c, code_s, code_b, code_a, program}
use Rattle.semantics.specs.Meaning.{WithinE, WithinL, WithinC, WithinS, Within, WithinA}
use Rattle.correctness.specs.Named.{Names}

module _ (n : ℕ) where
  op_quiet : (o : Op) → Names n (op_instr o)
  op_quiet add = omega arith
  op_quiet sub = omega arith
  op_quiet mul = omega arith
  op_quiet div = omega arith
  op_quiet rem = omega arith
  op_quiet ladd = omega arith
  op_quiet lsub = omega arith
  op_quiet lmul = omega arith
  op_quiet ldiv = omega arith
  op_quiet lrem = omega arith
  op_quiet (cmp r) = omega arith
  op_quiet (lcmp r) = omega arith
  op_quiet land = omega arith
  op_quiet lor = omega arith
  op_quiet lxor = omega arith

  uop_quiet : (o : Uop) → Names n (uop_instr o)
  uop_quiet neg = omega arith
  uop_quiet not = omega arith
  uop_quiet (fld a b) = omega arith
  uop_quiet (shf k c) = omega arith

  load : (c : ℕ) → c < n → Names n (LOAD c)
  load c l = omega (arith, l)

  stor : (c : ℕ) → c < n → Names n (STOR c)
  stor c l = omega (arith, l)

  -- each of them
  abbrev All : List Instr → Type 0
  All [] = Unit {0}
  All (i ∷ is) = Names n i × All is

  all_e : (e : Expr) (r : List Instr) → WithinE n e → All r → All (code_e e r)
  all_e (lit w) r h g = (omega arith, g)
  all_e (var c) r h g = (load c h, g)
  all_e (pick b m i) r h g = all_e i _ h.1 (omega (arith, h.0), g)
  all_e (bin o x y) r h g = all_e x _ h.0 (all_e y _ h.1 (op_quiet o, g))
  all_e (un o x) r h g = all_e x _ h.1 (uop_quiet o, g)

  all_l : (c : Clause) (f : ℕ) (r : List Instr) → WithinL n c → All r → All (code_l c f r)
  all_l (test e) f r h g = all_e e _ h (omega arith, g)
  all_l (and e c) f r h g = all_e e _ h.0 (omega arith, all_l c f r h.1 g)

  all_c : (c : Cond) (p f : ℕ) (r : List Instr) → WithinC n c → All r → All (code_c c p f r)
  all_c (only c) p f r h g = all_l c f r h g
  all_c (or c d) p f r h g = all_l c _ _ h.0 (omega arith, all_c d _ f r h.1 g)

  all_t : (a : Arms) (p : ℕ) (r : List Instr) → All r → All (table a p r)
  all_t (last b) p r g = (omega arith, g)
  all_t (arm b a) p r g = (omega arith, all_t a _ r g)

  mutual
    all_s : (s : Stmt) (p : ℕ) (r : List Instr) → WithinS s n → All r → All (code_s s p r)
    all_s (assign c e) p r h g = all_e e _ h.1 (stor c h.0, g)
    all_s (fill b m i e) p r h g =
        all_e i _ h.1 (omega arith, all_e e _ h.2 (omega (arith, h.0), g))
    all_s (deposit c a b e) p r h g = (load c h.0, all_e e _ h.2 (omega arith, (stor c h.0, g)))
    all_s (deposit_at x m i a b e) p r h g =
        let z : All (DEP a b ∷ STX x m ∷ r) = (omega arith, (omega (arith, h.0), g)) in
        all_e i _ h.2 (omega arith, (omega (arith, h.0), all_e e _ h.3 z))
    all_s (when c b) p r h g = all_c c p _ _ h.0 (all_b b _ r h.1 g)
    all_s (either c b d) p r h g = all_c c p _ _ h.0 (all_b b _ _ h.1 (omega arith, all_b d _ r h.2 g))
    all_s (while c b) p r h g = all_c c p _ _ h.0 (all_b b _ _ h.1 (omega arith, g))
    all_s (repeat b c) p r h g = all_b b p _ h.0 (all_c c _ p r h.1 g)
    all_s (for c e d l b) p r h g =
        all_e e _ h.1 (
          stor c h.0,
          all_e d _ h.2
              (all_e l _ h.3 (
                omega (arith, h.0),
                all_b b _ _ h.4 (omega (arith, h.0), (omega arith, g)),
              )),
        )
    all_s (case e a) p r h g = all_e e _ h.0 (omega arith, all_t a _ _ (all_a a _ _ r h.1 g))

    all_b : (b : Body) (p : ℕ) (r : List Instr) → Within b n → All r → All (code_b b p r)
    all_b end p r h g = g
    all_b (then s b) p r h g = all_s s p _ h.0 (all_b b _ r h.1 g)

    all_a : (a : Arms) (p x : ℕ) (r : List Instr) → WithinA a n → All r → All (code_a a p x r)
    all_a (last b) p x r h g = all_b b p _ h (omega arith, g)
    all_a (arm b a) p x r h g = all_b b p _ h.0 (omega arith, all_a a _ x r h.1 g)

  all_program : (b : Body) → Within b n → All (program b)
  unfolding program
  all_program b h = all_b b 0 (HALT ∷ []) h (omega arith, tt)

  at : (front rest : List Instr) (i : Instr) → All (front ++ i ∷ rest) → Names n i
  at [] rest i g = g.0
  at (x ∷ front) rest i g = at front rest i g.1

pub celled : (b : Body) (n : ℕ) → Within b n → (front rest : List Instr) (i : Instr) → program b ≡ front ++ i ∷ rest → Names n i
celled b n h front rest i e = at n front rest i (subst (All n) e (all_program n b h))
