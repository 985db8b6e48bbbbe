-- Where names and sizes are in order, every cell that the typed tree names is one of the source's. Assumes nothing.
use Rattle.std.proofs.Common.{◌≡◌, None, subst}
use Rattle.ast.specs.Trees.{Expr, number, load, index, binary, negate, lnot, convert, field, shift, Clause, test, and, Cond, only, or, Step, absent, by, Stmt, assign, assign_at, deposit, deposit_at, when, either, choose, while, repeat, count, Body, end, then, Arms, last, arm, Program}
use Rattle.semantics.specs.Meaning.{WithinE, WithinL, WithinC, WithinS, Within, WithinA}
use Rattle.sema.specs.Faults.{least}
use Rattle.sema.specs.Tables.{Table}
use Rattle.sema.specs.Names.{program_table, program_names}
use Rattle.sema.specs.Sizes.{program_sizes}
use Rattle.sema.specs.Resolving.{resolve_e, resolve_l, resolve_c, resolve_p, resolve_s, resolve_b, resolve_a, resolve}
use Rattle.sema.specs.Rules.{NamesHoldE, NamesHoldL, NamesHoldC, NamesHoldP, NamesHoldS, NamesHoldB, NamesHoldA, RangesHoldE, RangesHoldL, RangesHoldC, RangesHoldP, RangesHoldS, RangesHoldB, RangesHoldA, NamesHold, RangesHold, KeepsTheRules, widths}
use Rattle.sema.proofs.Laying.{Good}
use Rattle.sema.proofs.NamedCells.{table_good, simple_cell, array_cells}
use Rattle.sema.proofs.NameRules.{named_there, laid_program}
use Rattle.sema.proofs.SizeRules.{ranged_there}

module _ (t : Table) (g : Good t) where
  within_e : (e : Expr) → NamesHoldE t e → RangesHoldE e → WithinE t.cells (resolve_e t e)
  within_e (number v k) d r = tt
  within_e (load n p) d r = simple_cell t g n d
  within_e (index n p q e) d r = ((array_cells t g n d.0).0, within_e e d.1 r)
  within_e (binary o p a b) d r = (within_e a d.0 r.0, within_e b d.1 r.1)
  within_e (negate p a) d r = (tt, within_e a d r)
  within_e (lnot p a) d r = (tt, within_e a d r)
  within_e (convert k a) d r = within_e a d r
  within_e (field a b p e) d r = (r.0, within_e e d r.1)
  within_e (shift s c p e) d r = (r.0, within_e e d r.1)

  within_l : (c : Clause) → NamesHoldL t c → RangesHoldL c → WithinL t.cells (resolve_l t c)
  within_l (test p e) d r = within_e e d r
  within_l (and p e c) d r = (within_e e d.0 r.0, within_l c d.1 r.1)

  within_c : (c : Cond) → NamesHoldC t c → RangesHoldC c → WithinC t.cells (resolve_c t c)
  within_c (only c) d r = within_l c d r
  within_c (or c e) d r = (within_l c d.0 r.0, within_c e d.1 r.1)

  within_p : (s : Step) → NamesHoldP t s → RangesHoldP s → WithinE t.cells (resolve_p t s)
  within_p absent d r = tt
  within_p (by e) d r = within_e e d r

  mutual
    within_s : (s : Stmt) → NamesHoldS t s → RangesHoldS s → WithinS (resolve_s t s) t.cells
    within_s (assign n p q e) d r = (simple_cell t g n d.0, within_e e d.1 r)
    within_s (assign_at n p o i q e) d r = ((array_cells t g n d.0).0, within_e i d.1 r.0, within_e e d.2 r.1)
    within_s (deposit n p a b f q e) d r = (simple_cell t g n d.0, r.0, within_e e d.1 r.1)
    within_s (deposit_at n p o i a b f q e) d r = ((array_cells t g n d.0).0, r.0, within_e i d.1 r.1, within_e e d.2 r.2)
    within_s (when c b) d r = (within_c c d.0 r.0, within_b b d.1 r.1)
    within_s (either c b x) d r = (within_c c d.0 r.0, within_b b d.1 r.1, within_b x d.2 r.2)
    within_s (choose p e a) d r = (within_e e d.0 r.0, within_a a d.1 r.1)
    within_s (while c b) d r = (within_c c d.0 r.0, within_b b d.1 r.1)
    within_s (repeat b c) d r = (within_b b d.0 r.0, within_c c d.1 r.1)
    within_s (count n p f e s l b) d r =
        (simple_cell t g n d.0, within_e e d.1 r.0, within_p s d.2 r.1, within_e l d.3 r.2, within_b b d.4 r.3)

    within_b : (b : Body) → NamesHoldB t b → RangesHoldB b → Within (resolve_b t b) t.cells
    within_b end d r = tt
    within_b (then s b) d r = (within_s s d.0 r.0, within_b b d.1 r.1)

    within_a : (a : Arms) → NamesHoldA t a → RangesHoldA a → WithinA (resolve_a t a) t.cells
    within_a (last b) d r = within_b b d r
    within_a (arm b a) d r = (within_b b d.0 r.0, within_a a d.1 r.1)

within_program : (p : Program) → NamesHold p → RangesHold p → Within (resolve p) (program_table p).cells
unfolding resolve
within_program p n s = within_b (program_table p) (table_good p) p.body n.body s.body

-- a source that keeps the rules
pub ruled_within : (p : Program) → KeepsTheRules p → Within (resolve p) (widths p.decls)
ruled_within p r = subst (λ t. Within (resolve p) t.cells) (laid_program p r.names) (within_program p r.names r.sizes)
