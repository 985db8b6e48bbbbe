-- What is emitted of the items of a tree is its code.
use Rattle.std.proofs.Common.{◌≡◌, ℕ, suc, List, [], ◌∷◌, ◌++◌, refl, ap, ◌∙◌}
use Rattle.base.specs.declared.instr.Instr.{Instr}
use Rattle.ir.specs.declared.item.Item.{Item}
use Rattle.ir.specs.declared.item.Item.TheVariants as item
use Rattle.ir.specs.Instrs.{BR, BRE, CASE, DROP, CHK, DUP, LDX, LOAD}
use Rattle.ir.specs.Trees.{Expr, lit, var, pick, bin, un, Clause, test, and, Cond, only, or, Stmt, assign, fill, deposit, deposit_at, when, either, while, repeat, for, case, Body, end, then, Arms, last, arm, size}
use Rattle.ir.specs.Lists.{items_e, items_l, items_c, items_s, items_b, items_a, items}
use Rattle.codegen.specs.Code.{end_e, end_l, end_c, end_s, end_b, end_a, table_end, table as branches, code_e, code_l, code_c, code_s, code_b, code_a, program}
use Rattle.codegen.specs.declared.placed.Aim.{Aim}
use Rattle.base.specs.Stacks.{below}
use Rattle.codegen.specs.Items.{Back, go, aims, top, along, table, without, code_of_items}

-- f in front of the code
abbrev puts : (List Instr → List Instr) → Back → Back
puts f z = record { code = f z.code; todo = z.todo }

expr : (e : Expr) (ns : List Item) (p : ℕ) (ss : List ℕ) → go (items_e e ns) p ss ≡ puts (code_e e) (go ns (end_e e p) ss)
expr (lit w) ns p ss = refl
expr (var c) ns p ss = refl
expr (pick b n i) ns p ss = expr i _ p ss
expr (bin o x y) ns p ss = expr x _ p ss ∙ ap (puts (code_e x)) (expr y _ (end_e x p) ss)
expr (un o x) ns p ss = expr x _ p ss

-- each test goes to the index `no` of the top
clause : (l : Clause) (ns : List Item) (p : ℕ) (ss : List ℕ) → go (items_l l ns) p ss ≡ puts (code_l l (top (go ns (end_l l p) ss).todo).no) (go ns (end_l l p) ss)
clause (test e) ns p ss = expr e _ p ss
clause (and e l) ns p ss = expr e _ p ss ∙ ap (λ z. puts (code_e e) (record { code = BRE (top z.todo).no ∷ z.code; todo = z.todo })) (clause l ns (suc (end_e e p)) ss)

-- what is open before a condition
abbrev before : Cond → ℕ → List Aim → List Aim
before (only l) p ts = ts
before (or l c) p ts = aims (top ts).yes (suc (end_l l p)) ∷ below ts

beneath : (c : Cond) (p : ℕ) (ts : List Aim) → below (before c p ts) ≡ below ts
beneath (only l) p ts = refl
beneath (or l c) p ts = refl

stays : (c : Cond) (p : ℕ) (ts : List Aim) → (top (before c p ts)).yes ≡ (top ts).yes
stays (only l) p ts = refl
stays (or l c) p ts = refl

condition : (c : Cond) (ns : List Item) (p : ℕ) (ss : List ℕ) → (top (go ns (end_c c p) ss).todo).yes ≡ end_c c p → go (items_c c ns) p ss ≡ record { code = code_c c p (top (go ns (end_c c p) ss).todo).no (go ns (end_c c p) ss).code; todo = before c p (go ns (end_c c p) ss).todo }
condition (only l) ns p ss h = clause l ns p ss
condition (or l c) ns p ss h =
    let q = suc (end_l l p) in
    clause l _ p ss
    ∙ ap (λ (w : Back). record { code = code_l l q (BR (top w.todo).yes ∷ w.code); todo = aims (top w.todo).yes q ∷ below w.todo }) (condition c ns q ss h)
    ∙ rw (stays, beneath, h)

-- what is open before the arms of a CASE: an entry for each, all with the end
abbrev armed : Arms → ℕ → List Aim → List Aim
armed (last b) p ts = aims (top ts).yes p ∷ ts
armed (arm b a) p ts = aims (top ts).yes p ∷ armed a (suc (end_b b p)) ts

exit : (a : Arms) (p : ℕ) (ts : List Aim) → (top (armed a p ts)).yes ≡ (top ts).yes
exit (last b) p ts = refl
exit (arm b a) p ts = refl

branched : (a : Arms) (p : ℕ) (ts : List Aim) (r : List Instr) → table (size a) (armed a p ts) ++ r ≡ branches a p r
branched (last b) p ts r = refl
branched (arm b a) p ts r = ap (λ is. BR p ∷ is) (branched a (suc (end_b b p)) ts r)

disarmed : (a : Arms) (p : ℕ) (ts : List Aim) → without (size a) (armed a p ts) ≡ ts
disarmed (last b) p ts = refl
disarmed (arm b a) p ts = disarmed a (suc (end_b b p)) ts

passed : (a : Arms) (p : ℕ) → along (size a) p ≡ table_end a p
passed (last b) p = refl
passed (arm b a) p = passed a (suc p)

mutual
  stmt : (s : Stmt) (ns : List Item) (p : ℕ) (ss : List ℕ) → go (items_s s ns) p ss ≡ puts (code_s s p) (go ns (end_s s p) ss)
  stmt (assign c e) ns p ss = expr e _ p ss
  stmt (fill b n i e) ns p ss = expr i _ p ss ∙ ap (puts (λ r. code_e i (CHK n ∷ r))) (expr e _ (suc (end_e i p)) ss)
  stmt (deposit c a b e) ns p ss = ap (puts (λ r. LOAD c ∷ r)) (expr e _ (suc p) ss)
  stmt (deposit_at x n i a b e) ns p ss = expr i _ p ss ∙ ap (puts (λ r. code_e i (DUP ∷ LDX x n ∷ r))) (expr e _ (suc (suc (end_e i p))) ss)
  stmt (when c b) ns p ss =
      let q = end_c c p in
      ap (λ (w : Back). record { code = w.code; todo = below w.todo }) (condition c _ p ss refl)
      ∙ rw (beneath, body b (item.Fi ∷ ns) q ss)
  stmt (either c b d) ns p ss =
      let q = end_c c p in
      ap (λ (w : Back). record { code = w.code; todo = below w.todo }) (condition c _ p ss refl)
      ∙ rw (beneath, body b (item.Else ∷ items_b d (item.Fi ∷ ns)) q ss, body d (item.Fi ∷ ns) (suc (end_b b q)) ss)
  stmt (while c b) ns p ss =
      let q = end_c c p in
      ap (λ (w : Back). record { code = w.code; todo = below w.todo }) (condition c _ p (p ∷ ss) refl)
      ∙ rw (beneath, body b (item.Loop ∷ ns) q (p ∷ ss))
  stmt (repeat b c) ns p ss =
      body b _ p (p ∷ ss)
      ∙ rw (condition c (item.Done ∷ ns) (end_b b p) (p ∷ ss) refl, beneath)
  stmt (for c e d l b) ns p ss =
      let q = end_e l (end_e d (suc (end_e e p))) in
      let after : List Item = item.Next c ∷ item.Plain (DROP 2) ∷ ns in
      expr e _ p ss
      ∙ rw (
        expr d (items_e l (item.For c ∷ items_b b after)) (suc (end_e e p)) ss,
        expr l (item.For c ∷ items_b b after) (end_e d (suc (end_e e p))) ss,
        body b after (suc q) (q ∷ ss),
      )
  stmt (case e a) ns p ss =
      let t = suc (end_e e p) in
      let q = table_end a t in
      let z = go (item.Esac ∷ ns) (end_a a q) ss in
      expr e _ p ss
      ∙ rw (passed, arms a (item.Esac ∷ ns) q ss, disarmed) (ap (λ is. puts (code_e e) (record { code = CASE t (size a) ∷ is; todo = below z.todo })) (branched a q z.todo (code_a a q (top z.todo).yes z.code)))

  body : (b : Body) (ns : List Item) (p : ℕ) (ss : List ℕ) → go (items_b b ns) p ss ≡ puts (code_b b p) (go ns (end_b b p) ss)
  body end ns p ss = refl
  body (then s b) ns p ss = stmt s _ p ss ∙ ap (puts (code_s s p)) (body b ns (end_s s p) ss)

  arms : (a : Arms) (ns : List Item) (p : ℕ) (ss : List ℕ) → go (items_a a ns) p ss ≡ record { code = code_a a p (top (go ns (end_a a p) ss).todo).yes (go ns (end_a a p) ss).code; todo = armed a p (go ns (end_a a p) ss).todo }
  arms (last b) ns p ss = rw (body b (item.Out ∷ ns) p ss)
  arms (arm b a) ns p ss = rw (body b (item.Out ∷ items_a a ns) p ss, arms a ns (suc (end_b b p)) ss, exit)

pub emission : (b : Body) → code_of_items (items b) ≡ program b
unfolding code_of_items program items
emission b = ap (λ (z : Back). z.code) (body b [] 0 [])
