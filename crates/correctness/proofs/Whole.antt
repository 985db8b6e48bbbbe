-- The theorem, from what the code does and what is seen of the machine.
use Rattle.std.proofs.Common.{◌≡◌, ℕ, zero, suc, ◌+◌, ◌-◌, ◌<◌, ◌≤◌, ◌⊎◌, List, [], ◌∷◌, ◌++◌, length, get_or, take, Some, None, Ok, Err, Option, Result, sym, refl, ap, ◌∙◌, subst, inl, inr, ⊎_elim, append-nil, arith, length-append}
use Rattle.std.proofs.lemmas.List.{take_at, take_all}
use Rattle.std.proofs.lemmas.Bool.{cases_lt, lt-ltb, ltb-true}
use Rattle.arith.specs.declared.stop.Stop.{Stop}
use Rattle.arith.specs.declared.stop.Stop.TheVariants.{Overflow, ZeroDivisor, BadIndex, BadCase}
use Rattle.base.specs.declared.instr.Instr.{Instr}
use Rattle.ir.specs.Trees.{Body}
use Rattle.ir.specs.Instrs.{HALT, peak}
use Rattle.base.specs.Heights.{height}
use Rattle.codegen.specs.Code.{code_b, end_b, program, depth}
use Rattle.machine.specs.declared.ending.Ending.{Ending}
use Rattle.machine.specs.declared.ending.Ending.TheVariants.{Halted}
use Rattle.machine.specs.Endings.{number_of}
use Rattle.machine.specs.Machine.{run}
use Rattle.machine.proofs.Runs.{lawful}
use Rattle.semantics.specs.Effects.{Store, Write, leave, Effect, effect, cut, writes_of}
use Rattle.semantics.specs.Meaning.{exec, Within}
use Rattle.semantics.proofs.Bounds.{bounded}
use Rattle.correctness.specs.Agreement.{end_of, start, after, Agrees, Keeps}
use Rattle.correctness.proofs.Moves.{Pos, at, halt, blank, move}
use Rattle.correctness.proofs.Runs.{Run, Got, arrives, stops, cuts, Placed, nothing, place}
use Rattle.correctness.proofs.Acts.{ends_at}
use Rattle.correctness.proofs.Compiled.{rest_b, body}
use Rattle.correctness.proofs.Counted.{Count, going, over, count}
use Rattle.correctness.proofs.Watched.{Seen, seen, written, ended, more_seen, GoesOn, watch, watch_run, watch_halt, watch_more, Shows, shows}

peak_from : (h : ℕ) (is : List Instr) → h ≤ peak h is
unfolding peak
peak_from h [] = omega arith
peak_from h (i ∷ is) = omega arith

placed : (P : List Instr) (d n : ℕ) (is : List Instr) (p h : ℕ) → ((j : ℕ) → j < length is → (p + j < length P) × (get_or P (p + j) blank ≡ get_or is j blank)) → peak h is ≤ d → Placed P d n p h is
unfolding peak
placed P d n [] p h f l = nothing
placed P d n (i ∷ is) p h f l =
    let more : peak (height i h) is ≤ d = omega arith in
    let first = f 0 (omega arith) in
    let here : p ≡ p + 0 = omega arith in
    place (lt-ltb p (length P) (omega (arith, first.0))) (ap (λ (k : ℕ). get_or P k blank) here ∙ first.1) (omega (arith, peak_from (height i h) is))
    (placed P d n is (suc p) (height i h)
    (λ j r. let q = f (suc j) (omega arith) in let there : suc p + j ≡ p + suc j = omega arith in (omega (arith, q.0), ap (λ (k : ℕ). get_or P k blank) there ∙ q.1)) more)

the_code : (b : Body) (n : ℕ) → Placed (program b) (depth b) n 0 0 (code_b b 0 (HALT ∷ []))
unfolding program depth
the_code b n =
    placed (program b) (depth b) n (code_b b 0 (HALT ∷ [])) 0 0 (λ j l. let e : 0 + j ≡ j = omega arith in (omega arith, ap (λ (i : ℕ). get_or (program b) i blank) e)) (omega arith)

-- there is code at all
pub some_code : (b : Body) → 1 ≤ length (program b)
some_code b = of (rest_b (program b) (depth b) 0 b 0 (HALT ∷ []) (the_code b 0))
  where
    of : {p h : ℕ} → Placed (program b) (depth b) 0 p h (HALT ∷ []) → 1 ≤ length (program b)
    of {p = p} (place l e t r) = omega (arith, ltb-true p (length (program b)) l)

-- what the machine does to the end, or for k steps at least
data Full (P : List Instr) (d n k : ℕ) (σ : Store) (y : Effect (Unit {0})) : Type 0 where
  whole : {m : ℕ} {c : Pos} {e : Ending} → Run P d n m (at 0 []) σ (writes_of y) c → end_of y ≡ Some e → move P d c (leave (writes_of y) σ) ≡ halt e → Full P d n k σ y
  part : {m : ℕ} {c : Pos} → Run P d n m (at 0 []) σ (writes_of y) c → end_of y ≡ None → k ≤ m → Full P d n k σ y

full_of : (P : List Instr) (d n k : ℕ) (σ : Store) (p : ℕ) {y : Effect (Unit {0})} → Got P d n 0 k (at 0 []) σ (λ _. at p []) y → ((τ : Store) → move P d (at p []) τ ≡ halt Halted) → Full P d n k σ y
full_of P d n k σ p (arrives {ws = ws} r h) f = whole r refl (f (leave ws σ))
full_of P d n k σ p (stops r e) f = whole r refl e
full_of P d n k σ p (cuts r h) f = part r refl h

-- every ending of a source has a number up to 4
abbrev Small : Option Ending → Type 0
Small None = Unit {0}
Small (Some e) = number_of e ≤ 4

small : (y : Effect (Unit {0})) → Small (end_of y)
small (effect ws (Ok a)) = omega arith
small (effect ws (Err Overflow)) = omega arith
small (effect ws (Err ZeroDivisor)) = omega arith
small (effect ws (Err BadIndex)) = omega arith
small (effect ws (Err BadCase)) = omega arith
small (cut ws) = tt

settles : (y y' : Effect (Unit {0})) → ((ws : List Write) (o : Result (Unit {0}) Stop) → y ≡ effect ws o → y' ≡ effect ws o) → (e : Ending) → end_of y ≡ Some e → y' ≡ y
settles (effect ws o) y' f e q = f ws o refl
settles (cut ws) y' f e q = absurd (let w : ◌≡◌ {A = ℕ} 0 1 = cc in omega arith)

module _ (b : Body) (st : List ℕ) (σ : Store) (within : Within b (length σ)) (lent : depth b ≤ length st) where
  full : (k : ℕ) → Full (program b) (depth b) (length σ) k σ (exec b k σ)
  full k =
      let pl = the_code b (length σ) in
      full_of (program b) (depth b) (length σ) k σ (end_b b 0) (body (program b) (depth b) (length σ) b k 0 [] (HALT ∷ []) within pl σ refl)
      (λ τ. ends_at (program b) (depth b) (length σ) [] (rest_b (program b) (depth b) (length σ) b 0 (HALT ∷ []) pl) τ)

  see : ℕ → Seen
  see m = watch (program b) (depth b) (length σ) m (at 0 []) σ

  src : ℕ → Effect (Unit {0})
  src k = exec b k σ

  -- after so many steps the machine has made the source's writes, and ended as it does, or k steps were made
  abbrev Met : ℕ → Effect (Unit {0}) → Type 0
  Met k y = (m : ℕ) × (see m ≡ seen (writes_of y) (end_of y)) × (end_of y ≡ None → k ≤ m)

  met_of : (k : ℕ) (y : Effect (Unit {0})) → Full (program b) (depth b) (length σ) k σ y → Met k y
  unfolding see watch
  met_of k y (whole {m = m} {c = c} {e = e} r q h) =
      (m + 1, watch_run (program b) (depth b) (length σ) 1 r ∙ ap (more_seen (writes_of y)) (watch_halt (program b) (depth b) (length σ) c (leave (writes_of y) σ) 0 h) ∙ rw (append-nil, q), λ z. absurd (let w : ◌≡◌ {A = ℕ} 0 1 = cc in omega arith))
  met_of k y (part {m = m} r q l) = (m + 0, watch_run (program b) (depth b) (length σ) 0 r ∙ rw (append-nil, q), λ z. omega arith)

  met : (k : ℕ) → Met k (src k)
  unfolding src
  met k = met_of k (exec b k σ) (full k)

  goes : (m j : ℕ) → m ≤ j → GoesOn (see m) (see j)
  unfolding see
  goes m j l = let e : m + (j - m) ≡ j = omega arith in rw e at (watch_more (program b) (depth b) (length σ) m (j - m) (at 0 []) σ)

  first_writes : (m k : ℕ) → length (written (see m)) ≤ length (writes_of (src k)) → written (see m) ≡ take (length (written (see m))) (writes_of (src k))
  first_writes m k l =
      let e = ap written (met k).1 in
      ⊎_elim
      (λ h. let g = (goes m (met k).0 (omega arith)).0 in sym (ap (take (length (written (see m)))) (sym e ∙ g.1) ∙ take_at (written (see m)) g.0 _ refl))
      (λ h. let g = (goes (met k).0 m h).0 in
      let a : written (see m) ≡ writes_of (src k) ++ g.0 = g.1 ∙ ap (λ l. l ++ g.0) e in
      let none_left = no_more g.0 (omega (arith, ap length a, length-append (writes_of (src k)) g.0)) in
      let c : written (see m) ≡ writes_of (src k) = a ∙ ap (λ l. writes_of (src k) ++ l) none_left ∙ append-nil _ in
      c ∙ sym (take_all _ (writes_of (src k)) (omega (arith, ap length c))))
      (cases_lt m (met k).0)
    where
      no_more : (vs : List Write) → length vs ≡ 0 → vs ≡ []
      no_more [] q = refl
      no_more (v ∷ vs) q = absurd (omega arith)

  -- with the bound m + 1 the source comes as far as the machine in m steps
  later : (m : ℕ) → (m ≤ (met (suc m)).0) ⊎ (see m ≡ see (met (suc m)).0)
  later m = ⊎_elim (λ h. inl (omega arith)) (λ h. of h (end_of (src (suc m))) refl) (cases_lt m (met (suc m)).0)
    where
      of : (met (suc m)).0 ≤ m → (o : Option Ending) → end_of (src (suc m)) ≡ o → (m ≤ (met (suc m)).0) ⊎ (see m ≡ see (met (suc m)).0)
      of h None q = inl (omega (arith, (met (suc m)).2 q))
      of h (Some e) q = inr ((goes (met (suc m)).0 m h).1 e (ap ended (met (suc m)).1 ∙ q))

  enough_writes : (m : ℕ) → length (written (see m)) ≤ length (writes_of (src (suc m)))
  enough_writes m =
      let e = ap length (ap written (met (suc m)).1) in
      ⊎_elim (λ h. let g = (goes m (met (suc m)).0 h).0 in omega (arith, e, ap length g.1, length-append (written (see m)) g.0)) (λ h. omega (arith, e, ap length (ap written h))) (later m)

  the_end : (m : ℕ) (e : Ending) → ended (see m) ≡ Some e → see m ≡ seen (writes_of (src (suc m))) (end_of (src (suc m)))
  the_end m e q = ⊎_elim (λ h. sym ((goes m (met (suc m)).0 h).1 e q)) (λ h. h) (later m) ∙ (met (suc m)).1

  shown : (m : ℕ) → Shows σ 0 (see m) (after b st σ m)
  unfolding see after
  shown m = shows (program b) (depth b) (length σ) m (start st σ) refl lent

  low : (m : ℕ) → (after b st σ m).registers.height ≤ depth b
  unfolding after run
  low zero = omega arith
  low (suc m) = lawful.low (program b) (depth b) (after b st σ m) (low m)

  agrees : (m : ℕ) → Agrees σ (depth b) (λ k. exec b k σ) (after b st σ m)
  unfolding src
  agrees m =
      let x = shown m in
      let count : (after b st σ m).registers.writes ≡ length (written (see m)) = omega (arith, x.writes) in
      record {
        reached = (suc m, omega (arith, enough_writes m));
        same = λ k l. x.cells ∙ ap (λ ws. leave ws σ) (first_writes m k (omega arith) ∙ ap (λ (j : ℕ). take j (writes_of (exec b k σ))) (sym count));
        low = low m;
        sound = λ e q. subst Small (ap ended (sym (the_end m e (sym x.ending ∙ q))) ∙ sym x.ending ∙ q) (small (src (suc m)));
        ends = λ e q. let h = the_end m e (sym x.ending ∙ q) in (suc m, ap ended (sym h) ∙ sym x.ending ∙ q, omega (arith, ap length (ap written h)));
      }

  counting : (m : ℕ) → Count (program b) (depth b) (start st σ) m
  counting m = count (program b) (depth b) (start st σ) refl refl m

  abbrev Least : ℕ → Type 0
  Least m = (n : ℕ) × (n ≤ m) × ((after b st σ m).registers.steps ≡ n) × ((j : ℕ) → j < n → (after b st σ j).registers.ending ≡ None) × ((j : ℕ) → n ≤ j → after b st σ j ≡ after b st σ m)

  counts_of : (m : ℕ) → Count (program b) (depth b) (start st σ) m → (after b st σ m).registers.ending ≡ None → (after b st σ m).registers.steps ≡ m
  unfolding after
  counts_of m (going q c f) z = c
  counts_of m (over e n q l c f g) z = absurd (let w : ◌≡◌ {A = ℕ} 0 1 = cc in omega arith)

  least_of : (m : ℕ) → Count (program b) (depth b) (start st σ) m → (e : Ending) → (after b st σ m).registers.ending ≡ Some e → Least m
  unfolding after
  least_of m (going q c f) e z = absurd (let w : ◌≡◌ {A = ℕ} 0 1 = cc in omega arith)
  least_of m (over e n q l c f g) e' z = (n, l, c, f, g)

  keeps : Keeps b st σ
  unfolding src
  keeps =
      record {
        always = agrees;
        ending = λ k e q. ((met k).0, (shown (met k).0).ending ∙ ap ended (met k).1 ∙ q);
        further = λ k j l. bounded.further b σ k j l;
        settled = λ k j l e q. settles (exec b k σ) (exec b j σ) (bounded.settled b σ k j l) e q;
        counts = λ m q. counts_of m (counting m) q;
        least = λ m e q. least_of m (counting m) e q;
      }

-- every cell that the source names is there, and the stack that is lent is as large as the depth
pub agreement : (b : Body) (st : List ℕ) (σ : Store) → Within b (length σ) → depth b ≤ length st → Keeps b st σ
agreement = keeps
