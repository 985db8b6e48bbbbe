-- The last stage: the code is made, or is too long. Assumes nothing.
use Rattle.std.proofs.Common.{◌≡◌, ℕ, ◌<◌, ◌≤◌, cond, List, ◌++◌, length, drop, Ok, Err, sym, ap, ◌∙◌, arith}
use Rattle.std.proofs.lemmas.Bool.{le-leb, lt-leb}
use Rattle.base.specs.declared.instr.Instr.{Instr}
use Rattle.base.specs.declared.refusal.Refusal.{Refusal}
use Rattle.base.specs.Refusals.{refuse, then}
use Rattle.ir.specs.declared.item.Item.{Item}
use Rattle.ir.specs.Instrs.{peak}
use Rattle.codegen.specs.declared.placed.CodeSize.{CodeSize}
use Rattle.codegen.specs.declared.placed.Excess.{Excess}
use Rattle.codegen.specs.declared.placed.Excess.TheVariants.{Items, Room}
use Rattle.codegen.specs.Items.{code_of_items}
use Rattle.codegen.specs.Measure.{limit, Emits}
use Rattle.codegen.proofs.Sizes.{stands}
use Rattle.sema.specs.Works.{CheckedSource, source_check}
use Rattle.compiler.specs.Compile.{code_of, code_or_too_long, compilation}

pub refused : (source : List ℕ) (room : ℕ) (f : Refusal) → source_check source ≡ Err f → compilation source room ≡ Err f
unfolding compilation
refused source room f e = ap (λ r. then r (λ c. code_or_too_long room (length source) (code_of c))) e

module _ (source : List ℕ) (c : CheckedSource) (table : List Instr) (read : source_check source ≡ Ok c) where
  pub fits : (n : ℕ) → n ≡ length (code_of_items c.items) → n ≤ limit table → compilation source (length table) ≡ Ok (code_of c)
  unfolding compilation
  fits n e l =
      let m : length (code_of_items c.items) ≤ limit table = omega (arith, e, l) in
      ap (λ r. then r (λ x. code_or_too_long (length table) (length source) (code_of x))) read
      ∙ ap (λ b. cond b (Ok (code_of c)) (refuse 14 (length source))) (le-leb _ _ m)

  pub too_long : (n : ℕ) → length (code_of_items c.items) ≡ n → limit table < n → compilation source (length table) ≡ Err record { number = 14; place = length source }
  unfolding compilation
  too_long n e l =
      let m : limit table < length (code_of_items c.items) = omega (arith, e, l) in
      ap (λ r. then r (λ x. code_or_too_long (length table) (length source) (code_of x))) read
      ∙ ap (λ b. cond b (Ok (code_of c)) (refuse 14 (length source))) (lt-leb _ _ m)

  pub made : (is : List Item) (b : List Instr) (f : CodeSize) → is ≡ c.items → Emits is table b (Ok f) →
      (compilation source (length table) ≡ Ok (code_of c)) × (f.depth ≡ peak 0 (code_of_items c.items)) × (f.count ≡ length (code_of_items c.items)) × (b ≡ code_of_items c.items ++ drop f.count table)
  made is b f e h =
      let k : Emits c.items table b (Ok f) = rw e at h in
      let n = k.1.count ∙ sym (stands.long c.items) in
      (fits f.count n k.2, k.1.depth ∙ sym (stands.deep c.items), n, k.3)

  pub unmade : (is : List Item) (b : List Instr) (x : Excess) → is ≡ c.items → length is ≤ 131072 → Emits is table b (Err x) →
      (compilation source (length table) ≡ Err record { number = 14; place = length source }) × (b ≡ table)
  unmade is b Items e l h = absurd (omega (arith, l, h.0))
  unmade is b Room e l h =
      let k : Emits c.items table b (Err Room) = rw e at h in
      (too_long _ (stands.long c.items) k.1, k.2)
