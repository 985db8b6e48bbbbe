-- Nowhere in the code are there more words than its depth. Assumes nothing.
use Rattle.std.proofs.Common.{◌≡◌, ℕ, ◌≤◌, ◌⊎◌, inl, inr, max, List, [], ◌∷◌, ◌++◌, sym, refl, ap, subst, ◌∙◌, arith}
use Rattle.base.specs.declared.instr.Instr.{Instr}
use Rattle.ir.specs.Instrs.{peak}
use Rattle.base.specs.Heights.{height}
use Rattle.ir.specs.Trees.{Body}
use Rattle.codegen.specs.Code.{program, depth}
use Rattle.sema.specs.Resolving.{resolve}
use Rattle.compiler.specs.Heights.{height_after, Deepest, Deep}
use Rattle.compiler.proofs.Exact.{tree_of}

above : (h : ℕ) (is : List Instr) → h ≤ peak h is
unfolding peak
above h [] = omega arith
above h (i ∷ is) = omega arith

within : (h : ℕ) (front rest : List Instr) → height_after h front ≤ peak h (front ++ rest)
unfolding peak
within h [] rest = above h rest
within h (i ∷ front) rest = omega (arith, within (height i h) front rest)

-- some part of the code from its front stacks as many words as the whole
abbrev Reached : ℕ → List Instr → ℕ → Type 0
Reached h is n = (front : List Instr) × (rest : List Instr) × (is ≡ front ++ rest) × (height_after h front ≡ n)

either : (m n : ℕ) → (max m n ≡ m) ⊎ (max m n ≡ n)
either m n = grind arith

onward : (h n : ℕ) (i : Instr) (is : List Instr) → Reached (height i h) is n → (max h n ≡ h) ⊎ (max h n ≡ n) → Reached h (i ∷ is) (max h n)
onward h n i is x (inl e) = ([], i ∷ is, refl, sym e)
onward h n i is x (inr e) = (i ∷ x.0, x.1, ap (λ l. i ∷ l) x.2, x.3 ∙ sym e)

reached : (h : ℕ) (is : List Instr) → Reached h is (peak h is)
unfolding peak
reached h [] = ([], [], refl, refl)
reached h (i ∷ is) = onward h (peak (height i h) is) i is (reached (height i h) is) (either h (peak (height i h) is))

deepest : (b : Body) → Deepest (program b) (depth b)
unfolding depth
deepest b =
    record {
      most = λ front rest e. subst (λ is. height_after 0 front ≤ peak 0 is) (sym e) (within 0 front rest);
      some = reached 0 (program b);
    }

pub deep : Deep
deep =
    record {
      trees = deepest;
      sources = λ source room c h.
          let t = tree_of source room c h in
          subst (λ is. Deepest is c.depth) (sym t.1.instrs) (subst (Deepest (program (resolve t.0))) (sym t.1.depth) (deepest (resolve t.0)));
    }
