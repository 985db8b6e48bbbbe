-- The arms of a CASE are no more than the nodes of the list. Assumes nothing.
use Rattle.std.proofs.Common.{◌≡◌, ℕ, suc, ◌≤◌, List, [], ◌∷◌, ◌++◌, map, length, drop, sym, refl, ap, ◌∙◌, append_assoc, arith}
use Rattle.std.proofs.lemmas.List.{length-map}
use Rattle.std.proofs.Math.Seq.{drop-append_seam}
use Rattle.parser.specs.declared.node.Node.{Node as CodeNode}
use Rattle.parser.specs.Nodes.{Node, node_of, node_list}
use Rattle.parser.specs.Nodes as node
use Rattle.base.specs.Stacks.{below}
use Rattle.sema.specs.CaseArms.{Counts, first, counts_with, arm_counts}
use Rattle.sema.specs.Emissions.{AtMost, counts}

weaker : (k : ℕ) (ns : List ℕ) → AtMost k ns → AtMost (suc k) ns
weaker k [] h = tt
weaker k (n ∷ ns) h = (omega (arith, h.0), weaker k ns h.1)

lower_most : (k : ℕ) (ns : List ℕ) → AtMost k ns → AtMost k (below ns)
lower_most k [] h = tt
lower_most k (n ∷ ns) h = h.1

first_most : (k : ℕ) (ns : List ℕ) → AtMost k ns → first ns ≤ k
first_most k [] h = omega arith
first_most k (n ∷ ns) h = h.0

tallied_most : (e : Node) (x : Counts) (k : ℕ) → AtMost k x.opened → AtMost (suc k) (counts_with e x).opened
tallied_most (node.Simple n k p) x m w = weaker m x.opened w
tallied_most (node.Array n k l h p q) x m w = weaker m x.opened w
tallied_most (node.Number v k) x m w = weaker m x.opened w
tallied_most (node.Load n p) x m w = weaker m x.opened w
tallied_most (node.Index n p q) x m w = weaker m x.opened w
tallied_most (node.Binary o p) x m w = weaker m x.opened w
tallied_most (node.Negate p) x m w = weaker m x.opened w
tallied_most (node.Lnot p) x m w = weaker m x.opened w
tallied_most (node.Convert k) x m w = weaker m x.opened w
tallied_most (node.Field a b p) x m w = weaker m x.opened w
tallied_most (node.Shift h d p) x m w = weaker m x.opened w
tallied_most (node.Store n p q) x m w = weaker m x.opened w
tallied_most (node.Checked n p q) x m w = weaker m x.opened w
tallied_most (node.StoreAt n p q) x m w = weaker m x.opened w
tallied_most (node.Fetch n p) x m w = weaker m x.opened w
tallied_most (node.FetchAt n p q) x m w = weaker m x.opened w
tallied_most (node.Deposit a b p) x m w = weaker m x.opened w
tallied_most (node.Test p) x m w = weaker m x.opened w
tallied_most node.Or x m w = weaker m x.opened w
tallied_most node.If x m w = weaker m x.opened w
tallied_most node.Then x m w = weaker m x.opened w
tallied_most node.Else x m w = weaker m x.opened w
tallied_most node.Fi x m w = weaker m x.opened w
tallied_most node.While x m w = weaker m x.opened w
tallied_most node.Loop x m w = weaker m x.opened w
tallied_most node.Do x m w = weaker m x.opened w
tallied_most node.Until x m w = weaker m x.opened w
tallied_most node.Done x m w = weaker m x.opened w
tallied_most (node.First n p f) x m w = weaker m x.opened w
tallied_most (node.Step f) x m w = weaker m x.opened w
tallied_most node.One x m w = weaker m x.opened w
tallied_most (node.For n p f) x m w = weaker m x.opened w
tallied_most (node.Next n) x m w = weaker m x.opened w
tallied_most node.Drop x m w = weaker m x.opened w
tallied_most (node.Case p) x m w = weaker m (below x.opened) (lower_most m x.opened w)
tallied_most node.Arm x m w = (omega (arith, first_most m x.opened w), weaker m (below x.opened) (lower_most m x.opened w))
tallied_most node.Out x m w = weaker m x.opened w
tallied_most node.Esac x m w = (omega arith, weaker m x.opened w)

most : (es : List Node) → AtMost (length es) (arm_counts es).opened
most [] = tt
most (e ∷ es) = tallied_most e (arm_counts es) (length es) (most es)

pub first_counted : (ns : List CodeNode) (o : List ℕ) → o ≡ (arm_counts (node_list ns)).opened → first o ≤ length ns
unfolding node_list
first_counted ns o e = rw e (omega (arith, first_most (length (map node_of ns)) (arm_counts (map node_of ns)).opened (most (map node_of ns)), length-map ns node_of))

-- of the list ns the nodes r are left, and the ones behind them are counted; then one more, towards the beginning
module _ (ns r r' : List CodeNode) (n : CodeNode) (x y : Counts) (h : ns ≡ r ++ drop (length r) ns) (g : r ≡ r' ++ n ∷ []) where
  split_more : ns ≡ r' ++ n ∷ drop (length r) ns
  split_more = h ∙ ap (λ l. l ++ drop (length r) ns) g ∙ append_assoc r' (n ∷ []) (drop (length r) ns)

  left_more : drop (length r') ns ≡ n ∷ drop (length r) ns
  left_more = ap (drop (length r')) split_more ∙ drop-append_seam r' (n ∷ drop (length r) ns)

  pub counted_more : x ≡ arm_counts (node_list (drop (length r) ns)) → y ≡ counts_with (node_of n) x → (ns ≡ r' ++ drop (length r') ns) × (y ≡ arm_counts (node_list (drop (length r') ns)))
  unfolding node_list
  counted_more e f = (split_more ∙ ap (λ l. r' ++ l) (sym left_more), f ∙ ap (counts_with (node_of n)) e ∙ ap (λ l. arm_counts (node_list l)) (sym left_more))

pub counted_none : counts [] [] ≡ arm_counts (node_list [])
unfolding node_list
counted_none = refl
