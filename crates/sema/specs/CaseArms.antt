-- How many statements each CASE has. The syntax list does not say it, so they are counted.
use Rattle.std.specs.Prelude.{ℕ, suc, List, [], ◌∷◌, slice_index}
use Rattle.parser.specs.Nodes.{Node}
use Rattle.parser.specs.Nodes as node
use Rattle.base.specs.Stacks.{below}

-- The number for the next CASE that is to come.
abbrev pub first : List ℕ → ℕ
first ns = slice_index ns 0

-- The numbers of arms, counted from the end of the list. `opened` has the numbers so far of the CASEs whose beginning
-- is still to be met, the innermost first. `closed` has those of the CASEs that are counted whole, in written order.
pub record Counts : Type 0 where
  pub opened : List ℕ
  pub closed : List ℕ

-- One arm more for the innermost CASE.
abbrev pub more : List ℕ → List ℕ
more ns = suc (first ns) ∷ below ns

-- The counts after one more node, going from the end of the list to its front.
abbrev pub counts_with : Node → Counts → Counts
counts_with (node.Case p) x = record { opened = below x.opened; closed = first x.opened ∷ x.closed }
counts_with node.Arm x = record { opened = more x.opened; closed = x.closed }
counts_with node.Esac x = record { opened = 0 ∷ x.opened; closed = x.closed }
counts_with _ x = x

-- The counts of a whole list.
abbrev pub arm_counts : List Node → Counts
arm_counts [] = record { opened = []; closed = [] }
arm_counts (e ∷ es) = counts_with e (arm_counts es)

-- The numbers that are left for the CASEs after this node: a CASE uses one.
abbrev pub counts_after : Node → List ℕ → List ℕ
counts_after (node.Case p) ms = below ms
counts_after _ ms = ms
