-- The six relations.
use Rattle.std.specs.Prelude.{ℕ, zero, suc, Bool, cond, not, ◌||◌, Some, None, Option, ◌==◌, int_lt, nat_le, nat_lt}
use Rattle.arith.specs.declared.relation.Relation.{Relation}
use Rattle.arith.specs.declared.relation.Relation.TheVariants.{Equal, Unequal, Less, AtMost, Greater, AtLeast}
use Rattle.arith.specs.Integers.{int}
use Rattle.arith.specs.Logicals.{truth}

-- The number of each relation.
abbrev pub relation_number : Relation → ℕ
relation_number Equal = 0
relation_number Unequal = 1
relation_number Less = 2
relation_number AtMost = 3
relation_number Greater = 4
relation_number AtLeast = 5

-- The relation of a number up to 5.
abbrev pub relation_of : ℕ → Relation
relation_of zero = Equal
relation_of (suc zero) = Unequal
relation_of (suc (suc zero)) = Less
relation_of (suc (suc (suc zero))) = AtMost
relation_of (suc (suc (suc (suc zero)))) = Greater
relation_of (suc (suc (suc (suc (suc n))))) = AtLeast

-- The relation of a number; none if the number is over 5.
abbrev pub relation_at : ℕ → Option Relation
relation_at n = cond (nat_le n 5) (Some (relation_of n)) None

-- Whether a relation holds, if it is known whether the left side is less than the right one and whether both are the
-- same.
abbrev pub holds : Relation → Bool → Bool → Bool
holds Equal less same = same
holds Unequal less same = not same
holds Less less same = less
holds AtMost less same = less || same
holds Greater less same = not (less || same)
holds AtLeast less same = not less

-- TRUE or FALSE: whether the relation holds of y and x as INTEGERs.
unfoldable pub comparison : Relation → ℕ → ℕ → ℕ
comparison r y x = truth (holds r (int_lt (int y) (int x)) (y == x))

-- TRUE or FALSE: whether the relation holds of y and x as LOGICALs.
unfoldable pub lcomparison : Relation → ℕ → ℕ → ℕ
lcomparison r y x = truth (holds r (nat_lt y x) (y == x))
