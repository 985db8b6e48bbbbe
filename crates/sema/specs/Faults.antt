-- The number and the place of each refusal, and which fault decides among several of one stage.
use Rattle.std.specs.Prelude.{ℕ, Bool, cond, ◌&&◌, ◌||◌, List, [], ◌∷◌, Some, None, Ok, Err, Option, Result, ◌==◌, nat_lt}
use Rattle.base.specs.declared.refusal.Refusal.{Refusal}
use Rattle.base.specs.Refusals.{refusal_at}
use Rattle.parser.specs.Faults.{refusal_of as of_grammar}
use Rattle.sema.specs.declared.fault.CheckFault.{CheckFault}
use Rattle.sema.specs.declared.fault.CheckFault.TheVariants.{Grammar, Undeclared, DeclaredTwice, TooManyNames, Subscript, Mistyped, OutOfRange, TooManyCells}

abbrev pub refusal_of : CheckFault → Refusal
refusal_of (Grammar e) = of_grammar e
refusal_of (Undeclared p) = refusal_at 7 p
refusal_of (DeclaredTwice p) = refusal_at 8 p
refusal_of (TooManyNames p) = refusal_at 9 p
refusal_of (Subscript p) = refusal_at 10 p
refusal_of (Mistyped p) = refusal_at 11 p
refusal_of (OutOfRange p) = refusal_at 12 p
refusal_of (TooManyCells p) = refusal_at 13 p

-- The fault in an answer, if it is a refusal.
abbrev pub fault_in : {A : Type 0} → Result A CheckFault → Option Refusal
fault_in (Ok x) = None
fault_in (Err e) = Some (refusal_of e)

-- The fault f decides over g: its place is smaller, or it has the same place and a lower number.
abbrev pub before : Refusal → Refusal → Bool
before f g = nat_lt f.place g.place || (f.place == g.place && nat_lt f.number g.number)

-- Which of the fault so far, if there is one, and the fault g decides.
abbrev pub sooner : Option Refusal → Refusal → Option Refusal
sooner None g = Some g
sooner (Some f) g = Some (cond (before g f) g f)

-- Which of two faults decides, where each may be absent.
abbrev pub soonest : Option Refusal → Option Refusal → Option Refusal
soonest f None = f
soonest f (Some g) = sooner f g

-- Which of the fault so far and the faults of the list decides.
abbrev pub least_from : Option Refusal → List Refusal → Option Refusal
least_from f [] = f
least_from f (g ∷ gs) = least_from (sooner f g) gs

-- Which fault of the list decides, if there is any.
abbrev pub least : List Refusal → Option Refusal
least fs = least_from None fs

-- The faults fs with one more before them, if there is one.
abbrev pub also : Option Refusal → List Refusal → List Refusal
also None fs = fs
also (Some f) fs = f ∷ fs

-- The refusal n at the place p if the test fails; none if it holds.
abbrev pub unless : Bool → ℕ → ℕ → Option Refusal
unless b n p = cond b None (Some (refusal_at n p))
