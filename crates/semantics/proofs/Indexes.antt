-- What is known of an answer: an index that passes its test lies below the bound.
use Rattle.std.proofs.Common.{◌≡◌, ℕ, ◌-◌, ◌<◌, Bool, true, false, cond, ltb, List, pos, negsuc, is_ok, Ok, Err, Result, refl, ap, subst}
use lib.Signed.{le_z, lt_z}
use Rattle.std.proofs.lemmas.Bool.{ltb-true, and_parts, false≢true}
use Rattle.arith.specs.declared.stop.Stop.{Stop}
use Rattle.arith.specs.declared.stop.Stop.TheVariants.{Overflow}
use Rattle.arith.specs.Stops.{stop}
use Rattle.arith.specs.Integers.{int, within, below, subscript, case_index}
use Rattle.semantics.specs.Effects.{Store, Write, Effect, effect, cut, prim, says}

tested : (i n : ℕ) → within i n ≡ true → i < n
unfolding within int
tested i n h = of (ltb i 32768) (and_parts (le_z (pos 0) (int i)) (lt_z (int i) (pos n)) h).0 (and_parts (le_z (pos 0) (int i)) (lt_z (int i) (pos n)) h).1
  where
    of : (b : Bool) → le_z (pos 0) (cond b (pos i) (negsuc (65535 - i))) ≡ true → lt_z (cond b (pos i) (negsuc (65535 - i))) (pos n) ≡ true → i < n
    of true p q = ltb-true i n q
    of false p q = absurd (false≢true p)

abbrev word : Result ℕ Stop → ℕ
word (Ok w) = w
word (Err e) = 0

answers : (e x n j : ℕ) → below e x n ≡ Ok j → j < n
answers e x n j = of (within x n) refl
  where
    of : (b : Bool) → within x n ≡ b → cond b (Ok x) (stop e) ≡ Ok j → j < n
    of true h q = subst (λ (y : ℕ). y < n) (ap word q) (tested x n h)
    of false h q = absurd (false≢true (ap is_ok q))

pub subscript_below : (x n j : ℕ) → subscript x n ≡ Ok j → j < n
unfolding subscript
subscript_below x n j q = answers 3 x n j q

pub chosen_below : (x n j : ℕ) → case_index x n ≡ Ok j → j < n
unfolding case_index
chosen_below x n j q = answers 4 x n j q

abbrev outcome : {A : Type 0} → Effect A → Result A Stop
outcome (effect ws o) = o
outcome (cut ws) = Err Overflow

-- an answer that is known already is the one that is given
pub says_answers : {A : Type 0} (r : Result A Stop) (σ : Store) (ws : List Write) (a : A) → prim (says r) σ ≡ effect ws (Ok a) → r ≡ Ok a
unfolding prim says
says_answers (Ok b) σ ws a q = ap outcome q
says_answers (Err e) σ ws a q = ap outcome q
