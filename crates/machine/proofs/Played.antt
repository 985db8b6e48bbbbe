-- The loop over a list of calls.
use Rattle.std.proofs.Common.{◌≡◌, ℕ, Result, ◌+◌, ◌<◌, ◌≤◌, List, [], ◌∷◌, ◌++◌, length, get_or, take, drop, set, sym, ap, ◌∙◌, append_assoc}
use Rattle.std.proofs.lemmas.List.{drop_more, drop_all, take_all, append-nil, take_more_set}
use Rattle.base.specs.declared.instr.Instr.{Instr}
use Rattle.machine.specs.Machine.{State}
use Rattle.machine.specs.declared.call.Call.{Call}
use Rattle.machine.specs.declared.call.Answer.{Answer}
use Rattle.base.specs.declared.refusal.Refusal.{Refusal}
use Rattle.machine.specs.Calls.{answer_of, state_after_call, state_after_calls, answers_of}

module _ (c d : ℕ) (P : List Instr) (xs : List Call) (i : ℕ) (e : Call) (h : i < length xs) where
  pub played_more : (s t u : State) → u ≡ state_after_call c d P (get_or xs i e) t → state_after_calls c d P (drop i xs) t ≡ state_after_calls c d P xs s → state_after_calls c d P (drop (i + 1) xs) u ≡ state_after_calls c d P xs s
  unfolding state_after_calls
  played_more s t u q p = ap (state_after_calls c d P (drop (i + 1) xs)) q ∙ ap (λ l. state_after_calls c d P l t) (sym (drop_more xs i e h)) ∙ p

  pub answers_more : (s t u : State) (a : List (Result Answer Refusal)) (r : Result Answer Refusal) → i < length a → u ≡ state_after_call c d P (get_or xs i e) t → r ≡ answer_of c d P (get_or xs i e) t → take i a ++ answers_of c d P (drop i xs) t ≡ answers_of c d P xs s → take (i + 1) (set a i r) ++ answers_of c d P (drop (i + 1) xs) u ≡ answers_of c d P xs s
  unfolding answers_of
  answers_more s t u a r k q w p =
      ap (λ l. l ++ answers_of c d P (drop (i + 1) xs) u) (take_more_set a i r k)
      ∙ append_assoc (take i a) (r ∷ []) (answers_of c d P (drop (i + 1) xs) u)
      ∙ ap (λ v. take i a ++ v ∷ answers_of c d P (drop (i + 1) xs) u) w
      ∙ ap (λ v. take i a ++ answer_of c d P (get_or xs i e) t ∷ answers_of c d P (drop (i + 1) xs) v) q
      ∙ ap (λ l. take i a ++ answers_of c d P l t) (sym (drop_more xs i e h))
      ∙ p

pub played_all : (c d : ℕ) (P : List Instr) (xs : List Call) (i : ℕ) (s t : State) → length xs ≤ i → state_after_calls c d P (drop i xs) t ≡ state_after_calls c d P xs s → t ≡ state_after_calls c d P xs s
unfolding state_after_calls
played_all c d P xs i s t h p = ap (λ l. state_after_calls c d P l t) (sym (drop_all i xs h)) ∙ p

pub answers_all : (c d : ℕ) (P : List Instr) (xs : List Call) (i : ℕ) (s t : State) (a : List (Result Answer Refusal)) → length xs ≤ i → length a ≤ i → take i a ++ answers_of c d P (drop i xs) t ≡ answers_of c d P xs s → a ≡ answers_of c d P xs s
unfolding answers_of
answers_all c d P xs i s t a l k p =
    sym (take_all i a k) ∙ sym (append-nil (take i a)) ∙ ap (λ z. take i a ++ answers_of c d P z t) (sym (drop_all i xs l)) ∙ p

-- the cells, the depth and the code are the first's, and the call is its
module _ (c k d m : ℕ) (P Q : List Instr) (x y : Call) (t : State) (p : c ≡ k) (q : d ≡ m) (r : P ≡ Q) (e : x ≡ y) where
  pub left_same : state_after_call c d P x t ≡ state_after_call k m Q y t
  left_same = ap (λ j. state_after_call j d P x t) p ∙ ap (λ j. state_after_call k j P x t) q ∙ ap (λ j. state_after_call k m j x t) r ∙ ap (λ j. state_after_call k m Q j t) e

  pub answer_same : answer_of c d P x t ≡ answer_of k m Q y t
  answer_same = ap (λ j. answer_of j d P x t) p ∙ ap (λ j. answer_of k j P x t) q ∙ ap (λ j. answer_of k m j x t) r ∙ ap (λ j. answer_of k m Q j t) e
