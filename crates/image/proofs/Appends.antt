-- Bytes that are added one after another.
use Rattle.std.proofs.Common.{◌≡◌, ℕ, ◌+◌, ◌-◌, ◌<◌, ◌≤◌, List, [], ◌∷◌, ◌++◌, length, drop, Result, sym, refl, ap, ◌∙◌, append_assoc, append-nil, arith}
use Rattle.std.proofs.lemmas.List.{length-append, length-set, drop-set-lt, drop-drop, take-append-drop}
use Rattle.base.specs.Lists.{contents, room, IsPushed}
use Rattle.base.specs.declared.list.Bounded.{Bounded}
use Rattle.base.proofs.Pushes.{pushed}
use Rattle.image.specs.Writing.{IsAppended}

pub appended_push : {U : Type 0} (b : Bounded ℕ) (x : ℕ) (d : Bounded ℕ) (r : Result U ℕ) → IsPushed b x d r → b.len < length (room b) → IsAppended b (x ∷ []) d
appended_push b x d r p h =
    let q = pushed b x d r p h in
    let l : b.len < d.len = omega (arith, q.1) in
    record {
      all = q.0;
      len = q.1;
      past = ap (drop d.len) q.2 ∙ drop-set-lt d.len (room b) b.len x l;
      size = ap length q.2 ∙ length-set (room b) b.len x;
      loan = q.3;
    }

pub appended_none : (b : Bounded ℕ) → IsAppended b [] b
appended_none b = record { all = sym (append-nil (contents b)); len = omega arith; past = refl; size = refl; loan = refl }

-- what agrees from n on agrees from any place behind it
pub behind : {X : Type 0} (n m : ℕ) (xs ys : List X) → n ≤ m → drop n xs ≡ drop n ys → drop m xs ≡ drop m ys
behind n m xs ys h e =
    let k : n + (m - n) ≡ m = omega arith in
    ap (λ i. drop i xs) (sym k) ∙ sym (drop-drop (m - n) n xs) ∙ ap (drop (m - n)) e ∙ drop-drop (m - n) n ys ∙ ap (λ i. drop i ys) k

pub appended_then : (b : Bounded ℕ) (xs : List ℕ) (d : Bounded ℕ) (ys : List ℕ) (e : Bounded ℕ) → IsAppended b xs d → IsAppended d ys e → IsAppended b (xs ++ ys) e
appended_then b xs d ys e p q =
    let l : d.len ≤ e.len = omega (arith, q.len) in
    record {
      all = q.all ∙ ap (λ r. r ++ ys) p.all ∙ append_assoc (contents b) xs ys;
      len = omega (arith, p.len, q.len, length-append xs ys);
      past = q.past ∙ behind d.len e.len (room d) (room b) l p.past;
      size = q.size ∙ p.size;
      loan = q.loan ∙ p.loan;
    }

-- an empty list that was filled with xs
pub from_nothing : (b : Bounded ℕ) (xs : List ℕ) (d : Bounded ℕ) (old : List ℕ) → IsAppended b xs d → contents b ≡ [] → b.len ≡ 0 → room b ≡ old → room d ≡ xs ++ drop (length xs) old
from_nothing b xs d old p h z e =
    let l : d.len ≡ length xs = omega (arith, p.len) in
    sym (take-append-drop d.len (room d)) ∙ ap (λ r. r ++ drop d.len (room d)) (p.all ∙ ap (λ r. r ++ xs) h)
    ∙ ap (λ r. xs ++ r) (p.past ∙ ap (λ n. drop n (room b)) l ∙ ap (drop (length xs)) e)
