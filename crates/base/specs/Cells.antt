-- The words of a memory, cell by cell.
use Rattle.std.specs.Prelude.{◌≡◌, ℕ, zero, suc, ◌+◌, ◌-◌, ◌*◌, ◌/◌, ◌%◌, ◌<◌, ◌≤◌, min, List, [], ◌∷◌, ◌++◌, map, length, take, drop, set, Ok, slice_index, slice_set, refl}
use Rattle.std.proofs.Common.{sym, ap, ◌∙◌, ⊎_elim, arith}
use Rattle.std.proofs.lemmas.List.{length-take, length-map, length-append, get_or-take, get_or-map, get_or_past, map-set, get_or_append_left, get_or-append_right, set-append_left, set-append_right, drop-set-lt, length-set}
use Rattle.std.proofs.lemmas.Bool.{cases_lt, cond_below}
use Rattle.base.specs.Limits.{most_words}
use Rattle.base.specs.Refusals.{refuse}
use Rattle.base.specs.Stores.{cell_of, word, pair, words_of, past_words, pairs, pairs_of, past_pairs, joined_of, past_joined}

-- Taking the first n elements after a change gives the same as changing what was taken.
pub take_set_any : {X : Type 0} (n : ℕ) (l : List X) (i : ℕ) (a : X) → take n (slice_set l i a) ≡ slice_set (take n l) i a
take_set_any zero l i a = refl
take_set_any (suc n) [] i a = refl
take_set_any (suc n) (x ∷ xs) zero a = refl
take_set_any (suc n) (x ∷ xs) (suc i) a = ap (λ r. x ∷ r) (take_set_any n xs i a)

-- The store of words that were lent: its length, its cells, a write, and the words past it.

pub length_words_of : (xs : List ℕ) → length (words_of xs) ≡ min most_words (length xs)
unfolding words_of
length_words_of xs = length-map (take most_words xs) word ∙ length-take most_words xs

pub get_or_words_of : (xs : List ℕ) (k : ℕ) → k < length (words_of xs) → slice_index (words_of xs) k ≡ slice_index xs k % 65536
unfolding words_of
get_or_words_of xs k h =
    let l = length_words_of xs in
    let m : k < length (take most_words xs) = omega (arith, length-take most_words xs) in
    let n : k < most_words = omega (arith, length-take most_words xs) in
    get_or-map word (take most_words xs) k 0 0 m ∙ ap word (get_or-take most_words xs k 0 n)

pub set_words_of : (xs : List ℕ) (k w : ℕ) → w < 65536 → words_of (slice_set xs k w) ≡ slice_set (words_of xs) k w
unfolding words_of
set_words_of xs k w h =
    let e : w % 65536 ≡ w = omega arith in
    ap (map word) (take_set_any most_words xs k w) ∙ map-set word (take most_words xs) k w ∙ ap (λ v. set (map word (take most_words xs)) k v) e

pub past_set_words : (xs : List ℕ) (k w : ℕ) → k < most_words → past_words (slice_set xs k w) ≡ past_words xs
past_set_words xs k w h = drop-set-lt most_words xs k w h

pub small_words_of : (xs : List ℕ) (k : ℕ) → slice_index (words_of xs) k < 65536
small_words_of xs k =
    ⊎_elim (λ h. omega (arith, get_or_words_of xs k h)) (λ h. omega (arith, get_or_past (words_of xs) k 0 h)) (cases_lt k (length (words_of xs)))

-- The store of bytes that were lent: its length, its cells, a write, and the bytes past it.

pub length_pairs : (bs : List ℕ) → length (pairs bs) ≡ length bs / 2
length_pairs [] = refl
length_pairs (h ∷ []) = omega arith
length_pairs (h ∷ l ∷ rest) = omega (arith, length_pairs rest)

pub get_or_pairs : (bs : List ℕ) (k : ℕ) → k < length (pairs bs) → slice_index (pairs bs) k ≡ pair (slice_index bs (2 * k)) (slice_index bs (2 * k + 1))
get_or_pairs [] k h = absurd (omega arith)
get_or_pairs (x ∷ []) k h = absurd (omega arith)
get_or_pairs (x ∷ y ∷ rest) zero h = refl
get_or_pairs (x ∷ y ∷ rest) (suc k) h =
    let e : 2 * suc k ≡ suc (suc (2 * k)) = omega arith in
    let f : suc (suc (2 * k)) + 1 ≡ suc (suc (2 * k + 1)) = omega arith in
    rw (e, f) (get_or_pairs rest k (omega arith))

pub set_pairs : (bs : List ℕ) (k w : ℕ) → k < length (pairs bs) → w < 65536 → pairs (slice_set (slice_set bs (2 * k) (w / 256)) (2 * k + 1) (w % 256)) ≡ slice_set (pairs bs) k w
set_pairs [] k w h s = absurd (omega arith)
set_pairs (x ∷ []) k w h s = absurd (omega arith)
set_pairs (x ∷ y ∷ rest) zero w h s =
    let e : pair (w / 256) (w % 256) ≡ w = omega arith in
    ap (λ v. v ∷ pairs rest) e
set_pairs (x ∷ y ∷ rest) (suc k) w h s =
    let e : 2 * suc k ≡ suc (suc (2 * k)) = omega arith in
    let f : suc (suc (2 * k)) + 1 ≡ suc (suc (2 * k + 1)) = omega arith in
    rw (e, f) (ap (λ r. pair x y ∷ r) (set_pairs rest k w (omega arith) s))

pub length_pairs_of : (bs : List ℕ) → length (pairs_of bs) ≡ min most_words (length bs / 2)
unfolding pairs_of
length_pairs_of bs = omega (arith, length-take most_words (pairs bs), length_pairs bs)

pub get_or_pairs_of : (bs : List ℕ) (k : ℕ) → k < length (pairs_of bs) → slice_index (pairs_of bs) k ≡ pair (slice_index bs (2 * k)) (slice_index bs (2 * k + 1))
unfolding pairs_of
get_or_pairs_of bs k h =
    let m : k < length (pairs bs) = omega (arith, length-take most_words (pairs bs)) in
    let n : k < most_words = omega (arith, length-take most_words (pairs bs)) in
    get_or-take most_words (pairs bs) k 0 n ∙ get_or_pairs bs k m

pub set_pairs_of : (bs : List ℕ) (k w : ℕ) → k < length (pairs_of bs) → w < 65536 → pairs_of (slice_set (slice_set bs (2 * k) (w / 256)) (2 * k + 1) (w % 256)) ≡ slice_set (pairs_of bs) k w
unfolding pairs_of
set_pairs_of bs k w h s =
    let m : k < length (pairs bs) = omega (arith, length-take most_words (pairs bs)) in
    ap (take most_words) (set_pairs bs k w m s) ∙ take_set_any most_words (pairs bs) k w

-- A write sets the bytes of one word of the store, and these lie before the bytes past its words.
pub past_set_pairs : (bs : List ℕ) (k h l : ℕ) → k < length (pairs_of bs) → past_pairs (slice_set (slice_set bs (2 * k) h) (2 * k + 1) l) ≡ past_pairs bs
past_set_pairs bs k h l p =
    let ds = set (set bs (2 * k) h) (2 * k + 1) l in
    let m = 2 * length (pairs_of bs) in
    let e : length (pairs_of ds) ≡ length (pairs_of bs) =
    omega (arith, length_pairs_of ds, length_pairs_of bs, length-set (set bs (2 * k) h) (2 * k + 1) l, length-set bs (2 * k) h) in
    ap (λ n. drop (2 * n) ds) e ∙ drop-set-lt m (set bs (2 * k) h) (2 * k + 1) l (omega (arith, p)) ∙ drop-set-lt m bs (2 * k) h (omega (arith, p))

pub small_pairs_of : (bs : List ℕ) (k : ℕ) → slice_index (pairs_of bs) k < 65536
small_pairs_of bs k =
    ⊎_elim (λ h. omega (arith, get_or_pairs_of bs k h)) (λ h. omega (arith, get_or_past (pairs_of bs) k 0 h)) (cases_lt k (length (pairs_of bs)))

-- Two stores joined: their length, their cells, a write to either, and the words past them.

pub length_joined_of : (xs ys : List ℕ) → length (joined_of xs ys) ≡ min most_words (length xs + length ys)
unfolding joined_of
length_joined_of xs ys = omega (arith, length-take most_words (xs ++ ys), length-append xs ys)

pub get_or_first : (xs ys : List ℕ) (k : ℕ) → k < length xs → k < most_words → slice_index (joined_of xs ys) k ≡ slice_index xs k
unfolding joined_of
get_or_first xs ys k h s = get_or-take most_words (xs ++ ys) k 0 s ∙ get_or_append_left xs ys 0 k h

pub get_or_second : (xs ys : List ℕ) (m k : ℕ) → m ≡ length xs → m ≤ k → k < most_words → slice_index (joined_of xs ys) k ≡ slice_index ys (k - m)
unfolding joined_of
get_or_second xs ys m k e h s = get_or-take most_words (xs ++ ys) k 0 s ∙ get_or-append_right xs ys m k 0 (sym e) h

pub set_first : (xs ys : List ℕ) (k w : ℕ) → k < length xs → joined_of (slice_set xs k w) ys ≡ slice_set (joined_of xs ys) k w
unfolding joined_of
set_first xs ys k w h =
    ap (take most_words) (sym (set-append_left xs ys k w h)) ∙ take_set_any most_words (xs ++ ys) k w

pub set_second : (xs ys : List ℕ) (m k w : ℕ) → m ≡ length xs → m ≤ k → joined_of xs (slice_set ys (k - m) w) ≡ slice_set (joined_of xs ys) k w
unfolding joined_of
set_second xs ys m k w e h =
    ap (take most_words) (sym (set-append_right xs ys m k w (sym e) h)) ∙ take_set_any most_words (xs ++ ys) k w

pub past_set_first : (xs ys : List ℕ) (k w : ℕ) → k < length xs → k < most_words → past_joined (slice_set xs k w) ys ≡ past_joined xs ys
past_set_first xs ys k w h s =
    ap (drop most_words) (sym (set-append_left xs ys k w h)) ∙ drop-set-lt most_words (xs ++ ys) k w s

pub past_set_second : (xs ys : List ℕ) (m k w : ℕ) → m ≡ length xs → m ≤ k → k < most_words → past_joined xs (slice_set ys (k - m) w) ≡ past_joined xs ys
past_set_second xs ys m k w e h s =
    ap (drop most_words) (sym (set-append_right xs ys m k w (sym e) h)) ∙ drop-set-lt most_words (xs ++ ys) k w s

-- A cell of one store and a cell of another give the same answer, if both stores have the cell and the answers are
-- the same.
pub cell_like : {A : Type 0} (xs ys : List ℕ) (i k : ℕ) (x y : A) → i < length xs → k < length ys → y ≡ x → cell_of xs i x ≡ cell_of ys k y
cell_like xs ys i k x y h j e =
    sym (cond_below i (length xs) (Ok x) (refuse 36 i) h) ∙ ap Ok (sym e) ∙ cond_below k (length ys) (Ok y) (refuse 36 k) j

pub small_joined_of : (xs ys : List ℕ) → ((k : ℕ) → slice_index xs k < 65536) → ((k : ℕ) → slice_index ys k < 65536) → (k : ℕ) → slice_index (joined_of xs ys) k < 65536
small_joined_of xs ys p q k =
    ⊎_elim
    (λ h.
    let s : k < most_words = omega (arith, length_joined_of xs ys) in
    ⊎_elim (λ i. omega (arith, get_or_first xs ys k i s, p k)) (λ i. omega (arith, get_or_second xs ys (length xs) k refl i s, q (k - length xs))) (cases_lt k (length xs)))
    (λ h. omega (arith, get_or_past (joined_of xs ys) k 0 h)) (cases_lt k (length (joined_of xs ys)))

-- Each of the three stores has at most 65,535 words.

pub short_words_of : (xs : List ℕ) → length (words_of xs) ≤ most_words
short_words_of xs = omega (arith, length_words_of xs)

pub short_pairs_of : (bs : List ℕ) → length (pairs_of bs) ≤ most_words
short_pairs_of bs = omega (arith, length_pairs_of bs)

pub short_joined_of : (xs ys : List ℕ) → length (joined_of xs ys) ≤ most_words
short_joined_of xs ys = omega (arith, length_joined_of xs ys)
