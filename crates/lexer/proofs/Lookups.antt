-- A search by name, and what it finds. Assumes nothing.
use Rattle.std.proofs.Common.{◌≡◌, ℕ, zero, suc, true, false, List, [], ◌∷◌, map, get_or, Some, None, refl, ap, ◌∙◌, ⊎_elim, arith}
use Rattle.std.proofs.lemmas.Slice.Eq.{bytes_eq-Decides}
use Rattle.std.proofs.lemmas.Bool.{cases_Bool}
use Rattle.std.specs.Option.{option_map}
use Rattle.std.specs.Str.{bytes_eq}
use Rattle.lexer.specs.declared.reserved.Reserved.{Reserved}
use Rattle.lexer.specs.Names.{First, first_named}
use Rattle.lexer.specs.Reserved.{Word, entry_of, word_bytes, lookup, reserved_words, keyword_of}

pub same : (xs ys : List ℕ) → xs ≡ ys → bytes_eq xs ys ≡ true
same xs ys e = (bytes_eq-Decides xs ys).1 e

pub other : (xs ys : List ℕ) → (xs ≡ ys → ⊥) → bytes_eq xs ys ≡ false
other xs ys h = ⊎_elim (λ t. absurd (h ((bytes_eq-Decides xs ys).0 t))) (λ f. f) (cases_Bool (bytes_eq xs ys))

-- what the search finds, in the list of what its entries stand for
module _ {A B : Type 0} (text : A → List ℕ) (stands : A → B) (name : B → List ℕ) (same_name : (x : A) → name (stands x) ≡ text x) where
  pub named_some : (xs : List A) (w : List ℕ) (i : ℕ) (d : A) → First (map text xs) w (Some i) → Some (stands (get_or xs i d)) ≡ first_named name (map stands xs) w
  named_some [] w i d h = absurd (omega (arith, h.0))
  named_some (x ∷ xs) w zero d h = rw (same_name x, same (text x) w h.1)
  named_some (x ∷ xs) w (suc i) d h =
      rw (same_name x, other (text x) w (h.2 0 (omega arith))) (named_some xs w i d (omega (arith, h.0), h.1, λ k l. h.2 (suc k) (omega arith)))

  pub named_none : (xs : List A) (w : List ℕ) → First (map text xs) w None → None ≡ first_named name (map stands xs) w
  named_none [] w h = refl
  named_none (x ∷ xs) w h = rw (same_name x, other (text x) w (h 0 (omega arith))) (named_none xs w (λ k l. h (suc k) (omega arith)))

pub lookup_some : (es : List Reserved) (w : List ℕ) (i : ℕ) (d : Reserved) → First (map word_bytes es) w (Some i) → Some (get_or es i d).keyword ≡ lookup (map entry_of es) w
lookup_some es w i d h = ap (option_map (λ (e : Word). e.keyword)) (named_some word_bytes entry_of (λ (e : Word). e.text) (λ e. refl) es w i d h)

pub lookup_none : (es : List Reserved) (w : List ℕ) → First (map word_bytes es) w None → None ≡ lookup (map entry_of es) w
lookup_none es w h = ap (option_map (λ (e : Word). e.keyword)) (named_none word_bytes entry_of (λ (e : Word). e.text) (λ e. refl) es w h)

-- with the table of reserved words
pub keyword_some : (es : List Reserved) (w : List ℕ) (i : ℕ) (d : Reserved) → map entry_of es ≡ reserved_words → First (map word_bytes es) w (Some i) → Some (get_or es i d).keyword ≡ keyword_of w
unfolding keyword_of
keyword_some es w i d e h = lookup_some es w i d h ∙ ap (λ (v : List Word). lookup v w) e

pub keyword_none : (es : List Reserved) (w : List ℕ) → map entry_of es ≡ reserved_words → First (map word_bytes es) w None → None ≡ keyword_of w
unfolding keyword_of
keyword_none es w e h = lookup_none es w h ∙ ap (λ (v : List Word). lookup v w) e
