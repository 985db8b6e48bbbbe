-- Symbols by cases of their bytes. Assumes nothing.
use Rattle.std.proofs.Common.{◌≡◌, ℕ, ◌≤◌, Bool, true, false, cond, eqb, List, [], ◌∷◌, ◌++◌, length, Some, None, Option, sym, refl, subst, arith}
use Rattle.std.proofs.lemmas.Bool.{eqb-true, cond_both}
use Rattle.lexer.specs.declared.token.Symbol.{Symbol}
use Rattle.lexer.specs.declared.token.Symbol.TheVariants.{Becomes, Unequal, AtMost, AtLeast, Semicolon, Comma, Dot, Open, Close, Colon, Equal, Less, Greater, Plus, Minus, Times, Divide, Ampersand}
use Rattle.lexer.specs.Lexemes.{symbol_text, single, double, sign_of}

abbrev Found : Type 0
Found = Option (Symbol × ℕ)

-- a test of a byte
case : (P : ℕ → Found → Type 0) (b k : ℕ) (x y : Found) → P k x → P b y → P b (cond (eqb b k) x y)
case P b k x y p q = cond_both (eqb b k) x y (P b) (λ e. subst (λ (v : ℕ). P v x) (sym (eqb-true b k e)) p) (λ e. q)

single_all : (P : ℕ → Found → Type 0) → ((s : Symbol) (k : ℕ) → symbol_text s ≡ k ∷ [] → P k (Some (s, 1))) → ((b : ℕ) → P b None) → (b : ℕ) → P b (single b)
single_all P one none b =
    case P b 59 (Some (Semicolon, 1)) _ (one Semicolon 59 refl)
    (case P b 44 (Some (Comma, 1)) _ (one Comma 44 refl)
    (case P b 46 (Some (Dot, 1)) _ (one Dot 46 refl)
    (case P b 40 (Some (Open, 1)) _ (one Open 40 refl)
    (case P b 41 (Some (Close, 1)) _ (one Close 41 refl)
    (case P b 58 (Some (Colon, 1)) _ (one Colon 58 refl)
    (case P b 61 (Some (Equal, 1)) _ (one Equal 61 refl)
    (case P b 60 (Some (Less, 1)) _ (one Less 60 refl)
    (case P b 62 (Some (Greater, 1)) _ (one Greater 62 refl)
    (case P b 43 (Some (Plus, 1)) _ (one Plus 43 refl)
    (case P b 45 (Some (Minus, 1)) _ (one Minus 45 refl)
    (case P b 42 (Some (Times, 1)) _ (one Times 42 refl)
    (case P b 47 (Some (Divide, 1)) _ (one Divide 47 refl)
    (case P b 38 (Some (Ampersand, 1)) _ (one Ampersand 38 refl)
    (none b))))))))))))))

double_all : (P : ℕ → ℕ → Found → Type 0) → ((s : Symbol) (k l : ℕ) → symbol_text s ≡ k ∷ l ∷ [] → P k l (Some (s, 2))) → ((b d : ℕ) → P b d (single b)) → (b d : ℕ) → P b d (double b d)
double_all P two one b d =
    cond_both (eqb b 58) _ _ (P b d)
    (λ e. cond_both (eqb d 61) _ _ (P b d) (λ f. at Becomes 58 61 refl e f) (λ f. one b d))
    (λ e. cond_both (eqb b 60) _ _ (P b d)
    (λ e. cond_both (eqb d 62) _ _ (P b d) (λ f. at Unequal 60 62 refl e f) (λ f. cond_both (eqb d 61) _ _ (P b d) (λ f. at AtMost 60 61 refl e f) (λ f. one b d)))
    (λ e. cond_both (eqb b 62) _ _ (P b d) (λ e. cond_both (eqb d 61) _ _ (P b d) (λ f. at AtLeast 62 61 refl e f) (λ f. one b d)) (λ e. one b d)))
  where
    at : (s : Symbol) (k l : ℕ) → symbol_text s ≡ k ∷ l ∷ [] → eqb b k ≡ true → eqb d l ≡ true → P b d (Some (s, 2))
    at s k l t e f =
        subst (λ (v : ℕ). P v d (Some (s, 2))) (sym (eqb-true b k e)) (subst (λ (v : ℕ). P k v (Some (s, 2))) (sym (eqb-true d l f)) (two s k l t))

-- a symbol that is cut stands at the front, as it is written
abbrev pub Stands : List ℕ → Found → Type 0
Stands xs None = Unit {0}
Stands xs (Some f) = (f.1 ≡ length (symbol_text f.0)) × ((rest : List ℕ) × (xs ≡ symbol_text f.0 ++ rest))

single_stands : (xs : List ℕ) (b : ℕ) → Stands (b ∷ xs) (single b)
single_stands xs = single_all (λ v o. Stands (v ∷ xs) o) (λ s k t. (rw t, (xs, rw t))) (λ b. tt)

pub sign_stands : (xs : List ℕ) → Stands xs (sign_of xs)
sign_stands [] = tt
sign_stands (b ∷ []) = single_stands [] b
sign_stands (b ∷ d ∷ xs) = double_all (λ v w o. Stands (v ∷ w ∷ xs) o) (λ s k l t. (rw t, (xs, rw t))) (λ v w. single_stands (w ∷ xs) v) b d

-- where a symbol stands, one is cut that is as long at least
abbrev pub Reaches : ℕ → Found → Type 0
Reaches m None = ⊥
Reaches m (Some f) = m ≤ f.1

either : (t : Bool) (m : ℕ) (x y : Found) → Reaches m x → Reaches m y → Reaches m (cond t x y)
either true m x y p q = p
either false m x y p q = q

pub sign_longest : (s : Symbol) (rest : List ℕ) → Reaches (length (symbol_text s)) (sign_of (symbol_text s ++ rest))
sign_longest Becomes rest = omega arith
sign_longest Unequal rest = omega arith
sign_longest AtMost rest = omega arith
sign_longest AtLeast rest = omega arith
sign_longest Semicolon [] = omega arith
sign_longest Semicolon (d ∷ rest) = omega arith
sign_longest Comma [] = omega arith
sign_longest Comma (d ∷ rest) = omega arith
sign_longest Dot [] = omega arith
sign_longest Dot (d ∷ rest) = omega arith
sign_longest Open [] = omega arith
sign_longest Open (d ∷ rest) = omega arith
sign_longest Close [] = omega arith
sign_longest Close (d ∷ rest) = omega arith
sign_longest Equal [] = omega arith
sign_longest Equal (d ∷ rest) = omega arith
sign_longest Plus [] = omega arith
sign_longest Plus (d ∷ rest) = omega arith
sign_longest Minus [] = omega arith
sign_longest Minus (d ∷ rest) = omega arith
sign_longest Times [] = omega arith
sign_longest Times (d ∷ rest) = omega arith
sign_longest Divide [] = omega arith
sign_longest Divide (d ∷ rest) = omega arith
sign_longest Ampersand [] = omega arith
sign_longest Ampersand (d ∷ rest) = omega arith
sign_longest Colon [] = omega arith
sign_longest Colon (d ∷ rest) = either (eqb d 61) 1 (Some (Becomes, 2)) (Some (Colon, 1)) (omega arith) (omega arith)
sign_longest Less [] = omega arith
sign_longest Less (d ∷ rest) =
    either (eqb d 62) 1 (Some (Unequal, 2)) (cond (eqb d 61) (Some (AtMost, 2)) (Some (Less, 1))) (omega arith)
    (either (eqb d 61) 1 (Some (AtMost, 2)) (Some (Less, 1)) (omega arith) (omega arith))
sign_longest Greater [] = omega arith
sign_longest Greater (d ∷ rest) = either (eqb d 61) 1 (Some (AtLeast, 2)) (Some (Greater, 1)) (omega arith) (omega arith)
