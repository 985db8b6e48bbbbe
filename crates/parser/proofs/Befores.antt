-- What a promise that holds whatever comes below says of some goals below. Assumes nothing.
use Rattle.std.proofs.Common.{◌≡◌, ℕ, List, [], ◌∷◌, ◌++◌, Ok, Err, Result, refl, ap, ◌∙◌}
use Rattle.parser.specs.declared.fault.GrammarFault.{GrammarFault}
use Rattle.parser.specs.declared.lexeme.Strength.{Strength}
use Rattle.parser.specs.declared.lexeme.Strength.TheVariants as strength
use Rattle.parser.specs.declared.reader.Reader.{Reader}
use Rattle.lexer.specs.declared.token.Keyword.TheVariants as kw
use Rattle.lexer.specs.declared.token.Symbol.TheVariants as sign
use Rattle.parser.specs.Nodes as node
use Rattle.parser.specs.Machine.{Goal, stmt, word, put, sym, block, arms, otherwise, condition, declarations, finish, wants, right, more, program}
use Rattle.parser.specs.Readers.{ReadsGoals, ReadsFirst, Reads, ReadsStatement, runs}

pub stated : (l : ℕ) (r r' : Reader) (a : Result (Unit {0}) GrammarFault) → ReadsGoals 0 0 (stmt l ∷ []) r r' a → ReadsStatement l r r' a
stated l r r' (Ok u) d =
    let e = d.2.reads in (
      d.0,
      d.1,
      record {
        in_block = λ k. e (block l ∷ k);
        in_case = λ k. e (arms l ∷ k);
        in_then = λ k. e (otherwise l ∷ k);
        in_else = λ k. e (put node.Fi ∷ k);
        in_while = λ k. e (put node.Loop ∷ k);
        in_do = λ k. e (word kw.Until ∷ put node.Until ∷ condition l ++ put node.Done ∷ k);
        in_for = λ n k. e (put (node.Next n) ∷ put node.Drop ∷ k);
      },
    )
stated l r r' (Err x) d =
    let e = d.1 in (
      d.0,
      record {
        in_block = λ k. e (block l ∷ k);
        in_case = λ k. e (arms l ∷ k);
        in_then = λ k. e (otherwise l ∷ k);
        in_else = λ k. e (put node.Fi ∷ k);
        in_while = λ k. e (put node.Loop ∷ k);
        in_do = λ k. e (word kw.Until ∷ put node.Until ∷ condition l ++ put node.Done ∷ k);
        in_for = λ n k. e (put (node.Next n) ∷ put node.Drop ∷ k);
      },
    )

-- the same goals in another form
pub same : (m c : ℕ) (gs hs : List Goal) (r r' : Reader) (a : Result (Unit {0}) GrammarFault) → ((k : List Goal) → runs r (hs ++ k) ≡ runs r (gs ++ k)) → ReadsGoals m c gs r r' a → ReadsGoals m c hs r r' a
same m c gs hs r r' (Ok u) e d = (d.0, d.1, record { reads = λ k. e k ∙ d.2.reads k })
same m c gs hs r r' (Err x) e d = (d.0, λ k. e k ∙ d.1 k)

-- what stands left of the operators of a strength other than Sum is what may stand right of them
wants_right : (s : Strength) → (s ≡ strength.Sum → ⊥) → (l : ℕ) (k : List Goal) → wants s l ++ k ≡ right s l ++ more s l ∷ k
wants_right strength.Lor n l k = refl
wants_right strength.Xor n l k = refl
wants_right strength.Land n l k = refl
wants_right strength.Relation n l k = refl
wants_right strength.Sum n l k = absurd (n refl)
wants_right strength.Term n l k = refl

pub leftmost : (s : Strength) → (s ≡ strength.Sum → ⊥) → (l : ℕ) (r r' : Reader) (a : Result (Unit {0}) GrammarFault) → ReadsGoals 0 1 (right s l) r r' a → ReadsFirst s l r r' a
leftmost s n l r r' (Ok u) d = (d.0, d.1, λ k. ap (runs r) (wants_right s n l k) ∙ d.2.reads (more s l ∷ k))
leftmost s n l r r' (Err x) d = (d.0, λ k. ap (runs r) (wants_right s n l k) ∙ d.1 (more s l ∷ k))

-- the parts of a program one after the other
module _ (r₀ r₁ r₂ r₃ r₄ : Reader) where
  pub to_declarations : Reads (word kw.Begin ∷ []) r₀ r₁ → runs r₀ program ≡ runs r₁ (declarations ∷ stmt 31 ∷ block 31 ∷ sym sign.Dot ∷ finish ∷ [])
  to_declarations a = a.reads (declarations ∷ stmt 31 ∷ block 31 ∷ sym sign.Dot ∷ finish ∷ [])

  pub to_block : Reads (word kw.Begin ∷ []) r₀ r₁ → Reads (declarations ∷ []) r₁ r₂ → runs r₀ program ≡ runs r₂ (stmt 31 ∷ block 31 ∷ sym sign.Dot ∷ finish ∷ [])
  to_block a b = to_declarations a ∙ b.reads (stmt 31 ∷ block 31 ∷ sym sign.Dot ∷ finish ∷ [])

  pub to_dot : Reads (word kw.Begin ∷ []) r₀ r₁ → Reads (declarations ∷ []) r₁ r₂ → Reads (stmt 31 ∷ block 31 ∷ []) r₂ r₃ → runs r₀ program ≡ runs r₃ (sym sign.Dot ∷ finish ∷ [])
  to_dot a b d = to_block a b ∙ d.reads (sym sign.Dot ∷ finish ∷ [])

  pub to_end : Reads (word kw.Begin ∷ []) r₀ r₁ → Reads (declarations ∷ []) r₁ r₂ → Reads (stmt 31 ∷ block 31 ∷ []) r₂ r₃ → Reads (sym sign.Dot ∷ []) r₃ r₄ → runs r₀ program ≡ runs r₄ (finish ∷ [])
  to_end a b d e = to_dot a b d ∙ e.reads (finish ∷ [])
