-- What is proved of the reader, stated by the grammar.
use Rattle.std.specs.Prelude.{◌≡◌, ℕ, true, List, map, Ok}
use Rattle.base.specs.Limits.{most_levels}
use Rattle.lexer.specs.declared.token.Keyword.{Keyword}
use Rattle.lexer.specs.declared.token.Symbol.{Symbol}
use Rattle.parser.specs.declared.lexeme.Strength.{Strength}
use Rattle.lexer.specs.Cut.{Piece}
use Rattle.parser.specs.Nodes.{Node}
use Rattle.parser.specs.Marks.{Tok, piece_tok, same_symbol, same_keyword, same_strength}
use Rattle.parser.specs.Works.{parse, syntax_list}
use Rattle.ast.specs.Trees.{Program}
use Rattle.ast.specs.Lists.{list}
use Rattle.grammar.specs.Grammar.{ProgramWritten}

-- The tokens are a program within 32 levels, and these are its nodes.
abbrev pub Writes : List Tok → List Node → Type 0
Writes ts es = (p : Program) × ProgramWritten most_levels p ts × (list p ≡ es)

-- Tokens are read to a list of nodes exactly where they are a program with these nodes.
abbrev pub ReadsTheGrammar : Type 0
ReadsTheGrammar =
    (end : ℕ) (ps : List Piece) (es : List Node) → (parse end ps ≡ Ok es → Writes (map piece_tok ps) es) × (Writes (map piece_tok ps) es → parse end ps ≡ Ok es)

-- Every list that a source is read to is the list of some tree.
abbrev pub ListsATree : Type 0
ListsATree = (source : List ℕ) (es : List Node) → syntax_list source ≡ Ok es → (p : Program) × (list p ≡ es)

-- No two trees have the same tokens, whatever levels they are read within.
abbrev pub OneTree : Type 0
OneTree = (l m : ℕ) (p q : Program) (ts : List Tok) → ProgramWritten l p ts → ProgramWritten m q ts → p ≡ q

-- Two symbols, two reserved words and two strengths are the same to the reader exactly where they are the same.
pub record ToldApart : Type 0 where
  pub symbols : (a b : Symbol) → (same_symbol a b ≡ true → a ≡ b) × (a ≡ b → same_symbol a b ≡ true)
  pub keywords : (a b : Keyword) → (same_keyword a b ≡ true → a ≡ b) × (a ≡ b → same_keyword a b ≡ true)
  pub strengths : (a b : Strength) → (same_strength a b ≡ true → a ≡ b) × (a ≡ b → same_strength a b ≡ true)
