-- A whole source. Assumes nothing.
use Rattle.std.proofs.Common.{◌≡◌, ℕ, ◌≤◌, Bool, true, false, cond, ltb, List, [], length, Ok, Err, Result, sym as turned, refl, ap, ◌∙◌, arith}
use Rattle.std.proofs.lemmas.Bool.{ltb-false}
use Rattle.base.specs.declared.refusal.Refusal.{Refusal}
use Rattle.base.specs.Refusals.{refuse, then}
use Rattle.lexer.specs.Cut.{Piece, tokens_left, token_list}
use Rattle.parser.specs.declared.node.Node.{Node as CodeNode}
use Rattle.parser.specs.Nodes.{Node, node_list}
use Rattle.parser.specs.Machine.{ParseAnswer, behind, program}
use Rattle.parser.specs.Works.{parse, syntax_list}

pub entries_none : (ns : List CodeNode) → ns ≡ [] → node_list ns ≡ []
unfolding node_list
entries_none ns e = ap node_list e

chosen : (b : Bool) (n : ℕ) (x : Result (List Piece) Refusal) (ts : List Piece) → ltb 32768 n ≡ b → cond b (refuse 1 32768) x ≡ Ok ts → n ≤ 32768
chosen true n x ts b e = absurd (let z : ◌≡◌ {A = ℕ} 0 1 = cc in omega arith)
chosen false n x ts b e = omega (arith, ltb-false 32768 n b)

pub short_source : (source : List ℕ) (ts : List Piece) → token_list source ≡ Ok ts → length source ≤ 32768
unfolding token_list
short_source source ts e = chosen _ (length source) _ ts refl e

pub read_text : (source : List ℕ) (f : Refusal) → token_list source ≡ Err f → syntax_list source ≡ Err f
unfolding syntax_list
read_text source f e = ap (λ t. then t (parse (length source))) e

pub read_whole : (source : List ℕ) (o : List Node) (x : ParseAnswer) → token_list source ≡ Ok (tokens_left (length source) source) → o ≡ [] → behind (length source) source program o ≡ x → syntax_list source ≡ x
unfolding syntax_list parse behind
read_whole source o x e z h = ap (λ t. then t (parse (length source))) e ∙ ap (behind (length source) source program) (turned z) ∙ h
