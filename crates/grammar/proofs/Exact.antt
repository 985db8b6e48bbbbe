-- The reader reads exactly the grammar. Assumes nothing.
use Rattle.std.proofs.Common.{◌≡◌, ℕ, ◌+◌, List, [], map, length, Ok, Err, Result, sym, refl, ap, ◌∙◌, arith}
use Rattle.base.specs.declared.refusal.Refusal.{Refusal}
use Rattle.base.specs.Refusals.{then}
use Rattle.lexer.specs.Cut.{Piece, token_list}
use Rattle.parser.specs.Nodes.{Node}
use Rattle.parser.specs.Marks.{piece_tok}
use Rattle.parser.specs.Machine.{program}
use Rattle.parser.specs.Works.{parse, syntax_list}
use Rattle.grammar.specs.Theorems.{ReadsTheGrammar, ListsATree, OneTree}
use Rattle.grammar.proofs.Runs.{run, later_run}
use Rattle.grammar.proofs.Complete.{program_reads}
use Rattle.grammar.proofs.Rebuild.{list_one}
use Rattle.grammar.proofs.Wider.{program_wider}
use Rattle.grammar.proofs.Sound.{seen_alive, program_sound}

pub parse_run : (end : ℕ) (ps : List Piece) → parse end ps ≡ run end (map piece_tok ps) program []
unfolding parse
parse_run end ps = ap (λ f. f program []) (later_run end ps)

pub reads_the_grammar : ReadsTheGrammar
reads_the_grammar end ps es = (
  λ h. program_sound end 32 (omega arith) (map piece_tok ps) (seen_alive ps) es (sym (parse_run end ps) ∙ h),
  λ w. parse_run end ps ∙ program_reads w.1 end ∙ ap (λ (x : List Node). Ok x) w.2,
)

-- the pieces that a source is cut into
cut_ok : (x : Result (List Piece) Refusal) (end : ℕ) (es : List Node) → then x (parse end) ≡ Ok es → (ps : List Piece) × (x ≡ Ok ps) × (parse end ps ≡ Ok es)
cut_ok (Ok ps) end es h = (ps, refl, h)
cut_ok (Err e) end es h = absurd cc

pub cut_of : (source : List ℕ) (es : List Node) → syntax_list source ≡ Ok es → (ps : List Piece) × (token_list source ≡ Ok ps) × (parse (length source) ps ≡ Ok es)
unfolding syntax_list
cut_of source es h = cut_ok (token_list source) (length source) es h

pub lists_a_tree : ListsATree
lists_a_tree source es h =
    let c = cut_of source es h in
    let w = (reads_the_grammar (length source) c.0 es).0 c.2 in
    (w.0, w.2)

pub one_tree : OneTree
one_tree l m p q ts w v =
    let a = program_reads (program_wider w (l + m) (omega arith)) 0 in
    let b = program_reads (program_wider v (l + m) (omega arith)) 0 in
    list_one p q (cc)
