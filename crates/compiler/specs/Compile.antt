-- What a source is compiled to, and what `compile` leaves.
use Rattle.std.specs.Prelude.{◌≡◌, ℕ, min, cond, List, ◌++◌, map, length, drop, None, Ok, Err, Result, nat_le}
use Rattle.base.specs.Limits.{most_levels, most_instructions}
use Rattle.base.specs.declared.instr.Instr.{Instr}
use Rattle.base.specs.declared.code.Figures.{Figures}
use Rattle.base.specs.declared.refusal.Refusal.{Refusal}
use Rattle.base.specs.Refusals.{refuse, then}
use Rattle.lexer.specs.Cut.{Piece, token_list}
use Rattle.parser.specs.Marks.{piece_tok}
use Rattle.ast.specs.Trees.{Program}
use Rattle.grammar.specs.Grammar.{ProgramWritten}
use Rattle.ir.specs.Instrs.{peak}
use Rattle.codegen.specs.Code.{program, depth}
use Rattle.sema.specs.Rules.{KeepsTheRules, widths}
use Rattle.sema.specs.Resolving.{resolve}
use Rattle.parser.specs.Works.{syntax_list}
use Rattle.sema.specs.declared.workspace.Workspace.{Workspace}
use Rattle.sema.specs.Works.{CheckedSource, source_check, holds, nothing, nodes_of, nodes_from}
use Rattle.codegen.specs.Items.{code_of_items}
use Rattle.compiler.specs.declared.fault.CompileFault.{CompileFault}
use Rattle.compiler.specs.Faults.{refusal_of}

-- The code of a source: the number of cells that it uses, its depth, and its instructions.
pub record Code : Type 0 where
  pub cells : ℕ
  pub depth : ℕ
  pub instrs : List Instr

-- The code of a source that passed the stages before its code.
abbrev pub code_of : CheckedSource → Code
code_of c = record { cells = c.table.cells; depth = peak 0 (code_of_items c.items); instrs = code_of_items c.items }

-- The code c, if it has at most 16,383 instructions and at most as many as the table has entries; else 14 at the
-- length of the source.
abbrev pub code_or_too_long : (room length : ℕ) → Code → Result Code Refusal
code_or_too_long room n c = cond (nat_le (length c.instrs) (min most_instructions room)) (Ok c) (refuse 14 n)

-- What a source is compiled to, for a table of `room` entries, or its refusal. The stages are text, grammar, names,
-- types, sizes, and the length of the code.
unfoldable pub compilation : List ℕ → (room : ℕ) → Result Code Refusal
compilation source room = then (source_check source) (λ c. code_or_too_long room (length source) (code_of c))

-- The source is the text of the tree p, within 32 levels.
pub record IsWritten (source : List ℕ) (p : Program) : Type 0 where
  pub pieces : List Piece
  pub cut : token_list source ≡ Ok pieces
  pub written : ProgramWritten most_levels p (map piece_tok pieces)

-- An accepted source is the text of the tree p, which keeps the rules of names, types and sizes, and c has the code,
-- the cells and the depth that the rules give for this tree.
pub record CompiledTree (source : List ℕ) (p : Program) (c : Code) : Type 0 where
  pub written : IsWritten source p
  pub admitted : KeepsTheRules p
  pub cells : c.cells ≡ widths p.decls
  pub depth : c.depth ≡ depth (resolve p)
  pub instrs : c.instrs ≡ program (resolve p)

-- What a workspace holds of a source after its stages; nothing if a stage before its code refused it.
abbrev pub work_after : Result CheckedSource Refusal → CheckedSource
work_after (Ok c) = c
work_after (Err f) = nothing

-- What `compile` leaves. If the source is accepted, its code stands at the front of the table, the rest of the table
-- has not changed, and the workspace holds the names and the items of the source. If it is refused, the table is as
-- it was. In either case the workspace holds the syntax list of the source, if the grammar accepts it.
abbrev pub Compiles : List ℕ → Workspace → (before after : List Instr) → Result Figures CompileFault → Type 0
Compiles source w a b (Ok f) =
    (source_check source ≡ Ok (holds w))
    × (compilation source (length a) ≡ Ok (code_of (holds w)))
    × (f.cells ≡ (code_of (holds w)).cells)
    × (f.depth ≡ (code_of (holds w)).depth)
    × (f.count ≡ length (code_of (holds w)).instrs)
    × (b ≡ (code_of (holds w)).instrs ++ drop f.count a)
    × (nodes_of w ≡ nodes_from (syntax_list source))
Compiles source w a b (Err e) =
    (compilation source (length a) ≡ Err (refusal_of e)) × (b ≡ a) × (holds w ≡ work_after (source_check source)) × (nodes_of w ≡ nodes_from (syntax_list source))
