-- The table of examples, by computing. Assumes nothing.
use Rattle.std.proofs.Common.{ℕ}
use Rattle.lexer.specs.Lexemes.{value_of, closing, gap_of}
use Rattle.lexer.specs.Reserved.{reserved_words, keyword_of}
use Rattle.lexer.specs.Cut.{lexeme, cut, tokens_left, fault, token_list}
use Rattle.parser.specs.Machine.{statement_at, step_at, limit_at, later}
use Rattle.parser.specs.Works.{parse, syntax_list}
use Rattle.sema.specs.Names.{use_refusal, declaration_refusal}
use Rattle.sema.specs.Sizes.{cells_at}
use Rattle.sema.specs.Tables.{row_of, declare}
use Rattle.sema.specs.Works.{verdict, list_check, source_check}
use Rattle.sema.specs.Emitting.{typed_list}
use Rattle.ir.specs.Instrs.{peak}
use Rattle.codegen.specs.Items.{code_of_items}
use Rattle.image.specs.Codes.{entry_bytes, image, good_entry, good_header}
use Rattle.image.specs.Groups.{number_bytes, more, number}
use Rattle.image.specs.Reading.{entry_at, entries_at, figures_at, decoding}
use Rattle.image.specs.Writing.{entry_refusal as judged_entries, encoding}
use Rattle.base.specs.Ops.{operands_of}
use Rattle.compiler.specs.Compile.{compilation}
use Rattle.compiler.specs.Examples.{Examples}

unfoldable pub stages : ℕ
unfolding value_of closing gap_of reserved_words keyword_of lexeme cut tokens_left fault token_list statement_at step_at limit_at later parse syntax_list use_refusal declaration_refusal cells_at row_of declare verdict list_check source_check typed_list peak code_of_items compilation
stages = 0

images : ℕ
unfolding operands_of entry_bytes image good_entry good_header number_bytes more number entry_at entries_at figures_at decoding judged_entries encoding
images = 0

pub examples : Examples
unfolding stages images
examples = record { all = search }
