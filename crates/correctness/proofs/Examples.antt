-- The examples, by computing.
use Rattle.std.proofs.Common.{ℕ, [], ◌∷◌, refl, arith}
use Rattle.arith.specs.Integers.{int, integer_word, sum, difference, product, quotient, remainder, negation, within, subscript, case_index, turns}
use Rattle.arith.specs.Logicals.{odd}
use Rattle.arith.specs.Relations.{comparison}
use Rattle.arith.specs.Fields.{with_field}
use Rattle.ir.specs.Instrs.{peak}
use Rattle.codegen.specs.Code.{program, depth}
use Rattle.machine.specs.Table.{op_of_number}
use Rattle.machine.specs.Machine.{goes, step, run}
use Rattle.semantics.specs.Meaning.{Within}
use Rattle.semantics.specs.Examples.{filling}
use Rattle.machine.specs.Calls.{state_after_calls}
use Rattle.correctness.specs.Agreement.{after}
use Rattle.correctness.specs.Examples.{Examples}
use Rattle.correctness.proofs.Whole.{agreement}

all : ℕ
unfolding int integer_word sum difference product quotient remainder negation within subscript case_index turns odd comparison with_field peak program depth op_of_number goes step run after state_after_calls
all = 0

named : Within filling 5
named = ((omega arith, tt, omega arith, (omega arith, tt), ((omega arith, omega arith, omega arith), tt)), tt)

pub examples : Examples
unfolding all
examples =
    record {
      code = refl;
      deep = refl;
      runs = refl;
      calls = refl;
      stops = refl;
      cells = refl;
      writes = refl;
      within = named;
      keeps = agreement filling (0 ∷ 0 ∷ 0 ∷ 0 ∷ []) (7 ∷ 0 ∷ 0 ∷ 0 ∷ 0 ∷ []) named (omega arith);
    }
