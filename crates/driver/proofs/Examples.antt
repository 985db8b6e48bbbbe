-- The table of examples: the machine by computing, and the meaning by the theorem. Assumes nothing.
use Rattle.std.proofs.Common.{ℕ, ◌≤◌, List, [], ◌∷◌, ◌++◌, length, map, arith}
use Rattle.arith.specs.Integers.{int, integer_word, sum, difference, product, quotient, remainder, negation, within, subscript, case_index, turns}
use Rattle.arith.specs.Logicals.{odd}
use Rattle.arith.specs.Relations.{comparison, lcomparison}
use Rattle.arith.specs.Fields.{with_field, field}
use Rattle.machine.specs.Table.{op_of_number}
use Rattle.machine.specs.Machine.{goes, step, run}
use Rattle.compiler.proofs.Examples.{stages, examples as code_examples}
use Rattle.compiler.specs.Examples.{Row as CodeRow, rows as code_rows}
use Rattle.compiler.specs.Examples as code
use Rattle.driver.proofs.Meant.{meant}
use Rattle.driver.specs.Examples.{Run, OnMachine, Row, compiling, running, HoldAll, runs, Examples}

steps : ℕ
unfolding int integer_word sum difference product quotient remainder negation within subscript case_index turns odd comparison lcomparison with_field field op_of_number goes step run
steps = 0

abbrev RunAll : List Run → Type 0
RunAll [] = Unit {0}
RunAll (r ∷ rs) = OnMachine r × RunAll rs

on_machine : RunAll runs
unfolding stages steps
on_machine = search

-- the cells of each are there
abbrev ThereAll : List Run → Type 0
ThereAll [] = Unit {0}
ThereAll (r ∷ rs) = (r.code.cells ≤ length r.cells) × ThereAll rs

there : ThereAll runs
there =
    (omega arith, (omega arith, (omega arith, (omega arith, (omega arith, (omega arith, (omega arith, (omega arith, (omega arith, (omega arith, (omega arith, (omega arith, (omega arith, tt)))))))))))))

meant_all : (rs : List Run) → RunAll rs → ThereAll rs → HoldAll (map running rs)
meant_all [] h l = tt
meant_all (r ∷ rs) h l = ((h.0, meant r h.0 l.0), meant_all rs h.1 l.1)

join : (xs ys : List Row) → HoldAll xs → HoldAll ys → HoldAll (xs ++ ys)
join [] ys h k = k
join (x ∷ xs) ys h k = (h.0, join xs ys h.1 k)

compiled_all : (rs : List CodeRow) → code.HoldAll rs → HoldAll (map compiling rs)
compiled_all [] h = tt
compiled_all (r ∷ rs) h = (h.0, compiled_all rs h.1)

pub examples : Examples
examples = record { all = join (map running runs) (map compiling code_rows) (meant_all runs on_machine there) (compiled_all code_rows code_examples.all) }
