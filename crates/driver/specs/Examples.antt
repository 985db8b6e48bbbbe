-- A table of sources, numbers and images, and of sources from their text to the end of their run, on the machine and
-- by their meaning; and the statement that every row of it holds.
use Rattle.std.specs.Prelude.{◌≡◌, ℕ, List, [], ◌∷◌, ◌++◌, length, map, replicate, codes, Some, Ok, Option}
use Rattle.base.specs.Limits.{most_instructions}
use Rattle.arith.specs.declared.stop.Stop.TheVariants.{Overflow, ZeroDivisor, BadIndex, BadCase}
use Rattle.ast.specs.Trees.{Program}
use Rattle.sema.specs.Resolving.{resolve}
use Rattle.base.specs.declared.instr.Instr.{Instr}
use Rattle.base.specs.declared.op.Op.TheVariants as op
use Rattle.ir.specs.Instrs.{of, HALT, LIT, LOAD, STOR, STX, CHK, DROP, BR, BRE, CASE, FOR, NEXT}
use Rattle.machine.specs.declared.ending.Ending.{Ending}
use Rattle.machine.specs.declared.ending.Ending.TheVariants.{Halted, Stopped}
use Rattle.machine.specs.Machine.{State, state, run}
use Rattle.semantics.specs.Effects.{leave, writes_of}
use Rattle.semantics.specs.Meaning.{exec}
use Rattle.machine.specs.Sessions.{initial_registers}
use Rattle.correctness.specs.Agreement.{end_of}
use Rattle.compiler.specs.Compile.{Code, compilation, CompiledTree}
use Rattle.compiler.specs.Examples.{Row as CodeRow, rows as code_rows}
use Rattle.compiler.specs.Examples as code

-- How a run came out: the ending, if there is one, the steps, the writes and the cells.
pub record Outcome : Type 0 where
  pub ending : Option Ending
  pub steps : ℕ
  pub writes : ℕ
  pub cells : List ℕ

-- How a run came out that left this state.
abbrev pub outcome_of : State → Outcome
outcome_of s =
    record { ending = s.registers.ending; steps = s.registers.steps; writes = s.registers.writes; cells = s.cells }

-- How the code c comes out on a stack of its depth, after at most n steps.
abbrev pub finished : ℕ → List ℕ → Code → Outcome
finished n σ c = outcome_of (run c.instrs c.depth n (state initial_registers (replicate c.depth 0) σ))

-- A run of the table: the text, its code, the cells at first, the number of steps that it may make at most, and how
-- it ends.
pub record Run : Type 0 where
  pub text : List ℕ
  pub code : Code
  pub cells : List ℕ
  pub most : ℕ
  pub ending : Ending
  pub steps : ℕ
  pub writes : ℕ
  pub left : List ℕ

-- The text has this code, and the machine ends on it as the run says.
pub record OnMachine (r : Run) : Type 0 where
  pub compiles : compilation r.text most_instructions ≡ Ok r.code
  pub ends : finished r.most r.cells r.code ≡ record { ending = Some r.ending; steps = r.steps; writes = r.writes; cells = r.left }

-- The meaning of the text agrees with the run: for some bound on the turns of loops its tree makes as many writes,
-- which leave these cells, and has this ending.
pub record Meant (r : Run) : Type 0 where
  pub tree : Program
  pub compiles : CompiledTree r.text tree r.code
  pub bound : ℕ
  pub ends : end_of (exec (resolve tree) bound r.cells) ≡ Some r.ending
  pub writes : length (writes_of (exec (resolve tree) bound r.cells)) ≡ r.writes
  pub left : leave (writes_of (exec (resolve tree) bound r.cells)) r.cells ≡ r.left

-- A row of the table: a row of the compiler's table, or a run.
pub data Row : Type 0 where
  compiling : CodeRow → Row
  running : Run → Row

-- What a row says holds.
abbrev pub Holds : Row → Type 0
Holds (compiling r) = code.Holds r
Holds (running r) = OnMachine r × Meant r

-- Every row of the list holds.
abbrev pub HoldAll : List Row → Type 0
HoldAll [] = Unit {0}
HoldAll (r ∷ rs) = Holds r × HoldAll rs

-- A run with these values.
abbrev pub ran : List ℕ → Code → (before : List ℕ) (most : ℕ) → Ending → (steps writes : ℕ) → (after : List ℕ) → Run
ran t c σ n e s w τ = record { text = t; code = c; cells = σ; most = n; ending = e; steps = s; writes = w; left = τ }

-- The code with these cells, this depth and these instructions.
abbrev pub coded : (cells depth : ℕ) → List Instr → Code
coded c d is = record { cells = c; depth = d; instrs = is }

-- IF J <> 0 AND 10 / J > 2 THEN J := 1
abbrev pub guarded : List ℕ
guarded = codes "BEGIN INTEGER J; IF J <> 0 AND 10 / J > 2 THEN J := 1; END."

-- The code of `guarded`.
abbrev pub guarded_code : Code
guarded_code =
    coded 1 2
    (LOAD 0 ∷ LIT 0 ∷ of op.Cmp 1 0 ∷ BRE 12 ∷ LIT 10 ∷ LOAD 0 ∷ of op.Div 0 0 ∷ LIT 2 ∷ of op.Cmp 4 0 ∷ BRE 12 ∷ LIT 1 ∷ STOR 0 ∷ HALT ∷ [])

-- CASE N OF BEGIN N := 5; N := 6 END
abbrev pub choosing : List ℕ
choosing = codes "BEGIN INTEGER N; CASE N OF BEGIN N := 5; N := 6 END; END."

-- The code of `choosing`.
abbrev pub choosing_code : Code
choosing_code =
    coded 1 1 (LOAD 0 ∷ CASE 2 2 ∷ BR 4 ∷ BR 7 ∷ LIT 5 ∷ STOR 0 ∷ BR 10 ∷ LIT 6 ∷ STOR 0 ∷ BR 10 ∷ HALT ∷ [])

-- The code of FOR I := first UNTIL limit DO.
abbrev pub counting_code : (first limit : ℕ) → Code
counting_code f l = coded 1 2 (LIT f ∷ STOR 0 ∷ LIT 1 ∷ LIT l ∷ FOR 0 6 ∷ NEXT 0 4 ∷ DROP 2 ∷ HALT ∷ [])

-- All runs of the table.
abbrev pub runs : List Run
runs =
    ran (codes "BEGIN END.") (coded 0 0 (HALT ∷ [])) [] 9 Halted 1 0 [] ∷
    ran (codes "BEGIN INTEGER N; N := 7 - 2 * 3; END.") (coded 1 3 (LIT 7 ∷ LIT 2 ∷ LIT 3 ∷ of op.Mul 0 0 ∷ of op.Sub 0 0 ∷ STOR 0 ∷ HALT ∷ [])) (9 ∷ []) 9 Halted 7 1 (1 ∷ []) ∷
    ran (codes "BEGIN LOGICAL L; L := %101.(8:2); END.") (coded 1 1 (LIT 65 ∷ of op.Fld 8 2 ∷ STOR 0 ∷ HALT ∷ [])) (9 ∷ []) 9 Halted 4 1 (1 ∷ []) ∷
    -- only the first value is written
    ran (codes "BEGIN INTEGER I; FOR I := 5 UNTIL 4 DO; END.") (counting_code 5 4) (9 ∷ []) 20 Halted 7 1 (5 ∷ []) ∷
    -- the last turn would write 32768
    ran (codes "BEGIN INTEGER I; FOR I := 32767 UNTIL 32767 DO; END.") (counting_code 32767 32767) (9 ∷ []) 20 (Stopped Overflow) 6 1 (32767 ∷ []) ∷
    -- what follows a false expression is not worked out, so nothing is divided by 0
    ran guarded guarded_code (0 ∷ []) 20 Halted 5 0 (0 ∷ []) ∷
    ran guarded guarded_code (3 ∷ []) 20 Halted 13 1 (1 ∷ []) ∷
    -- an even word counts as false
    ran (codes "BEGIN LOGICAL L; IF %2 THEN L := %7; END.") (coded 1 1 (LIT 2 ∷ BRE 4 ∷ LIT 7 ∷ STOR 0 ∷ HALT ∷ [])) (9 ∷ []) 9 Halted 3 0 (9 ∷ []) ∷
    -- LOGICALs are compared without a sign
    ran (codes "BEGIN LOGICAL L; L := %177777 > %1; END.") (coded 1 2 (LIT 65535 ∷ LIT 1 ∷ of op.Lcmp 4 0 ∷ STOR 0 ∷ HALT ∷ [])) (9 ∷ []) 9 Halted 5 1 (65535 ∷ []) ∷
    -- the stops 2 to 4
    ran (codes "BEGIN INTEGER J; J := 10 / J; END.") (coded 1 2 (LIT 10 ∷ LOAD 0 ∷ of op.Div 0 0 ∷ STOR 0 ∷ HALT ∷ [])) (0 ∷ []) 20 (Stopped ZeroDivisor) 3 0 (0 ∷ []) ∷
    ran (codes "BEGIN INTEGER ARRAY A(0:2); A(3) := 1; END.") (coded 3 2 (LIT 3 ∷ CHK 3 ∷ LIT 1 ∷ STX 0 3 ∷ HALT ∷ [])) (7 ∷ 8 ∷ 9 ∷ []) 20 (Stopped BadIndex) 2 0 (7 ∷ 8 ∷ 9 ∷ []) ∷
    ran choosing choosing_code (2 ∷ []) 20 (Stopped BadCase) 2 0 (2 ∷ []) ∷
    ran choosing choosing_code (1 ∷ []) 20 Halted 7 1 (6 ∷ []) ∷
    []

-- All rows: the runs, and the rows of the compiler's table, which have no run.
abbrev pub rows : List Row
rows = map running runs ++ map compiling code_rows

-- Every row of the table holds.
pub record Examples : Type 0 where
  pub all : HoldAll rows
