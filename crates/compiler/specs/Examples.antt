-- A table of sources with what they are compiled to, of numbers and of images; and the statement that every row of it
-- holds.
use Rattle.std.specs.Prelude.{◌≡◌, ℕ, List, [], ◌∷◌, ◌++◌, length, replicate, codes, Ok, Result}
use Rattle.base.specs.Limits.{most_instructions}
use Rattle.base.specs.declared.instr.Instr.{Instr}
use Rattle.base.specs.declared.refusal.Refusal.{Refusal}
use Rattle.base.specs.Refusals.{refuse, then}
use Rattle.base.specs.declared.op.Op.TheVariants as op
use Rattle.ir.specs.Instrs.{of, HALT, LIT, LOAD, STOR, LDX, STX, CHK, DUP, DROP, DEP, BR, BRE, CASE, FOR, NEXT}
use Rattle.image.specs.Codes.{Code as Held, code_from}
use Rattle.image.specs.Groups.{number_bytes}
use Rattle.image.specs.Writing.{encoding}
use Rattle.image.specs.Reading.{decoding}
use Rattle.compiler.specs.Compile.{Code, compilation}

-- A row of the table.
pub data Row : Type 0 where
  -- a source, the number of entries of the table, and its code or its refusal; a source with its image
  source : (text : List ℕ) (room : ℕ) (answer : Result Code Refusal) → Row
  image : (text : List ℕ) (bytes : List ℕ) → Row
  -- a number in groups of seven bits
  number : (n : ℕ) (bytes : List ℕ) → Row
  -- bytes that are not an image, with their refusal
  bad : (bytes : List ℕ) (refusal : Result Held Refusal) → Row

-- What a row says holds of the definitions.
abbrev pub Holds : Row → Type 0
Holds (source text room x) = compilation text room ≡ x
Holds (image text bytes) =
    then (compilation text most_instructions) (λ c. encoding (length bytes) (code_from c.cells c.depth c.instrs)) ≡ Ok bytes
Holds (number n bytes) = number_bytes n ≡ bytes
Holds (bad bytes x) = decoding most_instructions bytes ≡ x

-- Every row of the list holds.
abbrev pub HoldAll : List Row → Type 0
HoldAll [] = Unit {0}
HoldAll (r ∷ rs) = Holds r × HoldAll rs

-- The answer with these cells, this depth and these instructions.
abbrev pub gives : (cells depth : ℕ) → List Instr → Result Code Refusal
gives c d is = Ok record { cells = c; depth = d; instrs = is }

-- A source with one assignment.
abbrev pub plain : List ℕ
plain = codes "BEGIN INTEGER N; N := 7 - 2 * 3; END."

-- A source with 65 names.
abbrev pub many_names : List ℕ
many_names =
    codes "BEGIN INTEGER A,B,C,D,E,F,G,H,I,J,K,L,M,N,O,P,Q,R,S,T,U,V,W,X,Y,Z,"
    ++ codes "AA,AB,AC,AD,AE,AF,AG,AH,AI,AJ,AK,AL,AM,AN,AO,AP,AQ,AR,AS,AT,AU,AV,AW,AX,AY,AZ,"
    ++ codes "BA,BB,BC,BD,BE,BF,BG,BH,BI,BJ,BK,BL,BM; END."

-- All rows of the table.
abbrev pub rows : List Row
rows =
    source plain 7 (gives 1 3 (LIT 7 ∷ LIT 2 ∷ LIT 3 ∷ of op.Mul 0 0 ∷ of op.Sub 0 0 ∷ STOR 0 ∷ HALT ∷ [])) ∷
    image plain (1 ∷ 3 ∷ 7 ∷ 1 ∷ 7 ∷ 1 ∷ 2 ∷ 1 ∷ 3 ∷ 11 ∷ 10 ∷ 3 ∷ 0 ∷ 0 ∷ []) ∷
    source plain 6 (refuse 14 37) ∷
    source (codes "BEGIN END.") 1 (gives 0 0 (HALT ∷ [])) ∷
    source (codes "BEGIN END.") 0 (refuse 14 10) ∷
    source (codes "BEGIN END") 9 (refuse 5 9) ∷
    source [] 9 (refuse 5 0) ∷
    source (codes "BEGIN LOGICAL L; L := 1; END.") 9 (refuse 11 19) ∷
    number 0 (0 ∷ []) ∷
    number 127 (127 ∷ []) ∷
    number 128 (129 ∷ 0 ∷ []) ∷
    number 65535 (131 ∷ 255 ∷ 127 ∷ []) ∷
    bad (128 ∷ 5 ∷ []) (refuse 21 0) ∷
    source (codes "BEGIN LOGICAL L; L := %101.(8:2); END.") 9 (gives 1 1 (LIT 65 ∷ of op.Fld 8 2 ∷ STOR 0 ∷ HALT ∷ [])) ∷
    source (codes "BEGIN INTEGER I; FOR I := 5 UNTIL 4 DO; END.") 9
    (gives 1 2 (LIT 5 ∷ STOR 0 ∷ LIT 1 ∷ LIT 4 ∷ FOR 0 6 ∷ NEXT 0 4 ∷ DROP 2 ∷ HALT ∷ [])) ∷
    source (codes "BEGIN INTEGER I; FOR I := 32767 UNTIL 32767 DO; END.") 9
    (gives 1 2 (LIT 32767 ∷ STOR 0 ∷ LIT 1 ∷ LIT 32767 ∷ FOR 0 6 ∷ NEXT 0 4 ∷ DROP 2 ∷ HALT ∷ [])) ∷
    source (codes "BEGIN INTEGER J; IF J <> 0 AND 10 / J > 2 THEN J := 1; END.") 13
    (gives 1 2
    (LOAD 0 ∷ LIT 0 ∷ of op.Cmp 1 0 ∷ BRE 12 ∷ LIT 10 ∷ LOAD 0 ∷ of op.Div 0 0 ∷ LIT 2 ∷ of op.Cmp 4 0 ∷ BRE 12 ∷ LIT 1 ∷ STOR 0 ∷ HALT ∷ [])) ∷
    -- the forms of assignments
    source (codes "BEGIN ARRAY A(0:2); A(1) := A(2); END.") 9 (gives 3 2 (LIT 1 ∷ CHK 3 ∷ LIT 2 ∷ LDX 0 3 ∷ STX 0 3 ∷ HALT ∷ [])) ∷
    source (codes "BEGIN LOGICAL L; L.(8:2) := %3; END.") 9 (gives 1 2 (LOAD 0 ∷ LIT 3 ∷ DEP 8 2 ∷ STOR 0 ∷ HALT ∷ [])) ∷
    source (codes "BEGIN ARRAY A(0:2); A(1).(8:2) := %3; END.") 9
    (gives 3 3 (LIT 1 ∷ DUP ∷ LDX 0 3 ∷ LIT 3 ∷ DEP 8 2 ∷ STX 0 3 ∷ HALT ∷ [])) ∷
    -- the forms of conditions, branches and loops
    source (codes "BEGIN INTEGER N; IF TRUE THEN N := 1 ELSE N := 2; END.") 9
    (gives 1 1 (LIT 65535 ∷ BRE 5 ∷ LIT 1 ∷ STOR 0 ∷ BR 7 ∷ LIT 2 ∷ STOR 0 ∷ HALT ∷ [])) ∷
    source (codes "BEGIN INTEGER N; IF TRUE AND FALSE OR TRUE THEN N := 1; END.") 10
    (gives 1 1 (LIT 65535 ∷ BRE 5 ∷ LIT 0 ∷ BRE 5 ∷ BR 7 ∷ LIT 65535 ∷ BRE 9 ∷ LIT 1 ∷ STOR 0 ∷ HALT ∷ [])) ∷
    source (codes "BEGIN INTEGER N; WHILE FALSE DO N := 1; END.") 9 (gives 1 1 (LIT 0 ∷ BRE 5 ∷ LIT 1 ∷ STOR 0 ∷ BR 0 ∷ HALT ∷ [])) ∷
    source (codes "BEGIN INTEGER N; DO N := 1 UNTIL TRUE; END.") 9 (gives 1 1 (LIT 1 ∷ STOR 0 ∷ LIT 65535 ∷ BRE 0 ∷ HALT ∷ [])) ∷
    source (codes "BEGIN INTEGER N; CASE N OF BEGIN N := 5; N := 6 END; END.") 11
    (gives 1 1 (LOAD 0 ∷ CASE 2 2 ∷ BR 4 ∷ BR 7 ∷ LIT 5 ∷ STOR 0 ∷ BR 10 ∷ LIT 6 ∷ STOR 0 ∷ BR 10 ∷ HALT ∷ [])) ∷
    source (codes "BEGIN INTEGER N; FOR N := 1 STEP 2 UNTIL 9 DO N := N; END.") 10
    (gives 1 3 (LIT 1 ∷ STOR 0 ∷ LIT 2 ∷ LIT 9 ∷ FOR 0 8 ∷ LOAD 0 ∷ STOR 0 ∷ NEXT 0 4 ∷ DROP 2 ∷ HALT ∷ [])) ∷
    -- refusals, from the text to the sizes
    source (replicate 32769 32) 9 (refuse 1 32768) ∷
    source (codes "BEGIN ? END.") 9 (refuse 2 6) ∷
    source (codes "BEGIN INTEGER N; N := 32768; END.") 9 (refuse 3 22) ∷
    source (codes "BEGIN << END.") 9 (refuse 4 6) ∷
    source (codes "BEGIN INTEGER N; N := ((((((((((((((((((((((((((((((((") 9 (refuse 6 53) ∷
    source (codes "BEGIN N := 1; END.") 9 (refuse 7 6) ∷
    source (codes "BEGIN INTEGER N, N; END.") 9 (refuse 8 17) ∷
    source many_names 9 (refuse 9 180) ∷
    source (codes "BEGIN INTEGER N; N(1) := 1; END.") 9 (refuse 10 17) ∷
    source (codes "BEGIN ARRAY A(1:2); END.") 9 (refuse 12 14) ∷
    source (codes "BEGIN ARRAY A(0:4096); END.") 9 (refuse 13 12) ∷
    -- the earlier stage decides, and in one stage the smaller place
    source (codes "BEGIN INTEGER N; N := %1; M := 1; END.") 9 (refuse 7 26) ∷
    source (codes "BEGIN INTEGER N; N := %2; N := %1; END.") 9 (refuse 11 19) ∷
    []

-- Every row of the table holds.
pub record Examples : Type 0 where
  pub all : HoldAll rows
