-- What some sources mean.
use Rattle.std.specs.Prelude.{◌≡◌, ℕ, [], ◌∷◌, Ok, Err}
use Rattle.arith.specs.declared.relation.Relation.TheVariants.{Equal, Unequal, Greater, Less}
use Rattle.arith.specs.declared.stop.Stop.TheVariants.{Overflow, ZeroDivisor, BadIndex, BadCase}
use Rattle.ir.specs.Trees.{lit, var, bin, add, sub, mul, div, cmp, test, and, only, or, Stmt, assign, fill, deposit, deposit_at, when, either, while, repeat, for, case, Body, end, then, last, arm}
use Rattle.semantics.specs.Effects.{put, effect, cut}
use Rattle.semantics.specs.Meaning.{exec}

-- A body of one statement.
abbrev pub one : Stmt → Body
one s = then s end

-- N := 7 - 2 * 3
abbrev pub plain : Body
plain = one (assign 0 (bin sub (lit 7) (bin mul (lit 2) (lit 3))))

-- FOR I := first UNTIL limit DO
abbrev pub counting : ℕ → ℕ → Body
counting first limit = one (for 0 (lit first) (lit 1) (lit limit) end)

-- IF J <> 0 AND 10 / J > 2 THEN J := 1
abbrev pub guarded : Body
guarded =
    one (when (only (and (bin (cmp Unequal) (var 0) (lit 0)) (test (bin (cmp Greater) (bin div (lit 10) (var 0)) (lit 2))))) (one (assign 0 (lit 1))))

-- IF J = 0 OR 10 / J > 2 THEN J := 1 ELSE J := 2
abbrev pub parted : Body
parted =
    one (either (or (test (bin (cmp Equal) (var 0) (lit 0))) (only (test (bin (cmp Greater) (bin div (lit 10) (var 0)) (lit 2))))) (one (assign 0 (lit 1))) (one (assign 0 (lit 2))))

-- IF w THEN A := 9
abbrev pub if_word : ℕ → Body
if_word w = one (when (only (test (lit w))) (one (assign 0 (lit 9))))

-- WHILE 0 < N DO N := N - 1
abbrev pub down : Body
down = one (while (only (test (bin (cmp Less) (lit 0) (var 0)))) (one (assign 0 (bin sub (var 0) (lit 1)))))

-- DO N := N + 1 UNTIL 3 < N
abbrev pub up : Body
up = one (repeat (one (assign 0 (bin add (var 0) (lit 1)))) (only (test (bin (cmp Less) (lit 3) (var 0)))))

-- FOR I := 1 STEP I UNTIL I + 3 DO A(I) := I, with I in the cell 0 and A from the cell 1
abbrev pub filling : Body
filling = one (for 0 (lit 1) (var 0) (bin add (var 0) (lit 3)) (one (fill 1 4 (var 0) (var 0))))

-- CASE N OF BEGIN N := 5; ; END
abbrev pub choosing : Body
choosing = one (case (var 0) (arm (one (assign 0 (lit 5))) (last end)))

-- What these sources write and how they end.
pub record Examples : Type 0 where
  pub assigns : exec plain 0 (9 ∷ []) ≡ effect (put 0 1 ∷ []) (Ok tt)
  -- no turn, but the first value is written
  pub none : exec (counting 5 4) 0 (9 ∷ []) ≡ effect (put 0 5 ∷ []) (Ok tt)
  -- the step after the last turn stops, and writes nothing
  pub stops : exec (counting 32767 32767) 1 (9 ∷ []) ≡ effect (put 0 32767 ∷ []) (Err Overflow)
  -- with no turn allowed, the bound is met when one would begin
  pub cuts : exec (counting 32767 32767) 0 (9 ∷ []) ≡ cut (put 0 32767 ∷ [])
  pub counts : exec (counting 1 2) 2 (9 ∷ []) ≡ effect (put 0 1 ∷ put 0 2 ∷ put 0 3 ∷ []) (Ok tt)
  -- what follows a false expression is not worked out
  pub skips : exec guarded 0 (0 ∷ []) ≡ effect [] (Ok tt)
  pub both : exec guarded 0 (3 ∷ []) ≡ effect (put 0 1 ∷ []) (Ok tt)
  -- what follows a true clause is not worked out
  pub passes : exec parted 0 (0 ∷ []) ≡ effect (put 0 1 ∷ []) (Ok tt)
  pub behind : exec parted 0 (3 ∷ []) ≡ effect (put 0 1 ∷ []) (Ok tt)
  pub neither : exec parted 0 (5 ∷ []) ≡ effect (put 0 2 ∷ []) (Ok tt)
  -- an even word is false
  pub even : exec (if_word 2) 0 (0 ∷ []) ≡ effect [] (Ok tt)
  pub odd : exec (if_word 3) 0 (0 ∷ []) ≡ effect (put 0 9 ∷ []) (Ok tt)
  -- a loop of two turns ends with the bound 2, and meets the bound 1
  pub whiles : exec down 2 (2 ∷ []) ≡ effect (put 0 1 ∷ put 0 0 ∷ []) (Ok tt)
  pub short : exec down 1 (2 ∷ []) ≡ cut (put 0 1 ∷ [])
  pub repeats : exec up 2 (2 ∷ []) ≡ effect (put 0 3 ∷ put 0 4 ∷ []) (Ok tt)
  pub nothing : exec up 0 (2 ∷ []) ≡ cut []
  -- step and limit see the first write
  pub fills : exec filling 4 (7 ∷ 0 ∷ 0 ∷ 0 ∷ 0 ∷ []) ≡ effect (put 0 1 ∷ put 2 1 ∷ put 0 2 ∷ put 3 2 ∷ put 0 3 ∷ put 4 3 ∷ put 0 4 ∷ []) (Err BadIndex)
  -- the subscript is tested before the value is worked out
  pub subscripts : exec (one (fill 1 2 (lit 2) (bin div (lit 1) (lit 0)))) 0 (0 ∷ 0 ∷ 0 ∷ []) ≡ effect [] (Err BadIndex)
  pub values : exec (one (fill 1 2 (lit 1) (bin div (lit 1) (lit 0)))) 0 (0 ∷ 0 ∷ 0 ∷ []) ≡ effect [] (Err ZeroDivisor)
  -- a field is one write of the whole word: the two bits from bit 8
  pub deposits : exec (one (deposit 0 8 2 (lit 7))) 0 (4097 ∷ []) ≡ effect (put 0 4289 ∷ []) (Ok tt)
  pub deposits_at : exec (one (deposit_at 0 2 (lit 1) 8 2 (lit 7))) 0 (0 ∷ 4097 ∷ []) ≡ effect (put 1 4289 ∷ []) (Ok tt)
  pub first : exec choosing 0 (0 ∷ []) ≡ effect (put 0 5 ∷ []) (Ok tt)
  pub second : exec choosing 0 (1 ∷ []) ≡ effect [] (Ok tt)
  pub outside : exec choosing 0 (2 ∷ []) ≡ effect [] (Err BadCase)
