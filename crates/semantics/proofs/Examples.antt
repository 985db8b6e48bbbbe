-- The examples, by computing.
use Rattle.std.proofs.Common.{ℕ, refl}
use Rattle.arith.specs.Integers.{int, integer_word, sum, difference, product, quotient, remainder, negation, within, subscript, case_index, turns}
use Rattle.arith.specs.Logicals.{odd}
use Rattle.arith.specs.Relations.{comparison}
use Rattle.arith.specs.Fields.{with_field}
use Rattle.semantics.specs.Effects.{onward, bind, ret, meets, loop, until, prim, says, load, store, element, put_element, goes_on, advance}
use Rattle.semantics.specs.Meaning.{works, works_on, eval, holds_l, holds, exec}
use Rattle.semantics.specs.Examples.{Examples}

all : ℕ
unfolding int integer_word sum difference product quotient remainder negation within subscript case_index turns odd comparison with_field onward bind ret meets loop until prim says load store element put_element goes_on advance works works_on eval holds_l holds exec
all = 0

pub examples : Examples
unfolding all
examples =
    record {
      assigns = refl;
      none = refl;
      stops = refl;
      cuts = refl;
      counts = refl;
      skips = refl;
      both = refl;
      passes = refl;
      behind = refl;
      neither = refl;
      even = refl;
      odd = refl;
      whiles = refl;
      short = refl;
      repeats = refl;
      nothing = refl;
      fills = refl;
      subscripts = refl;
      values = refl;
      deposits = refl;
      deposits_at = refl;
      first = refl;
      second = refl;
      outside = refl;
    }
