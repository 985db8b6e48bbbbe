-- What a loop of the readers keeps: its goals are there as they were.
use Rattle.std.proofs.Common.{◌≡◌, ℕ, List, [], ◌∷◌, ◌++◌, Ok, Err, Result, ◌∙◌, arith}
use Rattle.parser.specs.declared.fault.GrammarFault.{GrammarFault}
use Rattle.parser.specs.declared.reader.Reader.{Reader}
use Rattle.parser.specs.Machine.{Goal}
use Rattle.parser.specs.Readers.{Keeps, Fits, ReadsGoals, runs}

abbrev pub Sofar : List Goal → Reader → Reader → Type 0
Sofar gs r r' = Keeps r r' × Fits 0 0 r r' × ((k : List Goal) → runs r (gs ++ k) ≡ runs r' (gs ++ k))

-- one turn more, and the end after some turns
pub again : (gs : List Goal) (r₀ r r' : Reader) → Sofar gs r₀ r → Sofar gs r r' → Sofar gs r₀ r'
again gs r₀ r r' s d = (
  record { end = d.0.end ∙ s.0.end; loan = d.0.loan ∙ s.0.loan },
  record { room = omega arith; less = omega arith },
  λ k. s.2 k ∙ d.2 k,
)

pub after : (gs : List Goal) (r₀ r r' : Reader) (a : Result (Unit {0}) GrammarFault) → Sofar gs r₀ r → ReadsGoals 0 0 gs r r' a → ReadsGoals 0 0 gs r₀ r' a
after gs r₀ r r' (Ok u) s d = (
  record { end = d.0.end ∙ s.0.end; loan = d.0.loan ∙ s.0.loan },
  record { room = omega arith; less = omega arith },
  record { reads = λ k. s.2 k ∙ d.2.reads k },
)
after gs r₀ r r' (Err e) s d = (record { end = d.0.end ∙ s.0.end; loan = d.0.loan ∙ s.0.loan }, λ k. s.2 k ∙ d.1 k)

-- a goal, then others
pub then : (g : Goal) (hs : List Goal) (r₀ r r' : Reader) (a : Result (Unit {0}) GrammarFault) → ReadsGoals 0 0 (g ∷ []) r₀ r (Ok tt) → ReadsGoals 0 0 hs r r' a → ReadsGoals 0 0 (g ∷ hs) r₀ r' a
then g hs r₀ r r' (Ok u) d e = (
  record { end = e.0.end ∙ d.0.end; loan = e.0.loan ∙ d.0.loan },
  record { room = omega arith; less = omega arith },
  record { reads = λ k. d.2.reads (hs ++ k) ∙ e.2.reads k },
)
then g hs r₀ r r' (Err x) d e = (record { end = e.0.end ∙ d.0.end; loan = e.0.loan ∙ d.0.loan }, λ k. d.2.reads (hs ++ k) ∙ e.1 k)

-- less left of what was paid for
pub spent : (c : ℕ) (gs : List Goal) (r r' : Reader) (a : Result (Unit {0}) GrammarFault) → ReadsGoals 0 c gs r r' a → ReadsGoals 0 0 gs r r' a
spent c gs r r' (Ok u) d = (d.0, record { room = omega arith; less = omega arith }, d.2)
spent c gs r r' (Err x) d = d
