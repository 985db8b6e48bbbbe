-- A list used as a stack, with the top first.
use Rattle.std.specs.Prelude.{List, [], ◌∷◌}

-- What is below the top.
abbrev pub below : {A : Type 0} → List A → List A
below [] = []
below (x ∷ xs) = xs
