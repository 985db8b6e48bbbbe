-- What an emitter holds, and what its passes need.
use Rattle.std.specs.Prelude.{◌≡◌, ◌<◌, List, [], ◌∷◌}
use Rattle.codegen.specs.declared.emitter.Emitter.{Emitter}
use Rattle.codegen.specs.declared.placed.Placed.{Placed}
use Rattle.codegen.specs.Items.{blank}

-- The emitter holds nothing.
abbrev pub IsBlank : Emitter → Type 0
IsBlank e = (e.starts ≡ []) × (e.placed ≡ []) × (e.backward ≡ blank)

-- The index of every item is below 65,535, so that the index after it is a number of sixteen bits.
abbrev pub Low : List Placed → Type 0
Low [] = Unit {0}
Low (x ∷ xs) = (x.index < 65535) × Low xs
