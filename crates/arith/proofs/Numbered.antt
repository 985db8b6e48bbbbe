-- The number of a stop gives the stop again.
use Rattle.std.proofs.Common.{◌≡◌, refl}
use Rattle.arith.specs.declared.stop.Stop.{Stop}
use Rattle.arith.specs.declared.stop.Stop.TheVariants.{Overflow, ZeroDivisor, BadIndex, BadCase}
use Rattle.arith.specs.Stops.{number_of, stop_of}

pub stops_back : (s : Stop) → stop_of (number_of s) ≡ s
stops_back Overflow = refl
stops_back ZeroDivisor = refl
stops_back BadIndex = refl
stops_back BadCase = refl
