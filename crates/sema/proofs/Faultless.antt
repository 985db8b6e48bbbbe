-- A fault that is told unless a test holds. Assumes nothing.
use Rattle.std.proofs.Common.{◌≡◌, ℕ, Bool, true, List, [], None}
use Rattle.base.specs.declared.refusal.Refusal.{Refusal}
use Rattle.sema.specs.Faults.{also, unless, least}
use Rattle.sema.proofs.Narrowing.{also_none, unless_none}

pub tested : (b : Bool) (n p : ℕ) (fs : List Refusal) → also (unless b n p) fs ≡ [] → (b ≡ true) × (fs ≡ [])
tested b n p fs h =
    let x = also_none (unless b n p) fs h in
    (unless_none b n p x.0, x.1)

pub untold : (b : Bool) (n p : ℕ) (fs : List Refusal) → b ≡ true → also (unless b n p) fs ≡ fs
untold b n p fs e = rw e

pub none_least : (fs : List Refusal) → fs ≡ [] → least fs ≡ None
none_least fs e = rw e
