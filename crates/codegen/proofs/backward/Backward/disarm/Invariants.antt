use Rattle.std.proofs.Common.{◌≡◌}
use Rattle.codegen.specs.Items.{without}
use Rattle.codegen.proofs.backward.Backward.disarm.Given as goal

abbrev pub invariant-loop : goal.invariant-loop
invariant-loop l = (l.self.todo ≡ without l.counter l.initial.self.todo) × (l.self.code ≡ l.initial.self.code)
