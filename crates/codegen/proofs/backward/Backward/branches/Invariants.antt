use Rattle.std.proofs.Common.{◌≡◌, ◌+◌, ◌++◌, length}
use Rattle.codegen.specs.Items.{table}
use Rattle.codegen.proofs.backward.Backward.branches.Given as goal

abbrev pub invariant-loop-k : goal.invariant-loop-k
invariant-loop-k l =
    (table l.k l.self.todo ++ l.self.code ≡ table l.n l.initial.self.todo ++ l.initial.self.code)
    × (l.self.todo ≡ l.initial.self.todo)
    × (length l.self.code + l.k ≡ length l.initial.self.code + l.n)
