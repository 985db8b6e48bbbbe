-- Runs of steps.
use Rattle.std.proofs.Common.{◌≡◌, ℕ, zero, suc, ◌+◌, List, Some, refl, ap, ◌∙◌, arith}
use Rattle.base.specs.declared.instr.Instr.{Instr}
use Rattle.machine.specs.declared.ending.Ending.{Ending}
use Rattle.machine.specs.declared.ending.Ending.TheVariants.{Halted, Stopped, Missing, TooHigh, BadOperand, Outside}
use Rattle.arith.specs.declared.stop.Stop.TheVariants.{Overflow, ZeroDivisor, BadIndex, BadCase}
use Rattle.machine.specs.Endings.{ending_of_number, number_of}
use Rattle.machine.specs.Machine.{State, step, run}
use Rattle.machine.specs.Laws.{Lawful}
use Rattle.machine.proofs.Operands.{rules}
use Rattle.machine.proofs.Steps.{steps_step, ends_step, wrote_step, pushed_step, low_step, past_step, stay}
use Rattle.machine.proofs.Views.{top_is, next_is, shows}

pub run_ended : (P : List Instr) (d n : ℕ) (s : State) (e : Ending) → s.registers.ending ≡ Some e → run P d n s ≡ s
unfolding run
run_ended P d zero s e q = refl
run_ended P d (suc n) s e q = ap (step P d) (run_ended P d n s e q) ∙ stay P d s e q

pub run_on : (P : List Instr) (d m n : ℕ) (s : State) → run P d (m + n) s ≡ run P d m (run P d n s)
unfolding run
run_on P d zero n s = let e : zero + n ≡ n = omega arith in ap (λ (k : ℕ). run P d k s) e
run_on P d (suc m) n s =
    let e : suc m + n ≡ suc (m + n) = omega arith in
    ap (λ (k : ℕ). run P d k s) e ∙ ap (step P d) (run_on P d m n s)

numbers : (e : Ending) → ending_of_number (number_of e) ≡ e
numbers Halted = refl
numbers (Stopped Overflow) = refl
numbers (Stopped ZeroDivisor) = refl
numbers (Stopped BadIndex) = refl
numbers (Stopped BadCase) = refl
numbers Missing = refl
numbers TooHigh = refl
numbers BadOperand = refl
numbers Outside = refl

pub lawful : Lawful
lawful =
    record {
      numbers = numbers;
      numbers_back = (refl, refl, refl, refl, refl, refl, refl, refl, refl);
      named = rules;
      counts = steps_step;
      ends = ends_step;
      writes = wrote_step;
      pushes = pushed_step;
      low = low_step;
      past = past_step;
      ended = run_ended;
      on = run_on;
      top = λ s h. top_is s.registers.height s.stack h;
      below = λ s h. next_is s.registers.height s.stack h;
      shows = shows;
    }
