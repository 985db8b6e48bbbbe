use Rattle.std.proofs.Common.{◌≡◌, ℕ, ◌+◌, ◌-◌, ◌*◌, ◌/◌, ◌%◌, ◌^◌, ltb, sym, ap, ◌∙◌, arith}
use Rattle.std.proofs.lemmas.Bool.{lt-ltb, le-ltb, cond-true, cond-false}
use Rattle.arith.specs.declared.shift.Kind.{Kind}
use Rattle.arith.specs.Shifts.{shift_of}
use Rattle.arith.proofs.Rounds.{round_fits}
use Rattle.arith.proofs.shift.Shift.apply.Goals as goal

pub overflow_add-result : goal.overflow_add-result
overflow_add-result c = omega (arith, round_fits c.args.x c.args.self.count (16 - c.args.self.count) (omega (arith, c.args.self.ok)) (omega arith))

pub overflow_add-result-in-Csr : goal.overflow_add-result-in-Csr
overflow_add-result-in-Csr c = omega (arith, round_fits c.args.x (16 - c.args.self.count) c.args.self.count (omega (arith, c.args.self.ok)) (omega arith))

pub returns-in-Lsl : goal.returns-in-Lsl
unfolding shift_of
returns-in-Lsl c = ap (λ (a : Kind). shift_of a c.args.self.count c.args.x) (sym c.in-Lsl.is)

pub returns-in-Lsr : goal.returns-in-Lsr
unfolding shift_of
returns-in-Lsr c = ap (λ (a : Kind). shift_of a c.args.self.count c.args.x) (sym c.in-Lsr.is)

pub returns-then-x-lt32768 : goal.returns-then-x-lt32768
unfolding shift_of
returns-then-x-lt32768 c = sym (cond-true (ltb c.args.x 32768) _ _ (lt-ltb _ _ c.if-x-lt32768.true)) ∙ ap (λ (a : Kind). shift_of a c.args.self.count c.args.x) (sym c.in-Asr.is)

pub returns-else-x-lt32768 : goal.returns-else-x-lt32768
unfolding shift_of
returns-else-x-lt32768 c = sym (cond-false (ltb c.args.x 32768) _ _ (le-ltb _ _ c.if-x-lt32768.false)) ∙ ap (λ (a : Kind). shift_of a c.args.self.count c.args.x) (sym c.in-Asr.is)

pub returns-in-Csl : goal.returns-in-Csl
unfolding shift_of
returns-in-Csl c = ap (λ (a : Kind). shift_of a c.args.self.count c.args.x) (sym c.in-Csl.is)

pub returns-in-Csr : goal.returns-in-Csr
unfolding shift_of
returns-in-Csr c =
    let n = c.args.x * 2 ^ (16 - c.args.self.count) in
    let f : n % 4294967296 % 65536 ≡ n % 65536 = omega arith in
    ap (λ (m : ℕ). c.args.x / 2 ^ c.args.self.count + m) f ∙ ap (λ (a : Kind). shift_of a c.args.self.count c.args.x) (sym c.in-Csr.is)
