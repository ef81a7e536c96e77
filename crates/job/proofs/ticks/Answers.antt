-- `job::ticks` meets its contract. No job running: nothing happens. Fewer ticks than find it running: that many steps. Otherwise all of those, and then it is suspended,
-- if a step is left, or ended; the four answers are laws (`answer_rests`, `answer_goes`, `answer_pauses`, `answer_ends`).
use Rattle.std.proofs.Common.{ℕ, ◌<◌, ◌≤◌, true, cond, arith, ◌≡◌, sym, ap, ◌∙◌}
use Rattle.chip.specs.declared.Core.{Core}
use Rattle.chip.specs.Chip.{running}
use Rattle.job.specs.Tick.{suspends, steps_left, ticks_left}
use Rattle.job.proofs.Laws.{answer_rests, answer_goes, answer_pauses, answer_ends}
use Rattle.job.proofs.ticks.Goals as goal

-- the ticks that find the job running are those that the definition counts
left_is : (S : ℕ) (k : Core) {left steps : ℕ} → left ≡ cond k.waiting 1 steps → steps ≡ steps_left S k → left ≡ ticks_left S k
left_is S k by_steps counted = by_steps ∙ ap (λ (n : ℕ). cond k.waiting 1 n) counted

pub returns-then-not-is_running : goal.returns-then-not-is_running
returns-then-not-is_running c = answer_rests _ _ _ _ _ (sym c.is_running.ensures ∙ c.if-not-is_running.true)

pub returns-then-n-left : goal.returns-then-n-left
returns-then-n-left c =
    let runs : running c.args.core ≡ true = sym c.is_running.ensures ∙ c.if-not-is_running.false in
    let left : c.ticks_left-left.result ≡ ticks_left c.args.sectors c.args.core = left_is c.args.sectors c.args.core c.ticks_left-left.ensures c.steps_left-steps.ensures.0 in
    let answer = answer_goes _ _ _ _ _ runs _ left c.if-n-left.true in
    record { core = c.advance.ensures ∙ answer.core; working = answer.working; load = answer.load; memory = c.do_steps.ensures ∙ answer.memory }

pub returns-then-left-steps : goal.returns-then-left-steps
returns-then-left-steps c =
    let runs : running c.args.core ≡ true = sym c.is_running.ensures ∙ c.if-not-is_running.false in
    let left : c.ticks_left-left.result ≡ ticks_left c.args.sectors c.args.core = left_is c.args.sectors c.args.core c.ticks_left-left.ensures c.steps_left-steps.ensures.0 in
    let more : c.ticks_left-left.result < steps_left c.args.sectors c.args.core = omega (arith, c.if-left-steps.true, c.steps_left-steps.ensures.0) in
    let answer = answer_pauses _ _ _ _ _ runs _ left c.if-n-left.false more in
    record { core = c.suspend.ensures ∙ ap suspends c.advance-then-left-steps.ensures ∙ answer.core; working = answer.working; load = answer.load; memory = c.do_steps-2.ensures ∙ answer.memory }

pub returns : goal.returns
returns c =
    let runs : running c.args.core ≡ true = sym c.is_running.ensures ∙ c.if-not-is_running.false in
    let left : c.ticks_left-left.result ≡ ticks_left c.args.sectors c.args.core = left_is c.args.sectors c.args.core c.ticks_left-left.ensures c.steps_left-steps.ensures.0 in
    let all : steps_left c.args.sectors c.args.core ≤ c.ticks_left-left.result = omega (arith, c.if-left-steps.false, c.steps_left-steps.ensures.0) in
    let answer = answer_ends _ _ _ _ _ runs _ left c.if-n-left.false all in
    record { core = c.end.ensures ∙ answer.core; working = answer.working; load = answer.load; memory = c.do_steps-2.ensures ∙ answer.memory }
