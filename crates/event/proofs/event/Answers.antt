-- `event::event` meets its contract. Refused: all as it was. Done: nothing refused it, so the length is permitted and the body small, and the step does the rest.
use Rattle.std.proofs.Common.{◌≡◌, sym, ◌∙◌, ap, arith, length}
use Rattle.event.specs.Event.{Outcome}
use Rattle.event.specs.Alone.{refusal, done}
use Rattle.event.proofs.Laws.{all_refused, answer_done, memory_done, said_bytes, accepted, used_small, happens-as}
use Rattle.event.proofs.event.Goals as goal

pub returns-in_err-sectors : goal.returns-in_err-sectors
returns-in_err-sectors c = all_refused _ _ _ _ _ c.from_residual.result c.in_err-sectors.field-0.0 c.from_residual.ensures.1 c.in_err-sectors.ensures.refused

pub overflow_cast-used : goal.overflow_cast-used
overflow_cast-used c = omega (arith, c.body_used-used.ensures, used_small c.args.kind c.args.body (accepted _ _ _ _ _ c.in_ok-sectors.ensures.taken.0).body_in_range)

pub returns : goal.returns
returns c =
    let z : refusal c.args.chip (length c.args.mem.now) (length c.args.area.now) c.args.kind c.args.body ≡ 0 = c.in_ok-sectors.ensures.taken.0 in
    let same = happens-as _ _ _ _ _ _ _ c.in_ok-sectors.ensures.taken.1 c.body_used-used.ensures in
    let told = c.carry_out.ensures.0 ∙ ap done same ∙ sym (answer_done _ _ _ _ _ z) in
    (told, c.carry_out.ensures.1 ∙ ap (λ (o : Outcome). o.memory) same ∙ sym (memory_done _ _ _ _ _ z), said_bytes _ _ _ _ _ _ told)
