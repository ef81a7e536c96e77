-- `frame::take` meets its contract. A data byte is `stream`; the check finds every other way out.
use Rattle.std.proofs.Common.{sym, ◌∙◌}
use Rattle.frame.specs.StreamLaws.{taken_stream}
use Rattle.frame.proofs.take.Goals as goal

pub returns-then-is_data : goal.returns-then-is_data
returns-then-is_data c = c.stream.ensures ∙ sym (taken_stream _ _ _ _ _ _ (sym c.is_data.ensures ∙ c.if-is_data.true))
