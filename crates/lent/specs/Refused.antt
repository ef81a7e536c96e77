-- A refusal touches nothing (RULES, Refusals): what the contract of `event_on` says of the lent chip and of memory at exit comes to what was lent.
use Rattle.std.specs.Prelude.{ℕ, List, ◌≡◌, length}
use Rattle.std.proofs.Common.{ap, ◌∙◌}
use Rattle.chip.specs.declared.Chip.{Chip}
use Rattle.event.specs.Alone.{Answer}
use Rattle.event.specs.Alone.{refusal, answer_of, memory_of}
use Rattle.event.proofs.Laws.{answer_refused, memory_refused}

pub refused-chip_as_lent : (c : Chip) (m area : List ℕ) (kind body : ℕ) (d : Chip) → d ≡ (answer_of c m area kind body).chip → (refusal c (length m) (length area) kind body ≡ 0 → ⊥) → d ≡ c
refused-chip_as_lent c m area kind body d e h = e ∙ ap (λ (r : Answer). r.chip) (answer_refused c m area kind body h)

pub refused-memory_as_lent : (c : Chip) (m area : List ℕ) (kind body : ℕ) (z : List ℕ) → z ≡ memory_of c m area kind body → (refusal c (length m) (length area) kind body ≡ 0 → ⊥) → z ≡ m
refused-memory_as_lent c m area kind body z e h = e ∙ memory_refused c m area kind body h
