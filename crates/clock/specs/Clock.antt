-- The clock of a run: a 16-bit counter that rolls over, read off its stamps (RULES, Stamps).
use Rattle.std.specs.Prelude.{ℕ, ◌+◌, ◌-◌, ◌%◌, Bool, nat_le, Option, None, Some}
use Rattle.clock.specs.declared.Clock.{Clock}

-- before the first stamp of a run it is not set; then it shows the last one
abbrev pub unset : Clock
unset = record { last = None }

abbrev pub shows : ℕ → Clock
shows stamp = record { last = Some stamp }

-- how far the counter moved on since the last stamp, 65,535 being followed by 0; the first stamp only sets the clock
abbrev pub moved_since : Option ℕ → ℕ → ℕ
moved_since None stamp = 0
moved_since (Some last) stamp = (stamp + 65536 - last) % 65536

unfoldable pub moved_on : Clock → ℕ → ℕ
moved_on k stamp = moved_since k.last stamp

-- half the counter's range or more is taken for a move back
unfoldable pub went_back : Clock → ℕ → Bool
went_back k stamp = nat_le 32768 (moved_on k stamp)
