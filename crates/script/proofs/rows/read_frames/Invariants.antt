-- `script::rows::read_frames` meets its contract. What was read so far is a stretch or nothing, and one frame more makes it a longer stretch (`reads_more`).
use Rattle.std.proofs.Common.{ℕ, ◌+◌, ◌-◌, ◌≤◌, true, List, ◌≡◌, length}
use Rattle.part.specs.Part.{setting}
use Rattle.chip.specs.declared.Core.{Core}
use Rattle.chip.specs.declared.Frame.{Frame}
use Rattle.chip.specs.Chip.{whole, empty_frame, blank_load}
use Rattle.script.specs.Script.{events_from, room}
use Rattle.script.specs.Heard.{Reading, can_read}
use Rattle.script.proofs.rows.read_frames.Given as goal

abbrev pub invariant-loop-found : goal.invariant-loop-found
invariant-loop-found l = (l.here ≤ length l.script.bytes.now) × (l.end + room (events_from l.script.bytes.now l.here) ≤ length l.out) × (length l.out ≡ length l.initial.out) × ((area load held : List ℕ) (k : Core) (f : Frame) → can_read k f ≡ true → Reading (setting l.sectors area) l.script.bytes.now l.mem l.at (whole k f load held) l.initial.out l.pos l.here (whole k empty_frame blank_load held) l.out l.end)

abbrev pub decreases-loop-found : goal.decreases-loop-found
decreases-loop-found l = length l.script.bytes.now - l.here
