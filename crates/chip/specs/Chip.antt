-- The chip's state: a fresh one, an empty frame, the status byte, and what a gone job leaves (RULES, Status; Jobs; Legal states).
use Rattle.std.specs.Prelude.{ℕ, ◌+◌, ◌*◌, ◌/◌, ◌%◌, Bool, true, false, cond, not, ◌&&◌, List, ◌≡◌, eqb, replicate}
use Rattle.chip.specs.declared.Chip.{Chip}
use Rattle.chip.specs.declared.Core.{Core}
use Rattle.chip.specs.declared.Frame.{Frame}
use Rattle.chip.specs.Fields.{with_level, with_tb, with_srwp}
use Rattle.chip.specs.declared.JobKind.TheVariants.{Idle, Program}
use Rattle.chip.specs.Job.{is_job, has_cells, no_job}

-- the chip of its four parts: core, frame, the frame's load, the job's load
abbrev pub whole : Core → Frame → List ℕ → List ℕ → Chip
whole k f load held = record { core = k; frame = f; load = load; held = held }

-- a load before any byte has come: a page of FFh
abbrev pub blank_load : List ℕ
blank_load = replicate 256 255

-- no frame: unselected, and no byte has come
abbrev pub empty_frame : Frame
empty_frame = record { selected = false; opcode = 0; address = 0; place = 0; slot = 0; count = 0; judgement = 0 }

-- the kept bits: BP0 to BP2 as a number, TB and SRWP (RULES, Status)
pub record Bits : Type 0 where
  pub level : ℕ
  pub tb : Bool
  pub srwp : Bool

-- as a byte has them, and as a core has them
abbrev pub bits_in : ℕ → Bits
bits_in byte = record { level = byte / 4 % 8; tb = eqb (byte / 32 % 2) 1; srwp = eqb (byte / 128 % 2) 1 }

abbrev pub bits_of : Core → Bits
bits_of k = record { level = k.level; tb = k.tb; srwp = k.srwp }

-- the core with the bits of a byte
abbrev pub with_bits : ℕ → Core → Core
with_bits byte k = with_level (bits_in byte).level (with_tb (bits_in byte).tb (with_srwp (bits_in byte).srwp k))

-- the core at rest, with none of the kept bits: WP is high
abbrev pub resting : Core
resting = record { level = 0; tb = false; srwp = false; wen = false; suspended = false; waiting = false; wp = true; deep = false; armed = false; job = no_job }

-- a fresh state takes the kept bits from any byte
unfoldable pub fresh : ℕ → Chip
fresh status = whole (with_bits status resting) empty_frame blank_load blank_load

-- whether a job runs: there is one, and it is not suspended
abbrev pub running : Core → Bool
running k = is_job k.job.kind && not k.suspended

-- whether a program or an erase runs: what a suspend acts on, and what alone waits for its tick (RULES, Jobs)
abbrev pub suspendable : Core → Bool
suspendable k = running k && has_cells k.job.kind

-- the status byte, from RDY in bit 0 to SRWP in bit 7 (RULES, Status)
unfoldable pub status_byte : Core → ℕ
status_byte k =
    cond (running k) 1 0 + cond k.wen 2 0 + 4 * (k.level % 8) + cond k.tb 32 0 + cond k.suspended 64 0 + cond k.srwp 128 0

-- nothing is left of a gone job: only a program holds a load, and no job has a start or steps (RULES, Jobs)
pub record NoLeftovers (k : Core) (held : List ℕ) : Type 0 where
  pub load_blank : (k.job.kind ≡ Program → ⊥) → held ≡ blank_load
  pub job_none : k.job.kind ≡ Idle → k.job ≡ no_job
