-- Demand 3, of any model: a job from its start to its end and beyond. Cut up by suspends, resumes and reads it ends with exactly its whole image on the memory that
-- it began with; before that exactly its first k steps are done, k being the ticks that found it running; a reset or a power cut leaves just those k (RULES, Jobs).
use Rattle.std.specs.Prelude.{ℕ, ◌+◌, ◌<◌, ◌≤◌, true, false, ◌&&◌, ◌||◌, List, [], ◌∷◌, ◌≡◌, ◌↔◌, ◌⊎◌, ltb, length, get_or}
use Rattle.part.specs.Part.{sectors_in}
use Rattle.chip.specs.declared.Chip.{Chip}
use Rattle.chip.specs.declared.Core.{Core}
use Rattle.chip.specs.declared.JobKind.{JobKind}
use Rattle.chip.specs.declared.JobKind.TheVariants.{Idle, WriteStatus, Program, SmallErase, SectorErase, ChipErase}
use Rattle.chip.specs.Fields.{with_wen, with_suspended, with_waiting, with_armed, with_job}
use Rattle.chip.specs.Job.{is_job, total, span, steps, whole_image, no_job}
use Rattle.chip.specs.Chip.{whole, empty_frame, blank_load, Bits, bits_in, bits_of, running}
use Rattle.script.specs.Script.{Event}
use Rattle.script.specs.Run.{World}
use Rattle.demands.specs.Model.{Reply, Model, reply, Good, AllGood, Fit, does_by, onward_by, runs_by, working_ticks, worked_by}
use Rattle.demands.specs.Demand2.{Ending, JobsBegun, powered_up}

-- ---- the start

-- a deselect with verdict 2: cells, bits 2 to 5 and 7, WEN and WP as they were (a write status has set no bit yet), SUS 0, no mark, unarmed, and a job at its step 0
pub record Started (c : Chip) (m : List ℕ) (r : Reply) : Type 0 where
  pub cells_same : r.memory ≡ m
  pub bits_same : bits_of r.chip.core ≡ bits_of c.core
  pub wen_same : r.chip.core.wen ≡ c.core.wen
  pub wp_same : r.chip.core.wp ≡ c.core.wp
  pub not-suspended : r.chip.core.suspended ≡ false
  pub not-waiting : r.chip.core.waiting ≡ false
  pub unarmed : r.chip.core.armed ≡ false
  pub a_job : is_job r.chip.core.job.kind ≡ true
  pub at_step_0 : r.chip.core.job.done ≡ 0

-- ---- the life

-- a job stands at step d of a legal chip: its kind, its place, its load
pub record UnderWay (area : List ℕ) (kind : JobKind) (start : ℕ) (held : List ℕ) (d : ℕ) (w : World) : Type 0 where
  pub fit : Fit w.chip w.memory area
  pub a_job : is_job kind ≡ true
  pub job_is : w.chip.core.job ≡ record { kind = kind; start = start; done = d }
  pub load_is : w.chip.held ≡ held

-- an event that is no power cut, no reset done at once and begins no job, by what the model itself says to it
pub record Spares (M : Model) (area : List ℕ) (e : Event) (w : World) : Type 0 where
  pub no_power_cut : e.kind ≡ 0x07 → ⊥
  pub no_reset : (does_by M area e w).says ≡ 0x82 ∷ 1 ∷ [] → w.chip.frame.opcode ≡ 0x99 → ⊥
  pub begins_none : (does_by M area e w).says ≡ 0x82 ∷ 2 ∷ [] → ⊥

unfoldable pub AllSpare : Model → List ℕ → List Event → World → Type 0
AllSpare M area [] w = Unit {0}
AllSpare M area (e ∷ es) w = Spares M area e w × AllSpare M area es (onward_by M area e w)

-- no event of the row is a write enable that is done
unfoldable pub NoneEnables : Model → List ℕ → List Event → World → Type 0
NoneEnables M area [] w = Unit {0}
NoneEnables M area (e ∷ es) w = ((does_by M area e w).says ≡ 0x82 ∷ 1 ∷ [] → w.chip.frame.opcode ≡ 0x06 → ⊥) × NoneEnables M area es (onward_by M area e w)

-- bits 2 to 5 and 7 after a job's last step: a write status sets them, every other job leaves them
abbrev pub bits_after : JobKind → Bits → Bits
bits_after (WriteStatus value) b = bits_in value
bits_after Idle b = b
bits_after Program b = b
bits_after SmallErase b = b
bits_after SectorErase b = b
bits_after ChipErase b = b

-- the number of steps of a job on the part that goes with a world's memory, and the number of its cells
abbrev pub steps_of : JobKind → World → ℕ
steps_of kind w = total kind (sectors_in (length w.memory))

abbrev pub cells_of : JobKind → World → ℕ
cells_of kind w = span kind (sectors_in (length w.memory))

-- what has become of a job that stood at step d in w, k working ticks later in w'
pub record Outlook (kind : JobKind) (start : ℕ) (held : List ℕ) (d k : ℕ) (w w' : World) : Type 0 where
  -- memory is exactly its steps d to d + k laid on the memory of w
  pub memory_is : w'.memory ≡ steps kind start held d k w.memory
  -- no cell outside its range differs
  pub outside_same : (i : ℕ) → (i < start) ⊎ (start + cells_of kind w ≤ i) → get_or w'.memory i 0 ≡ get_or w.memory i 0
  -- it has no more steps than its total, and it is gone exactly when they are done
  pub no_more : d + k ≤ steps_of kind w
  pub gone_when : (w'.chip.core.job ≡ no_job) ↔ (d + k ≡ steps_of kind w)
  -- until then it stands at step d + k, with its load; WEN and the bits are as they were
  pub stands : d + k < steps_of kind w → (w'.chip.core.job ≡ record { kind = kind; start = start; done = d + k }) × (w'.chip.held ≡ held)
  pub bits_stay : d + k < steps_of kind w → (bits_of w'.chip.core ≡ bits_of w.chip.core) × (w'.chip.core.wen ≡ true)
  -- then a write status has set its bits, no other job has, and nothing is left of it
  pub bits_set : d + k ≡ steps_of kind w → (bits_of w'.chip.core ≡ bits_after kind (bits_of w.chip.core)) × (w'.chip.held ≡ blank_load)
  -- and memory is the whole image on the memory that it began with, which has no steps in its definition
  pub whole_image_lem : d ≡ 0 → k ≡ steps_of kind w → w'.memory ≡ whole_image kind (sectors_in (length w.memory)) start held w.memory

-- ---- ticks

-- an event of n ticks
pub data Ticking : ℕ → ℕ → ℕ → Type 0 where
  one_tick_lem : (body : ℕ) → Ticking 0x04 body 1
  many_ticks : (n : ℕ) → 1 ≤ n → n ≤ 65535 → Ticking 0x05 n n

-- ticks say nothing, and leave the frame, its load, the level of WP, sleep and arming as they were; so they leave SUS, but for a job that waited: it is suspended unless
-- its next step was the last; after them no job waits
pub record TicksKeep (c : Chip) (m : List ℕ) (r : Reply) : Type 0 where
  pub says_nothing : r.says ≡ []
  pub frame_same : r.chip.frame ≡ c.frame
  pub load_same : r.chip.load ≡ c.load
  pub suspended_is : r.chip.core.suspended ≡ (c.core.suspended || c.core.waiting && ltb (c.core.job.done + 1) (total c.core.job.kind (sectors_in (length m))))
  pub wait_over : r.chip.core.waiting ≡ false
  pub wp_same : r.chip.core.wp ≡ c.core.wp
  pub deep_same : r.chip.core.deep ≡ c.core.deep
  pub armed_same : r.chip.core.armed ≡ c.core.armed

-- ---- the cut

-- a job that stood at step d in w, and a row of events that spares it
pub record Spared (M : Model) (area : List ℕ) (kind : JobKind) (start : ℕ) (held : List ℕ) (d : ℕ) (w : World) (es : List Event) : Type 0 where
  pub under_way : UnderWay area kind start held d w
  pub good : AllGood es
  pub spared : AllSpare M area es w

-- after the row and one event more: exactly the steps of the row's working ticks, no other
abbrev pub LeavesSteps : Model → List ℕ → JobKind → ℕ → List ℕ → ℕ → World → List Event → Event → Type 0
LeavesSteps M area kind start held d w es e = (does_by M area e (runs_by M area es w)).memory ≡ steps kind start held d (worked_by M area es w) w.memory

-- the core after a reset: no job and no mark, WEN, SUS and arming off, and the other bits kept
abbrev pub reset_core : Core → Core
reset_core k = with_armed false (with_wen false (with_suspended false (with_waiting false (with_job no_job k))))

-- ---- the demand

pub record Demand3 (M : Model) : Type 0 where
  -- The start: kind, place and load by the command (as in Demand 2), and everything else as it was.
  pub jobs_begun : JobsBegun M
  pub starts : (c : Chip) (m area : List ℕ) (bits : ℕ) → Ending c m area bits → (M c m area 0x03 bits).says ≡ 0x82 ∷ 2 ∷ [] → Started c m (M c m area 0x03 bits)
  -- The count: the working ticks that an event answers are those that found a job running.
  pub counts : (area : List ℕ) (e : Event) (w : World) → Fit w.chip w.memory area → Good e → (does_by M area e w).ticks ≡ working_ticks w e
  -- Ticks that find no job running do nothing, and all of them leave what is not the job's.
  pub idle_ticks : (c : Chip) (m area : List ℕ) (kind body n : ℕ) → Fit c m area → Ticking kind body n → running c.core ≡ false → M c m area kind body ≡ reply c m [] 0
  pub ticks_keep : (c : Chip) (m area : List ℕ) (kind body n : ℕ) → Fit c m area → Ticking kind body n → TicksKeep c m (M c m area kind body)
  -- The life, over any events with no reset, power cut or other job begun.
  pub lives : (area : List ℕ) (kind : JobKind) (start : ℕ) (held : List ℕ) (d : ℕ) (w : World) (es : List Event) → Spared M area kind start held d w es
      → Outlook kind start held d (worked_by M area es w) w (runs_by M area es w)
  -- after its last step WEN is 0, until a write enable is done
  pub wen_off : (area : List ℕ) (kind : JobKind) (start : ℕ) (held : List ℕ) (d : ℕ) (w : World) (es : List Event) → Spared M area kind start held d w es
      → NoneEnables M area es w → d + worked_by M area es w ≡ steps_of kind w → (runs_by M area es w).chip.core.wen ≡ false
  -- The cut: a reset, a power cut, another job begun in suspension leave just those steps.
  pub reset_cuts : (area : List ℕ) (kind : JobKind) (start : ℕ) (held : List ℕ) (d : ℕ) (w : World) (es : List Event) (e : Event) → Spared M area kind start held d w es → Good e
      → let w' : World = runs_by M area es w in
      w'.chip.frame.selected ≡ true → w'.chip.frame.opcode ≡ 0x99 → (does_by M area e w').says ≡ 0x82 ∷ 1 ∷ []
      → LeavesSteps M area kind start held d w es e × ((does_by M area e w').chip.core ≡ reset_core w'.chip.core) × ((does_by M area e w').chip.held ≡ blank_load)
  pub power_cuts : (area : List ℕ) (kind : JobKind) (start : ℕ) (held : List ℕ) (d : ℕ) (w : World) (es : List Event) (body : ℕ) → Spared M area kind start held d w es
      → let w' : World = runs_by M area es w in
      M w'.chip w'.memory area 0x07 body
      ≡ reply (whole (powered_up w'.chip.core) empty_frame blank_load blank_load) (steps kind start held d (worked_by M area es w) w.memory) [] 0
  pub other_job_cuts : (area : List ℕ) (kind : JobKind) (start : ℕ) (held : List ℕ) (d : ℕ) (w : World) (es : List Event) (e : Event) → Spared M area kind start held d w es → Good e
      → (does_by M area e (runs_by M area es w)).says ≡ 0x82 ∷ 2 ∷ [] → LeavesSteps M area kind start held d w es e
  -- No cell changes but by a working tick, so that the next job's life starts from that memory.
  pub cells_rest : (area : List ℕ) (w : World) (es : List Event) → Fit w.chip w.memory area → AllGood es → worked_by M area es w ≡ 0 → (runs_by M area es w).memory ≡ w.memory
