-- Legal states, and a fresh one, in the rule book's words and numbers (RULES, Legal states; Status). Demand 1 says `legal`, and that is this list: `legal-when` (`meets/specs/LegalStates`).
use Rattle.std.specs.Prelude.{ℕ, ◌+◌, ◌*◌, ◌/◌, ◌%◌, ◌^◌, ◌<◌, ◌≤◌, true, false, cond, List, [], ◌∷◌, ◌≡◌, eqb}
use Rattle.chip.specs.declared.Chip.{Chip}
use Rattle.chip.specs.declared.Frame.{Frame}
use Rattle.chip.specs.declared.JobKind.{JobKind}
use Rattle.chip.specs.declared.JobKind.TheVariants.{Idle, WriteStatus, Program, SmallErase, SectorErase, ChipErase}
use Rattle.chip.specs.Job.{is_job, has_cells, no_job}
use Rattle.chip.specs.Chip.{empty_frame, blank_load, status_byte}
use Rattle.demands.specs.Demand2.{among}

-- ---- legal states

-- a job of this size stands inside a memory of n cells, aligned to its size, with fewer steps done than its total
pub record Placed (n size start done steps : ℕ) : Type 0 where
  pub aligned : start % size ≡ 0
  pub inside : start + size ≤ n
  pub unfinished : done < steps

-- the job's share of the list, kind by kind; write status and chip erase stand at 0
abbrev pub JobFits : ℕ → JobKind → ℕ → ℕ → Type 0
JobFits n Idle start done = Unit {0}
JobFits n (WriteStatus value) start done = (start ≡ 0) × (done < 1)
JobFits n Program start done = Placed n 256 start done 16
JobFits n SmallErase start done = Placed n 4096 start done 16
JobFits n SectorErase start done = Placed n 65536 start done 256
JobFits n ChipErase start done = (start ≡ 0) × (done < 256 * (n / 65536))

-- how many read places a frame has: four in a 9Fh frame, 2^24 in a 5Ah frame, in every other the cells
abbrev pub places_of : ℕ → ℕ → ℕ
places_of n opcode = cond (eqb opcode 0x9F) 4 (cond (eqb opcode 0x5A) (2 ^ 24) n)

-- every byte of a load is FFh
abbrev pub AllBlank : List ℕ → Type 0
AllBlank [] = Unit {0}
AllBlank (b ∷ load) = (b ≡ 0xFF) × AllBlank load

-- nothing is in a frame
pub record EmptyFrame (f : Frame) (load : List ℕ) : Type 0 where
  pub no_opcode : f.opcode ≡ 0
  pub no_address : f.address ≡ 0
  pub no_place : f.place ≡ 0
  pub no_slot : f.slot ≡ 0
  pub no_byte : f.count ≡ 0
  pub no_judgement : f.judgement ≡ 0
  pub load_blank : AllBlank load

-- a legal state for a memory of n cells: the list of the rule book; a load place is a byte by its type
pub record LegalState (c : Chip) (n : ℕ) : Type 0 where
  pub a_part : among (65536 ∷ 131072 ∷ 262144 ∷ 524288 ∷ 1048576 ∷ 2097152 ∷ []) n ≡ true
  pub level_small : c.core.level ≤ 7
  pub job_fits : JobFits n c.core.job.kind c.core.job.start c.core.job.done
  pub job_enabled_lem : is_job c.core.job.kind ≡ true → c.core.wen ≡ true
  pub suspended_cells : c.core.suspended ≡ true → has_cells c.core.job.kind ≡ true
  pub waiting_runs_lem : c.core.waiting ≡ true → (has_cells c.core.job.kind ≡ true) × (c.core.suspended ≡ false)
  pub deep_idle : c.core.deep ≡ true → is_job c.core.job.kind ≡ false
  pub deep_unarmed : c.core.deep ≡ true → c.core.armed ≡ false
  pub address_small : c.frame.address < 2 ^ 24
  pub place_inside : c.frame.place < places_of n c.frame.opcode
  pub count_small : c.frame.count ≤ 6
  pub judgement_known_lem : among (0 ∷ 3 ∷ 5 ∷ 6 ∷ 7 ∷ []) c.frame.judgement ≡ true
  pub unselected_empty : c.frame.selected ≡ false → EmptyFrame c.frame c.load
  pub unbegun_empty : c.frame.count ≡ 0 → EmptyFrame c.frame c.load

-- ---- a fresh state

-- what a fresh state of a status byte is: bits 2 to 5 and 7 of the byte and no others; WP high, awake, unselected, unarmed, no job, so no mark
pub record FreshState (byte : ℕ) (c : Chip) : Type 0 where
  pub level_is : c.core.level ≡ byte / 4 % 8
  pub status_is : status_byte c.core ≡ byte / 4 % 16 * 4 + byte / 128 % 2 * 128
  pub wp_high : c.core.wp ≡ true
  pub awake : c.core.deep ≡ false
  pub unarmed : c.core.armed ≡ false
  pub no_job_lem : c.core.job ≡ no_job
  pub not-waiting : c.core.waiting ≡ false
  pub frame_empty : c.frame ≡ empty_frame
  pub load_blank : c.load ≡ blank_load
  pub held_blank : c.held ≡ blank_load
