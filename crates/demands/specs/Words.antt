-- The words that the demands take from the definitions, all of them said again in numbers. Whoever reads this file and the ones that it names need not read a
-- definition to know what the demands say.
use Rattle.std.specs.Prelude.{ℕ, ◌*◌, ◌/◌, ◌%◌, ◌<◌, ◌≤◌, ◌-◌, min, true, false, not, ◌&&◌, [], ◌∷◌, ◌≡◌, ◌↔◌, eqb, replicate}
use Rattle.part.specs.Part.{permitted, sectors_in}
use Rattle.part.specs.Protection.{protected_count, is_protected}
use Rattle.chip.specs.declared.Chip.{Chip}
use Rattle.chip.specs.declared.Core.{Core}
use Rattle.chip.specs.declared.JobKind.TheVariants.{Idle, WriteStatus, Program, SmallErase, SectorErase, ChipErase}
use Rattle.chip.specs.Job.{is_job, has_cells, no_job}
use Rattle.chip.specs.Chip.{bits_in, bits_of, running, blank_load, empty_frame, status_byte, fresh}
use Rattle.legal.specs.Legal.{legal}
use Rattle.demands.specs.States.{LegalState, FreshState}
use Rattle.demands.specs.Scripts.{KindsInNumbers, EventsInNumbers, StampsInNumbers}
use Rattle.demands.specs.Commands.{TableInNumbers}
use Rattle.demands.specs.Jobs.{JobsInNumbers}
use Rattle.demands.specs.Lives.{ToldJobsInNumbers}
use Rattle.demands.specs.Demand2.{among, Rows, first_protected, last_protected, StatusByte}

-- which cells of a part of S sectors level L protects (RULES, Protection)
pub record ProtectionInNumbers : Type 0 where
  -- how many sectors: none; 1, 2, 4, 8, 16, but no more than there are; all of them
  pub levels : (S : ℕ)
      → Rows
      ((protected_count 0 S ≡ 0)
      ∷ (protected_count 1 S ≡ min 1 S)
      ∷ (protected_count 2 S ≡ min 2 S)
      ∷ (protected_count 3 S ≡ min 4 S)
      ∷ (protected_count 4 S ≡ min 8 S)
      ∷ (protected_count 5 S ≡ min 16 S)
      ∷ (protected_count 6 S ≡ S)
      ∷ (protected_count 7 S ≡ S)
      ∷ [])
  -- at the bottom with TB 1, at the top with TB 0
  pub bottom : (L S cell : ℕ) → (is_protected L true S (cell / 65536) ≡ true) ↔ (cell < protected_count L S * 65536)
  pub top : (L S cell : ℕ) → cell < S * 65536 → (is_protected L false S (cell / 65536) ≡ true) ↔ ((S - protected_count L S) * 65536 ≤ cell)
  -- so exactly the sectors between the two ends that verdict 9 tells, where there are any; and these are at most 31 on a permitted part
  pub between : (S : ℕ) (k : Core) (x : ℕ) → (protected_count k.level S ≡ 0 → ⊥)
      → (is_protected k.level k.tb S x ≡ true) ↔ ((first_protected S k ≤ x) × (x ≤ last_protected S k))
  pub at_most_31 : (n : ℕ) (k : Core) → permitted n ≡ true → (protected_count k.level (sectors_in n) ≡ 0 → ⊥)
      → (first_protected (sectors_in n) k ≤ last_protected (sectors_in n) k) × (last_protected (sectors_in n) k ≤ 31)

-- the small words: whether a kind is a job, has cells, runs; the kept bits of a byte; nothing in its three forms (RULES, Status; Jobs)
pub record SmallWords : Type 0 where
  pub is_job_lem : Rows ((is_job Idle ≡ false) ∷ ((value : ℕ) → is_job (WriteStatus value) ≡ true) ∷ (is_job Program ≡ true) ∷ (is_job SmallErase ≡ true) ∷ (is_job SectorErase ≡ true) ∷ (is_job ChipErase ≡ true) ∷ [])
  pub has_cells_lem : Rows ((has_cells Idle ≡ false) ∷ ((value : ℕ) → has_cells (WriteStatus value) ≡ false) ∷ (has_cells Program ≡ true) ∷ (has_cells SmallErase ≡ true) ∷ (has_cells SectorErase ≡ true) ∷ (has_cells ChipErase ≡ true) ∷ [])
  pub runs : (k : Core) → running k ≡ (is_job k.job.kind && not k.suspended)
  pub bits_in_lem : (byte : ℕ) → bits_in byte ≡ record { level = byte / 4 % 8; tb = eqb (byte / 32 % 2) 1; srwp = eqb (byte / 128 % 2) 1 }
  pub bits_of_lem : (k : Core) → bits_of k ≡ record { level = k.level; tb = k.tb; srwp = k.srwp }
  pub no_job_lem : no_job ≡ record { kind = Idle; start = 0; done = 0 }
  pub blank_load_lem : blank_load ≡ replicate 256 0xFF
  pub empty_frame_lem : empty_frame ≡ record { selected = false; opcode = 0; address = 0; place = 0; slot = 0; count = 0; judgement = 0 }

pub record Words : Type 0 where
  -- the six lengths, and how many sectors a memory has
  pub lengths : (n : ℕ) → permitted n ≡ among (65536 ∷ 131072 ∷ 262144 ∷ 524288 ∷ 1048576 ∷ 2097152 ∷ []) n
  pub sectors : (n : ℕ) → sectors_in n ≡ n / 65536
  -- legal states, and a fresh one
  pub states : (c : Chip) (n : ℕ) → (legal c n ≡ true) ↔ LegalState c n
  pub fresh_states : (byte : ℕ) → FreshState byte (fresh byte)
  -- kinds, bodies, the events of a script and its stamps
  pub kinds : KindsInNumbers
  pub events : EventsInNumbers
  pub stamps : StampsInNumbers
  -- the table of commands, protection, the status byte
  pub table : TableInNumbers
  pub protection : ProtectionInNumbers
  pub status : (k : Core) → k.level ≤ 7 → StatusByte k (status_byte k)
  -- a job's steps and image, on a part of S sectors
  pub jobs : (S : ℕ) → JobsInNumbers S
  -- the jobs of a script that a margin report counts
  pub told_jobs : ToldJobsInNumbers
  -- and the rest
  pub small : SmallWords
