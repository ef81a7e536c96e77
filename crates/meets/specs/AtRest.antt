-- States at rest show themselves: two of them that give the same records to every script are equal (RULES, Jobs). Four short scripts are enough.
use Rattle.std.specs.Prelude.{ℕ, ◌/◌, ◌%◌, ◌≤◌, Bool, cond, List, [], ◌∷◌, ◌++◌, ◌≡◌, eqb, length, get_or, replicate}
use Rattle.std.proofs.Math.Bool.{true, false}
use Rattle.std.proofs.lemmas.Bool.{false≢true}
use Rattle.std.proofs.Math.Path.{refl}
use Rattle.std.proofs.Common.{sym, ap, ◌∙◌, arith, eqb-true}
use Rattle.cells.specs.Choice.{and_left, and_right}
use Rattle.part.specs.Part.{Setting, sectors_in}
use Rattle.kinds.specs.Kinds.{TICK, known_in_script, kind_row_in, known_kind, kind_row}
use Rattle.commands.specs.Table.{row_of, row_in, fits_rule, is_read, is_program}
use Rattle.chip.specs.declared.Chip.{Chip}
use Rattle.chip.specs.declared.Core.{Core}
use Rattle.chip.specs.declared.JobKind.{JobKind}
use Rattle.chip.specs.declared.JobKind.TheVariants.{Idle, WriteStatus, Program, SmallErase, SectorErase, ChipErase}
use Rattle.chip.specs.Fields.{with_suspended, with_waiting, with_job}
use Rattle.chip.specs.Job.{is_job, no_job}
use Rattle.chip.specs.Chip.{whole, empty_frame, blank_load, status_byte, NoLeftovers}
use Rattle.legal.specs.Legal.{is_blank, legal}
use Rattle.legal.proofs.Legality.{LegalCore, chip-facts}
use Rattle.job.specs.Tick.{tick_core, ticks_core, worked}
use Rattle.frame.specs.Frame.{judge, taken, exchanged}
use Rattle.verdict.specs.Verdict.{job_of, job_verdict, command_verdict, listed, verdict, record_of}
use Rattle.verdict.specs.Effect.{instantly, acted, settled, held_after}
use Rattle.event.specs.Event.{applied}
use Rattle.script.specs.Script.{fault_at, walk, events_from, timed, played}
use Rattle.script.specs.Run.{World, world, runs}
use Rattle.demands.specs.Demand2.{StatusByte}
use Rattle.meets.specs.Opening.{frame_empty, load_blank, not-suspended, not-waiting}
use Rattle.meets.specs.Examples.{frame}
use Rattle.meets.specs.Meets2Reads.{status_bits}

-- ---- a state at rest

-- what a chip without a job and without a frame still knows; asleep it is not armed
pub record Rest : Type 0 where
  pub level : ℕ
  pub tb : Bool
  pub srwp : Bool
  pub wen : Bool
  pub wp : Bool
  pub deep : Bool
  pub armed : Bool
  pub level_small : level ≤ 7
  pub asleep_unarmed : deep ≡ true → armed ≡ false

-- its core, its chip, and the world of that chip with this memory
abbrev pub core_of : Rest → Core
core_of r = record { level = r.level; tb = r.tb; srwp = r.srwp; wen = r.wen; suspended = false; waiting = false; wp = r.wp; deep = r.deep; armed = r.armed; job = no_job }

abbrev pub chip_of : Rest → Chip
chip_of r = whole (core_of r) empty_frame blank_load blank_load

abbrev pub world_of : Rest → List ℕ → World
world_of r m = world (chip_of r) m [] 0

-- what it says to a script
abbrev pub records_of : Setting → Rest → List ℕ → List ℕ → List ℕ
records_of T r m s = (runs T (played s) (world_of r m)).written

-- ---- four scripts

-- a status read; one after a wake; a reset; two write status of 80h after a wake, each enabled
abbrev reading : List ℕ
reading = frame (0x05 ∷ 0 ∷ [])

abbrev waking : List ℕ
waking = frame (0xAB ∷ []) ++ frame (0x05 ∷ 0 ∷ [])

abbrev resetting : List ℕ
resetting = frame (0x99 ∷ [])

abbrev locking : List ℕ
locking = frame (0xAB ∷ []) ++ (frame (0x06 ∷ []) ++ (frame (0x01 ∷ 0x80 ∷ []) ++ (TICK ∷ (frame (0x06 ∷ []) ++ frame (0x01 ∷ 0x80 ∷ [])))))

-- ---- what each shows, by the seven values

module _ (T : Setting) (m : List ℕ) where
  abbrev says : ℕ → Bool → Bool → Bool → Bool → Bool → Bool → List ℕ → List ℕ
  says level tb srwp wen wp deep armed s =
      (runs T (played s) (world (whole (record { level = level; tb = tb; srwp = srwp; wen = wen; suspended = false; waiting = false; wp = wp; deep = deep; armed = armed; job = no_job }) empty_frame blank_load blank_load) m [] 0)).written

  -- the second byte of a status read floats asleep, and is driven awake
  shows_deep : (level : ℕ) (tb srwp wen wp deep armed : Bool) → get_or (says level tb srwp wen wp deep armed reading) 1 0 ≡ cond deep 0x80 0x81
  unfolding runs timed events_from walk fault_at known_kind known_in_script kind_row kind_row_in applied exchanged taken judge row_of row_in is_program verdict record_of listed is_read command_verdict job_verdict job_of fits_rule settled acted held_after instantly ticks_core tick_core worked
  shows_deep level tb srwp wen wp true armed = refl
  shows_deep level tb srwp wen wp false armed = refl

  -- after a wake it is driven, with the status byte
  shows_status : (level : ℕ) (tb srwp wen wp deep armed : Bool)
      → get_or (says level tb srwp wen wp deep armed waking) 5 0
      ≡ status_byte (record { level = level; tb = tb; srwp = srwp; wen = wen; suspended = false; waiting = false; wp = wp; deep = false; armed = false; job = no_job })
  unfolding runs timed events_from walk fault_at known_kind known_in_script kind_row kind_row_in applied exchanged taken judge row_of row_in is_program verdict record_of listed is_read command_verdict job_verdict job_of fits_rule settled acted held_after instantly ticks_core tick_core worked
  shows_status level tb srwp wen wp true armed = refl
  shows_status level tb srwp wen wp false armed = refl

  -- a reset of a chip that is awake is done if it is armed, and otherwise 11
  shows_armed : (level : ℕ) (tb srwp wen wp armed : Bool) → get_or (says level tb srwp wen wp false armed resetting) 2 0 ≡ cond armed 1 11
  unfolding runs timed events_from walk fault_at known_kind known_in_script kind_row kind_row_in applied exchanged taken judge row_of row_in is_program verdict record_of listed is_read command_verdict job_verdict job_of fits_rule settled acted held_after instantly ticks_core tick_core worked
  shows_armed level tb srwp wen wp true = refl
  shows_armed level tb srwp wen wp false = refl

  -- the second write status begins with WP high, and is 10 with WP low
  shows_wp : (level : ℕ) (tb srwp wen wp deep armed : Bool) → get_or (says level tb srwp wen wp deep armed locking) 16 0 ≡ cond wp 2 10
  unfolding runs timed events_from walk fault_at known_kind known_in_script kind_row kind_row_in applied exchanged taken judge row_of row_in is_program verdict record_of listed is_read command_verdict job_verdict job_of fits_rule settled acted held_after instantly ticks_core tick_core worked
  shows_wp level tb true wen true true armed = refl
  shows_wp level tb true wen true false armed = refl
  shows_wp level tb true wen false true armed = refl
  shows_wp level tb true wen false false armed = refl
  shows_wp level tb false wen true true armed = refl
  shows_wp level tb false wen true false armed = refl
  shows_wp level tb false wen false true armed = refl
  shows_wp level tb false wen false false armed = refl

-- ---- the theorem

-- a choice between two different numbers tells the test
tells : (x y : ℕ) (s t : Bool) → (x ≡ y → ⊥) → cond s x y ≡ cond t x y → s ≡ t
tells x y true true differ e = refl
tells x y true false differ e = absurd (differ e)
tells x y false true differ e = absurd (differ (sym e))
tells x y false false differ e = refl

module _ (T : Setting) (m : List ℕ) (r r' : Rest) (same : (s : List ℕ) → records_of T r m s ≡ records_of T r' m s) where
  -- one byte of the records to a script
  byte_same : (s : List ℕ) (i : ℕ) → get_or (records_of T r m s) i 0 ≡ get_or (records_of T r' m s) i 0
  byte_same s i = ap (λ (bytes : List ℕ). get_or bytes i 0) (same s)

  -- the status bytes of the two, awake and unarmed
  abbrev awake : Rest → Core
  awake q = record { level = q.level; tb = q.tb; srwp = q.srwp; wen = q.wen; suspended = false; waiting = false; wp = q.wp; deep = false; armed = false; job = no_job }

  status_same : status_byte (awake r) ≡ status_byte (awake r')
  status_same =
      sym (shows_status T m r.level r.tb r.srwp r.wen r.wp r.deep r.armed)
      ∙ byte_same waking 5
      ∙ shows_status T m r'.level r'.tb r'.srwp r'.wen r'.wp r'.deep r'.armed

  -- and so each bit of them
  bit : (part : ℕ → ℕ) {x y : ℕ} → part (status_byte (awake r)) ≡ x → part (status_byte (awake r')) ≡ y → x ≡ y
  bit part a b = sym a ∙ ap part status_same ∙ b

  abbrev bits : StatusByte (awake r) (status_byte (awake r))
  bits = status_bits (awake r) r.level_small

  abbrev bits' : StatusByte (awake r') (status_byte (awake r'))
  bits' = status_bits (awake r') r'.level_small

  deep_same : r.deep ≡ r'.deep
  deep_same =
      tells 0x80 0x81 r.deep r'.deep (λ e. omega arith)
      (sym (shows_deep T m r.level r.tb r.srwp r.wen r.wp r.deep r.armed)
      ∙ byte_same reading 1
      ∙ shows_deep T m r'.level r'.tb r'.srwp r'.wen r'.wp r'.deep r'.armed)

  wp_same : r.wp ≡ r'.wp
  wp_same =
      tells 2 10 r.wp r'.wp (λ e. omega arith)
      (sym (shows_wp T m r.level r.tb r.srwp r.wen r.wp r.deep r.armed)
      ∙ byte_same locking 16
      ∙ shows_wp T m r'.level r'.tb r'.srwp r'.wen r'.wp r'.deep r'.armed)

  -- what a chip that is awake says to a reset
  resets_as : (q : Rest) → q.deep ≡ false → get_or (records_of T q m resetting) 2 0 ≡ cond q.armed 1 11
  resets_as q awake-now =
      ap (λ (d : Bool). get_or (says T m q.level q.tb q.srwp q.wen q.wp d q.armed resetting) 2 0) awake-now
      ∙ shows_armed T m q.level q.tb q.srwp q.wen q.wp q.armed

  armed_same : r.armed ≡ r'.armed
  armed_same = go r.deep refl
    where
      go : (d : Bool) → r.deep ≡ d → r.armed ≡ r'.armed
      go true e = r.asleep_unarmed e ∙ sym (r'.asleep_unarmed (sym deep_same ∙ e))
      go false e = tells 1 11 r.armed r'.armed (λ z. omega arith) (sym (resets_as r e) ∙ byte_same resetting 2 ∙ resets_as r' (sym deep_same ∙ e))

  -- Two states at rest that give the same records to every script are equal.
  pub rest_shows : chip_of r ≡ chip_of r'
  rest_shows =
      let tb-same : r.tb ≡ r'.tb = tells 1 0 r.tb r'.tb (λ z. omega arith) (bit (λ n. n / 32 % 2) bits.tb bits'.tb) in
      let srwp-same : r.srwp ≡ r'.srwp = tells 1 0 r.srwp r'.srwp (λ z. omega arith) (bit (λ n. n / 128) bits.srwp bits'.srwp) in
      let wen_same : r.wen ≡ r'.wen = tells 1 0 r.wen r'.wen (λ z. omega arith) (bit (λ n. n / 2 % 2) bits.wen bits'.wen) in
      let level-same : r.level ≡ r'.level = bit (λ n. n / 4 % 8) bits.bp bits'.bp in
      λ i.
      whole (record { level = level-same i; tb = tb-same i; srwp = srwp-same i; wen = wen_same i; suspended = false; waiting = false; wp = wp_same i; deep = deep_same i; armed = armed_same i; job = no_job }) empty_frame blank_load blank_load

-- ---- any legal chip at rest

-- a legal chip without a job, a frame or leftovers, its load a page long
pub record Rests (c : Chip) (n : ℕ) : Type 0 where
  pub state_legal : legal c n ≡ true
  pub no_job_lem : is_job c.core.job.kind ≡ false
  pub unselected : c.frame.selected ≡ false
  pub no_leftovers : NoLeftovers c.core c.held
  pub load_long : length c.load ≡ 256

-- a chip as a state at rest
pub record AsRest (c : Chip) : Type 0 where
  pub rest : Rest
  pub is_rest : c ≡ chip_of rest

-- a kind that is no job is `Idle`
idle-kind : (kind : JobKind) → is_job kind ≡ false → kind ≡ Idle
idle-kind Idle h = refl
idle-kind (WriteStatus value) h = absurd (false≢true (sym h))
idle-kind Program h = absurd (false≢true (sym h))
idle-kind SmallErase h = absurd (false≢true (sym h))
idle-kind SectorErase h = absurd (false≢true (sym h))
idle-kind ChipErase h = absurd (false≢true (sym h))

-- a blank load is a row of FFh
blank-is : (load : List ℕ) → is_blank load ≡ true → load ≡ replicate (length load) 255
unfolding is_blank
blank-is [] h = refl
blank-is (b ∷ load) h =
    λ i. eqb-true b 255 (and_left (eqb b 255) (is_blank load) h) i ∷ blank-is load (and_right (eqb b 255) (is_blank load) h) i

module _ (c : Chip) (n : ℕ) (rests : Rests c n) where
  -- what it knows
  abbrev rest_of : Rest
  rest_of =
      let k : LegalCore (sectors_in n) c.core = (chip-facts c n rests.state_legal).core_part in
      record {
        level = c.core.level;
        tb = c.core.tb;
        srwp = c.core.srwp;
        wen = c.core.wen;
        wp = c.core.wp;
        deep = c.core.deep;
        armed = c.core.armed;
        level_small = k.level_small;
        asleep_unarmed = k.deep_unarmed;
      }

  -- its core has no job, is not suspended and does not wait to be
  rest_core : c.core ≡ core_of rest_of
  rest_core =
      let job_gone : c.core.job ≡ no_job = rests.no_leftovers.job_none (idle-kind c.core.job.kind rests.no_job_lem) in
      λ i. with_suspended (not-suspended c n rests.state_legal rests.no_job_lem i) (with_waiting (not-waiting c n rests.state_legal rests.no_job_lem i) (with_job (job_gone i) c.core))

  -- both its loads are blank
  rest_load : c.load ≡ blank_load
  rest_load = blank-is c.load (load_blank c n rests.state_legal rests.unselected) ∙ ap (λ (size : ℕ). replicate size 255) rests.load_long

  rest_held : c.held ≡ blank_load
  rest_held = rests.no_leftovers.load_blank (λ e. false≢true (sym rests.no_job_lem ∙ ap is_job e))

  -- A legal chip at rest without leftovers is a state at rest.
  pub as_rest : AsRest c
  as_rest = record { rest = rest_of; is_rest = λ i. whole (rest_core i) (frame_empty c n rests.state_legal rests.unselected i) (rest_load i) (rest_held i) }

-- what a chip says to a script
abbrev pub records_from : Setting → Chip → List ℕ → List ℕ → List ℕ
records_from T c m s = (runs T (played s) (world c m [] 0)).written

-- Two legal chips at rest without leftovers that give the same records to every script are equal.
pub rest_equal : (T : Setting) (m : List ℕ) (n : ℕ) (c c' : Chip) → Rests c n → Rests c' n → ((s : List ℕ) → records_from T c m s ≡ records_from T c' m s) → c ≡ c'
rest_equal T m n c c' rests rests' same =
    let r : AsRest c = as_rest c n rests in
    let r' : AsRest c' = as_rest c' n rests' in
    let through : (s : List ℕ) → records_of T r.rest m s ≡ records_of T r'.rest m s =
    λ s. ap (λ (q : Chip). records_from T q m s) (sym r.is_rest) ∙ same s ∙ ap (λ (q : Chip). records_from T q m s) r'.is_rest in
    r.is_rest ∙ rest_shows T m r.rest r'.rest through ∙ sym r'.is_rest
