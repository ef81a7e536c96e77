-- What a legal state has, fact by fact, and that these facts make it legal.
use Rattle.std.specs.Prelude.{ℕ, ◌<◌, ◌≤◌, ◌^◌, Bool, true, false, not, ◌&&◌, ◌||◌, List, ◌≡◌, refl, eqb, ltb, leb}
use Rattle.std.proofs.lemmas.Bool.{false≢true, not-true}
use Rattle.std.proofs.Common.{sym, ap, ◌∙◌, arith, lt-ltb, le-leb, ltb-true, leb-true, eq-eqb}
use Rattle.cells.specs.Choice.{and_left, and_right, and_both, and_true, and_four, four_and, means_holds, means_shown}
use Rattle.part.specs.Part.{permitted, sectors_in}
use Rattle.chip.specs.declared.Chip.{Chip}
use Rattle.chip.specs.declared.Core.{Core}
use Rattle.chip.specs.declared.Frame.{Frame}
use Rattle.chip.specs.declared.Job.{Job}
use Rattle.chip.specs.Job.{is_job, has_cells, total, no_job}
use Rattle.chip.specs.Chip.{empty_frame, blank_load, suspendable}
use Rattle.chip.proofs.Laws.{cells-job}
use Rattle.legal.specs.Legal.{placed, legal_job, job_enabled, suspended_has_cells, waiting_runs, deep_rests, legal_core, judgement_known, read_places, legal_frame, is_empty, is_blank, begun, tidy, legal}

-- ---- the core

pub record LegalCore (S : ℕ) (k : Core) : Type 0 where
  pub level_small : k.level ≤ 7
  pub job_placed : placed S k.job.kind k.job.start ≡ true
  pub job_unfinished : is_job k.job.kind ≡ true → k.job.done < total k.job.kind S
  pub job_enabled_lem : is_job k.job.kind ≡ true → k.wen ≡ true
  pub suspended_cells : k.suspended ≡ true → has_cells k.job.kind ≡ true
  pub waiting_runs_lem : k.waiting ≡ true → suspendable k ≡ true
  pub deep_idle : k.deep ≡ true → is_job k.job.kind ≡ false
  pub deep_unarmed : k.deep ≡ true → k.armed ≡ false

pub core_facts : (S : ℕ) (k : Core) → legal_core S k ≡ true → LegalCore S k
unfolding legal_core legal_job
core_facts S k h =
    let first : Bool = leb k.level 7 && legal_job S k.job && job_enabled k && suspended_has_cells k in
    let five = and_left (first && waiting_runs k) (deep_rests k) h in
    let four = and_four (leb k.level 7) (legal_job S k.job) (job_enabled k) (suspended_has_cells k) (and_left first (waiting_runs k) five) in
    let rests = means_holds k.deep (not (is_job k.job.kind) && not k.armed) (and_right (first && waiting_runs k) (deep_rests k) h) in
    let unfinished : Bool = not (is_job k.job.kind) || ltb k.job.done (total k.job.kind S) in
    record {
      level_small = leb-true _ _ four.0;
      job_placed = and_left (placed S k.job.kind k.job.start) unfinished four.1;
      job_unfinished =
          λ e. ltb-true _ _ (means_holds (is_job k.job.kind) _ (and_right (placed S k.job.kind k.job.start) unfinished four.1) e);
      job_enabled_lem = means_holds (is_job k.job.kind) k.wen four.2;
      suspended_cells = means_holds k.suspended (has_cells k.job.kind) four.3;
      waiting_runs_lem = means_holds k.waiting (suspendable k) (and_right first (waiting_runs k) five);
      deep_idle = λ e. not-true (is_job k.job.kind) (and_left (not (is_job k.job.kind)) (not k.armed) (rests e));
      deep_unarmed = λ e. not-true k.armed (and_right (not (is_job k.job.kind)) (not k.armed) (rests e));
    }

pub core_legal : (S : ℕ) (k : Core) → LegalCore S k → legal_core S k ≡ true
unfolding legal_core legal_job
core_legal S k l =
    let first : Bool = leb k.level 7 && legal_job S k.job && job_enabled k && suspended_has_cells k in
    and_both (first && waiting_runs k) (deep_rests k)
    (and_both first (waiting_runs k)
    (four_and (leb k.level 7) (legal_job S k.job) (job_enabled k) (suspended_has_cells k)
    (le-leb _ _ l.level_small)
    (and_both (placed S k.job.kind k.job.start) _ l.job_placed (means_shown (is_job k.job.kind) _ (λ e. lt-ltb _ _ (l.job_unfinished e))))
    (means_shown (is_job k.job.kind) k.wen l.job_enabled_lem)
    (means_shown k.suspended (has_cells k.job.kind) l.suspended_cells))
    (means_shown k.waiting (suspendable k) l.waiting_runs_lem))
    (means_shown k.deep _ (λ e. and_both (not (is_job k.job.kind)) (not k.armed) (ap not (l.deep_idle e)) (ap not (l.deep_unarmed e))))

-- whoever is suspended has a job, and so has WEN
pub suspended-enabled : (S : ℕ) (k : Core) → LegalCore S k → k.suspended ≡ true → k.wen ≡ true
suspended-enabled S k l suspended = l.job_enabled_lem (cells-job k.job.kind (l.suspended_cells suspended))

-- with no job a core is legal, if its level is, it is neither suspended nor waits to be, and asleep it is not armed
pub idle-legal : (S : ℕ) (k : Core) → k.job ≡ no_job → k.level ≤ 7 → k.suspended ≡ false → k.waiting ≡ false → (k.deep ≡ true → k.armed ≡ false) → LegalCore S k
idle-legal S k none level awake unmarked unarmed =
    record {
      level_small = level;
      job_placed = ap (λ (j : Job). placed S j.kind j.start) none;
      job_unfinished = λ e. absurd (false≢true (sym idle ∙ e));
      job_enabled_lem = λ e. absurd (false≢true (sym idle ∙ e));
      suspended_cells = λ e. absurd (false≢true (sym awake ∙ e));
      waiting_runs_lem = λ e. absurd (false≢true (sym unmarked ∙ e));
      deep_idle = λ _. idle;
      deep_unarmed = unarmed;
    }
  where
    idle : is_job k.job.kind ≡ false
    idle = ap (λ (j : Job). is_job j.kind) none

-- ---- the frame

pub record LegalFrame (S : ℕ) (f : Frame) : Type 0 where
  pub address_small : f.address < 2 ^ 24
  pub place_inside : f.place < read_places S f.opcode
  pub count_small : f.count ≤ 6
  pub judgement_known_lem : judgement_known f.judgement ≡ true

pub frame-facts : (S : ℕ) (f : Frame) → legal_frame S f ≡ true → LegalFrame S f
unfolding legal_frame
frame-facts S f h =
    let four = and_four (ltb f.address (2 ^ 24)) (ltb f.place (read_places S f.opcode)) (leb f.count 6) (judgement_known f.judgement) h in
    record
    { address_small = ltb-true _ _ four.0; place_inside = ltb-true _ _ four.1; count_small = leb-true _ _ four.2; judgement_known_lem = four.3 }

pub frame-legal : (S : ℕ) (f : Frame) → LegalFrame S f → legal_frame S f ≡ true
unfolding legal_frame
frame-legal S f l =
    four_and (ltb f.address (2 ^ 24)) (ltb f.place (read_places S f.opcode)) (leb f.count 6) (judgement_known f.judgement)
    (lt-ltb _ _ l.address_small) (lt-ltb _ _ l.place_inside) (le-leb _ _ l.count_small) l.judgement_known_lem

-- ---- the whole

pub record LegalChip (c : Chip) (n : ℕ) : Type 0 where
  pub length_permitted : permitted n ≡ true
  pub core_part : LegalCore (sectors_in n) c.core
  pub frame_part : LegalFrame (sectors_in n) c.frame
  pub tidy_part : tidy c.frame c.load ≡ true

pub chip-facts : (c : Chip) (n : ℕ) → legal c n ≡ true → LegalChip c n
unfolding legal
chip-facts c n h =
    let four = and_four (permitted n) (legal_core (sectors_in n) c.core) (legal_frame (sectors_in n) c.frame) (tidy c.frame c.load) h in
    record { length_permitted = four.0; core_part = core_facts _ _ four.1; frame_part = frame-facts _ _ four.2; tidy_part = four.3 }

pub chip-legal : (c : Chip) (n : ℕ) → LegalChip c n → legal c n ≡ true
unfolding legal
chip-legal c n l =
    four_and (permitted n) (legal_core (sectors_in n) c.core) (legal_frame (sectors_in n) c.frame) (tidy c.frame c.load)
    l.length_permitted (core_legal _ _ l.core_part) (frame-legal _ _ l.frame_part) l.tidy_part

-- ---- the empty frame

pub empty_legal : (S : ℕ) → 1 ≤ S → LegalFrame S empty_frame
empty_legal S h = record { address_small = omega arith; place_inside = omega arith; count_small = omega arith; judgement_known_lem = refl }

pub empty_tidy : tidy empty_frame blank_load ≡ true
unfolding is_empty is_blank
empty_tidy = refl

-- a legal frame with no byte is the empty one
pub unbegun_empty : (f : Frame) (load : List ℕ) → tidy f load ≡ true → f.count ≡ 0 → is_empty f ≡ true
unbegun_empty f load h e = and_left (is_empty f) (is_blank load) (go f.selected (eqb f.count 0) (eq-eqb _ _ e) h)
  where
    go : (s z : Bool) → z ≡ true → (s && not z || is_empty f && is_blank load) ≡ true → (is_empty f && is_blank load) ≡ true
    go true true p q = q
    go true false p q = absurd (false≢true p)
    go false z p q = q

-- ---- a load is looked through only where it has to be blank

module _ (c : Chip) (n : ℕ) (part : permitted n ≡ true) where
  abbrev sound : Bool
  sound = legal_core (sectors_in n) c.core && legal_frame (sectors_in n) c.frame

  pub legal_begun : begun c.frame ≡ true → legal c n ≡ sound
  unfolding legal
  legal_begun h = rw (part, h) (and_true (legal_core (sectors_in n) c.core && legal_frame (sectors_in n) c.frame))

  pub legal_empty : begun c.frame ≡ false → legal c n ≡ (sound && (is_empty c.frame && is_blank c.load))
  unfolding legal
  legal_empty h = rw (part, h)
