-- The definitions of legality and of a fresh state say what `demands/specs/States` says.
use Rattle.std.specs.Prelude.{ℕ, ◌+◌, ◌*◌, ◌/◌, ◌%◌, ◌<◌, ◌≤◌, Bool, true, false, cond, not, ◌&&◌, ◌||◌, List, [], ◌∷◌, ◌≡◌, refl, ◌↔◌, eqb, leb}
use Rattle.std.proofs.lemmas.Bool.{false≢true}
use Rattle.std.proofs.Common.{sym, ap, subst, ◌∙◌, mul-one, mul-zero, arith, eq-eqb, ne_eqb, eqb-true, le-leb, leb-true}
use Rattle.std.proofs.Math.Decide.{ℕ_discrete}
use Rattle.cells.specs.Choice.{cond_yes, cond_no, and_left, and_right, and_both}
use Rattle.part.specs.Part.{permitted, sectors_in, length_of}
use Rattle.part.proofs.Laws.{permitted-whole, permitted-some}
use Rattle.job.proofs.Legality.{running-awake}
use Rattle.chip.proofs.Laws.{cells-job}
use Rattle.chip.specs.declared.Chip.{Chip}
use Rattle.chip.specs.declared.Frame.{Frame}
use Rattle.chip.specs.declared.Job.{Job}
use Rattle.chip.specs.declared.JobKind.{JobKind}
use Rattle.chip.specs.declared.JobKind.TheVariants.{Idle, WriteStatus, Program, SmallErase, SectorErase, ChipErase}
use Rattle.chip.specs.Job.{is_job, total, has_cells}
use Rattle.chip.specs.Chip.{status_byte, fresh, running, suspendable}
use Rattle.legal.specs.Legal.{is_empty, is_blank, placed, tidy, judgement_known, legal}
use Rattle.legal.proofs.Legality.{LegalCore, LegalChip, chip-facts, chip-legal, idle-legal, empty_legal}
use Rattle.legal.proofs.Legality as Legality
use Rattle.demands.specs.Demand2.{among}
use Rattle.demands.specs.States.{Placed, JobFits, places_of, AllBlank, EmptyFrame, LegalState, FreshState}
use Rattle.meets.specs.Verdicts.{five_tests}
use Rattle.meets.specs.EventRules.{empty_frame_is}

-- ---- the definitions say the same, part by part

-- the six lengths, and the judgements
pub length-among : (n : ℕ) → permitted n ≡ among (65536 ∷ 131072 ∷ 262144 ∷ 524288 ∷ 1048576 ∷ 2097152 ∷ []) n
unfolding permitted
length-among n = six (eqb n 65536) (eqb n 131072) (eqb n 262144) (eqb n 524288) (eqb n 1048576) (eqb n 2097152)
  where
    six : (a b c d e f : Bool) → (a || b || c || d || e || f) ≡ (a || (b || (c || (d || (e || (f || false))))))
    six true b c d e f = refl
    six false b c d e f = five_tests b c d e f

judgement_among : (v : ℕ) → judgement_known v ≡ among (0 ∷ 3 ∷ 5 ∷ 6 ∷ 7 ∷ []) v
judgement_among v = five_tests (eqb v 0) (eqb v 3) (eqb v 5) (eqb v 6) (eqb v 7)

-- the job, on a memory of S whole sectors
module _ (S n : ℕ) (whole_sectors : length_of S ≡ n) (sectors_are : S ≡ n / 65536) (start done : ℕ) where
  placed_at : (size steps : ℕ) → (eqb (start % size) 0 && leb (start + size) (length_of S)) ≡ true → done < steps → Placed n size start done steps
  placed_at size steps h l =
      record {
        aligned = eqb-true _ _ (and_left (eqb (start % size) 0) _ h);
        inside = subst (λ (q : ℕ). start + size ≤ q) whole_sectors (leb-true _ _ (and_right (eqb (start % size) 0) _ h));
        unfinished = l;
      }

  at_placed : (size steps : ℕ) → Placed n size start done steps → (eqb (start % size) 0 && leb (start + size) (length_of S)) ≡ true
  at_placed size steps p = and_both (eqb (start % size) 0) _ (eq-eqb _ _ p.aligned) (le-leb _ _ (subst (λ (q : ℕ). start + size ≤ q) (sym whole_sectors) p.inside))

  fits : (kind : JobKind) → placed S kind start ≡ true → (is_job kind ≡ true → done < total kind S) → JobFits n kind start done
  fits Idle p u = tt
  fits (WriteStatus value) p u = (eqb-true _ _ p, u refl)
  fits Program p u = placed_at 256 16 p (u refl)
  fits SmallErase p u = placed_at 4096 16 p (u refl)
  fits SectorErase p u = placed_at 65536 256 p (u refl)
  fits ChipErase p u = (eqb-true _ _ p, subst (λ (q : ℕ). done < 256 * q) sectors_are (u refl))

  fits_placed : (kind : JobKind) → JobFits n kind start done → placed S kind start ≡ true
  fits_placed Idle j = refl
  fits_placed (WriteStatus value) j = eq-eqb _ _ j.0
  fits_placed Program j = at_placed 256 16 j
  fits_placed SmallErase j = at_placed 4096 16 j
  fits_placed SectorErase j = at_placed 65536 256 j
  fits_placed ChipErase j = eq-eqb _ _ j.0

  fits_unfinished : (kind : JobKind) → JobFits n kind start done → is_job kind ≡ true → done < total kind S
  fits_unfinished Idle j e = absurd (false≢true e)
  fits_unfinished (WriteStatus value) j e = j.1
  fits_unfinished Program j e = j.unfinished
  fits_unfinished SmallErase j e = j.unfinished
  fits_unfinished SectorErase j e = j.unfinished
  fits_unfinished ChipErase j e = subst (λ (q : ℕ). done < 256 * q) (sym sectors_are) j.1

-- the empty frame
blank-all : (load : List ℕ) → is_blank load ≡ true → AllBlank load
unfolding is_blank
blank-all [] h = tt
blank-all (b ∷ load) h = (eqb-true b 255 (and_left (eqb b 255) (is_blank load) h), blank-all load (and_right (eqb b 255) (is_blank load) h))

all-blank : (load : List ℕ) → AllBlank load → is_blank load ≡ true
unfolding is_blank
all-blank [] a = refl
all-blank (b ∷ load) a = and_both (eqb b 255) (is_blank load) (eq-eqb b 255 a.0) (all-blank load a.1)

is_empty_lem : (f : Frame) (load : List ℕ) → (is_empty f && is_blank load) ≡ true → EmptyFrame f load
is_empty_lem f load h =
    let e = empty_frame_is f (and_left (is_empty f) (is_blank load) h) in
    record {
      no_opcode = ap (λ (g : Frame). g.opcode) e;
      no_address = ap (λ (g : Frame). g.address) e;
      no_place = ap (λ (g : Frame). g.place) e;
      no_slot = ap (λ (g : Frame). g.slot) e;
      no_byte = ap (λ (g : Frame). g.count) e;
      no_judgement = ap (λ (g : Frame). g.judgement) e;
      load_blank = blank-all load (and_right (is_empty f) (is_blank load) h);
    }

empty_is : (f : Frame) (load : List ℕ) → EmptyFrame f load → (is_empty f && is_blank load) ≡ true
unfolding is_empty
empty_is f load e =
    rw (eq-eqb f.opcode 0 e.no_opcode, eq-eqb f.address 0 e.no_address, eq-eqb f.place 0 e.no_place, eq-eqb f.slot 0 e.no_slot, eq-eqb f.count 0 e.no_byte, eq-eqb f.judgement 0 e.no_judgement)
    (all-blank load e.load_blank)

-- a frame is begun, or empty
tidy-empty : (f : Frame) (load : List ℕ) → tidy f load ≡ true → (f.selected && not (eqb f.count 0)) ≡ false → EmptyFrame f load
tidy-empty f load t not-begun = is_empty_lem f load (subst (λ (b : Bool). (b || is_empty f && is_blank load) ≡ true) not-begun t)

empty_tidy : (f : Frame) (load : List ℕ) → (f.selected ≡ false → EmptyFrame f load) → (f.count ≡ 0 → EmptyFrame f load) → tidy f load ≡ true
empty_tidy f load unselected unbegun = go f.selected (eqb f.count 0) refl refl
  where
    otherwise : (b : Bool) → EmptyFrame f load → (b || is_empty f && is_blank load) ≡ true
    otherwise true e = refl
    otherwise false e = empty_is f load e

    go : (s z : Bool) → f.selected ≡ s → eqb f.count 0 ≡ z → (s && not z || is_empty f && is_blank load) ≡ true
    go false z s c = otherwise false (unselected s)
    go true true s c = otherwise false (unbegun (eqb-true _ _ c))
    go true false s c = refl

-- ---- the theorem

-- A state is legal exactly when the list of the rule book has it.
pub legal-when : (c : Chip) (n : ℕ) → (legal c n ≡ true) ↔ LegalState c n
legal-when c n = (into, from)
  where
    into : legal c n ≡ true → LegalState c n
    into h =
        let l : LegalChip c n = chip-facts c n h in
        let k : LegalCore (sectors_in n) c.core = l.core_part in
        let whole_sectors : length_of (sectors_in n) ≡ n = permitted-whole n l.length_permitted in
        record {
          a_part = sym (length-among n) ∙ l.length_permitted;
          level_small = k.level_small;
          job_fits = fits (sectors_in n) n whole_sectors refl c.core.job.start c.core.job.done c.core.job.kind k.job_placed k.job_unfinished;
          job_enabled_lem = k.job_enabled_lem;
          suspended_cells = k.suspended_cells;
          waiting_runs_lem = λ w.
              let runs : suspendable c.core ≡ true = k.waiting_runs_lem w in
              (and_right (running c.core) (has_cells c.core.job.kind) runs, running-awake c.core (and_left (running c.core) (has_cells c.core.job.kind) runs));
          deep_idle = k.deep_idle;
          deep_unarmed = k.deep_unarmed;
          address_small = l.frame_part.address_small;
          place_inside = subst (λ (q : ℕ). c.frame.place < places_of q c.frame.opcode) whole_sectors l.frame_part.place_inside;
          count_small = l.frame_part.count_small;
          judgement_known_lem = sym (judgement_among c.frame.judgement) ∙ l.frame_part.judgement_known_lem;
          unselected_empty = λ e. tidy-empty c.frame c.load l.tidy_part (ap (λ (s : Bool). s && not (eqb c.frame.count 0)) e);
          unbegun_empty = λ e. tidy-empty c.frame c.load l.tidy_part (ap (λ (z : Bool). c.frame.selected && not z) (eq-eqb _ _ e) ∙ and_no c.frame.selected);
        }
      where
        and_no : (s : Bool) → (s && false) ≡ false
        and_no true = refl
        and_no false = refl

    from : LegalState c n → legal c n ≡ true
    from l =
        let part : permitted n ≡ true = length-among n ∙ l.a_part in
        let whole_sectors : length_of (sectors_in n) ≡ n = permitted-whole n part in
        let j : Job = c.core.job in
        chip-legal c n
        (record {
          length_permitted = part;
          core_part =
              record {
                level_small = l.level_small;
                job_placed = fits_placed (sectors_in n) n whole_sectors refl j.start j.done j.kind l.job_fits;
                job_unfinished = fits_unfinished (sectors_in n) n whole_sectors refl j.start j.done j.kind l.job_fits;
                job_enabled_lem = l.job_enabled_lem;
                suspended_cells = l.suspended_cells;
                waiting_runs_lem = λ w. let cells = l.waiting_runs_lem w in and_both (running c.core) (has_cells j.kind) (and_both (is_job j.kind) (not c.core.suspended) (cells-job j.kind cells.0) (ap not cells.1)) cells.0;
                deep_idle = l.deep_idle;
                deep_unarmed = l.deep_unarmed;
              };
          frame_part =
              record {
                address_small = l.address_small;
                place_inside = subst (λ (q : ℕ). c.frame.place < places_of q c.frame.opcode) (sym whole_sectors) l.place_inside;
                count_small = l.count_small;
                judgement_known_lem = judgement_among c.frame.judgement ∙ l.judgement_known_lem;
              };
          tidy_part = empty_tidy c.frame c.load l.unselected_empty l.unbegun_empty;
        })

-- ---- a fresh state

-- A fresh state keeps those five bits of any byte.
pub fresh-state : (byte : ℕ) → FreshState byte (fresh byte)
unfolding fresh status_byte
fresh-state byte =
    record {
      level_is = refl;
      status_is = sum (byte / 4 % 8) (byte / 32 % 2) (byte / 128 % 2) _ _ _ (omega arith) (omega arith) (bit (byte / 32 % 2) 32 (omega arith)) (bit (byte / 128 % 2) 128 (omega arith));
      wp_high = refl;
      awake = refl;
      unarmed = refl;
      no_job_lem = refl;
      not-waiting = refl;
      frame_empty = refl;
      load_blank = refl;
      held_blank = refl;
    }
  where
    sum : (level tb srwp four x y : ℕ) → level < 8 → four ≡ level + 8 * tb → x ≡ 32 * tb → y ≡ 128 * srwp → 0 + 0 + 4 * (level % 8) + x + 0 + y ≡ four * 4 + srwp * 128
    sum level tb srwp four x y small e f g = omega arith

    bit : (x weight : ℕ) → x < 2 → ◌≡◌ {A = ℕ} (cond (eqb x 1) weight 0) (weight * x)
    bit x weight small = go (ℕ_discrete x 1)
      where
        go : Dec (x ≡ 1) → ◌≡◌ {A = ℕ} (cond (eqb x 1) weight 0) (weight * x)
        go (yes e) = cond_yes (eqb x 1) weight 0 (eq-eqb x 1 e) ∙ sym (mul-one weight) ∙ ap (λ (y : ℕ). weight * y) (sym e)
        go (no e) =
            let zero_bit : x ≡ 0 = omega arith in
            cond_no (eqb x 1) weight 0 (ne_eqb x 1 e) ∙ sym (mul-zero weight) ∙ ap (λ (y : ℕ). weight * y) (sym zero_bit)

-- and is legal on every part
pub fresh-legal : (byte n : ℕ) → permitted n ≡ true → legal (fresh byte) n ≡ true
unfolding fresh
fresh-legal byte n part =
    chip-legal (fresh byte) n
    (record {
      length_permitted = part;
      core_part = idle-legal (sectors_in n) (fresh byte).core refl (omega arith) refl refl (λ asleep. absurd (false≢true asleep));
      frame_part = empty_legal (sectors_in n) (permitted-some n part);
      tidy_part = Legality.empty_tidy;
    })
