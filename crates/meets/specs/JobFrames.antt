-- Frames that begin a job, over the definitions: what such a frame holds, its data bytes, its verdict 2 and what that leaves.
use Rattle.std.specs.Prelude.{ℕ, ◌+◌, ◌%◌, ◌≤◌, Bool, ◌&&◌, ◌≡◌, refl, eqb, ltb, length, replicate, set}
use Rattle.std.proofs.Math.Bool.{true, false, not}
use mathlib.Core.List.{List, [], ◌∷◌, ◌++◌, append_assoc, append-nil}
use Rattle.std.proofs.Common.{sym, ◌∙◌, mod-eq_of_lt, arith, le-leb, eq-eqb, ne_eqb}
use Rattle.std.proofs.Math.Path.{ap}
use Rattle.cells.specs.Choice.{cond_yes, cond_no, cond_either}
use Rattle.part.specs.Part.{Setting}
use Rattle.commands.specs.Table.{row_of, row_in, fits_rule, is_read, is_program, reset_enable}
use Rattle.chip.specs.declared.Core.{Core}
use Rattle.chip.specs.declared.Frame.{Frame}
use Rattle.chip.specs.declared.Job.{Job}
use Rattle.chip.specs.declared.JobKind.{JobKind}
use Rattle.chip.specs.declared.JobKind.TheVariants.{WriteStatus, Program, SmallErase, SectorErase, ChipErase}
use Rattle.chip.specs.declared.Record.TheVariants.{Floating}
use Rattle.chip.specs.Fields.{with_suspended, with_waiting, with_armed, with_job}
use Rattle.chip.specs.Job.{is_job, has_cells}
use Rattle.chip.specs.Chip.{whole}
use Rattle.frame.specs.Frame.{judge, loading, Exchange, exchange, taken}
use Rattle.frame.specs.Laws.{exchanged_taken}
use Rattle.verdict.specs.Verdict.{job_of, start_of, job_asked, target_protected, pointless, job_verdict, listed, verdict}
use Rattle.verdict.proofs.Laws.{command_as}
use Rattle.verdict.specs.Effect.{acted, settled}
use Rattle.event.specs.Event.{settle_exchange, applied}
use Rattle.script.specs.Run.{world, after, onward, runs}
use Rattle.demands.specs.Model.{event, sends}
use Rattle.demands.specs.Demand2.{among, AllBytes}
use Rattle.meets.specs.Opening.{among_two}
use Rattle.meets.specs.Reads.{taken_by_lem}
use Rattle.meets.specs.Load.{load_after}

-- ---- such a frame

-- an open frame of a command with an address, n bytes or more having come
pub record Holds (opcode A n : ℕ) (f : Frame) : Type 0 where
  pub is_open : f.selected ≡ true
  pub opcode_is : f.opcode ≡ opcode
  pub address_is : f.address ≡ A
  pub unjudged : f.judgement ≡ 0
  pub so_many : n ≤ f.count

-- ---- the data bytes of a page program

-- the frame after some of them
unfoldable pub data_frame : List ℕ → Frame → Frame
data_frame [] f = f
data_frame (b ∷ bs) f = data_frame bs (loading f)

-- one of them leaves it such a frame
data_holds : (opcode A n : ℕ) (f : Frame) → n ≤ 6 → Holds opcode A n f → Holds opcode A n (loading f)
data_holds opcode A n f few at =
    record {
      is_open = at.is_open;
      opcode_is = at.opcode_is;
      address_is = at.address_is;
      unjudged = at.unjudged;
      so_many = cond_either (λ (q : ℕ). n ≤ q) (ltb f.count 6) (f.count + 1) 6 (λ _. omega (arith, at.so_many)) (λ _. few);
    }

-- So do any number of them.
pub data_keeps : (opcode A n : ℕ) (bs : List ℕ) (f : Frame) → n ≤ 6 → Holds opcode A n f → Holds opcode A n (data_frame bs f)
unfolding data_frame
data_keeps opcode A n [] f few at = at
data_keeps opcode A n (b ∷ bs) f few at = data_keeps opcode A n bs (loading f) few (data_holds opcode A n f few at)

module _ (T : Setting) (k : Core) (held m : List ℕ) (opcode A : ℕ) (program : among (0x02 ∷ 0x0A ∷ []) opcode ≡ true) where
  -- a data byte floats and goes into the load
  data_onward : (f : Frame) (load written : List ℕ) (b : ℕ) → b ≤ 255 → Holds opcode A 4 f
      → onward T (event 0x02 b) (world (whole k f load held) m written 0) ≡ world (whole k (loading f) (set load f.slot b) held) m (written ++ (0x80 ∷ [])) 0
  unfolding applied
  data_onward f load written b byte at =
      ap (λ (x : Exchange). after (world (whole k f load held) m written 0) (settle_exchange (whole k f load held) m x))
      (exchanged_taken T k f load m (b % 256) at.is_open (λ z. omega (arith, z, at.so_many)) at.unjudged
      ∙ among_two (λ (q : ℕ). f.opcode ≡ q → taken T k f load m (b % 256) ≡ exchange Floating (loading f) (set load f.slot (b % 256))) 0x02 0x0A
      (λ e. taken_by_lem T k f load m (b % 256) e (le-leb 4 f.count at.so_many) refl)
      (λ e. taken_by_lem T k f load m (b % 256) e (le-leb 4 f.count at.so_many) refl) opcode program at.opcode_is
      ∙ ap (λ (q : ℕ). exchange Floating (loading f) (set load f.slot q)) (mod-eq_of_lt (omega arith)))

  -- So any number of them do.
  pub data_runs : (bs : List ℕ) (f : Frame) (load written : List ℕ) → AllBytes bs → Holds opcode A 4 f
      → runs T (sends bs) (world (whole k f load held) m written 0) ≡ world (whole k (data_frame bs f) (load_after bs f.slot load) held) m (written ++ replicate (length bs) 0x80) 0
  unfolding runs data_frame load_after AllBytes
  data_runs [] f load written bytes at = ap (λ (q : List ℕ). world (whole k f load held) m q 0) (sym (append-nil written))
  data_runs (b ∷ bs) f load written bytes at =
      ap (runs T (sends bs)) (data_onward f load written b bytes.0 at)
      ∙ data_runs bs (loading f) (set load f.slot b) (written ++ (0x80 ∷ [])) bytes.1 (data_holds opcode A 4 f (omega arith) at)
      ∙ ap (λ (q : List ℕ). world (whole k (data_frame bs (loading f)) (load_after bs (loading f).slot (set load f.slot b)) held) m q 0)
      (append_assoc written (0x80 ∷ []) (replicate (length bs) 0x80))

-- ---- the commands that begin a job

-- a known opcode with this length rule, not a read, with something to act on, that asks for a job of this kind
pub record Command (opcode A rule : ℕ) (kind : JobKind) : Type 0 where
  pub known : (row_of opcode).known ≡ true
  pub rule_is : (row_of opcode).rule ≡ rule
  pub no_read : is_read opcode ≡ false
  pub acts : (k : Core) → pointless k opcode ≡ false
  pub asks : job_of opcode A ≡ kind
  pub a_job : is_job kind ≡ true

-- of these facts
fact : {opcode A rule : ℕ} {kind : JobKind} → (row_of opcode).known ≡ true → (row_of opcode).rule ≡ rule → is_read opcode ≡ false → ((k : Core) → pointless k opcode ≡ false) → job_of opcode A ≡ kind
    → is_job kind ≡ true → Command opcode A rule kind
fact known rule_is no_read acts asks a_job = record { known = known; rule_is = rule_is; no_read = no_read; acts = acts; asks = asks; a_job = a_job }

-- The programs, the erases and the write status are such commands.
pub programs : (opcode A : ℕ) → among (0x02 ∷ 0x0A ∷ []) opcode ≡ true → Command opcode A 5 Program
unfolding row_of row_in is_read job_of is_program
programs opcode A =
    among_two (λ (q : ℕ). Command q A 5 Program) 0x02 0x0A
    (fact refl refl refl (λ k. refl) refl refl)
    (fact refl refl refl (λ k. refl) refl refl) opcode

pub small_erases : (opcode A : ℕ) → among (0x20 ∷ 0xD7 ∷ []) opcode ≡ true → Command opcode A 4 SmallErase
unfolding row_of row_in is_read job_of is_program
small_erases opcode A =
    among_two (λ (q : ℕ). Command q A 4 SmallErase) 0x20 0xD7
    (fact refl refl refl (λ k. refl) refl refl)
    (fact refl refl refl (λ k. refl) refl refl) opcode

pub sector-erases : (A : ℕ) → Command 0xD8 A 4 SectorErase
unfolding row_of row_in is_read job_of is_program
sector-erases A = fact refl refl refl (λ k. refl) refl refl

pub chip-erases : (opcode : ℕ) → among (0x60 ∷ 0xC7 ∷ []) opcode ≡ true → Command opcode 0 1 ChipErase
unfolding row_of row_in is_read job_of is_program
chip-erases opcode =
    among_two (λ (q : ℕ). Command q 0 1 ChipErase) 0x60 0xC7
    (fact refl refl refl (λ k. refl) refl refl)
    (fact refl refl refl (λ k. refl) refl refl) opcode

pub status_writes : (value : ℕ) → value ≤ 255 → Command 0x01 value 2 (WriteStatus value)
unfolding row_of row_in is_read job_of is_program
status_writes value byte = fact refl refl refl (λ k. refl) (ap WriteStatus (mod-eq_of_lt (omega arith))) refl

-- ---- verdict 2

never : (a : Bool) → (a && false) ≡ false
never true = refl
never false = refl

module _ (S : ℕ) (k : Core) (f : Frame) (opcode A rule n : ℕ) (kind : JobKind) (command : Command opcode A rule kind) (at : Holds opcode A n f) where
  -- the job of that kind, at its place
  abbrev job : Job
  job = record { kind = kind; start = start_of S kind A; done = 0 }

  -- the frame asks for this job
  asks_job : job_asked S f ≡ job
  asks_job =
      (λ i. record { kind = job_of (at.opcode_is i) (at.address_is i); start = start_of S (job_of (at.opcode_is i) (at.address_is i)) (at.address_is i); done = 0 })
      ∙ ap (λ (q : JobKind). record { kind = q; start = start_of S q A; done = 0 }) command.asks

  -- a job with WEN, not locked and not protected, gets verdict 2
  job_begins : k.wen ≡ true → (not (has_cells kind) && k.srwp && not k.wp) ≡ false → target_protected S k kind (start_of S kind A) ≡ false → job_verdict S k job ≡ 2
  unfolding job_verdict
  job_begins enabled unlocked free =
      cond_no (not k.wen) _ _ (ap not enabled)
      ∙ cond_no (not (has_cells kind) && k.srwp && not k.wp) _ _ unlocked
      ∙ cond_no (target_protected S k kind (start_of S kind A)) _ _ free

  -- So does its frame, at the right length and with nothing to stop it.
  pub verdict_begins : judge k opcode ≡ 0 → 1 ≤ n → fits_rule rule f.count ≡ true
      → k.wen ≡ true → (not (has_cells kind) && k.srwp && not k.wp) ≡ false → target_protected S k kind (start_of S kind A) ≡ false → verdict S k f false ≡ 2
  unfolding verdict listed
  verdict_begins unstopped some right enabled unlocked free =
      let judged : judge k f.opcode ≡ 0 = ap (judge k) at.opcode_is ∙ unstopped in
      let long : fits_rule (row_of f.opcode).rule f.count ≡ true = ap (λ (q : ℕ). fits_rule (row_of q).rule f.count) at.opcode_is ∙ ap (λ (q : ℕ). fits_rule q f.count) command.rule_is ∙ right in
      cond_no (eqb f.count 0) _ _ (ne_eqb f.count 0 (λ z. omega (arith, z, some, at.so_many)))
      ∙ cond_no (not (eqb f.judgement 0)) _ _ (ap not (eq-eqb _ _ at.unjudged))
      ∙ cond_no (not (eqb (judge k f.opcode) 0)) _ _ (ap not (eq-eqb _ _ judged))
      ∙ cond_no (is_read f.opcode) _ _ (ap is_read at.opcode_is ∙ command.no_read)
      ∙ cond_no (not (fits_rule (row_of f.opcode).rule f.count)) _ _ (ap not long)
      ∙ command_as S k f job (ap (pointless k) at.opcode_is ∙ command.acts k) (sym asks_job)
      ∙ cond_yes (is_job kind) _ _ command.a_job
      ∙ job_begins enabled unlocked free

  -- It leaves that job, neither suspended nor waiting, and unarmed, and all else as it was.
  pub settled_begun : 1 ≤ n → settled S k f 2 ≡ with_armed false (with_suspended false (with_waiting false (with_job job k)))
  unfolding settled acted
  settled_begun some =
      cond_no (eqb f.count 0) _ _ (ne_eqb f.count 0 (λ z. omega (arith, z, some, at.so_many)))
      ∙ ap (λ (armed : Bool). with_armed armed (with_suspended false (with_waiting false (with_job (job_asked S f) k)))) (never (eqb f.opcode reset_enable))
      ∙ ap (λ (j : Job). with_armed false (with_suspended false (with_waiting false (with_job j k)))) asks_job
