-- What is true of the numbers: a chip comes back from its numbers, and each answer by whether the numbers given are a state.
use Rattle.std.specs.Prelude.{ℕ, ◌<◌, Bool, true, false, ◌&&◌, List, ◌≡◌, refl, eqb, leb, length}
use Rattle.std.proofs.Math.Path.{sym, ap}
use Rattle.std.proofs.Common.{subst, ◌∙◌, arith, eq-eqb, ne_eqb, leb-true}
use Rattle.std.proofs.Math.Decide.{dec_lt}
use Rattle.cells.specs.Choice.{cond_yes, cond_no, and_left, and_right, and_four}
use Rattle.chip.specs.declared.Chip.{Chip}
use Rattle.chip.specs.declared.JobKind.{JobKind}
use Rattle.chip.specs.declared.JobKind.TheVariants.{Idle, WriteStatus, Program, SmallErase, SectorErase, ChipErase}
use Rattle.chip.specs.Fields.{with_selected}
use Rattle.legal.specs.Legal.{legal}
use Rattle.event.specs.Alone.{Answer}
use Rattle.event.specs.Alone as alone
use Rattle.script.specs.Run.{Ran}
use Rattle.margins.specs.declared.Allowances.{Allowances}
use Rattle.margins.specs.declared.Report.{Report}
use Rattle.script.specs.Run as script
use Rattle.script.specs.Report as script-report
use Rattle.boundary.specs.declared.ChipNumbers.{ChipNumbers}
use Rattle.boundary.specs.declared.EventNumbers.{EventNumbers}
use Rattle.boundary.specs.declared.RunNumbers.{RunNumbers}
use Rattle.boundary.specs.Numbers.{kind_number, kind_value, kind_of, flag_number, flag_of, is_state_of, is_state, chip_of, numbers_of, legal_numbers}
use Rattle.boundary.specs.Answers.{no_state, refused_event, done_event, event_numbers, event_of, event_memory, refused_run, done_run, run_numbers, run_of, run_memory, run_output, no_state_report, report_run_of, report_memory, report_output, report_numbers}

-- ---- a chip comes back from its numbers

pub kind_back : (k : JobKind) → kind_of (kind_number k) (kind_value k) ≡ k
unfolding kind_of
kind_back Idle = refl
kind_back (WriteStatus value) = refl
kind_back Program = refl
kind_back SmallErase = refl
kind_back SectorErase = refl
kind_back ChipErase = refl

flag_back : (b : Bool) → flag_of (flag_number b) ≡ b
flag_back true = refl
flag_back false = refl

pub chip-back : (c : Chip) → chip_of (numbers_of c) ≡ c
unfolding chip_of numbers_of
chip-back c = λ i.
    record {
      core =
          record {
            level = c.core.level;
            tb = flag_back c.core.tb i;
            srwp = flag_back c.core.srwp i;
            wen = flag_back c.core.wen i;
            suspended = flag_back c.core.suspended i;
            waiting = flag_back c.core.waiting i;
            wp = flag_back c.core.wp i;
            deep = flag_back c.core.deep i;
            armed = flag_back c.core.armed i;
            job = record { kind = kind_back c.core.job.kind i; start = c.core.job.start; done = c.core.job.done };
          };
      frame = with_selected (flag_back c.frame.selected i) c.frame;
      load = c.load;
      held = c.held;
    }

-- and its numbers are a state
kind_small : (k : JobKind) → leb (kind_number k) 5 ≡ true
kind_small Idle = refl
kind_small (WriteStatus value) = refl
kind_small Program = refl
kind_small SmallErase = refl
kind_small SectorErase = refl
kind_small ChipErase = refl

flag_small : (b : Bool) → leb (flag_number b) 1 ≡ true
flag_small true = refl
flag_small false = refl

pub numbers_are_state : (c : Chip) → is_state (numbers_of c) ≡ true
unfolding is_state_of numbers_of
numbers_are_state c =
    rw
    (flag_small c.core.tb, flag_small c.core.srwp, flag_small c.core.wen, flag_small c.core.suspended, flag_small c.core.waiting, flag_small c.core.wp, flag_small c.core.deep, flag_small c.core.armed, flag_small c.frame.selected)
    (kind_small c.core.job.kind)

-- and the flags of a state come back from its chip: a state has no flag but 0 and 1 (RULES, Legal states)
flag_again : (v : ℕ) → leb v 1 ≡ true → flag_number (flag_of v) ≡ v
flag_again v h = go (dec_lt v 1)
  where
    Again : ℕ → Type 0
    Again n = flag_number (flag_of n) ≡ n

    at : (n : ℕ) → n ≡ v → Again n → Again v
    at n e = subst Again e

    go : Dec (v < 1) → Again v
    go (yes l) = at 0 (omega (arith, l)) refl
    go (no l) = at 1 (omega (arith, l, leb-true v 1 h)) refl

-- nine flags and one test more, joined as `is_state_of` joins them: each flag's test holds
nine_true : (a b c d e f g h i k : Bool) → (a && b && c && d && e && f && g && h && i && k) ≡ true
    → (a ≡ true) × (b ≡ true) × (c ≡ true) × (d ≡ true) × (e ≡ true) × (f ≡ true) × (g ≡ true) × (h ≡ true) × (i ≡ true)
nine_true a b c d e f g h i k all =
    let p9 = and_left (a && b && c && d && e && f && g && h && i) k all in
    let p8 = and_left (a && b && c && d && e && f && g && h) i p9 in
    let p7 = and_left (a && b && c && d && e && f && g) h p8 in
    let p6 = and_left (a && b && c && d && e && f) g p7 in
    let p5 = and_left (a && b && c && d && e) f p6 in
    let p4 = and_left (a && b && c && d) e p5 in
    let first = and_four a b c d p4 in (
      first.0,
      first.1,
      first.2,
      first.3,
      and_right (a && b && c && d) e p5,
      and_right (a && b && c && d && e) f p6,
      and_right (a && b && c && d && e && f) g p7,
      and_right (a && b && c && d && e && f && g) h p8,
      and_right (a && b && c && d && e && f && g && h) i p9,
    )

pub flags_back : (c : ChipNumbers) → is_state c ≡ true → (numbers_of (chip_of c)).flags ≡ c.flags
unfolding is_state_of chip_of numbers_of
flags_back c h =
    let f = c.flags in
    let t =
    nine_true (leb f.tb 1) (leb f.srwp 1) (leb f.wen 1) (leb f.suspended 1) (leb f.waiting 1) (leb f.wp 1) (leb f.deep 1) (leb f.armed 1) (leb f.selected 1) (leb c.kind 5) h in
    λ i.
    record {
      tb = flag_again f.tb t.0 i;
      srwp = flag_again f.srwp t.1 i;
      wen = flag_again f.wen t.2 i;
      suspended = flag_again f.suspended t.3 i;
      waiting = flag_again f.waiting t.4 i;
      wp = flag_again f.wp t.5 i;
      deep = flag_again f.deep t.6 i;
      armed = flag_again f.armed t.7 i;
      selected = flag_again f.selected t.8 i;
    }

-- each number from 0 to 5 means a kind of its own
kind_again : (kind value : ℕ) → leb kind 5 ≡ true → kind_number (kind_of kind value) ≡ kind
unfolding kind_of
kind_again kind value h = go (dec_lt kind 1) (dec_lt kind 2) (dec_lt kind 3) (dec_lt kind 4) (dec_lt kind 5)
  where
    Again : ℕ → Type 0
    Again n = kind_number (kind_of n value) ≡ n

    at : (n : ℕ) → n ≡ kind → Again n → Again kind
    at n e = subst Again e

    go : Dec (kind < 1) → Dec (kind < 2) → Dec (kind < 3) → Dec (kind < 4) → Dec (kind < 5) → Again kind
    go (yes u) _ _ _ _ = at 0 (omega (arith, u)) refl
    go (no l) (yes u) _ _ _ = at 1 (omega (arith, l, u)) refl
    go (no _) (no l) (yes u) _ _ = at 2 (omega (arith, l, u)) refl
    go (no _) (no _) (no l) (yes u) _ = at 3 (omega (arith, l, u)) refl
    go (no _) (no _) (no _) (no l) (yes u) = at 4 (omega (arith, l, u)) refl
    go (no _) (no _) (no _) (no _) (no l) = at 5 (omega (arith, l, leb-true kind 5 h)) refl

-- so the number of its job's kind comes back too, and a number that is no kind's is no state
pub kind_number_back : (c : ChipNumbers) → is_state c ≡ true → (numbers_of (chip_of c)).kind ≡ c.kind
unfolding is_state_of chip_of numbers_of
kind_number_back c h = let f = c.flags in
    kind_again c.kind c.value (and_right (leb f.tb 1 && leb f.srwp 1 && leb f.wen 1 && leb f.suspended 1 && leb f.waiting 1 && leb f.wp 1 && leb f.deep 1 && leb f.armed 1 && leb f.selected 1) (leb c.kind 5) h)

-- ---- an answer as numbers

module _ (c : ChipNumbers) (a : Answer) where
  pub event_refused : (a.refusal ≡ 0 → ⊥) → event_numbers c a ≡ refused_event c a.refusal
  unfolding event_numbers
  event_refused h = cond_no (eqb a.refusal 0) _ _ (ne_eqb _ _ h)

  pub event_done : a.refusal ≡ 0 → event_numbers c a ≡ done_event a
  unfolding event_numbers
  event_done h = cond_yes (eqb a.refusal 0) _ _ (eq-eqb _ _ h)

module _ (c : ChipNumbers) (a : Ran) where
  pub run_refused : (a.refusal ≡ 0 → ⊥) → run_numbers c a ≡ refused_run c a.refusal a.offset
  unfolding run_numbers
  run_refused h = cond_no (eqb a.refusal 0) _ _ (ne_eqb _ _ h)

  pub run_done : a.refusal ≡ 0 → run_numbers c a ≡ done_run a
  unfolding run_numbers
  run_done h = cond_yes (eqb a.refusal 0) _ _ (eq-eqb _ _ h)

-- ---- legality; h is the chip that the numbers mean

pub legal-no_state : (c : ChipNumbers) (n : ℕ) → is_state c ≡ false → legal_numbers c n ≡ false
unfolding legal_numbers
legal-no_state c n over = ap (λ (b : Bool). b && legal (chip_of c) n) over

pub legal-state : (c : ChipNumbers) (n : ℕ) (h : Chip) (r : Bool) → is_state c ≡ true → h ≡ chip_of c → r ≡ legal h n → r ≡ legal_numbers c n
unfolding legal_numbers
legal-state c n h r is e p = p ∙ ap (λ (x : Chip). legal x n) e ∙ sym (ap (λ (b : Bool). b && legal (chip_of c) n) is)

-- ---- one event; a is its answer, z the memory afterwards

module _ (c : ChipNumbers) (m area : List ℕ) (kind body : ℕ) where
  pub event_no_state : (v : ℕ) (r : EventNumbers) → is_state c ≡ false → v ≡ no_state (length m) (length area) → r ≡ refused_event c v → r ≡ event_of c m area kind body
  unfolding event_of
  event_no_state v r over e p = p ∙ ap (refused_event c) e ∙ sym (cond_no (is_state c) (event_numbers c (alone.answer_of (chip_of c) m area kind body)) (refused_event c (no_state (length m) (length area))) over)

  pub event_memory_no_state : is_state c ≡ false → m ≡ event_memory c m area kind body
  unfolding event_memory
  event_memory_no_state over = sym (cond_no (is_state c) (alone.memory_of (chip_of c) m area kind body) m over)

  pub event_state : (h : Chip) (a : Answer) (r : EventNumbers) → is_state c ≡ true → h ≡ chip_of c → a ≡ alone.answer_of h m area kind body → r ≡ event_numbers c a → r ≡ event_of c m area kind body
  unfolding event_of
  event_state h a r is e q p =
      p ∙ ap (event_numbers c) (q ∙ ap (λ (x : Chip). alone.answer_of x m area kind body) e)
      ∙ sym (cond_yes (is_state c) (event_numbers c (alone.answer_of (chip_of c) m area kind body)) (refused_event c (no_state (length m) (length area))) is)

  pub event_memory_state : (h : Chip) (z : List ℕ) → is_state c ≡ true → h ≡ chip_of c → z ≡ alone.memory_of h m area kind body → z ≡ event_memory c m area kind body
  unfolding event_memory
  event_memory_state h z is e p =
      p ∙ ap (λ (x : Chip). alone.memory_of x m area kind body) e ∙ sym (cond_yes (is_state c) (alone.memory_of (chip_of c) m area kind body) m is)

-- ---- a run; a is its answer, z the memory and o the output afterwards

module _ (c : ChipNumbers) (m area s out : List ℕ) where
  pub run_no_state : (v : ℕ) (r : RunNumbers) → is_state c ≡ false → v ≡ no_state (length m) (length area) → r ≡ refused_run c v 0 → r ≡ run_of c m area s out
  unfolding run_of
  run_no_state v r over e p = p ∙ ap (λ (n : ℕ). refused_run c n 0) e ∙ sym (cond_no (is_state c) (run_numbers c (script.answer_of (chip_of c) m area s out)) (refused_run c (no_state (length m) (length area)) 0) over)

  pub run_memory_no_state : is_state c ≡ false → m ≡ run_memory c m area s out
  unfolding run_memory
  run_memory_no_state over = sym (cond_no (is_state c) (script.memory_of (chip_of c) m area s out) m over)

  pub run_output_no_state : is_state c ≡ false → out ≡ run_output c m area s out
  unfolding run_output
  run_output_no_state over = sym (cond_no (is_state c) (script.output_of (chip_of c) m area s out) out over)

  pub run_state : (h : Chip) (a : Ran) (r : RunNumbers) → is_state c ≡ true → h ≡ chip_of c → a ≡ script.answer_of h m area s out → r ≡ run_numbers c a → r ≡ run_of c m area s out
  unfolding run_of
  run_state h a r is e q p =
      p ∙ ap (run_numbers c) (q ∙ ap (λ (x : Chip). script.answer_of x m area s out) e)
      ∙ sym (cond_yes (is_state c) (run_numbers c (script.answer_of (chip_of c) m area s out)) (refused_run c (no_state (length m) (length area)) 0) is)

  pub run_memory_state : (h : Chip) (z : List ℕ) → is_state c ≡ true → h ≡ chip_of c → z ≡ script.memory_of h m area s out → z ≡ run_memory c m area s out
  unfolding run_memory
  run_memory_state h z is e p =
      p ∙ ap (λ (x : Chip). script.memory_of x m area s out) e ∙ sym (cond_yes (is_state c) (script.memory_of (chip_of c) m area s out) m is)

  pub run_output_state : (h : Chip) (o : List ℕ) → is_state c ≡ true → h ≡ chip_of c → o ≡ script.output_of h m area s out → o ≡ run_output c m area s out
  unfolding run_output
  run_output_state h o is e p =
      p ∙ ap (λ (x : Chip). script.output_of x m area s out) e ∙ sym (cond_yes (is_state c) (script.output_of (chip_of c) m area s out) out is)

-- ---- a run with a margin report

module _ (l : Allowances) (c : ChipNumbers) (m area s out : List ℕ) where
  -- numbers that are no state: refused, and all as it was
  module _ (over : is_state c ≡ false) where
    pub report_run_no_state : (v : ℕ) (r : RunNumbers) → v ≡ no_state_report l (length m) (length area) → r ≡ refused_run c v 0 → r ≡ report_run_of l c m area s out
    unfolding report_run_of
    report_run_no_state v r e p = p ∙ ap (λ (n : ℕ). refused_run c n 0) e ∙ sym (cond_no (is_state c) _ _ over)

    pub report_memory_no_state : m ≡ report_memory l c m area s out
    unfolding report_memory
    report_memory_no_state = sym (cond_no (is_state c) _ _ over)

    pub report_output_no_state : out ≡ report_output l c m area s out
    unfolding report_output
    report_output_no_state = sym (cond_no (is_state c) _ _ over)

    pub report_no_state : (r : Report) → r ≡ report_numbers l r c m area s out
    unfolding report_numbers
    report_no_state r = sym (cond_no (is_state c) _ _ over)

  -- otherwise what the run answers for the chip that they mean
  module _ (h : Chip) (is : is_state c ≡ true) (e : h ≡ chip_of c) where
    pub report_run_state : (a : Ran) (r : RunNumbers) → a ≡ script-report.answer_with l h m area s out → r ≡ run_numbers c a → r ≡ report_run_of l c m area s out
    unfolding report_run_of
    report_run_state a r q p = p ∙ ap (run_numbers c) (q ∙ ap (λ (x : Chip). script-report.answer_with l x m area s out) e) ∙ sym (cond_yes (is_state c) _ _ is)

    pub report_memory_state : (z : List ℕ) → z ≡ script-report.memory_with l h m area s out → z ≡ report_memory l c m area s out
    unfolding report_memory
    report_memory_state z p = p ∙ ap (λ (x : Chip). script-report.memory_with l x m area s out) e ∙ sym (cond_yes (is_state c) _ _ is)

    pub report_output_state : (z : List ℕ) → z ≡ script-report.output_with l h m area s out → z ≡ report_output l c m area s out
    unfolding report_output
    report_output_state z p = p ∙ ap (λ (x : Chip). script-report.output_with l x m area s out) e ∙ sym (cond_yes (is_state c) _ _ is)

    pub report_state : (r z : Report) → z ≡ script-report.report_of l r h m area s out → z ≡ report_numbers l r c m area s out
    unfolding report_numbers
    report_state r z p = p ∙ ap (λ (x : Chip). script-report.report_of l r x m area s out) e ∙ sym (cond_yes (is_state c) _ _ is)

-- ---- on the numbers of a chip, the answers are those of the chip

pub event-of_chip : (c : Chip) (m area : List ℕ) (kind body : ℕ) → event_of (numbers_of c) m area kind body ≡ event_numbers (numbers_of c) (alone.answer_of c m area kind body)
event-of_chip c m area kind body = sym (event_state (numbers_of c) m area kind body c _ _ (numbers_are_state c) (sym (chip-back c)) refl refl)

pub run_of-chip : (c : Chip) (m area s out : List ℕ) → run_of (numbers_of c) m area s out ≡ run_numbers (numbers_of c) (script.answer_of c m area s out)
run_of-chip c m area s out = sym (run_state (numbers_of c) m area s out c _ _ (numbers_are_state c) (sym (chip-back c)) refl refl)
