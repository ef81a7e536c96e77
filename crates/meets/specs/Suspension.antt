-- Of every model that meets the demands, and of a runner over it: in suspension WEN is 1, and the verdicts that are told end at 11.
use Rattle.std.specs.Prelude.{ℕ, ◌/◌, ◌%◌, Bool, cond, ◌&&◌, eqb, length, get_or, take, drop}
use Rattle.std.proofs.Math.Bool.{true, false, not}
use Rattle.std.proofs.lemmas.Bool.{false≢true}
use mathlib.Core.List.{List, [], ◌∷◌, ◌++◌}
use Rattle.std.proofs.Math.Path.{◌≡◌, refl}
use Rattle.std.proofs.Common.{sym, ap, subst, ◌∙◌, arith, take_at, eqb-true}
use Rattle.std.proofs.Math.Decide.{ℕ_discrete}
use Rattle.cells.specs.Choice.{cond_yes, cond_no, not_so, and_four}
use Rattle.part.specs.Part.{sectors_in, setting_of}
use Rattle.commands.specs.Table.{row_of, row_in}
use Rattle.chip.specs.declared.Chip.{Chip}
use Rattle.chip.specs.declared.Core.{Core}
use Rattle.chip.specs.declared.Record.{Record}
use Rattle.chip.specs.declared.Record.TheVariants.{Nothing, Floating, Driven, Verdict, InTheWay}
use Rattle.chip.specs.Job.{is_job}
use Rattle.chip.specs.Chip.{status_byte}
use Rattle.chip.specs.Record.{record_bytes}
use Rattle.chip.proofs.Laws.{cells-job}
use Rattle.legal.specs.Legal.{legal}
use Rattle.legal.proofs.Legality.{LegalChip, chip-facts, suspended-enabled}
use Rattle.event.specs.Event.{applied}
use Rattle.event.proofs.Said.{Told, said_told}
use Rattle.script.specs.Script.{Event, played}
use Rattle.script.specs.Run.{World, world}
use Rattle.demands.specs.Model.{Model, Reply, ours, Fit, onward_by, runs_by}
use Rattle.demands.specs.Demand1.{Runner, RunReply, Demand1Run}
use Rattle.demands.specs.Demand2.{stop_of, changes_cells, StatusByte}
use Rattle.demands.specs.Suspension.{Reached, telling_twelve, KeepsWen, Records, EndsAtEleven}
use Rattle.demands.specs.Suspension.Records.{none, floating, driven, verdict, in_the_way_lem}
use Rattle.meets.specs.Ours.{done_as}
use Rattle.meets.specs.Meets1.{meets_1}
use Rattle.meets.specs.Meets2Reads.{status_bits}
use Rattle.meets.specs.WholeLife.{legality_kept, row_kept}
use Rattle.meets.specs.Decided.{Meets}
use Rattle.meets.specs.Meets.{only-ours}

-- ---- what is said

-- what ours says: nothing where it refuses, otherwise a record that the core of a legal chip can say
ours-each : (c : Chip) (m area : List ℕ) (kind body : ℕ) (P : List ℕ → Type 0) → P [] → (legal c (length m) ≡ true → (r : Record) → Told c.core r → P (record_bytes r))
    → P (ours c m area kind body).says
ours-each c m area kind body P nothing told = go (ℕ_discrete (ours c m area kind body).refusal 0)
  where
    go : Dec ((ours c m area kind body).refusal ≡ 0) → P (ours c m area kind body).says
    go (yes done) =
        let why = (meets_1.numbers c m area kind body).none.0 done in
        let fit : Fit c m area = record { state_legal = why.2; area_short = why.1 } in
        subst (λ (q : Reply). P q.says) (sym (done_as c m area fit kind body why.3 why.4))
        (told why.2 (applied (setting_of (length m) area) c m kind body).said (said_told (setting_of (length m) area) c m refl why.2 kind body))
    go (no refused) = subst (λ (q : Reply). P q.says) (sym (meets_1.refused_keeps c m area kind body refused)) nothing

module _ (M : Model) (p : Meets M) where
  said_each : (c : Chip) (m area : List ℕ) (kind body : ℕ) (P : List ℕ → Type 0) → P [] → (legal c (length m) ≡ true → (r : Record) → Told c.core r → P (record_bytes r))
      → P (M c m area kind body).says
  said_each c m area kind body P nothing told = subst (λ (q : Reply). P q.says) (sym (only-ours M p c m area kind body)) (ours-each c m area kind body P nothing told)

  -- ---- WEN

  -- in suspension 8 is not told, whatever the event
  not_eight : (c : Chip) (m area : List ℕ) (kind body : ℕ) → c.core.suspended ≡ true
      → get_or (M c m area kind body).says 0 0 ≡ 0x82 → get_or (M c m area kind body).says 1 0 ≡ 8 → ⊥
  not_eight c m area kind body suspended = said_each c m area kind body (λ says. get_or says 0 0 ≡ 0x82 → get_or says 1 0 ≡ 8 → ⊥) (λ first second. absurd (omega arith)) at
    where
      at : legal c (length m) ≡ true → (r : Record) → Told c.core r → get_or (record_bytes r) 0 0 ≡ 0x82 → get_or (record_bytes r) 1 0 ≡ 8 → ⊥
      at l Nothing told first second = absurd (omega arith)
      at l Floating told first second = absurd (omega arith)
      at l (Driven b) told first second = absurd (omega arith)
      at l (Verdict v) (most, lacks) first second = false≢true (sym (lacks second) ∙ suspended-enabled (sectors_in (length m)) c.core (chip-facts c (length m) l).core_part suspended)
      at l (InTheWay f t) told first second = absurd (omega arith)

  -- so the test that the old list had never holds
  idle : (c : Chip) (m area : List ℕ) (kind body : ℕ) → telling_twelve M c m area kind body ≡ M c m area kind body
  idle c m area kind body = cond_no test _ _ (not_so test (λ holds. let t = and_four c.core.suspended (changes_cells c.frame.opcode) first second holds in fell t.0 t.2 t.3))
    where
      first : Bool
      first = eqb (get_or (M c m area kind body).says 0 0) 0x82

      second : Bool
      second = eqb (get_or (M c m area kind body).says 1 0) 8

      test : Bool
      test = c.core.suspended && changes_cells c.frame.opcode && first && second

      fell : c.core.suspended ≡ true → first ≡ true → second ≡ true → ⊥
      fell suspended a b = not_eight c m area kind body suspended (eqb-true _ _ a) (eqb-true _ _ b)

  module _ (area : List ℕ) (w : World) (r : Reached M area w) where
    -- the chip that was led to is legal
    led_to : Fit w.chip w.memory area
    led_to =
        subst (λ (v : World). Fit v.chip v.memory area) (sym r.leads)
        (row_kept M (legality_kept M p.first) p.third area r.events (world r.chip r.memory [] 0) r.fit r.good).0

    facts : LegalChip w.chip (length w.memory)
    facts = chip-facts w.chip (length w.memory) led_to.state_legal

    -- so it has WEN
    on : w.chip.core.wen ≡ true
    on = suspended-enabled (sectors_in (length w.memory)) w.chip.core facts.core_part r.suspended

    -- and is awake, since it has a job
    awake : w.chip.core.deep ≡ false
    awake =
        not_so w.chip.core.deep
        (λ deep. false≢true (sym (facts.core_part.deep_idle deep) ∙ cells-job w.chip.core.job.kind (facts.core_part.suspended_cells r.suspended)))

    stopped : stop_of w.chip.core 0x04 ≡ 7
    unfolding row_of row_in
    stopped = go (is_job w.chip.core.job.kind) w.chip.core.deep w.chip.core.suspended awake r.suspended
      where
        go : (job deep suspended : Bool) → deep ≡ false → suspended ≡ true → ◌≡◌ {A = ℕ} (cond (deep && true) 5 (cond (job && not suspended && true) 6 (cond (suspended && true) 7 0))) 7
        go true false true d s = refl
        go false false true d s = refl
        go job true suspended d s = absurd (false≢true (sym d))
        go job false false d s = absurd (false≢true s)

    status : (status_byte w.chip.core / 64 % 2 ≡ 1) × (status_byte w.chip.core / 2 % 2 ≡ 1)
    status =
        let bits : StatusByte w.chip.core (status_byte w.chip.core) = status_bits w.chip.core facts.core_part.level_small in
        (bits.sus ∙ cond_yes w.chip.core.suspended 1 0 r.suspended, bits.wen ∙ cond_yes w.chip.core.wen 1 0 on)

-- In suspension a program or an erase never meets WEN 0.
pub keeps_wen : (M : Model) → Meets M → KeepsWen M
keeps_wen M p =
    record {
      wen_is_on = on M p;
      never_eight = λ area w bits r few eight.
          not_eight M p w.chip w.memory area 0x03 bits r.suspended (ap (λ (says : List ℕ). get_or says 0 0) eight) (ap (λ (says : List ℕ). get_or says 1 0) eight);
      twelve_idle = idle M p;
      disable_stopped = stopped M p;
      status_shows = status M p;
    }

-- ---- the list's end

-- what a core can say is a record, or nothing
one-record : (k : Core) (r : Record) → Told k r → Records (record_bytes r)
one-record k Nothing told = none
one-record k Floating told = floating [] none
one-record k (Driven b) told = driven b [] none
one-record k (Verdict v) (most, lacks) = verdict v [] most none
one-record k (InTheWay first last) told = in_the_way_lem first last [] none

-- records behind records are records
records_add : (a b : List ℕ) → Records a → Records b → Records (a ++ b)
records_add _ b none q = q
records_add _ b (floating more p) q = floating (more ++ b) (records_add more b p q)
records_add _ b (driven byte more p) q = driven byte (more ++ b) (records_add more b p q)
records_add _ b (verdict v more few p) q = verdict v (more ++ b) few (records_add more b p q)
records_add _ b (in_the_way_lem first last more p) q = in_the_way_lem first last (more ++ b) (records_add more b p q)

module _ (M : Model) (p : Meets M) where
  says : (c : Chip) (m area : List ℕ) (kind body : ℕ) → Records (M c m area kind body).says
  says c m area kind body = said_each M p c m area kind body Records none (λ l. one-record c.core)

  row_says : (area : List ℕ) (es : List Event) (w : World) → Records w.written → Records (runs_by M area es w).written
  unfolding runs_by
  row_says area [] w before = before
  row_says area (e ∷ es) w before =
      row_says area es (onward_by M area e w) (records_add w.written _ before (says w.chip w.memory area e.kind e.body))

  run_says : (R : Runner) → Demand1Run M R → (c : Chip) (m area s out : List ℕ) → Records (take (R c m area s out).written (R c m area s out).output)
  run_says R d c m area s out = go (ℕ_discrete (R c m area s out).refusal 0)
    where
      Wrote : RunReply → Type 0
      Wrote q = Records (take q.written q.output)

      w : World
      w = runs_by M area (played s) (world c m [] 0)

      go : Dec ((R c m area s out).refusal ≡ 0) → Wrote (R c m area s out)
      go (yes done) =
          subst Wrote (sym (d.done_runs c m area s out done))
          (subst Records (sym (take_at w.written (drop (length w.written) out) (length w.written) refl)) (row_says area (played s) (world c m [] 0) none))
      go (no refused) = subst Wrote (sym (d.refused_keeps c m area s out refused)) none

-- No event and no run tells a verdict over 11.
pub ends_at-eleven : (M : Model) (R : Runner) → Meets M → Demand1Run M R → EndsAtEleven M R
ends_at-eleven M R p d = record { says = says M p; written = λ c m area es. row_says M p area es (world c m [] 0) none; runs = run_says M p R d }
