-- Ours meets Demand 3: what is proved of the definitions (`Stepwise`, `Life`), read for the model.
use Rattle.std.specs.Prelude.{ℕ, ◌+◌, ◌<◌, ◌≤◌, true, false, ◌≡◌, refl, length, get_or}
use Rattle.std.proofs.lemmas.Bool.{false≢true}
use mathlib.Core.List.{List, [], ◌∷◌}
use Rattle.std.proofs.Common.{sym, subst, ◌∙◌, ⊎_elim, arith}
use Rattle.std.proofs.Math.Path.{ap}
use Rattle.part.specs.Part.{Setting, setting_of}
use Rattle.kinds.specs.Kinds.{known_in_script, kind_row_in, known_kind, kind_row}
use Rattle.chip.specs.declared.Chip.{Chip}
use Rattle.chip.specs.declared.Job.{Job}
use Rattle.chip.specs.declared.JobKind.{JobKind}
use Rattle.chip.specs.Record.{record_bytes}
use Rattle.chip.specs.Job.{is_job, total, steps}
use Rattle.chip.specs.Chip.{whole, empty_frame, blank_load, bits_of}
use Rattle.legal.proofs.Legality.{chip-facts, LegalCore}
use Rattle.event.specs.Event.{applied}
use Rattle.script.specs.Script.{Event}
use Rattle.script.specs.Run.{World, world, does, runs}
use Rattle.demands.specs.Model.{Reply, ours, reply, event, Good, AllGood, Fit, does_by, onward_by, runs_by, working_ticks, worked_by}
use Rattle.demands.specs.Demand2.{Ending, powered_up}
use Rattle.demands.specs.Demand3.{Started, AllSpare, NoneEnables, steps_of, Outlook, Spared, LeavesSteps, reset_core, Demand3}
use Rattle.meets.specs.Ours.{fit_next, runs-ours, fit_runs, ticks-ours, worked-ours}
use Rattle.meets.specs.Life.{ClosedWith, says_closed, closed_memory, two_starts, reset-drops, does-ours, says-ours, all-spare_ours, event-rests_cells, OffWithoutJob, off_event}
use Rattle.meets.specs.JobSteps.{AtStep, JobOver}
use Rattle.meets.specs.EventRules.{deselect-good, ours-jobs_begun}
use Rattle.meets.specs.TickRules.{ours-idle_ticks, ours-ticks_keep}
use Rattle.meets.specs.Stepwise.{k_steps, all_steps, outside_stays}
use Rattle.meets.specs.Stepwise as Stepwise

-- ---- one event

-- the frame that a good event closes, by what ours says
closed_by : (area : List ℕ) (e : Event) (w : World) (v : ℕ) → Fit w.chip w.memory area → Good e → (v ≡ 0 → ⊥) → (does_by ours area e w).says ≡ 0x82 ∷ v ∷ []
    → ClosedWith (setting_of (length w.memory) area) w.chip w.memory v (does (setting_of (length w.memory) area) e w)
closed_by area e w v fit good some says = says_closed _ w.chip w.memory v some e.kind e.body (sym (says-ours area e w fit good) ∙ says)

-- ---- the start and the count

-- a deselect that says 82h 02h starts a job, and the working ticks of an event are those that found one running
starts_ours : (c : Chip) (m area : List ℕ) (bits : ℕ) → Ending c m area bits → (ours c m area 0x03 bits).says ≡ 0x82 ∷ 2 ∷ [] → Started c m (ours c m area 0x03 bits)
starts_ours c m area bits end says =
    let e : Event = event 0x03 bits in
    let w : World = world c m [] 0 in
    let good : Good e = deselect-good bits end.few in
    subst (Started c m) (sym (does-ours area e w end.fit good))
    (two_starts _ c m _ (chip-facts c (length m) end.fit.state_legal).frame_part.judgement_known_lem (closed_by area e w 2 end.fit good (λ z. omega arith) says))

counts_ours : (area : List ℕ) (e : Event) (w : World) → Fit w.chip w.memory area → Good e → (does_by ours area e w).ticks ≡ working_ticks w e
counts_ours area e w fit good = ap (λ (r : Reply). r.ticks) (does-ours area e w fit good) ∙ ticks-ours area e w fit

-- ---- a row of events

-- no working tick, no cell changed
cells-rest_ours : (area : List ℕ) (w : World) (es : List Event) → Fit w.chip w.memory area → AllGood es → worked_by ours area es w ≡ 0 → (runs_by ours area es w).memory ≡ w.memory
unfolding runs_by worked_by AllGood
cells-rest_ours area w [] fit good none = refl
cells-rest_ours area w (e ∷ es) fit good none =
    let next : World = onward_by ours area e w in
    let one : next.memory ≡ w.memory =
    ap (λ (r : Reply). r.memory) (does-ours area e w fit good.0) ∙ event-rests_cells _ w.chip w.memory e.kind e.body (ticks-ours area e w fit ∙ first _ _ none) in
    cells-rest_ours area next es (fit_next area e w fit good.0) good.1 (rest _ _ none) ∙ one
  where
    first : (a b : ℕ) → a + b ≡ 0 → a ≡ 0
    first a b z = omega arith

    rest : (a b : ℕ) → a + b ≡ 0 → b ≡ 0
    rest a b z = omega arith

-- without a job WEN stays off, as long as no job begins and no write enable is done
off_runs : (area : List ℕ) (es : List Event) (w : World) → Fit w.chip w.memory area → AllGood es → AllSpare ours area es w → NoneEnables ours area es w
    → OffWithoutJob w.chip.core → OffWithoutJob (runs_by ours area es w).chip.core
unfolding runs_by AllGood AllSpare NoneEnables
off_runs area [] w fit good spared none off = off
off_runs area (e ∷ es) w fit good spared none off =
    let says = says-ours area e w fit good.0 in
    off_runs area es (onward_by ours area e w) (fit_next area e w fit good.0) good.1 spared.1 none.1
    (subst OffWithoutJob (sym (ap (λ (r : Reply). r.chip.core) (does-ours area e w fit good.0)))
    (off_event _ w.chip w.memory e.kind e.body off (λ two. spared.0.begins_none (says ∙ ap record_bytes two)) (λ one is. none.0 (says ∙ ap record_bytes one) is)))

-- ---- the life

-- what the definitions say of a job's life is what the demand asks, on a legal chip
outlook : (area : List ℕ) (kind : JobKind) (start : ℕ) (held : List ℕ) (d k : ℕ) (w w' : World) → is_job kind ≡ true → Fit w'.chip w'.memory area
    → Stepwise.Outlook (setting_of (length w.memory) area) kind start held d k w w' → Outlook kind start held d k w w'
outlook area kind start held d k w w' a_job fit o =
    record {
      memory_is = o.memory_is;
      outside_same = λ i out. ap (λ (m : List ℕ). get_or m i 0) o.memory_is ∙ outside_stays T kind start held d k w.memory i no_more out;
      no_more = no_more;
      gone_when = (λ none. ⊎_elim (λ on. absurd (false≢true (ap (λ (j : Job). is_job j.kind) (sym none ∙ on.1.job_is) ∙ a_job))) (λ end. end.0) o.where_it_is, λ all. (over all).job_none);
      stands = λ left. ((going left).job_is, (going left).held_is);
      bits_stay = λ left. ((going left).bits_are, (chip-facts w'.chip (length w'.memory) fit.state_legal).core_part.job_enabled_lem (ap (λ (j : Job). is_job j.kind) (going left).job_is ∙ a_job));
      bits_set = λ all. ((over all).bits_are, (over all).load_blank);
      whole_image_lem =
          λ from all.
          o.memory_is
          ∙ ap (λ (q : ℕ). steps kind start held q k w.memory) from
          ∙ ap (λ (q : ℕ). steps kind start held 0 q w.memory) all
          ∙ all_steps T kind start held w.memory;
    }
  where
    T : Setting
    T = setting_of (length w.memory) area

    no_more : d + k ≤ steps_of kind w
    no_more = ⊎_elim (λ on. omega (arith, on.0)) (λ end. omega (arith, end.0)) o.where_it_is

    going : d + k < steps_of kind w → AtStep kind start held (bits_of w.chip.core) (d + k) w'.chip
    going left = ⊎_elim (λ on. on.1) (λ end. absurd (omega (arith, end.0))) o.where_it_is

    over : d + k ≡ steps_of kind w → JobOver kind (bits_of w.chip.core) w'.chip
    over all = ⊎_elim (λ on. absurd (omega (arith, on.0))) (λ end. end.1) o.where_it_is

-- a job under way, and a row of events that spares it
module _ (area : List ℕ) (kind : JobKind) (start : ℕ) (held : List ℕ) (d : ℕ) (w : World) (es : List Event) (s : Spared ours area kind start held d w es) where
  abbrev T : Setting
  T = setting_of (length w.memory) area

  abbrev k : ℕ
  k = worked_by ours area es w

  abbrev w' : World
  w' = runs_by ours area es w

  abbrev fit : Fit w.chip w.memory area
  fit = s.under_way.fit

  -- the row leaves a legal chip
  fit_after : Fit w'.chip w'.memory area
  fit_after = fit_runs area es w fit s.good

  -- a job that stands on a legal chip has steps left
  job : Stepwise.UnderWay T kind start held d w
  job =
      let is = s.under_way.job_is in
      let core : LegalCore T.sectors w.chip.core = (chip-facts w.chip (length w.memory) fit.state_legal).core_part in
      record {
        job_is = is;
        load_is = s.under_way.load_is;
        steps_left_lem = subst (λ (j : Job). j.done < total j.kind T.sectors) is (core.job_unfinished (ap (λ (j : Job). is_job j.kind) is ∙ s.under_way.a_job));
      }

  -- what has become of the job after the row
  lives_ours : Outlook kind start held d k w w'
  lives_ours =
      outlook area kind start held d k w w' s.under_way.a_job fit_after
      (subst (λ (q : World). Stepwise.Outlook T kind start held d k w q) (sym (runs-ours area es w fit s.good))
      (subst (λ (q : ℕ). Stepwise.Outlook T kind start held d q w (runs T es w)) (sym (worked-ours area es w fit s.good))
      (k_steps T kind start held d w job es (all-spare_ours area es w fit s.good s.spared))))

  -- ---- the cut

  -- an event that leaves the cells leaves just those steps
  leaves : (e : Event) → (does_by ours area e w').memory ≡ w'.memory → LeavesSteps ours area kind start held d w es e
  leaves e same = same ∙ lives_ours.memory_is

  -- a verdict of 1 or 2 closes a frame, and leaves the cells
  module _ (e : Event) (good : Good e) (v : ℕ) (some : v ≡ 0 → ⊥) (says : (does_by ours area e w').says ≡ 0x82 ∷ v ∷ []) where
    closed_after : ClosedWith (setting_of (length w'.memory) area) w'.chip w'.memory v (does (setting_of (length w'.memory) area) e w')
    closed_after = closed_by area e w' v fit_after good some says

    closed_leaves : LeavesSteps ours area kind start held d w es e
    closed_leaves = leaves e (ap (λ (r : Reply). r.memory) (does-ours area e w' fit_after good) ∙ closed_memory _ _ _ v _ closed_after)

  -- a reset, and a power cut
  resets_ours : (e : Event) → Good e → w'.chip.frame.opcode ≡ 0x99 → (does_by ours area e w').says ≡ 0x82 ∷ 1 ∷ []
      → LeavesSteps ours area kind start held d w es e × ((does_by ours area e w').chip.core ≡ reset_core w'.chip.core) × ((does_by ours area e w').chip.held ≡ blank_load)
  resets_ours e good is says =
      let same = does-ours area e w' fit_after good in
      let dropped = reset-drops _ _ _ _ is (closed_after e good 1 (λ z. omega arith) says) in
      (closed_leaves e good 1 (λ z. omega arith) says, ap (λ (r : Reply). r.chip.core) same ∙ dropped.0, ap (λ (r : Reply). r.chip.held) same ∙ dropped.1)

  powers_ours : (body : ℕ)
      → ours w'.chip w'.memory area 0x07 body
      ≡ reply (whole (powered_up w'.chip.core) empty_frame blank_load blank_load) (steps kind start held d k w.memory) [] 0
  unfolding applied known_kind known_in_script kind_row kind_row_in
  powers_ours body =
      does-ours area (event 0x07 body) w' fit_after (refl, refl)
      ∙ ap (λ (m : List ℕ). reply (whole (powered_up w'.chip.core) empty_frame blank_load blank_load) m [] 0) lives_ours.memory_is

  -- ---- WEN after the last step

  -- with the job gone and no write enable done, WEN is off
  wen_off_ours : NoneEnables ours area es w → d + k ≡ steps_of kind w → w'.chip.core.wen ≡ false
  wen_off_ours none all =
      off_runs area es w fit s.good s.spared none
      (λ idle. absurd (false≢true (sym idle ∙ ap (λ (j : Job). is_job j.kind) s.under_way.job_is ∙ s.under_way.a_job)))
      (ap (λ (j : Job). is_job j.kind) (lives_ours.gone_when.1 all))

-- ---- the demand

-- Ours meets Demand 3.
pub meets_3 : Demand3 ours
meets_3 =
    record {
      jobs_begun = ours-jobs_begun;
      starts = starts_ours;
      counts = counts_ours;
      idle_ticks = ours-idle_ticks;
      ticks_keep = ours-ticks_keep;
      lives = lives_ours;
      wen_off = wen_off_ours;
      reset_cuts = λ area kind start held d w es e s good _ is says. resets_ours area kind start held d w es s e good is says;
      power_cuts = λ area kind start held d w es body s. powers_ours area kind start held d w es s body;
      other_job_cuts = λ area kind start held d w es e s good says. closed_leaves area kind start held d w es s e good 2 (λ z. omega arith) says;
      cells_rest = cells-rest_ours;
    }
