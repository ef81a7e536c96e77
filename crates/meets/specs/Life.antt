-- What a model's words mean for ours: a deselect that says 82h 01h or 82h 02h, an event that spares the job, a row without a working tick, and WEN without a job.
-- `Meets3` puts them together.
use Rattle.std.specs.Prelude.{ℕ, ◌<◌, Bool, true, false, ◌&&◌, List, [], ◌∷◌, ◌≡◌, refl, eqb, ltb, length, get_or}
use Rattle.std.proofs.lemmas.Bool.{false≢true}
use Rattle.std.proofs.Common.{sym, ap, ◌∙◌, arith, eq-eqb, ne_eqb}
use Rattle.std.proofs.Math.Path.{subst}
use Rattle.std.proofs.Math.Decide.{ℕ_discrete, dec_lt}
use Rattle.cells.specs.Choice.{cond_yes, cond_no, cond_either, and_right, not_so}
use Rattle.part.specs.Part.{Setting, setting_of}
use Rattle.commands.specs.Table.{write_enable, reset_enable}
use Rattle.kinds.specs.Kinds.{DESELECT, TICK, TICKS, Says, KindRow, kind_row_in, kind_row, says_of, is_said}
use Rattle.kinds.proofs.Laws.{kind_each}
use Rattle.chip.specs.declared.Chip.{Chip}
use Rattle.chip.specs.declared.Core.{Core}
use Rattle.chip.specs.declared.Frame.{Frame}
use Rattle.chip.specs.declared.Record.{Record}
use Rattle.chip.specs.declared.Record.TheVariants.{Nothing, Floating, Driven, Verdict, InTheWay}
use Rattle.chip.specs.Record.{record_bytes}
use Rattle.chip.specs.declared.JobKind.{JobKind}
use Rattle.chip.specs.Fields.{with_armed}
use Rattle.chip.specs.Job.{is_job}
use Rattle.chip.specs.Chip.{bits_of, blank_load, running}
use Rattle.legal.specs.Legal.{judgement_known}
use Rattle.job.specs.Tick.{ticks_core, ticks_memory, worked, ticks_left, ended_as}
use Rattle.job.proofs.Laws.{Stop, pauses, ends, stop-of, left_some, ticks-rest, ticks_go, ticks_pause, ticks_end, ticks_memory-rest, worked_go, worked_over, ended-each}
use Rattle.verdict.specs.Verdict.{verdict, record_of}
use Rattle.verdict.specs.Effect.{begins, instantly, acted, settled}
use Rattle.verdict.proofs.Laws.{verdict_two, record_plain, record_tells, acted-nothing, instantly-each, held_reset}
use Rattle.event.specs.Event.{Outcome, closes, deselect, tick, applied, sort_of}
use Rattle.event.proofs.Laws.{applied-each, says-its_kind}
use Rattle.event.proofs.Keeps.{cells_stay}
use Rattle.script.specs.Script.{Event}
use Rattle.script.specs.Run.{World, does, onward}
use Rattle.demands.specs.Model.{Reply, ours, Good, AllGood, Fit, does_by}
use Rattle.demands.specs.Demand3.{Started, Spares, AllSpare, reset_core}
use Rattle.meets.specs.Verdicts.{settled-acts}
use Rattle.meets.specs.Ours.{told, done_as, onward-ours, setting_same, fit_onward}
use Rattle.meets.specs.JobSteps.{LeavesJob}
use Rattle.meets.specs.JobSteps as JobSteps
use Rattle.meets.specs.Stepwise as Stepwise

-- ---- a deselect, by what it says

-- a record of these bytes is a verdict
pub told-verdict : (r : Record) (v : ℕ) → record_bytes r ≡ 0x82 ∷ v ∷ [] → r ≡ Verdict v
told-verdict Nothing v e = let shorter : ◌≡◌ {A = ℕ} 0 2 = ap length e in absurd (omega arith)
told-verdict Floating v e = let shorter : ◌≡◌ {A = ℕ} 1 2 = ap length e in absurd (omega arith)
told-verdict (Driven b) v e = let other : ◌≡◌ {A = ℕ} 0x81 0x82 = ap (λ (bs : List ℕ). get_or bs 0 0) e in absurd (omega arith)
told-verdict (Verdict u) v e = ap Verdict (ap (λ (bs : List ℕ). get_or bs 1 0) e)
told-verdict (InTheWay first last) v e = let longer : ◌≡◌ {A = ℕ} 3 2 = ap length e in absurd (omega arith)

-- only a deselect says a verdict
says-verdict : (kind : ℕ) → says_of kind ≡ Says.verdict → kind ≡ DESELECT
unfolding kind_row kind_row_in
says-verdict =
    kind_each (λ kind. says_of kind ≡ Says.verdict → kind ≡ DESELECT)
    (λ e. silent e) (λ e. line e) (λ _. refl) (λ e. silent e) (λ e. silent e) (λ e. silent e) (λ e. silent e) (λ e. silent e)
    (λ kind none e. silent (sym (ap (λ (r : KindRow). r.says) none) ∙ e))
  where
    silent : {A : Type 0} → Says.silent ≡ Says.verdict → A
    silent e = absurd (false≢true (ap is_said e))

    is_line : Says → Bool
    is_line Says.silent = false
    is_line Says.line = true
    is_line Says.verdict = false

    line : {A : Type 0} → Says.line ≡ Says.verdict → A
    line e = absurd (false≢true (sym (ap is_line e)))

-- an event of that kind is a deselect
as_deselect : (T : Setting) (c : Chip) (m : List ℕ) (kind body : ℕ) → kind ≡ DESELECT → applied T c m kind body ≡ deselect T c m (ltb 0 body)
unfolding applied
as_deselect T c m kind body e = ap (λ (k : ℕ). applied T c m k body) e

-- a frame is closed with this verdict, by a deselect that is loose or not
pub record ClosedWith (T : Setting) (c : Chip) (m : List ℕ) (v : ℕ) (o : Outcome) : Type 0 where
  pub loose : Bool
  pub verdict_is_lem : verdict T.sectors c.core c.frame loose ≡ v
  pub closed : o ≡ closes T c m v

module _ (T : Setting) (c : Chip) (m : List ℕ) (v : ℕ) (some : v ≡ 0 → ⊥) where
  -- a deselect that says it does so
  deselect_closed : (loose : Bool) → (deselect T c m loose).said ≡ Verdict v → ClosedWith T c m v (deselect T c m loose)
  deselect_closed loose =
      cond_either (λ (o : Outcome). o.said ≡ Verdict v → ClosedWith T c m v o) c.frame.selected _ _
      (λ _ e. let is : verdict T.sectors c.core c.frame loose ≡ v = record_tells T.sectors c.core _ v e in record { loose = loose; verdict_is_lem = is; closed = ap (closes T c m) is })
      (λ _ e. absurd (some (sym (ap (λ (r : Record). get_or (record_bytes r) 1 0) e))))

  -- An event that says a verdict other than 0 closes a frame with it.
  pub says_closed : (kind body : ℕ) → record_bytes (applied T c m kind body).said ≡ 0x82 ∷ v ∷ [] → ClosedWith T c m v (applied T c m kind body)
  says_closed kind body says =
      let said : (applied T c m kind body).said ≡ Verdict v = told-verdict _ v says in
      let same : applied T c m kind body ≡ deselect T c m (ltb 0 body) = as_deselect T c m kind body (says-verdict kind (sym (says-its_kind T c m kind body) ∙ ap sort_of said)) in
      subst (ClosedWith T c m v) (sym same) (deselect_closed (ltb 0 body) (sym (ap (λ (o : Outcome). o.said) same) ∙ said))

-- ---- what verdict 2, and verdict 1 of a reset, leave

module _ (T : Setting) (c : Chip) (m : List ℕ) (v : ℕ) (o : Outcome) (by : ClosedWith T c m v o) where
  -- a verdict other than 0 acts, and then arms or disarms
  closed_core : (v ≡ 0 → ⊥) → o.chip.core ≡ with_armed (eqb c.frame.opcode reset_enable && eqb v 1) (acted T.sectors c.core c.frame v)
  closed_core some = ap (λ (o : Outcome). o.chip.core) by.closed ∙ settled-acts T.sectors c.core c.frame by.loose v by.verdict_is_lem some

  -- and no cell changes
  pub closed_memory : o.memory ≡ m
  closed_memory = ap (λ (o : Outcome). o.memory) by.closed

-- verdict 2 of a legal chip starts a job
pub two_starts : (T : Setting) (c : Chip) (m : List ℕ) (o : Outcome) → judgement_known c.frame.judgement ≡ true → ClosedWith T c m 2 o → Started c m (told o)
unfolding acted
two_starts T c m o known by =
    let core : o.chip.core ≡ with_armed (eqb c.frame.opcode reset_enable && false) (begins T.sectors c.core c.frame) = closed_core T c m 2 o by (λ e. omega arith) in
    record {
      cells_same = closed_memory T c m 2 o by;
      bits_same = ap bits_of core;
      wen_same = ap (λ (k : Core). k.wen) core;
      wp_same = ap (λ (k : Core). k.wp) core;
      not-suspended = ap (λ (k : Core). k.suspended) core;
      not-waiting = ap (λ (k : Core). k.waiting) core;
      unarmed = ap (λ (k : Core). k.armed) core ∙ not_so (eqb c.frame.opcode reset_enable && false) (λ h. false≢true (and_right (eqb c.frame.opcode reset_enable) false h));
      a_job = ap (λ (k : Core). is_job k.job.kind) core ∙ (verdict_two T.sectors c.core c.frame by.loose known by.verdict_is_lem).begins_job_lem;
      at_step_0 = ap (λ (k : Core). k.job.done) core;
    }

-- a reset done at once leaves neither job nor load, WEN, SUS and arming off
pub reset-drops : (T : Setting) (c : Chip) (m : List ℕ) (o : Outcome) → c.frame.opcode ≡ 0x99 → ClosedWith T c m 1 o → (o.chip.core ≡ reset_core c.core) × (o.chip.held ≡ blank_load)
unfolding acted instantly
reset-drops T c m o is by = (
  closed_core T c m 1 o by (λ e. omega arith) ∙ ap (λ (opcode : ℕ). with_armed (eqb opcode reset_enable && true) (instantly c.core opcode)) is,
  ap (λ (o : Outcome). o.chip.held) by.closed ∙ held_reset c.frame 1 c.load c.held refl is,
)

-- ---- an event that spares the job

-- what ours does at a good event is what the definitions do, and it says their record
pub does-ours : (area : List ℕ) (e : Event) (w : World) → Fit w.chip w.memory area → Good e → does_by ours area e w ≡ told (does (setting_of (length w.memory) area) e w)
does-ours area e w fit good = done_as w.chip w.memory area fit e.kind e.body good.0 good.1

pub says-ours : (area : List ℕ) (e : Event) (w : World) → Fit w.chip w.memory area → Good e → (does_by ours area e w).says ≡ record_bytes (does (setting_of (length w.memory) area) e w).said
says-ours area e w fit good = ap (λ (r : Reply). r.says) (does-ours area e w fit good)

-- spared by what ours says to it, the job is spared by the definitions' verdict
spares_ours : (area : List ℕ) (e : Event) (w : World) → Fit w.chip w.memory area → Good e → Spares ours area e w → JobSteps.Spares (setting_of (length w.memory) area) w.chip e.kind e.body
spares_ours area e w fit good s = record { no_power_cut = s.no_power_cut; deselect_spares = spares }
  where
    T : Setting
    T = setting_of (length w.memory) area

    c : Chip
    c = w.chip

    says : (v : ℕ) → (v ≡ 9 → ⊥) → e.kind ≡ DESELECT → c.frame.selected ≡ true → verdict T.sectors c.core c.frame (ltb 0 e.body) ≡ v → (does_by ours area e w).says ≡ 0x82 ∷ v ∷ []
    says v plain k selected is =
        says-ours area e w fit good
        ∙ ap (λ (o : Outcome). record_bytes o.said) (as_deselect T c w.memory e.kind e.body k ∙ cond_yes c.frame.selected _ _ selected)
        ∙ ap (λ (n : ℕ). record_bytes (record_of T.sectors c.core n)) is
        ∙ ap record_bytes (record_plain T.sectors c.core v plain)

    spares : e.kind ≡ DESELECT → LeavesJob T c (ltb 0 e.body)
    spares k selected = (λ two. s.begins_none (says 2 (λ e. omega arith) k selected two), λ one is. s.no_reset (says 1 (λ e. omega arith) k selected one) is)

-- and so over a row of events
pub all-spare_ours : (area : List ℕ) (es : List Event) (w : World) → Fit w.chip w.memory area → AllGood es → AllSpare ours area es w → Stepwise.AllSpare (setting_of (length w.memory) area) es w
unfolding AllSpare Stepwise.AllSpare AllGood
all-spare_ours area [] w fit good s = tt
all-spare_ours area (e ∷ es) w fit good s =
    let next : World = onward (setting_of (length w.memory) area) e w in (
      spares_ours area e w fit good.0 s.0,
      subst (λ (T : Setting). Stepwise.AllSpare T es next) (setting_same area e w)
          (all-spare_ours area es next (fit_onward area e w fit good.0) good.1 (subst (AllSpare ours area es) (onward-ours area e w fit good.0) s.1)),
    )

-- ---- no working tick, no cell changed

-- ticks, none of which works
ticks-rest_cells : (S n : ℕ) (k : Core) (held m : List ℕ) → worked S n k ≡ 0 → ticks_memory S n k held m ≡ m
unfolding ticks_memory
ticks-rest_cells S n k held m none = go (running k) refl (dec_lt n (ticks_left S k))
  where
    go : (b : Bool) → running k ≡ b → Dec (n < ticks_left S k) → ticks_memory S n k held m ≡ m
    go false r d = ticks_memory-rest S n k held m r
    go true r (yes h) = ap (λ (t : ℕ). ticks_memory S t k held m) (sym (worked_go S k r n (omega arith)) ∙ none)
    go true r (no h) = absurd (omega (arith, worked_over S k r n (omega arith), left_some S k))

-- An event without a working tick changes no cell.
pub event-rests_cells : (T : Setting) (c : Chip) (m : List ℕ) (kind body : ℕ) → (applied T c m kind body).ticks ≡ 0 → (applied T c m kind body).memory ≡ m
unfolding applied
event-rests_cells T c m kind body none = go (ℕ_discrete kind TICK) (ℕ_discrete kind TICKS)
  where
    at : (k n : ℕ) → applied T c m k body ≡ tick T c m n → kind ≡ k → (applied T c m kind body).memory ≡ m
    at k n is e =
        let same : applied T c m kind body ≡ tick T c m n = ap (λ (k : ℕ). applied T c m k body) e ∙ is in
        ap (λ (o : Outcome). o.memory) same ∙ ticks-rest_cells T.sectors n c.core c.held m (sym (ap (λ (o : Outcome). o.ticks) same) ∙ none)

    go : Dec (kind ≡ TICK) → Dec (kind ≡ TICKS) → (applied T c m kind body).memory ≡ m
    go (yes e) d = at TICK 1 refl e
    go (no a) (yes e) = at TICKS body refl e
    go (no a) (no b) = cells_stay T c m kind body a b

-- ---- WEN without a job

-- without a job WEN is off
abbrev pub OffWithoutJob : Core → Type 0
OffWithoutJob k = is_job k.job.kind ≡ false → k.wen ≡ false

-- the last step has put it off, ticks leave it so, and so does a verdict that begins no job and is no write enable done
ended-off : (kind : JobKind) (k : Core) → (ended_as kind k).wen ≡ false
ended-off kind k = ended-each kind k (λ (q : Core). q.wen ≡ false) refl (λ _. refl)

off_ticks : (S n : ℕ) (k : Core) → OffWithoutJob k → OffWithoutJob (ticks_core S n k)
off_ticks S n k off = go (running k) refl (dec_lt n (ticks_left S k)) (stop-of S k)
  where
    go : (b : Bool) → running k ≡ b → Dec (n < ticks_left S k) → Stop S k → OffWithoutJob (ticks_core S n k)
    go false r d s = subst OffWithoutJob (sym (ticks-rest S n k r)) off
    go true r (yes h) s = subst OffWithoutJob (sym (ticks_go S k r n h)) off
    go true r (no h) (pauses waits more) = subst OffWithoutJob (sym (ticks_pause S k r n (omega arith) waits more)) off
    go true r (no h) (ends all) = subst OffWithoutJob (sym (ticks_end S k r n (omega arith) all)) (λ _. ended-off k.job.kind k)

module _ (S : ℕ) (k : Core) (f : Frame) (v : ℕ) (begins_none : v ≡ 2 → ⊥) (enables-not : v ≡ 1 → f.opcode ≡ write_enable → ⊥) (off : OffWithoutJob k) where
  off_acted : Dec (v ≡ 1) → OffWithoutJob (acted S k f v)
  unfolding acted
  off_acted (yes one) =
      subst OffWithoutJob (sym (cond_no (eqb v 2) _ _ (ne_eqb _ _ begins_none) ∙ cond_yes (eqb v 1) _ _ (eq-eqb _ _ one)))
      (instantly-each k f.opcode OffWithoutJob (λ e. absurd (enables-not one e)) (λ _ _. refl) (λ _. off) (λ _. off) (λ _. off) (λ _. off) (λ _ _. refl) off)
  off_acted (no one) = subst OffWithoutJob (sym (acted-nothing S k f v one begins_none)) off

  off_settled : OffWithoutJob (settled S k f v)
  unfolding settled
  off_settled = cond_either OffWithoutJob (eqb f.count 0) _ _ (λ _. off) (λ _. off_acted (ℕ_discrete v 1))

-- an event that begins no job and is no write enable done leaves it so
pub off_event : (T : Setting) (c : Chip) (m : List ℕ) (kind body : ℕ) → OffWithoutJob c.core → ((applied T c m kind body).said ≡ Verdict 2 → ⊥)
    → ((applied T c m kind body).said ≡ Verdict 1 → c.frame.opcode ≡ write_enable → ⊥) → OffWithoutJob (applied T c m kind body).chip.core
off_event T c m kind body off =
    applied-each T c m kind body Off
    (λ _ _ _. off)
    (λ _ _ _. off)
    (λ _. closing (ltb 0 body))
    (λ _ _ _. off_ticks T.sectors 1 c.core off)
    (λ _ _ _. off_ticks T.sectors body c.core off)
    (λ _ _ _. off)
    (λ _ _ _ _. refl)
    (λ _ _ _. off)
  where
    Off : Outcome → Type 0
    Off o = (o.said ≡ Verdict 2 → ⊥) → (o.said ≡ Verdict 1 → c.frame.opcode ≡ write_enable → ⊥) → OffWithoutJob o.chip.core

    plainly : {u : ℕ} (v : ℕ) → (v ≡ 9 → ⊥) → u ≡ v → record_of T.sectors c.core u ≡ Verdict v
    plainly v plain is = ap (record_of T.sectors c.core) is ∙ record_plain T.sectors c.core v plain

    closing : (loose : Bool) → Off (deselect T c m loose)
    closing loose =
        cond_either Off c.frame.selected _ _
        (λ _ none not-enabled.
        off_settled T.sectors c.core c.frame _ (λ two. none (plainly 2 (λ e. omega arith) two)) (λ one is. not-enabled (plainly 1 (λ e. omega arith) one) is) off)
        (λ _ _ _. off)
