-- What a margin report tells of a run: the ticks of each job that it counts, where the job began, how far its margin can be, and one report over two scripts.
use Prim.Native.Nat.{ℕ, zero, suc, ◌+◌, ◌*◌, ◌<◌, ◌≤◌, ◌%◌}
use Rattle.std.specs.Prelude.{Bool, not, ◌&&◌, ◌≡◌, eqb, ltb, length, get_or, replicate, None, Some}
use Rattle.std.proofs.Math.Bool.{true, false, cond}
use Rattle.std.proofs.lemmas.Bool.{false≢true, eqb-false}
use mathlib.Core.List.{List, [], ◌∷◌, ◌++◌, append-nil}
use Rattle.std.proofs.Math.Path.{refl, sym, ap}
use Rattle.std.proofs.Common.{subst, ◌∙◌, ⊎_elim, add-zero, arith, SFits, eq-eqb, ne_eqb, eqb-true}
use Rattle.std.proofs.Math.Decide.{ℕ_discrete, dec_lt}
use Rattle.std.specs.Int.{w32}
use Rattle.cells.specs.Choice.{cond_yes, cond_no, cond_either}
use Rattle.part.specs.Part.{sectors_in, Setting, setting_of}
use Rattle.part.specs.Protection.{Protected, protected_sectors}
use Rattle.commands.specs.Table.{reset}
use Rattle.kinds.specs.Kinds.{EXCHANGE, TICK, TICKS, STAMP, kind_row, kind_row_in, known_in_script, body_length, in_range}
use Rattle.kinds.specs.Body.{body_at, next_at}
use Rattle.kinds.proofs.Laws.{kind_each, none_in_script, range_small}
use Rattle.clock.specs.declared.Clock.{Clock}
use Rattle.clock.specs.Clock.{unset, moved_on}
use Rattle.clock.specs.Laws.{moved-most}
use Rattle.chip.specs.declared.Chip.{Chip}
use Rattle.chip.specs.declared.Core.{Core}
use Rattle.chip.specs.declared.Job.{Job}
use Rattle.chip.specs.declared.JobKind.{JobKind}
use Rattle.chip.specs.Fields.{with_armed}
use Rattle.chip.specs.Job.{is_job, total}
use Rattle.chip.specs.Chip.{whole, running}
use Rattle.margins.specs.declared.Allowances.{Allowances}
use Rattle.margins.specs.declared.Report.{Report}
use Rattle.margins.specs.Margins.{allowed, allowance_of, margin, tidied}
use Rattle.margins.specs.Laws.{allowed-most, margin-fits, tidied-tidied}
use Rattle.legal.specs.Legal.{legal, judgement_known}
use Rattle.legal.proofs.Legality.{LegalCore, chip-facts}
use Rattle.job.specs.Tick.{suspends, advanced, ended, tick_core, ticks_core, ticks_load, ticks_memory, worked}
use Rattle.job.proofs.Laws.{tick-rests, tick-moves, ended-none, ticks-add, ticks_load-add, ticks_memory-add, worked-add}
use Rattle.verdict.specs.Verdict.{verdict, record_of, in_the_way}
use Rattle.verdict.specs.Effect.{acted, settled}
use Rattle.verdict.proofs.Laws.{record_plain, settled_same}
use Rattle.event.specs.Event.{Outcome, closes, exchange_byte, tick, applied}
use Rattle.event.proofs.Laws.{applied-each, applied-ticks, says-its_kind}
use Rattle.event.proofs.Keeps.{length-applied}
use Rattle.event.proofs.Leftovers.{reset_leaves_nothing}
use Rattle.script.specs.Script.{Event, fault_at, event_at, events_from, events, clock_after, ticks_given, given, timed, played, first_bad, Good}
use Rattle.script.specs.Run.{World, world, after, onward, runs, refusal, world_after}
use Rattle.script.specs.Jobs.{one_tick, singly, tick_by_tick, Finished, Followed, nothing, follows, tick_more, is_two, stands, followed_after, finished, ended_by, jobs, jobs_of}
use Rattle.script.specs.Report.{report_after, report_of}
use Rattle.script.specs.Watch.{most_used}
use Rattle.script.proofs.Laws.{no_fault, clean-later, clean-event, good_event, timed-none, timed-more, runs-add}
use Rattle.script.proofs.WatchLaws.{line-not_two, used_by}
use Rattle.script.proofs.ReportLaws.{report_done, report_add, report_tidy}
use Rattle.demands.specs.Lives.{ticks_in, AllJobs, Accounted}
use Rattle.meets.specs.Verdicts.{settled-acts}
use Rattle.meets.specs.Cut.{length_runs, legal_runs}

-- ---- every job of a list

-- what every job of one list and every job of another has, the jobs of both have
all_append : (P : Finished → Type 0) (js ks : List Finished) → AllJobs P js → AllJobs P ks → AllJobs P (js ++ ks)
unfolding AllJobs
all_append P [] ks a b = b
all_append P (j ∷ js) ks a b = (a.0, all_append P js ks a.1 b)

-- What each event of a row keeps, and what each job that it ends has by that, all the jobs of the row have.
module _ (T : Setting) (P : Finished → Type 0) (Kept : List Event → Followed → Chip → List ℕ → Type 0) where
  abbrev pub Passed : Event → List Event → Followed → Core → Outcome → Type 0
  Passed e es f k o = AllJobs P (ended_by e k o f) × Kept es (followed_after e k o f) o.chip o.memory

  pub jobs_each : ((e : Event) (es : List Event) (f : Followed) (c : Chip) (m : List ℕ) → Kept (e ∷ es) f c m → Passed e es f c.core (applied T c m e.kind e.body))
      → (es : List Event) (f : Followed) (c : Chip) (m : List ℕ) → Kept es f c m → AllJobs P (jobs T f es c m)
  unfolding AllJobs jobs
  jobs_each step [] f c m kept = tt
  jobs_each step (e ∷ es) f c m kept =
      let o : Outcome = applied T c m e.kind e.body in
      let passed = step e es f c m kept in
      all_append P (ended_by e c.core o f) (jobs T (followed_after e c.core o f) es o.chip o.memory) passed.0 (jobs_each step es (followed_after e c.core o f) o.chip o.memory passed.1)

-- ---- events that are no ticks, and a job's steps

-- one tick, as an event
applied-tick : (T : Setting) (c : Chip) (m : List ℕ) (body : ℕ) → applied T c m TICK body ≡ tick T c m 1
unfolding applied
applied-tick T c m body = refl

-- a deselect says verdict 2 exactly where it falls
said_two : (S : ℕ) (k : Core) (v : ℕ) → is_two (record_of S k v) ≡ eqb v 2
unfolding record_of
said_two S k v = go (ℕ_discrete v 9)
  where
    at : (range : Protected) → is_two (in_the_way range) ≡ false
    at None = refl
    at (Some ends) = refl

    go : Dec (v ≡ 9) → is_two (record_of S k v) ≡ eqb v 2
    go (yes nine) = ap (λ (q : ℕ). is_two (record_of S k q)) nine ∙ at (protected_sectors k.level k.tb S) ∙ sym (ap (λ (q : ℕ). eqb q 2) nine)
    go (no other) = ap is_two (record_plain S k v other)

-- what an event that is no ticks leaves: a job that verdict 2 began has done no step, and any other that stands is the one that stood
record Leaves (k : Core) (o : Outcome) : Type 0 where
  begun : is_two o.said ≡ true → o.chip.core.job.done ≡ 0
  kept : is_two o.said ≡ false → stands o.chip.core ≡ true → o.chip.core.job ≡ k.job

module _ (T : Setting) (c : Chip) (m : List ℕ) (known : judgement_known c.frame.judgement ≡ true) where
  -- a frame that is closed
  closes_leaves : (loose : Bool) → Leaves c.core (closes T c m (verdict T.sectors c.core c.frame loose))
  unfolding acted
  closes_leaves loose = record { begun = begun; kept = kept }
    where
      v : ℕ
      v = verdict T.sectors c.core c.frame loose

      left : Core
      left = settled T.sectors c.core c.frame v

      begun : is_two (record_of T.sectors c.core v) ≡ true → left.job.done ≡ 0
      begun two =
          let is : v ≡ 2 = eqb-true _ _ (sym (said_two T.sectors c.core v) ∙ two) in
          ap (λ (k : Core). k.job.done) (settled-acts T.sectors c.core c.frame loose v refl (λ z. omega (arith, is, z)) ∙ ap (with_armed _) (cond_yes (eqb v 2) _ _ (eq-eqb _ _ is)))

      kept : is_two (record_of T.sectors c.core v) ≡ false → stands left ≡ true → left.job ≡ c.core.job
      kept other there = go (ℕ_discrete v 1) (ℕ_discrete c.frame.opcode reset)
        where
          two : v ≡ 2 → ⊥
          two = eqb-false _ _ (sym (said_two T.sectors c.core v) ∙ other)

          go : Dec (v ≡ 1) → Dec (c.frame.opcode ≡ reset) → left.job ≡ c.core.job
          go (yes one) (yes r) = absurd (false≢true (sym (ap (λ (j : Job). is_job j.kind) (reset_leaves_nothing T.sectors c.core c.frame loose known c.load c.held one r).0) ∙ there))
          go (yes one) (no r) = (settled_same T.sectors c.core c.frame v two (λ _ e. r e)).0
          go (no one) r = (settled_same T.sectors c.core c.frame v two (λ e _. one e)).0

  -- what leaves the job alone and says no verdict
  same_leaves : (o : Outcome) → o.chip.core.job ≡ c.core.job → is_two o.said ≡ false → Leaves c.core o
  same_leaves o same silent = record { begun = λ two. absurd (false≢true (sym silent ∙ two)); kept = λ _ _. same }

  -- every event that is no ticks
  event_leaves : (kind body : ℕ) → (kind ≡ TICK → ⊥) → (kind ≡ TICKS → ⊥) → Leaves c.core (applied T c m kind body)
  unfolding applied kind_row kind_row_in
  event_leaves kind body not-tick not-ticks =
      applied-each T c m kind body (Leaves c.core)
      (λ _. same_leaves _ refl refl)
      (λ _. same_leaves (exchange_byte T c m (body % 256)) refl (line-not_two (exchange_byte T c m (body % 256)).said (says-its_kind T c m EXCHANGE body)))
      (λ _. cond_either (Leaves c.core) c.frame.selected _ _ (λ _. closes_leaves (ltb 0 body)) (λ _. same_leaves _ refl refl))
      (λ e. absurd (not-tick e))
      (λ e. absurd (not-ticks e))
      (λ _. same_leaves _ refl refl)
      (λ _. record { begun = λ two. absurd (false≢true two); kept = λ _ there. absurd (false≢true there) })
      (λ _. same_leaves _ refl refl)

-- a tick finds a job that stands running or suspended
finds-it : (k : Core) → stands k ≡ true → cond (running k) 1 0 + cond k.suspended 1 0 ≡ 1
finds-it k = go (stands k) k.suspended
  where
    go : (s z : Bool) → s ≡ true → ◌≡◌ {A = ℕ} (cond (s && not z) 1 0 + cond z 1 0) 1
    go true true e = refl
    go true false e = refl
    go false z e = absurd (false≢true e)

-- a job that a tick leaves has a step more done, if it ran
tick-done : (S : ℕ) (k : Core) → stands (tick_core S k) ≡ true → (tick_core S k).job.done ≡ k.job.done + cond (running k) 1 0
unfolding tick_core
tick-done S k = go (running k) (ltb (k.job.done + 1) (total k.job.kind S)) k.waiting
  where
    go : (r l w : Bool) → stands (cond r (cond l (cond w (suspends (advanced 1 k)) (advanced 1 k)) (ended k)) k) ≡ true
        → (cond r (cond l (cond w (suspends (advanced 1 k)) (advanced 1 k)) (ended k)) k).job.done ≡ k.job.done + cond r 1 0
    go true true true h = refl
    go true true false h = refl
    go true false w h = absurd (false≢true (sym (ap (λ (j : Job). is_job j.kind) (ended-none k.job.kind k)) ∙ h))
    go false l w h = sym (add-zero _)

-- a job that a tick ends did its last step
tick-last : (S : ℕ) (k : Core) → LegalCore S k → stands k ≡ true → stands (tick_core S k) ≡ false → k.job.done + cond (running k) 1 0 ≡ total k.job.kind S
tick-last S k legal there over = go (running k) refl (dec_lt (k.job.done + 1) (total k.job.kind S))
  where
    go : (b : Bool) → running k ≡ b → Dec (k.job.done + 1 < total k.job.kind S) → k.job.done + cond b 1 0 ≡ total k.job.kind S
    go true r (yes more) = absurd (false≢true (sym over ∙ ap stands (tick-moves S k r more) ∙ cond_either (λ (q : Core). stands q ≡ true) k.waiting _ _ (λ _. there) (λ _. there)))
    go true r (no last) = omega (arith, legal.job_unfinished there)
    go false r d = absurd (false≢true (sym over ∙ ap stands (tick-rests S k r) ∙ there))

-- ---- the ticks of a job

-- ticks stand singly in a row of events: none is of kind 05h
unfoldable pub Singly : List Event → Type 0
Singly [] = Unit {0}
Singly (e ∷ es) = (eqb e.kind TICKS ≡ false) × Singly es

-- the same of a job that is followed and stands: its steps so far
abbrev Counts : Followed → Core → Type 0
Counts nothing k = Unit {0}
Counts (follows begin used working suspended) k = (stands k ≡ true) × (working ≡ k.job.done) × (used ≡ working + suspended)

module _ (S : ℕ) (k : Core) (legal : LegalCore S k) where
  -- a tick that leaves it
  tick_counts : (f : Followed) → Counts f k → stands (tick_core S k) ≡ true → Counts (tick_more k f) (tick_core S k)
  tick_counts nothing counts stays = tt
  tick_counts (follows begin used working suspended) counts stays = (
    stays,
    ap (λ (n : ℕ). n + cond (running k) 1 0) counts.1 ∙ sym (tick-done S k stays),
    omega (arith, counts.2, finds-it k counts.0),
  )

  -- and one that ends it
  tick_accounts : (at : ℕ) (f : Followed) → Counts f k → stands (tick_core S k) ≡ false → AllJobs (Accounted S) (finished at k.job.kind (tick_more k f))
  unfolding AllJobs
  tick_accounts at nothing counts over = tt
  tick_accounts at (follows begin used working suspended) counts over = (
    record {
      all_steps = ap (λ (n : ℕ). n + cond (running k) 1 0) counts.1 ∙ tick-last S k legal counts.0 over;
      all_ticks = omega (arith, counts.2, finds-it k counts.0);
    },
    tt,
  )

module _ (T : Setting) (c : Chip) (m : List ℕ) (e : Event) (f : Followed) (counts : Counts f c.core) where
  -- what an event ends, and what is followed after it, told with whether it is a tick
  abbrev Tallied : Bool → Outcome → Type 0
  Tallied ticks o =
      AllJobs (Accounted T.sectors) (cond (ticks && not (stands o.chip.core)) (finished e.offset c.core.job.kind (tick_more c.core f)) [])
      × Counts (cond (not (stands o.chip.core)) nothing (cond (is_two o.said) (follows e.offset 0 0 0) (cond ticks (tick_more c.core f) f))) o.chip.core

  -- a tick
  tick_tallied : LegalCore T.sectors c.core → Tallied true (tick T c m 1)
  unfolding AllJobs ticks_core
  tick_tallied legal = go (stands (tick_core T.sectors c.core)) refl
    where
      go : (s : Bool) → stands (tick_core T.sectors c.core) ≡ s
          → AllJobs (Accounted T.sectors) (cond (not s) (finished e.offset c.core.job.kind (tick_more c.core f)) [])
          × Counts (cond (not s) nothing (tick_more c.core f)) (tick_core T.sectors c.core)
      go true p = (tt, tick_counts T.sectors c.core legal f counts p)
      go false p = (tick_accounts T.sectors c.core legal e.offset f counts p, tt)

  -- an event that is no ticks
  other_tallied : (o : Outcome) → Leaves c.core o → Tallied false o
  unfolding AllJobs
  other_tallied o leaves = go (stands o.chip.core) (is_two o.said) refl refl f counts
    where
      go : (s two : Bool) → stands o.chip.core ≡ s → is_two o.said ≡ two → (f : Followed) → Counts f c.core
          → Unit {0} × Counts (cond (not s) nothing (cond two (follows e.offset 0 0 0) f)) o.chip.core
      go false two p q f counts = (tt, tt)
      go true true p q f counts = (tt, (p, sym (leaves.begun q), refl))
      go true false p q nothing counts = (tt, tt)
      go true false p q (follows begin used working suspended) counts = (tt, (p, counts.1 ∙ ap (λ (j : Job). j.done) (sym (leaves.kept q p)), counts.2))

-- Every job that a run begins and ends worked as many ticks as it has steps, and used those and the ticks that found it suspended, whatever came between.
pub job_ticks : (T : Setting) (es : List Event) (c : Chip) (m : List ℕ) → Singly es → T.sectors ≡ sectors_in (length m) → legal c (length m) ≡ true
    → AllJobs (Accounted T.sectors) (jobs T nothing es c m)
unfolding Singly runs
job_ticks T es c₀ m₀ single part fine = jobs_each T (Accounted T.sectors) Kept step es nothing c₀ m₀ (single, refl, fine, tt)
  where
    n : ℕ
    n = length m₀

    Kept : List Event → Followed → Chip → List ℕ → Type 0
    Kept es f c m = Singly es × (length m ≡ n) × (legal c n ≡ true) × Counts f c.core

    step : (e : Event) (es : List Event) (f : Followed) (c : Chip) (m : List ℕ) → Kept (e ∷ es) f c m → Passed T (Accounted T.sectors) Kept e es f c.core (applied T c m e.kind e.body)
    step e es f c m kept =
        let told = go (ℕ_discrete e.kind TICK) in
        (told.0, (kept.0.1, length-applied T c m e.kind e.body ∙ kept.1, legal_runs T n part (e ∷ []) (world c m [] 0) kept.1 kept.2, told.1))
      where
        legal_core_lem : LegalCore T.sectors c.core
        legal_core_lem = subst (λ (S : ℕ). LegalCore S c.core) (sym part) (chip-facts c n kept.2).core_part

        go : Dec (e.kind ≡ TICK) → Tallied T c m e f kept.3 (eqb e.kind TICK) (applied T c m e.kind e.body)
        go (yes is) =
            subst (λ (kind : ℕ). Tallied T c m e f kept.3 (eqb kind TICK) (applied T c m kind e.body)) (sym is)
            (subst (Tallied T c m e f kept.3 true) (sym (applied-tick T c m e.body)) (tick_tallied T c m e f kept.3 legal_core_lem))
        go (no is) =
            subst (λ (b : Bool). Tallied T c m e f kept.3 b (applied T c m e.kind e.body)) (sym (ne_eqb _ _ is))
            (other_tallied T c m e f kept.3 _ (event_leaves T c m (chip-facts c n kept.2).frame_part.judgement_known_lem e.kind e.body is (eqb-false _ _ kept.0.0)))

-- read tick by tick, ticks stand singly in any row
tick-by_tick_singly : (es : List Event) → Singly (tick_by_tick es)
unfolding Singly tick_by_tick
tick-by_tick_singly [] = tt
tick-by_tick_singly (e ∷ es) = go (eqb e.kind TICKS) refl (tick-by_tick_singly es)
  where
    ticks : (n : ℕ) → Singly (tick_by_tick es) → Singly (replicate n (one_tick e.offset) ++ tick_by_tick es)
    ticks zero rest = rest
    ticks (suc n) rest = (refl, ticks n rest)

    go : (b : Bool) → eqb e.kind TICKS ≡ b → Singly (tick_by_tick es) → Singly (cond b (replicate e.body (one_tick e.offset)) (e ∷ []) ++ tick_by_tick es)
    go true is rest = ticks e.body rest
    go false is rest = (is, rest)

-- So it is of every job of a script's run on a legal chip: a program works 16 ticks, a chip erase 256 a sector.
pub script_job_ticks : (T : Setting) (s : List ℕ) (c : Chip) (m : List ℕ) → T.sectors ≡ sectors_in (length m) → legal c (length m) ≡ true → AllJobs (Accounted T.sectors) (jobs_of T s c m)
script_job_ticks T s c m part fine = job_ticks T (tick_by_tick (played s)) c m (tick-by_tick_singly (played s)) part fine

-- ---- how many ticks a job can use

-- No job of a row uses more ticks than the row has.
pub used_most : (T : Setting) (es : List Event) (c : Chip) (m : List ℕ) (most : ℕ) → ticks_in es ≤ most → AllJobs (λ (j : Finished). j.used ≤ most) (jobs T nothing es c m)
unfolding AllJobs ticks_in
used_most T es c m most few =
    jobs_each T (λ (j : Finished). j.used ≤ most) Kept
    (λ e es f c m kept. step e es f c.core (eqb e.kind TICK) (stands (applied T c m e.kind e.body).chip.core) (is_two (applied T c m e.kind e.body).said) kept)
    es nothing c m (omega (arith, few))
  where
    Kept : List Event → Followed → Chip → List ℕ → Type 0
    Kept es f c m = used_by f + ticks_in es ≤ most

    more : (k : Core) (f : Followed) → used_by (tick_more k f) ≤ used_by f + 1
    more k nothing = omega arith
    more k (follows begin used working suspended) = omega arith

    told : (at : ℕ) (kind : JobKind) (f : Followed) → used_by f ≤ most → AllJobs (λ (j : Finished). j.used ≤ most) (finished at kind f)
    told at kind nothing l = tt
    told at kind (follows begin used working suspended) l = (l, tt)

    step : (e : Event) (es : List Event) (f : Followed) (k : Core) (ticks stays two : Bool) → used_by f + (cond ticks 1 0 + ticks_in es) ≤ most
        → AllJobs (λ (j : Finished). j.used ≤ most) (cond (ticks && not stays) (finished e.offset k.job.kind (tick_more k f)) [])
        × (used_by (cond (not stays) nothing (cond two (follows e.offset 0 0 0) (cond ticks (tick_more k f) f))) + ticks_in es ≤ most)
    step e es f k true true true l = (tt, omega (arith, l))
    step e es f k true true false l = (tt, omega (arith, l, more k f))
    step e es f k true false two l = (told e.offset k.job.kind (tick_more k f) (omega (arith, l, more k f)), omega (arith, l))
    step e es f k false true true l = (tt, omega (arith, l))
    step e es f k false true false l = (tt, omega (arith, l))
    step e es f k false false two l = (tt, omega (arith, l))

-- n single ticks are n
ticks-replicate : (n at : ℕ) (es : List Event) → ticks_in (replicate n (one_tick at) ++ es) ≡ n + ticks_in es
unfolding ticks_in
ticks-replicate zero at es = omega arith
ticks-replicate (suc n) at es = omega (arith, ticks-replicate n at es)

-- an event in its range gives at most 21,845 ticks a byte
given-few : (k : Clock) (at kind body fault : ℕ) (es : List Event) → in_range kind body ≡ true
    → ticks_in (tick_by_tick (given k (record { offset = at; kind = kind; body = body; fault = fault }) ++ es)) ≤ 21845 * (1 + body_length kind) + ticks_in (tick_by_tick es)
unfolding known_in_script kind_row kind_row_in tick_by_tick ticks_in
given-few k at kind body fault es =
    kind_each (λ kind. in_range kind body ≡ true → ticks_in (tick_by_tick (given k (record { offset = at; kind = kind; body = body; fault = fault }) ++ es)) ≤ 21845 * (1 + body_length kind) + ticks_in (tick_by_tick es))
    (λ _. omega arith) (λ _. omega arith) (λ _. omega arith) (λ _. omega arith)
    (λ h. omega (arith, ticks-replicate body at (tick_by_tick es), ⊎_elim (λ none. absurd (omega arith)) (λ (small : body ≤ 65535). small) (range_small TICKS body h)))
    (λ _. omega arith) (λ _. omega arith)
    (λ _. stamp (moved_on k body) (moved-most k body))
    (λ kind none _.
    let other : (known : ℕ) → known_in_script known ≡ true → eqb kind known ≡ false = λ known is. ne_eqb kind known (λ e. false≢true (sym (none_in_script none) ∙ ap known_in_script e ∙ is)) in
    rw (other STAMP refl, other TICKS refl, other TICK refl) (omega arith)) kind
  where
    stamp : (n : ℕ) → n ≤ 65535 → ticks_in (tick_by_tick (ticks_given (record { offset = at; kind = STAMP; body = body; fault = fault }) n ++ es)) ≤ 21845 * 3 + ticks_in (tick_by_tick es)
    stamp zero l = omega arith
    stamp (suc n) l = omega (arith, l, ticks-replicate (suc n) at (tick_by_tick es))

-- past a script's end there are none
ticks-over : (k : Clock) (s : List ℕ) (at : ℕ) → length s ≤ at → ticks_in (tick_by_tick (timed k (events_from s at))) ≡ 0
unfolding tick_by_tick ticks_in
ticks-over k s at h = ap (λ (es : List Event). ticks_in (tick_by_tick es)) (timed-none k s at h)

-- so the events of a script from an offset on give at most 21,845 ticks for each byte left
ticks-from : (fuel : ℕ) (k : Clock) (s : List ℕ) (at : ℕ) → length s ≤ at + fuel → at ≤ length s → (first_bad k (events_from s at)).number ≡ 0
    → ticks_in (tick_by_tick (timed k (events_from s at))) + 21845 * at ≤ 21845 * length s
ticks-from zero k s at h i clean = omega (arith, i, ticks-over k s at (omega arith))
ticks-from (suc fuel) k s at h i clean =
    go (λ l. ticks-from fuel (clock_after k (event_at s at)) s (next_at s at) (omega (arith, h)) (good l).inside (clean-later k s at l clean)) (dec_lt at (length s))
  where
    good : at < length s → Good s at
    good l = good_event s at (clean-event k (event_at s at) (no_fault k s at l clean)).as_written

    rest : List Event
    rest = timed (clock_after k (event_at s at)) (events_from s (next_at s at))

    go : (at < length s → ticks_in (tick_by_tick rest) + 21845 * next_at s at ≤ 21845 * length s) → Dec (at < length s)
        → ticks_in (tick_by_tick (timed k (events_from s at))) + 21845 * at ≤ 21845 * length s
    go later (no over) = omega (arith, i, ticks-over k s at (omega arith))
    go later (yes l) =
        let whole : ticks_in (tick_by_tick (timed k (events_from s at))) ≡ ticks_in (tick_by_tick (given k (event_at s at) ++ rest)) = ap (λ (es : List Event). ticks_in (tick_by_tick es)) (timed-more k s at l) in
        omega (arith, whole, later l, given-few k at (get_or s at 0) (body_at s at) (fault_at s at) rest (good l).ranged)

-- No job of a script that can be played uses more ticks than three bytes for 65,535 of them can give.
pub used_few : (T : Setting) (c : Chip) (m s : List ℕ) → length s ≤ 65536 → (first_bad unset (events s)).number ≡ 0 → AllJobs (λ (j : Finished). j.used ≤ most_used) (jobs_of T s c m)
used_few T c m s short clean = used_most T (tick_by_tick (played s)) c m most_used (omega (arith, short, ticks-from (length s) unset s 0 (omega arith) (omega arith) clean))

-- what follows from what every job has, every job has
all_map : (P Q : Finished → Type 0) → ((j : Finished) → P j → Q j) → (js : List Finished) → AllJobs P js → AllJobs Q js
unfolding AllJobs
all_map P Q f [] a = tt
all_map P Q f (j ∷ js) a = (f j a.0, all_map P Q f js a.1)

-- So every margin of such a script fits 32 bits, for allowances in their range.
pub margins_fit : (a : Allowances) → allowed a ≡ true → (T : Setting) (c : Chip) (m s : List ℕ) → length s ≤ 65536 → (first_bad unset (events s)).number ≡ 0
    → AllJobs (λ (j : Finished). SFits w32 (margin (allowance_of j.kind a) j.used)) (jobs_of T s c m)
margins_fit a good T c m s short clean =
    all_map (λ (j : Finished). j.used ≤ most_used) (λ (j : Finished). SFits w32 (margin (allowance_of j.kind a) j.used))
    (λ j few. margin-fits (allowance_of j.kind a) j.used (allowed-most j.kind a good) few) (jobs_of T s c m) (used_few T c m s short clean)

-- ---- two scripts

-- A report handed on from one script to the next, neither of them refused, is the report after the jobs of both.
pub two_scripts : (a : Allowances) → allowed a ≡ true → (r : Report) (c : Chip) (m area s t o p : List ℕ)
    → (refusal c (length m) (length area) s (length o)).number ≡ 0
    → (refusal (world_after c m area s).chip (length (world_after c m area s).memory) (length area) t (length p)).number ≡ 0
    → report_of a (report_of a r c m area s o) (world_after c m area s).chip (world_after c m area s).memory area t p
    ≡ report_after a (jobs_of (setting_of (length m) area) s c m ++ jobs_of (setting_of (length m) area) t (world_after c m area s).chip (world_after c m area s).memory) (tidied r)
unfolding world_after
two_scripts a good r c m area s t o p first second =
    let T : Setting = setting_of (length m) area in
    let w : World = world_after c m area s in
    let js : List Finished = jobs_of T s c m in
    let ks : List Finished = jobs_of T t w.chip w.memory in
    report_done a w.chip w.memory area t p good (report_of a r c m area s o) second
    ∙ ap (λ (n : ℕ). report_after a (jobs_of (setting_of n area) t w.chip w.memory) (tidied (report_of a r c m area s o))) (length_runs T (played s) (world c m [] 0))
    ∙ ap (λ (q : Report). report_after a ks (tidied q)) (report_done a c m area s o good r first)
    ∙ ap (report_after a ks) (report_tidy a js (tidied r) (tidied-tidied r))
    ∙ sym (report_add a js ks (tidied r))

-- ---- a run tick by tick

-- n single ticks are n ticks
runs-singly : (T : Setting) (n at : ℕ) (w : World) → runs T (replicate n (one_tick at)) w ≡ after w (tick T w.chip w.memory n)
unfolding runs applied ticks_core ticks_load ticks_memory worked
runs-singly T zero at w = λ i. world w.chip w.memory (sym (append-nil w.written) i) (sym (add-zero w.ticks) i)
runs-singly T (suc n) at w =
    let S : ℕ = T.sectors in
    let k : Core = w.chip.core in
    let held : List ℕ = w.chip.held in
    let m : List ℕ = w.memory in
    let one : suc n ≡ 1 + n = omega arith in
    let core : ticks_core S (suc n) k ≡ ticks_core S n (ticks_core S 1 k) = ap (λ (q : ℕ). ticks_core S q k) one ∙ ticks-add S 1 n k in
    let load : ticks_load S (suc n) k held ≡ ticks_load S n (ticks_core S 1 k) (ticks_load S 1 k held) = ap (λ (q : ℕ). ticks_load S q k held) one ∙ ticks_load-add S 1 n k held in
    let cells : ticks_memory S (suc n) k held m ≡ ticks_memory S n (ticks_core S 1 k) (ticks_load S 1 k held) (ticks_memory S 1 k held m) = ap (λ (q : ℕ). ticks_memory S q k held m) one ∙ ticks_memory-add S 1 n k held m in
    let works : worked S (suc n) k ≡ worked S 1 k + worked S n (ticks_core S 1 k) = ap (λ (q : ℕ). worked S q k) one ∙ worked-add S 1 n k in
    let sum : w.ticks + worked S 1 k + worked S n (ticks_core S 1 k) ≡ w.ticks + worked S (suc n) k = omega (arith, works) in
    runs-singly T n at (after w (tick T w.chip m 1))
    ∙ (λ i. world (whole (sym core i) w.chip.frame w.chip.load (sym load i)) (sym cells i) (append-nil (w.written ++ []) i) (sum i))

-- Read tick by tick, a row of events is the same run.
pub run_tick_by_tick : (T : Setting) (es : List Event) (w : World) → runs T (tick_by_tick es) w ≡ runs T es w
unfolding runs tick_by_tick
run_tick_by_tick T [] w = refl
run_tick_by_tick T (e ∷ es) w = runs-add T (singly e) (tick_by_tick es) w ∙ ap (runs T (tick_by_tick es)) (go (ℕ_discrete e.kind TICKS)) ∙ run_tick_by_tick T es (onward T e w)
  where
    go : Dec (e.kind ≡ TICKS) → runs T (singly e) w ≡ onward T e w
    go (yes is) =
        ap (λ (fs : List Event). runs T fs w) (cond_yes (eqb e.kind TICKS) _ _ (eq-eqb _ _ is))
        ∙ runs-singly T e.body e.offset w
        ∙ ap (after w) (sym (applied-ticks T w.chip w.memory e.kind e.body is))
    go (no is) = ap (λ (fs : List Event). runs T fs w) (cond_no (eqb e.kind TICKS) _ _ (ne_eqb _ _ is))
