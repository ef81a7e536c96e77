-- The invariant of `play`: what is left of the script, run from here, comes to what the whole script comes to, and the jobs told from here on to the whole report;
-- and one turn of it.
use Prim.Native.Nat.{ℕ, ◌+◌, ◌*◌, ◌<◌, ◌≤◌}
use mathlib.Core.List.{List, [], ◌++◌}
use mathlib.Core.Bool.{Bool, true, false, ◌||◌, false≢true}
use mathlib.Core.Path.{◌≡◌, refl, sym, ap, subst, ◌∙◌}
use native.Mathlib.Nat.{add-zero}
use native.Mathlib.Omega.{arith}
use lib.Dec.{eqb}
use lib.ListN.{length, get_or, take, drop, replicate, take-append-drop}
use lib.Seq.{drop-drop, length-take-le}
use Rattle.cells.specs.PutLaws.{put_between, put_length}
use Rattle.part.specs.Part.{Setting}
use Rattle.kinds.specs.Kinds.{TICK, TICKS, room_of, in_range}
use Rattle.kinds.specs.Body.{next_at, body_at}
use Rattle.clock.specs.declared.Clock.{Clock}
use Rattle.clock.specs.Clock.{unset}
use Rattle.chip.specs.declared.Chip.{Chip}
use Rattle.chip.specs.declared.Core.{Core}
use Rattle.chip.specs.declared.Frame.{Frame}
use Rattle.chip.specs.declared.Record.{Record}
use Rattle.chip.specs.declared.Record.TheVariants.{Nothing}
use Rattle.chip.specs.Chip.{whole, running}
use Rattle.chip.specs.Record.{record_bytes}
use Rattle.margins.specs.declared.Allowances.{Allowances}
use Rattle.margins.specs.declared.Report.{Report}
use Rattle.job.specs.Tick.{TicksAnswer, worked}
use Rattle.job.proofs.Laws.{answer_rests}
use Rattle.event.specs.Event.{Outcome, outcome, applied, tick}
use Rattle.event.proofs.Laws.{said_room}
use Rattle.script.specs.Script.{Event, event_at, events_from, played, timed, clock_after, is_stamp, first_bad, room, Good}
use Rattle.script.specs.Run.{World, world, after, runs, Stored, Playable, Played, finished, done}
use Rattle.script.specs.Jobs.{Finished, Followed, nothing, jobs, jobs_of, tick_by_tick, one_tick, stands}
use Rattle.script.specs.Report.{report_after}
use Rattle.script.specs.Watch.{Watch, ticking, ticks_of, clock_by, after_event, after_ticks, Reports}
use Rattle.script.specs.Heard.{Heard, Went, WholePart, Ready}
use Rattle.script.proofs.Laws.{no_fault, clean-later, clean-event, good_event, room-more, stored-none, timed-none, runs-more, runs_none, clock_stays}
use Rattle.script.proofs.WatchLaws.{clock_as, plain-ticking, plain-clock, ticks-most, ticks-few, runs-ticking, jobs-ticking, jobs-plain, not-ticking, watch_ticks, watch_event, event-wanted, event-modest, ticks-wanted, ticks-modest, unwatched_ticks, Watches}

-- ---- the run

pub record Playing (T : Setting) (s : List ℕ) (c₀ : Chip) (m₀ out₀ : List ℕ) (c : Chip) (m out : List ℕ) (k : Clock) (at pos ticks : ℕ) : Type 0 where
  pub same : runs T (played s) (world c₀ m₀ [] 0) ≡ runs T (timed k (events_from s at)) (world c m (take pos out) ticks)
  pub rest : drop pos out ≡ drop pos out₀
  pub fits : pos + room (events_from s at) ≤ length out
  pub memory : length m ≡ length m₀
  pub output : length out ≡ length out₀
  pub clean : (first_bad k (events_from s at)).number ≡ 0
  pub inside : at ≤ length s
  pub short : length s ≤ 65536
  pub few : ticks ≤ at * 4294967296

-- before the first event
pub starts : (T : Setting) (s : List ℕ) (c : Chip) (m out : List ℕ) → Playable s (length out) → Playing T s c m out c m out unset 0 0 0
starts T s c m out p =
    record {
      same = refl;
      rest = refl;
      fits = omega (arith, p.roomy);
      memory = refl;
      output = refl;
      clean = p.clean;
      inside = omega arith;
      short = p.short;
      few = omega arith;
    }

-- what stands behind the records so far stands behind n bytes more
rest_further : (out out₀ out' : List ℕ) (pos pos' n : ℕ) → drop pos out ≡ drop pos out₀ → pos' ≡ pos + n → drop pos' out' ≡ drop pos' out → drop pos' out' ≡ drop pos' out₀
rest_further out out₀ out' pos pos' n rest end beyond =
    beyond
    ∙ ap (λ (q : ℕ). drop q out) end
    ∙ sym (drop-drop n pos out)
    ∙ ap (drop n) rest
    ∙ drop-drop n pos out₀
    ∙ ap (λ (q : ℕ). drop q out₀) (sym end)

module _ {T : Setting} {s : List ℕ} {c₀ : Chip} {m₀ out₀ : List ℕ} {c : Chip} {m out : List ℕ} {k : Clock} {at pos ticks : ℕ} (i : Playing T s c₀ m₀ out₀ c m out k at pos ticks) where
  abbrev here : World
  here = world c m (take pos out) ticks

  module _ (more : at < length s) where
    -- the event at hand has no fault
    pub good : Good s at
    good = good_event s at (clean-event k (event_at s at) (no_fault k s at more i.clean)).as_written

    -- one event more, which comes to an outcome whose record finds room
    turned : (o : Outcome) (k' : Clock) (pos' : ℕ) (out' : List ℕ) → k' ≡ clock_after k (event_at s at)
        → runs T (timed k (events_from s at)) here ≡ runs T (timed k' (events_from s (next_at s at))) (after here o)
        → length (record_bytes o.said) ≤ room_of (get_or s at 0) → Stored out pos o.said pos' out' → o.ticks < 4294967296
        → length o.memory ≡ length m → length out' ≡ length out → Playing T s c₀ m₀ out₀ o.chip o.memory out' k' (next_at s at) pos' (ticks + o.ticks)
    turned o k' pos' out' clock e r st t lm lo =
        record {
          same = i.same ∙ e ∙ ap (λ (w : List ℕ). runs T (timed k' (events_from s (next_at s at))) (world o.chip o.memory w (ticks + o.ticks))) (sym st.before);
          rest = rest_further out out₀ out' pos pos' (length (record_bytes o.said)) i.rest st.end st.beyond;
          fits = omega (arith, i.fits, room-more s at more, st.end);
          memory = lm ∙ i.memory;
          output = lo ∙ i.output;
          clean = ap (λ (q : Clock). (first_bad q (events_from s (next_at s at))).number) clock ∙ clean-later k s at more i.clean;
          inside = good.inside;
          short = i.short;
          few = omega (arith, i.few, t);
        }

    -- the record of an event as it is written finds room
    record_room : (o : Outcome) → o ≡ applied T c m (get_or s at 0) (body_at s at) → length (record_bytes o.said) ≤ room_of (get_or s at 0)
    record_room o e =
        let r : length (record_bytes (applied T c m (get_or s at 0) (body_at s at)).said) ≤ room_of (get_or s at 0) = said_room T c m (get_or s at 0) (body_at s at) in
        let q : length (record_bytes o.said) ≡ length (record_bytes (applied T c m (get_or s at 0) (body_at s at)).said) = ap (λ (x : Outcome). length (record_bytes x.said)) e in
        omega arith

    pub finds_room : (o : Outcome) → o ≡ applied T c m (get_or s at 0) (body_at s at) → pos + length (record_bytes o.said) ≤ length out
    finds_room o e = omega (arith, i.fits, room-more s at more, record_room o e)

    -- one event more that is no stamp
    pub turns : is_stamp (event_at s at) ≡ false → (o : Outcome) (pos' : ℕ) (out' : List ℕ) → o ≡ applied T c m (get_or s at 0) (body_at s at) → Stored out pos o.said pos' out'
        → o.ticks < 4294967296 → length o.memory ≡ length m → length out' ≡ length out → Playing T s c₀ m₀ out₀ o.chip o.memory out' k (next_at s at) pos' (ticks + o.ticks)
    turns no-stamp o pos' out' e st t lm lo =
        turned o k pos' out' (sym (clock_stays k (event_at s at) no-stamp))
        (runs-more T k s at here more no-stamp ∙ ap (λ (x : Outcome). runs T (timed k (events_from s (next_at s at))) (after here x)) (sym e))
        (record_room o e) st t lm lo

    -- the same of ticks, which say nothing and ask nothing of the frame
    module _ (is-ticking : ticking (get_or s at 0) ≡ true) (body : ℕ) (is_body : body ≡ body_at s at) (n : ℕ) (is : n ≡ ticks_of k (get_or s at 0) body) (k' : Clock) (is-clock : k' ≡ clock_by k (get_or s at 0) body) where
      number : n ≡ ticks_of k (get_or s at 0) (body_at s at)
      number = is ∙ ap (ticks_of k (get_or s at 0)) is_body

      clock : k' ≡ clock_after k (event_at s at)
      clock = is-clock ∙ ap (clock_by k (get_or s at 0)) is_body ∙ clock_as k s at

      pub ticks_turn : (q : Core) (w : ℕ) (held' m' : List ℕ) → TicksAnswer T.sectors n c.core c.held m q w held' m'
          → w < 4294967296 → length m' ≡ length m → Playing T s c₀ m₀ out₀ (whole q c.frame c.load held') m' out k' (next_at s at) pos (ticks + w)
      ticks_turn q w held' m' a few kept =
          let o : Outcome = outcome q c.frame c.load held' m' Nothing w in
          let does : o ≡ tick T c m n = (λ j. outcome (a.core j) c.frame c.load (a.load j) (a.memory j) Nothing (a.working j)) in
          turned o k' pos out clock
          (runs-ticking T k s at here more is-ticking
          ∙ (λ j. runs T (timed (sym clock j) (events_from s (next_at s at))) (after here (tick T c m (sym number j))))
          ∙ ap (λ (x : Outcome). runs T (timed k' (events_from s (next_at s at))) (after here x)) (sym does))
          (omega arith) (stored-none out pos Nothing refl) few kept refl

      -- where no job runs they change nothing, and none of them works
      pub idle_turn : running c.core ≡ false → Playing T s c₀ m₀ out₀ c m out k' (next_at s at) pos ticks
      idle_turn rests =
          subst (λ (t : ℕ). Playing T s c₀ m₀ out₀ c m out k' (next_at s at) pos t) (add-zero ticks)
          (ticks_turn c.core 0 c.held m (answer_rests T.sectors n c.core c.held m rests) (omega arith) refl)

    -- ticks as they are written, where no job runs
    pub plain_idle_turn : (eqb (get_or s at 0) TICKS || eqb (get_or s at 0) TICK) ≡ true → running c.core ≡ false → Playing T s c₀ m₀ out₀ c m out k (next_at s at) pos ticks
    plain_idle_turn plain = idle_turn (plain-ticking (get_or s at 0) plain) (body_at s at) refl _ refl k (plain-clock k (get_or s at 0) (body_at s at) plain)

  -- a stretch in one go, with its records stored
  pub plays_on : {at' pos' : ℕ} {c' : Chip} {out' : List ℕ} → Went T s m at c out pos at' c' out' pos' → Playing T s c₀ m₀ out₀ c' m out' k at' pos' ticks
  plays_on {at'} {pos'} {c'} {out'} w =
      let between = put_between w.stored (omega (arith, i.fits, w.heard.roomy)) in
      record {
        same = i.same ∙ w.heard.same k (take pos out) ticks ∙ ap (λ (l : List ℕ). runs T (timed k (events_from s at')) (world c' m l ticks)) (sym between.0);
        rest = rest_further out out₀ out' pos pos' (length w.said) i.rest w.stored.end between.1;
        fits = omega (arith, i.fits, w.heard.roomy, w.stored.end, put_length w.stored);
        memory = i.memory;
        output = put_length w.stored ∙ i.output;
        clean = w.heard.clean k i.clean;
        inside = w.heard.inside;
        short = i.short;
        few = omega (arith, i.few, w.heard.onward);
      }

  -- where one can begin
  pub ready : {S : ℕ} → at < length s → WholePart S (length m₀) → Ready S s m out at pos
  ready {S} more part =
      record { part = subst (WholePart S) (sym i.memory) part; more = more; good = good more; fits = i.fits }

  -- after the last event
  pub ends : length s ≤ at → Played T c₀ m₀ s out₀ (finished c pos ticks) m out
  ends over =
      let w : runs T (played s) (world c₀ m₀ [] 0) ≡ here = i.same ∙ runs_none T k s at here over in
      let l : length (take pos out) ≡ pos = length-take-le pos out (omega (arith, i.fits)) in
      record {
        answer = ap (λ (n : ℕ). finished c n ticks) (sym l) ∙ ap done (sym w);
        memory = ap (λ (x : World). x.memory) (sym w);
        output =
            sym (take-append-drop pos out)
            ∙ ap (λ (d : List ℕ). take pos out ++ d) (i.rest ∙ ap (λ (n : ℕ). drop n out₀) (sym l))
            ∙ ap (λ (x : World). x.written ++ drop (length x.written) out₀) (sym w);
      }

-- ---- the report

-- if one is wanted, what is watched and told from here on comes to it; the ticks used are few in any case
pub record Watching (wanted : Bool) (T : Setting) (a : Allowances) (s : List ℕ) (c₀ : Chip) (m₀ : List ℕ) (r₀ : Report) (c : Chip) (m : List ℕ) (k : Clock) (at : ℕ) (w : Watch) : Type 0 where
  pub asked : w.wanted ≡ wanted
  pub watches : wanted ≡ true → Watches T a w (jobs_of T s c₀ m₀) (tick_by_tick (timed k (events_from s at))) c m r₀
  pub modest : w.used ≤ 21845 * at

-- before the first event nothing is followed
pub watch-starts : (T : Setting) (a : Allowances) (s : List ℕ) (c : Chip) (m : List ℕ) (w : Watch) → w.on ≡ false → w.used ≡ 0 → Watching w.wanted T a s c m w.report c m unset 0 w
watch-starts T a s c m w off none =
    record {
      asked = refl;
      watches = λ _. record { followed = nothing; keeps = record { same_on = off; same_used = none; there = λ h. absurd (false≢true h) }; comes_to = refl };
      modest = omega arith;
    }

module _ {wanted : Bool} {T : Setting} {a : Allowances} {s : List ℕ} {c₀ : Chip} {m₀ : List ℕ} {r₀ : Report} {c : Chip} {m : List ℕ} {k : Clock} {at : ℕ} {w : Watch}
    (i : Watching wanted T a s c₀ m₀ r₀ c m k at w) where
  -- what is watched from here on, after a turn
  goes_on : {w' : Watch} {es : List Event} {c' : Chip} {m' : List ℕ} (wants : wanted ≡ true) (js : List Finished)
      → jobs T (i.watches wants).followed (tick_by_tick (timed k (events_from s at))) c m ≡ js → Watches T a w' js es c' m' w.report → Watches T a w' (jobs_of T s c₀ m₀) es c' m' r₀
  goes_on wants js e next =
      record {
        followed = next.followed;
        keeps = next.keeps;
        comes_to = (i.watches wants).comes_to ∙ ap (λ (q : List Finished). report_after a q w.report) e ∙ next.comes_to;
      }

  -- a stretch in one go
  pub watched_on : {at' : ℕ} {c' : Chip} {said : List ℕ} → Heard T s m at c at' c' said → Watching wanted T a s c₀ m₀ r₀ c' m k at' w
  watched_on h =
      record {
        asked = i.asked;
        watches = λ wants.
            let now = i.watches wants in
            record {
              followed = now.followed;
              keeps = record { same_on = now.keeps.same_on; same_used = now.keeps.same_used; there = λ on. ap stands h.core_same ∙ now.keeps.there on };
              comes_to = now.comes_to ∙ ap (λ (q : List Finished). report_after a q w.report) (h.told k now.followed now.keeps.there);
            };
        modest = omega (arith, i.modest, h.onward);
      }

  module _ (more : at < length s) where
    -- an event that is no ticks
    pub event_watched : ticking (get_or s at 0) ≡ false → (q : Core) (f : Frame) (l held m' : List ℕ) (said : Record) (t : ℕ) → outcome q f l held m' said t ≡ applied T c m (get_or s at 0) (body_at s at)
        → Watching wanted T a s c₀ m₀ r₀ (whole q f l held) m' k (next_at s at) (after_event q said w)
    event_watched plain q f l held m' said t e =
        let other = not-ticking (get_or s at 0) plain in
        let left : Outcome = applied T c m (get_or s at 0) (body_at s at) in
        subst (λ (o : Outcome). Watching wanted T a s c₀ m₀ r₀ o.chip o.memory k (next_at s at) (after_event o.chip.core o.said w)) (sym e)
        (record {
          asked = event-wanted left.chip.core left.said w ∙ i.asked;
          watches = λ wants.
              let now = i.watches wants in
              goes_on wants _ (jobs-plain T now.followed k s at c m more other)
              (watch_event T (event_at s at) _ c m other.not_one a w now.followed (i.asked ∙ wants) now.keeps.same_on now.keeps.same_used);
          modest = omega (arith, i.modest, event-modest left.chip.core left.said w);
        })

    -- ticks
    module _ (is-ticking : ticking (get_or s at 0) ≡ true) (body : ℕ) (is_body : body ≡ body_at s at) (n : ℕ) (is : n ≡ ticks_of k (get_or s at 0) body) (most : n ≤ 65535)
        (k' : Clock) (is-clock : k' ≡ clock_by k (get_or s at 0) body) where
      number_of : ticks_of k (get_or s at 0) (body_at s at) ≡ n
      number_of = sym (is ∙ ap (ticks_of k (get_or s at 0)) is_body)

      clock_of : clock_after k (event_at s at) ≡ k'
      clock_of = sym (is-clock ∙ ap (clock_by k (get_or s at 0)) is_body ∙ clock_as k s at)

      -- all that were used so far, with these, are no more than the script's bytes allow
      pub modest_then : w.used + n ≤ 21845 * next_at s at
      modest_then = omega (arith, i.modest, number_of, ticks-few k s at is-ticking (omega (arith, number_of, most)))

      jobs_then : (f : Followed) → jobs T f (tick_by_tick (timed k (events_from s at))) c m
          ≡ jobs T f (replicate n (one_tick at) ++ tick_by_tick (timed k' (events_from s (next_at s at)))) c m
      jobs_then f =
          jobs-ticking T f k s at c m more is-ticking
          ∙ (λ j. jobs T f (replicate (number_of j) (one_tick at) ++ tick_by_tick (timed (clock_of j) (events_from s (next_at s at)))) c m)

      pub ticks_watched : (q : Core) (t : ℕ) (held m' : List ℕ) → TicksAnswer T.sectors n c.core c.held m q t held m'
          → Watching wanted T a s c₀ m₀ r₀ (whole q c.frame c.load held) m' k' (next_at s at) (after_ticks a c.core q n t w)
      ticks_watched q t held m' ans =
          let does : outcome q c.frame c.load held m' Nothing t ≡ tick T c m n = (λ j. outcome (ans.core j) c.frame c.load (ans.load j) (ans.memory j) Nothing (ans.working j)) in
          subst (λ (o : Outcome). Watching wanted T a s c₀ m₀ r₀ o.chip o.memory k' (next_at s at) (after_ticks a c.core o.chip.core n o.ticks w)) (sym does)
          (record {
            asked = ticks-wanted a c.core (tick T c m n).chip.core n (worked T.sectors n c.core) w ∙ i.asked;
            watches = λ wants.
                let now = i.watches wants in
                goes_on wants _ (jobs_then now.followed) (watch_ticks T a at (tick_by_tick (timed k' (events_from s (next_at s at)))) n c m w now.followed now.keeps);
            modest = omega (arith, modest_then, ticks-modest a c.core (tick T c m n).chip.core n (worked T.sectors n c.core) w);
          })

      -- where no job runs and none is followed, nothing is told
      pub idle_watched : running c.core ≡ false → w.on ≡ false → Watching wanted T a s c₀ m₀ r₀ c m k' (next_at s at) w
      idle_watched rests off =
          subst (λ (v : Watch). Watching wanted T a s c₀ m₀ r₀ c m k' (next_at s at) v) (unwatched_ticks a c.core c.core n 0 w off)
          (ticks_watched c.core 0 c.held m (answer_rests T.sectors n c.core c.held m rests))

    -- ticks as they are written, where no job runs and none is followed
    pub plain_idle_watched : in_range (get_or s at 0) (body_at s at) ≡ true → (eqb (get_or s at 0) TICKS || eqb (get_or s at 0) TICK) ≡ true → running c.core ≡ false → w.on ≡ false
        → Watching wanted T a s c₀ m₀ r₀ c m k (next_at s at) w
    plain_idle_watched ranged plain =
        let is-ticking = plain-ticking (get_or s at 0) plain in
        idle_watched is-ticking (body_at s at) refl _ refl (ticks-most k (get_or s at 0) (body_at s at) is-ticking ranged) k (plain-clock k (get_or s at 0) (body_at s at) plain)

  -- after the last event the report is that of all jobs
  pub reports : length s ≤ at → wanted ≡ true → Reports T a c₀ m₀ s r₀ w.report
  unfolding jobs tick_by_tick report_after
  reports over wants =
      let now = i.watches wants in
      sym (now.comes_to ∙ ap (λ (es : List Event). report_after a (jobs T now.followed (tick_by_tick es) c m) w.report) (timed-none k s at over))
