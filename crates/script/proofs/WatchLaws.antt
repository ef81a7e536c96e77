-- What the run's code watches is what the list of jobs has: n ticks at once are n ticks one by one, and the report that is kept is the report after the jobs.
use Prim.Native.Nat.{ℕ, zero, suc, ◌+◌, ◌*◌, ◌<◌, ◌≤◌}
use Rattle.std.proofs.Math.Bool.{Bool, true, false, cond, not}
use Rattle.std.specs.Prelude.{◌&&◌, ◌||◌, ◌≡◌, eqb, ltb, leb, length, get_or, replicate}
use Rattle.std.proofs.lemmas.Bool.{false≢true}
use mathlib.Core.List.{List, [], ◌∷◌, ◌++◌}
use Rattle.std.proofs.Math.Path.{refl, ap, subst}
use Rattle.std.proofs.Common.{sym, ◌∙◌, add-zero, arith, eq-eqb, ne_eqb, leb-true}
use Rattle.std.proofs.Math.Decide.{ℕ_discrete}
use Rattle.cells.specs.Choice.{cond_yes, cond_no, cond_either, and_right, either_false}
use Rattle.part.specs.Part.{Setting}
use Rattle.kinds.specs.Kinds.{TICK, TICKS, STAMP, Says, kind_row, kind_row_in, in_range}
use Rattle.kinds.specs.Body.{body_at, next_at}
use Rattle.clock.specs.declared.Clock.{Clock}
use Rattle.clock.specs.Clock.{moved_on}
use Rattle.clock.specs.Laws.{moved-most}
use Rattle.chip.specs.declared.Chip.{Chip}
use Rattle.chip.specs.declared.Core.{Core}
use Rattle.chip.specs.declared.Job.{Job}
use Rattle.chip.specs.declared.Record.{Record}
use Rattle.chip.specs.declared.Record.TheVariants.{Nothing, Floating, Driven, Verdict, InTheWay}
use Rattle.chip.specs.Job.{is_job, total}
use Rattle.chip.specs.Chip.{whole, running}
use Rattle.job.specs.Tick.{advanced, suspends, ended, tick_core, ticks_core, ticks_load, ticks_memory, worked}
use Rattle.job.proofs.Laws.{ticks-add, ticks_load-add, ticks_memory-add, worked-add, ticks-rest, worked-rest, ended-none}
use Rattle.margins.specs.declared.Allowances.{Allowances}
use Rattle.margins.specs.declared.Report.{Report}
use Rattle.event.specs.Event.{Outcome, applied, tick, sort_of}
use Rattle.script.specs.Script.{Event, event_at, events_from, is_stamp, clock_after, ticks_given, timed}
use Rattle.script.specs.Run.{World, after, runs}
use Rattle.script.specs.Jobs.{is_on, one_tick, tick_by_tick, Finished, Followed, nothing, follows, tick_more, is_two, stands, finished, jobs}
use Rattle.script.specs.Report.{report_after}
use Rattle.margins.specs.Margins.{allowance_of, margin, counted}
use Rattle.script.specs.Watch.{Watch, ticking, ticks_of, clock_by, watch, after_event, after_ticks}
use Rattle.script.proofs.Laws.{timed-more, given-itself, clock_stays, runs-more, runs-stamp}

one_more : (n : ℕ) → suc n ≡ 1 + n
one_more n = omega arith

-- ---- events of ticks

-- the clock after an event, by its kind and body
pub clock_as : (k : Clock) (s : List ℕ) (at : ℕ) → clock_by k (get_or s at 0) (body_at s at) ≡ clock_after k (event_at s at)
unfolding clock_by
clock_as k s at = refl

-- the three kinds of them
pub data Ticking (kind : ℕ) : Type 0 where
  some : kind ≡ TICKS → Ticking kind
  one : kind ≡ TICK → Ticking kind
  stamp : kind ≡ STAMP → Ticking kind

pub ticking-kind : (kind : ℕ) → ticking kind ≡ true → Ticking kind
ticking-kind kind h = go (ℕ_discrete kind TICKS) (ℕ_discrete kind TICK) (ℕ_discrete kind STAMP)
  where
    go : Dec (kind ≡ TICKS) → Dec (kind ≡ TICK) → Dec (kind ≡ STAMP) → Ticking kind
    go (yes e) two three = some e
    go (no n) (yes e) three = one e
    go (no n) (no n₂) (yes e) = stamp e
    go (no n) (no n₂) (no n₃) = absurd (false≢true (sym (rw (ne_eqb _ _ n, ne_eqb _ _ n₂, ne_eqb _ _ n₃)) ∙ h))

-- a kind that is none of them
pub record NotTicking (kind : ℕ) : Type 0 where
  pub not_one : eqb kind TICK ≡ false
  pub not_some : eqb kind TICKS ≡ false
  pub not_stamp : eqb kind STAMP ≡ false

pub not-ticking : (kind : ℕ) → ticking kind ≡ false → NotTicking kind
not-ticking kind h =
    let parts = (either_false (eqb kind TICKS || eqb kind TICK) (eqb kind STAMP)).0 h in
    let two = (either_false (eqb kind TICKS) (eqb kind TICK)).0 parts.0 in
    record { not_one = two.1; not_some = two.0; not_stamp = parts.1 }

-- ticks as they are written are no stamp: they leave the clock, and their number is their body or 1
pub plain-ticking : (kind : ℕ) → (eqb kind TICKS || eqb kind TICK) ≡ true → ticking kind ≡ true
plain-ticking kind h = ap (λ (b : Bool). b || eqb kind STAMP) h

pub plain-clock : (k : Clock) (kind body : ℕ) → (eqb kind TICKS || eqb kind TICK) ≡ true → k ≡ clock_by k kind body
unfolding clock_by
plain-clock k kind body h = sym (cond_no (eqb kind STAMP) _ _ (ne_eqb kind STAMP (λ e. false≢true (sym (ap (λ (q : ℕ). eqb q TICKS || eqb q TICK) e) ∙ h))))

-- how many ticks each of them gives
ticks-some : (k : Clock) (kind body : ℕ) → kind ≡ TICKS → ticks_of k kind body ≡ body
unfolding ticks_of
ticks-some k kind body e = ap (λ (q : ℕ). ticks_of k q body) e

ticks-one : (k : Clock) (kind body : ℕ) → kind ≡ TICK → ticks_of k kind body ≡ 1
unfolding ticks_of
ticks-one k kind body e = ap (λ (q : ℕ). ticks_of k q body) e

ticks-stamp : (k : Clock) (kind body : ℕ) → kind ≡ STAMP → ticks_of k kind body ≡ moved_on k body
unfolding ticks_of
ticks-stamp k kind body e = ap (λ (q : ℕ). ticks_of k q body) e

-- no more than 65,535, if the body is in its range
pub ticks-most : (k : Clock) (kind body : ℕ) → ticking kind ≡ true → in_range kind body ≡ true → ticks_of k kind body ≤ 65535
unfolding kind_row kind_row_in
ticks-most k kind body h ranged = go (ticking-kind kind h)
  where
    go : Ticking kind → ticks_of k kind body ≤ 65535
    go (some e) = omega (arith, ticks-some k kind body e, leb-true body 65535 (and_right (leb 1 body) (leb body 65535) (ap (λ (q : ℕ). in_range q body) (sym e) ∙ ranged)))
    go (one e) = omega (arith, ticks-one k kind body e)
    go (stamp e) = omega (arith, ticks-stamp k kind body e, moved-most k body)

-- three bytes give at most 65,535 of them, and one byte one
pub ticks-few : (k : Clock) (s : List ℕ) (at : ℕ) → ticking (get_or s at 0) ≡ true → ticks_of k (get_or s at 0) (body_at s at) ≤ 65535
    → ticks_of k (get_or s at 0) (body_at s at) + 21845 * at ≤ 21845 * next_at s at
unfolding kind_row kind_row_in
ticks-few k s at h few = go (ticking-kind (get_or s at 0) h)
  where
    length_is : (kind : ℕ) → get_or s at 0 ≡ kind → next_at s at ≡ at + 1 + (kind_row kind).body
    length_is kind e = ap (λ (q : ℕ). at + 1 + (kind_row q).body) e

    go : Ticking (get_or s at 0) → ticks_of k (get_or s at 0) (body_at s at) + 21845 * at ≤ 21845 * next_at s at
    go (some e) = let next : next_at s at ≡ at + 1 + 2 = length_is TICKS e in omega (arith, few, next)
    go (one e) = let next : next_at s at ≡ at + 1 + 0 = length_is TICK e in omega (arith, ticks-one k (get_or s at 0) (body_at s at) e, next)
    go (stamp e) = let next : next_at s at ≡ at + 1 + 2 = length_is STAMP e in omega (arith, few, next)

-- whatever its kind, an event of ticks is applied as so many ticks
pub runs-ticking : (T : Setting) (k : Clock) (s : List ℕ) (at : ℕ) (w : World) → at < length s → ticking (get_or s at 0) ≡ true
    → runs T (timed k (events_from s at)) w
    ≡ runs T (timed (clock_after k (event_at s at)) (events_from s (next_at s at))) (after w (tick T w.chip w.memory (ticks_of k (get_or s at 0) (body_at s at))))
unfolding applied
runs-ticking T k s at w more h = go (ticking-kind (get_or s at 0) h)
  where
    rest : Clock → List Event
    rest q = timed q (events_from s (next_at s at))

    -- an event that is no stamp, and does n ticks
    plain : (n : ℕ) → is_stamp (event_at s at) ≡ false → applied T w.chip w.memory (get_or s at 0) (body_at s at) ≡ tick T w.chip w.memory n
        → runs T (timed k (events_from s at)) w ≡ runs T (rest (clock_after k (event_at s at))) (after w (tick T w.chip w.memory n))
    plain n no-stamp does =
        runs-more T k s at w more no-stamp
        ∙ ap (λ (o : Outcome). runs T (rest k) (after w o)) does
        ∙ ap (λ (q : Clock). runs T (rest q) (after w (tick T w.chip w.memory n))) (sym (clock_stays k (event_at s at) no-stamp))

    -- told with the number of ticks
    told : (n : ℕ) → ticks_of k (get_or s at 0) (body_at s at) ≡ n
        → runs T (timed k (events_from s at)) w ≡ runs T (rest (clock_after k (event_at s at))) (after w (tick T w.chip w.memory n))
        → runs T (timed k (events_from s at)) w ≡ runs T (rest (clock_after k (event_at s at))) (after w (tick T w.chip w.memory (ticks_of k (get_or s at 0) (body_at s at))))
    told n e p = p ∙ ap (λ (q : ℕ). runs T (rest (clock_after k (event_at s at))) (after w (tick T w.chip w.memory q))) (sym e)

    go : Ticking (get_or s at 0)
        → runs T (timed k (events_from s at)) w ≡ runs T (rest (clock_after k (event_at s at))) (after w (tick T w.chip w.memory (ticks_of k (get_or s at 0) (body_at s at))))
    go (some e) = told _ (ticks-some k _ _ e) (plain (body_at s at) (ap (λ (q : ℕ). eqb q STAMP) e) (ap (λ (q : ℕ). applied T w.chip w.memory q (body_at s at)) e))
    go (one e) = told _ (ticks-one k _ _ e) (plain 1 (ap (λ (q : ℕ). eqb q STAMP) e) (ap (λ (q : ℕ). applied T w.chip w.memory q (body_at s at)) e))
    go (stamp e) = told _ (ticks-stamp k _ _ e) (runs-stamp T k s at w more (eq-eqb _ _ e))

-- ---- the events tick by tick

-- one tick, whatever stands in its event's body
jobs-one : (T : Setting) (f : Followed) (e : Event) (es : List Event) (c : Chip) (m : List ℕ) → e.kind ≡ TICK → jobs T f (e ∷ es) c m ≡ jobs T f (one_tick e.offset ∷ es) c m
unfolding jobs applied
jobs-one T f e es c m is = ap (λ (kind : ℕ). jobs T f (record { offset = e.offset; kind = kind; body = e.body; fault = e.fault } ∷ es) c m) is

-- a stamp's ticks, none included
given-singly : (e : Event) (n : ℕ) (es : List Event) → tick_by_tick (ticks_given e n ++ es) ≡ replicate n (one_tick e.offset) ++ tick_by_tick es
unfolding tick_by_tick
given-singly e zero es = refl
given-singly e (suc n) es = refl

pub jobs-ticking : (T : Setting) (f : Followed) (k : Clock) (s : List ℕ) (at : ℕ) (c : Chip) (m : List ℕ) → at < length s → ticking (get_or s at 0) ≡ true
    → jobs T f (tick_by_tick (timed k (events_from s at))) c m
    ≡ jobs T f (replicate (ticks_of k (get_or s at 0) (body_at s at)) (one_tick at) ++ tick_by_tick (timed (clock_after k (event_at s at)) (events_from s (next_at s at)))) c m
unfolding tick_by_tick
jobs-ticking T f k s at c m more h = go (ticking-kind (get_or s at 0) h)
  where
    rest : List Event
    rest = timed (clock_after k (event_at s at)) (events_from s (next_at s at))

    goal : ℕ → Type 0
    goal n = jobs T f (tick_by_tick (timed k (events_from s at))) c m ≡ jobs T f (replicate n (one_tick at) ++ tick_by_tick rest) c m

    -- an event that is no stamp
    plain : is_stamp (event_at s at) ≡ false → timed k (events_from s at) ≡ event_at s at ∷ rest
    plain no-stamp = timed-more k s at more ∙ ap (λ (es : List Event). es ++ rest) (given-itself k (event_at s at) no-stamp)

    go : Ticking (get_or s at 0) → goal (ticks_of k (get_or s at 0) (body_at s at))
    go (some e) =
        subst goal (sym (ticks-some k _ _ e))
        (ap (λ (es : List Event). jobs T f (tick_by_tick es) c m) (plain (ap (λ (q : ℕ). eqb q STAMP) e))
        ∙ ap (λ (es : List Event). jobs T f (es ++ tick_by_tick rest) c m) (cond_yes (eqb (get_or s at 0) TICKS) _ _ (eq-eqb _ _ e)))
    go (one e) =
        subst goal (sym (ticks-one k _ _ e))
        (ap (λ (es : List Event). jobs T f (tick_by_tick es) c m) (plain (ap (λ (q : ℕ). eqb q STAMP) e))
        ∙ ap (λ (es : List Event). jobs T f (es ++ tick_by_tick rest) c m) (cond_no (eqb (get_or s at 0) TICKS) _ _ (ap (λ (q : ℕ). eqb q TICKS) e))
        ∙ jobs-one T f (event_at s at) (tick_by_tick rest) c m e)
    go (stamp e) =
        subst goal (sym (ticks-stamp k _ _ e))
        (ap (λ (es : List Event). jobs T f (tick_by_tick es) c m) (timed-more k s at more ∙ ap (λ (es : List Event). es ++ rest) (cond_yes (is_stamp (event_at s at)) _ _ (eq-eqb _ _ e)))
        ∙ ap (λ (es : List Event). jobs T f es c m) (given-singly (event_at s at) (moved_on k (body_at s at)) rest))

-- an event that is no ticks stands by itself
pub jobs-plain : (T : Setting) (f : Followed) (k : Clock) (s : List ℕ) (at : ℕ) (c : Chip) (m : List ℕ) → at < length s → NotTicking (get_or s at 0)
    → jobs T f (tick_by_tick (timed k (events_from s at))) c m ≡ jobs T f (event_at s at ∷ tick_by_tick (timed k (events_from s (next_at s at)))) c m
unfolding tick_by_tick
jobs-plain T f k s at c m more plain =
    ap (λ (es : List Event). jobs T f (tick_by_tick es) c m)
    (timed-more k s at more
    ∙ ap (λ (es : List Event). es ++ timed (clock_after k (event_at s at)) (events_from s (next_at s at))) (given-itself k (event_at s at) plain.not_stamp)
    ∙ ap (λ (q : Clock). event_at s at ∷ timed q (events_from s (next_at s at))) (clock_stays k (event_at s at) plain.not_stamp))
    ∙ ap (λ (es : List Event). jobs T f (es ++ tick_by_tick (timed k (events_from s (next_at s at)))) c m) (cond_no (eqb (get_or s at 0) TICKS) _ _ plain.not_some)

-- ---- n ticks at once

-- a job that ticks leave is of the kind that they found
tick-kind : (S : ℕ) (k : Core) → stands (tick_core S k) ≡ true → (tick_core S k).job.kind ≡ k.job.kind
unfolding tick_core
tick-kind S k = go (running k) (ltb (k.job.done + 1) (total k.job.kind S)) k.waiting
  where
    go : (r l w : Bool) → stands (cond r (cond l (cond w (suspends (advanced 1 k)) (advanced 1 k)) (ended k)) k) ≡ true
        → (cond r (cond l (cond w (suspends (advanced 1 k)) (advanced 1 k)) (ended k)) k).job.kind ≡ k.job.kind
    go true true true h = refl
    go true true false h = refl
    go true false w h = absurd (false≢true (sym (ap is_job (ap (λ (j : Job). j.kind) (ended-none k.job.kind k))) ∙ h))
    go false l w h = refl

-- where no job stands, none runs
rests : (k : Core) → stands k ≡ false → running k ≡ false
rests k none = ap (λ (b : Bool). b && not k.suspended) none

-- ticks that leave no job found it running
was_running : (S n : ℕ) (k : Core) → stands k ≡ true → stands (ticks_core S n k) ≡ false → running k ≡ true
was_running S n k there gone = go (running k) refl
  where
    go : (b : Bool) → running k ≡ b → b ≡ true
    go true e = refl
    go false e = absurd (false≢true (sym gone ∙ ap stands (ticks-rest S n k e) ∙ there))

-- one tick of a running job works
works_one : (S : ℕ) (k : Core) → running k ≡ true → worked S 1 k ≡ 1
unfolding worked ticks_core
works_one S k runs = ap (λ (b : Bool). 0 + cond b 1 0) runs

-- no more of them work than there are
pub worked-most : (S n : ℕ) (k : Core) → worked S n k ≤ n
unfolding worked
worked-most S zero k = omega arith
worked-most S (suc n) k = cond_either (λ (w : ℕ). worked S n k + w ≤ suc n) (running (ticks_core S n k)) 1 0 (λ _. omega (arith, worked-most S n k)) (λ _. omega (arith, worked-most S n k))

module _ (T : Setting) (at : ℕ) (es : List Event) where
  -- one tick and then n are one more than n
  module _ (n : ℕ) (c : Chip) (m : List ℕ) where
    abbrev first : Outcome
    first = tick T c m 1

    more_core : ticks_core T.sectors (suc n) c.core ≡ ticks_core T.sectors n first.chip.core
    more_core = ap (λ (q : ℕ). ticks_core T.sectors q c.core) (one_more n) ∙ ticks-add T.sectors 1 n c.core

    more_chip : (tick T first.chip first.memory n).chip ≡ (tick T c m (suc n)).chip
    more_chip =
        λ i. whole (sym more_core i) c.frame c.load
        (sym (ap (λ (q : ℕ). ticks_load T.sectors q c.core c.held) (one_more n) ∙ ticks_load-add T.sectors 1 n c.core c.held) i)

    more_memory : (tick T first.chip first.memory n).memory ≡ (tick T c m (suc n)).memory
    more_memory = sym (ap (λ (q : ℕ). ticks_memory T.sectors q c.core c.held m) (one_more n) ∙ ticks_memory-add T.sectors 1 n c.core c.held m)

    more_worked : worked T.sectors (suc n) c.core ≡ worked T.sectors 1 c.core + worked T.sectors n first.chip.core
    more_worked = ap (λ (q : ℕ). worked T.sectors q c.core) (one_more n) ∙ worked-add T.sectors 1 n c.core

    -- what is told after those n is told after the one more
    then : (f : Followed) → jobs T f es (tick T first.chip first.memory n).chip (tick T first.chip first.memory n).memory ≡ jobs T f es (tick T c m (suc n)).chip (tick T c m (suc n)).memory
    then f = λ i. jobs T f es (more_chip i) (more_memory i)

  abbrev ticks_and : ℕ → List Event
  ticks_and n = replicate n (one_tick at) ++ es

  -- where nothing is followed, they end no job that is told
  pub ticks_unfollowed : (n : ℕ) (c : Chip) (m : List ℕ) → jobs T nothing (ticks_and n) c m ≡ jobs T nothing es (tick T c m n).chip (tick T c m n).memory
  unfolding jobs applied ticks_core ticks_load ticks_memory
  ticks_unfollowed zero c m = refl
  ticks_unfollowed (suc n) c m = go (stands (tick_core T.sectors c.core)) ∙ ticks_unfollowed n (first n c m).chip (first n c m).memory ∙ then n c m nothing
    where
      go : (b : Bool) → cond (not b) (finished at c.core.job.kind nothing) [] ++ jobs T (cond (not b) nothing nothing) (ticks_and n) (first n c m).chip (first n c m).memory
          ≡ jobs T nothing (ticks_and n) (first n c m).chip (first n c m).memory
      go true = refl
      go false = refl

  -- a job that is followed is still there after them, and has used all of them; or it is told, and has used those that worked
  pub data Seen (n : ℕ) (c : Chip) (m : List ℕ) (begin used : ℕ) (js : List Finished) : Type 0 where
    still : stands (ticks_core T.sectors n c.core) ≡ true → (working suspended : ℕ)
        → js ≡ jobs T (follows begin (used + n) working suspended) es (tick T c m n).chip (tick T c m n).memory → Seen n c m begin used js
    over : stands (ticks_core T.sectors n c.core) ≡ false → (working suspended : ℕ)
        → js
        ≡ record { kind = c.core.job.kind; begin = begin; end = at; used = used + worked T.sectors n c.core; working = working; suspended = suspended }
        ∷ jobs T nothing es (tick T c m n).chip (tick T c m n).memory
        → Seen n c m begin used js

  pub ticks_followed : (n : ℕ) (c : Chip) (m : List ℕ) (begin used working suspended : ℕ) → stands c.core ≡ true
      → Seen n c m begin used (jobs T (follows begin used working suspended) (ticks_and n) c m)
  unfolding jobs applied ticks_core ticks_load ticks_memory
  ticks_followed zero c m begin used working suspended there =
      still there working suspended (ap (λ (u : ℕ). jobs T (follows begin u working suspended) es c m) (sym (add-zero used)))
  ticks_followed (suc n) c m begin used working suspended there =
      go (λ e. ticks_followed n o.chip o.memory begin (used + 1) w₁ z₁ e) (stands (tick_core T.sectors c.core)) refl
    where
      o : Outcome
      o = first n c m

      w₁ : ℕ
      w₁ = working + cond (running c.core) 1 0

      z₁ : ℕ
      z₁ = suspended + cond c.core.suspended 1 0

      told : Bool → List Finished
      told b =
          cond (not b) (finished at c.core.job.kind (follows begin (used + 1) w₁ z₁)) []
          ++ jobs T (cond (not b) nothing (follows begin (used + 1) w₁ z₁)) (ticks_and n) o.chip o.memory

      -- the job is still there after the first of them
      goes_on : (js : List Finished) → stands o.chip.core ≡ true → Seen n o.chip o.memory begin (used + 1) js → Seen (suc n) c m begin used js
      goes_on js stays (still s w z e) =
          let sum : used + 1 + n ≡ used + suc n = omega arith in
          still (ap stands (more_core n c m) ∙ s) w z (e ∙ ap (λ (u : ℕ). jobs T (follows begin u w z) es (tick T o.chip o.memory n).chip (tick T o.chip o.memory n).memory) sum ∙ then n c m (follows begin (used + suc n) w z))
      goes_on js stays (over g w z e) =
          let gone : stands (ticks_core T.sectors (suc n) c.core) ≡ false = ap stands (more_core n c m) ∙ g in
          let one : worked T.sectors 1 c.core ≡ 1 = works_one T.sectors c.core (was_running T.sectors (suc n) c.core there gone) in
          let sum : used + 1 + worked T.sectors n o.chip.core ≡ used + worked T.sectors (suc n) c.core = omega (arith, one, more_worked n c m) in
          over gone w z
          (e
          ∙ (λ i. record { kind = tick-kind T.sectors c.core stays i; begin = begin; end = at; used = sum i; working = w; suspended = z }
          ∷ then n c m nothing i))

      -- it ended with the first of them, and the others are nobody's
      ends : stands o.chip.core ≡ false → Seen (suc n) c m begin used (told false)
      ends g =
          let gone : stands (ticks_core T.sectors (suc n) c.core) ≡ false = ap stands (more_core n c m) ∙ ap stands (ticks-rest T.sectors n o.chip.core (rests o.chip.core g)) ∙ g in
          let one : worked T.sectors 1 c.core ≡ 1 = works_one T.sectors c.core (was_running T.sectors (suc n) c.core there gone) in
          let none : worked T.sectors n o.chip.core ≡ 0 = worked-rest T.sectors n o.chip.core (rests o.chip.core g) in
          let sum : used + 1 ≡ used + worked T.sectors (suc n) c.core = omega (arith, one, none, more_worked n c m) in
          over gone w₁ z₁
          (λ i. record { kind = c.core.job.kind; begin = begin; end = at; used = sum i; working = w₁; suspended = z₁ }
          ∷ (ticks_unfollowed n o.chip o.memory ∙ then n c m nothing) i)

      go : (stands o.chip.core ≡ true → Seen n o.chip o.memory begin (used + 1) (told true)) → (b : Bool) → stands o.chip.core ≡ b → Seen (suc n) c m begin used (told b)
      go rest true e = goes_on (told true) e (rest e)
      go rest false e = ends e

-- ---- the watch

-- what the code keeps of what is followed
abbrev pub used_by : Followed → ℕ
used_by nothing = 0
used_by (follows begin used working suspended) = used

pub record Keeps (w : Watch) (f : Followed) (k : Core) : Type 0 where
  pub same_on : w.on ≡ is_on f
  pub same_used : w.used ≡ used_by f
  -- a job that is followed stands
  pub there : is_on f ≡ true → stands k ≡ true

-- what is watched and told from here on comes to the report that the jobs of the list come to
pub record Watches (T : Setting) (a : Allowances) (w : Watch) (js : List Finished) (es : List Event) (c : Chip) (m : List ℕ) (r : Report) : Type 0 where
  pub followed : Followed
  pub keeps : Keeps w followed c.core
  pub comes_to : report_after a js r ≡ report_after a (jobs T followed es c m) w.report

module _ (T : Setting) (a : Allowances) (at : ℕ) (es : List Event) (n : ℕ) (c : Chip) (m : List ℕ) where
  abbrev left : Chip
  left = (tick T c m n).chip

  -- after n ticks
  pub watch_ticks : (w : Watch) (f : Followed) → Keeps w f c.core
      → Watches T a (after_ticks a c.core left.core n (worked T.sectors n c.core) w) (jobs T f (replicate n (one_tick at) ++ es) c m) es left (tick T c m n).memory w.report
  unfolding after_ticks report_after
  watch_ticks w nothing k =
      subst (λ (v : Watch). Watches T a v (jobs T nothing (replicate n (one_tick at) ++ es) c m) es left (tick T c m n).memory w.report)
      (sym (cond_yes (not w.on) _ _ (ap not k.same_on)))
      (record {
        followed = nothing;
        keeps = record { same_on = k.same_on; same_used = k.same_used; there = λ h. absurd (false≢true h) };
        comes_to = ap (λ (js : List Finished). report_after a js w.report) (ticks_unfollowed T at es n c m);
      })
  watch_ticks w (follows begin used working suspended) k =
      subst (λ (v : Watch). Watches T a v (jobs T (follows begin used working suspended) (replicate n (one_tick at) ++ es) c m) es left (tick T c m n).memory w.report)
      (sym (cond_no (not w.on) _ _ (ap not k.same_on)))
      (go (ticks_followed T at es n c m begin used working suspended (k.there refl)))
    where
      js : List Finished
      js = jobs T (follows begin used working suspended) (replicate n (one_tick at) ++ es) c m

      told : Bool → Watch
      told b =
          cond b (watch w.wanted true (w.used + n) w.report)
          (watch w.wanted false 0 (counted c.core.job.kind (margin (allowance_of c.core.job.kind a) (w.used + worked T.sectors n c.core)) w.report))

      go : Seen T at es n c m begin used js → Watches T a (told (stands left.core)) js es left (tick T c m n).memory w.report
      go (still s w' z' e) =
          subst (λ (b : Bool). Watches T a (told b) js es left (tick T c m n).memory w.report) (sym s)
          (record {
            followed = follows begin (used + n) w' z';
            keeps = record { same_on = refl; same_used = ap (λ (u : ℕ). u + n) k.same_used; there = λ _. s };
            comes_to = ap (λ (q : List Finished). report_after a q w.report) e;
          })
      go (over g w' z' e) =
          subst (λ (b : Bool). Watches T a (told b) js es left (tick T c m n).memory w.report) (sym g)
          (record {
            followed = nothing;
            keeps = record { same_on = refl; same_used = refl; there = λ h. absurd (false≢true h) };
            comes_to =
                ap (λ (q : List Finished). report_after a q w.report) e
                ∙ ap (λ (u : ℕ). report_after a (jobs T nothing es left (tick T c m n).memory) (counted c.core.job.kind (margin (allowance_of c.core.job.kind a) (u + worked T.sectors n c.core)) w.report)) (sym k.same_used);
          })

module _ (T : Setting) (e : Event) (es : List Event) (c : Chip) (m : List ℕ) (no-tick : eqb e.kind TICK ≡ false) where
  abbrev o : Outcome
  o = applied T c m e.kind e.body

  -- an event that is no tick ends no job that is told
  jobs_event : (f : Followed) → jobs T f (e ∷ es) c m ≡ jobs T (cond (not (stands o.chip.core)) nothing (cond (is_two o.said) (follows e.offset 0 0 0) f)) es o.chip o.memory
  unfolding jobs
  jobs_event f =
      ap (λ (b : Bool). cond (b && not (stands o.chip.core)) (finished e.offset c.core.job.kind (tick_more c.core f)) []
      ++ jobs T (cond (not (stands o.chip.core)) nothing (cond (is_two o.said) (follows e.offset 0 0 0) (cond b (tick_more c.core f) f))) es o.chip o.memory) no-tick

  -- one that leaves the job alone and begins none leaves what is followed
  pub jobs_stay : (f : Followed) → (is_on f ≡ true → stands c.core ≡ true) → o.chip.core ≡ c.core → is_two o.said ≡ false → jobs T f (e ∷ es) c m ≡ jobs T f es o.chip o.memory
  jobs_stay f there same no-two = jobs_event f ∙ ap (λ (g : Followed). jobs T g es o.chip o.memory) (go f (stands o.chip.core) refl there)
    where
      go : (f : Followed) (s : Bool) → stands o.chip.core ≡ s → (is_on f ≡ true → stands c.core ≡ true) → cond (not s) nothing (cond (is_two o.said) (follows e.offset 0 0 0) f) ≡ f
      go f true p there = cond_no (is_two o.said) _ _ no-two
      go nothing false p there = refl
      go (follows begin used working suspended) false p there = absurd (false≢true (sym p ∙ ap stands same ∙ there refl))

  -- after such an event, if a report is wanted
  pub watch_event : (a : Allowances) (w : Watch) (f : Followed) → w.wanted ≡ true → w.on ≡ is_on f → w.used ≡ used_by f
      → Watches T a (after_event o.chip.core o.said w) (jobs T f (e ∷ es) c m) es o.chip o.memory w.report
  unfolding after_event
  watch_event a w f wanted on used =
      subst (λ (v : Watch). Watches T a v (jobs T f (e ∷ es) c m) es o.chip o.memory w.report) (sym (cond_no (not w.wanted) _ _ (ap not wanted)))
      (subst (λ (js : List Finished). Watches T a (kept (stands o.chip.core) (is_two o.said)) js es o.chip o.memory w.report) (sym (jobs_event f))
      (go (stands o.chip.core) (is_two o.said) refl))
    where
      follow : Bool → Bool → Followed
      follow s t = cond (not s) nothing (cond t (follows e.offset 0 0 0) f)

      kept : Bool → Bool → Watch
      kept s t = cond (not s) (watch w.wanted false 0 w.report) (cond t (watch w.wanted true 0 w.report) w)

      go : (s t : Bool) → stands o.chip.core ≡ s → Watches T a (kept s t) (jobs T (follow s t) es o.chip o.memory) es o.chip o.memory w.report
      go false t p = record { followed = nothing; keeps = record { same_on = refl; same_used = refl; there = λ h. absurd (false≢true h) }; comes_to = refl }
      go true true p = record { followed = follows e.offset 0 0 0; keeps = record { same_on = refl; same_used = refl; there = λ _. p }; comes_to = refl }
      go true false p = record { followed = f; keeps = record { same_on = on; same_used = used; there = λ _. p }; comes_to = refl }

-- what an exchange says is no verdict
pub line-not_two : (r : Record) → sort_of r ≡ Says.line → is_two r ≡ false
line-not_two Nothing e = refl
line-not_two Floating e = refl
line-not_two (Driven b) e = refl
line-not_two (Verdict v) e = absurd (false≢true (ap is_line e))
  where
    is_line : Says → Bool
    is_line Says.silent = false
    is_line Says.line = true
    is_line Says.verdict = false
line-not_two (InTheWay from to) e = refl

-- ---- what stays, and how many ticks are used

-- what holds of a watch as it was, and of any that is made of it, holds after an event that is no tick
after-event : (P : Watch → Type 0) (q : Core) (said : Record) (w : Watch) → P w → ((on : Bool) → P (watch w.wanted on 0 w.report)) → P (after_event q said w)
unfolding after_event
after-event P q said w as_it_was made =
    cond_either P (not w.wanted) _ _ (λ _. as_it_was)
    (λ _. cond_either P (not (stands q)) _ _ (λ _. made false) (λ _. cond_either P (is_two said) _ _ (λ _. made true) (λ _. as_it_was)))

-- so a report that was wanted is wanted, and no ticks are used
pub event-wanted : (q : Core) (said : Record) (w : Watch) → (after_event q said w).wanted ≡ w.wanted
event-wanted q said w = after-event (λ (v : Watch). v.wanted ≡ w.wanted) q said w refl (λ on. refl)

pub event-modest : (q : Core) (said : Record) (w : Watch) → (after_event q said w).used ≤ w.used
event-modest q said w = after-event (λ (v : Watch). v.used ≤ w.used) q said w (omega arith) (λ on. omega arith)

-- the same of n ticks
pub ticks-wanted : (a : Allowances) (k q : Core) (n t : ℕ) (w : Watch) → (after_ticks a k q n t w).wanted ≡ w.wanted
unfolding after_ticks
ticks-wanted a k q n t w =
    cond_either (λ (v : Watch). v.wanted ≡ w.wanted) (not w.on) _ _ (λ _. refl) (λ _. cond_either (λ (v : Watch). v.wanted ≡ w.wanted) (stands q) _ _ (λ _. refl) (λ _. refl))

-- n ticks use at most n
pub ticks-modest : (a : Allowances) (k q : Core) (n t : ℕ) (w : Watch) → (after_ticks a k q n t w).used ≤ w.used + n
unfolding after_ticks
ticks-modest a k q n t w =
    cond_either (λ (v : Watch). v.used ≤ w.used + n) (not w.on) _ _ (λ _. omega arith)
    (λ _. cond_either (λ (v : Watch). v.used ≤ w.used + n) (stands q) _ _ (λ _. omega arith) (λ _. omega arith))

-- where nothing is followed they leave what is watched
pub unwatched_ticks : (a : Allowances) (k q : Core) (n t : ℕ) (w : Watch) → w.on ≡ false → after_ticks a k q n t w ≡ w
unfolding after_ticks
unwatched_ticks a k q n t w off = cond_yes (not w.on) _ _ (ap not off)
