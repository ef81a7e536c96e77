-- A job's life in a run, from the deselect that began it to the tick that ended it: every job that is told lived so, and every job that lived so is told, once and in its place.
use Rattle.std.specs.Prelude.{ℕ, ◌+◌, ◌%◌, Bool, ◌&&◌, ◌≡◌, eqb}
use Rattle.std.proofs.Math.Bool.{true, false, cond, not}
use Rattle.std.proofs.lemmas.Bool.{false≢true}
use mathlib.Core.List.{List, [], ◌∷◌, ◌++◌, append_assoc}
use Rattle.std.proofs.Math.Path.{refl, sym, ap}
use Rattle.std.proofs.Common.{subst, ◌∙◌, add-zero, arith}
use borrow.Author.Tests.{eq-eqb, eqb-true}
use Rattle.part.specs.Part.{Setting}
use Rattle.kinds.specs.Kinds.{EXCHANGE, DESELECT, TICK, kind_row, kind_row_in}
use Rattle.chip.specs.declared.Chip.{Chip}
use Rattle.chip.specs.declared.Core.{Core}
use Rattle.chip.specs.Chip.{running}
use Rattle.event.specs.Event.{Outcome, exchange_byte, applied}
use Rattle.event.proofs.Laws.{applied-each, says-its_kind}
use Rattle.script.specs.Script.{Event, played}
use Rattle.script.specs.Run.{World, world, does, onward, runs}
use Rattle.script.specs.Jobs.{tick_by_tick, Finished, Followed, nothing, follows, tick_more, is_two, stands, followed_after, finished, ended_by, jobs}
use Rattle.script.proofs.Laws.{runs-add}
use Rattle.script.proofs.WatchLaws.{line-not_two}
use Rattle.demands.specs.Lives.{ticks_in, Undisturbed, Since, Lived, AllJobs, Told, ToldJobsInNumbers}
use Rattle.meets.specs.Reports.{jobs_each, script_job_ticks, run_tick_by_tick}

-- ---- where a job began

-- only a deselect says verdict 2
two_deselects : (T : Setting) (c : Chip) (m : List ℕ) (kind body : ℕ) → is_two (applied T c m kind body).said ≡ true → kind ≡ DESELECT
unfolding applied kind_row kind_row_in
two_deselects T c m kind body =
    applied-each T c m kind body (λ (o : Outcome). is_two o.said ≡ true → kind ≡ DESELECT)
    (λ _ two. absurd (false≢true two))
    (λ _ two. absurd (false≢true (sym (line-not_two (exchange_byte T c m (body % 256)).said (says-its_kind T c m EXCHANGE body)) ∙ two)))
    (λ is _. is)
    (λ _ two. absurd (false≢true two)) (λ _ two. absurd (false≢true two)) (λ _ two. absurd (false≢true two)) (λ _ two. absurd (false≢true two)) (λ _ two. absurd (false≢true two))

-- one event more
undisturbed_more : (T : Setting) (es : List Event) (e : Event) (w : World) → Undisturbed T es w → stands (does T e (runs T es w)).chip.core ≡ true → is_two (does T e (runs T es w)).said ≡ false
    → Undisturbed T (es ++ (e ∷ [])) w
unfolding Undisturbed runs
undisturbed_more T [] e w u there other = (there, other, tt)
undisturbed_more T (q ∷ es) e w u there other = (u.0, u.1, undisturbed_more T es e (onward T q w) u.2 there other)

-- a row with one event more has a tick more if it is one
ticks-more : (es : List Event) (e : Event) → ticks_in (es ++ (e ∷ [])) ≡ ticks_in es + cond (eqb e.kind TICK) 1 0
unfolding ticks_in
ticks-more [] e = omega arith
ticks-more (q ∷ es) e = omega (arith, ticks-more es e)

-- so it is of a job that is followed
abbrev SinceIf : Setting → List Event → World → Followed → Type 0
SinceIf T past w nothing = Unit {0}
SinceIf T past w (follows begin used working suspended) = Since T past w begin used

-- the row up to here, the chip and the memory that it leaves, and the begin of what is followed
record Reached (T : Setting) (es : List Event) (w : World) (rest : List Event) (c : Chip) (m : List ℕ) (f : Followed) : Type 0 where
  past : List Event
  split : es ≡ past ++ rest
  chip-is : (runs T past w).chip ≡ c
  memory_is : (runs T past w).memory ≡ m
  since : SinceIf T past w f

module _ (T : Setting) (es : List Event) (w : World) (e : Event) (rest : List Event) (c : Chip) (m : List ℕ) (f : Followed) (at : Reached T es w (e ∷ rest) c m f) where
  abbrev o : Outcome
  o = applied T c m e.kind e.body

  abbrev past' : List Event
  past' = at.past ++ (e ∷ [])

  -- the event in the world that those before it leave is the event here
  here : does T e (runs T at.past w) ≡ o
  here = λ i. applied T (at.chip-is i) (at.memory_is i) e.kind e.body

  -- an event that leaves the job is one more since its begin
  since_more : (begin used : ℕ) → Since T at.past w begin used → stands o.chip.core ≡ true → is_two o.said ≡ false → Since T past' w begin (used + cond (eqb e.kind TICK) 1 0)
  unfolding runs
  since_more begin used s there other =
      let same : runs T s.between (onward T s.event (runs T s.before w)) ≡ runs T at.past w = sym (ap (λ (q : List Event). runs T q w) s.is_past ∙ runs-add T s.before (s.event ∷ s.between) w) in
      record {
        before = s.before;
        event = s.event;
        between = s.between ++ (e ∷ []);
        is_past = ap (λ (q : List Event). q ++ (e ∷ [])) s.is_past ∙ append_assoc s.before (s.event ∷ s.between) (e ∷ []);
        begins_at = s.begins_at;
        a_deselect = s.a_deselect;
        says_two = s.says_two;
        stands_then = s.stands_then;
        undisturbed =
            undisturbed_more T s.between e _ s.undisturbed (ap (λ (q : World). stands (does T e q).chip.core) same ∙ ap (λ (q : Outcome). stands q.chip.core) here ∙ there)
            (ap (λ (q : World). is_two (does T e q).said) same ∙ ap (λ (q : Outcome). is_two q.said) here ∙ other);
        ticks_since = ticks-more s.between e ∙ ap (λ (n : ℕ). n + cond (eqb e.kind TICK) 1 0) s.ticks_since;
      }

  -- a verdict 2 is a begin
  since_begun : stands o.chip.core ≡ true → is_two o.said ≡ true → Since T past' w e.offset 0
  unfolding Undisturbed ticks_in
  since_begun there two =
      record {
        before = at.past;
        event = e;
        between = [];
        is_past = refl;
        begins_at = refl;
        a_deselect = two_deselects T c m e.kind e.body two;
        says_two = ap (λ (q : Outcome). is_two q.said) here ∙ two;
        stands_then = ap (λ (q : Outcome). stands q.chip.core) here ∙ there;
        undisturbed = tt;
        ticks_since = refl;
      }

  -- a tick that leaves no job is an end
  lived : (g : Followed) → SinceIf T at.past w g → eqb e.kind TICK ≡ true → stands o.chip.core ≡ false → AllJobs (Lived T es w) (finished e.offset c.core.job.kind (tick_more c.core g))
  unfolding AllJobs
  lived nothing s is gone = tt
  lived (follows begin used working suspended) s is gone = (
    record {
      past = at.past;
      last = e;
      behind = rest;
      others = used;
      in_the_row = at.split;
      begun = s;
      one_more = refl;
      ends_at = refl;
      a_tick = eqb-true _ _ is;
      of_its_kind = ap (λ (q : Chip). q.core.job.kind) at.chip-is;
      over = ap (λ (q : Outcome). stands q.chip.core) here ∙ gone;
    },
    tt,
  )

  -- what the event ends, and what is followed after it
  ends : (ticks stays : Bool) → eqb e.kind TICK ≡ ticks → stands o.chip.core ≡ stays → AllJobs (Lived T es w) (cond (ticks && not stays) (finished e.offset c.core.job.kind (tick_more c.core f)) [])
  unfolding AllJobs
  ends true true is p = tt
  ends true false is p = lived f at.since is p
  ends false stays is p = tt

  goes : (ticks stays two : Bool) → eqb e.kind TICK ≡ ticks → stands o.chip.core ≡ stays → is_two o.said ≡ two → (g : Followed) → SinceIf T at.past w g
      → SinceIf T past' w (cond (not stays) nothing (cond two (follows e.offset 0 0 0) (cond ticks (tick_more c.core g) g)))
  goes ticks false two is p q g s = tt
  goes ticks true true is p q g s = since_begun p q
  goes true true false is p q nothing s = tt
  goes true true false is p q (follows begin used working suspended) s = subst (λ (b : Bool). Since T past' w begin (used + cond b 1 0)) is (since_more begin used s p q)
  goes false true false is p q nothing s = tt
  goes false true false is p q (follows begin used working suspended) s =
      subst (Since T past' w begin) (ap (λ (b : Bool). used + cond b 1 0) is ∙ add-zero used) (since_more begin used s p q)

  -- the row up to the event behind it
  reached : Reached T es w rest o.chip o.memory (followed_after e c.core o f)
  unfolding runs
  reached =
      let next : runs T past' w ≡ onward T e (runs T at.past w) = runs-add T at.past (e ∷ []) w in
      record {
        past = past';
        split = at.split ∙ sym (append_assoc at.past (e ∷ []) rest);
        chip-is = ap (λ (v : World). v.chip) next ∙ ap (λ (q : Outcome). q.chip) here;
        memory_is = ap (λ (v : World). v.memory) next ∙ ap (λ (q : Outcome). q.memory) here;
        since = goes (eqb e.kind TICK) (stands o.chip.core) (is_two o.said) refl refl refl f at.since;
      }

-- Every job that is told lived so: from a deselect with verdict 2 to the tick that ended it, it used the ticks after the one up to and with the other. A job that stood at the start is not told.
pub job_begins : (T : Setting) (es : List Event) (w : World) → AllJobs (Lived T es w) (jobs T nothing es w.chip w.memory)
unfolding runs
job_begins T es w =
    jobs_each T (Lived T es w) (λ rest f c m. Reached T es w rest c m f)
    (λ e rest f c m at.
    (ends T es w e rest c m f at (eqb e.kind TICK) (stands (applied T c m e.kind e.body).chip.core) refl refl, reached T es w e rest c m f at))
    es nothing w.chip w.memory (record { past = []; split = refl; chip-is = refl; memory_is = refl; since = tt })

-- ---- every life is told

-- what is followed after some events
unfoldable followed_over : Setting → Followed → List Event → World → Followed
followed_over T f [] w = f
followed_over T f (e ∷ es) w = followed_over T (followed_after e w.chip.core (does T e w) f) es (onward T e w)

-- the jobs of a row in two parts
jobs-add : (T : Setting) (f : Followed) (es fs : List Event) (w : World)
    → jobs T f (es ++ fs) w.chip w.memory ≡ jobs T f es w.chip w.memory ++ jobs T (followed_over T f es w) fs (runs T es w).chip (runs T es w).memory
unfolding jobs followed_over runs
jobs-add T f [] fs w = refl
jobs-add T f (e ∷ es) fs w =
    ap (λ (js : List Finished). ended_by e w.chip.core (does T e w) f ++ js) (jobs-add T (followed_after e w.chip.core (does T e w) f) es fs (onward T e w))
    ∙ sym (append_assoc (ended_by e w.chip.core (does T e w) f) _ _)

-- an event after which a job stands ends none
ends-none : (ticks stays : Bool) (js : List Finished) → stays ≡ true → cond (ticks && not stays) js [] ≡ []
ends-none true true js there = refl
ends-none false true js there = refl
ends-none ticks false js there = absurd (false≢true there)

module _ (T : Setting) (e : Event) (rest : List Event) (w : World) where
  abbrev o₁ : Outcome
  o₁ = does T e w

  abbrev jobs_behind : Followed → List Finished
  jobs_behind f = jobs T f rest o₁.chip o₁.memory

  -- after a verdict 2 the new job is followed, whatever was before
  told_begin : (f : Followed) → stands o₁.chip.core ≡ true → is_two o₁.said ≡ true → jobs T f (e ∷ rest) w.chip w.memory ≡ jobs_behind (follows e.offset 0 0 0)
  unfolding jobs
  told_begin f there two =
      ap (λ (js : List Finished). js ++ jobs_behind (followed_after e w.chip.core o₁ f)) (ends-none (eqb e.kind TICK) (stands o₁.chip.core) _ there)
      ∙ ap jobs_behind (go (stands o₁.chip.core) (is_two o₁.said) there two)
    where
      go : (stays two : Bool) → stays ≡ true → two ≡ true
          → cond (not stays) nothing (cond two (follows e.offset 0 0 0) (cond (eqb e.kind TICK) (tick_more w.chip.core f) f)) ≡ follows e.offset 0 0 0
      go true true p q = refl
      go true false p q = absurd (false≢true q)
      go false two p q = absurd (false≢true p)

  -- an event that leaves the job leaves it followed
  told_between : (f : Followed) → stands o₁.chip.core ≡ true → is_two o₁.said ≡ false
      → jobs T f (e ∷ rest) w.chip w.memory ≡ jobs_behind (cond (eqb e.kind TICK) (tick_more w.chip.core f) f)
  unfolding jobs
  told_between f there other =
      ap (λ (js : List Finished). js ++ jobs_behind (followed_after e w.chip.core o₁ f)) (ends-none (eqb e.kind TICK) (stands o₁.chip.core) _ there)
      ∙ ap jobs_behind (go (stands o₁.chip.core) (is_two o₁.said) there other)
    where
      go : (stays two : Bool) → stays ≡ true → two ≡ false
          → cond (not stays) nothing (cond two (follows e.offset 0 0 0) (cond (eqb e.kind TICK) (tick_more w.chip.core f) f)) ≡ cond (eqb e.kind TICK) (tick_more w.chip.core f) f
      go true false p q = refl
      go true true p q = absurd (false≢true (sym q))
      go false two p q = absurd (false≢true p)

  -- a tick that leaves no job tells the one that was followed, and nothing is followed
  told_end : (f : Followed) → e.kind ≡ TICK → stands o₁.chip.core ≡ false
      → jobs T f (e ∷ rest) w.chip w.memory ≡ finished e.offset w.chip.core.job.kind (tick_more w.chip.core f) ++ jobs_behind nothing
  unfolding jobs
  told_end f tick gone = go (eqb e.kind TICK) (stands o₁.chip.core) (is_two o₁.said) (eq-eqb _ _ tick) gone
    where
      go : (ticks stays two : Bool) → ticks ≡ true → stays ≡ false
          → cond (ticks && not stays) (finished e.offset w.chip.core.job.kind (tick_more w.chip.core f)) []
          ++ jobs_behind (cond (not stays) nothing (cond two (follows e.offset 0 0 0) (cond ticks (tick_more w.chip.core f) f)))
          ≡ finished e.offset w.chip.core.job.kind (tick_more w.chip.core f) ++ jobs_behind nothing
      go true false two p q = refl
      go true true two p q = absurd (false≢true (sym q))
      go false stays two p q = absurd (false≢true p)

-- a job that is followed over some events that leave it, with their ticks
record StillFollowed (T : Setting) (f : Followed) (es rest : List Event) (w : World) (begin used : ℕ) : Type 0 where
  working : ℕ
  suspended : ℕ
  is : jobs T f (es ++ rest) w.chip w.memory ≡ jobs T (follows begin used working suspended) rest (runs T es w).chip (runs T es w).memory

-- one event more
followed_more : (T : Setting) (e : Event) (es rest : List Event) (w : World) (begin used working suspended : ℕ) → stands (does T e w).chip.core ≡ true → is_two (does T e w).said ≡ false
    → ((used working suspended : ℕ) → StillFollowed T (follows begin used working suspended) es rest (onward T e w) begin (used + ticks_in es))
    → StillFollowed T (follows begin used working suspended) (e ∷ es) rest w begin (used + (cond (eqb e.kind TICK) 1 0 + ticks_in es))
unfolding runs
followed_more T e es rest w begin used working suspended there other later = go (eqb e.kind TICK) refl
  where
    f : Followed
    f = follows begin used working suspended

    k : Core
    k = w.chip.core

    on : (b : Bool) → eqb e.kind TICK ≡ b → (n working' suspended' : ℕ) → cond b (tick_more k f) f ≡ follows begin n working' suspended' → n + ticks_in es ≡ used + (cond b 1 0 + ticks_in es)
        → StillFollowed T f (e ∷ es) rest w begin (used + (cond b 1 0 + ticks_in es))
    on b tick n working' suspended' same sum =
        let rests = later n working' suspended' in
        let v : World = onward T e w in
        record {
          working = rests.working;
          suspended = rests.suspended;
          is =
              told_between T e (es ++ rest) w f there other
              ∙ ap (λ (g : Followed). jobs T g (es ++ rest) v.chip v.memory) (ap (λ (q : Bool). cond q (tick_more k f) f) tick ∙ same)
              ∙ rests.is
              ∙ ap (λ (q : ℕ). jobs T (follows begin q rests.working rests.suspended) rest (runs T es v).chip (runs T es v).memory) sum;
        }

    go : (b : Bool) → eqb e.kind TICK ≡ b → StillFollowed T f (e ∷ es) rest w begin (used + (cond (eqb e.kind TICK) 1 0 + ticks_in es))
    go b tick = subst (λ (q : Bool). StillFollowed T f (e ∷ es) rest w begin (used + (cond q 1 0 + ticks_in es))) (sym tick) (by b tick)
      where
        by : (b : Bool) → eqb e.kind TICK ≡ b → StillFollowed T f (e ∷ es) rest w begin (used + (cond b 1 0 + ticks_in es))
        by true tick = on true tick (used + 1) _ _ refl (omega arith)
        by false tick = on false tick used working suspended refl (omega arith)

still_followed : (T : Setting) (es rest : List Event) (w : World) (begin used working suspended : ℕ) → Undisturbed T es w
    → StillFollowed T (follows begin used working suspended) es rest w begin (used + ticks_in es)
unfolding Undisturbed runs ticks_in
still_followed T [] rest w begin used working suspended u =
    record { working = working; suspended = suspended; is = ap (λ (n : ℕ). jobs T (follows begin n working suspended) rest w.chip w.memory) (sym (add-zero used)) }
still_followed T (e ∷ es) rest w begin used working suspended u =
    followed_more T e es rest w begin used working suspended u.0 u.1 (λ n working' suspended'. still_followed T es rest (onward T e w) begin n working' suspended' u.2)

-- Every job that lived in a row, from a deselect with verdict 2 to the tick that ended it, is told, once and in its place.
pub job_told : (T : Setting) (es : List Event) (w : World) (j : Finished) (l : Lived T es w j) → Told T es w j l
unfolding runs
job_told T es w j l =
    record {
      working = still.working + cond (running k) 1 0;
      suspended = still.suspended + cond k.suspended 1 0;
      in_its_place =
          ap (λ (q : List Event). jobs T nothing q w.chip w.memory) row
          ∙ jobs-add T nothing s.before (s.event ∷ (s.between ++ (l.last ∷ l.behind))) w
          ∙ ap (λ (js : List Finished). jobs T nothing s.before w.chip w.memory ++ js)
          (told_begin T s.event (s.between ++ (l.last ∷ l.behind)) w₁ _ s.stands_then s.says_two
          ∙ still.is
          ∙ ap (λ (v : World). jobs T (follows s.event.offset (0 + ticks_in s.between) still.working still.suspended) (l.last ∷ l.behind) v.chip v.memory) here
          ∙ told_end T l.last l.behind w₃ (follows s.event.offset (0 + ticks_in s.between) still.working still.suspended) l.a_tick l.over
          ∙ (λ i. record { kind = l.of_its_kind i; begin = s.begins_at i; end = l.ends_at i; used = used_is i; working = still.working + cond (running k) 1 0; suspended = still.suspended + cond k.suspended 1 0 }
          ∷ jobs T nothing l.behind (onward T l.last w₃).chip (onward T l.last w₃).memory));
    }
  where
    s : Since T l.past w j.begin l.others
    s = l.begun

    w₁ : World
    w₁ = runs T s.before w

    w₃ : World
    w₃ = runs T l.past w

    k : Core
    k = w₃.chip.core

    used_is : 0 + ticks_in s.between + 1 ≡ j.used
    used_is = omega (arith, s.ticks_since, l.one_more)

    row : es ≡ s.before ++ (s.event ∷ (s.between ++ (l.last ∷ l.behind)))
    row = l.in_the_row ∙ ap (λ (q : List Event). q ++ (l.last ∷ l.behind)) s.is_past ∙ append_assoc s.before (s.event ∷ s.between) (l.last ∷ l.behind)

    here : runs T s.between (onward T s.event w₁) ≡ w₃
    here = sym (ap (λ (q : List Event). runs T q w) s.is_past ∙ runs-add T s.before (s.event ∷ s.between) w)

    still : StillFollowed T (follows s.event.offset 0 0 0) s.between (l.last ∷ l.behind) (onward T s.event w₁) s.event.offset (0 + ticks_in s.between)
    still = still_followed T s.between (l.last ∷ l.behind) (onward T s.event w₁) s.event.offset 0 0 0 s.undisturbed

-- And where none lived none is told.
pub none_told : (T : Setting) (es : List Event) (w : World) → ((j : Finished) → Lived T es w j → ⊥) → jobs T nothing es w.chip w.memory ≡ []
unfolding AllJobs
none_told T es w none = go (jobs T nothing es w.chip w.memory) (job_begins T es w)
  where
    go : (js : List Finished) → AllJobs (Lived T es w) js → js ≡ []
    go [] all = refl
    go (j ∷ js) all = absurd (none j all.0)

-- ---- the list of jobs in numbers

-- So it is of a script: the list that `Reporting` takes as a word.
pub told-jobs_in_numbers : ToldJobsInNumbers
told-jobs_in_numbers =
    record {
      same_run = λ T s c m. run_tick_by_tick T (played s) (world c m [] 0);
      each_lived = λ T s c m. job_begins T (tick_by_tick (played s)) (world c m [] 0);
      each_told = λ T s c m. job_told T (tick_by_tick (played s)) (world c m [] 0);
      none_told = λ T s c m. none_told T (tick_by_tick (played s)) (world c m [] 0);
      each_accounted = script_job_ticks;
    }
