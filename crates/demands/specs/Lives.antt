-- The jobs that a margin report counts, in numbers, of the definitions themselves: which jobs are told, where each began and ended, and the ticks that it used.
-- `Reporting` uses this word; here a wrong list of jobs is noticed (RULES, The margin report).
use Rattle.std.specs.Prelude.{ℕ, ◌+◌, true, false, cond, List, [], ◌∷◌, ◌++◌, ◌≡◌, eqb, length}
use Rattle.part.specs.Part.{sectors_in, Setting}
use Rattle.kinds.specs.Kinds.{DESELECT, TICK}
use Rattle.chip.specs.declared.Chip.{Chip}
use Rattle.chip.specs.Job.{total}
use Rattle.legal.specs.Legal.{legal}
use Rattle.script.specs.Script.{Event, played}
use Rattle.script.specs.Run.{World, world, does, onward, runs}
use Rattle.script.specs.Jobs.{tick_by_tick, Finished, nothing, is_two, stands, jobs, jobs_of}

-- ---- a job's life

-- how many single ticks a row has
unfoldable pub ticks_in : List Event → ℕ
ticks_in [] = 0
ticks_in (e ∷ es) = cond (eqb e.kind TICK) 1 0 + ticks_in es

-- after each event of a row a job stands, and none of them began it
unfoldable pub Undisturbed : Setting → List Event → World → Type 0
Undisturbed T [] w = Unit {0}
Undisturbed T (e ∷ es) w = (stands (does T e w).chip.core ≡ true) × (is_two (does T e w).said ≡ false) × Undisturbed T es (onward T e w)

-- a row ends in a job's begin and what came since: a deselect at an offset that says verdict 2, and events that leave the job, so many of them ticks
pub record Since (T : Setting) (past : List Event) (w : World) (begin used : ℕ) : Type 0 where
  pub before : List Event
  pub event : Event
  pub between : List Event
  pub is_past : past ≡ before ++ (event ∷ between)
  pub begins_at : event.offset ≡ begin
  pub a_deselect : event.kind ≡ DESELECT
  pub says_two : is_two (does T event (runs T before w)).said ≡ true
  pub stands_then : stands (does T event (runs T before w)).chip.core ≡ true
  pub undisturbed : Undisturbed T between (onward T event (runs T before w))
  pub ticks_since : ticks_in between ≡ used

-- a job's life in a row: such a begin, all but the last of its ticks since, and that last one, which finds a job of its kind and leaves none
pub record Lived (T : Setting) (es : List Event) (w : World) (j : Finished) : Type 0 where
  pub past : List Event
  pub last : Event
  pub behind : List Event
  pub others : ℕ
  pub in_the_row : es ≡ past ++ (last ∷ behind)
  pub begun : Since T past w j.begin others
  pub one_more : j.used ≡ others + 1
  pub ends_at : last.offset ≡ j.end
  pub a_tick : last.kind ≡ TICK
  pub of_its_kind : (runs T past w).chip.core.job.kind ≡ j.kind
  pub over : stands (does T last (runs T past w)).chip.core ≡ false

-- ---- the list

-- a job that lived in a row is told: the jobs of the row are those of the events before its begin, it, and those of the events behind its end
pub record Told (T : Setting) (es : List Event) (w : World) (j : Finished) (l : Lived T es w j) : Type 0 where
  pub working : ℕ
  pub suspended : ℕ
  pub in_its_place :
      jobs T nothing es w.chip w.memory
      ≡ jobs T nothing l.begun.before w.chip w.memory
      ++ (record { kind = j.kind; begin = j.begin; end = j.end; used = j.used; working = working; suspended = suspended }
      ∷ jobs T nothing l.behind (onward T l.last (runs T l.past w)).chip (onward T l.last (runs T l.past w)).memory)

-- what every job of a list has
unfoldable pub AllJobs : (Finished → Type 0) → List Finished → Type 0
AllJobs P [] = Unit {0}
AllJobs P (j ∷ js) = P j × AllJobs P js

-- a job's ticks, on a part of S sectors: those that found it running are its steps, and every other one found it suspended
pub record Accounted (S : ℕ) (j : Finished) : Type 0 where
  pub all_steps : j.working ≡ total j.kind S
  pub all_ticks : j.used ≡ j.working + j.suspended

-- ---- what is true of it

-- a script's events tick by tick, and a job's life in them
abbrev pub row : List ℕ → List Event
row s = tick_by_tick (played s)

abbrev pub LivedIn : Setting → List ℕ → Chip → List ℕ → Finished → Type 0
LivedIn T s c m j = Lived T (row s) (world c m [] 0) j

-- Which jobs a script tells, and what each used (RULES, The margin report).
pub record ToldJobsInNumbers : Type 0 where
  -- tick by tick the script's run is the same run
  pub same_run : (T : Setting) (s : List ℕ) (c : Chip) (m : List ℕ) → runs T (row s) (world c m [] 0) ≡ runs T (played s) (world c m [] 0)
  -- every job that is told lived in the script: one that stood at the start, that goes on at the end, or that was dropped is not told
  pub each_lived : (T : Setting) (s : List ℕ) (c : Chip) (m : List ℕ) → AllJobs (LivedIn T s c m) (jobs_of T s c m)
  -- every job that lived in it is told, once and in its place; where none lived none is told
  pub each_told : (T : Setting) (s : List ℕ) (c : Chip) (m : List ℕ) (j : Finished) (l : LivedIn T s c m j) → Told T (row s) (world c m [] 0) j l
  pub none_told : (T : Setting) (s : List ℕ) (c : Chip) (m : List ℕ) → ((j : Finished) → LivedIn T s c m j → ⊥) → jobs_of T s c m ≡ []
  -- on a legal chip each worked as many ticks as it has steps, and used these and the ones that found it suspended
  pub each_accounted : (T : Setting) (s : List ℕ) (c : Chip) (m : List ℕ) → T.sectors ≡ sectors_in (length m) → legal c (length m) ≡ true
      → AllJobs (Accounted T.sectors) (jobs_of T s c m)
