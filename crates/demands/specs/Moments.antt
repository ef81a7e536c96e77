-- The demands at one moment: single clauses of them, by name, for one verdict or one k. Each follows from its demand. `refuted` shows which of them a wrong model fails.
use Rattle.std.specs.Prelude.{ℕ, true, false, List, [], ◌∷◌, ◌≡◌, refl, eqb, length, get_or}
use Rattle.std.proofs.Common.{sym, ap, ◌∙◌, add-zero, arith}
use Rattle.cells.specs.Choice.{cond_either}
use Rattle.part.specs.Part.{sectors_in}
use Rattle.chip.specs.declared.Chip.{Chip}
use Rattle.chip.specs.declared.Core.{Core}
use Rattle.chip.specs.declared.JobKind.{JobKind}
use Rattle.chip.specs.Fields.{with_armed}
use Rattle.chip.specs.Job.{steps, whole_image}
use Rattle.script.specs.Script.{Event}
use Rattle.script.specs.Run.{World}
use Rattle.demands.specs.Model.{Model, Good, AllGood, Fit, does_by, runs_by, working_ticks, worked_by}
use Rattle.demands.specs.Demand2.{Ending, verdict_of, says_verdict, Quiet, Ready, CellReads, StatusRead, StoppedFrame, DoneAtOnce, JobsBegun, JobsFromBytes, Demand2}
use Rattle.demands.specs.Demand3.{Started, Ticking, TicksKeep, Spared, steps_of, Demand3}

-- ---- Demand 2

-- a frame to which the list gives verdict v is told v; verdict 9 by the sectors that were in the way
abbrev pub Demand2Gives : ℕ → Model → Type 0
Demand2Gives v M =
    (c : Chip) (m area : List ℕ) (bits : ℕ) → Ending c m area bits → verdict_of (length m) c.core c.frame bits ≡ v
    → (M c m area 0x03 bits).says ≡ says_verdict (length m) c.core v

pub gives : (M : Model) (v : ℕ) → Demand2 M → Demand2Gives v M
gives M v d c m area bits e is = (d.closes c m area bits e).says ∙ ap (says_verdict (length m) c.core) is

-- 82h and a number say that verdict and no other
pub verdict-told : (n : ℕ) (k : Core) (v u : ℕ) → says_verdict n k v ≡ 0x82 ∷ u ∷ [] → v ≡ u
verdict-told n k v u =
    cond_either (λ (says : List ℕ). says ≡ 0x82 ∷ u ∷ [] → v ≡ u) (eqb v 9) _ _
    (λ _ e. let longer : ◌≡◌ {A = ℕ} 3 2 = ap length e in absurd (omega arith)) (λ _ e. ap (λ (says : List ℕ). get_or says 1 0) e)

-- what verdict 1 does, and what verdict 2 does
abbrev pub Demand2Does : Model → Type 0
Demand2Does M = DoneAtOnce M

abbrev pub Demand2Begins : Model → Type 0
Demand2Begins M = JobsBegun M

-- verdict v leaves WEN, if v is neither 1 nor 2
abbrev pub Demand2LeavesWen : ℕ → Model → Type 0
Demand2LeavesWen v M =
    (c : Chip) (m area : List ℕ) (bits : ℕ) → Ending c m area bits → verdict_of (length m) c.core c.frame bits ≡ v
    → (M c m area 0x03 bits).chip.core.wen ≡ c.core.wen

pub leaves_wen : (M : Model) (v : ℕ) → (v ≡ 1 → ⊥) → (v ≡ 2 → ⊥) → Demand2 M → Demand2LeavesWen v M
leaves_wen M v not_one not-two d c m area bits e is =
    let says = gives M v d c m area bits e is in
    ap (λ (k : Core). k.wen)
    (d.other_verdicts c m area bits e (λ one. not_one (verdict-told (length m) c.core v 1 (sym says ∙ one))) (λ two. not-two (verdict-told (length m) c.core v 2 (sym says ∙ two)))).0
    ∙ cond_either (λ (k : Core). k.wen ≡ c.core.wen) (eqb c.frame.count 0) c.core (with_armed false c.core) (λ _. refl) (λ _. refl)

-- reads of cells, loads and their jobs, and frames that are stopped
abbrev pub Demand2Reads : Model → Type 0
Demand2Reads M = (c : Chip) (m area : List ℕ) → Quiet c m area → CellReads M c m area

abbrev pub Demand2Loads : Model → Type 0
Demand2Loads M = (c : Chip) (m area : List ℕ) → Ready c m area → c.core.wen ≡ true → JobsFromBytes M c m area

abbrev pub Demand2Stops : Model → Type 0
Demand2Stops M = StoppedFrame M

-- status reads
abbrev pub Demand2Status : Model → Type 0
Demand2Status M = StatusRead M

-- ---- Demand 3

-- the start
abbrev pub Demand3Starts : Model → Type 0
Demand3Starts M =
    (c : Chip) (m area : List ℕ) (bits : ℕ) → Ending c m area bits → (M c m area 0x03 bits).says ≡ 0x82 ∷ 2 ∷ [] → Started c m (M c m area 0x03 bits)

-- at k: exactly k steps are laid on the memory
abbrev pub Demand3At : ℕ → Model → Type 0
Demand3At k M =
    (area : List ℕ) (kind : JobKind) (start : ℕ) (held : List ℕ) (d : ℕ) (w : World) (es : List Event) → Spared M area kind start held d w es → worked_by M area es w ≡ k
    → (runs_by M area es w).memory ≡ steps kind start held d k w.memory

pub at-k : (M : Model) (k : ℕ) → Demand3 M → Demand3At k M
at-k M k d area kind start held from w es s is = (d.lives area kind start held from w es s).memory_is ∙ ap (λ (n : ℕ). steps kind start held from n w.memory) is

-- the end image
abbrev pub Demand3End : Model → Type 0
Demand3End M =
    (area : List ℕ) (kind : JobKind) (start : ℕ) (held : List ℕ) (w : World) (es : List Event) → Spared M area kind start held 0 w es → worked_by M area es w ≡ steps_of kind w
    → (runs_by M area es w).memory ≡ whole_image kind (sectors_in (length w.memory)) start held w.memory

pub at-end : (M : Model) → Demand3 M → Demand3End M
at-end M d area kind start held w es s all = (d.lives area kind start held 0 w es s).whole_image_lem refl all

-- what ticks leave, and what becomes of SUS and the mark
abbrev pub Demand3Keeps : Model → Type 0
Demand3Keeps M = (c : Chip) (m area : List ℕ) (kind body n : ℕ) → Fit c m area → Ticking kind body n → TicksKeep c m (M c m area kind body)

-- the count of an event
abbrev pub Demand3Counts : Model → Type 0
Demand3Counts M = (area : List ℕ) (e : Event) (w : World) → Fit w.chip w.memory area → Good e → (does_by M area e w).ticks ≡ working_ticks w e

-- and that it is the number of steps in memory
abbrev pub Demand3Reports : Model → Type 0
Demand3Reports M =
    (area : List ℕ) (kind : JobKind) (start : ℕ) (held : List ℕ) (d : ℕ) (w : World) (e : Event) → Spared M area kind start held d w (e ∷ [])
    → (does_by M area e w).memory ≡ steps kind start held d (does_by M area e w).ticks w.memory

pub reports : (M : Model) → Demand3 M → Demand3Reports M
unfolding runs_by worked_by AllGood
reports M d area kind start held from w e s =
    (d.lives area kind start held from w (e ∷ []) s).memory_is
    ∙ ap (λ (n : ℕ). steps kind start held from n w.memory) (add-zero (working_ticks w e) ∙ sym (d.counts area e w s.under_way.fit s.good.0))
