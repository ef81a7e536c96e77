-- In suspension WEN is 1, and the list of verdicts ends at 11: of any model (RULES, Verdicts).
-- There once was a verdict 12: a program or an erase in suspension, and WEN is 0. It could not fall. A job begins with WEN 1, and what clears WEN takes the job with it: its last
-- step, a reset, a power cut. A write disable is turned away, by 6 while a job runs and by 7 in suspension. A suspended state with WEN 0 is not legal, and refused by 2.
use Rattle.std.specs.Prelude.{ℕ, ◌/◌, ◌%◌, ◌≤◌, true, cond, ◌&&◌, List, [], ◌∷◌, ◌≡◌, refl, eqb, get_or, take}
use Rattle.std.proofs.Common.{arith}
use Rattle.chip.specs.declared.Chip.{Chip}
use Rattle.chip.specs.Chip.{status_byte}
use Rattle.script.specs.Script.{Event}
use Rattle.script.specs.Run.{World, world}
use Rattle.demands.specs.Model.{Reply, Model, AllGood, Fit, runs_by}
use Rattle.demands.specs.Demand1.{Runner}
use Rattle.demands.specs.Demand2.{stop_of, changes_cells}

-- ---- WEN

-- a suspended chip that some good events have led to from a legal one
pub record Reached (M : Model) (area : List ℕ) (w : World) : Type 0 where
  pub chip : Chip
  pub memory : List ℕ
  pub events : List Event
  pub fit : Fit chip memory area
  pub good : AllGood events
  pub leads : w ≡ runs_by M area events (world chip memory [] 0)
  pub suspended : w.chip.core.suspended ≡ true

-- a model with the old test put back: where a program or an erase in suspension is told 8, it is told 12
abbrev pub telling_twelve : Model → Model
telling_twelve M c m area kind body =
    let r : Reply = M c m area kind body in
    cond (c.core.suspended && changes_cells c.frame.opcode && eqb (get_or r.says 0 0) 0x82 && eqb (get_or r.says 1 0) 8)
    (record { chip = r.chip; memory = r.memory; says = 0x82 ∷ 12 ∷ []; ticks = r.ticks; refusal = r.refusal }) r

pub record KeepsWen (M : Model) : Type 0 where
  -- there WEN is 1, so that a program or an erase never meets WEN 0
  pub wen_is_on : (area : List ℕ) (w : World) → Reached M area w → w.chip.core.wen ≡ true
  -- no frame that ends there is told that WEN is missing
  pub never_eight : (area : List ℕ) (w : World) (bits : ℕ) → Reached M area w → bits ≤ 7 → (M w.chip w.memory area 0x03 bits).says ≡ 0x82 ∷ 8 ∷ [] → ⊥
  -- so the old test changes no answer, on any chip, memory, area and event: nothing was lost with it
  pub twelve_idle : (c : Chip) (m area : List ℕ) (kind body : ℕ) → telling_twelve M c m area kind body ≡ M c m area kind body
  -- a write disable is turned away at its opcode byte, by 7
  pub disable_stopped : (area : List ℕ) (w : World) → Reached M area w → stop_of w.chip.core 0x04 ≡ 7
  -- and the status byte shows WEN with SUS
  pub status_shows : (area : List ℕ) (w : World) → Reached M area w → (status_byte w.chip.core / 64 % 2 ≡ 1) × (status_byte w.chip.core / 2 % 2 ≡ 1)

-- ---- the list's end

-- bytes that are records, one behind the other, with no verdict over 11: a line that floats, a byte driven, a verdict by its number, the sectors in the way (RULES, Records)
pub data Records : List ℕ → Type 0 where
  none : Records []
  floating : (more : List ℕ) → Records more → Records (0x80 ∷ more)
  driven : (byte : ℕ) (more : List ℕ) → Records more → Records (0x81 ∷ byte ∷ more)
  verdict : (v : ℕ) (more : List ℕ) → v ≤ 11 → Records more → Records (0x82 ∷ v ∷ more)
  in_the_way_lem : (first last : ℕ) (more : List ℕ) → Records more → Records (0x83 ∷ first ∷ last ∷ more)

-- so a record that begins with 82h tells at most 11
told-most : (bytes : List ℕ) → Records bytes → get_or bytes 0 0 ≡ 0x82 → get_or bytes 1 0 ≤ 11
told-most _ none e = absurd (omega arith)
told-most _ (floating more rest) e = absurd (omega arith)
told-most _ (driven byte more rest) e = absurd (omega arith)
told-most _ (verdict v more few rest) e = few
told-most _ (in_the_way_lem first last more rest) e = absurd (omega arith)

-- and none tells 12
pub no_twelve : (more : List ℕ) → Records (0x82 ∷ 12 ∷ more) → ⊥
no_twelve more r = let few = told-most (0x82 ∷ 12 ∷ more) r refl in omega arith

-- whatever the chip, legal or not, the memory, the area and the events, what a model says is such records; and what a runner writes
pub record EndsAtEleven (M : Model) (R : Runner) : Type 0 where
  pub says : (c : Chip) (m area : List ℕ) (kind body : ℕ) → Records (M c m area kind body).says
  pub written : (c : Chip) (m area : List ℕ) (es : List Event) → Records (runs_by M area es (world c m [] 0)).written
  pub runs : (c : Chip) (m area s out : List ℕ) → Records (take (R c m area s out).written (R c m area s out).output)
