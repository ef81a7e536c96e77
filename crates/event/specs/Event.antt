-- One event of a legal state: what it says, and the state and memory that it leaves (RULES, Events; Jobs).
use Rattle.std.specs.Prelude.{ℕ, ◌%◌, Bool, true, false, cond, List, eqb, ltb}
use Rattle.part.specs.Part.{Setting}
use Rattle.kinds.specs.Kinds.{SELECT, EXCHANGE, DESELECT, TICK, TICKS, WP, POWER, Says}
use Rattle.chip.specs.declared.Chip.{Chip}
use Rattle.chip.specs.declared.Core.{Core}
use Rattle.chip.specs.declared.Frame.{Frame}
use Rattle.chip.specs.declared.Record.{Record}
use Rattle.chip.specs.declared.Record.TheVariants.{Nothing, Floating, Driven, Verdict, InTheWay}
use Rattle.chip.specs.Fields.{with_wp, with_deep, with_armed, with_selected}
use Rattle.chip.specs.Chip.{whole, empty_frame, blank_load}
use Rattle.job.specs.Tick.{ticks_core, ticks_load, ticks_memory, worked}
use Rattle.frame.specs.Frame.{Exchange, exchanged}
use Rattle.verdict.specs.Verdict.{verdict, record_of}
use Rattle.verdict.specs.Effect.{resets, settled, held_after}

-- what an event leaves, says and works
pub record Outcome : Type 0 where
  pub chip : Chip
  pub memory : List ℕ
  pub said : Record
  pub ticks : ℕ

abbrev pub outcome : Core → Frame → List ℕ → List ℕ → List ℕ → Record → ℕ → Outcome
outcome k f load held m said ticks = record { chip = whole k f load held; memory = m; said = said; ticks = ticks }

-- the chip and the memory as they were, with something said
abbrev pub as_it_was : Chip → List ℕ → Record → Outcome
as_it_was c m said = outcome c.core c.frame c.load c.held m said 0

-- a select; one more in an open frame changes nothing
abbrev pub select : Chip → List ℕ → Outcome
select c m = outcome c.core (with_selected true c.frame) c.load c.held m Nothing 0

-- an exchange changes the frame and its load alone
abbrev pub settle_exchange : Chip → List ℕ → Exchange → Outcome
settle_exchange c m e = outcome c.core e.frame e.load c.held m e.said 0

abbrev pub exchange_byte : Setting → Chip → List ℕ → ℕ → Outcome
exchange_byte T c m b = settle_exchange c m (exchanged T c.core c.frame c.load m b)

-- a deselect, loose or not: the verdict, what it does and what is said of it, and the empty frame; with no frame open verdict 0 and no more
abbrev pub closes : Setting → Chip → List ℕ → ℕ → Outcome
closes T c m v =
    outcome (settled T.sectors c.core c.frame v) empty_frame blank_load (held_after c.frame v c.load c.held) m (record_of T.sectors c.core v) 0

abbrev pub deselect : Setting → Chip → List ℕ → Bool → Outcome
deselect T c m loose =
    cond c.frame.selected (closes T c m (verdict T.sectors c.core c.frame loose)) (as_it_was c m (Verdict 0))

-- n ticks
abbrev pub tick : Setting → Chip → List ℕ → ℕ → Outcome
tick T c m n =
    outcome (ticks_core T.sectors n c.core) c.frame c.load (ticks_load T.sectors n c.core c.held) (ticks_memory T.sectors n c.core c.held m) Nothing
    (worked T.sectors n c.core)

-- the WP pin, low at 0 and high at 1
abbrev pub set_wp : Chip → List ℕ → ℕ → Outcome
set_wp c m body = outcome (with_wp (eqb body 1) c.core) c.frame c.load c.held m Nothing 0

-- a power cut does what a reset does; besides it wakes, disarms and deselects
abbrev pub powered_up : Core → Core
powered_up k = with_deep false (with_armed false (resets k))

abbrev pub cut_power : Chip → List ℕ → Outcome
cut_power c m = outcome (powered_up c.core) empty_frame blank_load blank_load m Nothing 0

-- one event by its kind; a deselect is loose if some bits of a byte had gone in, and what is no kind does nothing
unfoldable pub applied : Setting → Chip → List ℕ → ℕ → ℕ → Outcome
applied T c m kind body =
    cond (eqb kind SELECT) (select c m)
    (cond (eqb kind EXCHANGE) (exchange_byte T c m (body % 256))
    (cond (eqb kind DESELECT) (deselect T c m (ltb 0 body))
    (cond (eqb kind TICK) (tick T c m 1)
    (cond (eqb kind TICKS) (tick T c m body)
    (cond (eqb kind WP) (set_wp c m body)
    (cond (eqb kind POWER) (cut_power c m)
    (as_it_was c m Nothing)))))))

-- what sort of thing a record says, in the words of the table of kinds (RULES, Records)
abbrev pub sort_of : Record → Says
sort_of Nothing = Says.silent
sort_of Floating = Says.line
sort_of (Driven b) = Says.line
sort_of (Verdict v) = Says.verdict
sort_of (InTheWay first last) = Says.verdict
