-- A run's output read back: the record at a place, and the lines of a script's records (RULES, Records; The program).
use Rattle.std.specs.Prelude.{ℕ, ◌+◌, cond, List, [], ◌∷◌, ◌++◌, eqb, length, get_or}
use Rattle.kinds.specs.Kinds.{yields}
use Rattle.chip.specs.declared.Record.{Record}
use Rattle.chip.specs.declared.Record.TheVariants.{Nothing, Floating, Driven, Verdict, InTheWay}
use Rattle.chip.specs.Record.{record_bytes}
use Rattle.script.specs.Script.{Event}
use Rattle.listing.specs.Text.{line_of}

-- the record at a place, by its first byte; no record where that is none of the four (RULES, Records)
unfoldable pub record_at : List ℕ → ℕ → Record
record_at out p =
    cond (eqb (get_or out p 0) 0x80) Floating
    (cond (eqb (get_or out p 0) 0x81) (Driven (get_or out (p + 1) 0))
    (cond (eqb (get_or out p 0) 0x82) (Verdict (get_or out (p + 1) 0))
    (cond (eqb (get_or out p 0) 0x83) (InTheWay (get_or out (p + 1) 0) (get_or out (p + 2) 0)) Nothing)))

-- the lines of some events whose records stand in the output from a place on
unfoldable pub read_lines : List Event → List ℕ → ℕ → List ℕ
read_lines [] out p = []
read_lines (e ∷ es) out p =
    cond (yields e.kind) (line_of e.offset (record_at out p) ++ read_lines es out (p + length (record_bytes (record_at out p))))
    (read_lines es out p)
