-- The answers to an event and to a run as plain numbers, with the memory and the output afterwards, and an SFDP area's (RULES, Events; Refusals; The SFDP area).
use Rattle.std.specs.Prelude.{ℕ, cond, not, List, ◌++◌, eqb, ltb, length, take, replicate}
use Rattle.part.specs.Part.{permitted}
use Rattle.part.specs.Area.{longest_area}
use Rattle.chip.specs.declared.Record.{Record}
use Rattle.chip.specs.declared.Record.TheVariants.{Nothing}
use Rattle.chip.specs.Record.{record_bytes, longest_record}
use Rattle.event.specs.Alone.{Answer}
use Rattle.event.specs.Alone as alone
use Rattle.script.specs.Run.{Ran}
use Rattle.margins.specs.declared.Allowances.{Allowances}
use Rattle.margins.specs.declared.Report.{Report}
use Rattle.margins.specs.Margins.{allowed}
use Rattle.script.specs.Run as script
use Rattle.script.specs.Report as script-report
use Rattle.sfdp.specs.Reader.{Found}
use Rattle.boundary.specs.declared.ChipNumbers.{ChipNumbers}
use Rattle.boundary.specs.declared.EventNumbers.{EventNumbers}
use Rattle.boundary.specs.declared.RunNumbers.{RunNumbers}
use Rattle.writer.specs.Writer.{Written}
use Rattle.boundary.specs.declared.TableNumbers.{TableNumbers}
use Rattle.boundary.specs.declared.WrittenNumbers.{WrittenNumbers}
use Rattle.boundary.specs.declared.AreaNumbers.{AreaNumbers}
use Rattle.boundary.specs.Numbers.{is_state, chip_of, numbers_of}

-- the bytes of a record, with zeros up to the longest
abbrev pub padded : Record → List ℕ
padded said = take longest_record (record_bytes said ++ replicate longest_record 0)

-- numbers that are no state are refused by 2, after 1 and 13; n is the memory's length, extent the area's (RULES, Legal states)
unfoldable pub no_state : ℕ → ℕ → ℕ
no_state n extent = cond (not (permitted n)) 1 (cond (ltb longest_area extent) 13 2)

-- ---- one event

-- refused, the numbers are those given, to the last one; done, they are the new chip's
abbrev pub refused_event : ChipNumbers → ℕ → EventNumbers
refused_event given number = record { chip = given; refusal = number; size = 0; bytes = padded Nothing; ticks = 0 }

abbrev pub done_event : Answer → EventNumbers
done_event a = record { chip = numbers_of a.chip; refusal = 0; size = length (record_bytes a.said); bytes = padded a.said; ticks = a.ticks }

-- the answer of an event on the chip that the numbers given mean
unfoldable pub event_numbers : ChipNumbers → Answer → EventNumbers
event_numbers given a = cond (eqb a.refusal 0) (done_event a) (refused_event given a.refusal)

-- the whole answer, and the memory afterwards
unfoldable pub event_of : ChipNumbers → List ℕ → List ℕ → ℕ → ℕ → EventNumbers
event_of c m area kind body =
    cond (is_state c) (event_numbers c (alone.answer_of (chip_of c) m area kind body)) (refused_event c (no_state (length m) (length area)))

unfoldable pub event_memory : ChipNumbers → List ℕ → List ℕ → ℕ → ℕ → List ℕ
event_memory c m area kind body = cond (is_state c) (alone.memory_of (chip_of c) m area kind body) m

-- ---- a run

-- the same of a run
abbrev pub refused_run : ChipNumbers → ℕ → ℕ → RunNumbers
refused_run given number offset = record { chip = given; refusal = number; offset = offset; written = 0; ticks = 0 }

abbrev pub done_run : Ran → RunNumbers
done_run a = record { chip = numbers_of a.chip; refusal = 0; offset = 0; written = a.written; ticks = a.ticks }

-- the answer of a run on that chip
unfoldable pub run_numbers : ChipNumbers → Ran → RunNumbers
run_numbers given a = cond (eqb a.refusal 0) (done_run a) (refused_run given a.refusal a.offset)

-- the whole answer, and the memory and the output afterwards
unfoldable pub run_of : ChipNumbers → List ℕ → List ℕ → List ℕ → List ℕ → RunNumbers
run_of c m area s out =
    cond (is_state c) (run_numbers c (script.answer_of (chip_of c) m area s out)) (refused_run c (no_state (length m) (length area)) 0)

unfoldable pub run_memory : ChipNumbers → List ℕ → List ℕ → List ℕ → List ℕ → List ℕ
run_memory c m area s out = cond (is_state c) (script.memory_of (chip_of c) m area s out) m

unfoldable pub run_output : ChipNumbers → List ℕ → List ℕ → List ℕ → List ℕ → List ℕ
run_output c m area s out = cond (is_state c) (script.output_of (chip_of c) m area s out) out

-- ---- a run with a margin report

-- which number refuses numbers that are no state: an allowance out of range before all else
unfoldable pub no_state_report : Allowances → ℕ → ℕ → ℕ
no_state_report a n extent = cond (allowed a) (no_state n extent) 18

-- the whole answer, the memory, the output and the report afterwards
unfoldable pub report_run_of : Allowances → ChipNumbers → List ℕ → List ℕ → List ℕ → List ℕ → RunNumbers
report_run_of a c m area s out =
    cond (is_state c) (run_numbers c (script-report.answer_with a (chip_of c) m area s out)) (refused_run c (no_state_report a (length m) (length area)) 0)

unfoldable pub report_memory : Allowances → ChipNumbers → List ℕ → List ℕ → List ℕ → List ℕ → List ℕ
report_memory a c m area s out = cond (is_state c) (script-report.memory_with a (chip_of c) m area s out) m

unfoldable pub report_output : Allowances → ChipNumbers → List ℕ → List ℕ → List ℕ → List ℕ → List ℕ
report_output a c m area s out = cond (is_state c) (script-report.output_with a (chip_of c) m area s out) out

unfoldable pub report_numbers : Allowances → Report → ChipNumbers → List ℕ → List ℕ → List ℕ → List ℕ → Report
report_numbers a r c m area s out = cond (is_state c) (script-report.report_of a r (chip_of c) m area s out) r

-- ---- an SFDP area

-- what the reader finds, and the bytes of an area (RULES, The SFDP area)
abbrev pub table_numbers : Found → TableNumbers
table_numbers f = record { refusal = f.refusal; place = f.place; length = f.length }

abbrev pub area_numbers : List ℕ → AreaNumbers
area_numbers area = record { bytes = area }

-- ---- the script writer

-- what the writer answers (RULES, The script writer)
abbrev pub written_numbers : Written → WrittenNumbers
written_numbers w = record { refusal = w.refusal; written = w.written }
