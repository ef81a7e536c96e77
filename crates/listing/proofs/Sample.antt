-- Scripts and what is printed for them, by the definition: the sample that the program is run on, an empty area, a protected sector, stamps, and a refusal (RULES, The program; Protection; Stamps; Refusals).
use Rattle.std.specs.Prelude.{[], ◌∷◌, ◌≡◌, refl}
use Rattle.part.specs.Part.{permitted}
use Rattle.part.specs.Protection.{protected_count, protected_sectors}
use Rattle.commands.specs.Table.{row_in, row_of, fits_rule, is_read, is_program}
use Rattle.kinds.specs.Kinds.{known_in_script, kind_row_in, kind_row}
use Rattle.chip.specs.Chip.{fresh, status_byte}
use Rattle.legal.specs.Legal.{legal_job, legal_core, legal_frame, is_empty, is_blank, legal}
use Rattle.job.specs.Tick.{tick_core, ticks_core, worked}
use Rattle.frame.specs.Frame.{judge, taken, exchanged}
use Rattle.verdict.specs.Verdict.{job_of, job_verdict, command_verdict, listed, verdict, record_of}
use Rattle.verdict.specs.Effect.{instantly, acted, settled}
use Rattle.event.specs.Event.{applied}
use Rattle.clock.specs.Clock.{moved_on, went_back}
use Rattle.script.specs.Script.{fault_at, walk, events_from, timed, first_bad, room}
use Rattle.script.specs.Run.{runs, refusal, world_after, answer_of}
use Rattle.listing.specs.Text.{ascii, spelled, line_of, part_line, done_line, refused_line}
use Rattle.listing.specs.Report.{lines_of, answer_text, run_text, report_of}

-- a write enable, and the status read after it: the program's own sample (crates/hoilapeku/stdin)
pub sample : report_of (0x01 ∷ 0x02 ∷ 0x06 ∷ 0x03 ∷ 0x00 ∷ 0x01 ∷ 0x02 ∷ 0x05 ∷ 0x02 ∷ 0x00 ∷ 0x03 ∷ 0x00 ∷ []) ≡ ascii "part 65536\n1 --\n3 V1\n6 --\n8 02\n10 V0\nanswer 0 ticks 0\n"
unfolding permitted row_in row_of fits_rule is_read is_program known_in_script kind_row_in kind_row fresh status_byte legal_job legal_core legal_frame is_empty is_blank legal judge taken exchanged job_of job_verdict command_verdict listed verdict record_of instantly acted settled applied fault_at walk events_from timed first_bad room runs refusal world_after answer_of spelled line_of part_line done_line lines_of answer_text run_text report_of
sample = refl

-- 5Ah at 000000h, one byte: the program's area is empty
pub sfdp_empty : report_of (0x01 ∷ 0x02 ∷ 0x5A ∷ 0x02 ∷ 0x00 ∷ 0x02 ∷ 0x00 ∷ 0x02 ∷ 0x00 ∷ 0x02 ∷ 0x00 ∷ 0x02 ∷ 0x00 ∷ 0x03 ∷ 0x00 ∷ []) ≡ ascii "part 65536\n1 --\n3 --\n5 --\n7 --\n9 --\n11 FF\n13 V0\nanswer 0 ticks 0\n"
unfolding permitted row_in row_of is_read is_program known_in_script kind_row_in kind_row fresh legal_job legal_core legal_frame is_empty is_blank legal judge taken exchanged listed verdict record_of acted settled applied fault_at walk events_from timed first_bad room runs refusal world_after answer_of spelled line_of part_line done_line lines_of answer_text run_text report_of
sfdp_empty = refl

-- level 1 protects the one sector that there is: a page program and a chip erase both get verdict 9, with that sector at either end
pub protected :
    report_of
    (0x01 ∷ 0x02 ∷ 0x06 ∷ 0x03 ∷ 0x00
    ∷ 0x01 ∷ 0x02 ∷ 0x01 ∷ 0x02 ∷ 0x04 ∷ 0x03 ∷ 0x00 ∷ 0x04
    ∷ 0x01 ∷ 0x02 ∷ 0x06 ∷ 0x03 ∷ 0x00
    ∷ 0x01 ∷ 0x02 ∷ 0x02 ∷ 0x02 ∷ 0x00 ∷ 0x02 ∷ 0x00 ∷ 0x02 ∷ 0x00 ∷ 0x02 ∷ 0x5A ∷ 0x03 ∷ 0x00
    ∷ 0x01 ∷ 0x02 ∷ 0x60 ∷ 0x03 ∷ 0x00 ∷ [])
    ≡ ascii "part 65536\n1 --\n3 V1\n6 --\n8 --\n10 V2\n14 --\n16 V1\n19 --\n21 --\n23 --\n25 --\n27 --\n29 V9 0 0\n32 --\n34 V9 0 0\nanswer 0 ticks 1\n"
unfolding permitted protected_count protected_sectors row_in row_of fits_rule is_read is_program known_in_script kind_row_in kind_row fresh legal_job legal_core legal_frame is_empty is_blank legal tick_core ticks_core worked judge taken exchanged job_of job_verdict command_verdict listed verdict record_of instantly acted settled applied fault_at walk events_from timed first_bad room runs refusal world_after answer_of spelled line_of part_line done_line lines_of answer_text run_text report_of
protected = refl

-- a write enable, the stamps 0000h and 0005h, and a status read: a stamp has no line, and its ticks do no work where there is no job
pub stamped :
    report_of (0x01 ∷ 0x02 ∷ 0x06 ∷ 0x03 ∷ 0x00 ∷ 0x09 ∷ 0x00 ∷ 0x00 ∷ 0x09 ∷ 0x00 ∷ 0x05 ∷ 0x01 ∷ 0x02 ∷ 0x05 ∷ 0x02 ∷ 0x00 ∷ 0x03 ∷ 0x00 ∷ [])
    ≡ ascii "part 65536\n1 --\n3 V1\n12 --\n14 02\n16 V0\nanswer 0 ticks 0\n"
unfolding permitted row_in row_of fits_rule is_read is_program known_in_script kind_row_in kind_row moved_on went_back fresh status_byte legal_job legal_core legal_frame is_empty is_blank legal tick_core ticks_core worked judge taken exchanged job_of job_verdict command_verdict listed verdict record_of instantly acted settled applied fault_at walk events_from timed first_bad room runs refusal world_after answer_of spelled line_of part_line done_line lines_of answer_text run_text report_of
stamped = refl

-- a tick, and then a kind that there is not: 08h, which was one once (RULES, Old scripts)
pub refused : report_of (0x04 ∷ 0x08 ∷ 0x03 ∷ []) ≡ ascii "part 65536\nanswer 5 at 1\n"
unfolding permitted known_in_script kind_row_in kind_row fresh legal_job legal_core legal_frame is_empty is_blank legal fault_at walk events_from first_bad refusal answer_of spelled part_line refused_line answer_text run_text report_of
refused = refl

-- the stamps 0005h and 0000h: the counter went back
pub went_back_lem : report_of (0x09 ∷ 0x00 ∷ 0x05 ∷ 0x09 ∷ 0x00 ∷ 0x00 ∷ []) ≡ ascii "part 65536\nanswer 8 at 3\n"
unfolding permitted known_in_script kind_row_in kind_row moved_on went_back fresh legal_job legal_core legal_frame is_empty is_blank legal fault_at walk events_from first_bad refusal answer_of spelled part_line refused_line answer_text run_text report_of
went_back_lem = refl
