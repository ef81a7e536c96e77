-- What the program prints for a script: the definition, from the run and not from its output's bytes (RULES, The program).
use Rattle.std.specs.Prelude.{ℕ, ◌*◌, cond, List, [], ◌∷◌, ◌++◌, eqb, ltb, length, replicate}
use Rattle.part.specs.Part.{sector, Setting, setting_of}
use Rattle.kinds.specs.Kinds.{yields}
use Rattle.chip.specs.declared.Chip.{Chip}
use Rattle.chip.specs.Chip.{fresh}
use Rattle.chip.specs.Record.{longest_record}
use Rattle.script.specs.Script.{Event, played}
use Rattle.script.specs.Run.{Ran, World, world, does, onward, answer_of}
use Rattle.listing.specs.Text.{line_of, part_line, done_line, refused_line, too_long}

-- the longest script that is run (RULES, The program)
abbrev pub longest_script : ℕ
longest_script = 4096

-- the room for its records: the longest record for each of its bytes, though an event that says something has two (`program-refusals`)
abbrev pub output_room : ℕ
output_room = longest_record * longest_script

-- the room for what is printed of it: for each of its bytes more than the longest line, and so room for the first line and the last (`report_fits`)
abbrev pub text_room : ℕ
text_room = 16 * longest_script

-- a line for each record, as the events happen; ticks have no record and so no line, whether an event or a stamp gives them (RULES, The program)
unfoldable pub lines_of : Setting → List Event → World → List ℕ
lines_of T [] w = []
lines_of T (e ∷ es) w = cond (yields e.kind) (line_of e.offset (does T e w).said) [] ++ lines_of T es (onward T e w)

-- what follows line 1: the records' lines and the last line, or the refusal (RULES, The program)
unfoldable pub answer_text : List ℕ → ℕ → ℕ → ℕ → List ℕ
answer_text lines refusal offset ticks = cond (eqb refusal 0) (lines ++ done_line ticks) (refused_line refusal offset)

-- the program's part has an empty SFDP area, so that 5Ah drives FFh (RULES, The program)
abbrev pub program_area : List ℕ
program_area = []

-- the text of a run of s on a chip c and a memory m, with an output `out` lent: the lines are those of the events that the run applies
unfoldable pub run_text : Chip → List ℕ → List ℕ → List ℕ → List ℕ
run_text c m s out =
    let r : Ran = answer_of c m program_area s out in
    part_line (length m) ++ answer_text (lines_of (setting_of (length m) program_area) (played s) (world c m [] 0)) r.refusal r.offset r.ticks

-- a script on a blank part of one sector, fresh from status 00h, with the longest record's room for each of its bytes (RULES, The program)
unfoldable pub report_of : List ℕ → List ℕ
report_of s =
    cond (ltb longest_script (length s)) too_long (run_text (fresh 0) (replicate sector 255) s (replicate output_room 0))
