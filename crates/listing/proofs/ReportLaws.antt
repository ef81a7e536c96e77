-- What is true of what the program prints: each way that it goes, with the lines read from the run's output.
use Rattle.std.specs.Prelude.{ℕ, zero, suc, ◌<◌, ◌≤◌, false, List, [], ◌++◌, ◌≡◌, refl, eqb, length, drop, replicate}
use Rattle.std.proofs.Common.{sym, ap, ◌∙◌, arith, ne_eqb, lt-ltb, le-ltb}
use Rattle.cells.specs.Choice.{cond_yes, cond_no}
use Rattle.part.specs.Part.{sector, setting_of}
use Rattle.chip.specs.declared.Chip.{Chip}
use Rattle.chip.specs.Chip.{fresh}
use Rattle.clock.specs.Clock.{unset}
use Rattle.refusal.specs.Table.{number_of}
use Rattle.refusal.specs.Laws.{refused as is_told}
use Rattle.script.specs.declared.Done.{Done}
use Rattle.script.specs.declared.Refused.{Refused}
use Rattle.script.specs.Script.{events, played}
use Rattle.script.specs.Run.{Ran, world, refusal, told, finished, refused, world_after, answer_of, output_of}
use Rattle.script.proofs.Laws.{answer_number, output_done}
use Rattle.listing.specs.Text.{part_line, done_line, refused_line, too_long}
use Rattle.listing.specs.Output.{read_lines}
use Rattle.listing.proofs.OutputLaws.{read-lines, read-timed}
use Rattle.listing.specs.Report.{lines_of, answer_text, program_area, run_text, longest_script, output_room, report_of}

-- ---- the lines of a run

-- the lines that are read from the output of a run that is done, by the script as it is written, are those of the events that it applied
pub read-run : (c : Chip) (m area s out : List ℕ) → (answer_of c m area s out).refusal ≡ 0
    → read_lines (events s) (output_of c m area s out) 0 ≡ lines_of (setting_of (length m) area) (played s) (world c m [] 0)
unfolding world_after
read-run c m area s out h =
    let ok : (refusal c (length m) (length area) s (length out)).number ≡ 0 = sym (answer_number c m area s out) ∙ h in
    sym (read-timed unset (events s) (output_of c m area s out) 0)
    ∙ ap (λ (o : List ℕ). read_lines (played s) o 0) (output_done c m area s out ok)
    ∙ read-lines (setting_of (length m) area) (drop (length (world_after c m area s).written) out) (played s) (world c m [] 0)

-- ---- the text of a run

-- the records' lines matter only where nothing is refused
answer_lines : (lines lines' : List ℕ) (refusal offset ticks : ℕ) → (refusal ≡ 0 → lines ≡ lines') → answer_text lines refusal offset ticks ≡ answer_text lines' refusal offset ticks
unfolding answer_text
answer_lines lines lines' zero offset ticks same = ap (λ (l : List ℕ). l ++ done_line ticks) (same refl)
answer_lines lines lines' (suc n) offset ticks same = let some : eqb (suc n) 0 ≡ false = ne_eqb (suc n) 0 (λ e. omega arith) in cond_no _ _ _ some ∙ sym (cond_no _ _ _ some)

-- the text of a run, from its answer and its output
pub text_run : (c : Chip) (m s out : List ℕ) (r : Ran) (out' : List ℕ) → r ≡ answer_of c m program_area s out → out' ≡ output_of c m program_area s out
    → run_text c m s out ≡ part_line (length m) ++ answer_text (read_lines (events s) out' 0) r.refusal r.offset r.ticks
unfolding run_text
text_run c m s out r out' is e =
    let lines : List ℕ = lines_of (setting_of (length m) program_area) (played s) (world c m [] 0) in
    ap (λ (a : Ran). part_line (length m) ++ answer_text lines a.refusal a.offset a.ticks) (sym is)
    ∙ ap (λ (t : List ℕ). part_line (length m) ++ t)
    (answer_lines lines (read_lines (events s) out' 0) r.refusal r.offset r.ticks
    (λ ok. sym (ap (λ (o : List ℕ). read_lines (events s) o 0) e ∙ read-run c m program_area s out (ap (λ (a : Ran). a.refusal) (sym is) ∙ ok))))

-- the same of a run that is done
pub text_done : (c : Chip) (m s out : List ℕ) (d : Done) (out' : List ℕ) → finished d.chip d.written d.ticks ≡ answer_of c m program_area s out → out' ≡ output_of c m program_area s out
    → run_text c m s out ≡ part_line (length m) ++ (read_lines (events s) out' 0 ++ done_line d.ticks)
unfolding answer_text
text_done c m s out d out' is e = text_run c m s out _ out' is e

-- and of one that is refused
pub text_refused : (c : Chip) (m s out : List ℕ) (e : Refused) (out' : List ℕ) → refused c (told e) ≡ answer_of c m program_area s out → out' ≡ output_of c m program_area s out
    → run_text c m s out ≡ part_line (length m) ++ refused_line (number_of e.refusal) e.offset
unfolding answer_text
text_refused c m s out e out' is same = text_run c m s out _ out' is same ∙ ap (λ (t : List ℕ). part_line (length m) ++ t) (cond_no _ _ _ (is_told e.refusal))

-- ---- what the program prints

pub report_long : (s : List ℕ) → longest_script < length s → report_of s ≡ too_long
unfolding report_of
report_long s h = cond_yes _ _ _ (lt-ltb _ _ h)

pub report_run : (s : List ℕ) → length s ≤ longest_script → report_of s ≡ run_text (fresh 0) (replicate sector 255) s (replicate output_room 0)
unfolding report_of
report_run s h = cond_no _ _ _ (le-ltb _ _ h)
