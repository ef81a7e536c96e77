-- Worked examples of 5Ah, proved of the definitions: each a claim, all of them rows under one theorem, `sfdp_examples`.
use Rattle.std.specs.Prelude.{ℕ, List, [], ◌∷◌, ◌++◌, ◌≡◌, refl, get_or, replicate}
use Rattle.part.specs.Part.{setting}
use Rattle.part.specs.Area.{own_area}
use Rattle.kinds.specs.Kinds.{SELECT, DESELECT, TICK, known_in_script, kind_row_in, known_kind, kind_row}
use Rattle.commands.specs.Table.{row_of, row_in, fits_rule, is_read, is_program}
use Rattle.part.specs.Protection.{protected_count, protected_sectors}
use Rattle.chip.specs.Chip.{fresh}
use Rattle.frame.specs.Frame.{judge, taken, exchanged}
use Rattle.job.specs.Tick.{tick_core, ticks_core}
use Rattle.verdict.specs.Verdict.{job_of, job_verdict, command_verdict, listed, verdict, record_of}
use Rattle.verdict.specs.Effect.{instantly, acted, settled, held_after}
use Rattle.event.specs.Event.{applied}
use Rattle.script.specs.Script.{fault_at, walk, events_from, timed, played}
use Rattle.script.specs.Run.{world, runs}
use Rattle.meets.specs.Examples.{exchanges, frame}

-- what a script writes on a fresh part of S sectors with an area
abbrev pub written_on : ℕ → List ℕ → List ℕ → List ℕ → List ℕ
written_on S area s m = (runs (setting S area) (played s) (world (fresh 0x00) m [] 0)).written

-- a 5Ah frame at an address of three bytes, with a dummy and n bytes read; and what it writes if these bytes are driven
abbrev pub sfdp_frame : ℕ → ℕ → ℕ → ℕ → List ℕ
sfdp_frame high middle low n = frame (0x5A ∷ high ∷ middle ∷ low ∷ 0x00 ∷ replicate n 0x00)

abbrev pub driven : List ℕ → List ℕ
driven [] = 0x82 ∷ 0x00 ∷ []
driven (b ∷ bs) = 0x81 ∷ b ∷ driven bs

abbrev pub shows : List ℕ → List ℕ
shows bs = 0x80 ∷ 0x80 ∷ 0x80 ∷ 0x80 ∷ 0x80 ∷ driven bs

-- Q1: the first 16 bytes of the part's own area (README)
abbrev pub Q1 : Type 0
Q1 =
    (m : List ℕ)
    → written_on 1 own_area (sfdp_frame 0x00 0x00 0x00 16) m
    ≡ shows (0x53 ∷ 0x46 ∷ 0x44 ∷ 0x50 ∷ 0x05 ∷ 0x01 ∷ 0x02 ∷ 0xFF ∷ 0x00 ∷ 0x00 ∷ 0x01 ∷ 0x10 ∷ 0x40 ∷ 0x00 ∷ 0x00 ∷ 0xFF ∷ [])

q1 : Q1
unfolding runs timed events_from walk fault_at known_kind known_in_script kind_row kind_row_in applied exchanged taken judge fresh row_of row_in is_program verdict record_of listed is_read settled acted held_after own_area
q1 m = refl

-- Q2: after FFFFFFh, where the area has no byte, comes its byte 0
abbrev pub Q2 : Type 0
Q2 = (m : List ℕ) → written_on 32 own_area (sfdp_frame 0xFF 0xFF 0xFF 3) m ≡ shows (0xFF ∷ 0x53 ∷ 0x46 ∷ [])

q2 : Q2
unfolding runs timed events_from walk fault_at known_kind known_in_script kind_row kind_row_in applied exchanged taken judge fresh row_of row_in is_program verdict record_of listed is_read settled acted held_after own_area
q2 m = refl

-- Q3: the last byte of the longest area, and past it FFh; of an empty one FFh from its byte 0 on
abbrev pub Q3 : Type 0
Q3 = (m : List ℕ) → (written_on 1 (replicate 256 0x11) (sfdp_frame 0x00 0x00 0xFF 2) m ≡ shows (0x11 ∷ 0xFF ∷ [])) × (written_on 1 [] (sfdp_frame 0x00 0x00 0x00 2) m ≡ shows (0xFF ∷ 0xFF ∷ []))

q3 : Q3
unfolding runs timed events_from walk fault_at known_kind known_in_script kind_row kind_row_in applied exchanged taken judge fresh row_of row_in is_program verdict record_of listed is_read settled acted held_after
q3 m = (refl, refl)

-- Q4: an address past the memory's end is not carried over: on one sector 010000h is no place of the area, where a read of cells there drives cell 0
abbrev pub Q4 : Type 0
Q4 =
    (m : List ℕ)
    → (written_on 1 own_area (sfdp_frame 0x01 0x00 0x00 1) m ≡ shows (0xFF ∷ []))
    × (written_on 1 own_area (frame (0x0B ∷ 0x01 ∷ 0x00 ∷ 0x00 ∷ 0x00 ∷ 0x00 ∷ [])) m ≡ shows (get_or m 0 0 ∷ []))

q4 : Q4
unfolding runs timed events_from walk fault_at known_kind known_in_script kind_row kind_row_in applied exchanged taken judge fresh row_of row_in is_program verdict record_of listed is_read settled acted held_after own_area
q4 m = (refl, refl)

-- Q5: asleep the frame is 5, while a job runs 6, also while it waits to be suspended, and once it is suspended 7, and it floats; loose it is 0
abbrev pub erases : List ℕ
erases = frame (0x06 ∷ []) ++ frame (0x20 ∷ 0x00 ∷ 0x00 ∷ 0x00 ∷ [])

abbrev pub begun : List ℕ
begun = 0x80 ∷ 0x82 ∷ 1 ∷ 0x80 ∷ 0x80 ∷ 0x80 ∷ 0x80 ∷ 0x82 ∷ 2 ∷ []

abbrev pub floats : ℕ → List ℕ
floats v = replicate 6 0x80 ++ (0x82 ∷ v ∷ [])

abbrev pub Q5 : Type 0
Q5 =
    (m : List ℕ)
    → (written_on 1 own_area (frame (0xB9 ∷ []) ++ sfdp_frame 0x00 0x00 0x00 1) m ≡ 0x80 ∷ 0x82 ∷ 1 ∷ floats 5)
    × (written_on 1 own_area (erases ++ sfdp_frame 0x00 0x00 0x00 1) m ≡ begun ++ floats 6)
    × (written_on 1 own_area (erases ++ (frame (0xB0 ∷ []) ++ sfdp_frame 0x00 0x00 0x00 1)) m ≡ begun ++ (0x80 ∷ 0x82 ∷ 1 ∷ floats 6))
    × (written_on 1 own_area (erases ++ (frame (0xB0 ∷ []) ++ (TICK ∷ sfdp_frame 0x00 0x00 0x00 1))) m ≡ begun ++ (0x80 ∷ 0x82 ∷ 1 ∷ floats 7))
    × (written_on 1 own_area (SELECT ∷ (exchanges (0x5A ∷ 0x00 ∷ []) ++ (DESELECT ∷ 3 ∷ []))) m ≡ 0x80 ∷ 0x80 ∷ 0x82 ∷ 0 ∷ [])

q5 : Q5
unfolding runs timed events_from walk fault_at known_kind known_in_script kind_row kind_row_in applied exchanged taken judge fresh row_of row_in is_program verdict record_of listed is_read command_verdict job_verdict job_of fits_rule settled acted held_after instantly protected_sectors protected_count ticks_core tick_core own_area
q5 m = (refl, refl, refl, refl, refl)

-- The worked examples of 5Ah hold.
pub sfdp_examples : Q1 × Q2 × Q3 × Q4 × Q5
sfdp_examples = (q1, q2, q3, q4, q5)
