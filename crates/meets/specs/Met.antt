-- The hypotheses of the theorems are met: for each kind of them a closed example. Demand 3's are met in `Examples` (P5, P9) and `LifeExample` (`cut_and_ended`).
use Rattle.std.specs.Prelude.{ℕ, ◌/◌, ◌%◌, Bool, true, false, List, [], ◌∷◌, ◌++◌, ◌≡◌, refl, length, replicate}
use Rattle.std.proofs.Common.{ap, arith}
use Rattle.part.specs.Part.{permitted, sectors_in, setting}
use Rattle.part.specs.Protection.{protected_count, protected_sectors, is_protected}
use Rattle.commands.specs.Table.{row_of, row_in, fits_rule, is_read, is_program}
use Rattle.chip.specs.declared.Chip.{Chip}
use Rattle.chip.specs.declared.Core.{Core}
use Rattle.chip.specs.declared.Frame.{Frame}
use Rattle.chip.specs.declared.JobKind.{JobKind}
use Rattle.chip.specs.declared.JobKind.TheVariants.{WriteStatus, Program, SmallErase, SectorErase, ChipErase}
use Rattle.chip.specs.Fields.{with_wen, with_suspended, with_waiting, with_level, with_deep, with_armed, with_job, with_selected, with_opcode, with_place, with_count}
use Rattle.chip.specs.Chip.{whole, empty_frame, blank_load, resting, fresh}
use Rattle.legal.specs.Legal.{legal_job, legal_core, legal_frame, is_empty, is_blank, legal}
use Rattle.kinds.specs.Kinds.{SELECT, EXCHANGE, DESELECT, TICK, TICKS, WP, POWER, STAMP, known_in_script, kind_row_in, known_kind, kind_row}
use Rattle.clock.specs.Clock.{unset, moved_on, went_back}
use Rattle.job.specs.Tick.{tick_core, ticks_core, tick_load, ticks_load, tick_memory, ticks_memory, worked}
use Rattle.frame.specs.Frame.{judge, taken, exchanged}
use Rattle.verdict.specs.Verdict.{job_of, job_verdict, command_verdict, listed, verdict, record_of}
use Rattle.verdict.specs.Effect.{instantly, acted, settled, held_after}
use Rattle.event.specs.Event.{applied}
use Rattle.event.specs.Alone.{body_used, refusal, happens, answer_of, memory_of, said_of}
use Rattle.script.specs.Run.{world, runs}
use Rattle.script.specs.Run as Run
use Rattle.script.proofs.Laws.{NoStamp}
use Rattle.script.specs.Script.{Event, fault_at, event_at, walk, events_from, events, timed, played, refusal_of, first_bad, room}
use Rattle.demands.specs.Model.{ours, event, AllGood, runs_by}
use Rattle.demands.specs.Suspension.{Reached}
use Rattle.meets.specs.ProgramPiece.{frame_events}
use Rattle.demands.specs.Demand2.{Rows, stop_of, verdict_of, Quiet, Ready, FreeAt}

-- a frame of that opcode with so many bytes, selected and not judged
abbrev framed : ℕ → ℕ → Frame
framed opcode count = with_selected true (with_opcode opcode (with_count count empty_frame))

abbrev counted_to_7 : Chip
counted_to_7 = whole (fresh 0x00).core (framed 0x03 7) blank_load blank_load

-- `legal-applied`, `legal_runs`, `good_alone`: a fresh state is legal, on the smallest and on the real part
pub legal-met : (legal (fresh 0x00) 65536 ≡ true) × (legal (fresh 0xFF) 2097152 ≡ true)
unfolding legal legal_core legal_job legal_frame is_empty is_blank permitted fresh
legal-met = (refl, refl)

-- `ours_other_reads`, `ours_jobs_from_bytes`: a chip with WEN and nothing protected is ready and free at every address; `ours-stopped_frame`: FFh is stopped by 3
abbrev enabled : Chip
enabled = whole (with_wen true (fresh 0x00).core) empty_frame blank_load blank_load

pub ready_met : (m : List ℕ) → length m ≡ 65536 → Ready enabled m []
unfolding legal legal_core legal_job legal_frame is_empty is_blank permitted fresh
ready_met m long = record { quiet = record { fit = record { state_legal = ap (legal enabled) long; area_short = omega arith }; resting = refl; awake = refl; unselected = refl }; idle = refl }

pub free_met : (m : List ℕ) (A : ℕ) → length m ≡ 65536 → FreeAt enabled m A
unfolding fresh protected_sectors protected_count
free_met m A long = ap (λ (n : ℕ). is_protected 0 false (sectors_in n) (A % n / 65536)) long

pub stopped_met : (length enabled.load ≡ 256) × (enabled.core.wen ≡ true) × (stop_of enabled.core 0xFF ≡ 3)
unfolding row_of row_in
stopped_met = (refl, refl, refl)

-- `ours_cell_reads`, `ours-page_loads`: so reads and loads a chip whose program is suspended
abbrev paused : Chip
paused = whole (with_suspended true (with_job (record { kind = Program; start = 0; done = 0 }) enabled.core)) empty_frame blank_load blank_load

pub quiet_met : (m : List ℕ) → length m ≡ 65536 → Quiet paused m []
unfolding legal legal_core legal_job legal_frame is_empty is_blank permitted fresh
quiet_met m long = record { fit = record { state_legal = ap (legal paused) long; area_short = omega arith }; resting = refl; awake = refl; unselected = refl }

-- a state with a selected frame of that opcode and that read place
abbrev reading_at : ℕ → ℕ → Chip
reading_at opcode place = whole (fresh 0x00).core (with_place place (framed opcode 6)) blank_load blank_load

-- the ends of the read places: in a 5Ah frame 2^24 of them whatever the memory's length, in a 9Fh frame 4, in others the cells (RULES, Legal states)
pub places_met : (legal (reading_at 0x5A 0xFFFFFF) 65536 ≡ true) × (legal (reading_at 0x5A 0x1000000) 65536 ≡ false) × (legal (reading_at 0x5A 0x1000000) 2097152 ≡ false)
    × (legal (reading_at 0x9F 3) 65536 ≡ true) × (legal (reading_at 0x9F 4) 65536 ≡ false) × (legal (reading_at 0x0B 65535) 65536 ≡ true) × (legal (reading_at 0x0B 65536) 65536 ≡ false)
unfolding legal legal_core legal_job legal_frame is_empty is_blank permitted fresh
places_met = (refl, refl, refl, refl, refl, refl, refl)

-- `event-refused_when`: each number occurs; a byte count of 7 is in no legal frame
pub refusals_met : (refusal (fresh 0x00) 65537 0 TICK 0 ≡ 1) × (refusal (fresh 0x00) 65536 257 TICK 0 ≡ 13) × (refusal counted_to_7 65536 0 TICK 0 ≡ 2) × (refusal (fresh 0x00) 65536 0 0x0A 0 ≡ 5) × (refusal (fresh 0x00) 65536 0 EXCHANGE 256 ≡ 6) × (refusal (fresh 0x00) 65536 256 TICK 0 ≡ 0)
unfolding refusal legal legal_core legal_job legal_frame is_empty is_blank permitted fresh known_kind known_in_script kind_row kind_row_in
refusals_met = (refl, refl, refl, refl, refl, refl)

-- where several fit, 1 comes before 13, and 13 before 2, 5 and 3 (RULES, Refusals)
pub thirteen_met : (refusal counted_to_7 65537 257 0x0A 0 ≡ 1) × (refusal counted_to_7 65536 257 0x0A 0 ≡ 13) × ((Run.refusal counted_to_7 65537 257 (0x0A ∷ []) 0).number ≡ 1) × ((Run.refusal counted_to_7 65536 257 (replicate 65537 TICK) 0).number ≡ 13)
unfolding refusal Run.refusal legal legal_core legal_job legal_frame is_empty is_blank permitted fresh
thirteen_met = (refl, refl, refl, refl)

-- an event alone, by what refuses it on a fresh state of the smallest part
abbrev refuses : ℕ → ℕ → ℕ
refuses kind body = refusal (fresh 0x00) 65536 0 kind body

-- the least and the greatest body of each kind are taken, and what lies next to them is not (RULES, Events)
pub ranges_met : (refuses 0x02 0 ≡ 0) × (refuses 0x02 255 ≡ 0) × (refuses 0x02 256 ≡ 6) × (refuses 0x03 0 ≡ 0) × (refuses 0x03 7 ≡ 0) × (refuses 0x03 8 ≡ 6) × (refuses 0x03 256 ≡ 6)
    × (refuses 0x05 0 ≡ 6) × (refuses 0x05 1 ≡ 0) × (refuses 0x05 65535 ≡ 0) × (refuses 0x05 65536 ≡ 6) × (refuses 0x06 0 ≡ 0) × (refuses 0x06 1 ≡ 0) × (refuses 0x06 2 ≡ 6)
unfolding refusal legal legal_core legal_job legal_frame is_empty is_blank permitted fresh known_kind known_in_script kind_row kind_row_in
ranges_met = (refl, refl, refl, refl, refl, refl, refl, refl, refl, refl, refl, refl, refl, refl)

-- a kind without a body takes any number for one, and no number beside 1 to 7 is a kind of event, the stamp's neither, which only a script has (RULES, Events)
pub bodiless-met : (body : ℕ) → (refuses 0x01 body ≡ 0) × (refuses 0x04 body ≡ 0) × (refuses 0x07 body ≡ 0) × (refuses 0x00 body ≡ 5) × (refuses 0x08 body ≡ 5) × (refuses 0x09 body ≡ 5) × (refuses 0x0A body ≡ 5) × (refuses 0x103 body ≡ 5)
unfolding refusal legal legal_core legal_job legal_frame is_empty is_blank permitted fresh known_kind known_in_script kind_row kind_row_in
bodiless-met body = (refl, refl, refl, refl, refl, refl, refl, refl)

-- a deselect on the byte boundary, and one with three bits loose
abbrev clean : List ℕ
clean = DESELECT ∷ 0 ∷ []

abbrev loose : List ℕ
loose = DESELECT ∷ 3 ∷ []

-- `run_refused_when`: so does each number of a run; 65,537 ticks are too many bytes, and a deselect needs three of output
pub run_refusals_met : ((Run.refusal (fresh 0x00) 65537 0 [] 0).number ≡ 1) × ((Run.refusal (fresh 0x00) 65536 257 [] 0).number ≡ 13) × ((Run.refusal counted_to_7 65536 0 [] 0).number ≡ 2) × ((Run.refusal (fresh 0x00) 65536 0 (replicate 65537 TICK) 0).number ≡ 3) × ((Run.refusal (fresh 0x00) 65536 0 clean 2).number ≡ 7)
    × ((Run.refusal (fresh 0x00) 65536 256 clean 3).number ≡ 0)
unfolding Run.refusal first_bad room events_from walk fault_at legal legal_core legal_job legal_frame is_empty is_blank permitted fresh known_kind known_in_script kind_row kind_row_in
run_refusals_met = (refl, refl, refl, refl, refl, refl)

-- the room of each kind of record: two bytes for an exchange, three for a deselect, whatever its body, though verdict 0 takes two of them (RULES, Records; Refusals)
pub room-met : ((Run.refusal (fresh 0x00) 65536 0 (EXCHANGE ∷ 0x00 ∷ []) 1).number ≡ 7) × ((Run.refusal (fresh 0x00) 65536 0 (EXCHANGE ∷ 0x00 ∷ []) 2).number ≡ 0) × ((Run.refusal (fresh 0x00) 65536 0 loose 2).number ≡ 7)
    × ((Run.refusal (fresh 0x00) 65536 0 loose 3).number ≡ 0) × ((m : List ℕ) → (runs (setting 1 []) (played clean) (world (fresh 0x00) m [] 0)).written ≡ 0x82 ∷ 0 ∷ [])
unfolding Run.refusal runs timed applied first_bad room events_from walk fault_at legal legal_core legal_job legal_frame is_empty is_blank permitted fresh known_kind known_in_script kind_row kind_row_in
room-met = (refl, refl, refl, refl, λ m. refl)

-- `pieces`, `first_bad_decides`: a script without a bad event and without a stamp, and one for each fault
pub scripts_met : ((first_bad unset (events (SELECT ∷ EXCHANGE ∷ 0x06 ∷ clean))).number ≡ 0) × ((first_bad unset (events (TICK ∷ EXCHANGE ∷ []))).number ≡ 4) × ((first_bad unset (events (TICK ∷ 8 ∷ []))).number ≡ 5) × ((first_bad unset (events (WP ∷ 2 ∷ []))).number ≡ 6)
    × NoStamp (events (SELECT ∷ EXCHANGE ∷ 0x06 ∷ clean))
unfolding NoStamp first_bad events_from walk fault_at known_kind known_in_script kind_row kind_row_in
scripts_met = (refl, refl, refl, refl, (refl, (refl, (refl, tt))))

-- what refuses a script, with its offset
abbrev Bad : List ℕ → ℕ → ℕ → Type 0
Bad s number offset = first_bad unset (events s) ≡ refusal_of number offset

-- a deselect in a script: as the last byte 4, with eight bits 6, with seven good; 08h is 5, and as the last byte too; 03h 03h is one deselect; a script from before, without
-- the bodies, ends inside its last deselect (RULES, Old scripts)
pub deselects-met : Bad (TICK ∷ DESELECT ∷ []) 4 1 × Bad (TICK ∷ DESELECT ∷ 8 ∷ []) 6 1 × Bad (TICK ∷ DESELECT ∷ 7 ∷ []) 0 0 × Bad (TICK ∷ 8 ∷ 3 ∷ []) 5 1 × Bad (TICK ∷ 8 ∷ []) 5 1
    × (length (events (DESELECT ∷ DESELECT ∷ [])) ≡ 1) × Bad (SELECT ∷ EXCHANGE ∷ 0x06 ∷ DESELECT ∷ SELECT ∷ EXCHANGE ∷ 0x05 ∷ EXCHANGE ∷ 0x00 ∷ DESELECT ∷ []) 4 9
unfolding first_bad events_from walk fault_at known_kind known_in_script kind_row kind_row_in
deselects-met = (refl, refl, refl, refl, refl, refl, refl)

-- a write enable that ends loose is verdict 4, on the boundary 1; a status read is verdict 0 either way (RULES, Verdicts)
abbrev says : List ℕ → List ℕ → List ℕ
says s m = (runs (setting 1 []) (played s) (world (fresh 0x00) m [] 0)).written

pub loose-met : (m : List ℕ)
    → (says (SELECT ∷ EXCHANGE ∷ 0x06 ∷ loose) m ≡ 0x80 ∷ 0x82 ∷ 4 ∷ []) × (says (SELECT ∷ EXCHANGE ∷ 0x06 ∷ clean) m ≡ 0x80 ∷ 0x82 ∷ 1 ∷ [])
    × (says (SELECT ∷ EXCHANGE ∷ 0x05 ∷ loose) m ≡ 0x80 ∷ 0x82 ∷ 0 ∷ []) × (says (SELECT ∷ EXCHANGE ∷ 0x05 ∷ clean) m ≡ 0x80 ∷ 0x82 ∷ 0 ∷ [])
unfolding runs timed applied exchanged taken judge row_of row_in fits_rule is_read is_program verdict record_of listed command_verdict job_of settled acted instantly held_after fresh events_from walk fault_at known_kind known_in_script kind_row kind_row_in
loose-met m = (refl, refl, refl, refl)

-- `room_cut`, `bad_first`: two pieces for which an output has room, one by one, and has none for the whole; a piece that ends in an event, which the next completes
pub cut-met : ((Run.refusal (fresh 0x00) 65536 0 clean 3).number ≡ 0) × ((Run.refusal (fresh 0x00) 65536 0 (clean ++ clean) 3).number ≡ 7) × ((first_bad unset (events (TICK ∷ EXCHANGE ∷ []))).number ≡ 4) × ((first_bad unset (events (TICK ∷ EXCHANGE ∷ 0x06 ∷ []))).number ≡ 0)
unfolding Run.refusal first_bad room events_from walk fault_at legal legal_core legal_job legal_frame is_empty is_blank permitted fresh known_kind known_in_script kind_row kind_row_in
cut-met = (refl, refl, refl, refl)

-- the table of kinds, worked through on bytes: each kind once, its ticks 102h with the high byte first (RULES, Events)
abbrev each_kind : List ℕ
each_kind = 0x01 ∷ 0x02 ∷ 0x9F ∷ 0x03 ∷ 0x07 ∷ 0x04 ∷ 0x05 ∷ 0x01 ∷ 0x02 ∷ 0x06 ∷ 0x01 ∷ 0x07 ∷ []

-- nothing is wrong with its seven events; it has an exchange to say, of two bytes, and a deselect, of three (RULES, Refusals)
pub kinds_met : ((first_bad unset (events each_kind)).number ≡ 0) × (length (events each_kind) ≡ 7) × (room (events each_kind) ≡ 5) × ((event_at each_kind 6).body ≡ 258)
unfolding first_bad room events_from walk fault_at known_kind known_in_script kind_row kind_row_in
kinds_met = (refl, refl, refl, refl)

-- ---- stamps (RULES, Stamps)

-- a stamp of these two bytes, and so many ticks at an offset
abbrev stamp : ℕ → ℕ → List ℕ
stamp high low = STAMP ∷ high ∷ low ∷ []

abbrev ticked : ℕ → ℕ → Event
ticked offset n = record { offset = offset; kind = TICKS; body = n; fault = 0 }

-- the first stamp gives no tick, and an equal one neither; FFFEh and then 0003h are five ticks, at the second stamp's offset; from 0 to 7FFFh is the longest way, 32,767 ticks; a
-- power cut between two stamps does not touch the clock
abbrev TicksGiven : Type 0
TicksGiven =
    Rows
    ((played (stamp 0x12 0x34) ≡ [])
    ∷ (played (stamp 0x12 0x34 ++ stamp 0x12 0x34) ≡ [])
    ∷ (played (stamp 0xFF 0xFE ++ stamp 0x00 0x03) ≡ ticked 3 5 ∷ [])
    ∷ (played (stamp 0x00 0x00 ++ stamp 0x7F 0xFF) ≡ ticked 3 32767 ∷ [])
    ∷ (played (stamp 0x00 0x00 ++ (POWER ∷ stamp 0x00 0x05)) ≡ record { offset = 3; kind = POWER; body = 0; fault = 0 } ∷ ticked 4 5 ∷ [])
    ∷ [])

-- good are a roll-over and a move of 32,767; one of 32,768 is 8, at the offset of the stamp's kind byte, and so is one back by one, also after a power cut; a stamp that the script
-- ends in is 4, though the part of it that is there would have gone back
abbrev StampsRefused : Type 0
StampsRefused =
    Rows
    (Bad (stamp 0xFF 0xFE ++ stamp 0x00 0x03) 0 0
    ∷ Bad (stamp 0x00 0x00 ++ stamp 0x7F 0xFF) 0 0
    ∷ Bad (stamp 0x00 0x00 ++ stamp 0x80 0x00) 8 3
    ∷ Bad (TICK ∷ (stamp 0x00 0x05 ++ stamp 0x00 0x04)) 8 4
    ∷ Bad (stamp 0x00 0x05 ++ (POWER ∷ stamp 0x00 0x04)) 8 4
    ∷ Bad (stamp 0x00 0x05 ++ (STAMP ∷ 0x00 ∷ [])) 4 3
    ∷ [])

-- alone a stamp is 5, whatever its body is; and in a script it asks for no room
pub stamps_met : TicksGiven × StampsRefused × ((body : ℕ) → refuses STAMP body ≡ 5) × (room (events (stamp 0x12 0x34)) ≡ 0)
unfolding timed moved_on went_back first_bad room events_from walk fault_at refusal legal legal_core legal_job legal_frame is_empty is_blank permitted fresh known_kind known_in_script kind_row kind_row_in
stamps_met = ((refl, (refl, (refl, (refl, (refl, tt))))), (refl, (refl, (refl, (refl, (refl, (refl, tt)))))), λ body. refl, refl)

-- ---- verdicts 1 and 2

-- a core at rest with WEN; one with a job at step 0, running, waiting to be suspended, or suspended; one asleep; one armed
abbrev core_with_wen : Core
core_with_wen = with_wen true resting

abbrev busy : JobKind → Core
busy kind = with_job (record { kind = kind; start = 0; done = 0 }) core_with_wen

abbrev waiting : JobKind → Core
waiting kind = with_waiting true (busy kind)

abbrev held_up : JobKind → Core
held_up kind = with_suspended true (busy kind)

abbrev asleep : Core
asleep = with_deep true resting

abbrev armed : Core → Core
armed = with_armed true

-- on a memory of 65,536 cells a legal state with this core and a frame of that opcode and so many bytes; its deselect on the byte boundary has this verdict
abbrev Gives : ℕ → Core → ℕ → ℕ → Type 0
Gives number k opcode count = (legal (whole k (framed opcode count) blank_load blank_load) 65536 ≡ true) × (verdict_of 65536 k (framed opcode count) 0 ≡ number)

-- `DoneAtOnce`, `JobsBegun`: each command comes to its verdict 1 or 2 (RULES, Verdicts)
abbrev IsAtOnce : Type 0
IsAtOnce =
    Rows
    (Gives 1 resting 0x06 1
    ∷ Gives 1 resting 0x04 1
    ∷ Gives 1 (busy SmallErase) 0xB0 1
    ∷ Gives 1 (held_up SmallErase) 0x30 1
    ∷ Gives 1 asleep 0xAB 1
    ∷ Gives 1 resting 0xB9 1
    ∷ Gives 1 resting 0x66 1
    ∷ Gives 1 (armed resting) 0x99 1
    ∷ [])

abbrev Begun : Type 0
Begun =
    Rows
    (Gives 2 core_with_wen 0x01 2
    ∷ Gives 2 core_with_wen 0x02 5
    ∷ Gives 2 core_with_wen 0x0A 5
    ∷ Gives 2 core_with_wen 0x20 4
    ∷ Gives 2 core_with_wen 0xD7 4
    ∷ Gives 2 core_with_wen 0xD8 4
    ∷ Gives 2 core_with_wen 0x60 1
    ∷ Gives 2 core_with_wen 0xC7 1
    ∷ [])

-- a suspended job can be reset; in suspension programs and erases begin, or are told 9 where all is protected, and a write disable is turned away (RULES, Verdicts)
abbrev Suspended : Type 0
Suspended =
    Rows
    (Gives 1 (armed (held_up Program)) 0x99 1
    ∷ Gives 2 (held_up Program) 0x20 4
    ∷ Gives 2 (held_up SmallErase) 0x02 5
    ∷ Gives 2 (held_up SectorErase) 0x60 1
    ∷ Gives 9 (with_level 7 (held_up ChipErase)) 0xD8 4
    ∷ Gives 7 (held_up Program) 0x04 1
    ∷ [])

-- in the wait a second suspend finds nothing, a resume, a write disable and a read of cells are turned away, and a reset is done; a suspend whose frame the tick came into
-- finds the job suspended, or over (RULES, Verdicts)
abbrev Waiting : Type 0
Waiting =
    Rows
    (Gives 11 (waiting SmallErase) 0xB0 1
    ∷ Gives 6 (waiting SmallErase) 0x30 1
    ∷ Gives 6 (waiting SmallErase) 0x04 1
    ∷ Gives 6 (waiting SmallErase) 0x03 5
    ∷ Gives 1 (armed (waiting Program)) 0x99 1
    ∷ Gives 7 (held_up SmallErase) 0xB0 1
    ∷ Gives 11 resting 0xB0 1
    ∷ [])

pub verdicts_met : IsAtOnce × Begun × Suspended × Waiting
unfolding row_of row_in fits_rule protected_sectors protected_count legal legal_core legal_job legal_frame is_empty is_blank permitted
verdicts_met = (
  ((refl, refl), ((refl, refl), ((refl, refl), ((refl, refl), ((refl, refl), ((refl, refl), ((refl, refl), ((refl, refl), tt)))))))),
  ((refl, refl), ((refl, refl), ((refl, refl), ((refl, refl), ((refl, refl), ((refl, refl), ((refl, refl), ((refl, refl), tt)))))))),
  ((refl, refl), ((refl, refl), ((refl, refl), ((refl, refl), ((refl, refl), ((refl, refl), tt)))))),
  ((refl, refl), ((refl, refl), ((refl, refl), ((refl, refl), ((refl, refl), ((refl, refl), ((refl, refl), tt))))))),
)

-- whether this core may stand, with no frame open (RULES, Legal states)
abbrev Stands : Core → Bool → Type 0
Stands k may = legal (whole k empty_frame blank_load blank_load) 65536 ≡ may

-- which states may wait: those with a program or an erase that runs, and no other
pub waits_met : Rows
    (Stands (waiting Program) true
    ∷ Stands (waiting SmallErase) true
    ∷ Stands (waiting SectorErase) true
    ∷ Stands (waiting ChipErase) true
    ∷ Stands (waiting (WriteStatus 0)) false
    ∷ Stands (with_suspended true (waiting Program)) false
    ∷ Stands (with_waiting true core_with_wen) false
    ∷ [])
unfolding legal legal_core legal_job legal_frame is_empty is_blank permitted
waits_met = (refl, (refl, (refl, (refl, (refl, (refl, (refl, tt)))))))

-- ---- WEN in suspension

-- no suspended state may stand without WEN
pub lacking_met : Rows
    (Stands (with_wen false (held_up Program)) false
    ∷ Stands (with_wen false (held_up SmallErase)) false
    ∷ Stands (with_wen false (held_up SectorErase)) false
    ∷ Stands (with_wen false (held_up ChipErase)) false
    ∷ [])
unfolding legal legal_core legal_job legal_frame is_empty is_blank permitted
lacking_met = (refl, (refl, (refl, (refl, tt))))

-- `Reached`, which `keeps_wen` is about: a small sector erase is suspended in the tick after B0h, on a fresh chip that has seen 06h, 20h and B0h
abbrev suspending : List Event
suspending = frame_events (0x06 ∷ []) ++ (frame_events (0x20 ∷ 0 ∷ 0 ∷ 0 ∷ []) ++ (frame_events (0xB0 ∷ []) ++ (event 0x04 0 ∷ [])))

abbrev zeros : List ℕ
zeros = replicate 65536 0

pub reached_met : Reached ours [] (runs_by ours [] suspending (world (fresh 0x00) zeros [] 0))
unfolding answer_of memory_of said_of happens refusal body_used runs_by AllGood legal legal_core legal_job legal_frame is_empty is_blank permitted fresh known_kind kind_row kind_row_in applied exchanged taken judge row_of row_in is_program verdict record_of listed is_read command_verdict job_verdict job_of fits_rule settled acted held_after instantly protected_sectors protected_count ticks_core tick_core tick_load ticks_load tick_memory ticks_memory worked
reached_met =
    record {
      chip = fresh 0x00;
      memory = zeros;
      events = suspending;
      fit = record { state_legal = refl; area_short = omega arith };
      good = ((refl, refl), ((refl, refl), ((refl, refl), ((refl, refl), ((refl, refl), ((refl, refl), ((refl, refl), ((refl, refl), ((refl, refl), ((refl, refl), ((refl, refl), ((refl, refl), ((refl, refl), tt)))))))))))));
      leads = refl;
      suspended = refl;
    }
