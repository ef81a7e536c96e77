-- Each wrong model of `Wrong` is refuted by a demand. A demand is asked at one closed moment, and what it says there computes to something false of that model.
use Rattle.std.specs.Prelude.{ℕ, zero, suc, ◌%◌, ◌≤◌, true, false, cond, List, [], ◌∷◌, ◌++◌, ◌≡◌, refl, eqb, length, get_or, replicate}
use Rattle.std.proofs.lemmas.Bool.{false≢true}
use Rattle.std.proofs.Common.{sym, ap, ◌∙◌, arith}
use Rattle.cells.specs.Cells.{sweep, image, image_from}
use Rattle.part.specs.Part.{permitted}
use Rattle.part.specs.Protection.{protected_count, protected_sectors}
use Rattle.commands.specs.Table.{row_of, row_in, fits_rule, is_read, is_program}
use Rattle.kinds.specs.Kinds.{known_in_script, kind_row_in, known_kind, kind_row, in_range}
use Rattle.chip.specs.declared.Chip.{Chip}
use Rattle.chip.specs.declared.Core.{Core}
use Rattle.chip.specs.declared.Frame.{Frame}
use Rattle.chip.specs.declared.JobKind.TheVariants.{Program, SmallErase}
use Rattle.chip.specs.Fields.{with_wen, with_suspended, with_waiting, with_level, with_srwp, with_wp, with_armed, with_job}
use Rattle.chip.specs.Job.{is_job}
use Rattle.chip.specs.Chip.{whole, resting, empty_frame, blank_load, running, status_byte}
use Rattle.legal.specs.Legal.{legal_job, legal_core, legal_frame, is_empty, is_blank, legal}
use Rattle.job.specs.Tick.{tick_core, ticks_core, tick_load, ticks_load, tick_memory, ticks_memory, worked}
use Rattle.frame.specs.Frame.{judge, taken, exchanged}
use Rattle.verdict.specs.Verdict.{job_of, job_verdict, command_verdict, listed, verdict, record_of}
use Rattle.verdict.specs.Effect.{instantly, acted, settled, held_after}
use Rattle.event.specs.Event.{applied}
use Rattle.event.specs.Alone.{body_used, refusal, happens, answer_of, memory_of, said_of}
use Rattle.clock.specs.declared.Clock.{Clock}
use Rattle.clock.specs.Clock.{unset, moved_on, went_back}
use Rattle.script.specs.Script.{Event, fault_at, event_at, walk, events_from, events, clock_after, clock_over, given, timed, fault_by, Refusal, refusal_of, first_bad, room}
use Rattle.script.specs.Run.{World, world}
use Rattle.script.specs.Run as Run
use Rattle.demands.specs.Model.{Model, ours, event, sends, address, Good, AllGood, Fit, onward_by, runs_by, worked_by}
use Rattle.demands.specs.Demand1.{Demand1, RunReply, Runner, our_run, AllSound, room_needed, Heard, BackAt, Demand1Run}
use Rattle.demands.specs.Moments.{Demand2Gives, Demand2Does, Demand2Begins, Demand2LeavesWen, Demand2Reads, Demand2Loads, Demand2Stops, Demand2Status, Demand3Starts, Demand3At, Demand3End, Demand3Counts, Demand3Keeps, Demand3Reports}
use Rattle.demands.specs.Demand2.{Ending, Quiet, Ready, AllInside, bytes_of, AllBytes, SaysStatus}
use Rattle.demands.specs.Demand3.{Spares, AllSpare, one_tick_lem, Spared}
use Rattle.demands.specs.Suspension.{Reached, KeepsWen, EndsAtEleven, no_twelve}
use Rattle.refuted.specs.Wrong.{ignores_all, refuses_events, refuses_commands, reads_blank, ticks_idle, whole_job_at_once, invents_ticks, lays_from_page_start, lays_from_address, stores_bytes, nine_ten_cost_wen, spoilt_loads, answers_late, keeps_nine, swaps_ends, ends_late, tells_target, chip_erase_tells_all, deselects, two_a_deselect, suspends_at_once, wait_uncounted, waits_two, shows_sus_early, suspends_twice, mark_survives_reset, mark_survives_end, disables_in_suspension, suspending_costs_wen, turns_away, writes_twelve, boundary_is_loose, takes_eight, cuts_the_body, knows08h, bodied, body_uncounted, answering, first_bad_by, timed_by, clocked, first_stamp_ticks, clock_dies_with_power, takes_half_way, never_rolls_over, knows09h_alone, first_reads, first_loads, second_loads, second_wen, third_erases, third_suspends}

-- ---- the moments

-- a memory of one sector whose cells hold this
abbrev cells : ℕ → List ℕ
cells x = replicate 65536 x

-- a frame of that opcode and address, with so many bytes
abbrev sent : ℕ → ℕ → ℕ → Frame
sent opcode address count = record { selected = true; opcode = opcode; address = address; place = 0; slot = 0; count = count; judgement = 0 }

-- chips: with no frame; in the middle of one
abbrev unselected : Core → Chip
unselected k = whole k empty_frame blank_load blank_load

abbrev within : Core → Frame → Chip
within k f = whole k f blank_load blank_load

-- cores: WEN on; a small sector erase at address 0, this many steps done; a program at address 0
abbrev enabled : Core
enabled = with_wen true resting

abbrev erasing : ℕ → Core
erasing d = with_job (record { kind = SmallErase; start = 0; done = d }) enabled

abbrev programming : Core
programming = with_job (record { kind = Program; start = 0; done = 0 }) enabled

-- a load of 0Fh
abbrev low : List ℕ
low = replicate 256 0x0F

-- worlds: an erase begun on a memory of zeros; a program of 0Fh begun on a memory of F0h
abbrev erasure : World
erasure = world (unselected (erasing 0)) (cells 0) [] 0

abbrev program : World
program = world (whole programming empty_frame blank_load low) (cells 0xF0) [] 0

-- chips at a deselect: 06h; 20h; 20h and 02h where all is protected; 01h where the status is locked; B0h in an erase
abbrev enabling : Chip
enabling = within resting (sent 0x06 0 1)

abbrev beginning : Chip
beginning = within enabled (sent 0x20 0 4)

abbrev protected : ℕ → ℕ → Chip
protected opcode count = within (with_level 7 enabled) (sent opcode 0 count)

abbrev locked : Chip
locked = within (with_srwp true (with_wp false enabled)) (sent 0x01 0xFF 2)

abbrev suspending : Chip
suspending = within (erasing 1) (sent 0xB0 0 1)

-- 260 data bytes, byte j worth j mod 251
abbrev counted : ℕ → ℕ → List ℕ
counted j zero = []
counted j (suc n) = j % 251 ∷ counted (suc j) n

all-bytes : (j n : ℕ) → AllBytes (counted j n)
unfolding AllBytes
all-bytes j zero = tt
all-bytes j (suc n) = (omega arith, all-bytes (suc j) n)

-- ---- with which nothing is wrong

fitting : (c : Chip) (x : ℕ) → legal c 65536 ≡ true → Fit c (cells x) []
fitting c x l = record { state_legal = ap (legal c) (length_cells x) ∙ l; area_short = omega arith }
  where
    length_cells : (x : ℕ) → length (cells x) ≡ 65536
    length_cells x = refl

ending : (c : Chip) → legal c 65536 ≡ true → c.frame.selected ≡ true → Ending c (cells 0) [] 0
ending c l s = record { fit = fitting c 0 l; selected = s; few = omega arith }

quiet : (k : Core) → legal (unselected k) 65536 ≡ true → running k ≡ false → k.deep ≡ false → Quiet (unselected k) (cells 0) []
quiet k l r d = record { fit = fitting (unselected k) 0 l; resting = r; awake = d; unselected = refl }

ready : Ready (unselected enabled) (cells 0) []
unfolding legal legal_core legal_job legal_frame is_empty is_blank permitted
ready = record { quiet = quiet enabled refl refl refl; idle = refl }

-- an event to which a model says this spares the job, if this is no verdict 2 and no done reset's
spared_so : (M : Model) (e : Event) (w : World) (says : List ℕ) → (e.kind ≡ 0x07 → ⊥) → (M w.chip w.memory [] e.kind e.body).says ≡ says → (says ≡ 0x82 ∷ 1 ∷ [] → w.chip.frame.opcode ≡ 0x99 → ⊥)
    → (says ≡ 0x82 ∷ 2 ∷ [] → ⊥) → Spares M [] e w
spared_so M e w says no_cut is not-reset begins_none = record { no_power_cut = no_cut; no_reset = λ x. not-reset (sym is ∙ x); begins_none = λ x. begins_none (sym is ∙ x) }

-- records that are the same have the same bytes, and silence is no record
first_byte : {t t' : ℕ} {r r' : List ℕ} → t ∷ r ≡ t' ∷ r' → t ≡ t'
first_byte e = ap (λ (says : List ℕ). get_or says 0 0) e

second_byte : {t t' v v' : ℕ} → t ∷ v ∷ [] ≡ t' ∷ v' ∷ [] → v ≡ v'
second_byte e = ap (λ (says : List ℕ). get_or says 1 0) e

silent : {t : ℕ} {r : List ℕ} → [] ≡ t ∷ r → ⊥
silent e = absurd (omega (arith, ap (λ (says : List ℕ). length says) e))

-- ticks to which a model says nothing spare every job
ticks-spare : (M : Model) (n : ℕ) (w : World) → (M w.chip w.memory [] 0x05 n).says ≡ [] → Spares M [] (event 0x05 n) w
ticks-spare M n w is = spared_so M (event 0x05 n) w [] (λ e. omega arith) is (λ e o. silent e) silent

-- n ticks of the erase, and of the program
erasure-ticked : (M : Model) (n : ℕ) → in_range 0x05 n ≡ true → (M erasure.chip erasure.memory [] 0x05 n).says ≡ [] → Spared M [] SmallErase 0 blank_load 0 erasure (event 0x05 n ∷ [])
unfolding legal legal_core legal_job legal_frame is_empty is_blank permitted AllGood AllSpare known_kind known_in_script kind_row kind_row_in
erasure-ticked M n ranged is =
    record {
      under_way = record { fit = fitting (unselected (erasing 0)) 0 refl; a_job = refl; job_is = refl; load_is = refl };
      good = ((refl, ranged), tt);
      spared = (ticks-spare M n erasure is, tt);
    }

program-ticked : (M : Model) (n : ℕ) → in_range 0x05 n ≡ true → (M program.chip program.memory [] 0x05 n).says ≡ [] → Spared M [] Program 0 low 0 program (event 0x05 n ∷ [])
unfolding legal legal_core legal_job legal_frame is_empty is_blank permitted AllGood AllSpare known_kind known_in_script kind_row kind_row_in
program-ticked M n ranged is =
    record {
      under_way = record { fit = fitting program.chip 0xF0 refl; a_job = refl; job_is = refl; load_is = refl };
      good = ((refl, ranged), tt);
      spared = (ticks-spare M n program is, tt);
    }

-- ---- models that are wrong as a whole

pub record WrongAsAWhole : Type 0 where
  -- a write enable is done, and WEN is not set; an erase is begun, and is not there
  pub ignores_all_lem : Demand2Does ignores_all → ⊥
  pub ignores_jobs : Demand2Begins ignores_all → ⊥
  -- a tick on a resting chip is refused; a write enable gets no verdict at all
  pub refuses_events_lem : Demand1 refuses_events → ⊥
  pub refuses_deselects : Demand2Gives 1 refuses_events → ⊥
  -- a write enable gets verdict 3 and not 1; an erase 3 and not 2
  pub refuses_commands_lem : Demand2Gives 1 refuses_commands → ⊥
  pub refuses_jobs : Demand2Gives 2 refuses_commands → ⊥
  -- cell 0 of a memory of zeros is driven as FFh
  pub reads_blank_lem : Demand2Reads reads_blank → ⊥
  -- at k = 1 no cell has changed; nor has one at the end
  pub ticks_idle_lem : Demand3At 1 ticks_idle → ⊥
  pub ticks_idle_image : Demand3End ticks_idle → ⊥
  -- at k = 1 the second step's cells have changed
  pub whole_job_at_once_lem : Demand3At 1 whole_job_at_once → ⊥
  -- the count of one tick is two; and memory has one step
  pub invents_ticks_lem : Demand3Counts invents_ticks → ⊥
  pub invents_ticks_memory : Demand3Reports invents_ticks → ⊥

-- The demands refute them.
pub wrong_as_a_whole : WrongAsAWhole
unfolding answer_of memory_of said_of happens refusal body_used legal legal_core legal_job legal_frame is_empty is_blank permitted known_kind known_in_script kind_row kind_row_in applied exchanged taken judge row_of row_in is_program verdict record_of listed is_read command_verdict job_verdict job_of fits_rule settled acted held_after instantly protected_sectors protected_count ticks_core tick_core tick_load ticks_load tick_memory ticks_memory worked sweep image image_from runs_by worked_by AllGood AllSpare AllInside AllBytes bytes_of
wrong_as_a_whole =
    record {
      ignores_all_lem = λ d. false≢true (ap (λ (k : Core). k.wen) (d.0 enabling (cells 0) [] 0 (ending enabling refl refl) refl refl).0);
      ignores_jobs = λ d. false≢true (ap (λ (k : Core). is_job k.job.kind) (d.1.1.1.0 beginning (cells 0) [] 0 (ending beginning refl refl) refl refl).0);
      refuses_events_lem = λ d. absurd (false≢true (sym ((d.numbers (unselected resting) (cells 0) [] 0x04 0).five.0 refl).3));
      refuses_deselects = λ d. silent (d enabling (cells 0) [] 0 (ending enabling refl refl) refl);
      refuses_commands_lem = λ d. absurd (omega (arith, second_byte (d enabling (cells 0) [] 0 (ending enabling refl refl) refl)));
      refuses_jobs = λ d. absurd (omega (arith, second_byte (d beginning (cells 0) [] 0 (ending beginning refl refl) refl)));
      reads_blank_lem = λ d. absurd (omega (arith, second_byte (((d (unselected resting) (cells 0) [] (quiet resting refl refl refl)).low_power_lem 0 (omega arith)).byte_driven [] tt 0 (omega arith))));
      ticks_idle_lem = λ d. absurd (omega (arith, ap (λ (m : List ℕ). get_or m 0 0) (d [] SmallErase 0 blank_load 0 erasure (event 0x05 1 ∷ []) (erasure-ticked ticks_idle 1 refl refl) refl)));
      ticks_idle_image = λ d. absurd (omega (arith, ap (λ (m : List ℕ). get_or m 0 0) (d [] SmallErase 0 blank_load erasure (event 0x05 16 ∷ []) (erasure-ticked ticks_idle 16 refl refl) refl)));
      whole_job_at_once_lem = λ d. absurd (omega (arith, ap (λ (m : List ℕ). get_or m 16 0) (d [] Program 0 low 0 program (event 0x05 1 ∷ []) (program-ticked whole_job_at_once 1 refl refl) refl)));
      invents_ticks_lem = λ d. absurd (omega (arith, d [] (event 0x05 1) erasure (fitting (unselected (erasing 0)) 0 refl) (refl, refl)));
      invents_ticks_memory = λ d. absurd (omega (arith, ap (λ (m : List ℕ). get_or m 16 0) (d [] Program 0 low 0 program (event 0x05 1) (program-ticked invents_ticks 1 refl refl))));
    }

-- ---- errors that look right

pub record LookRight : Type 0 where
  -- of 260 bytes for address 250, byte 4 does not stand at offset 254
  pub lays_from_page_start_lem : Demand2Loads lays_from_page_start → ⊥
  pub lays_from_address_lem : Demand2Loads lays_from_address → ⊥
  -- at k = 1 a cell of F0h programmed with 0Fh holds 0Fh and not 00h
  pub stores_bytes_lem : Demand3At 1 stores_bytes → ⊥
  -- WEN is off after verdict 9, and after 10
  pub nine_costs_wen : Demand2LeavesWen 9 nine_ten_cost_wen → ⊥
  pub ten_costs_wen : Demand2LeavesWen 10 nine_ten_cost_wen → ⊥
  -- a program of 0Fh over F0h is suspended, a 02h frame of FFh ends loose, the job is resumed: its first step leaves F0h
  pub spoilt_loads_lem : Demand3At 1 spoilt_loads → ⊥
  -- a 03h frame begun in the last step of an erase drives its fifth byte
  pub answers_late_lem : Demand2Stops answers_late → ⊥

-- the spoiled frame at its loose end, and the events from there on
abbrev spoiling : World
spoiling = world (whole (with_suspended true programming) (sent 0x02 0 5) blank_load low) (cells 0xF0) [] 0

abbrev spoiled : List Event
spoiled = event 0x03 3 ∷ event 0x01 0 ∷ event 0x02 0x30 ∷ event 0x03 0 ∷ event 0x05 1 ∷ []

-- the bytes of the early read, and the tick that ends the job
abbrev early : List Event
early = sends (0 ∷ 0 ∷ 0 ∷ []) ++ (event 0x04 0 ∷ [])

-- The demands refute them.
pub look-right : LookRight
unfolding answer_of memory_of said_of happens refusal body_used legal legal_core legal_job legal_frame is_empty is_blank permitted known_kind known_in_script kind_row kind_row_in applied exchanged taken judge row_of row_in is_program verdict record_of listed is_read command_verdict job_verdict job_of fits_rule settled acted held_after instantly protected_sectors protected_count ticks_core tick_core tick_load ticks_load tick_memory ticks_memory worked sweep image image_from runs_by worked_by AllGood AllSpare AllInside AllBytes bytes_of
look-right =
    record {
      lays_from_page_start_lem = λ d. absurd (omega (arith, ((d (unselected enabled) (cells 0) [] ready refl).program 0x02 250 0 (counted 1 259) refl refl (omega arith) (all-bytes 0 260) refl).1.last_stay 4 (omega arith) (omega arith)));
      lays_from_address_lem = λ d. absurd (omega (arith, ((d (unselected enabled) (cells 0) [] ready refl).program 0x02 250 0 (counted 1 259) refl refl (omega arith) (all-bytes 0 260) refl).1.last_stay 4 (omega arith) (omega arith)));
      stores_bytes_lem = λ d. absurd (omega (arith, ap (λ (m : List ℕ). get_or m 0 0) (d [] Program 0 low 0 program (event 0x05 1 ∷ []) (program-ticked stores_bytes 1 refl refl) refl)));
      nine_costs_wen = λ d. false≢true (d (protected 0x20 4) (cells 0) [] 0 (ending (protected 0x20 4) refl refl) refl);
      ten_costs_wen = λ d. false≢true (d locked (cells 0) [] 0 (ending locked refl refl) refl);
      spoilt_loads_lem = λ d. absurd (omega (arith, ap (λ (m : List ℕ). get_or m 0 0) (d [] Program 0 low 0 spoiling spoiled spoiled_spared refl)));
      answers_late_lem = λ d. absurd (omega (arith, first_byte ((d (unselected (erasing 15)) (cells 0) [] 0x03 (fitting (unselected (erasing 15)) 0 refl) refl (omega arith) (λ e. omega (arith, e)) early inside).0 0 (omega arith))));
    }
  where
    inside : AllInside early
    inside = (((refl, refl), refl), (((refl, refl), refl), (((refl, refl), refl), (((refl, refl), refl), tt))))

    spoiled_spared : Spared spoilt_loads [] Program 0 low 0 spoiling spoiled
    spoiled_spared =
        record {
          under_way = record { fit = fitting spoiling.chip 0xF0 refl; a_job = refl; job_is = refl; load_is = refl };
          good = ((refl, refl), ((refl, refl), ((refl, refl), ((refl, refl), ((refl, refl), tt)))));
          spared = (
            spared_so spoilt_loads _ _ (0x82 ∷ 4 ∷ []) (λ e. omega arith) refl (λ e o. absurd (omega (arith, second_byte e))) (λ e. absurd (omega (arith, second_byte e))),
            (
              spared_so spoilt_loads _ _ [] (λ e. omega arith) refl (λ e o. silent e) (λ e. silent e),
              (
                spared_so spoilt_loads _ _ (0x80 ∷ []) (λ e. omega arith) refl (λ e o. absurd (omega (arith, first_byte e))) (λ e. absurd (omega (arith, first_byte e))),
                (
                  spared_so spoilt_loads _ _ (0x82 ∷ 1 ∷ []) (λ e. omega arith) refl (λ e o. absurd (omega (arith, o))) (λ e. absurd (omega (arith, second_byte e))),
                  (ticks-spare spoilt_loads 1 _ refl, tt),
                ),
              ),
            ),
          );
        }

-- ---- wrong ways to say which sectors were in the way

-- a blank part of two sectors; a chip on it with all protected, at the deselect of a 20h frame for sector 1; one with its top sector protected, at that of a chip erase
abbrev two_sectors : List ℕ
two_sectors = replicate 131072 0xFF

abbrev all_protected : Chip
all_protected = within (with_level 2 enabled) (sent 0x20 0x010000 4)

abbrev top_protected : Chip
top_protected = within (with_level 1 enabled) (sent 0x60 0 1)

ending_there : (c : Chip) → legal c 131072 ≡ true → c.frame.selected ≡ true → Ending c two_sectors [] 0
ending_there c l s = record { fit = record { state_legal = ap (legal c) long ∙ l; area_short = omega arith }; selected = s; few = omega arith }
  where
    long : length two_sectors ≡ 131072
    long = refl

pub record InTheWay : Type 0 where
  -- of an erase in sector 1, where 0 and 1 are protected, it is told verdict 9 and no sectors; 1 and 0; 0 and 2; 1 and 1
  pub keeps_nine_lem : Demand2Gives 9 keeps_nine → ⊥
  pub swaps_ends_lem : Demand2Gives 9 swaps_ends → ⊥
  pub ends_late_lem : Demand2Gives 9 ends_late → ⊥
  pub tells_target_lem : Demand2Gives 9 tells_target → ⊥
  -- of a chip erase, where sector 1 alone is protected, 0 and 1
  pub chip_erase_tells_all_lem : Demand2Gives 9 chip_erase_tells_all → ⊥
  -- two bytes of output are enough for a deselect
  pub two_a_deselect_lem : Demand1Run ours two_a_deselect → ⊥

-- The demands refute them.
pub in_the_way_lem : InTheWay
unfolding answer_of memory_of said_of happens refusal body_used legal legal_core legal_job legal_frame is_empty is_blank permitted known_kind known_in_script kind_row kind_row_in applied exchanged taken judge row_of row_in is_program verdict record_of listed is_read command_verdict job_verdict job_of fits_rule settled acted held_after instantly protected_sectors protected_count ticks_core tick_core tick_load ticks_load tick_memory ticks_memory worked sweep image image_from runs_by worked_by AllGood AllSpare AllInside AllBytes bytes_of deselects Run.answer_of Run.refusal first_bad room room_needed events_from walk fault_at
in_the_way_lem =
    record {
      keeps_nine_lem = λ d. absurd (omega (arith, first_byte (d all_protected two_sectors [] 0 (ending_there all_protected refl refl) refl)));
      swaps_ends_lem = λ d. absurd (omega (arith, second_of_three (d all_protected two_sectors [] 0 (ending_there all_protected refl refl) refl)));
      ends_late_lem = λ d. absurd (omega (arith, third_byte (d all_protected two_sectors [] 0 (ending_there all_protected refl refl) refl)));
      tells_target_lem = λ d. absurd (omega (arith, second_of_three (d all_protected two_sectors [] 0 (ending_there all_protected refl refl) refl)));
      chip_erase_tells_all_lem = λ d. absurd (omega (arith, second_of_three (d top_protected two_sectors [] 0 (ending_there top_protected refl refl) refl)));
      two_a_deselect_lem = λ d. absurd (omega (arith, ((d.numbers (unselected resting) (cells 0) [] (0x03 ∷ 0x00 ∷ []) (0 ∷ 0 ∷ [])).none.0 refl).2));
    }
  where
    second_of_three : {t t' a a' b b' : ℕ} → t ∷ a ∷ b ∷ [] ≡ t' ∷ a' ∷ b' ∷ [] → a ≡ a'
    second_of_three e = ap (λ (says : List ℕ). get_or says 1 0) e

    third_byte : {t t' a a' b b' : ℕ} → t ∷ a ∷ b ∷ [] ≡ t' ∷ a' ∷ b' ∷ [] → b ≡ b'
    third_byte e = ap (λ (says : List ℕ). get_or says 2 0) e

-- ---- wrong waits

-- a small sector erase that waits to be suspended, this many steps done; its chip with no frame open; and at the deselects of B0h and of 99h, armed
abbrev waiting : ℕ → Core
waiting d = with_waiting true (erasing d)

abbrev suspending_twice : Chip
suspending_twice = within (waiting 1) (sent 0xB0 0 1)

abbrev resetting : Chip
resetting = within (with_armed true (waiting 1)) (sent 0x99 0 1)

pub record TheWait : Type 0 where
  -- an accepted suspend leaves the job suspended, and not waiting: Demand 2's row for B0h
  pub suspends_at_once_lem : Demand2Does suspends_at_once → ⊥
  -- of one tick in the wait none is counted; of two, two are
  pub wait_uncounted_lem : Demand3Counts wait_uncounted → ⊥
  pub waits_two_lem : Demand3Counts waits_two → ⊥
  -- a status read in the wait has bit 6
  pub shows_sus_early_lem : Demand2Status shows_sus_early → ⊥
  -- a second B0h gets verdict 1 and not 11
  pub suspends_twice_lem : Demand2Gives 11 suspends_twice → ⊥
  -- the mark is still there after a reset, and after the job's last step
  pub mark_survives_reset_lem : Demand2Does mark_survives_reset → ⊥
  pub mark_survives_end_lem : Demand3Keeps mark_survives_end → ⊥

-- The demands refute them.
pub the_wait : TheWait
unfolding answer_of memory_of said_of happens refusal body_used legal legal_core legal_job legal_frame is_empty is_blank permitted known_kind known_in_script kind_row kind_row_in applied exchanged taken judge row_of row_in is_program verdict record_of listed is_read command_verdict job_verdict job_of fits_rule settled acted held_after instantly protected_sectors protected_count ticks_core tick_core tick_load ticks_load tick_memory ticks_memory worked sweep image image_from runs_by worked_by AllGood AllSpare AllInside AllBytes bytes_of status_byte
the_wait =
    record {
      suspends_at_once_lem = λ d. false≢true (ap (λ (k : Core). k.waiting) (d.1.1.0 suspending (cells 0) [] 0 (ending suspending refl refl) refl refl).0);
      wait_uncounted_lem = λ d. absurd (omega (arith, d [] (event 0x05 1) (world (unselected (waiting 1)) (cells 0) [] 0) (fitting (unselected (waiting 1)) 0 refl) (refl, refl)));
      waits_two_lem = λ d. absurd (omega (arith, d [] (event 0x05 2) (world (unselected (waiting 1)) (cells 0) [] 0) (fitting (unselected (waiting 1)) 0 refl) (refl, refl)));
      shows_sus_early_lem = λ d. sus_shown (d (unselected (waiting 1)) (cells 0) [] (fitting (unselected (waiting 1)) 0 refl) refl refl [] tt 0 (omega arith)).1;
      suspends_twice_lem = λ d. absurd (omega (arith, second_byte (d suspending_twice (cells 0) [] 0 (ending suspending_twice refl refl) refl)));
      mark_survives_reset_lem = λ d. false≢true (sym (ap (λ (k : Core). k.waiting) (d.1.1.1.1.1.1.1.0 resetting (cells 0) [] 0 (ending resetting refl refl) refl refl).0));
      mark_survives_end_lem = λ d. false≢true (sym (d (unselected (waiting 15)) (cells 0) [] 0x04 0 1 (fitting (unselected (waiting 15)) 0 refl) (one_tick_lem 0)).wait_over);
    }
  where
    sus_shown : SaysStatus (waiting 1) (0x81 ∷ 67 ∷ []) → ⊥
    sus_shown s = absurd (omega (arith, second_byte s.driven, s.bits.sus))

-- ---- WEN lost in suspension, and a verdict 12

-- that erase suspended, one step done; its chips at the deselect of a 04h frame, which was turned away at its opcode byte, and of a 20h frame
abbrev suspended : Core
suspended = with_suspended true (erasing 1)

abbrev disabling : Chip
disabling = within suspended (record { selected = true; opcode = 0x04; address = 0; place = 0; slot = 0; count = 1; judgement = 7 })

abbrev erasing_again : Chip
erasing_again = within suspended (sent 0x20 0 4)

pub record TheEnable : Type 0 where
  -- after the 04h frame, and after the tick of a wait, SUS is 1 and WEN is 0: `wen_is_on`
  pub disables_in_suspension_lem : KeepsWen disables_in_suspension → ⊥
  pub suspending_costs_wen_lem : KeepsWen suspending_costs_wen → ⊥
  -- the 20h frame is told 8: `never_eight`
  pub turns_away_by_eight : KeepsWen (turns_away 8) → ⊥
  -- it is told 12: `says`, whatever the runner; and a run writes it: `runs`, whatever the model
  pub turns_away_by_twelve : (R : Runner) → EndsAtEleven (turns_away 12) R → ⊥
  pub writes_twelve_lem : (M : Model) → EndsAtEleven M writes_twelve → ⊥

-- What suspension keeps, and where the list ends, refute them.
pub the_enable : TheEnable
unfolding answer_of memory_of said_of happens refusal body_used legal legal_core legal_job legal_frame is_empty is_blank permitted known_kind known_in_script kind_row kind_row_in applied judge row_of row_in is_program verdict record_of listed is_read command_verdict job_verdict job_of fits_rule settled acted held_after protected_sectors protected_count ticks_core tick_core tick_load ticks_load tick_memory ticks_memory worked sweep image image_from runs_by AllGood timed Run.answer_of Run.output_of Run.refusal Run.world_after Run.runs first_bad room events_from walk fault_at
the_enable =
    record {
      disables_in_suspension_lem = λ d. false≢true (d.wen_is_on [] _ (led disables_in_suspension disabling (event 0x03 0) refl (refl, refl) refl));
      suspending_costs_wen_lem = λ d. false≢true (d.wen_is_on [] _ (led suspending_costs_wen (unselected (waiting 1)) (event 0x04 0) refl (refl, refl) refl));
      turns_away_by_eight = λ d. d.never_eight [] (world erasing_again (cells 0) [] 0) 0 standing (omega arith) refl;
      turns_away_by_twelve = λ R d. no_twelve [] (d.says erasing_again (cells 0) [] 0x03 0);
      writes_twelve_lem = λ M d. no_twelve [] (d.runs erasing_again (cells 0) [] (0x03 ∷ 0x00 ∷ []) (0 ∷ 0 ∷ 0 ∷ []));
    }
  where
    -- one event from a legal chip to a suspended one
    led : (M : Model) (c : Chip) (e : Event) → legal c 65536 ≡ true → Good e → (onward_by M [] e (world c (cells 0) [] 0)).chip.core.suspended ≡ true
        → Reached M [] (onward_by M [] e (world c (cells 0) [] 0))
    led M c e l good is = record { chip = c; memory = cells 0; events = e ∷ []; fit = fitting c 0 l; good = (good, tt); leads = refl; suspended = is }

    standing : Reached (turns_away 8) [] (world erasing_again (cells 0) [] 0)
    standing = record { chip = erasing_again; memory = cells 0; events = []; fit = fitting erasing_again 0 refl; good = tt; leads = refl; suspended = refl }

-- ---- wrong deselects

pub record TheDeselect : Type 0 where
  -- a write enable that ends on the byte boundary gets verdict 4 and not 1
  pub boundary_is_loose_lem : Demand2Gives 1 boundary_is_loose → ⊥
  -- eight bits are no refusal, and 256 are none
  pub takes_eight_lem : Demand1 takes_eight → ⊥
  pub cuts_the_body_lem : Demand1 cuts_the_body → ⊥
  -- 08h with three bits is done
  pub knows_08h : Demand1 knows08h → ⊥
  -- a script that is one 03h is done
  pub body_uncounted_lem : Demand1Run ours body_uncounted → ⊥

-- The demands refute them.
pub the_deselect : TheDeselect
unfolding answer_of memory_of said_of happens refusal body_used legal legal_core legal_job legal_frame is_empty is_blank permitted known_kind known_in_script kind_row kind_row_in applied row_of row_in verdict record_of listed is_read fits_rule judge AllSound bodied Run.answer_of Run.refusal first_bad room events_from walk fault_at
the_deselect =
    record {
      boundary_is_loose_lem = λ d. absurd (omega (arith, second_byte (d enabling (cells 0) [] 0 (ending enabling refl refl) refl)));
      takes_eight_lem = λ d. false≢true ((d.numbers (unselected resting) (cells 0) [] 0x03 8).none.0 refl).4;
      cuts_the_body_lem = λ d. false≢true ((d.numbers (unselected resting) (cells 0) [] 0x03 256).none.0 refl).4;
      knows_08h = λ d. false≢true ((d.numbers (unselected resting) (cells 0) [] 0x08 3).none.0 refl).3;
      body_uncounted_lem = λ d. absurd (omega (arith, ((d.numbers (unselected resting) (cells 0) [] (0x03 ∷ []) (0 ∷ 0 ∷ 0 ∷ [])).none.0 refl).1.0.whole));
    }

-- ---- wrong stamps

-- Nothing but the clock's rules is changed in them: by its own rules the run is ours.
pub clocked-is_ours : (c : Chip) (m area s out : List ℕ) → clocked clock_after went_back moved_on c m area s out ≡ our_run c m area s out
unfolding Run.answer_of Run.memory_of Run.output_of Run.refusal Run.world_after first_bad_by first_bad timed_by timed
clocked-is_ours c m area s out = λ i. answering (same_bad unset (events s) i) (same_events unset (events s) i) c m area s out
  where
    same_bad : (k : Clock) (es : List Event) → first_bad_by clock_after went_back k es ≡ first_bad k es
    same_bad k [] = refl
    same_bad k (e ∷ es) = ap (λ (r : Refusal). cond (eqb (fault_by k e) 0) r (refusal_of (fault_by k e) e.offset)) (same_bad (clock_after k e) es)

    same_events : (k : Clock) (es : List Event) → timed_by clock_after moved_on k es ≡ timed k es
    same_events k [] = refl
    same_events k (e ∷ es) = ap (λ (rest : List Event). given k e ++ rest) (same_events (clock_after k e) es)

-- scripts: a stamp of 1; 5, a power cut and 4; 0 and 32,768; 65,534 and 3
abbrev one_stamp : List ℕ
one_stamp = 0x09 ∷ 0x00 ∷ 0x01 ∷ []

abbrev cut_between : List ℕ
cut_between = 0x09 ∷ 0x00 ∷ 0x05 ∷ 0x07 ∷ 0x09 ∷ 0x00 ∷ 0x04 ∷ []

abbrev half_way : List ℕ
half_way = 0x09 ∷ 0x00 ∷ 0x00 ∷ 0x09 ∷ 0x80 ∷ 0x00 ∷ []

abbrev rolling_over : List ℕ
rolling_over = 0x09 ∷ 0xFF ∷ 0xFE ∷ 0x09 ∷ 0x00 ∷ 0x03 ∷ []

pub record TheStamps : Type 0 where
  -- an erase runs, and a first stamp of 1 is a working tick of it
  pub first_stamp_ticks_lem : Demand1Run ours first_stamp_ticks → ⊥
  -- 4 after 5 is not refused by 8, since power was cut between them; nor is 32,768 after 0
  pub clock_dies_with_power_lem : Demand1Run ours clock_dies_with_power → ⊥
  pub takes_half_way_lem : Demand1Run ours takes_half_way → ⊥
  -- 3 after 65,534 is refused, and not done
  pub never_rolls_over_lem : Demand1Run ours never_rolls_over → ⊥
  -- 09h alone is done, and not refused by 5
  pub knows_09h_alone : Demand1 knows09h_alone → ⊥

-- The demands refute them.
pub the_stamps : TheStamps
unfolding answer_of refusal legal legal_core legal_job legal_frame is_empty is_blank permitted known_kind known_in_script kind_row kind_row_in applied ticks_core worked AllSound room_needed runs_by moved_on went_back clock_over first_bad_by timed timed_by Run.runs room events_from walk fault_at
the_stamps =
    record {
      first_stamp_ticks_lem = λ d. absurd (omega (arith, ap (λ (r : RunReply). r.ticks) (d.done_runs (unselected (erasing 0)) (cells 0) [] one_stamp [] refl)));
      clock_dies_with_power_lem = λ d. absurd (omega (arith, (((d.numbers (unselected resting) (cells 0) [] cut_between []).eight 4).1 (heard cut_between (omega arith), went_back_after_cut)).0));
      takes_half_way_lem = λ d. absurd (omega (arith, (((d.numbers (unselected resting) (cells 0) [] half_way []).eight 3).1 (heard half_way (omega arith), went_half_way)).0));
      never_rolls_over_lem = λ d. absurd (omega (arith, (d.numbers (unselected resting) (cells 0) [] rolling_over []).none.1 (heard rolling_over (omega arith), all_sound, omega arith)));
      knows_09h_alone = λ d. absurd (omega (arith, (d.numbers (unselected resting) (cells 0) [] 0x09 0).five.1 (refl, omega arith, refl, refl)));
    }
  where
    heard : (s : List ℕ) → length s ≤ 65536 → Heard (unselected resting) (length (cells 0)) 0 s
    heard s short = record { length_permitted = refl; area_short = omega arith; state_legal = refl; script_short = short }

    went_back_after_cut : BackAt cut_between 4
    went_back_after_cut =
        record {
          first = record {
            before = event_at cut_between 0 ∷ event_at cut_between 3 ∷ [];
            behind = [];
            in_order = refl;
            before_sound = (
              record { known = refl; whole = omega arith; ranged = refl; forward = λ _. refl },
              (record { known = refl; whole = omega arith; ranged = refl; forward = λ e. absurd (omega (arith, e)) }, tt),
            );
          };
          stamp = refl;
          whole = omega arith;
          ranged = omega arith;
          back = refl;
        }

    went_half_way : BackAt half_way 3
    went_half_way =
        record {
          first = record {
            before = event_at half_way 0 ∷ [];
            behind = [];
            in_order = refl;
            before_sound = (record { known = refl; whole = omega arith; ranged = refl; forward = λ _. refl }, tt);
          };
          stamp = refl;
          whole = omega arith;
          ranged = omega arith;
          back = refl;
        }

    all_sound : AllSound rolling_over unset (events rolling_over)
    all_sound = (
      record { known = refl; whole = omega arith; ranged = refl; forward = λ _. refl },
      (record { known = refl; whole = omega arith; ranged = refl; forward = λ _. refl }, tt),
    )

-- ---- our three earlier versions

pub record EarlierVersions : Type 0 where
  -- the first: of two bytes read at the last address the second is not cell 0; of two loaded at offset 255 the second does not stand at offset 0
  pub first_reads_lem : Demand2Reads first_reads → ⊥
  pub first_loads_lem : Demand2Loads first_loads → ⊥
  -- the second: of 260 bytes loaded, byte 256 does not stand over byte 0; WEN is off after a protected program
  pub second_loads_lem : Demand2Loads second_loads → ⊥
  pub second_wen_lem : Demand2LeavesWen 9 second_wen → ⊥
  -- the third: the deselect that begins an erase leaves no job at its step 0; a suspend in an erase gets verdict 11 and not 1
  pub third_erases_lem : Demand3Starts third_erases → ⊥
  pub third_suspends_lem : Demand2Gives 1 third_suspends → ⊥

-- The demands refute them.
pub earlier_versions : EarlierVersions
unfolding answer_of memory_of said_of happens refusal body_used legal legal_core legal_job legal_frame is_empty is_blank permitted known_kind known_in_script kind_row kind_row_in applied exchanged taken judge row_of row_in is_program verdict record_of listed is_read command_verdict job_verdict job_of fits_rule settled acted held_after instantly protected_sectors protected_count ticks_core tick_core tick_load ticks_load tick_memory ticks_memory worked sweep image image_from runs_by worked_by AllGood AllSpare AllInside AllBytes bytes_of
earlier_versions =
    record {
      first_reads_lem = λ d. absurd (omega (arith, second_byte (((d (unselected resting) (cells 0) [] (quiet resting refl refl refl)).low_power_lem 65535 (omega arith)).byte_driven (event 0x02 0 ∷ []) (((refl, refl), refl), tt) 0 (omega arith))));
      first_loads_lem = λ d. absurd (omega (arith, ((d (unselected enabled) (cells 0) [] ready refl).program 0x02 255 1 (2 ∷ []) refl refl (omega arith) (omega arith, (omega arith, tt)) refl).1.last_stay 1 (omega arith) (omega arith)));
      second_loads_lem = λ d. absurd (omega (arith, ((d (unselected enabled) (cells 0) [] ready refl).program 0x02 250 0 (counted 1 259) refl refl (omega arith) (all-bytes 0 260) refl).1.last_stay 256 (omega arith) (omega arith)));
      second_wen_lem = λ d. false≢true (d (protected 0x02 5) (cells 0) [] 0 (ending (protected 0x02 5) refl refl) refl);
      third_erases_lem = λ d. false≢true (d beginning (cells 0) [] 0 (ending beginning refl refl) refl).a_job;
      third_suspends_lem = λ d. absurd (omega (arith, second_byte (d suspending (cells 0) [] 0 (ending suspending refl refl) refl)));
    }
