-- Wrong models of the part: each is ours with one thing changed, so that nothing else can be what refutes it. `Refuted` has the theorems.
use Rattle.std.specs.Prelude.{ℕ, zero, suc, ◌+◌, ◌*◌, ◌/◌, ◌%◌, ◌-◌, min, Bool, true, false, cond, not, ◌&&◌, ◌||◌, List, [], ◌∷◌, ◌++◌, eqb, ltb, leb, length, get_or, set, take, drop, replicate}
use Rattle.std.specs.Option.{is_some, unwrap_or}
use Rattle.cells.specs.Cells.{Rule, sweep, later}
use Rattle.part.specs.Part.{permitted, setting_of, sectors_in}
use Rattle.part.specs.Area.{longest_area}
use Rattle.kinds.specs.Kinds.{body_length}
use Rattle.chip.specs.declared.Chip.{Chip}
use Rattle.chip.specs.declared.Core.{Core}
use Rattle.chip.specs.declared.Job.{Job}
use Rattle.chip.specs.declared.JobKind.{JobKind}
use Rattle.chip.specs.declared.JobKind.TheVariants.{Idle, WriteStatus, Program, SmallErase, SectorErase, ChipErase}
use Rattle.chip.specs.Fields.{with_wen, with_suspended, with_waiting, with_armed, with_judgement}
use Rattle.chip.specs.Chip.{whole, running}
use Rattle.chip.specs.Job.{is_job, total}
use Rattle.legal.specs.Legal.{legal}
use Rattle.clock.specs.declared.Clock.{Clock}
use Rattle.clock.specs.Clock.{unset, moved_on, went_back}
use Rattle.script.specs.Script.{Event, events, is_stamp, clock_after, ticks_given, Refusal, refusal_of, room}
use Rattle.script.specs.Run.{Ran, World, world, runs, refused, done, answer_of, memory_of, output_of}
use Rattle.demands.specs.Model.{Reply, Model, reply, ours}
use Rattle.demands.specs.Demand1.{Runner, RunReply, ran, our_run}

-- ---- how a model is changed

-- where ours is done and a test of the chip, the kind and the record holds, the answer is another one; everywhere else it is ours
abbrev pub except : (Chip → ℕ → List ℕ → Bool) → Model → Model
except here other c m area kind body =
    let r : Reply = ours c m area kind body in
    cond (eqb r.refusal 0 && here c kind r.says) (other c m area kind body) r

-- an answer with another chip, memory, record or number of ticks
abbrev pub leaving : Chip → Reply → Reply
leaving c r = record { chip = c; memory = r.memory; says = r.says; ticks = r.ticks; refusal = r.refusal }

abbrev pub keeping : List ℕ → Reply → Reply
keeping m r = record { chip = r.chip; memory = m; says = r.says; ticks = r.ticks; refusal = r.refusal }

abbrev pub saying : List ℕ → Reply → Reply
saying bytes r = record { chip = r.chip; memory = r.memory; says = bytes; ticks = r.ticks; refusal = r.refusal }

abbrev pub counting : ℕ → Reply → Reply
counting n r = record { chip = r.chip; memory = r.memory; says = r.says; ticks = n; refusal = r.refusal }

-- a chip with another core, another load of its frame, another load of its job
abbrev pub with_core : Core → Chip → Chip
with_core k c = whole k c.frame c.load c.held

abbrev pub with_load : List ℕ → Chip → Chip
with_load load c = whole c.core c.frame load c.held

abbrev pub with_held : List ℕ → Chip → Chip
with_held held c = whole c.core c.frame c.load held

-- ---- where

-- ticks that find a job running
abbrev pub on_work : Chip → ℕ → Bool
on_work c kind = (eqb kind 0x04 || eqb kind 0x05) && running c.core

-- a byte is driven; a frame ends with this verdict
abbrev pub drives : List ℕ → Bool
drives says = eqb (get_or says 0 0) 0x81

abbrev pub ends : ℕ → Chip → List ℕ → Bool
ends v c says = c.frame.selected && eqb (get_or says 0 0) 0x82 && eqb (get_or says 1 0) v

-- a frame ends with verdict 9, and the protected sectors are told
abbrev pub tells_sectors : Chip → List ℕ → Bool
tells_sectors c says = c.frame.selected && eqb (get_or says 0 0) 0x83

-- programs, chip erases, erases and reads of cells
abbrev pub programs : Chip → Bool
programs c = eqb c.frame.opcode 0x02 || eqb c.frame.opcode 0x0A

abbrev pub of_chip : Chip → Bool
of_chip c = eqb c.frame.opcode 0x60 || eqb c.frame.opcode 0xC7

abbrev pub erases : Chip → Bool
erases c = eqb c.frame.opcode 0x20 || eqb c.frame.opcode 0xD7 || eqb c.frame.opcode 0xD8 || of_chip c

abbrev pub reads_cells : Chip → Bool
reads_cells c = eqb c.frame.opcode 0x03 || eqb c.frame.opcode 0x0B

-- a data byte of a page program that is loaded, for a frame that was not stopped
abbrev pub on_data : Chip → ℕ → Bool
on_data c kind = eqb kind 0x02 && programs c && not (ltb c.frame.count 4) && eqb c.frame.judgement 0

-- ---- models that are wrong as a whole

-- it answers as if each event had been done, and does nothing
abbrev pub ignores_all : Model
ignores_all c m area kind body = counting 0 (leaving c (keeping m (ours c m area kind body)))

-- it refuses every event by 5
abbrev pub refuses_events : Model
refuses_events c m area kind body = record { chip = c; memory = m; says = []; ticks = 0; refusal = 5 }

-- it gives verdict 3 to every command that is done or begun, and does nothing
abbrev pub refuses_commands : Model
refuses_commands =
    except (λ c kind says. ends 1 c says || ends 2 c says)
    (λ c m area kind body. let r : Reply = ours c m area kind body in saying (0x82 ∷ 3 ∷ []) (leaving (with_held c.held (with_core (with_armed false c.core) r.chip)) r))

-- every byte that it drives is FFh
abbrev pub reads_blank : Model
reads_blank = except (λ c kind says. drives says) (λ c m area kind body. saying (0x81 ∷ 0xFF ∷ []) (ours c m area kind body))

-- its ticks change no cell
abbrev pub ticks_idle : Model
ticks_idle = except (λ c kind says. on_work c kind) (λ c m area kind body. keeping m (ours c m area kind body))

-- the first tick that finds a job running does all of it
abbrev pub steps_left : Chip → List ℕ → ℕ
steps_left c m = total c.core.job.kind (sectors_in (length m)) - c.core.job.done

abbrev pub whole_job_at_once : Model
whole_job_at_once = except (λ c kind says. on_work c kind) (λ c m area kind body. counting 1 (ours c m area 0x05 (steps_left c m)))

-- it counts one working tick too many
abbrev pub invents_ticks : Model
invents_ticks = except (λ c kind says. on_work c kind) (λ c m area kind body. counting (suc (ours c m area kind body).ticks) (ours c m area kind body))

-- ---- errors that look right

-- n numbers of a row, from number i on
abbrev pub row : (ℕ → ℕ) → ℕ → ℕ → List ℕ
row f i zero = []
row f i (suc n) = f i ∷ row f (suc i) n

-- a load of 256 bytes or more: its load place has come round to the address
abbrev pub is_full : Chip → Bool
is_full c = programs c && eqb c.frame.count 6 && eqb c.frame.slot (c.frame.address % 256)

-- such a load without its oldest byte and with one more behind the youngest, the oldest at the address
abbrev pub shifted_on : Chip → ℕ → List ℕ
shifted_on c b = row (λ q. cond (eqb q ((c.frame.address + 255) % 256)) b (get_or c.load ((q + 1) % 256) 0)) 0 256

-- of a longer load the last 256 bytes are kept, and laid down from the address on; shorter ones are right
abbrev pub lays_from_address : Model
lays_from_address = except (λ c kind says. on_data c kind && is_full c) (λ c m area kind body. leaving (with_load (shifted_on c body) c) (ours c m area kind body))

-- the same, laid down from the page's start when the program begins
abbrev pub lays_from_page_start : Model
lays_from_page_start =
    except (λ c kind says. is_full c && (on_data c kind || ends 2 c says))
    (λ c m area kind body.
    let r : Reply = ours c m area kind body in
    cond (eqb kind 0x02) (leaving (with_load (shifted_on c body) c) r) (leaving (with_held (row (λ q. get_or c.load ((c.frame.address + q) % 256) 0) 0 256) r.chip) r))

-- a program stores its byte, where a cell can only lose bits
abbrev pub stored : List ℕ → Rule
stored load j old = get_or load (j % 256) 0

abbrev pub is_program_job : JobKind → Bool
is_program_job Idle = false
is_program_job (WriteStatus value) = false
is_program_job Program = true
is_program_job SmallErase = false
is_program_job SectorErase = false
is_program_job ChipErase = false

abbrev pub stores_bytes : Model
stores_bytes =
    except (λ c kind says. on_work c kind && is_program_job c.core.job.kind)
    (λ c m area kind body.
    let r : Reply = ours c m area kind body in
    let j : Job = c.core.job in
    keeping (sweep (later (stored c.held) (j.done * 16)) m (j.start + j.done * 16) (r.ticks * 16)) r)

-- verdict 9 or 10 costs WEN; not where a job needs it, since a legal state with a job has WEN
abbrev pub costs_wen : (Chip → List ℕ → Bool) → Model
costs_wen here = except (λ c kind says. here c says && not (is_job c.core.job.kind)) (λ c m area kind body. let r : Reply = ours c m area kind body in leaving (with_core (with_wen false r.chip.core) r.chip) r)

abbrev pub nine_ten_cost_wen : Model
nine_ten_cost_wen = costs_wen (λ c says. tells_sectors c says || ends 10 c says)

-- a spoiled program frame, sent in suspension, overwrites the suspended job's load
abbrev pub spoilt_loads : Model
spoilt_loads =
    except (λ c kind says. ends 4 c says && programs c && c.core.suspended)
    (λ c m area kind body. let r : Reply = ours c m area kind body in leaving (with_held c.load r.chip) r)

-- a read of cells begun while a job ran is answered once the job has ended, from the cell where its place stands
abbrev pub answers_late : Model
answers_late =
    except (λ c kind says. eqb kind 0x02 && eqb c.frame.judgement 6 && reads_cells c && not (running c.core))
    (λ c m area kind body. ours (whole c.core (with_judgement 0 c.frame) c.load c.held) m area kind body)

-- ---- wrong ways to say which sectors were in the way

-- another record where verdict 9 falls, made from the right one
abbrev pub tells : (Chip → List ℕ → List ℕ → List ℕ) → Model
tells other = except (λ c kind says. tells_sectors c says) (λ c m area kind body. let r : Reply = ours c m area kind body in saying (other c m r.says) r)

-- 82h and the verdict, as before
abbrev pub keeps_nine : Model
keeps_nine = tells (λ c m says. 0x82 ∷ 9 ∷ [])

-- the last sector first
abbrev pub swaps_ends : Model
swaps_ends = tells (λ c m says. 0x83 ∷ get_or says 2 0 ∷ get_or says 1 0 ∷ [])

-- one sector too many: the count where the count less one belongs
abbrev pub ends_late : Model
ends_late = tells (λ c m says. 0x83 ∷ get_or says 1 0 ∷ suc (get_or says 2 0) ∷ [])

-- the protected sectors under the target, and no other; a chip erase's are all of them
abbrev pub tells_target : Model
tells_target =
    tells (λ c m says. cond (of_chip c) says (let x : ℕ = c.frame.address % length m / 65536 in 0x83 ∷ x ∷ x ∷ []))

-- for a chip erase every sector of the part, whatever the level
abbrev pub chip_erase_tells_all : Model
chip_erase_tells_all = tells (λ c m says. cond (of_chip c) (0x83 ∷ 0 ∷ (sectors_in (length m) - 1) ∷ []) says)

-- a run that asks for two bytes of output a deselect: for one byte less each than ours
unfoldable pub deselects : List Event → ℕ
deselects [] = 0
deselects (e ∷ es) = cond (eqb e.kind 0x03) 1 0 + deselects es

abbrev pub two_a_deselect : Runner
two_a_deselect c m area s out =
    let more : List ℕ = out ++ replicate (deselects (events s)) 0 in
    let r : Ran = answer_of c m area s more in
    record {
      chip = r.chip;
      memory = memory_of c m area s more;
      output = take (length out) (output_of c m area s more);
      refusal = r.refusal;
      offset = r.offset;
      written = r.written;
      ticks = r.ticks;
    }

-- ---- wrong waits

-- ticks that find a job waiting to be suspended; the deselect of an accepted suspend
abbrev pub on_wait : Chip → ℕ → Bool
on_wait c kind = on_work c kind && c.core.waiting

abbrev pub suspends : Chip → List ℕ → Bool
suspends c says = ends 1 c says && eqb c.frame.opcode 0xB0

-- it suspends at once
abbrev pub suspends_at_once : Model
suspends_at_once =
    except (λ c kind says. suspends c says)
    (λ c m area kind body. let r : Reply = ours c m area kind body in leaving (with_core (with_suspended true (with_waiting false r.chip.core)) r.chip) r)

-- the tick of the wait is not counted
abbrev pub wait_uncounted : Model
wait_uncounted = except (λ c kind says. on_wait c kind) (λ c m area kind body. counting 0 (ours c m area kind body))

-- two ticks of one event work in the wait
abbrev pub waits_two : Model
waits_two =
    except (λ c kind says. on_wait c kind && eqb kind 0x05)
    (λ c m area kind body.
    let r : Reply = ours (with_core (with_waiting false c.core) c) m area kind (min body 2) in
    leaving (with_core (with_suspended (is_job r.chip.core.job.kind) r.chip.core) r.chip) r)

-- a status read in the wait shows SUS
abbrev pub shows_sus_early : Model
shows_sus_early =
    except (λ c kind says. drives says && eqb c.frame.opcode 0x05 && c.core.waiting)
    (λ c m area kind body. let r : Reply = ours c m area kind body in saying (0x81 ∷ (get_or r.says 1 0 + 64) ∷ []) r)

-- a second suspend in the wait is done as the first
abbrev pub suspends_twice : Model
suspends_twice =
    except (λ c kind says. ends 11 c says && eqb c.frame.opcode 0xB0 && c.core.waiting) (λ c m area kind body. saying (0x82 ∷ 1 ∷ []) (ours c m area kind body))

-- the mark outlives a reset; it outlives the job's last step
abbrev pub marked : Reply → Reply
marked r = leaving (with_core (with_waiting true r.chip.core) r.chip) r

abbrev pub mark_survives_reset : Model
mark_survives_reset =
    except (λ c kind says. ends 1 c says && eqb c.frame.opcode 0x99 && c.core.waiting) (λ c m area kind body. marked (ours c m area kind body))

abbrev pub mark_survives_end : Model
mark_survives_end =
    except (λ c kind says. on_wait c kind)
    (λ c m area kind body. let r : Reply = ours c m area kind body in cond (is_job r.chip.core.job.kind) r (marked r))

-- ---- WEN lost in suspension, and a verdict 12

-- a write disable is done in suspension
abbrev pub disables_in_suspension : Model
disables_in_suspension =
    except (λ c kind says. ends 7 c says && eqb c.frame.opcode 0x04)
    (λ c m area kind body. let r : Reply = ours c m area kind body in saying (0x82 ∷ 1 ∷ []) (leaving (with_core (with_wen false r.chip.core) r.chip) r))

-- the tick that suspends a job costs WEN
abbrev pub suspending_costs_wen : Model
suspending_costs_wen =
    except (λ c kind says. on_wait c kind)
    (λ c m area kind body.
    let r : Reply = ours c m area kind body in
    cond r.chip.core.suspended (leaving (with_core (with_wen false r.chip.core) r.chip) r) r)

-- a program or an erase in suspension is told this in place of 2, and does not begin
abbrev pub turns_away : ℕ → Model
turns_away v =
    except (λ c kind says. ends 2 c says && c.core.suspended)
    (λ c m area kind body. let r : Reply = ours c m area kind body in saying (0x82 ∷ v ∷ []) (leaving (with_held c.held (with_core (with_armed false c.core) r.chip)) r))

-- a run from suspension whose first record is a verdict writes 12 for it
abbrev pub writes_twelve : Runner
writes_twelve c m area s out =
    let r : RunReply = our_run c m area s out in
    record {
      chip = r.chip;
      memory = r.memory;
      output = cond (c.core.suspended && leb 2 r.written && eqb (get_or r.output 0 0) 0x82) (set r.output 1 12) r.output;
      refusal = r.refusal;
      offset = r.offset;
      written = r.written;
      ticks = r.ticks;
    }

-- ---- wrong deselects

-- ours with another body at 03h
abbrev pub deselecting : (ℕ → ℕ) → Model
deselecting other c m area kind body = ours c m area kind (cond (eqb kind 0x03) (other body) body)

-- the byte boundary is taken for one loose bit
abbrev pub boundary_is_loose : Model
boundary_is_loose = deselecting (λ bits. cond (eqb bits 0) 1 bits)

-- eight loose bits are accepted
abbrev pub takes_eight : Model
takes_eight = deselecting (λ bits. cond (eqb bits 8) 7 bits)

-- of a large body the low byte is looked at
abbrev pub cuts_the_body : Model
cuts_the_body = deselecting (λ bits. bits % 256)

-- 08h with 1 to 7 bits is still a loose deselect
abbrev pub knows08h : Model
knows08h c m area kind body = ours c m area (cond (eqb kind 0x08 && leb 1 body && leb body 7) 0x03 kind) body

-- a run that takes 03h for an event of one byte: a 00h is put in behind each of them; the number says how many bytes of a body are still to come
unfoldable pub bodied : ℕ → List ℕ → List ℕ
bodied n [] = []
bodied zero (kind ∷ s) = kind ∷ cond (eqb kind 0x03) (0 ∷ bodied 0 s) (bodied (body_length kind) s)
bodied (suc n) (b ∷ s) = b ∷ bodied n s

abbrev pub body_uncounted : Runner
body_uncounted c m area s out = our_run c m area (bodied 0 s) out

-- ---- wrong stamps

-- a run as ours, but for its first bad event and for the events that it applies
abbrev pub answering : Refusal → List Event → Runner
answering bad es c m area s out =
    let r : Refusal =
    cond (not (permitted (length m))) (refusal_of 1 0)
    (cond (ltb longest_area (length area)) (refusal_of 13 0)
    (cond (not (legal c (length m))) (refusal_of 2 0)
    (cond (ltb 65536 (length s)) (refusal_of 3 0)
    (cond (not (eqb bad.number 0)) bad
    (cond (ltb (length out) (room (events s))) (refusal_of 7 0) (refusal_of 0 0)))))) in
    let w : World = runs (setting_of (length m) area) es (world c m [] 0) in
    ran (cond (eqb r.number 0) (done w) (refused c r)) (cond (eqb r.number 0) w.memory m)
    (cond (eqb r.number 0) (w.written ++ drop (length w.written) out) out)

-- the first bad event and the events applied, as ours has them, where the clock has rules of its own: where an event leaves it, whether a stamp went back, and the ticks that it gives
unfoldable pub first_bad_by : (Clock → Event → Clock) → (Clock → ℕ → Bool) → Clock → List Event → Refusal
first_bad_by leaves back k [] = refusal_of 0 0
first_bad_by leaves back k (e ∷ es) =
    let fault : ℕ = cond (eqb e.fault 0) (cond (is_stamp e && back k e.body) 8 0) e.fault in
    cond (eqb fault 0) (first_bad_by leaves back (leaves k e) es) (refusal_of fault e.offset)

unfoldable pub timed_by : (Clock → Event → Clock) → (Clock → ℕ → ℕ) → Clock → List Event → List Event
timed_by leaves gives k [] = []
timed_by leaves gives k (e ∷ es) = cond (is_stamp e) (ticks_given e (gives k e.body)) (e ∷ []) ++ timed_by leaves gives (leaves k e) es

-- a run by such a clock, not set at its start; by `clock_after`, `went_back` and `moved_on` it is ours
abbrev pub clocked : (Clock → Event → Clock) → (Clock → ℕ → Bool) → (Clock → ℕ → ℕ) → Runner
clocked leaves back gives c m area s out = answering (first_bad_by leaves back unset (events s)) (timed_by leaves gives unset (events s)) c m area s out

-- the first stamp of a run gives as many ticks as it shows
abbrev pub first_stamp_ticks : Runner
first_stamp_ticks = clocked clock_after went_back (λ k stamp. cond (is_some k.last) (moved_on k stamp) stamp)

-- a power cut clears the clock
abbrev pub clock_dies_with_power : Runner
clock_dies_with_power = clocked (λ k e. cond (eqb e.kind 0x07) unset (clock_after k e)) went_back moved_on

-- a move of 32,768 is accepted
abbrev pub takes_half_way : Runner
takes_half_way = clocked clock_after (λ k stamp. ltb 32768 (moved_on k stamp)) moved_on

-- a stamp below the last one went back, however little the counter moved on
abbrev pub never_rolls_over : Runner
never_rolls_over = clocked clock_after (λ k stamp. went_back k stamp || is_some k.last && ltb stamp (unwrap_or k.last 0)) moved_on

-- a stamp alone is an event too: it does nothing
abbrev pub knows09h_alone : Model
knows09h_alone c m area kind body =
    let r : Reply = ours c m area kind body in
    cond (eqb r.refusal 5 && eqb kind 0x09 && leb body 65535) (reply c m [] 0) r

-- ---- our three earlier versions

-- the first: a read that has passed the memory's end gives FFh, until it comes back to its address
abbrev pub first_reads : Model
first_reads c m area kind body =
    except (λ c' kind' says. drives says && reads_cells c' && ltb c'.frame.place (c'.frame.address % length m)) (λ c' m' area' kind' body'. saying (0x81 ∷ 0xFF ∷ []) (ours c' m' area' kind' body')) c m area kind body

-- the first: a data byte past offset 255 does not fold back into its page
abbrev pub first_loads : Model
first_loads =
    except (λ c kind says. on_data c kind && ltb c.frame.slot (c.frame.address % 256)) (λ c m area kind body. let r : Reply = ours c m area kind body in leaving (with_load c.load r.chip) r)

-- the second: the first 256 bytes of a long load are kept
abbrev pub second_loads : Model
second_loads =
    except (λ c kind says. on_data c kind && eqb c.frame.count 6 && eqb c.frame.slot (c.frame.address % 256)) (λ c m area kind body. leaving c (ours c m area kind body))

-- the second: a program that is refused costs WEN
abbrev pub second_wen : Model
second_wen = costs_wen (λ c says. c.frame.selected && programs c && (eqb (get_or says 0 0) 0x82 && ltb 2 (get_or says 1 0) || tells_sectors c says))

-- the third: an erase is done in the moment that begins it
abbrev pub third_erases : Model
third_erases =
    except (λ c kind says. ends 2 c says && erases c)
    (λ c m area kind body.
    let r : Reply = ours c m area kind body in
    counting 0 (saying r.says (ours r.chip r.memory area 0x05 (steps_left r.chip m))))

-- the third: a suspend finds nothing
abbrev pub third_suspends : Model
third_suspends =
    except (λ c kind says. suspends c says)
    (λ c m area kind body. let r : Reply = ours c m area kind body in saying (0x82 ∷ 11 ∷ []) (leaving (with_core (with_armed false c.core) r.chip) r))
