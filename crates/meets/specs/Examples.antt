-- Ten worked examples, P1 to P10, proved of the definitions: each a claim, all of them rows under one theorem, `worked-examples`.
use Rattle.std.specs.Prelude.{ℕ, zero, suc, ◌+◌, ◌%◌, ◌<◌, ◌≤◌, Bool, true, false, List, [], ◌∷◌, ◌++◌, ◌≡◌, refl, length, get_or, drop, None, Some}
use Rattle.std.proofs.Common.{sym, ap, subst, ◌∙◌, inr, zero-add, add-zero, arith}
use Rattle.std.specs.Int.Bits.{bit_and}
use Rattle.cells.specs.Cells.{sweep, later, blanked, anded}
use Rattle.cells.proofs.Laws.{sweep-changes, sweep-outside}
use Rattle.part.specs.Part.{Setting, setting}
use Rattle.kinds.specs.Kinds.{SELECT, EXCHANGE, DESELECT, TICK, TICKS, STAMP, known_in_script, kind_row_in, known_kind, kind_row}
use Rattle.commands.specs.Table.{row_of, row_in, fits_rule, is_read, is_program}
use Rattle.part.specs.Protection.{ends, protected_count, protected_sectors, is_protected}
use Rattle.chip.specs.declared.Core.{Core}
use Rattle.chip.specs.declared.JobKind.{JobKind}
use Rattle.chip.specs.Job.{steps, no_job}
use Rattle.chip.specs.Fields.{with_wen, with_job}
use Rattle.chip.specs.Chip.{whole, fresh, resting, empty_frame, status_byte}
use Rattle.job.specs.Tick.{tick_core, ticks_core, worked}
use Rattle.frame.specs.Frame.{judge, taken, exchanged}
use Rattle.verdict.specs.Verdict.{job_of, job_verdict, command_verdict, listed, verdict, record_of}
use Rattle.verdict.specs.Effect.{instantly, acted, settled, held_after}
use Rattle.event.specs.Event.{applied}
use Rattle.clock.specs.Clock.{unset, moved_on}
use Rattle.script.specs.Script.{Event, fault_at, walk, events_from, events, timed, room}
use Rattle.script.specs.Run.{World, world, runs}
use Rattle.script.proofs.Laws.{runs-add}
use Rattle.chip.specs.declared.JobKind.TheVariants.{Program, SmallErase}
use Rattle.demands.specs.Demand2.{Rows}
use Rattle.meets.specs.Stepwise.{UnderWay, AllSpare, worked_by, k_steps}

-- ---- how a row is written

-- exchanges of these bytes; a frame of them, closed on the byte boundary
abbrev pub exchanges : List ℕ → List ℕ
exchanges [] = []
exchanges (b ∷ bs) = EXCHANGE ∷ b ∷ exchanges bs

abbrev pub frame : List ℕ → List ℕ
frame bs = SELECT ∷ (exchanges bs ++ (DESELECT ∷ 0 ∷ []))

-- the smallest part, with an empty area
abbrev pub one : Setting
one = setting 1 []

-- a script run from a fresh state of that status byte, on S sectors with memory m and an empty area
abbrev pub played : ℕ → ℕ → List ℕ → List ℕ → World
played S status s m = runs (setting S []) (timed unset (events s)) (world (fresh status) m [] 0)

-- P1: a read of two bytes at the top address of the real part drives its last cell and then its first (RULES, Commands)
abbrev pub P1 : Type 0
P1 =
    (m : List ℕ)
    → (played 32 0x00 (frame (0x03 ∷ 0x1F ∷ 0xFF ∷ 0xFF ∷ 0 ∷ 0 ∷ [])) m).written
    ≡ 0x80 ∷ 0x80 ∷ 0x80 ∷ 0x80 ∷ 0x81 ∷ get_or m 2097151 0 ∷ 0x81 ∷ get_or m 0 0 ∷ 0x82 ∷ 0 ∷ []

p1 : P1
unfolding runs timed events_from walk fault_at known_kind known_in_script kind_row kind_row_in applied exchanged taken judge fresh row_of row_in is_program verdict record_of listed is_read settled acted held_after status_byte
p1 m = refl

-- P2: 260 data bytes from offset 250 of a page: six offsets of the load, some of them written twice (RULES, Commands)
abbrev pub counting : ℕ → ℕ → List ℕ
counting zero j = []
counting (suc n) j = j % 251 ∷ counting n (suc j)

abbrev pub at : List ℕ → List ℕ → List ℕ
at [] load = []
at (i ∷ is) load = get_or load i 0 ∷ at is load

abbrev pub P2 : Type 0
P2 =
    (m : List ℕ)
    → at (250 ∷ 253 ∷ 254 ∷ 255 ∷ 0 ∷ 249 ∷ []) (played 1 0x00 (SELECT ∷ exchanges (0x02 ∷ 0x00 ∷ 0x00 ∷ 0xFA ∷ counting 260 0)) m).chip.load
    ≡ 5 ∷ 8 ∷ 4 ∷ 5 ∷ 6 ∷ 4 ∷ []

p2 : P2
unfolding runs timed events_from walk fault_at known_kind known_in_script kind_row kind_row_in applied exchanged taken judge fresh row_of row_in is_program
p2 m = refl

-- P3: the status byte once WEN is set, once a program runs, while a suspend waits for its tick, and once the program is suspended (RULES, Status)
abbrev pub status_after : List ℕ → List ℕ → ℕ
status_after s m = status_byte (played 1 0x00 s m).chip.core

abbrev pub programs : List ℕ
programs = frame (0x06 ∷ []) ++ frame (0x02 ∷ 0 ∷ 0 ∷ 0 ∷ 0x0F ∷ [])

abbrev pub P3 : Type 0
P3 =
    (m : List ℕ)
    → (status_after (frame (0x06 ∷ [])) m ≡ 0x02)
    × (status_after programs m ≡ 0x03)
    × (status_after (programs ++ frame (0xB0 ∷ [])) m ≡ 0x03)
    × (status_after (programs ++ (frame (0xB0 ∷ []) ++ (TICK ∷ []))) m ≡ 0x42)

-- P4: a write status of FFh takes five bits, and clears WEN (RULES, Status)
abbrev pub P4 : Type 0
P4 = (m : List ℕ) → status_after (frame (0x06 ∷ []) ++ (frame (0x01 ∷ 0xFF ∷ []) ++ (TICK ∷ []))) m ≡ 0xBC

p4 : P4
unfolding runs timed events_from walk fault_at known_kind known_in_script kind_row kind_row_in applied exchanged taken judge fresh row_of row_in is_program verdict record_of listed is_read command_verdict job_verdict job_of fits_rule settled acted held_after instantly status_byte ticks_core tick_core worked
p4 m = refl

-- P6: at level 1, TB 0, the real part's top sector, 31, is protected and the one below it free: an erase is told so in the one and begins in the other (RULES, Protection)
abbrev pub P6 : Type 0
P6 =
    (m : List ℕ)
    → ((played 32 0x04 (frame (0x06 ∷ []) ++ frame (0xD8 ∷ 0x1F ∷ 0x00 ∷ 0x00 ∷ [])) m).written ≡ 0x80 ∷ 0x82 ∷ 1 ∷ 0x80 ∷ 0x80 ∷ 0x80 ∷ 0x80 ∷ 0x83 ∷ 31 ∷ 31 ∷ [])
    × ((played 32 0x04 (frame (0x06 ∷ []) ++ frame (0xD8 ∷ 0x1E ∷ 0xFF ∷ 0xFF ∷ [])) m).written ≡ 0x80 ∷ 0x82 ∷ 1 ∷ 0x80 ∷ 0x80 ∷ 0x80 ∷ 0x80 ∷ 0x82 ∷ 2 ∷ [])

p6 : P6
unfolding runs timed events_from walk fault_at known_kind known_in_script kind_row kind_row_in applied exchanged taken judge fresh row_of row_in is_program verdict record_of listed is_read command_verdict job_verdict job_of fits_rule settled acted held_after instantly protected_sectors protected_count
p6 m = (refl, refl)

-- P7: a part of one sector is protected whole at level 5: sectors 0 to 0 (RULES, Protection)
abbrev pub P7 : Type 0
P7 =
    ((tb : Bool) (x : ℕ) → x < 1 → is_protected 5 tb 1 x ≡ true)
    × ((m : List ℕ)
    → (played 1 0x14 (frame (0x06 ∷ []) ++ frame (0x20 ∷ 0x00 ∷ 0xF0 ∷ 0x00 ∷ [])) m).written ≡ 0x80 ∷ 0x82 ∷ 1 ∷ 0x80 ∷ 0x80 ∷ 0x80 ∷ 0x80 ∷ 0x83 ∷ 0 ∷ 0 ∷ [])

p7 : P7
unfolding runs timed events_from walk fault_at known_kind known_in_script kind_row kind_row_in applied exchanged taken judge fresh row_of row_in is_program verdict record_of listed is_read command_verdict job_verdict job_of fits_rule settled acted held_after instantly protected_sectors protected_count
p7 = (sectors_all, λ m. refl)
  where
    only : (tb : Bool) → is_protected 5 tb 1 0 ≡ true
    only true = refl
    only false = refl

    sectors_all : (tb : Bool) (x : ℕ) → x < 1 → is_protected 5 tb 1 x ≡ true
    sectors_all tb x h = let none : x ≡ 0 = omega arith in subst (λ (y : ℕ). is_protected 5 tb 1 y ≡ true) (sym none) (only tb)

-- P8: a status read between reset enable and reset disarms (RULES, Verdicts)
abbrev pub P8 : Type 0
P8 =
    (m : List ℕ)
    → (played 1 0x00 (frame (0x66 ∷ []) ++ (frame (0x05 ∷ []) ++ frame (0x99 ∷ []))) m).written ≡ 0x80 ∷ 0x82 ∷ 1 ∷ 0x80 ∷ 0x82 ∷ 0 ∷ 0x80 ∷ 0x82 ∷ 11 ∷ []

p8 : P8
unfolding runs timed events_from walk fault_at known_kind known_in_script kind_row kind_row_in applied exchanged taken judge fresh row_of row_in is_program verdict record_of listed is_read command_verdict job_verdict job_of fits_rule settled acted held_after instantly status_byte
p8 m = refl

-- P10: an erase with two address bytes has the wrong length (RULES, Verdicts)
abbrev pub P10 : Type 0
P10 = (m : List ℕ) → (played 1 0x00 (frame (0x20 ∷ 0x00 ∷ 0x00 ∷ [])) m).written ≡ 0x80 ∷ 0x80 ∷ 0x80 ∷ 0x82 ∷ 4 ∷ []

p10 : P10
unfolding runs timed events_from walk fault_at known_kind known_in_script kind_row kind_row_in applied exchanged taken judge fresh row_of row_in is_program verdict record_of listed is_read fits_rule settled acted held_after
p10 m = refl

-- ---- P5 and P9, on any memory: the job begun by a frame, and n ticks of it

-- the event of n ticks
abbrev pub ticks : ℕ → Event
ticks n = record { offset = 0; kind = TICKS; body = n; fault = 0 }

spared : (n : ℕ) (w : World) → AllSpare one (ticks n ∷ []) w
unfolding AllSpare
spared n w = (record { no_power_cut = λ e. omega arith; deselect_spares = λ e. absurd (omega arith) }, tt)

-- P5: a cell that holds F0h and is programmed with 0Fh holds no bit any more (RULES, Jobs)
abbrev pub programming : List ℕ → World
programming m = played 1 0x00 programs m

abbrev pub P5 : Type 0
P5 = (m : List ℕ) → length m ≡ 65536 → get_or m 0 0 ≡ 0xF0 → get_or (runs one (ticks 16 ∷ []) (programming m)).memory 0 0 ≡ 0x00

-- P9: a small sector erase one tick before its end and at its end, cells and status (RULES, Jobs)
abbrev pub erasing : List ℕ → World
erasing m = played 1 0x00 (frame (0x06 ∷ []) ++ frame (0x20 ∷ 0 ∷ 0 ∷ 0 ∷ [])) m

abbrev pub P9 : Type 0
P9 =
    (m : List ℕ) → length m ≡ 65536
    → ((i : ℕ) → i < 3840 → get_or (runs one (ticks 15 ∷ []) (erasing m)).memory i 0 ≡ 0xFF)
    × ((i : ℕ) → 3840 ≤ i → get_or (runs one (ticks 15 ∷ []) (erasing m)).memory i 0 ≡ get_or m i 0)
    × (status_byte (runs one (ticks 15 ∷ []) (erasing m)).chip.core ≡ 0x03)
    × ((i : ℕ) → i < 4096 → get_or (runs one (ticks 16 ∷ []) (erasing m)).memory i 0 ≡ 0xFF)
    × ((i : ℕ) → 4096 ≤ i → get_or (runs one (ticks 16 ∷ []) (erasing m)).memory i 0 ≡ get_or m i 0)
    × (status_byte (runs one (ticks 16 ∷ []) (erasing m)).chip.core ≡ 0x00)

-- the core that a begun job leaves, of that kind and with start 0
abbrev begun_core : JobKind → Core
begun_core kind = with_wen true (with_job (record { kind = kind; start = 0; done = 0 }) resting)

-- n ticks of it, at the core
ticked-core : (n : ℕ) (w : World) → (runs one (ticks n ∷ []) w).chip.core ≡ ticks_core 1 n w.chip.core
unfolding runs applied
ticked-core n w = refl

ticked-works : (n : ℕ) (w : World) → worked_by one (ticks n ∷ []) w ≡ worked 1 n w.chip.core
unfolding worked_by applied
ticked-works n w = add-zero (worked 1 n w.chip.core)

-- and at the memory, where all of them work
ticked-memory : (n : ℕ) (kind : JobKind) (w : World) → UnderWay one kind 0 w.chip.held 0 w → worked 1 n w.chip.core ≡ n
    → (runs one (ticks n ∷ []) w).memory ≡ steps kind 0 w.chip.held 0 n w.memory
ticked-memory n kind w job e =
    (k_steps one kind 0 w.chip.held 0 w job (ticks n ∷ []) (spared n w)).memory_is
    ∙ ap (λ (k : ℕ). steps kind 0 w.chip.held 0 k w.memory) (ticked-works n w ∙ e)

erasing-core : (m : List ℕ) → (erasing m).chip.core ≡ begun_core SmallErase
unfolding runs timed events_from walk fault_at known_kind known_in_script kind_row kind_row_in applied exchanged taken judge fresh row_of row_in is_program verdict record_of listed is_read command_verdict job_verdict job_of fits_rule settled acted held_after instantly protected_sectors protected_count
erasing-core m = refl

erasing-memory : (m : List ℕ) → (erasing m).memory ≡ m
unfolding runs timed events_from walk fault_at known_kind known_in_script kind_row kind_row_in applied exchanged taken judge fresh row_of row_in is_program verdict record_of listed is_read command_verdict job_verdict job_of fits_rule settled acted held_after instantly protected_sectors protected_count
erasing-memory m = refl

erasing-job : (m : List ℕ) → UnderWay one SmallErase 0 (erasing m).chip.held 0 (erasing m)
erasing-job m = record { job_is = ap (λ (k : Core). k.job) (erasing-core m); load_is = refl; steps_left_lem = omega arith }

closed_works : (worked 1 15 (begun_core SmallErase) ≡ 15) × (worked 1 16 (begun_core SmallErase) ≡ 16) × (worked 1 16 (begun_core Program) ≡ 16)
    × (status_byte (ticks_core 1 15 (begun_core SmallErase)) ≡ 0x03) × (status_byte (ticks_core 1 16 (begun_core SmallErase)) ≡ 0x00)
unfolding worked ticks_core tick_core status_byte
closed_works = (refl, refl, refl, refl, refl)

erased : (n : ℕ) (m : List ℕ) → worked 1 n (begun_core SmallErase) ≡ n → (runs one (ticks n ∷ []) (erasing m)).memory ≡ steps SmallErase 0 (erasing m).chip.held 0 n m
erased n m e =
    ticked-memory n SmallErase (erasing m) (erasing-job m) (ap (worked 1 n) (erasing-core m) ∙ e)
    ∙ ap (steps SmallErase 0 (erasing m).chip.held 0 n) (erasing-memory m)

erased_status : (n v : ℕ) (m : List ℕ) → status_byte (ticks_core 1 n (begun_core SmallErase)) ≡ v → status_byte (runs one (ticks n ∷ []) (erasing m)).chip.core ≡ v
erased_status n v m e = ap status_byte (ticked-core n (erasing m) ∙ ap (ticks_core 1 n) (erasing-core m)) ∙ e

p9 : P9
p9 m h =
    let a = erased 15 m closed_works.0 in
    let b = erased 16 m closed_works.1 in (
      λ i l. ap (λ (q : List ℕ). get_or q i 0) a ∙ blank_below 3840 m i l (omega arith),
      λ i l. ap (λ (q : List ℕ). get_or q i 0) a ∙ sweep-outside (later blanked 0) m 0 3840 i (inr (omega arith)),
      erased_status 15 0x03 m closed_works.3,
      λ i l. ap (λ (q : List ℕ). get_or q i 0) b ∙ blank_below 4096 m i l (omega arith),
      λ i l. ap (λ (q : List ℕ). get_or q i 0) b ∙ sweep-outside (later blanked 0) m 0 4096 i (inr (omega arith)),
      erased_status 16 0x00 m closed_works.4,
    )
  where
    blank_below : (n : ℕ) (m : List ℕ) (i : ℕ) → i < n → i < length m → get_or (sweep (later blanked 0) m 0 n) i 0 ≡ 0xFF
    blank_below n m i l k =
        ap (λ (q : ℕ). get_or (sweep (later blanked 0) m 0 n) q 0) (sym (zero-add i)) ∙ sweep-changes (later blanked 0) m 0 n i l (omega arith)

programming-core : (m : List ℕ) → (programming m).chip.core ≡ begun_core Program
unfolding runs timed events_from walk fault_at known_kind known_in_script kind_row kind_row_in applied exchanged taken judge fresh row_of row_in is_program verdict record_of listed is_read command_verdict job_verdict job_of fits_rule settled acted held_after instantly protected_sectors protected_count
programming-core m = refl

programming-memory : (m : List ℕ) → (programming m).memory ≡ m
unfolding runs timed events_from walk fault_at known_kind known_in_script kind_row kind_row_in applied exchanged taken judge fresh row_of row_in is_program verdict record_of listed is_read command_verdict job_verdict job_of fits_rule settled acted held_after instantly protected_sectors protected_count
programming-memory m = refl

programming-load : (m : List ℕ) → get_or (programming m).chip.held 0 0 ≡ 0x0F
unfolding runs timed events_from walk fault_at known_kind known_in_script kind_row kind_row_in applied exchanged taken judge fresh row_of row_in is_program verdict record_of listed is_read command_verdict job_verdict job_of fits_rule settled acted held_after instantly protected_sectors protected_count
programming-load m = refl

programming-job : (m : List ℕ) → UnderWay one Program 0 (programming m).chip.held 0 (programming m)
programming-job m = record { job_is = ap (λ (k : Core). k.job) (programming-core m); load_is = refl; steps_left_lem = omega arith }

p5 : P5
p5 m h c =
    ap (λ (q : List ℕ). get_or q 0 0)
    (ticked-memory 16 Program (programming m) (programming-job m) (ap (worked 1 16) (programming-core m) ∙ closed_works.2)
    ∙ ap (steps Program 0 (programming m).chip.held 0 16) (programming-memory m))
    ∙ sweep-changes (later (anded (programming m).chip.held) 0) m 0 256 0 (omega arith) (omega arith)
    ∙ ap (λ (old : ℕ). bit_and old (get_or (programming m).chip.held 0 0)) c
    ∙ ap (bit_and 0xF0) (programming-load m)

-- ---- P3, on any memory: the program of P5, then the frame that suspends it

programming-frame : (m : List ℕ) → (programming m).chip.frame ≡ empty_frame
unfolding runs timed events_from walk fault_at known_kind known_in_script kind_row kind_row_in applied exchanged taken judge fresh row_of row_in is_program verdict record_of listed is_read command_verdict job_verdict job_of fits_rule settled acted held_after instantly protected_sectors protected_count
programming-frame m = refl

begun-status : status_byte (begun_core Program) ≡ 0x03
unfolding status_byte
begun-status = refl

enabled-status : (m : List ℕ) → status_after (frame (0x06 ∷ [])) m ≡ 0x02
unfolding runs timed events_from walk fault_at known_kind known_in_script kind_row kind_row_in applied exchanged taken judge fresh row_of row_in is_program verdict record_of listed is_read command_verdict job_verdict job_of fits_rule settled acted held_after instantly status_byte
enabled-status m = refl

-- what comes after the program has begun: its events, and that they come after those that began it
abbrev afterwards : List ℕ → List Event
afterwards tail = timed unset (events_from (programs ++ tail) (length programs))

abbrev InTwo : List ℕ → Type 0
InTwo tail = timed unset (events (programs ++ tail)) ≡ timed unset (events programs) ++ afterwards tail

-- so its core is what they make of the begun program, whatever the loads and the memory are
then_core : {A : Type 0} (g : Core → A) (tail : List ℕ) (x : A) → InTwo tail
    → ((load held m written : List ℕ) (ticks : ℕ) → g (runs one (afterwards tail) (world (whole (begun_core Program) empty_frame load held) m written ticks)).chip.core ≡ x)
    → (m : List ℕ) → g (played 1 0x00 (programs ++ tail) m).chip.core ≡ x
then_core g tail x in_two shows m =
    let w : World = programming m in
    ap (λ (es : List Event). g (runs one es (world (fresh 0x00) m [] 0)).chip.core) in_two
    ∙ ap (λ (x : World). g x.chip.core) (runs-add one (timed unset (events programs)) (afterwards tail) (world (fresh 0x00) m [] 0))
    ∙ (λ i. g (runs one (afterwards tail) (world (whole (programming-core m i) (programming-frame m i) w.chip.load w.chip.held) w.memory w.written w.ticks)).chip.core)
    ∙ shows w.chip.load w.chip.held w.memory w.written w.ticks

p3 : P3
unfolding runs timed events_from walk fault_at known_kind known_in_script kind_row kind_row_in applied exchanged taken judge fresh row_of row_in is_program verdict record_of listed is_read command_verdict job_verdict job_of fits_rule settled acted held_after instantly status_byte ticks_core tick_core
p3 m = (
  enabled-status m,
  ap status_byte (programming-core m) ∙ begun-status,
  then_core status_byte (frame (0xB0 ∷ [])) 0x03 refl (λ load held m written ticks. refl) m,
  then_core status_byte (frame (0xB0 ∷ []) ++ (TICK ∷ [])) 0x42 refl (λ load held m written ticks. refl) m,
)

-- ---- a suspend takes one more tick (RULES, Jobs)

-- a begun program, that many ticks, B0h, and one tick more
abbrev pub suspended_after : ℕ → List ℕ → Core
suspended_after n m = (played 1 0x00 (programs ++ (TICKS ∷ 0 ∷ n ∷ (frame (0xB0 ∷ []) ++ (TICK ∷ [])))) m).chip.core

-- With 3 steps done the tick does the fourth, and the program is suspended. With 15 done it does the last: the program has ended, WEN is 0, and nothing is suspended.
pub suspend-takes_a_tick : (m : List ℕ)
    → ((suspended_after 3 m).job ≡ record { kind = Program; start = 0; done = 4 })
    × (status_byte (suspended_after 3 m) ≡ 0x42)
    × ((suspended_after 15 m).job ≡ no_job)
    × (status_byte (suspended_after 15 m) ≡ 0x00)
unfolding runs timed events_from walk fault_at known_kind known_in_script kind_row kind_row_in applied exchanged taken judge fresh row_of row_in is_program verdict record_of listed is_read command_verdict job_verdict job_of fits_rule settled acted held_after instantly status_byte ticks_core tick_core
suspend-takes_a_tick m = (
  then_core (λ k. k.job) (TICKS ∷ 0 ∷ 3 ∷ (frame (0xB0 ∷ []) ++ (TICK ∷ []))) _ refl (λ load held m written ticks. refl) m,
  then_core status_byte (TICKS ∷ 0 ∷ 3 ∷ (frame (0xB0 ∷ []) ++ (TICK ∷ []))) _ refl (λ load held m written ticks. refl) m,
  then_core (λ k. k.job) (TICKS ∷ 0 ∷ 15 ∷ (frame (0xB0 ∷ []) ++ (TICK ∷ []))) _ refl (λ load held m written ticks. refl) m,
  then_core status_byte (TICKS ∷ 0 ∷ 15 ∷ (frame (0xB0 ∷ []) ++ (TICK ∷ []))) _ refl (λ load held m written ticks. refl) m,
)

-- ---- in suspension WEN is 1 (RULES, Verdicts)

-- a begun program that is suspended, and then a frame of these bytes
abbrev in_suspension : List ℕ → List ℕ
in_suspension bs = frame (0xB0 ∷ []) ++ (TICK ∷ frame bs)

-- A write disable leaves it suspended with WEN 1. An erase begins there; so does a program, and both run in its place.
pub wen_stays_on : (m : List ℕ)
    → (status_after (programs ++ in_suspension (0x04 ∷ [])) m ≡ 0x42)
    × (status_after (programs ++ in_suspension (0x20 ∷ 0 ∷ 0 ∷ 0 ∷ [])) m ≡ 0x03)
    × (status_after (programs ++ in_suspension (0x02 ∷ 0 ∷ 0 ∷ 0 ∷ 0x5A ∷ [])) m ≡ 0x03)
unfolding runs timed events_from walk fault_at known_kind known_in_script kind_row kind_row_in applied exchanged taken judge fresh row_of row_in is_program verdict record_of listed is_read command_verdict job_verdict job_of fits_rule settled acted held_after instantly protected_sectors protected_count status_byte ticks_core tick_core
wen_stays_on m = (
  then_core status_byte (in_suspension (0x04 ∷ [])) _ refl (λ load held m written ticks. refl) m,
  then_core status_byte (in_suspension (0x20 ∷ 0 ∷ 0 ∷ 0 ∷ [])) _ refl (λ load held m written ticks. refl) m,
  then_core status_byte (in_suspension (0x02 ∷ 0 ∷ 0 ∷ 0 ∷ 0x5A ∷ [])) _ refl (λ load held m written ticks. refl) m,
)

-- ---- stamps as ticks (RULES, Stamps)

-- Two stamps 16 apart see a program through, with the roll-over between them; after 15 of the ticks it still runs.
pub stamps_see_it_through : (m : List ℕ)
    → (status_after (programs ++ (STAMP ∷ 0xFF ∷ 0xF8 ∷ STAMP ∷ 0x00 ∷ 0x08 ∷ [])) m ≡ 0x00)
    × (status_after (programs ++ (STAMP ∷ 0xFF ∷ 0xF8 ∷ STAMP ∷ 0x00 ∷ 0x07 ∷ [])) m ≡ 0x03)
unfolding runs timed moved_on events_from walk fault_at known_kind known_in_script kind_row kind_row_in applied exchanged taken judge fresh row_of row_in is_program verdict record_of listed is_read command_verdict job_verdict job_of fits_rule settled acted held_after instantly status_byte ticks_core tick_core
stamps_see_it_through m = (
  then_core status_byte (STAMP ∷ 0xFF ∷ 0xF8 ∷ STAMP ∷ 0x00 ∷ 0x08 ∷ []) _ refl (λ load held m written ticks. refl) m,
  then_core status_byte (STAMP ∷ 0xFF ∷ 0xF8 ∷ STAMP ∷ 0x00 ∷ 0x07 ∷ []) _ refl (λ load held m written ticks. refl) m,
)

-- ---- all of them under one claim

-- P1 to P10 hold of the definitions.
pub worked-examples : Rows (P1 ∷ P2 ∷ P3 ∷ P4 ∷ P5 ∷ P6 ∷ P7 ∷ P8 ∷ P9 ∷ P10 ∷ [])
worked-examples = (p1, (p2, (p3, (p4, (p5, (p6, (p7, (p8, (p9, (p10, tt))))))))))

-- ---- which sectors were in the way (RULES, Protection; Records)

-- the real part's protected sectors, level by level: its top ones with TB 0, its bottom ones with TB 1
pub real_part_sectors : Rows
    ((protected_sectors 0 false 32 ≡ None)
    ∷ (protected_sectors 1 false 32 ≡ Some (ends 31 31))
    ∷ (protected_sectors 2 false 32 ≡ Some (ends 30 31))
    ∷ (protected_sectors 3 false 32 ≡ Some (ends 28 31))
    ∷ (protected_sectors 4 false 32 ≡ Some (ends 24 31))
    ∷ (protected_sectors 5 false 32 ≡ Some (ends 16 31))
    ∷ (protected_sectors 6 false 32 ≡ Some (ends 0 31))
    ∷ (protected_sectors 7 false 32 ≡ Some (ends 0 31))
    ∷ (protected_sectors 0 true 32 ≡ None)
    ∷ (protected_sectors 1 true 32 ≡ Some (ends 0 0))
    ∷ (protected_sectors 2 true 32 ≡ Some (ends 0 1))
    ∷ (protected_sectors 3 true 32 ≡ Some (ends 0 3))
    ∷ (protected_sectors 4 true 32 ≡ Some (ends 0 7))
    ∷ (protected_sectors 5 true 32 ≡ Some (ends 0 15))
    ∷ (protected_sectors 6 true 32 ≡ Some (ends 0 31))
    ∷ (protected_sectors 7 true 32 ≡ Some (ends 0 31))
    ∷ [])
unfolding protected_sectors protected_count
real_part_sectors = (refl, (refl, (refl, (refl, (refl, (refl, (refl, (refl, (refl, (refl, (refl, (refl, (refl, (refl, (refl, (refl, tt))))))))))))))))

-- write enable and then a frame of these bytes, at that level and TB, on S sectors: what the frame is told at its deselect
abbrev pub told_at : ℕ → ℕ → List ℕ → List ℕ → List ℕ
told_at S status bs m = drop (3 + length bs) (played S status (frame (0x06 ∷ []) ++ frame bs) m).written

-- All that is protected is told, whatever the target: of a chip erase at level 3 on 8 sectors, with TB 0 and TB 1; of a program in sector 7 where 0 to 15 are protected; of an
-- erase in the top sector where the top four are.
pub told-sectors : (m : List ℕ)
    → (told_at 8 0x0C (0x60 ∷ []) m ≡ 0x83 ∷ 4 ∷ 7 ∷ [])
    × (told_at 8 0x2C (0x60 ∷ []) m ≡ 0x83 ∷ 0 ∷ 3 ∷ [])
    × (told_at 32 0x34 (0x02 ∷ 0x07 ∷ 0x00 ∷ 0x00 ∷ 0x5A ∷ []) m ≡ 0x83 ∷ 0 ∷ 15 ∷ [])
    × (told_at 32 0x0C (0x20 ∷ 0x1F ∷ 0xF0 ∷ 0x00 ∷ []) m ≡ 0x83 ∷ 28 ∷ 31 ∷ [])
unfolding runs timed events_from walk fault_at known_kind known_in_script kind_row kind_row_in applied exchanged taken judge fresh row_of row_in is_program verdict record_of listed is_read command_verdict job_verdict job_of fits_rule settled acted held_after instantly protected_sectors protected_count
told-sectors m = (refl, refl, refl, refl)

-- ---- the rule book's first worked exchange (RULES, Worked exchanges)

-- three bytes are programmed at 0000FEh and read back, with a status read before and after
abbrev pub worked_exchange : List ℕ
worked_exchange =
    frame (0x06 ∷ [])
    ++ (frame (0x02 ∷ 0x00 ∷ 0x00 ∷ 0xFE ∷ 0xA1 ∷ 0xA2 ∷ 0xA3 ∷ [])
    ++ (frame (0x05 ∷ 0 ∷ [])
    ++ ((TICKS ∷ 0 ∷ 16 ∷ []) ++ (frame (0x05 ∷ 0 ∷ []) ++ (frame (0x03 ∷ 0x00 ∷ 0x00 ∷ 0xFE ∷ 0 ∷ 0 ∷ []) ++ frame (0x03 ∷ 0x00 ∷ 0x00 ∷ 0x00 ∷ 0 ∷ []))))))

-- It writes 40 bytes of output, and has to be lent 64.
pub worked-exchange : (m : List ℕ) → (length (played 1 0x00 worked_exchange m).written ≡ 40) × (room (events worked_exchange) ≡ 64)
unfolding room runs timed events_from walk fault_at known_kind known_in_script kind_row kind_row_in applied exchanged taken judge fresh row_of row_in is_program verdict record_of listed is_read command_verdict job_verdict job_of fits_rule settled acted held_after instantly protected_sectors protected_count status_byte ticks_core tick_core worked
worked-exchange m = (refl, refl)
