-- Demand 2, of any model: each event does what the rule book says: the byte driven or the line left floating, the status bits, the verdict, the cells.
-- Opcodes, kinds and verdicts stand here as numbers; sizes, the table of commands, protection and a job's kinds are the rule book's own words.
use Rattle.std.specs.Prelude.{ℕ, ◌+◌, ◌*◌, ◌/◌, ◌%◌, ◌^◌, ◌-◌, ◌<◌, ◌≤◌, min, Bool, true, false, cond, not, ◌&&◌, ◌||◌, List, [], ◌∷◌, ◌++◌, ◌≡◌, eqb, leb, length, get_or, set, replicate}
use Rattle.part.specs.Part.{sectors_in}
use Rattle.part.specs.Protection.{protected_count, is_protected}
use Rattle.commands.specs.Table.{row_of, fits_rule}
use Rattle.chip.specs.declared.Chip.{Chip}
use Rattle.chip.specs.declared.Core.{Core}
use Rattle.chip.specs.declared.Frame.{Frame}
use Rattle.chip.specs.declared.JobKind.{JobKind}
use Rattle.chip.specs.declared.JobKind.TheVariants.{WriteStatus, Program, SmallErase, SectorErase, ChipErase}
use Rattle.chip.specs.Fields.{with_wen, with_suspended, with_waiting, with_wp, with_deep, with_armed, with_job, with_selected, with_address, with_place, with_slot, with_count}
use Rattle.chip.specs.Job.{is_job, has_cells, no_job}
use Rattle.chip.specs.Chip.{whole, empty_frame, blank_load, running, status_byte}
use Rattle.script.specs.Script.{Event}
use Rattle.script.specs.Run.{World, world}
use Rattle.demands.specs.Model.{Model, reply, event, sends, address, Good, Fit, does_by, runs_by}

-- ---- words

-- whether a number is among these
abbrev pub among : List ℕ → ℕ → Bool
among [] x = false
among (y ∷ ys) x = eqb x y || among ys x

-- a list of tests with their numbers, and the number of the first that holds
pub record Test : Type 0 where
  pub applies : Bool
  pub number : ℕ

abbrev pub test : ℕ → Bool → Test
test number applies = record { applies = applies; number = number }

abbrev pub first_of : List Test → ℕ → ℕ
first_of [] otherwise = otherwise
first_of (t ∷ ts) otherwise = cond t.applies t.number (first_of ts otherwise)

-- each row of a list holds
abbrev pub Rows : List (Type 0) → Type 0
Rows [] = Unit {0}
Rows (row ∷ rows) = row × Rows rows

-- ---- verdicts (RULES, Verdicts)

-- what stops an opcode at its byte: 3 unknown, 5 asleep and not ABh, 6 not while running, 7 not while suspended, 0 nothing
abbrev pub stops : Core → ℕ → List Test
stops k opcode =
    test 3 (not (row_of opcode).known)
    ∷ test 5 (k.deep && not (eqb opcode 0xAB))
    ∷ test 6 (running k && not (row_of opcode).running)
    ∷ test 7 (k.suspended && not (row_of opcode).suspended)
    ∷ []

abbrev pub stop_of : Core → ℕ → ℕ
stop_of k opcode = first_of (stops k opcode) 0

-- programs and erases inside one sector; chip erases; and the commands that begin a job
abbrev pub in_one_sector : ℕ → Bool
in_one_sector = among (0x02 ∷ 0x0A ∷ 0x20 ∷ 0xD7 ∷ 0xD8 ∷ [])

abbrev pub of_the_chip : ℕ → Bool
of_the_chip = among (0x60 ∷ 0xC7 ∷ [])

abbrev pub changes_cells : ℕ → Bool
changes_cells opcode = in_one_sector opcode || of_the_chip opcode

abbrev pub begins_job : ℕ → Bool
begins_job opcode = eqb opcode 0x01 || changes_cells opcode

-- the list from its top down, for a frame with judgement none, on a memory of n cells, if so many bits of a byte had gone in; what none of it takes is 1, done at once
abbrev pub rules_list : ℕ → Core → Frame → ℕ → List Test
rules_list n k f bits =
    stops k f.opcode
    ++ (test 0 (among (0x05 ∷ 0x03 ∷ 0x0B ∷ 0x9F ∷ 0x5A ∷ []) f.opcode)
    ∷ test 4 (leb 1 bits || not (fits_rule (row_of f.opcode).rule f.count))
    ∷ test 11 (eqb f.opcode 0xB0 && not (running k && has_cells k.job.kind))
    ∷ test 11 (eqb f.opcode 0xB0 && k.waiting)
    ∷ test 11 (eqb f.opcode 0x30 && not k.suspended)
    ∷ test 11 (eqb f.opcode 0x99 && not k.armed)
    ∷ test 8 (begins_job f.opcode && not k.wen)
    ∷ test 10 (eqb f.opcode 0x01 && k.srwp && not k.wp)
    ∷ test 9 (in_one_sector f.opcode && is_protected k.level k.tb (sectors_in n) (f.address % n / 65536))
    ∷ test 9 (of_the_chip f.opcode && not (eqb k.level 0))
    ∷ test 2 (begins_job f.opcode)
    ∷ [])

-- the verdict of a selected frame: 0 without a whole byte; its judgement, if it has one; otherwise the first of the list that applies
abbrev pub verdict_of : ℕ → Core → Frame → ℕ → ℕ
verdict_of n k f bits = cond (eqb f.count 0) 0 (cond (not (eqb f.judgement 0)) f.judgement (first_of (rules_list n k f bits) 1))

-- the protected sectors by their two ends: of S sectors the first so many with TB 1, the last so many with TB 0 (RULES, Protection)
abbrev pub first_protected : ℕ → Core → ℕ
first_protected S k = cond k.tb 0 (S - protected_count k.level S)

abbrev pub last_protected : ℕ → Core → ℕ
last_protected S k = cond k.tb (protected_count k.level S - 1) (S - 1)

-- what is said of a verdict: 82h and its number; of 9 it is 83h and the ends of all that is protected, whatever the target (RULES, Records)
abbrev pub says_verdict : ℕ → Core → ℕ → List ℕ
says_verdict n k v = cond (eqb v 9) (0x83 ∷ first_protected (sectors_in n) k ∷ last_protected (sectors_in n) k ∷ []) (0x82 ∷ v ∷ [])

-- ---- what a verdict does (RULES, Verdicts; Jobs)

-- a selected frame of a legal chip, at its deselect, with 0 to 7 bits of a byte gone in
pub record Ending (c : Chip) (m area : List ℕ) (bits : ℕ) : Type 0 where
  pub fit : Fit c m area
  pub selected : c.frame.selected ≡ true
  pub few : bits ≤ 7

-- the core and the job's load after a deselect that gives this verdict to a frame of this opcode
abbrev pub After : Model → ℕ → ℕ → (Chip → List ℕ → Core) → (Chip → List ℕ) → Type 0
After M verdict opcode core held =
    (c : Chip) (m area : List ℕ) (bits : ℕ) → Ending c m area bits → c.frame.opcode ≡ opcode
    → (M c m area 0x03 bits).says ≡ 0x82 ∷ verdict ∷ []
    → ((M c m area 0x03 bits).chip.core ≡ core c m) × ((M c m area 0x03 bits).chip.held ≡ held c)

-- verdict 1 of a command: what it changes of the core, and then it disarms; the job's load stays
abbrev pub AtOnce : Model → ℕ → (Core → Core) → Type 0
AtOnce M opcode change = After M 1 opcode (λ c m. with_armed false (change c.core)) (λ c. c.held)

-- command by command: a suspend only marks the job, which then waits for its tick; reset enable alone arms, and reset drops the job, its mark and its load
abbrev pub DoneAtOnce : Model → Type 0
DoneAtOnce M =
    Rows
    (AtOnce M 0x06 (with_wen true)
    ∷ AtOnce M 0x04 (with_wen false)
    ∷ AtOnce M 0xB0 (with_waiting true)
    ∷ AtOnce M 0x30 (with_suspended false)
    ∷ AtOnce M 0xAB (with_deep false)
    ∷ AtOnce M 0xB9 (with_deep true)
    ∷ After M 1 0x66 (λ c m. with_armed true c.core) (λ c. c.held)
    ∷ After M 1 0x99 (λ c m. with_armed false (with_wen false (with_suspended false (with_waiting false (with_job no_job c.core))))) (λ c. blank_load)
    ∷ [])

-- verdict 2 of a command: this job at step 0, neither suspended nor waiting, and unarmed; every other bit, WEN among them, as it was
abbrev pub Begun : Model → ℕ → (Frame → JobKind) → (ℕ → Frame → ℕ) → (Chip → List ℕ) → Type 0
Begun M opcode kind start load =
    After M 2 opcode
    (λ c m. with_armed false (with_suspended false (with_waiting false (with_job (record { kind = kind c.frame; start = start (length m) c.frame; done = 0 }) c.core)))) load

-- the address, on a memory of n cells, rounded down to a size
abbrev pub rounded : ℕ → ℕ → Frame → ℕ
rounded size n f = f.address % n / size * size

-- command by command: kind, place and load of the job; a write status takes the byte that came last into the address
abbrev pub JobsBegun : Model → Type 0
JobsBegun M =
    Rows
    (Begun M 0x01 (λ f. WriteStatus (f.address % 256)) (λ n f. 0) (λ c. blank_load)
    ∷ Begun M 0x02 (λ f. Program) (rounded 256) (λ c. c.load)
    ∷ Begun M 0x0A (λ f. Program) (rounded 256) (λ c. c.load)
    ∷ Begun M 0x20 (λ f. SmallErase) (rounded 4096) (λ c. blank_load)
    ∷ Begun M 0xD7 (λ f. SmallErase) (rounded 4096) (λ c. blank_load)
    ∷ Begun M 0xD8 (λ f. SectorErase) (rounded 65536) (λ c. blank_load)
    ∷ Begun M 0x60 (λ f. ChipErase) (λ n f. 0) (λ c. blank_load)
    ∷ Begun M 0xC7 (λ f. ChipErase) (λ n f. 0) (λ c. blank_load)
    ∷ [])

-- where neither is said no job, no bit and no load changes; a frame with a whole byte disarms
abbrev pub OtherVerdicts : Model → Type 0
OtherVerdicts M =
    (c : Chip) (m area : List ℕ) (bits : ℕ) → Ending c m area bits
    → ((M c m area 0x03 bits).says ≡ 0x82 ∷ 1 ∷ [] → ⊥) → ((M c m area 0x03 bits).says ≡ 0x82 ∷ 2 ∷ [] → ⊥)
    → ((M c m area 0x03 bits).chip.core ≡ cond (eqb c.frame.count 0) c.core (with_armed false c.core)) × ((M c m area 0x03 bits).chip.held ≡ c.held)

-- every deselect of a frame: what is said of its verdict, the empty frame that it leaves, and no cell changed
pub record Closes (M : Model) (c : Chip) (m area : List ℕ) (bits : ℕ) : Type 0 where
  pub says : (M c m area 0x03 bits).says ≡ says_verdict (length m) c.core (verdict_of (length m) c.core c.frame bits)
  pub frame_empty : (M c m area 0x03 bits).chip.frame ≡ empty_frame
  pub load_blank : (M c m area 0x03 bits).chip.load ≡ blank_load
  pub cells_same : (M c m area 0x03 bits).memory ≡ m
  pub works_none : (M c m area 0x03 bits).ticks ≡ 0

-- ---- a frame's bytes (RULES, Commands)

-- events that leave a frame open: select, exchange, ticks, WP
abbrev pub Inside : Event → Type 0
Inside e = Good e × (among (0x01 ∷ 0x02 ∷ 0x04 ∷ 0x05 ∷ 0x06 ∷ []) e.kind ≡ true)

unfoldable pub AllInside : List Event → Type 0
AllInside [] = Unit {0}
AllInside (e ∷ es) = Inside e × AllInside es

-- how many bytes these events exchange
unfoldable pub bytes_of : List Event → ℕ
bytes_of [] = 0
bytes_of (e ∷ es) = cond (eqb e.kind 0x02) 1 0 + bytes_of es

-- what a byte after the opcode byte does: what is said to it, and the frame and the load afterwards
pub record Byte : Type 0 where
  pub says : List ℕ
  pub frame : Frame
  pub load : List ℕ

abbrev pub byte : List ℕ → Frame → List ℕ → Byte
byte says frame load = record { says = says; frame = frame; load = load }

pub record ByteRow : Type 0 where
  pub applies : Bool
  pub does : Byte

abbrev pub byte_row : Bool → List ℕ → Frame → List ℕ → ByteRow
byte_row applies says frame load = record { applies = applies; does = byte says frame load }

abbrev pub first_row : List ByteRow → Byte → Byte
first_row [] otherwise = otherwise
first_row (r ∷ rs) otherwise = cond r.applies r.does (first_row rs otherwise)

-- the frame with one byte more, 6 meaning six or more; and its address with one byte more from below, of 24 bits
abbrev pub longer : Frame → Frame
longer f = with_count (min 6 (f.count + 1)) f

abbrev pub shifted_in : Frame → ℕ → ℕ
shifted_in f b = f.address % 65536 * 256 + b

-- the rows: a judged frame floats to its end; cells from byte 5 of 03h and byte 6 of 0Bh; data from byte 5 of a page program; the status; the cycle of 9Fh; 88h from
-- byte 5 of ABh; the area from byte 6 of 5Ah; what else comes after byte 4 floats; byte 4 is the last of the address and sets both places
abbrev pub byte_rows : Core → Frame → List ℕ → List ℕ → List ℕ → ℕ → List ByteRow
byte_rows k f load m area b =
    byte_row (not (eqb f.judgement 0)) (0x80 ∷ []) (longer f) load
    ∷ byte_row (eqb f.opcode 0x03 && leb 4 f.count) (0x81 ∷ get_or m f.place 0 ∷ []) (with_place ((f.place + 1) % length m) (longer f)) load
    ∷ byte_row (eqb f.opcode 0x0B && leb 5 f.count) (0x81 ∷ get_or m f.place 0 ∷ []) (with_place ((f.place + 1) % length m) (longer f)) load
    ∷ byte_row ((eqb f.opcode 0x02 || eqb f.opcode 0x0A) && leb 4 f.count) (0x80 ∷ []) (with_slot ((f.slot + 1) % 256) (longer f)) (set load f.slot b)
    ∷ byte_row (eqb f.opcode 0x05) (0x81 ∷ status_byte k ∷ []) (longer f) load
    ∷ byte_row (eqb f.opcode 0x9F) (0x81 ∷ get_or (0x62 ∷ 0x16 ∷ 0x15 ∷ 0x00 ∷ []) f.place 0 ∷ []) (with_place ((f.place + 1) % 4) (longer f)) load
    ∷ byte_row (eqb f.opcode 0xAB && leb 4 f.count) (0x81 ∷ 0x88 ∷ []) (longer f) load
    ∷ byte_row (eqb f.opcode 0x5A && leb 5 f.count) (0x81 ∷ get_or area f.place 0xFF ∷ []) (with_place ((f.place + 1) % 2 ^ 24) (longer f)) load
    ∷ byte_row (leb 4 f.count) (0x80 ∷ []) (longer f) load
    ∷ byte_row (eqb f.count 3) (0x80 ∷ [])
    (with_address (shifted_in f b) (with_place (cond (eqb f.opcode 0x5A) (shifted_in f b) (shifted_in f b % length m)) (with_slot b (longer f)))) load
    ∷ []

-- the first row that applies; of bytes 2 and 3 none does, and they go into the address
abbrev pub byte_done : Core → Frame → List ℕ → List ℕ → List ℕ → ℕ → Byte
byte_done k f load m area b = first_row (byte_rows k f load m area b) (byte (0x80 ∷ []) (with_address (shifted_in f b) (longer f)) load)

-- these are bytes
unfoldable pub AllBytes : List ℕ → Type 0
AllBytes [] = Unit {0}
AllBytes (b ∷ bs) = (b ≤ 255) × AllBytes bs

-- a legal chip that is awake and unselected, and on which no job runs; and one without any job
pub record Quiet (c : Chip) (m area : List ℕ) : Type 0 where
  pub fit : Fit c m area
  pub resting : running c.core ≡ false
  pub awake : c.core.deep ≡ false
  pub unselected : c.frame.selected ≡ false

pub record Ready (c : Chip) (m area : List ℕ) : Type 0 where
  pub quiet : Quiet c m area
  pub idle : is_job c.core.job.kind ≡ false

-- the world after a select and these bytes, and what is said then to one byte more
abbrev pub opened : Model → Chip → List ℕ → List ℕ → List ℕ → World
opened M c m area bs = runs_by M area (event 0x01 0 ∷ sends bs) (world c m [] 0)

abbrev pub said_next : Model → List ℕ → World → ℕ → List ℕ
said_next M area w b = (does_by M area (event 0x02 b) w).says

-- a read: its opening floats, and then byte j of it is f j, whatever ticks, WP levels and selects come between the bytes
pub record Drives (M : Model) (c : Chip) (m area opening : List ℕ) (f : ℕ → ℕ) : Type 0 where
  pub opening_floats : (opened M c m area opening).written ≡ replicate (length opening) 0x80
  pub byte_driven : (es : List Event) → AllInside es → (b : ℕ) → b ≤ 255 → said_next M area (runs_by M area es (opened M c m area opening)) b ≡ 0x81 ∷ f (bytes_of es) ∷ []

-- the reads of cells, idle or suspended, at every address below 2^24: up by one and round the memory's end, 03h from byte 5, 0Bh from byte 6
pub record CellReads (M : Model) (c : Chip) (m area : List ℕ) : Type 0 where
  pub low_power_lem : (A : ℕ) → A < 2 ^ 24 → Drives M c m area (0x03 ∷ address A) (λ j. get_or m ((A + j) % length m) 0)
  pub high_speed_lem : (A dummy : ℕ) → A < 2 ^ 24 → dummy ≤ 255 → Drives M c m area (0x0B ∷ (address A ++ (dummy ∷ []))) (λ j. get_or m ((A + j) % length m) 0)

-- the reads of an idle chip: the SFDP area round 2^24, FFh past its end; 9Fh, a cycle of four bytes; ABh
pub record OtherReads (M : Model) (c : Chip) (m area : List ℕ) : Type 0 where
  pub sfdp : (A dummy : ℕ) → A < 2 ^ 24 → dummy ≤ 255 → Drives M c m area (0x5A ∷ (address A ++ (dummy ∷ []))) (λ j. get_or area ((A + j) % 2 ^ 24) 0xFF)
  pub jedec : Drives M c m area (0x9F ∷ []) (λ j. get_or (0x62 ∷ 0x16 ∷ 0x15 ∷ 0x00 ∷ []) (j % 4) 0)
  pub device : (x y z : ℕ) → x ≤ 255 → y ≤ 255 → z ≤ 255 → Drives M c m area (0xAB ∷ x ∷ y ∷ z ∷ []) (λ j. 0x88)

-- the status byte, bit by bit (RULES, Status)
pub record StatusByte (k : Core) (byte : ℕ) : Type 0 where
  pub rdy : byte % 2 ≡ cond (running k) 1 0
  pub wen : byte / 2 % 2 ≡ cond k.wen 1 0
  pub bp : byte / 4 % 8 ≡ k.level
  pub tb : byte / 32 % 2 ≡ cond k.tb 1 0
  pub sus : byte / 64 % 2 ≡ cond k.suspended 1 0
  pub srwp : byte / 128 ≡ cond k.srwp 1 0

-- an event says one driven byte, the status of that moment
pub record SaysStatus (k : Core) (says : List ℕ) : Type 0 where
  pub byte : ℕ
  pub driven : says ≡ 0x81 ∷ byte ∷ []
  pub bits : StatusByte k byte

-- a status read of any chip that is awake and unselected, whatever ticks, WP levels and selects come between its bytes: each byte is the status as it then is
abbrev pub StatusRead : Model → Type 0
StatusRead M =
    (c : Chip) (m area : List ℕ) → Fit c m area → c.core.deep ≡ false → c.frame.selected ≡ false → (es : List Event) → AllInside es → (b : ℕ) → b ≤ 255
    → let w : World = runs_by M area es (opened M c m area (0x05 ∷ [])) in
    ((opened M c m area (0x05 ∷ [])).written ≡ 0x80 ∷ []) × SaysStatus w.chip.core (said_next M area w b)

-- a frame that is stopped at its opcode byte floats to its end, whatever happens meanwhile, and that verdict stands
abbrev pub StoppedFrame : Model → Type 0
StoppedFrame M =
    (c : Chip) (m area : List ℕ) (opcode : ℕ) → Fit c m area → c.frame.selected ≡ false → opcode ≤ 255 → (stop_of c.core opcode ≡ 0 → ⊥)
    → (es : List Event) → AllInside es
    → let w : World = runs_by M area es (opened M c m area (opcode ∷ [])) in
    ((b : ℕ) → b ≤ 255 → said_next M area w b ≡ 0x80 ∷ [])
    × ((bits : ℕ) → bits ≤ 7 → (M w.chip w.memory area 0x03 bits).says ≡ 0x82 ∷ stop_of c.core opcode ∷ [])

-- ---- a page load and the job that it begins (RULES, Commands; Jobs)

-- a load of these data bytes, the first of them for address A: byte j at offset (A + j) mod 256, later ones over earlier ones, and FFh where none fell
pub record LoadOf (A : ℕ) (bytes load : List ℕ) : Type 0 where
  pub a_page : length load ≡ 256
  pub last_stay : (j : ℕ) → j < length bytes → length bytes ≤ j + 256 → get_or load ((A + j) % 256) 0 ≡ get_or bytes j 0
  pub rest_blank : (p : ℕ) → p < 256 → ((j : ℕ) → j < length bytes → (A + j) % 256 ≡ p → ⊥) → get_or load p 0 ≡ 0xFF

-- a page program's data bytes float, and leave the load that they describe, whatever WEN and protection are; that a load has 256 bytes is what the state's type says
pub record Loads (M : Model) (c : Chip) (m area : List ℕ) : Type 0 where
  pub floats_and_loads : (opcode A first : ℕ) (more : List ℕ) → length c.load ≡ 256 → among (0x02 ∷ 0x0A ∷ []) opcode ≡ true → A < 2 ^ 24 → AllBytes (first ∷ more)
      → ((opened M c m area (opcode ∷ (address A ++ (first ∷ more)))).written ≡ replicate (length (opcode ∷ (address A ++ (first ∷ more)))) 0x80)
      × LoadOf A (first ∷ more) (opened M c m area (opcode ∷ (address A ++ (first ∷ more)))).chip.load

-- the world after a whole frame of these bytes: a select, exchanges, a deselect
abbrev pub framed : Model → Chip → List ℕ → List ℕ → List ℕ → World
framed M c m area bs = runs_by M area (event 0x01 0 ∷ (sends bs ++ (event 0x03 0 ∷ []))) (world c m [] 0)

-- a frame of these bytes floats, gets verdict 2, and leaves this job at step 0 on the cells as they were
pub record Begins (M : Model) (c : Chip) (m area bs : List ℕ) (kind : JobKind) (start : ℕ) : Type 0 where
  pub verdict_two : (framed M c m area bs).written ≡ replicate (length bs) 0x80 ++ (0x82 ∷ 2 ∷ [])
  pub job_is : (framed M c m area bs).chip.core.job ≡ record { kind = kind; start = start; done = 0 }
  pub cells_same : (framed M c m area bs).memory ≡ m

-- the sector of address A is not protected
abbrev pub FreeAt : Chip → List ℕ → ℕ → Type 0
FreeAt c m A = is_protected c.core.level c.core.tb (sectors_in (length m)) (A % length m / 65536) ≡ false

-- the jobs that a ready chip with WEN begins, from their bytes, at every address below 2^24; that a load has 256 bytes is what the state's type says
pub record JobsFromBytes (M : Model) (c : Chip) (m area : List ℕ) : Type 0 where
  pub program : (opcode A first : ℕ) (more : List ℕ) → length c.load ≡ 256 → among (0x02 ∷ 0x0A ∷ []) opcode ≡ true → A < 2 ^ 24 → AllBytes (first ∷ more) → FreeAt c m A
      → Begins M c m area (opcode ∷ (address A ++ (first ∷ more))) Program (A % length m / 256 * 256)
      × LoadOf A (first ∷ more) (framed M c m area (opcode ∷ (address A ++ (first ∷ more)))).chip.held
  pub small_erase : (opcode A : ℕ) → among (0x20 ∷ 0xD7 ∷ []) opcode ≡ true → A < 2 ^ 24 → FreeAt c m A
      → Begins M c m area (opcode ∷ address A) SmallErase (A % length m / 4096 * 4096)
  pub sector_erase_lem : (A : ℕ) → A < 2 ^ 24 → FreeAt c m A → Begins M c m area (0xD8 ∷ address A) SectorErase (A % length m / 65536 * 65536)
  pub chip_erase_lem : (opcode : ℕ) → among (0x60 ∷ 0xC7 ∷ []) opcode ≡ true → c.core.level ≡ 0 → Begins M c m area (opcode ∷ []) ChipErase 0
  pub write_status_lem : (value : ℕ) → value ≤ 255 → (c.core.srwp && not c.core.wp) ≡ false → Begins M c m area (0x01 ∷ value ∷ []) (WriteStatus value) 0

-- ---- the demand

-- the core after a power cut: no job and no mark, WEN, SUS and arming off, awake; the kept bits and the level of WP as they were
abbrev pub powered_up : Core → Core
powered_up k = record { level = k.level; tb = k.tb; srwp = k.srwp; wen = false; suspended = false; waiting = false; wp = k.wp; deep = false; armed = false; job = no_job }

pub record Demand2 (M : Model) : Type 0 where
  -- a select opens a frame; inside one it does nothing
  pub selects : (c : Chip) (m area : List ℕ) (body : ℕ) → Fit c m area → M c m area 0x01 body ≡ reply (whole c.core (with_selected true c.frame) c.load c.held) m [] 0
  -- the WP pin takes its level
  pub levels : (c : Chip) (m area : List ℕ) (body : ℕ) → Fit c m area → body ≤ 1
      → M c m area 0x06 body ≡ reply (whole (with_wp (eqb body 1) c.core) c.frame c.load c.held) m [] 0
  -- a power cut
  pub power_cut : (c : Chip) (m area : List ℕ) (body : ℕ) → Fit c m area → M c m area 0x07 body ≡ reply (whole (powered_up c.core) empty_frame blank_load blank_load) m [] 0
  -- with no frame open an exchange floats, a deselect is verdict 0, and that is all
  pub unselected_exchange : (c : Chip) (m area : List ℕ) (b : ℕ) → Fit c m area → b ≤ 255 → c.frame.selected ≡ false → M c m area 0x02 b ≡ reply c m (0x80 ∷ []) 0
  pub unselected_deselect : (c : Chip) (m area : List ℕ) (bits : ℕ) → Fit c m area → bits ≤ 7 → c.frame.selected ≡ false → M c m area 0x03 bits ≡ reply c m (0x82 ∷ 0 ∷ []) 0
  -- the opcode byte floats and is judged; the first byte of a frame is the opcode
  pub opcode_byte : (c : Chip) (m area : List ℕ) (b : ℕ) → Fit c m area → b ≤ 255 → c.frame.selected ≡ true → c.frame.count ≡ 0
      → M c m area 0x02 b
      ≡ reply (whole c.core (record { selected = true; opcode = b; address = 0; place = 0; slot = 0; count = 1; judgement = stop_of c.core b }) c.load c.held) m (0x80 ∷ []) 0
  -- every later byte does what its row says
  pub later_byte : (c : Chip) (m area : List ℕ) (b : ℕ) → Fit c m area → b ≤ 255 → c.frame.selected ≡ true → (c.frame.count ≡ 0 → ⊥)
      → let d : Byte = byte_done c.core c.frame c.load m area b in
      M c m area 0x02 b ≡ reply (whole c.core d.frame d.load c.held) m d.says 0
  -- so, from the select on: reads, the status, frames that are stopped
  pub cell_reads : (c : Chip) (m area : List ℕ) → Quiet c m area → CellReads M c m area
  pub other_reads : (c : Chip) (m area : List ℕ) → Ready c m area → OtherReads M c m area
  pub page_loads : (c : Chip) (m area : List ℕ) → Quiet c m area → Loads M c m area
  pub status_read : StatusRead M
  pub stopped_frame : StoppedFrame M
  -- a deselect: its verdict, and what that does
  pub closes : (c : Chip) (m area : List ℕ) (bits : ℕ) → Ending c m area bits → Closes M c m area bits
  pub done_at_once : DoneAtOnce M
  pub jobs_begun : JobsBegun M
  pub other_verdicts : OtherVerdicts M
  -- and from the bytes to the job
  pub jobs_from_bytes : (c : Chip) (m area : List ℕ) → Ready c m area → c.core.wen ≡ true → JobsFromBytes M c m area
