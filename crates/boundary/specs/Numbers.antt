-- A chip as plain numbers, and which numbers are a legal state (RULES, Legal states).
use Rattle.std.specs.Prelude.{ℕ, Bool, true, false, cond, ◌&&◌, ◌≡◌, eqb, leb, Result, MatchResult}
use Rattle.chip.specs.declared.Chip.{Chip}
use Rattle.chip.specs.declared.JobKind.{JobKind}
use Rattle.chip.specs.declared.JobKind.TheVariants.{Idle, WriteStatus, Program, SmallErase, SectorErase, ChipErase}
use Rattle.legal.specs.Legal.{legal}
use Rattle.boundary.specs.declared.ChipNumbers.{ChipNumbers}
use Rattle.boundary.specs.declared.FlagNumbers.{FlagNumbers}
use Rattle.boundary.specs.declared.NoState.{NoState}

-- the numbers of the job kinds: 0 none, 1 write status, 2 program, 3 small sector erase, 4 sector erase, 5 chip erase
abbrev pub kind_number : JobKind → ℕ
kind_number Idle = 0
kind_number (WriteStatus value) = 1
kind_number Program = 2
kind_number SmallErase = 3
kind_number SectorErase = 4
kind_number ChipErase = 5

-- the byte of a write status job, 0 for the other kinds
abbrev pub kind_value : JobKind → ℕ
kind_value Idle = 0
kind_value (WriteStatus value) = value
kind_value Program = 0
kind_value SmallErase = 0
kind_value SectorErase = 0
kind_value ChipErase = 0

-- the kind that a number and a byte mean; the byte is free where the number is not 1
unfoldable pub kind_of : ℕ → ℕ → JobKind
kind_of kind value =
    cond (eqb kind 1) (WriteStatus value)
    (cond (eqb kind 2) Program
    (cond (eqb kind 3) SmallErase
    (cond (eqb kind 4) SectorErase
    (cond (eqb kind 5) ChipErase Idle))))

-- a flag is a byte, 1 for true and 0 for false
abbrev pub flag_number : Bool → ℕ
flag_number b = cond b 1 0

abbrev pub flag_of : ℕ → Bool
flag_of v = eqb v 1

-- whether numbers are a state at all: no flag over 1, and over 5 no kind has a number
unfoldable pub is_state_of : FlagNumbers → ℕ → Bool
is_state_of f kind =
    leb f.tb 1 && leb f.srwp 1 && leb f.wen 1 && leb f.suspended 1 && leb f.waiting 1 && leb f.wp 1 && leb f.deep 1 && leb f.armed 1 && leb f.selected 1
    && leb kind 5

abbrev pub is_state : ChipNumbers → Bool
is_state c = is_state_of c.flags c.kind

-- the chip that numbers mean
unfoldable pub chip_of : ChipNumbers → Chip
chip_of c =
    record {
      core =
          record {
            level = c.level;
            tb = flag_of c.flags.tb;
            srwp = flag_of c.flags.srwp;
            wen = flag_of c.flags.wen;
            suspended = flag_of c.flags.suspended;
            waiting = flag_of c.flags.waiting;
            wp = flag_of c.flags.wp;
            deep = flag_of c.flags.deep;
            armed = flag_of c.flags.armed;
            job = record { kind = kind_of c.kind c.value; start = c.start; done = c.done };
          };
      frame =
          record {
            selected = flag_of c.flags.selected;
            opcode = c.opcode;
            address = c.address;
            place = c.place;
            slot = c.slot;
            count = c.count;
            judgement = c.judgement;
          };
      load = c.load;
      held = c.held;
    }

-- what numbers give: that chip, and none where they are no state
abbrev pub Means : ChipNumbers → Result Chip NoState → Type 0
Means c given = MatchResult given (λ chip. (is_state c ≡ true) × (chip ≡ chip_of c)) (λ _. is_state c ≡ false)

-- the numbers of a chip
unfoldable pub numbers_of : Chip → ChipNumbers
numbers_of c =
    record {
      flags =
          record {
            tb = flag_number c.core.tb;
            srwp = flag_number c.core.srwp;
            wen = flag_number c.core.wen;
            suspended = flag_number c.core.suspended;
            waiting = flag_number c.core.waiting;
            wp = flag_number c.core.wp;
            deep = flag_number c.core.deep;
            armed = flag_number c.core.armed;
            selected = flag_number c.frame.selected;
          };
      level = c.core.level;
      kind = kind_number c.core.job.kind;
      value = kind_value c.core.job.kind;
      opcode = c.frame.opcode;
      slot = c.frame.slot;
      count = c.frame.count;
      judgement = c.frame.judgement;
      start = c.core.job.start;
      done = c.core.job.done;
      address = c.frame.address;
      place = c.frame.place;
      load = c.load;
      held = c.held;
    }

-- whether numbers are a legal state for a memory of n cells
unfoldable pub legal_numbers : ChipNumbers → ℕ → Bool
legal_numbers c n = is_state c && legal (chip_of c) n
