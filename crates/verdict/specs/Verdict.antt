-- The verdict at a deselect: the list, in its order (RULES, Verdicts).
use Rattle.std.specs.Prelude.{ℕ, ◌/◌, ◌%◌, Bool, false, cond, not, ◌&&◌, ◌||◌, eqb, None, Some}
use Rattle.part.specs.Part.{page, small_sector, sector, reduced, rounded_down}
use Rattle.commands.specs.Table.{row_of, fits_rule, is_read, is_program, write_status, small_sector_erase, small_sector_erase', sector_erase, chip_erase, chip_erase', suspend, resume, reset}
use Rattle.part.specs.Protection.{Protected, protected_sectors, protects_any, is_protected}
use Rattle.chip.specs.declared.Core.{Core}
use Rattle.chip.specs.declared.Frame.{Frame}
use Rattle.chip.specs.declared.Job.{Job}
use Rattle.chip.specs.declared.JobKind.{JobKind}
use Rattle.chip.specs.declared.JobKind.TheVariants.{Idle, WriteStatus, Program, SmallErase, SectorErase, ChipErase}
use Rattle.chip.specs.declared.Record.{Record}
use Rattle.chip.specs.declared.Record.TheVariants.{Verdict, InTheWay}
use Rattle.chip.specs.Job.{is_job, has_cells}
use Rattle.chip.specs.Chip.{suspendable}
use Rattle.frame.specs.Frame.{judge}

-- ---- the job that a frame asks for

-- its kind, Idle for a command that begins none; the byte of a write status is the last that was shifted into the address
unfoldable pub job_of : ℕ → ℕ → JobKind
job_of opcode address =
    cond (eqb opcode write_status) (WriteStatus (address % 256))
    (cond (is_program opcode) Program
    (cond (eqb opcode small_sector_erase || eqb opcode small_sector_erase') SmallErase
    (cond (eqb opcode sector_erase) SectorErase
    (cond (eqb opcode chip_erase || eqb opcode chip_erase') ChipErase Idle))))

-- its start on a part of S sectors: down from the address to the next multiple of its size (RULES, Jobs)
abbrev pub start_of : ℕ → JobKind → ℕ → ℕ
start_of S Idle address = 0
start_of S (WriteStatus value) address = 0
start_of S Program address = rounded_down page (reduced S address)
start_of S SmallErase address = rounded_down small_sector (reduced S address)
start_of S SectorErase address = rounded_down sector (reduced S address)
start_of S ChipErase address = 0

-- the job that a frame asks for
abbrev pub job_asked : ℕ → Frame → Job
job_asked S f = record { kind = job_of f.opcode f.address; start = start_of S (job_of f.opcode f.address) f.address; done = 0 }

-- whether the sector of a start is protected
abbrev pub start_protected : ℕ → Core → ℕ → Bool
start_protected S k start = is_protected k.level k.tb S (start / sector)

-- whether protection keeps a job off: a job in one sector by that sector, a chip erase by any sector at all (RULES, Protection)
abbrev pub target_protected : ℕ → Core → JobKind → ℕ → Bool
target_protected S k Idle start = false
target_protected S k (WriteStatus value) start = false
target_protected S k Program start = start_protected S k start
target_protected S k SmallErase start = start_protected S k start
target_protected S k SectorErase start = start_protected S k start
target_protected S k ChipErase start = protects_any (protected_sectors k.level k.tb S)

-- ---- the list

-- 11: nothing for a suspend, a resume or a reset to act on; a job that waits to be suspended is nothing for another suspend
abbrev pub pointless : Core → ℕ → Bool
pointless k opcode =
    eqb opcode suspend && not (suspendable k && not k.waiting) || eqb opcode resume && not k.suspended || eqb opcode reset && not k.armed

-- 8: WEN is missing, which in suspension it never is (`suspended-enabled`); 10: the status is locked; 9: the target is protected; 2: the job begins
unfoldable pub job_verdict : ℕ → Core → Job → ℕ
job_verdict S k j =
    cond (not k.wen) 8
    (cond (not (has_cells j.kind) && k.srwp && not k.wp) 10
    (cond (target_protected S k j.kind j.start) 9 2))

-- 11; a job's verdict; 1 for what is done at once
unfoldable pub command_verdict : ℕ → Core → Frame → ℕ
command_verdict S k f =
    cond (pointless k f.opcode) 11
    (cond (is_job (job_of f.opcode f.address)) (job_verdict S k (job_asked S f)) 1)

-- from 3 on, on the state as the deselect finds it: the opcode judged anew; 0 for a read; 4 for a loose end or a wrong length; then the command's own
unfoldable pub listed : ℕ → Core → Frame → Bool → ℕ
listed S k f loose =
    cond (not (eqb (judge k f.opcode) 0)) (judge k f.opcode)
    (cond (is_read f.opcode) 0
    (cond (loose || not (fits_rule (row_of f.opcode).rule f.count)) 4
    (command_verdict S k f)))

-- the verdict of a selected frame: 0 without a whole byte; its judgement, if it has one; otherwise the list
unfoldable pub verdict : ℕ → Core → Frame → Bool → ℕ
verdict S k f loose = cond (eqb f.count 0) 0 (cond (not (eqb f.judgement 0)) f.judgement (listed S k f loose))

-- ---- what is said of it

-- the protected sectors, as verdict 9 says them (RULES, Records); on a legal state that verdict finds some (`nine_finds`)
abbrev pub in_the_way : Protected → Record
in_the_way None = Verdict 9
in_the_way (Some e) = InTheWay e.first e.last

-- the record of a verdict: its number, and for 9 the two ends of all that is protected, whatever the target was (RULES, Records)
unfoldable pub record_of : ℕ → Core → ℕ → Record
record_of S k v = cond (eqb v 9) (in_the_way (protected_sectors k.level k.tb S)) (Verdict v)
