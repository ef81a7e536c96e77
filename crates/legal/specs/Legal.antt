-- Which states are legal: the list of the rule book, and no more (RULES, Legal states).
use Rattle.std.specs.Prelude.{ℕ, ◌+◌, ◌%◌, ◌^◌, Bool, true, cond, not, ◌&&◌, ◌||◌, List, [], ◌∷◌, eqb, ltb, leb}
use Rattle.part.specs.Part.{permitted, sectors_in, length_of, page, small_sector, sector, jedec_cycle}
use Rattle.part.specs.Area.{area_places}
use Rattle.commands.specs.Table.{jedec_id, read_sfdp}
use Rattle.chip.specs.declared.Chip.{Chip}
use Rattle.chip.specs.declared.Core.{Core}
use Rattle.chip.specs.declared.Frame.{Frame}
use Rattle.chip.specs.declared.Job.{Job}
use Rattle.chip.specs.declared.JobKind.{JobKind}
use Rattle.chip.specs.declared.JobKind.TheVariants.{Idle, WriteStatus, Program, SmallErase, SectorErase, ChipErase}
use Rattle.chip.specs.Job.{is_job, has_cells, total}
use Rattle.chip.specs.Chip.{suspendable}

-- ---- the core, on a part of S sectors

-- a start on the part and aligned to a size
abbrev pub aligned_to : ℕ → ℕ → ℕ → Bool
aligned_to S size start = eqb (start % size) 0 && leb (start + size) (length_of S)

-- where a job may stand: aligned to its size, and on the part; those with no size of their own at 0
abbrev pub placed : ℕ → JobKind → ℕ → Bool
placed S Idle start = true
placed S (WriteStatus value) start = eqb start 0
placed S Program start = aligned_to S page start
placed S SmallErase start = aligned_to S small_sector start
placed S SectorErase start = aligned_to S sector start
placed S ChipErase start = eqb start 0

-- the job's share of the list: where it stands, and that it has steps left
unfoldable pub legal_job : ℕ → Job → Bool
legal_job S j = placed S j.kind j.start && (not (is_job j.kind) || ltb j.done (total j.kind S))

-- whoever has a job has WEN
abbrev pub job_enabled : Core → Bool
job_enabled k = not (is_job k.job.kind) || k.wen

-- only a job with cells is suspended
abbrev pub suspended_has_cells : Core → Bool
suspended_has_cells k = not k.suspended || has_cells k.job.kind

-- only a program or an erase that runs waits to be suspended
abbrev pub waiting_runs : Core → Bool
waiting_runs k = not k.waiting || suspendable k

-- asleep there is neither a job nor an armed reset
abbrev pub deep_rests : Core → Bool
deep_rests k = not k.deep || not (is_job k.job.kind) && not k.armed

-- three bits of level, the job's share, and the four above
unfoldable pub legal_core : ℕ → Core → Bool
legal_core S k = leb k.level 7 && legal_job S k.job && job_enabled k && suspended_has_cells k && waiting_runs k && deep_rests k

-- ---- the frame

-- a judgement is none, which is 0, or one of the four that fall at the opcode byte
abbrev pub judgement_known : ℕ → Bool
judgement_known v = eqb v 0 || eqb v 3 || eqb v 5 || eqb v 6 || eqb v 7

-- how many read places a frame has: the bytes of the 9Fh cycle (docs/DECISIONS.md, D1), the places of 5Ah, or the cells
abbrev pub read_places : ℕ → ℕ → ℕ
read_places S opcode = cond (eqb opcode jedec_id) jedec_cycle (cond (eqb opcode read_sfdp) area_places (length_of S))

-- an address of 24 bits, a read place that there is, a count up to 6, a known judgement; the load place is a byte by its type
unfoldable pub legal_frame : ℕ → Frame → Bool
legal_frame S f =
    ltb f.address (2 ^ 24)
    && ltb f.place (read_places S f.opcode)
    && leb f.count 6
    && judgement_known f.judgement

-- the empty frame, number by number
unfoldable pub is_empty : Frame → Bool
is_empty f = eqb f.opcode 0 && eqb f.address 0 && eqb f.place 0 && eqb f.slot 0 && eqb f.count 0 && eqb f.judgement 0

-- a load of nothing but FFh
unfoldable pub is_blank : List ℕ → Bool
is_blank [] = true
is_blank (b ∷ load) = eqb b 255 && is_blank load

-- a frame with a byte in it; any other frame is the empty one, with a blank load
abbrev pub begun : Frame → Bool
begun f = f.selected && not (eqb f.count 0)

abbrev pub tidy : Frame → List ℕ → Bool
tidy f load = begun f || is_empty f && is_blank load

-- ---- the whole

-- whether a state is legal for a memory of n cells; for a length that no part has, none is
unfoldable pub legal : Chip → ℕ → Bool
legal c n = permitted n && legal_core (sectors_in n) c.core && legal_frame (sectors_in n) c.frame && tidy c.frame c.load
