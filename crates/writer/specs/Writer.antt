-- The script that programs some bytes from an address on: its pieces, their events, and the writer's whole answer (RULES, The script writer).
use Rattle.std.specs.Prelude.{ℕ, zero, suc, ◌+◌, ◌*◌, ◌-◌, ◌/◌, ◌%◌, cond, not, Result, Ok, Err, List, [], ◌∷◌, ◌++◌, eqb, ltb, leb, length, take, drop}
use Rattle.part.specs.Part.{page, permitted}
use Rattle.commands.specs.Table.{write_enable, page_program}
use Rattle.kinds.specs.Kinds.{SELECT, EXCHANGE, DESELECT, TICKS}
use Rattle.refusal.specs.declared.Refusal.{Refusal}
use Rattle.refusal.specs.Table.{number_of}

-- ---- the pieces

-- some bytes and the address of the first; they lie in one page
pub record Piece : Type 0 where
  pub address : ℕ
  pub bytes : List ℕ

abbrev pub piece : ℕ → List ℕ → Piece
piece A bs = record { address = A; bytes = bs }

-- how many cells there are from an address to the end of its page
abbrev pub left_in_page : ℕ → ℕ
left_in_page A = page - A % page

-- some bytes from an address on, cut at page edges, into as many pieces as the fuel allows
unfoldable pub cut : ℕ → ℕ → List ℕ → List Piece
cut zero A bs = []
cut (suc fuel) A [] = []
cut (suc fuel) A (b ∷ bs) = piece A (take (left_in_page A) (b ∷ bs)) ∷ cut fuel (A + left_in_page A) (drop (left_in_page A) (b ∷ bs))

-- all of them: there are no more pieces than bytes, and for no bytes there is none
unfoldable pub pieces : ℕ → List ℕ → List Piece
pieces A bs = cut (length bs) A bs

-- ---- the events of a piece (RULES, Events)

-- one exchange for each byte
unfoldable pub exchanges_of : List ℕ → List ℕ
exchanges_of [] = []
exchanges_of (b ∷ bs) = EXCHANGE ∷ b ∷ exchanges_of bs

-- a deselect on the byte boundary: no bit is loose
abbrev pub clean_deselect : List ℕ
clean_deselect = DESELECT ∷ 0 ∷ []

-- a frame of these bytes: a select, the exchanges, a deselect
abbrev pub frame_of : List ℕ → List ℕ
frame_of bs = SELECT ∷ (exchanges_of bs ++ clean_deselect)

-- an address as three bytes, the high one first
abbrev pub address_bytes : ℕ → List ℕ
address_bytes A = A / 65536 % 256 ∷ A / 256 % 256 ∷ A % 256 ∷ []

-- that many ticks, the high byte first
abbrev pub ticks_of : ℕ → List ℕ
ticks_of n = TICKS ∷ n / 256 % 256 ∷ n % 256 ∷ []

-- the ticks that a page program takes, one a step (RULES, Jobs)
abbrev pub program_ticks : ℕ
program_ticks = 16

-- a write enable, the page program, and its ticks
abbrev pub piece_script : Piece → List ℕ
piece_script p = frame_of (write_enable ∷ []) ++ frame_of (page_program ∷ (address_bytes p.address ++ p.bytes)) ++ ticks_of program_ticks

-- ---- the script

-- piece after piece
unfoldable pub script_of : List Piece → List ℕ
script_of [] = []
script_of (p ∷ ps) = piece_script p ++ script_of ps

-- the script for some bytes from an address on
abbrev pub program_script : ℕ → List ℕ → List ℕ
program_script A bs = script_of (pieces A bs)

-- ---- its numbers (RULES, The script writer)

-- how many pieces n bytes from an address on make: as many as they touch pages
abbrev pub piece_count : ℕ → ℕ → ℕ
piece_count A n = cond (eqb n 0) 0 ((A % page + n - 1) / page + 1)

-- the script's length: 19 bytes a piece, and 2 a byte
abbrev pub script_length : ℕ → ℕ → ℕ
script_length A n = 19 * piece_count A n + 2 * n

-- the room that a run asks for its records: 16 bytes a piece, and 2 a byte
abbrev pub script_room : ℕ → ℕ → ℕ
script_room A n = 16 * piece_count A n + 2 * n

-- ---- the writer's answer (RULES, The script writer)

-- what refuses it, 0 for nothing, and how many bytes of the output are the script
pub record Written : Type 0 where
  pub refusal : ℕ
  pub written : ℕ

-- a call's answer in these numbers
abbrev pub told : {T : Type 0} → Result T Refusal → ℕ
told (Ok _) = 0
told (Err e) = number_of e

abbrev pub written_as : Result ℕ Refusal → Written
written_as (Ok n) = record { refusal = 0; written = n }
written_as (Err e) = record { refusal = number_of e; written = 0 }

-- the most bytes that one script programs
abbrev pub longest_data : ℕ
longest_data = 4096

-- what refuses it, for a memory of n cells and an output of `space` bytes: the length; too many bytes; an address past the end, also of none; a range past the top; no room
unfoldable pub refusal : ℕ → ℕ → List ℕ → ℕ → ℕ
refusal n A bs space =
    cond (not (permitted n)) 1
    (cond (ltb longest_data (length bs)) 20
    (cond (leb n A) 21
    (cond (ltb n (A + length bs)) 22
    (cond (ltb space (length (program_script A bs))) 23 0))))

-- the whole answer, and the output afterwards: the script, and beyond it what was there; refused, nothing is written
unfoldable pub answer_of : ℕ → ℕ → List ℕ → List ℕ → Written
answer_of n A bs out =
    cond (eqb (refusal n A bs (length out)) 0) (record { refusal = 0; written = length (program_script A bs) })
    (record { refusal = refusal n A bs (length out); written = 0 })

unfoldable pub output_of : ℕ → ℕ → List ℕ → List ℕ → List ℕ
output_of n A bs out = cond (eqb (refusal n A bs (length out)) 0) (program_script A bs ++ drop (length (program_script A bs)) out) out
