-- Wrong writers of scripts: each is ours with one thing changed.
use Rattle.std.specs.Prelude.{ℕ, cond, List, [], ◌∷◌, ◌++◌, eqb, length, drop}
use Rattle.commands.specs.Table.{write_enable, page_program}
use Rattle.kinds.specs.Kinds.{SELECT, DESELECT}
use Rattle.writer.specs.Writer.{Piece, piece, pieces, exchanges_of, frame_of, address_bytes, ticks_of, program_ticks, script_of, program_script}
use Rattle.demands.specs.Programming.{Writer}

-- some bytes in one piece, over page edges
abbrev pub over_the_edge : Writer
over_the_edge A bs = cond (eqb (length bs) 0) [] (script_of (piece A bs ∷ []))

-- all pieces but the last
unfoldable pub but_last : List Piece → List Piece
but_last [] = []
but_last (p ∷ []) = []
but_last (p ∷ q ∷ ps) = p ∷ but_last (q ∷ ps)

abbrev pub loses_the_last : Writer
loses_the_last A bs = script_of (but_last (pieces A bs))

-- 15 ticks a piece
unfoldable pub too_short : List Piece → List ℕ
too_short [] = []
too_short (p ∷ ps) = frame_of (write_enable ∷ []) ++ frame_of (page_program ∷ (address_bytes p.address ++ p.bytes)) ++ ticks_of 15 ++ too_short ps

abbrev pub fifteen_ticks : Writer
fifteen_ticks A bs = too_short (pieces A bs)

-- a deselect without its body
abbrev pub unclosed : List ℕ → List ℕ
unclosed bs = SELECT ∷ (exchanges_of bs ++ (DESELECT ∷ []))

unfoldable pub bodiless : List Piece → List ℕ
bodiless [] = []
bodiless (p ∷ ps) = unclosed (write_enable ∷ []) ++ unclosed (page_program ∷ (address_bytes p.address ++ p.bytes)) ++ ticks_of program_ticks ++ bodiless ps

abbrev pub leaves_bodies_out : Writer
leaves_bodies_out A bs = bodiless (pieces A bs)

-- every piece at the address of the first
unfoldable pub all_at : ℕ → List Piece → List Piece
all_at A [] = []
all_at A (p ∷ ps) = piece A p.bytes ∷ all_at A ps

abbrev pub address_stays : Writer
address_stays A bs = script_of (all_at A (pieces A bs))

-- every piece with all the bytes that are left
unfoldable pub with_all_left : List Piece → List ℕ → List Piece
with_all_left [] bs = []
with_all_left (p ∷ ps) bs = piece p.address bs ∷ with_all_left ps (drop (length p.bytes) bs)

abbrev pub bytes_beyond : Writer
bytes_beyond A bs = script_of (with_all_left (pieces A bs) bs)

-- a write enable where there is nothing to program
abbrev pub enables_for_none : Writer
enables_for_none A bs = cond (eqb (length bs) 0) (frame_of (write_enable ∷ [])) (program_script A bs)
