-- Worked examples of the writer: scripts byte by byte, and each refusal on both sides (RULES, The script writer).
use Rattle.std.specs.Prelude.{[], ◌∷◌, ◌++◌, ◌≡◌, refl, replicate}
use Rattle.part.specs.Part.{permitted}
use Rattle.writer.specs.Writer.{piece, cut, pieces, exchanges_of, script_of, program_script, piece_count, script_length, script_room, refusal}

-- Three bytes from 0000FEh on: two in that page, one in the next.
pub record TwoPieces : Type 0 where
  pub cut_at_the_edge : pieces 0xFE (0xA1 ∷ 0xA2 ∷ 0xA3 ∷ []) ≡ piece 0xFE (0xA1 ∷ 0xA2 ∷ []) ∷ piece 0x100 (0xA3 ∷ []) ∷ []
  pub its_script : program_script 0xFE (0xA1 ∷ 0xA2 ∷ 0xA3 ∷ [])
      ≡ (0x01 ∷ 0x02 ∷ 0x06 ∷ 0x03 ∷ 0x00 ∷ [])
      ++ (0x01 ∷ 0x02 ∷ 0x02 ∷ 0x02 ∷ 0x00 ∷ 0x02 ∷ 0x00 ∷ 0x02 ∷ 0xFE ∷ 0x02 ∷ 0xA1 ∷ 0x02 ∷ 0xA2 ∷ 0x03 ∷ 0x00 ∷ [])
      ++ (0x05 ∷ 0x00 ∷ 0x10 ∷ [])
      ++ (0x01 ∷ 0x02 ∷ 0x06 ∷ 0x03 ∷ 0x00 ∷ [])
      ++ (0x01 ∷ 0x02 ∷ 0x02 ∷ 0x02 ∷ 0x00 ∷ 0x02 ∷ 0x01 ∷ 0x02 ∷ 0x00 ∷ 0x02 ∷ 0xA3 ∷ 0x03 ∷ 0x00 ∷ [])
      ++ (0x05 ∷ 0x00 ∷ 0x10 ∷ [])
  pub its_length : script_length 0xFE 3 ≡ 44
  pub its_room : script_room 0xFE 3 ≡ 38

pub two_pieces : TwoPieces
unfolding pieces cut exchanges_of script_of
two_pieces = record { cut_at_the_edge = refl; its_script = refl; its_length = refl; its_room = refl }

-- Pages and edges: none for no bytes, one up to the edge, two from there on; a piece that ends at the edge leaves none behind it.
pub record Counted : Type 0 where
  pub no_bytes : (pieces 0x1FFFFF [] ≡ []) × (program_script 0x1FFFFF [] ≡ [])
  pub last_cell : pieces 0xFF (0x5A ∷ []) ≡ piece 0xFF (0x5A ∷ []) ∷ []
  pub one_page : piece_count 0 256 ≡ 1
  pub one_over : piece_count 0 257 ≡ 2
  pub sixteen : piece_count 0x100 4096 ≡ 16
  pub seventeen : piece_count 0x101 4096 ≡ 17
  pub longest : script_length 0x101 4096 ≡ 8515

pub counted : Counted
unfolding pieces cut script_of
counted = record { no_bytes = (refl, refl); last_cell = refl; one_page = refl; one_over = refl; sixteen = refl; seventeen = refl; longest = refl }

-- The refusals on each side, on a part of one sector and on the real one.
pub record RefusalsMet : Type 0 where
  pub one : (refusal 65535 0 [] 0 ≡ 1) × (refusal 65536 0 [] 0 ≡ 0) × (refusal 2097152 0 [] 0 ≡ 0)
  pub twenty : (refusal 65536 0 (replicate 4097 0) 9000 ≡ 20) × (refusal 65536 0 (replicate 4096 0) 8496 ≡ 0)
  pub twenty_one : (refusal 65536 65536 [] 0 ≡ 21) × (refusal 65536 65535 [] 0 ≡ 0) × (refusal 65536 18446744073709551615 (0x5A ∷ []) 100 ≡ 21)
  pub twenty_two : (refusal 65536 65535 (0x5A ∷ 0x5A ∷ []) 0 ≡ 22) × (refusal 65536 65534 (0x5A ∷ 0x5A ∷ []) 23 ≡ 0)
  pub twenty_three : (refusal 65536 65534 (0x5A ∷ 0x5A ∷ []) 22 ≡ 23) × (refusal 2097152 0xFE (0xA1 ∷ 0xA2 ∷ 0xA3 ∷ []) 43 ≡ 23) × (refusal 2097152 0xFE (0xA1 ∷ 0xA2 ∷ 0xA3 ∷ []) 44 ≡ 0)

pub refusals_met : RefusalsMet
unfolding refusal permitted pieces cut exchanges_of script_of
refusals_met = record { one = (refl, refl, refl); twenty = (refl, refl); twenty_one = (refl, refl, refl); twenty_two = (refl, refl); twenty_three = (refl, refl, refl) }
