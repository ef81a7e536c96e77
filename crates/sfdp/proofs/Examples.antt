-- Worked examples: the part's own area, and the edges at which a reader goes wrong (RULES, The SFDP area).
use Rattle.std.specs.Prelude.{ℕ, true, List, [], ◌∷◌, ◌++◌, ◌≡◌, refl, length, take, replicate}
use Rattle.std.proofs.Common.{sym, ne_eqb}
use Rattle.part.specs.Area.{own_basic_table, own_maker_table, own_area}
use Rattle.sfdp.specs.Reader.{signed, first_from, refusal, found, found_of, table_of}

-- ---- the part's own area

-- it is signed, and 208 bytes long
pub own_signature : (signed own_area ≡ true) × (length own_area ≡ 208)
unfolding own_area
own_signature = (refl, refl)

-- 62h: the maker's table, 16 bytes at C0h
pub own_maker : (found_of own_area 0x62 ≡ found 0 0xC0 16) × (table_of own_area 0x62 ≡ own_maker_table)
unfolding own_area first_from refusal found_of table_of
own_maker = (refl, refl)

-- 00h: the basic table, 64 bytes at 40h
pub own_basic : (found_of own_area 0x00 ≡ found 0 0x40 64) × (table_of own_area 0x00 ≡ own_basic_table)
unfolding own_area first_from refusal found_of table_of
own_basic = (refl, refl)

-- FFh: the third header, whose bytes the datasheet leaves open, points past the area
pub own_undescribed : found_of own_area 0xFF ≡ found 17 0 0
unfolding own_area first_from refusal found_of
own_undescribed = refl

-- any other identity has no header
pub own_others : (identity : ℕ) → (identity ≡ 0x00 → ⊥) → (identity ≡ 0x62 → ⊥) → (identity ≡ 0xFF → ⊥) → found_of own_area identity ≡ found 16 0 0
unfolding own_area first_from refusal found_of
own_others identity a b c = rw (ne_eqb 0x00 identity (λ e. a (sym e)), ne_eqb 0x62 identity (λ e. b (sym e)), ne_eqb 0xFF identity (λ e. c (sym e)))

-- ---- how a row is written

-- the start of an area, with its byte 6: one less than the number of headers
abbrev pub start : ℕ → List ℕ
start less = 0x53 ∷ 0x46 ∷ 0x44 ∷ 0x50 ∷ 0x06 ∷ 0x01 ∷ less ∷ 0xFF ∷ []

-- a header: identity, words, and the pointer's three bytes as they stand in the area
abbrev pub header : ℕ → ℕ → ℕ → ℕ → ℕ → List ℕ
header identity words p q r = identity ∷ 0x00 ∷ 0x01 ∷ words ∷ p ∷ q ∷ r ∷ 0xFF ∷ []

-- an area: byte 6, the headers, and so many bytes after them
abbrev pub area_of : ℕ → List ℕ → ℕ → List ℕ
area_of less headers n = start less ++ headers ++ replicate n 0xA5

-- an area with one header, of identity 77h, that points at 10h, behind itself
abbrev pub one_of : ℕ → ℕ → List ℕ
one_of words n = area_of 0 (header 0x77 words 0x10 0x00 0x00) n

-- ---- the edges

pub record TrapsMet : Type 0 where
  -- a table may end where the area ends; with one byte less of area it ends past it
  pub table_to_the_end : found_of (one_of 1 4) 0x77 ≡ found 0 0x10 4
  pub table_past_the_end : found_of (one_of 1 3) 0x77 ≡ found 17 0 0
  -- so may the last header
  pub header_to_the_end : found_of (one_of 0 0) 0x77 ≡ found 0 0x10 0
  pub header_past_the_end : found_of (take 15 (one_of 0 0)) 0x77 ≡ found 15 0 0
  -- byte 6 is one less than the number of headers: 0 means one, 1 means two
  pub two_headers : found_of (area_of 1 (header 0x77 0 0x18 0x00 0x00 ++ header 0x88 1 0x18 0x00 0x00) 4) 0x88 ≡ found 0 0x18 4
  pub second_not_counted : found_of (area_of 0 (header 0x77 0 0x18 0x00 0x00 ++ header 0x88 1 0x18 0x00 0x00) 4) 0x88 ≡ found 16 0 0
  pub second_not_there : found_of (area_of 1 (header 0x77 0 0x10 0x00 0x00) 7) 0x77 ≡ found 15 0 0
  -- the length is in words of four bytes
  pub length_in_words : found_of (one_of 2 8) 0x77 ≡ found 0 0x10 8
  -- the pointer's low byte comes first: 00h 10h 00h is 1000h, and 10h 00h 01h is 10010h
  pub pointer_middle : found_of (area_of 0 (header 0x77 1 0x00 0x10 0x00) 4) 0x77 ≡ found 17 0 0
  pub pointer_high : found_of (area_of 0 (header 0x77 1 0x10 0x00 0x01) 4) 0x77 ≡ found 17 0 0
  -- a header's eighth byte is not looked at
  pub eighth_byte : found_of (start 0 ++ 0x77 ∷ 0x00 ∷ 0x01 ∷ 0x00 ∷ 0x10 ∷ 0x00 ∷ 0x00 ∷ 0x01 ∷ []) 0x77 ≡ found 0 0x10 0
  -- of two headers with one identity the first counts, also if only the second's table lies inside
  pub first_counts : found_of (area_of 1 (header 0x77 1 0x18 0x00 0x00 ++ header 0x77 2 0x1C 0x00 0x00) 12) 0x77 ≡ found 0 0x18 4
  pub bad_first_counts : found_of (area_of 1 (header 0x77 1 0x21 0x00 0x00 ++ header 0x77 2 0x1C 0x00 0x00) 12) 0x77 ≡ found 17 0 0
  -- a table of no words at the area's end is an empty part; one past the end it is refused
  pub empty_at_the_end : (found_of (one_of 0 0) 0x77 ≡ found 0 0x10 0) × (table_of (one_of 0 0) 0x77 ≡ [])
  pub empty_past_the_end : (found_of (area_of 0 (header 0x77 0 0x11 0x00 0x00) 0) 0x77 ≡ found 17 0 0) × (table_of (area_of 0 (header 0x77 0 0x11 0x00 0x00) 0) 0x77 ≡ [])
  -- 256 bytes are an area, 257 are not, signed or not
  pub longest : found_of (one_of 1 240) 0x77 ≡ found 0 0x10 4
  pub too_long_lem : found_of (one_of 1 241) 0x77 ≡ found 13 0 0
  pub too_long_first : found_of (replicate 257 0xFF) 0x77 ≡ found 13 0 0
  -- under four bytes 14; under eight 15, and eight are no header yet; a wrong letter 14 at any length
  pub no_bytes : found_of [] 0x77 ≡ found 14 0 0
  pub three_letters : found_of (take 3 (start 0)) 0x77 ≡ found 14 0 0
  pub four_letters : found_of (take 4 (start 0)) 0x77 ≡ found 15 0 0
  pub seven_bytes : found_of (take 7 (start 0)) 0x77 ≡ found 15 0 0
  pub eight_bytes : found_of (start 0) 0x77 ≡ found 15 0 0
  pub wrong_letter : found_of (0x53 ∷ 0x46 ∷ 0x44 ∷ 0x51 ∷ []) 0x77 ≡ found 14 0 0

pub traps_met : TrapsMet
unfolding first_from refusal found_of table_of
traps_met =
    record {
      table_to_the_end = refl;
      table_past_the_end = refl;
      header_to_the_end = refl;
      header_past_the_end = refl;
      two_headers = refl;
      second_not_counted = refl;
      second_not_there = refl;
      length_in_words = refl;
      pointer_middle = refl;
      pointer_high = refl;
      eighth_byte = refl;
      first_counts = refl;
      bad_first_counts = refl;
      empty_at_the_end = (refl, refl);
      empty_past_the_end = (refl, refl);
      longest = refl;
      too_long_lem = refl;
      too_long_first = refl;
      no_bytes = refl;
      three_letters = refl;
      four_letters = refl;
      seven_bytes = refl;
      eight_bytes = refl;
      wrong_letter = refl;
    }
