-- The SFDP area: how long it may be, what 5Ah finds at a place of it, and the part's own (RULES, The SFDP area).
use Rattle.std.specs.Prelude.{ℕ, ◌^◌, List, [], ◌∷◌, ◌++◌, get_or, replicate}

-- an area has at most 256 bytes
abbrev pub longest_area : ℕ
longest_area = 256

-- the places that 5Ah can name, whatever the memory's length: after the last, FFFFFFh, comes 0
abbrev pub area_places : ℕ
area_places = 2 ^ 24

-- what stands at a place: the area's byte, or FFh at and past its end
abbrev pub area_byte : List ℕ → ℕ → ℕ
area_byte area place = get_or area place 0xFF

-- ---- the part's own area, 00h to CFh (RULES, The SFDP area; docs/DECISIONS.md, D31)

-- 00h: the signature "SFDP", revision 1.5, three headers (the number less one), a byte not used
abbrev pub own_start : List ℕ
own_start = 0x53 ∷ 0x46 ∷ 0x44 ∷ 0x50 ∷ 0x05 ∷ 0x01 ∷ 0x02 ∷ 0xFF ∷ []

-- 08h: identity 00h, the basic table: revision 1.0, 16 words at 40h
abbrev pub own_basic_header : List ℕ
own_basic_header = 0x00 ∷ 0x00 ∷ 0x01 ∷ 0x10 ∷ 0x40 ∷ 0x00 ∷ 0x00 ∷ 0xFF ∷ []

-- 10h: identity 62h, the maker's table: revision 1.0, 4 words at C0h
abbrev pub own_maker_header : List ℕ
own_maker_header = 0x62 ∷ 0x00 ∷ 0x01 ∷ 0x04 ∷ 0xC0 ∷ 0x00 ∷ 0x00 ∷ 0xFF ∷ []

-- n bytes that the datasheet leaves open
abbrev pub left_open : ℕ → List ℕ
left_open n = replicate n 0xFF

-- 40h: the basic table, four words a line
abbrev pub own_basic_table : List ℕ
own_basic_table =
    0xE5 ∷ 0x20 ∷ 0x91 ∷ 0xFF ∷ 0xFF ∷ 0xFF ∷ 0xFF ∷ 0x00 ∷ 0x00 ∷ 0xFF ∷ 0x00 ∷ 0xFF ∷ 0x08 ∷ 0x3B ∷ 0x04 ∷ 0xBB
    ∷ 0xEE ∷ 0xFF ∷ 0xFF ∷ 0xFF ∷ 0xFF ∷ 0xFF ∷ 0x00 ∷ 0xFF ∷ 0xFF ∷ 0xFF ∷ 0x00 ∷ 0xFF ∷ 0x0C ∷ 0x20 ∷ 0x10 ∷ 0xD8
    ∷ 0x00 ∷ 0xFF ∷ 0x00 ∷ 0xFF ∷ 0x94 ∷ 0x70 ∷ 0x00 ∷ 0x00 ∷ 0x82 ∷ 0xE6 ∷ 0x07 ∷ 0x0C ∷ 0xFD ∷ 0x80 ∷ 0x08 ∷ 0x44
    ∷ 0x30 ∷ 0xB0 ∷ 0x30 ∷ 0xB0 ∷ 0x04 ∷ 0xC4 ∷ 0xD5 ∷ 0x5C ∷ 0x00 ∷ 0x00 ∷ 0x00 ∷ 0x00 ∷ 0x19 ∷ 0x10 ∷ 0x00 ∷ 0x00 ∷ []

-- C0h: the maker's table: supply voltages, pins, and the answers to 9Fh and ABh
abbrev pub own_maker_table : List ℕ
own_maker_table = 0x50 ∷ 0x19 ∷ 0x50 ∷ 0x16 ∷ 0x14 ∷ 0xFF ∷ 0xFF ∷ 0xFF ∷ 0x9F ∷ 0x62 ∷ 0x16 ∷ 0x15 ∷ 0xAB ∷ 0x88 ∷ 0xFF ∷ 0xFF ∷ []

-- all of it; open are 18h to 3Fh, where the third header would stand, and 80h to BFh
unfoldable pub own_area : List ℕ
own_area = own_start ++ own_basic_header ++ own_maker_header ++ left_open 40 ++ own_basic_table ++ left_open 64 ++ own_maker_table
