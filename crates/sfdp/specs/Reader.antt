-- The reader: the headers of an SFDP area, and the parameter table that a header points at (RULES, The SFDP area).
use Rattle.std.specs.Prelude.{ℕ, zero, suc, ◌+◌, ◌*◌, Bool, cond, not, ◌&&◌, ◌||◌, List, eqb, ltb, length, get_or, take, drop, Result, Ok, Err}
use Rattle.part.specs.Area.{longest_area}
use Rattle.refusal.specs.declared.Refusal.{Refusal}
use Rattle.refusal.specs.Table.{number_of}
use Rattle.sfdp.specs.declared.TableAt.{TableAt}

-- ---- what stands in an area

-- the signature: the letters "SFDP"
abbrev pub signed : List ℕ → Bool
signed area = eqb (get_or area 0 0) 0x53 && eqb (get_or area 1 0) 0x46 && eqb (get_or area 2 0) 0x44 && eqb (get_or area 3 0) 0x50

-- how many headers there are: byte 6 says one less
abbrev pub header_count : List ℕ → ℕ
header_count area = get_or area 6 0 + 1

-- where header i begins, counted from 0: eight bytes each, from 08h on
abbrev pub header_at : ℕ → ℕ
header_at i = 8 + 8 * i

-- the first byte of a header is its identity
abbrev pub identity_at : List ℕ → ℕ → ℕ
identity_at area i = get_or area (header_at i) 0

-- the fourth is the length of its table, in words of four bytes
abbrev pub table_length : List ℕ → ℕ → ℕ
table_length area i = 4 * get_or area (header_at i + 3) 0

-- the fifth to the seventh are the pointer, where its table begins, the low byte first; the eighth is not looked at
abbrev pub table_place : List ℕ → ℕ → ℕ
table_place area i = get_or area (header_at i + 4) 0 + 256 * get_or area (header_at i + 5) 0 + 65536 * get_or area (header_at i + 6) 0

-- ---- the header that counts

-- the first of the n headers from header i on that has an identity; the one after them if none has
unfoldable pub first_from : List ℕ → ℕ → ℕ → ℕ → ℕ
first_from area identity i zero = i
first_from area identity i (suc n) = cond (eqb (identity_at area i) identity) i (first_from area identity (i + 1) n)

abbrev pub header_of : List ℕ → ℕ → ℕ
header_of area identity = first_from area identity 0 (header_count area)

-- ---- the answer

-- the number that refuses an area or an identity, 0 for none
unfoldable pub refusal : List ℕ → ℕ → ℕ
refusal area identity =
    cond (ltb longest_area (length area)) 13
    (cond (ltb (length area) 4 || not (signed area)) 14
    (cond (ltb (length area) 8 || ltb (length area) (header_at (header_count area))) 15
    (cond (eqb (header_of area identity) (header_count area)) 16
    (cond (ltb (length area) (table_place area (header_of area identity) + table_length area (header_of area identity))) 17 0))))

-- the number that refuses, 0 for none, and a table's place and length in bytes, both 0 if refused
pub record Found : Type 0 where
  pub refusal : ℕ
  pub place : ℕ
  pub length : ℕ

abbrev pub found : ℕ → ℕ → ℕ → Found
found number place length = record { refusal = number; place = place; length = length }

-- what is found, or what refuses it, by these numbers
abbrev pub found_as : Result TableAt Refusal → Found
found_as (Ok at) = found 0 at.place at.length
found_as (Err refused) = found (number_of refused) 0 0

unfoldable pub found_of : List ℕ → ℕ → Found
found_of area identity =
    cond (eqb (refusal area identity) 0) (found 0 (table_place area (header_of area identity)) (table_length area (header_of area identity)))
    (found (refusal area identity) 0 0)

-- the table itself: that many bytes of the area, from that place on; none if refused
unfoldable pub table_of : List ℕ → ℕ → List ℕ
table_of area identity = take (found_of area identity).length (drop (found_of area identity).place area)
