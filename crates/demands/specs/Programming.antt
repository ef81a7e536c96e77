-- What the script writer promises, of any writer and any runner: its script is good, and run on a chip at rest it programs exactly those bytes (RULES, The script writer).
use Rattle.std.specs.Prelude.{ℕ, zero, suc, ◌+◌, ◌*◌, ◌/◌, ◌%◌, ◌-◌, ◌<◌, ◌≤◌, min, false, cond, List, [], ◌∷◌, ◌++◌, ◌≡◌, ◌⊎◌, eqb, length, get_or, take, drop, replicate}
use Rattle.std.specs.Int.Bits.{bit_and}
use Rattle.part.specs.Part.{sectors_in}
use Rattle.part.specs.Protection.{is_protected}
use Rattle.chip.specs.declared.Chip.{Chip}
use Rattle.chip.specs.Chip.{whole, empty_frame, blank_load}
use Rattle.clock.specs.Clock.{unset}
use Rattle.script.specs.Script.{events}
use Rattle.demands.specs.Demand1.{RunReply, Runner, AllSound, room_needed}
use Rattle.demands.specs.Demand2.{AllBytes, Ready, powered_up}

-- a writer: from an address and some bytes to a script
abbrev pub Writer : Type 0
Writer = ℕ → List ℕ → List ℕ

-- ---- the pages

-- how many pages n bytes from address A on touch
abbrev pub pages_touched : ℕ → ℕ → ℕ
pages_touched A n = cond (eqb n 0) 0 ((A % 256 + n - 1) / 256 + 1)

-- how many of them lie in the first page
abbrev pub in_first_page : ℕ → ℕ → ℕ
in_first_page A n = min n (256 - A % 256)

-- ---- the script

-- an exchange for each byte
unfoldable pub exchanges_for : List ℕ → List ℕ
exchanges_for [] = []
exchanges_for (b ∷ bs) = 0x02 ∷ b ∷ exchanges_for bs

-- for some bytes of one page, the first of them for address A: 06h in a frame; 02h, the address and the bytes in a frame; 16 ticks
abbrev pub page_script : ℕ → List ℕ → List ℕ
page_script A bs =
    0x01 ∷ 0x02 ∷ 0x06 ∷ 0x03 ∷ 0x00
    ∷ 0x01 ∷ 0x02 ∷ 0x02 ∷ 0x02 ∷ A / 65536 % 256 ∷ 0x02 ∷ A / 256 % 256 ∷ 0x02 ∷ A % 256
    ∷ (exchanges_for bs ++ (0x03 ∷ 0x00 ∷ 0x05 ∷ 0x00 ∷ 0x10 ∷ []))

-- ---- what the run says

-- for k bytes of one page: 06h floats and is verdict 1; 02h, the three bytes of its address and its data float and are verdict 2
abbrev pub page_says : ℕ → List ℕ
page_says k = 0x80 ∷ 0x82 ∷ 1 ∷ 0x80 ∷ 0x80 ∷ 0x80 ∷ 0x80 ∷ (replicate k 0x80 ++ (0x82 ∷ 2 ∷ []))

-- page after page
unfoldable pub says_for : ℕ → ℕ → ℕ → List ℕ
says_for zero A n = []
says_for (suc pages) A n = page_says (in_first_page A n) ++ says_for pages (A + in_first_page A n) (n - in_first_page A n)

-- all of n bytes from A on
abbrev pub says : ℕ → ℕ → List ℕ
says A n = says_for (pages_touched A n) A n

-- ---- the run

-- what the promise asks: some bytes that a memory has room for, at most 4,096; a legal chip that is idle, awake and unselected; no cell of the range in a protected sector.
-- That bytes and cells are at most 255 is what their types say. WEN and arming are any.
pub record Programmable (c : Chip) (m area : List ℕ) (A : ℕ) (bs : List ℕ) : Type 0 where
  pub ready : Ready c m area
  pub few : length bs ≤ 4096
  pub inside : A + length bs ≤ length m
  pub free : (j : ℕ) → j < length bs → is_protected c.core.level c.core.tb (sectors_in (length m)) ((A + j) / 65536) ≡ false
  pub bytes : AllBytes bs
  pub cells : (i : ℕ) → get_or m i 0 ≤ 255

-- the chip afterwards: as given where there was nothing to program; otherwise at rest, with its kept bits and the level of WP, and WEN 0 and unarmed, as after a power cut
abbrev pub chip_after : Chip → ℕ → Chip
chip_after c n = cond (eqb n 0) c (whole (powered_up c.core) empty_frame blank_load blank_load)

-- what the run of the script answers and leaves
pub record Programmed (c : Chip) (m : List ℕ) (A : ℕ) (bs out : List ℕ) (r : RunReply) : Type 0 where
  pub done : r.refusal ≡ 0
  -- exactly those cells ANDed with the bytes, and every other cell as it was
  pub cells_and : (j : ℕ) → j < length bs → get_or r.memory (A + j) 0 ≡ bit_and (get_or m (A + j) 0) (get_or bs j 0)
  pub others_same : (i : ℕ) → (i < A) ⊎ (A + length bs ≤ i) → get_or r.memory i 0 ≡ get_or m i 0
  pub as_long : length r.memory ≡ length m
  pub chip-is : r.chip ≡ chip_after c (length bs)
  -- 16 working ticks a page
  pub ticks_are : r.ticks ≡ 16 * pages_touched A (length bs)
  -- every deselect's verdict is 1 for 06h and 2 for 02h, every exchange floats, and beyond that the output is as it was
  pub output_is : r.output ≡ says A (length bs) ++ drop (length (says A (length bs))) out
  pub written_is : r.written ≡ length (says A (length bs))

-- ---- the promise

pub record Programs (W : Writer) (R : Runner) : Type 0 where
  -- no bytes, no script; otherwise the first page's, and then that for the rest from the next page on
  pub none_for_none : (A : ℕ) → W A [] ≡ []
  pub page_by_page : (A : ℕ) (bs : List ℕ) → 0 < length bs
      → let k : ℕ = in_first_page A (length bs) in
      W A bs ≡ page_script A (take k bs) ++ W (A + k) (drop k bs)
  -- nothing of 3 to 6 and 8 refuses it: it is short, and each event of it is whole, of a kind that a script has, in its range, and no stamp that went back
  pub short : (A : ℕ) (bs : List ℕ) → length bs ≤ 4096 → length (W A bs) ≤ 8515
  pub sound : (A : ℕ) (bs : List ℕ) → AllBytes bs → AllSound (W A bs) unset (events (W A bs))
  -- the room that a run of it asks
  pub room : (A : ℕ) (bs : List ℕ) → AllBytes bs → room_needed (events (W A bs)) ≡ 16 * pages_touched A (length bs) + 2 * length bs
  -- and run, it programs
  pub programs : (c : Chip) (m area : List ℕ) (A : ℕ) (bs out : List ℕ) → Programmable c m area A bs → 16 * pages_touched A (length bs) + 2 * length bs ≤ length out
      → Programmed c m A bs out (R c m area (W A bs) out)
