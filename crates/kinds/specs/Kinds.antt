-- The kinds of events: one row a kind, with its body, what it can say and the room for that (RULES, Events; Records).
use Rattle.std.specs.Prelude.{ℕ, Bool, true, false, cond, ◌&&◌, ◌||◌, List, [], ◌∷◌, eqb, leb}

-- ---- the kinds by name

-- CS goes low: a frame begins
abbrev pub SELECT : ℕ
SELECT = 0x01

-- eight clocks: a byte goes in on SI, and perhaps one comes out on SO
abbrev pub EXCHANGE : ℕ
EXCHANGE = 0x02

-- CS goes high; the body is how many bits of a byte had gone in, 0 on a byte boundary
abbrev pub DESELECT : ℕ
DESELECT = 0x03

-- one tick; and as many ticks as the body says
abbrev pub TICK : ℕ
TICK = 0x04

abbrev pub TICKS : ℕ
TICKS = 0x05

-- the level of the WP pin
abbrev pub WP : ℕ
WP = 0x06

-- power goes, and comes back
abbrev pub POWER : ℕ
POWER = 0x07

-- what a bench's counter showed; only a run has a clock to read it by
abbrev pub STAMP : ℕ
STAMP = 0x09

-- ---- the table

-- what an event can say: nothing; what the line did in an exchange; a deselect's verdict
pub data Says : Type 0 where
  silent : Says
  line : Says
  verdict : Says

-- where a kind can stand: in a script and as an event alone; in a script only; nowhere, which is what is no kind
pub data Where : Type 0 where
  anywhere : Where
  in_script : Where
  nowhere : Where

-- a kind, the length of its body, the least and the greatest body, what it can say, the room for it, and where it can stand (RULES, Events)
pub record KindRow : Type 0 where
  pub kind : ℕ
  pub body : ℕ
  pub least : ℕ
  pub most : ℕ
  pub says : Says
  pub room : ℕ
  pub place : Where

-- a row, written as the table has it
abbrev pub row : ℕ → ℕ → ℕ → ℕ → Says → ℕ → Where → KindRow
row kind body least most says room place = record { kind = kind; body = body; least = least; most = most; says = says; room = room; place = place }

-- the seven kinds of events, and the stamp (RULES, Events)
abbrev pub kind_rows : List KindRow
kind_rows =
    row SELECT 0 0 0 silent 0 anywhere
    ∷ row EXCHANGE 1 0 255 line 2 anywhere
    ∷ row DESELECT 1 0 7 verdict 3 anywhere
    ∷ row TICK 0 0 0 silent 0 anywhere
    ∷ row TICKS 2 1 65535 silent 0 anywhere
    ∷ row WP 1 0 1 silent 0 anywhere
    ∷ row POWER 0 0 0 silent 0 anywhere
    ∷ row STAMP 2 0 65535 silent 0 in_script
    ∷ []

-- the first row of a kind; what is no kind has no body, says nothing and stands nowhere
unfoldable pub kind_row_in : List KindRow → ℕ → KindRow
kind_row_in [] kind = row kind 0 0 0 silent 0 nowhere
kind_row_in (r ∷ rs) kind = cond (eqb kind r.kind) r (kind_row_in rs kind)

-- ---- what the table says of a kind

-- its row
unfoldable pub kind_row : ℕ → KindRow
kind_row kind = kind_row_in kind_rows kind

-- whether it is a kind of event, which can be applied alone; and whether it is a kind that a script can have
abbrev pub is_anywhere : Where → Bool
is_anywhere anywhere = true
is_anywhere in_script = false
is_anywhere nowhere = false

abbrev pub is_somewhere : Where → Bool
is_somewhere anywhere = true
is_somewhere in_script = true
is_somewhere nowhere = false

unfoldable pub known_kind : ℕ → Bool
known_kind kind = is_anywhere (kind_row kind).place

unfoldable pub known_in_script : ℕ → Bool
known_in_script kind = is_somewhere (kind_row kind).place

-- how many bytes its body has
abbrev pub body_length : ℕ → ℕ
body_length kind = (kind_row kind).body

-- whether a body is in its kind's range; a kind without a body has no range, and any number will do
abbrev pub in_range : ℕ → ℕ → Bool
in_range kind body = eqb (body_length kind) 0 || leb (kind_row kind).least body && leb body (kind_row kind).most

-- what it can say
abbrev pub says_of : ℕ → Says
says_of kind = (kind_row kind).says

-- whether that is a record
abbrev pub is_said : Says → Bool
is_said silent = false
is_said line = true
is_said verdict = true

-- whether a kind yields a record
abbrev pub yields : ℕ → Bool
yields kind = is_said (says_of kind)

-- the room for its record, and the most that any kind asks
abbrev pub room_of : ℕ → ℕ
room_of kind = (kind_row kind).room

abbrev pub most_room : ℕ
most_room = 3
