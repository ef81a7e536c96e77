-- Reads, over any of them: what each byte of an open read drives, by its opcode and its place (RULES, Commands).
use Rattle.std.specs.Prelude.{ℕ, ◌+◌, ◌%◌, ◌<◌, ◌≤◌, Bool, true, cond, ◌&&◌, ◌||◌, List, ◌≡◌, refl, eqb, ltb, leb, get_or, set}
use Rattle.std.proofs.Common.{sym, ap, subst, ◌∙◌, mod-lt, mod-eq_of_lt, arith, le-leb, lt-ltb, le-ltb}
use Rattle.std.proofs.Math.Nat.{mod-add-mod, mod_self}
use Rattle.std.proofs.Math.Decide.{dec_lt}
use Rattle.cells.specs.Choice.{cond_yes, cond_no, cond_either}
use Rattle.part.specs.Part.{Setting, length_of, jedec_byte, jedec_cycle, device_byte}
use Rattle.part.specs.Area.{area_places, area_byte}
use Rattle.commands.specs.Table.{is_program, read_status, low_power_read, high_speed_read, jedec_id, wake, read_sfdp}
use Rattle.chip.specs.declared.Core.{Core}
use Rattle.chip.specs.declared.Frame.{Frame}
use Rattle.chip.specs.declared.Record.TheVariants.{Floating, Driven}
use Rattle.chip.specs.Fields.{with_place}
use Rattle.chip.specs.Chip.{status_byte}
use Rattle.frame.specs.Frame.{next_place, counting, reading, loading, addressing, Exchange, exchange, taken, exchanged}
use Rattle.frame.specs.Laws.{exchanged_taken}
use Rattle.meets.specs.Inside.{GoesOn}

-- ---- a byte of a frame that is not judged

module _ (T : Setting) (k : Core) (f : Frame) (load m : List ℕ) (b : ℕ) where
  -- `taken` with what it asks the frame taken out of it: the opcode, and whether four and five bytes have gone before
  abbrev taken_by : ℕ → Bool → Bool → Exchange
  taken_by opcode four five =
      cond (eqb opcode low_power_read && four || eqb opcode high_speed_read && five) (exchange (Driven (get_or m f.place 0)) (reading (length_of T.sectors) f) load)
      (cond ((eqb opcode 0x02 || eqb opcode 0x0A) && four) (exchange Floating (loading f) (set load f.slot b))
      (cond (eqb opcode read_status) (exchange (Driven (status_byte k)) (counting f) load)
      (cond (eqb opcode jedec_id) (exchange (Driven (jedec_byte f.place)) (reading jedec_cycle f) load)
      (cond (eqb opcode wake && four) (exchange (Driven device_byte) (counting f) load)
      (cond (eqb opcode read_sfdp && five) (exchange (Driven (area_byte T.area f.place)) (reading area_places f) load)
      (exchange Floating (addressing T.sectors b f) load))))))

  -- Where these are known, it computes.
  pub taken_by_lem : {opcode : ℕ} {four five : Bool} → f.opcode ≡ opcode → leb 4 f.count ≡ four → leb 5 f.count ≡ five → taken T k f load m b ≡ taken_by opcode four five
  unfolding taken is_program
  taken_by_lem o p q = λ i. taken_by (o i) (p i) (q i)

-- ---- the reads

-- a read: its opcode, the bytes before its first data byte, what a byte of it is, by core, memory and place, and the place after a place
pub record Read : Type 0 where
  pub opcode : ℕ
  pub before : ℕ
  pub byte : Core → List ℕ → ℕ → ℕ
  pub next : ℕ → ℕ

-- a read of these four
abbrev pub read : ℕ → ℕ → (Core → List ℕ → ℕ → ℕ) → (ℕ → ℕ) → Read
read opcode before byte next = record { opcode = opcode; before = before; byte = byte; next = next }

-- what it drives from then on
pub record Serves (T : Setting) (r : Read) : Type 0 where
  pub some : 1 ≤ r.before
  pub few : r.before ≤ 6
  pub drives : (k : Core) (f : Frame) (load m : List ℕ) (b : ℕ) → f.opcode ≡ r.opcode → r.before ≤ f.count
      → taken T k f load m b ≡ exchange (Driven (r.byte k m f.place)) (with_place (r.next f.place) (counting f)) load

module _ (T : Setting) where
  -- the reads of cells, 03h and 0Bh
  abbrev pub cell_read : ℕ → ℕ → Read
  cell_read opcode before = read opcode before (λ k m p. get_or m p 0) (next_place (length_of T.sectors))

  abbrev pub low_power : Read
  low_power = cell_read 0x03 4

  abbrev pub high_speed : Read
  high_speed = cell_read 0x0B 5

  -- the area, the cycle of 9Fh, the device's byte, the status
  abbrev pub sfdp : Read
  sfdp = read 0x5A 5 (λ k m p. area_byte T.area p) (next_place area_places)

  abbrev pub jedec : Read
  jedec = read 0x9F 1 (λ k m p. jedec_byte p) (next_place jedec_cycle)

  abbrev pub device : Read
  device = read 0xAB 4 (λ k m p. device_byte) (λ p. p)

  abbrev pub status : Read
  status = read 0x05 1 (λ k m p. status_byte k) (λ p. p)

  -- Each of the six drives what it says.
  pub low_power_serves : Serves T low_power
  low_power_serves = record { some = omega arith; few = omega arith; drives = λ k f load m b o n. taken_by_lem T k f load m b o (le-leb 4 _ n) refl }

  pub high_speed_serves : Serves T high_speed
  high_speed_serves = record { some = omega arith; few = omega arith; drives = λ k f load m b o n. taken_by_lem T k f load m b o refl (le-leb 5 _ n) }

  pub sfdp_serves : Serves T sfdp
  sfdp_serves = record { some = omega arith; few = omega arith; drives = λ k f load m b o n. taken_by_lem T k f load m b o refl (le-leb 5 _ n) }

  pub jedec_serves : Serves T jedec
  jedec_serves = record { some = omega arith; few = omega arith; drives = λ k f load m b o n. taken_by_lem T k f load m b o refl refl }

  pub device_serves : Serves T device
  device_serves = record { some = omega arith; few = omega arith; drives = λ k f load m b o n. taken_by_lem T k f load m b o (le-leb 4 _ n) refl }

  pub status_serves : Serves T status
  status_serves = record { some = omega arith; few = omega arith; drives = λ k f load m b o n. taken_by_lem T k f load m b o refl refl }

-- ---- an open read

-- an open frame of a read, at its place after j data bytes
pub record Reading (r : Read) (place : ℕ → ℕ) (j : ℕ) (f : Frame) : Type 0 where
  pub is_open : f.selected ≡ true
  pub opcode_is : f.opcode ≡ r.opcode
  pub unjudged : f.judgement ≡ 0
  pub begun : r.before ≤ f.count
  pub there : f.place ≡ place j

module _ (T : Setting) (r : Read) (serves : Serves T r) (place : ℕ → ℕ) where
  -- Its next byte is driven, and the place goes on.
  pub data_byte : (j : ℕ) (k : Core) (f : Frame) (load m : List ℕ) (b : ℕ) → Reading r place j f
      → exchanged T k f load m b ≡ exchange (Driven (r.byte k m (place j))) (with_place (r.next (place j)) (counting f)) load
  data_byte j k f load m b at =
      exchanged_taken T k f load m b at.is_open (λ z. omega (arith, z, at.begun, serves.some)) at.unjudged
      ∙ serves.drives k f load m b at.opcode_is at.begun
      ∙ ap (λ (p : ℕ). exchange (Driven (r.byte k m p)) (with_place (r.next p) (counting f)) load) at.there

  -- So an open read goes on, where the next of its places follow one another.
  pub read_goes_on : ((j : ℕ) → r.next (place j) ≡ place (j + 1)) → GoesOn T (Reading r place)
  read_goes_on follow =
      record {
        is_open = λ j f at. at.is_open;
        next_byte = λ j k f load m b at. subst (λ (e : Exchange). Reading r place (j + 1) e.frame) (sym (data_byte j k f load m b at))
            (record {
              is_open = at.is_open;
              opcode_is = at.opcode_is;
              unjudged = at.unjudged;
              begun = cond_either (λ (n : ℕ). r.before ≤ n) (ltb f.count 6) (f.count + 1) 6 (λ _. omega (arith, at.begun)) (λ _. serves.few);
              there = follow j;
            });
      }

-- ---- places: up by one, and round at the top

-- the place after p
pub next_place-mod : (n p : ℕ) → p < n → next_place n p ≡ (p + 1) % n
next_place-mod n p h = go (dec_lt (p + 1) n)
  where
    go : Dec (p + 1 < n) → next_place n p ≡ (p + 1) % n
    go (yes l) = cond_yes (ltb (p + 1) n) _ _ (lt-ltb _ _ l) ∙ sym (mod-eq_of_lt l)
    go (no l) =
        let e : p + 1 ≡ n = omega arith in
        cond_no (ltb (p + 1) n) _ _ (le-ltb (p + 1) n (omega arith)) ∙ sym (ap (λ (q : ℕ). q % n) e ∙ mod_self n)

-- The places of a read from p on follow one another.
pub round_follows : (n p j : ℕ) → 0 < n → next_place n ((p + j) % n) ≡ (p + (j + 1)) % n
round_follows n p j some =
    next_place-mod n ((p + j) % n) (mod-lt (p + j) some) ∙ mod-add-mod (p + j) n 1 ∙ ap (λ (q : ℕ). q % n) (omega arith)
