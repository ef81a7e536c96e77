-- Demand 2 of ours: the reads. Each drives its bytes whatever ticks, WP levels and selects come between them.
use Rattle.std.specs.Prelude.{ℕ, ◌+◌, ◌*◌, ◌/◌, ◌%◌, ◌^◌, ◌<◌, ◌≤◌, Bool, true, false, cond, ◌≡◌, length, get_or}
use mathlib.Core.List.{List, [], ◌∷◌, ◌++◌}
use Rattle.std.proofs.Math.Path.{refl, sym, ap}
use Rattle.std.proofs.Common.{subst, ◌∙◌, add-zero, zero-add, mul-one, mul-zero, mod-eq_of_lt}
use native.Mathlib.Omega.{arith}
use Rattle.part.specs.Part.{Setting, setting_of, sectors_in, length_of, jedec_byte}
use Rattle.part.proofs.Laws.{permitted-some}
use Rattle.commands.specs.Table.{row_of, row_in}
use Rattle.chip.specs.declared.Chip.{Chip}
use Rattle.chip.specs.declared.Core.{Core}
use Rattle.chip.specs.declared.Frame.{Frame}
use Rattle.chip.specs.Chip.{running, status_byte}
use Rattle.chip.specs.Record.{record_bytes}
use Rattle.legal.proofs.Legality.{chip-facts}
use Rattle.frame.specs.Frame.{judge, Exchange}
use Rattle.event.specs.Event.{applied}
use Rattle.script.specs.Script.{Event}
use Rattle.script.specs.Run.{World}
use Rattle.demands.specs.Model.{Reply, ours, event, address, Fit, runs_by}
use Rattle.demands.specs.Demand2.{AllInside, AllBytes, bytes_of, Quiet, Ready, opened, said_next, Drives, CellReads, OtherReads, StatusByte, StatusRead}
use Rattle.meets.specs.Opening.{opcode_frame, Opens, unstopped, allowed, quiet_takes, ready_takes, opens_opcode, opens_address, opens_dummy}
use Rattle.meets.specs.OursFrames.{as_long, address-bytes, byte-good, opening_floats, still_fits, does_as, frame_there, same_cells}
use Rattle.meets.specs.Reads.{Read, Serves, Reading, data_byte, read_goes_on, round_follows, cell_read, sfdp, jedec, device, status, low_power_serves, high_speed_serves, sfdp_serves, jedec_serves, device_serves, status_serves}

-- the setting that goes with a memory and an area
abbrev T : List ℕ → List ℕ → Setting
T m area = setting_of (length m) area

-- ---- a read of ours, any of them

module _ (c : Chip) (m area : List ℕ) (fit : Fit c m area) (opening : List ℕ) (bytes : AllBytes opening) (f : Frame) (opens : Opens c m area opening f) where
  -- the world after the opening and these events
  abbrev later : List Event → World
  later es = runs_by ours area es (opened ours c m area opening)

  module _ (r : Read) (serves : Serves (T m area) r) (place : ℕ → ℕ) (follow : (j : ℕ) → r.next (place j) ≡ place (j + 1)) (begins : Reading r place 0 f) where
    -- its next byte is the one at its place, by core and memory as they then are
    read_says : (es : List Event) → AllInside es → (b : ℕ) → b ≤ 255 → said_next ours area (later es) b ≡ 0x81 ∷ r.byte (later es).chip.core (later es).memory (place (bytes_of es)) ∷ []
    unfolding applied
    read_says es inside b byte =
        let w : World = later es in
        ap (λ (q : Reply). q.says) (does_as c m area fit opening bytes f opens es inside (event 0x02 b) (byte-good b byte))
        ∙ ap (λ (x : Exchange). record_bytes x.said)
        (data_byte (T m area) r serves place (bytes_of es) w.chip.core w.chip.frame w.chip.load w.memory (b % 256)
        (frame_there c m area fit opening bytes f opens es inside (Reading r place) (read_goes_on (T m area) r serves place follow) begins))

    -- so, where no job runs, it drives the bytes of its places
    read_drives : running c.core ≡ false → (g : ℕ → ℕ) → ((k : Core) (j : ℕ) → r.byte k m (place j) ≡ g j) → Drives ours c m area opening g
    read_drives rests g same =
        record {
          opening_floats = opening_floats c m area fit opening bytes f opens;
          byte_driven = λ es inside b byte.
              read_says es inside b byte
              ∙ ap (λ (q : List ℕ). 0x81 ∷ r.byte (later es).chip.core q (place (bytes_of es)) ∷ []) (same_cells c m area fit opening bytes f opens es inside rests)
              ∙ ap (λ (q : ℕ). 0x81 ∷ q ∷ []) (same (later es).chip.core (bytes_of es));
        }

-- ---- the reads of cells

module _ (c : Chip) (m area : List ℕ) (quiet : Quiet c m area) where
  -- the part's sectors, of which there are some
  abbrev S : ℕ
  S = sectors_in (length m)

  some_cells : 0 < length_of S
  some_cells = omega (arith, permitted-some (length m) (chip-facts c (length m) quiet.fit.state_legal).length_permitted)

  -- from the place of an address on, whatever has opened the frame
  cells_drive : (opcode before A : ℕ) → Serves (T m area) (cell_read (T m area) opcode before) → (opening : List ℕ) → AllBytes opening
      → Opens c m area opening (record { selected = true; opcode = opcode; address = A; place = A % length_of S; slot = A % 256; count = before; judgement = 0 })
      → Drives ours c m area opening (λ j. get_or m ((A + j) % length m) 0)
  cells_drive opcode before A serves opening bytes opens =
      read_drives c m area quiet.fit opening bytes _ opens (cell_read (T m area) opcode before) serves (λ j. (A + j) % length_of S) (λ j. round_follows (length_of S) A j some_cells)
      (record { is_open = refl; opcode_is = refl; unjudged = refl; begun = omega arith; there = ap (λ (q : ℕ). q % length_of S) (sym (add-zero A)) })
      quiet.resting _ (λ k j. ap (λ (n : ℕ). get_or m ((A + j) % n) 0) (as_long c m area quiet.fit))

  -- Ours reads cells as the demand says, idle or suspended.
  pub ours_cell_reads : CellReads ours c m area
  unfolding AllBytes row_of row_in
  ours_cell_reads =
      record {
        low_power_lem = λ A small.
            cells_drive 0x03 4 A (low_power_serves (T m area)) (0x03 ∷ address A) (omega arith, address-bytes A [] small _)
            (opens_address c m area quiet.fit quiet.unselected 0x03 A small refl (quiet_takes c m area quiet 0x03 refl refl));
        high_speed_lem = λ A dummy small byte.
            cells_drive 0x0B 5 A (high_speed_serves (T m area)) (0x0B ∷ (address A ++ (dummy ∷ []))) (omega arith, address-bytes A (dummy ∷ []) small (byte, _))
            (opens_dummy c m area quiet.fit quiet.unselected 0x0B A small refl (quiet_takes c m area quiet 0x0B refl refl) refl dummy);
      }

-- ---- the reads of an idle chip

module _ (c : Chip) (m area : List ℕ) (ready : Ready c m area) where
  abbrev quiet : Quiet c m area
  quiet = ready.quiet

  -- the area, from an address on
  sfdp_drives : (A dummy : ℕ) → A < 2 ^ 24 → dummy ≤ 255 → Drives ours c m area (0x5A ∷ (address A ++ (dummy ∷ []))) (λ j. get_or area ((A + j) % 2 ^ 24) 0xFF)
  unfolding AllBytes row_of row_in
  sfdp_drives A dummy small byte =
      read_drives c m area quiet.fit (0x5A ∷ (address A ++ (dummy ∷ []))) (omega arith, address-bytes A (dummy ∷ []) small (byte, _)) _
      (opens_dummy c m area quiet.fit quiet.unselected 0x5A A small refl (ready_takes c m area ready 0x5A refl) refl dummy)
      (sfdp (T m area)) (sfdp_serves (T m area)) (λ j. (A + j) % 2 ^ 24) (λ j. round_follows (2 ^ 24) A j (omega arith))
      (record { is_open = refl; opcode_is = refl; unjudged = refl; begun = omega arith; there = sym (mod-eq_of_lt small) ∙ ap (λ (q : ℕ). q % 2 ^ 24) (sym (add-zero A)) })
      quiet.resting _ (λ k j. refl)

  -- the cycle, from byte 2
  jedec_drives : Drives ours c m area (0x9F ∷ []) (λ j. get_or (0x62 ∷ 0x16 ∷ 0x15 ∷ 0x00 ∷ []) (j % 4) 0)
  unfolding AllBytes row_of row_in
  jedec_drives =
      read_drives c m area quiet.fit (0x9F ∷ []) (omega arith, _) _
      (opens_opcode c m area quiet.fit quiet.unselected 0x9F (omega arith))
      (jedec (T m area)) (jedec_serves (T m area)) (λ j. (0 + j) % 4) (λ j. round_follows 4 0 j (omega arith))
      (record { is_open = refl; opcode_is = refl; unjudged = ready_takes c m area ready 0x9F refl; begun = omega arith; there = refl })
      quiet.resting _ (λ k j. ap (λ (q : ℕ). jedec_byte (q % 4)) (zero-add j))

  -- the device's byte, after any address
  device_drives : (A : ℕ) → A < 2 ^ 24 → Drives ours c m area (0xAB ∷ address A) (λ j. 0x88)
  unfolding AllBytes row_of row_in
  device_drives A small =
      read_drives c m area quiet.fit (0xAB ∷ address A) (omega arith, address-bytes A [] small _) _
      (opens_address c m area quiet.fit quiet.unselected 0xAB A small refl (ready_takes c m area ready 0xAB refl))
      (device (T m area)) (device_serves (T m area)) (λ j. A % length_of (sectors_in (length m))) (λ j. refl)
      (record { is_open = refl; opcode_is = refl; unjudged = refl; begun = omega arith; there = refl })
      quiet.resting _ (λ k j. refl)

  -- any three bytes are an address
  three_bytes : (x y z : ℕ) → x ≤ 255 → y ≤ 255 → z ≤ 255 → address (x * 65536 + y * 256 + z) ≡ x ∷ y ∷ z ∷ []
  three_bytes x y z p q r =
      let A : ℕ = x * 65536 + y * 256 + z in
      let high : A / 65536 ≡ x = omega arith in
      let middle : A / 256 % 256 ≡ y = omega arith in
      let low : A % 256 ≡ z = omega arith in
      λ i. high i ∷ middle i ∷ low i ∷ []

  -- An idle chip of ours reads the area, the cycle and the device's byte as the demand says.
  pub ours_other_reads : OtherReads ours c m area
  ours_other_reads =
      record {
        sfdp = sfdp_drives;
        jedec = jedec_drives;
        device = λ x y z p q r. subst (λ (bs : List ℕ). Drives ours c m area (0xAB ∷ bs) (λ j. 0x88)) (three_bytes x y z p q r) (device_drives (x * 65536 + y * 256 + z) (omega arith));
      }

-- ---- the status

-- the status byte has the status bits
pub status_bits : (k : Core) → k.level ≤ 7 → StatusByte k (status_byte k)
unfolding status_byte
status_bits k h =
    let r = weight (running k) 1 in
    let e = weight k.wen 2 in
    let t = weight k.tb 32 in
    let u = weight k.suspended 64 in
    let p = weight k.srwp 128 in
    record {
      rdy = omega (arith, r.1, e.0, e.1, t.0, t.1, u.0, u.1, p.0, p.1);
      wen = omega (arith, r.1, e.0, e.1, t.0, t.1, u.0, u.1, p.0, p.1);
      bp = omega (arith, r.1, e.0, e.1, t.0, t.1, u.0, u.1, p.0, p.1);
      tb = omega (arith, r.1, e.0, e.1, t.0, t.1, u.0, u.1, p.0, p.1);
      sus = omega (arith, r.1, e.0, e.1, t.0, t.1, u.0, u.1, p.0, p.1);
      srwp = omega (arith, r.1, e.0, e.1, t.0, t.1, u.0, u.1, p.0, p.1);
    }
  where
    weight : (b : Bool) (w : ℕ) → (◌≡◌ {A = ℕ} (cond b w 0) (w * cond b 1 0)) × (◌≤◌ (cond b 1 0) 1)
    weight true w = (sym (mul-one w), omega arith)
    weight false w = (sym (mul-zero w), omega arith)

-- A status read of ours drives the status as it is at each byte.
pub ours-status_read : StatusRead ours
unfolding AllBytes row_of row_in
ours-status_read c m area fit awake unselected es inside b byte =
    let w : World = runs_by ours area es (opened ours c m area (0x05 ∷ [])) in
    let small : AllBytes (0x05 ∷ []) = (omega arith, _) in
    let f : Frame = opcode_frame 0x05 (judge c.core 0x05) in
    let opens : Opens c m area (0x05 ∷ []) f = opens_opcode c m area fit unselected 0x05 (omega arith) in
    let free : judge c.core 0x05 ≡ 0 = unstopped c.core 0x05 refl awake (allowed (running c.core) true refl) (allowed c.core.suspended true refl) in (
      opening_floats c m area fit (0x05 ∷ []) small f opens,
      record {
        byte = status_byte w.chip.core;
        driven = read_says c m area fit (0x05 ∷ []) small f opens (status (T m area)) (status_serves (T m area)) (λ j. 0) (λ j. refl)
            (record { is_open = refl; opcode_is = refl; unjudged = free; begun = omega arith; there = refl }) es inside b byte;
        bits = status_bits w.chip.core
            (chip-facts w.chip (length w.memory) (still_fits c m area fit (0x05 ∷ []) small f opens es inside).state_legal).core_part.level_small;
      },
    )
