-- What is heard of a whole frame of a read of cells: its header floats, cell after cell is driven, its verdict is 0, and the chip is as it was.
use Prim.Native.Nat.{ℕ, zero, suc, ◌+◌, ◌*◌, ◌-◌, ◌<◌, ◌≤◌}
use Rattle.std.specs.Prelude.{Bool, false, cond, not, ◌&&◌, List, [], ◌∷◌, ◌++◌, ◌≡◌, eqb, ltb, length, get_or, take, drop, replicate}
use Rattle.std.proofs.Math.Bool.{true}
use Rattle.std.proofs.Common.{true≢false, sym, ◌∙◌, add-one, arith, append_assoc, length-append, eqb-true, ne_eqb}
use Rattle.std.proofs.Math.Path.{refl, ap, subst}
use Rattle.std.proofs.Math.Decide.{ℕ_discrete}
use Rattle.std.proofs.lemmas.Bool.{not-true}
use Rattle.std.proofs.lemmas.List.{length-take-le, length-drop, replicate_more}
use Rattle.std.proofs.lemmas.List.Edits.{sets-eq}
use borrow.Rule.Slice.PartMut.{put_mid}
use lib.Seq.{drop-drop}
use Rattle.cells.specs.Choice.{cond_no, cond_either, and_left, and_right, and_both}
use Rattle.cells.specs.Put.{Put}
use Rattle.cells.specs.PutLaws.{put_then}
use Rattle.part.specs.Part.{Setting, length_of, reduced}
use Rattle.commands.specs.Table.{row_in, row_of, is_read, is_program, low_power_read, high_speed_read}
use Rattle.kinds.specs.Kinds.{kind_row, kind_row_in}
use Rattle.kinds.specs.Body.{body_at, next_at}
use Rattle.kinds.specs.Row.{exchanges_from}
use Rattle.kinds.proofs.RowLaws.{row-each, row-part, row_inside}
use Rattle.chip.specs.declared.Chip.{Chip}
use Rattle.chip.specs.declared.Core.{Core}
use Rattle.chip.specs.declared.Frame.{Frame}
use Rattle.chip.specs.declared.Record.TheVariants.{Floating, Verdict}
use Rattle.chip.specs.Fields.{with_selected}
use Rattle.chip.specs.Chip.{whole, empty_frame, blank_load, resting, running}
use Rattle.chip.specs.Record.{record_bytes}
use Rattle.frame.specs.Frame.{judge, counted, shifted, opened, exchange, taken, exchanged}
use Rattle.frame.specs.Laws.{exchanged_opcode}
use Rattle.frame.specs.Stream.{streams, read_on, cells_on}
use Rattle.frame.specs.RowLaws.{cells-length}
use Rattle.event.proofs.Laws.{deselect-read, applied-deselect}
use Rattle.script.specs.Script.{events_from, room}
use Rattle.script.specs.Watch.{ticking}
use Rattle.script.proofs.Laws.{deselect-next}
use Rattle.script.specs.Heard.{Heard, Went, Reading, none, some, header_of, first_cell, WholeRead, can_read, floats, frame_records}
use Rattle.script.proofs.HeardLaws.{heard-then, heard_event, heard-select, heard-exchange}
use Rattle.script.proofs.RowLaws.{Bytes, heard_row}

-- ---- the header

-- a frame in which some bytes of a header have come
abbrev in_header : (opcode address place slot count : ℕ) → Frame
in_header opcode address place slot count = record { selected = true; opcode = opcode; address = address; place = place; slot = slot; count = count; judgement = 0 }

-- an opcode that reads cells, byte by byte of its header: three of the address, and what it is when they have come
record Header (opcode : ℕ) : Type 0 where
  second : (T : Setting) (k : Core) (A p l b : ℕ) (load m : List ℕ) → exchanged T k (in_header opcode A p l 1) load m b ≡ exchange Floating (in_header opcode (shifted A b) p l 2) load
  third : (T : Setting) (k : Core) (A p l b : ℕ) (load m : List ℕ) → exchanged T k (in_header opcode A p l 2) load m b ≡ exchange Floating (in_header opcode (shifted A b) p l 3) load
  fourth : (T : Setting) (k : Core) (A p l b : ℕ) (load m : List ℕ) → exchanged T k (in_header opcode A p l 3) load m b ≡ exchange Floating (in_header opcode (shifted A b) (reduced T.sectors (shifted A b)) b 4) load
  judged_none : (k : Core) → k.deep ≡ false → running k ≡ false → judge k opcode ≡ 0
  is_read_lem : is_read opcode ≡ true
  no_program : is_program opcode ≡ false

-- where a read is allowed: awake, and no job runs
may_read : (deep runs suspended : Bool) → deep ≡ false → runs ≡ false → ◌≡◌ {A = ℕ} (cond (deep && true) 5 (cond (runs && true) 6 (cond (suspended && false) 7 0))) 0
may_read true runs suspended d r = absurd (true≢false d)
may_read false true suspended d r = absurd (true≢false r)
may_read false false true d r = refl
may_read false false false d r = refl

low : Header low_power_read
unfolding exchanged taken is_program is_read judge row_of row_in
low =
    record {
      second = λ T k A p l b load m. refl;
      third = λ T k A p l b load m. refl;
      fourth = λ T k A p l b load m. refl;
      judged_none = λ k deep runs. may_read k.deep (running k) k.suspended deep runs;
      is_read_lem = refl;
      no_program = refl;
    }

high : Header high_speed_read
unfolding exchanged taken is_program is_read judge row_of row_in
high =
    record {
      second = λ T k A p l b load m. refl;
      third = λ T k A p l b load m. refl;
      fourth = λ T k A p l b load m. refl;
      judged_none = λ k deep runs. may_read k.deep (running k) k.suspended deep runs;
      is_read_lem = refl;
      no_program = refl;
    }

-- three bytes shifted in are the address, whatever was there
shifted-three : (A a b c : ℕ) → a < 256 → b < 256 → c < 256 → shifted (shifted (shifted A a) b) c ≡ a * 65536 + b * 256 + c
shifted-three A a b c p q r = omega arith

-- ---- its records

-- a header has four bytes, or five
pub header-sizes : (s : List ℕ) (at header n : ℕ) → WholeRead s at header n → (4 ≤ header) × (header ≤ 5)
header-sizes s at header n w = subst (λ (h : ℕ). 0 < h → (4 ≤ h) × (h ≤ 5)) (sym w.is_header) sizes w.headed
  where
    opcode : ℕ
    opcode = get_or s (at + 2) 0

    sizes : 0 < header_of opcode → (4 ≤ header_of opcode) × (header_of opcode ≤ 5)
    sizes =
        cond_either (λ (h : ℕ). 0 < h → (4 ≤ h) × (h ≤ 5)) (eqb opcode low_power_read) _ _ (λ _ _. (omega arith, omega arith))
        (λ _. cond_either (λ (h : ℕ). 0 < h → (4 ≤ h) × (h ≤ 5)) (eqb opcode high_speed_read) _ _ (λ _ _. (omega arith, omega arith)) (λ _ less. absurd (omega arith)))

pub floats-length : (n : ℕ) → length (floats n) ≡ n
unfolding floats
floats-length zero = refl
floats-length (suc n) = length-append (floats n) _ ∙ omega (arith, floats-length n)

-- they are so many bytes 80h, and storing these is storing them
floats_are : (n : ℕ) → replicate n 0x80 ≡ floats n
unfolding floats
floats_are zero = refl
floats_are (suc n) = sym (replicate_more n 0x80 ∙ ap (λ (k : ℕ). replicate k 0x80) (add-one n)) ∙ ap (λ (l : List ℕ). l ++ (0x80 ∷ [])) (floats_are n)

pub floats_put : (t : List ℕ) (pos n k : ℕ) (ys : List ℕ) → pos + n ≤ length t → k ≡ n → ys ≡ replicate (length (take k (drop pos t))) 0x80 → Put t pos (floats n) (pos + n) (put_mid pos k t ys)
floats_put t pos n k ys fit part filled =
    let end : pos + n ≡ pos + length (floats n) = omega (arith, floats-length n) in
    let long : length (drop pos t) ≡ length t - pos = length-drop pos t in
    let many : length (take k (drop pos t)) ≡ n = length-take-le k (drop pos t) (omega arith) ∙ part in
    record {
      end = end;
      buffer =
          (λ i. put_mid pos (part i) t ((filled ∙ ap (λ (j : ℕ). replicate j 0x80) many ∙ floats_are n) i))
          ∙ ap (λ (d : List ℕ). take pos t ++ (floats n ++ d)) (drop-drop n pos t)
          ∙ ap (λ (q : ℕ). take pos t ++ (floats n ++ drop q t)) end
          ∙ sym (append_assoc (take pos t) (floats n) (drop (pos + length (floats n)) t))
          ∙ sym (sets-eq (floats n) t pos (omega (arith, floats-length n)));
    }

pub records_length : (S : ℕ) (s m : List ℕ) (at header n : ℕ) → length (frame_records S s m at header n) ≡ header + 2 * (n - header) + 2
records_length S s m at header n =
    let cells : List ℕ = cells_on m (length m) (first_cell S s at) (n - header) in
    omega (arith, length-append (floats header ++ cells) (record_bytes (Verdict 0)), length-append (floats header) cells, floats-length header, cells-length m (length m) (first_cell S s at) (n - header))

-- ---- the frame

module _ (T : Setting) (s m : List ℕ) (bytes : Bytes s) (at header n : ℕ) (whole-read : WholeRead s at header n) (k : Core) (f : Frame) (load held : List ℕ) (can : can_read k f ≡ true) where
  abbrev o : ℕ
  o = get_or s (at + 2) 0

  -- what a chip that can read it is
  awake_idle : (f.selected ≡ false) × (f.count ≡ 0) × (k.deep ≡ false) × (k.armed ≡ false) × (running k ≡ false)
  awake_idle =
      let four = and_left (not f.selected && eqb f.count 0 && not k.deep && not k.armed) (not (running k)) can in
      let three = and_left (not f.selected && eqb f.count 0 && not k.deep) (not k.armed) four in
      let two = and_left (not f.selected && eqb f.count 0) (not k.deep) three in (
        not-true f.selected (and_left (not f.selected) (eqb f.count 0) two),
        eqb-true _ _ (and_right (not f.selected) (eqb f.count 0) two),
        not-true k.deep (and_right (not f.selected && eqb f.count 0) (not k.deep) three),
        not-true k.armed (and_right (not f.selected && eqb f.count 0 && not k.deep) (not k.armed) four),
        not-true (running k) (and_right (not f.selected && eqb f.count 0 && not k.deep && not k.armed) (not (running k)) can),
      )

  chip_with : Frame → Chip
  chip_with g = whole k g load held

  same_byte : (p q : ℕ) → p ≡ q → get_or s p 0 ≡ get_or s q 0
  same_byte p q e = ap (λ (i : ℕ). get_or s i 0) e

  -- byte j of the frame, which floats
  byte : (j p q : ℕ) → p ≡ at + 1 + 2 * j → q ≡ p + 2 → j < n → (b : ℕ) → get_or s (p + 1) 0 ≡ b → (g g' : Frame) → exchanged T k g load m b ≡ exchange Floating g' load
      → Heard T s m p (whole k g load held) q (whole k g' load held) (record_bytes Floating)
  byte j p q place next inside b is g g' e =
      let row : at + 1 + 2 * exchanges_from s (at + 1) ≤ length s = row_inside s (at + 1) (omega (arith, whole-read.ends)) in
      subst (λ (r : ℕ). Heard T s m p (whole k g load held) r (whole k g' load held) (record_bytes Floating)) (sym next)
      (heard-exchange T s m p (whole k g load held) (omega (arith, whole-read.row)) (same_byte p (at + 1 + 2 * j) place ∙ row-each s (at + 1) j (omega (arith, whole-read.row))) (bytes (p + 1)) Floating g' load
      (sym (ap (exchanged T k g load m) is ∙ e)))

  abbrev address : ℕ
  address = shifted (shifted (shifted f.address (get_or s (at + 4) 0)) (get_or s (at + 6) 0)) (get_or s (at + 8) 0)

  abbrev addressed : ℕ → Frame
  addressed count = in_header o address (reduced T.sectors address) (get_or s (at + 8) 0) count

  module _ (h : Header o) (four : 4 ≤ n) where
    -- the opcode opens the frame
    opens : opened k o (with_selected true f) ≡ in_header o f.address f.place f.slot 1
    opens = λ i. record { selected = true; opcode = o; address = f.address; place = f.place; slot = f.slot; count = counted (awake_idle.1 i); judgement = h.judged_none k awake_idle.2 awake_idle.4 i }

    -- select, opcode and address
    heard_address : Heard T s m at (whole k f load held) (at + 9) (whole k (addressed 4) load held) (floats 4)
    unfolding floats
    heard_address =
        heard-then (heard-then (heard-then (heard-then (heard-select T s m at (whole k f load held) (omega (arith, whole-read.ends)) whole-read.is_select)
        (byte 0 (at + 1) (at + 3) (omega arith) (omega arith) (omega arith) o (same_byte (at + 1 + 1) (at + 2) (omega arith)) (with_selected true f) _
        (exchanged_opcode T k (with_selected true f) load m o refl awake_idle.1 ∙ ap (λ (g : Frame). exchange Floating g load) opens)))
        (byte 1 (at + 3) (at + 5) (omega arith) (omega arith) (omega arith) _ (same_byte (at + 3 + 1) (at + 4) (omega arith)) _ _ (h.second T k _ _ _ _ load m)))
        (byte 2 (at + 5) (at + 7) (omega arith) (omega arith) (omega arith) _ (same_byte (at + 5 + 1) (at + 6) (omega arith)) _ _ (h.third T k _ _ _ _ load m)))
        (byte 3 (at + 7) (at + 9) (omega arith) (omega arith) (omega arith) _ (same_byte (at + 7 + 1) (at + 8) (omega arith)) _ _ (h.fourth T k _ _ _ _ load m))

    -- after so many bytes of the header the row of cells, and the deselect
    module _ (count from : ℕ) (place : from ≡ at + 1 + 2 * count) (some : count ≤ n) (reads : streams (addressed count) ≡ true) where
      abbrev N : ℕ
      N = length_of T.sectors

      abbrev read : Frame
      read = read_on N (n - count) (addressed count)

      rest : exchanges_from s from ≡ n - count
      rest =
          let cut = row-part s (at + 1) count (omega (arith, whole-read.row)) in
          ap (exchanges_from s) place ∙ omega (arith, cut, whole-read.row)

      heard_cells : Heard T s m from (whole k (addressed count) load held) (at + 1 + 2 * n) (whole k read load held) (cells_on m N (reduced T.sectors address) (n - count))
      heard_cells =
          subst (λ (q : ℕ). Heard T s m from (whole k (addressed count) load held) q (whole k read load held) (cells_on m N (reduced T.sectors address) (n - count))) (omega (arith, place))
          (heard_row s bytes from (omega (arith, place, whole-read.ends)) T m (whole k (addressed count) load held) reads h.no_program (n - count) (omega (arith, rest)))

      heard_deselect : Heard T s m (at + 1 + 2 * n) (whole k read load held) (at + 3 + 2 * n) (whole k empty_frame blank_load held) (record_bytes (Verdict 0))
      unfolding kind_row kind_row_in
      heard_deselect =
          let e : ℕ = at + 1 + 2 * n in
          let next : next_at s e ≡ e + 2 = deselect-next s e whole-read.closed in
          subst (λ (q : ℕ). Heard T s m e (whole k read load held) q (whole k empty_frame blank_load held) (record_bytes (Verdict 0))) (next ∙ omega arith)
          (heard_event T s m e (whole k read load held) (omega (arith, whole-read.ends)) (omega (arith, next, whole-read.ends)) (ap ticking whole-read.closed) empty_frame blank_load held (Verdict 0) refl
          (sym (applied-deselect T (whole k read load held) m (get_or s e 0) (body_at s e) whole-read.closed
          ∙ deselect-read T (whole k read load held) m (ltb 0 (body_at s e)) refl refl (h.judged_none k awake_idle.2 awake_idle.4) h.is_read_lem awake_idle.3)))

      heard_rest : Heard T s m at (whole k f load held) from (whole k (addressed count) load held) (floats count)
          → Heard T s m at (whole k f load held) (at + 3 + 2 * n) (whole k empty_frame blank_load held) (floats count ++ cells_on m N (reduced T.sectors address) (n - count) ++ record_bytes (Verdict 0))
      heard_rest before = heard-then (heard-then before heard_cells) heard_deselect

  abbrev records : ℕ → List ℕ
  records count = floats count ++ cells_on m (length m) (first_cell T.sectors s at) (n - count) ++ record_bytes (Verdict 0)

  pub heard_frame : length_of T.sectors ≡ length m
      → Heard T s m at (whole k f load held) (at + 3 + 2 * n) (whole k empty_frame blank_load held) (frame_records T.sectors s m at header n)
  unfolding floats exchanged taken is_program
  heard_frame part = go (ℕ_discrete o low_power_read) (ℕ_discrete o high_speed_read)
    where
      Told : ℕ → Type 0
      Told count = Heard T s m at (whole k f load held) (at + 3 + 2 * n) (whole k empty_frame blank_load held) (records count)

      -- the records with the address that the header's bytes make
      told : (count : ℕ) → Heard T s m at (whole k f load held) (at + 3 + 2 * n) (whole k empty_frame blank_load held) (floats count ++ cells_on m (length_of T.sectors) (reduced T.sectors address) (n - count) ++ record_bytes (Verdict 0)) → Told count
      told count =
          subst (λ (cells : List ℕ). Heard T s m at (whole k f load held) (at + 3 + 2 * n) (whole k empty_frame blank_load held) (floats count ++ cells ++ record_bytes (Verdict 0)))
          (λ i. cells_on m (part i) (reduced T.sectors (shifted-three f.address (get_or s (at + 4) 0) (get_or s (at + 6) 0) (get_or s (at + 8) 0) (bytes (at + 4)) (bytes (at + 6)) (bytes (at + 8)) i)) (n - count))

      go : Dec (o ≡ low_power_read) → Dec (o ≡ high_speed_read) → Told header
      go (yes e) other =
          let four : header ≡ 4 = whole-read.is_header ∙ ap header_of e in
          let h : Header o = subst Header (sym e) low in
          let long : 4 ≤ n = omega (arith, whole-read.long, four) in
          subst Told (sym four) (told 4 (heard_rest h long 4 (at + 9) (omega arith) long (ap (λ (q : ℕ). streams (in_header q address (reduced T.sectors address) (get_or s (at + 8) 0) 4)) e) (heard_address h long)))
      go (no not_low) (yes e) =
          let five : header ≡ 5 = whole-read.is_header ∙ ap header_of e in
          let h : Header o = subst Header (sym e) high in
          let long : 5 ≤ n = omega (arith, whole-read.long, five) in
          subst Told (sym five)
          (told 5 (heard_rest h (omega arith) 5 (at + 11) (omega arith) long (ap (λ (q : ℕ). streams (in_header q address (reduced T.sectors address) (get_or s (at + 8) 0) 5)) e)
          (heard-then (heard_address h (omega arith))
          (byte 4 (at + 9) (at + 11) (omega arith) (omega arith) (omega arith) _ refl (addressed 4) (addressed 5) (dummy e)))))
        where
          dummy : o ≡ high_speed_read → exchanged T k (addressed 4) load m (get_or s (at + 9 + 1) 0) ≡ exchange Floating (addressed 5) load
          dummy e =
              subst (λ (q : ℕ). exchanged T k (in_header q address (reduced T.sectors address) (get_or s (at + 8) 0) 4) load m (get_or s (at + 9 + 1) 0)
              ≡ exchange Floating (in_header q address (reduced T.sectors address) (get_or s (at + 8) 0) 5) load) (sym e) refl
      go (no not_low) (no not-high) = absurd (headless whole-read.headed (whole-read.is_header ∙ cond_no (eqb o low_power_read) _ _ (ne_eqb _ _ not_low) ∙ cond_no (eqb o high_speed_read) _ _ (ne_eqb _ _ not-high)))
        where
          headless : 0 < header → header ≡ 0 → ⊥
          headless headed z = omega arith

-- ---- frames one behind the other

-- a chip that can read a frame can read the next one
can_again : (k : Core) (f : Frame) → can_read k f ≡ true → can_read k empty_frame ≡ true
can_again k f can =
    let four = and_left (not f.selected && eqb f.count 0 && not k.deep && not k.armed) (not (running k)) can in
    and_both (not k.deep && not k.armed) (not (running k))
    (and_both (not k.deep) (not k.armed) (and_right (not f.selected && eqb f.count 0) (not k.deep) (and_left (not f.selected && eqb f.count 0 && not k.deep) (not k.armed) four))
    (and_right (not f.selected && eqb f.count 0 && not k.deep) (not k.armed) four))
    (and_right (not f.selected && eqb f.count 0 && not k.deep && not k.armed) (not (running k)) can)

module _ (T : Setting) (s m : List ℕ) (bytes : Bytes s) (part : length_of T.sectors ≡ length m) where
  -- the records of a frame find room, and so do those behind it: as on any chip, on one that is fresh
  pub frame_rooms : (at header n : ℕ) → WholeRead s at header n → length (frame_records T.sectors s m at header n) + room (events_from s (at + 3 + 2 * n)) ≤ room (events_from s at)
  frame_rooms at header n w = (heard_frame T s m bytes at header n w resting empty_frame blank_load blank_load refl part).roomy

  -- one frame more, behind those that were read
  pub reads_more : {at : ℕ} {k : Core} {f : Frame} {load held out : List ℕ} {pos here : ℕ} {out' : List ℕ} {end : ℕ} → can_read k f ≡ true
      → Reading T s m at (whole k f load held) out pos here (whole k empty_frame blank_load held) out' end → (header n : ℕ) → WholeRead s here header n → {out'' : List ℕ} {end' : ℕ} → Put out' end (frame_records T.sectors s m here header n) end' out''
      → Went T s m at (whole k f load held) out pos (here + 3 + 2 * n) (whole k empty_frame blank_load held) out'' end'
  reads_more {at} {k} {f} {load} {held} {out} {pos} {here} {out'} {end} can (none a p o) header n w {out''} {end'} put =
      record {
        said = frame_records T.sectors s m here header n;
        heard =
            subst (λ (q : ℕ). Heard T s m q (whole k f load held) (here + 3 + 2 * n) (whole k empty_frame blank_load held) (frame_records T.sectors s m here header n)) a
            (heard_frame T s m bytes here header n w k f load held can part);
        stored = subst (λ (q : ℕ). Put out q (frame_records T.sectors s m here header n) end' out'') p (subst (λ (l : List ℕ). Put l end (frame_records T.sectors s m here header n) end' out'') o put);
        further = omega (arith, a);
      }
  reads_more {at} {k} {f} {load} {held} can (some went) header n w put =
      record {
        said = went.said ++ frame_records T.sectors s m _ header n;
        heard = heard-then went.heard (heard_frame T s m bytes _ header n w k empty_frame blank_load held (can_again k f can) part);
        stored = put_then went.stored put;
        further = omega (arith, went.further);
      }

-- where they lead nowhere nothing is stored, and elsewhere they are a stretch
module _ {T : Setting} {s m : List ℕ} {at : ℕ} {c : Chip} {out : List ℕ} {pos at' : ℕ} {c' : Chip} {out' : List ℕ} {pos' : ℕ} where
  pub reading_none : Reading T s m at c out pos at' c' out' pos' → at' ≡ at → out' ≡ out
  reading_none (none a p o) e = o
  reading_none (some went) e = absurd (omega (arith, went.further, e))

  pub reading_some : Reading T s m at c out pos at' c' out' pos' → (at' ≡ at → ⊥) → Went T s m at c out pos at' c' out' pos'
  reading_some (none a p o) other = absurd (other a)
  reading_some (some went) other = went
