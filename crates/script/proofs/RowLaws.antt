-- What is true of a row of exchanges in a script: nothing is wrong with it, what room it is given, and what is heard of it where it reads cells or loads a page.
use Prim.Native.Nat.{ℕ, zero, suc, ◌+◌, ◌*◌, ◌<◌, ◌≤◌}
use Rattle.std.specs.Prelude.{true, false, ◌≡◌, eqb, ltb, length, set}
use mathlib.Core.List.{List, []}
use Rattle.std.proofs.Common.{sym, ap, ◌∙◌, add-zero, arith, eq-eqb, lt-ltb}
use Rattle.std.proofs.Math.Path.{subst}
use Rattle.std.proofs.Math.ListN.{get_or}
use Rattle.cells.specs.Choice.{and_both}
use Rattle.part.specs.Part.{Setting, length_of}
use Rattle.commands.specs.Table.{is_program}
use Rattle.kinds.specs.Kinds.{EXCHANGE, room_of, kind_row, kind_row_in}
use Rattle.kinds.specs.Row.{exchanges_from}
use Rattle.kinds.proofs.RowLaws.{row_more, row-each, row_inside}
use Rattle.clock.specs.declared.Clock.{Clock}
use Rattle.chip.specs.declared.Chip.{Chip}
use Rattle.chip.specs.declared.Frame.{Frame}
use Rattle.chip.specs.declared.Record.TheVariants.{Floating, Driven}
use Rattle.chip.specs.Chip.{whole}
use Rattle.frame.specs.Stream.{streams, place_on, count_on, read_on, slot_on, load_on, cells_on}
use Rattle.frame.specs.StreamLaws.{streamed_load, streamed_cell, exchanged_stream}
use Rattle.frame.specs.RowLaws.{streams-on, loads_on, stream_cell}
use Rattle.script.specs.Script.{events_from, first_bad, room}
use Rattle.script.proofs.Laws.{first_bad-later, exchange-good, exchange-clock, exchange-next, exchange-room}
use Rattle.script.specs.Heard.{Heard, floats, loaded_on}
use Rattle.script.proofs.HeardLaws.{heard-none, heard-then, heard-exchange}

-- every byte of a script is one
abbrev pub Bytes : List ℕ → Type 0
Bytes s = (i : ℕ) → get_or s i 0 < 256

-- a whole exchange is a row
pub row-some : (s : List ℕ) (at : ℕ) → get_or s at 0 ≡ EXCHANGE → at + 2 ≤ length s → 0 < exchanges_from s at
row-some s at is inside = omega (arith, row_more s at (and_both (eqb (get_or s at 0) EXCHANGE) (ltb (at + 1) (length s)) (eq-eqb _ _ is) (lt-ltb (at + 1) (length s) (omega arith))))

module _ (s : List ℕ) (bytes : Bytes s) (at : ℕ) (from : at ≤ length s) where
  -- the exchange behind n of the row is whole
  nth_inside : (n : ℕ) → suc n ≤ exchanges_from s at → at + 2 * n + 2 ≤ length s
  nth_inside n h = omega (arith, row_inside s at from)

  nth_next : (n : ℕ) → at + 2 * n + 2 ≡ at + 2 * suc n
  nth_next n = omega arith

  -- nothing is wrong with it
  pub row_clean : (k : Clock) (n : ℕ) → n ≤ exchanges_from s at → first_bad k (events_from s at) ≡ first_bad k (events_from s (at + 2 * n))
  row_clean k zero h = ap (λ (q : ℕ). first_bad k (events_from s q)) (sym (add-zero at))
  row_clean k (suc n) h =
      let is : get_or s (at + 2 * n) 0 ≡ EXCHANGE = row-each s at n (omega arith) in
      let inside = nth_inside n h in
      row_clean k n (omega arith)
      ∙ first_bad-later k s (at + 2 * n) (omega arith) (exchange-good k s (at + 2 * n) is (omega arith) (bytes (at + 2 * n + 1)))
      ∙ (λ i. first_bad (exchange-clock k s (at + 2 * n) is i) (events_from s ((exchange-next s (at + 2 * n) is ∙ nth_next n) i)))

  -- and each of it is given an exchange's room
  pub row_room : (n : ℕ) → n ≤ exchanges_from s at → room (events_from s at) ≡ room_of EXCHANGE * n + room (events_from s (at + 2 * n))
  row_room zero h = ap (λ (q : ℕ). room (events_from s q)) (sym (add-zero at)) ∙ omega arith
  row_room (suc n) h =
      let inside = nth_inside n h in
      let one = exchange-room s (at + 2 * n) (row-each s at n (omega arith)) (omega arith) in
      let next = ap (λ (q : ℕ). room (events_from s q)) (nth_next n) in
      omega (arith, row_room n (omega arith), one, next)

  -- in numbers
  pub row_rooms : (n : ℕ) → n ≤ exchanges_from s at → 2 * n ≤ room (events_from s at)
  unfolding kind_row kind_row_in
  row_rooms n h = omega (arith, row_room n h)

  -- where it reads cells, cell after cell is driven
  pub heard_row : (T : Setting) (m : List ℕ) (c : Chip) → streams c.frame ≡ true → is_program c.frame.opcode ≡ false → (n : ℕ) → n ≤ exchanges_from s at
      → Heard T s m at c (at + 2 * n) (whole c.core (read_on (length_of T.sectors) n c.frame) c.load c.held) (cells_on m (length_of T.sectors) c.frame.place n)
  unfolding place_on count_on cells_on
  heard_row T m c reads no_load zero h = subst (λ (q : ℕ). Heard T s m at c q c (cells_on m (length_of T.sectors) c.frame.place 0)) (sym (add-zero at)) (heard-none T s m at c from)
  heard_row T m c reads no_load (suc n) h =
      let N : ℕ = length_of T.sectors in
      let f : Frame = read_on N n c.frame in
      let b : ℕ = get_or s (at + 2 * n + 1) 0 in
      subst (λ (q : ℕ). Heard T s m at c q (whole c.core (read_on N (suc n) c.frame) c.load c.held) (cells_on m N c.frame.place (suc n))) (nth_next n)
      (heard-then (heard_row T m c reads no_load n (omega arith))
      (heard-exchange T s m (at + 2 * n) (whole c.core f c.load c.held) (nth_inside n h) (row-each s at n (omega arith)) (bytes (at + 2 * n + 1)) (Driven (get_or m f.place 0)) (read_on N (suc n) c.frame) c.load
      (sym (exchanged_stream T c.core f c.load m b (streams-on N n c.frame reads (stream_cell c.frame reads no_load)) ∙ streamed_cell T.sectors f c.load m b no_load))))

  -- where it is a page load, byte after byte goes into the load
  pub heard_loads : (T : Setting) (m : List ℕ) (c : Chip) → streams c.frame ≡ true → is_program c.frame.opcode ≡ true → (n : ℕ) → n ≤ exchanges_from s at
      → Heard T s m at c (at + 2 * n) (whole c.core (load_on n c.frame) (loaded_on s at c.frame.slot n c.load) c.held) (floats n)
  unfolding slot_on count_on loaded_on floats
  heard_loads T m c loads is zero h = subst (λ (q : ℕ). Heard T s m at c q c []) (sym (add-zero at)) (heard-none T s m at c from)
  heard_loads T m c loads is (suc n) h =
      let f : Frame = load_on n c.frame in
      let load : List ℕ = loaded_on s at c.frame.slot n c.load in
      let b : ℕ = get_or s (at + 2 * n + 1) 0 in
      subst (λ (q : ℕ). Heard T s m at c q (whole c.core (load_on (suc n) c.frame) (loaded_on s at c.frame.slot (suc n) c.load) c.held) (floats (suc n))) (nth_next n)
      (heard-then (heard_loads T m c loads is n (omega arith))
      (heard-exchange T s m (at + 2 * n) (whole c.core f load c.held) (nth_inside n h) (row-each s at n (omega arith)) (bytes (at + 2 * n + 1)) Floating (load_on (suc n) c.frame) (set load f.slot b)
      (sym (exchanged_stream T c.core f load m b (loads_on n c.frame loads is) ∙ streamed_load T.sectors f load m b is))))
