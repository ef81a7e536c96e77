-- Our writer keeps its promise with our run: the script is good, and run on a chip at rest it programs exactly those bytes (RULES, The script writer).
-- The script is a row of pieces (`Plays`, `ProgramPiece`); piece after piece the chip comes to rest again, with one page more programmed.
use Prim.Native.Nat.{ℕ, zero, suc, ◌+◌, ◌*◌, ◌/◌, ◌%◌, ◌^◌, ◌-◌, ◌<◌, ◌≤◌}
use Rattle.std.specs.Prelude.{true, false, ◌≡◌, refl, ◌⊎◌, eqb, length, get_or, take, drop}
use mathlib.Core.List.{List, [], ◌∷◌, ◌++◌, append_assoc}
use Rattle.std.proofs.Math.Path.{sym, ap}
use Rattle.std.proofs.Common.{subst, ◌∙◌, inl, inr, ⊎_elim, add-zero, add_assoc, mod-eq_of_lt, arith, length-take, length-drop, get_or-take, get_or-drop, take_at, ne_eqb}
use Rattle.std.proofs.Math.Decide.{dec_lt}
use Rattle.std.specs.Int.Bits.{bit_and}
use Rattle.cells.specs.Choice.{cond_no, cond_either}
use Rattle.part.specs.Part.{Setting, sectors_in, setting_of}
use Rattle.part.specs.Protection.{is_protected}
use Rattle.part.proofs.Laws.{permitted-length}
use Rattle.kinds.specs.Kinds.{kind_row, kind_row_in}
use Rattle.chip.specs.declared.Chip.{Chip}
use Rattle.chip.specs.Chip.{whole, empty_frame, blank_load}
use Rattle.legal.specs.Legal.{legal}
use Rattle.legal.proofs.Legality.{chip-facts}
use Rattle.clock.specs.Clock.{unset}
use Rattle.script.specs.Script.{Event, events, played, room}
use Rattle.script.specs.Run.{Ran, World, world, runs}
use Rattle.script.specs.Run as Run
use Rattle.script.proofs.Laws.{runs-add}
use Rattle.writer.specs.Writer.{Piece, piece, pieces, exchanges_of, address_bytes, piece_script, script_of, program_script, script_room}
use Rattle.writer.specs.Writer.{Written}
use Rattle.writer.specs.Writer as Writer
use Rattle.writer.proofs.Laws.{pieces_none, pieces_more, count_more, longest_is}
use Rattle.writer.proofs.Refusals as WriterLaws
use Rattle.demands.specs.Model.{event, sends, address, Fit}
use Rattle.demands.specs.Demand1.{RunReply, Runner, AllSound, room_needed, ran, our_run, runner_is_ours}
use Rattle.demands.specs.Demand2.{AllBytes, Ready, FreeAt, powered_up}
use Rattle.demands.specs.Programming.{Writer as ScriptWriter, exchanges_for, page_script, pages_touched, in_first_page, page_says, says_for, says, Programmable, chip_after, Programmed, Programs}
use Rattle.meets.specs.Refusals.{room-needed, sound_script}
use Rattle.meets.specs.Ours.{runs-ours}
use Rattle.meets.specs.Meets1.{all-good, meets_1_run}
use Rattle.meets.specs.Cut.{room-append, legal_runs, runs-from}
use Rattle.meets.specs.Plays.{Plays, plays_none, plays_then, plays_frame, plays_16_ticks}
use Rattle.meets.specs.ProgramPiece.{frame_events, piece_events, piece_runs, after-piece, piece_cells, piece_others, piece_long, piece_bytes}

-- ---- bytes

bytes_take : (n : ℕ) (bs : List ℕ) → AllBytes bs → AllBytes (take n bs)
unfolding AllBytes
bytes_take zero bs ok = tt
bytes_take (suc n) [] ok = ok
bytes_take (suc n) (b ∷ bs) ok = (ok.0, bytes_take n bs ok.1)

bytes_drop : (n : ℕ) (bs : List ℕ) → AllBytes bs → AllBytes (drop n bs)
unfolding AllBytes
bytes_drop zero bs ok = ok
bytes_drop (suc n) [] ok = ok
bytes_drop (suc n) (b ∷ bs) ok = bytes_drop n bs ok.1

-- ---- the script as a row of events

-- the events of a piece, and of one piece after the other
abbrev of_piece : Piece → List Event
of_piece p = piece_events (address_bytes p.address) p.bytes

unfoldable of_pieces : List Piece → List Event
of_pieces [] = []
of_pieces (p ∷ ps) = of_piece p ++ of_pieces ps

-- a piece is played
piece-plays : (p : Piece) → AllBytes p.bytes → Plays (piece_script p) (of_piece p)
unfolding AllBytes
piece-plays p ok =
    plays_then
    (plays_then (plays_frame (0x06 ∷ []) (omega arith, tt)) (plays_frame (0x02 ∷ (address_bytes p.address ++ p.bytes)) (omega arith, (omega arith, (omega arith, (omega arith, ok))))))
    plays_16_ticks

-- and asks for 16 bytes of room and 2 a byte
sends-room : (bs : List ℕ) → room (sends bs) ≡ 2 * length bs
unfolding room kind_row kind_row_in
sends-room [] = refl
sends-room (b ∷ bs) = omega (arith, sends-room bs)

frame-room : (bs : List ℕ) → room (frame_events bs) ≡ 2 * length bs + 3
unfolding room kind_row kind_row_in
frame-room bs = omega (arith, room-append (sends bs) (event 0x03 0 ∷ []), sends-room bs)

piece-room : (p : Piece) → room (of_piece p) ≡ 16 + 2 * length p.bytes
unfolding room kind_row kind_row_in
piece-room p =
    let enable : List Event = frame_events (0x06 ∷ []) in
    let program : List Event = frame_events (0x02 ∷ (address_bytes p.address ++ p.bytes)) in
    omega (arith, room-append (enable ++ program) (event 0x05 16 ∷ []), room-append enable program, frame-room (0x06 ∷ []), frame-room (0x02 ∷ (address_bytes p.address ++ p.bytes)))

-- the first piece and the rest, for some bytes
module _ (A b : ℕ) (bs : List ℕ) where
  abbrev all : List ℕ
  all = b ∷ bs

  -- how many bytes the first piece has, these bytes, and the rest
  abbrev n : ℕ
  n = in_first_page A (length all)

  abbrev front : List ℕ
  front = take n all

  abbrev rest : List ℕ
  rest = drop n all

  some : 1 ≤ n
  some = omega arith

  front_long : length front ≡ n
  front_long = omega (arith, length-take n all)

  rest_long : length rest ≡ length all - n
  rest_long = length-drop n all

  in_page : A % 256 + length front ≤ 256
  in_page = omega (arith, front_long)

  cut_off : pieces A all ≡ piece A front ∷ pieces (A + n) rest
  cut_off = pieces_more A all n (omega arith) refl

  one_more : pages_touched A (length all) ≡ 1 + pages_touched (A + n) (length rest)
  one_more = count_more A (length all) n (length rest) (omega arith) refl rest_long

-- the whole script is played, with the room that the promise says
script_plays : (fuel A : ℕ) (bs : List ℕ) → length bs ≤ fuel → AllBytes bs
    → Plays (program_script A bs) (of_pieces (pieces A bs)) × (room (of_pieces (pieces A bs)) ≡ 16 * pages_touched A (length bs) + 2 * length bs)
unfolding script_of of_pieces room
script_plays zero A [] few ok = rw (pieces_none A) (plays_none, refl)
script_plays zero A (b ∷ bs) few ok = absurd (omega arith)
script_plays (suc fuel) A [] few ok = script_plays fuel A [] (omega arith) ok
script_plays (suc fuel) A (b ∷ bs) few ok =
    let p : Piece = piece A (front A b bs) in
    let later = script_plays fuel (A + n A b bs) (rest A b bs) (omega (arith, rest_long A b bs, some A b bs)) (bytes_drop (n A b bs) (b ∷ bs) ok) in
    rw (cut_off A b bs) (
      plays_then (piece-plays p (bytes_take (n A b bs) (b ∷ bs) ok)) later.0,
      omega (arith, room-append (of_piece p) (of_pieces (pieces (A + n A b bs) (rest A b bs))), piece-room p, later.1, front_long A b bs, rest_long A b bs, one_more A b bs),
    )

-- ---- what the run comes to

-- what has become of the world after the script for these bytes
record Came (c : Chip) (m : List ℕ) (A : ℕ) (bs : List ℕ) (w : World) : Type 0 where
  cells_and : (j : ℕ) → j < length bs → get_or w.memory (A + j) 0 ≡ bit_and (get_or m (A + j) 0) (get_or bs j 0)
  others_same : (i : ℕ) → (i < A) ⊎ (A + length bs ≤ i) → get_or w.memory i 0 ≡ get_or m i 0
  as_long : length w.memory ≡ length m
  chip-is : w.chip ≡ chip_after c (length bs)
  ticks_are : w.ticks ≡ 16 * pages_touched A (length bs)
  said : w.written ≡ says A (length bs)

-- no bytes: nothing happens
came_none : (c : Chip) (m : List ℕ) (A : ℕ) (T : Setting) → Came c m A [] (runs T (of_pieces (pieces A [])) (world c m [] 0))
unfolding runs of_pieces says_for
came_none c m A T =
    rw (pieces_none A)
    (record { cells_and = λ j l. absurd (omega arith); others_same = λ i out. refl; as_long = refl; chip-is = refl; ticks_are = refl; said = refl })

-- an address of 24 bits has its three bytes
address_is : (A : ℕ) → A < 2 ^ 24 → address_bytes A ≡ address A
address_is A small = ap (λ (high : ℕ). high ∷ A / 256 % 256 ∷ A % 256 ∷ []) (mod-eq_of_lt (omega arith))

-- some bytes: the first piece, and then the rest from the chip and the memory that it leaves
module _ (c : Chip) (m area : List ℕ) (A b : ℕ) (bs : List ℕ) (able : Programmable c m area A (b ∷ bs)) where
  abbrev T : Setting
  T = setting_of (length m) area

  abbrev fit : Fit c m area
  fit = able.ready.quiet.fit

  below : A < length m
  below = omega (arith, able.inside)

  small : A < 2 ^ 24
  small = omega (arith, below, permitted-length (length m) (chip-facts c (length m) fit.state_legal).length_permitted)

  free : FreeAt c m A
  free = ap (λ (a : ℕ). is_protected c.core.level c.core.tb (sectors_in (length m)) (a / 65536)) (mod-eq_of_lt below ∙ sym (add-zero A)) ∙ able.free 0 (omega arith)

  -- the first piece has a byte, so that it is a frame with data
  abbrev more : List ℕ
  more = take (n A b bs - 1) bs

  front_is : front A b bs ≡ b ∷ more
  front_is =
      let one : n A b bs ≡ suc (n A b bs - 1) = omega (arith, some A b bs) in
      ap (λ (k : ℕ). take k (b ∷ bs)) one

  data_long : length (b ∷ more) ≡ n A b bs
  data_long = ap length (sym front_is) ∙ front_long A b bs

  bytes : AllBytes (b ∷ more)
  bytes = subst AllBytes front_is (bytes_take (n A b bs) (b ∷ bs) able.bytes)

  fits : A % 256 + length (b ∷ more) ≤ 256
  fits = omega (arith, data_long)

  -- the chip and the memory that it leaves
  abbrev c₁ : Chip
  c₁ = whole (powered_up c.core) empty_frame blank_load blank_load

  abbrev m₁ : List ℕ
  m₁ = after-piece c m area able.ready A b more small bytes free below fits able.cells

  first_is : runs T (of_piece (piece A (front A b bs))) (world c m [] 0) ≡ world c₁ m₁ (page_says (n A b bs)) 16
  first_is =
      ap (λ (h : List ℕ). runs T (of_piece (piece A h)) (world c m [] 0)) front_is
      ∙ ap (λ (to : List ℕ). runs T (piece_events to (b ∷ more)) (world c m [] 0)) (address_is A small)
      ∙ piece_runs c m area able.ready A b more small bytes free
      ∙ ap (λ (k : ℕ). world c₁ m₁ (page_says k) 16) data_long

  -- both are fit for the rest
  long : length m₁ ≡ length m
  long = piece_long c m area able.ready A b more small bytes free below fits able.cells

  rest_able : Programmable c₁ m₁ area (A + n A b bs) (rest A b bs)
  rest_able =
      record {
        ready =
            record {
              quiet =
                  record {
                    fit =
                        record {
                          state_legal =
                              subst (λ (k : ℕ). legal c₁ k ≡ true) (sym long)
                              (subst (λ (w : World). legal w.chip (length m) ≡ true) first_is (legal_runs T (length m) refl (of_piece (piece A (front A b bs))) (world c m [] 0) refl fit.state_legal));
                          area_short = fit.area_short;
                        };
                    resting = refl;
                    awake = refl;
                    unselected = refl;
                  };
              idle = refl;
            };
        few = omega (arith, rest_long A b bs, able.few);
        inside = omega (arith, long, rest_long A b bs, able.inside);
        free = λ j l.
            ap (λ (k : ℕ). is_protected c.core.level c.core.tb (sectors_in k) ((A + n A b bs + j) / 65536)) long
            ∙ ap (λ (i : ℕ). is_protected c.core.level c.core.tb (sectors_in (length m)) (i / 65536)) (add_assoc A (n A b bs) j)
            ∙ able.free ((n A b bs) + j) (omega (arith, rest_long A b bs, l));
        bytes = bytes_drop (n A b bs) (b ∷ bs) able.bytes;
        cells = piece_bytes c m area able.ready A b more small bytes free below fits able.cells;
      }

  -- what comes of the rest is what comes of all
  module _ (w : World) (came : Came c₁ m₁ (A + n A b bs) (rest A b bs) w) where
    abbrev joined : World
    joined = world w.chip w.memory (page_says (n A b bs) ++ w.written) (16 + w.ticks)

    cell : (j : ℕ) → j < length (b ∷ bs) → get_or w.memory (A + j) 0 ≡ bit_and (get_or m (A + j) 0) (get_or (b ∷ bs) j 0)
    cell j l = go (dec_lt j (n A b bs))
      where
        go : Dec (j < n A b bs) → get_or w.memory (A + j) 0 ≡ bit_and (get_or m (A + j) 0) (get_or (b ∷ bs) j 0)
        go (yes in-front) =
            came.others_same (A + j) (inl (omega arith))
            ∙ piece_cells c m area able.ready A b more small bytes free below fits able.cells j (omega (arith, data_long))
            ∙ ap (λ (h : List ℕ). bit_and (get_or m (A + j) 0) (get_or h j 0)) (sym front_is)
            ∙ ap (bit_and (get_or m (A + j) 0)) (get_or-take (n A b bs) (b ∷ bs) j 0 in-front)
        go (no in_rest) =
            let there : A + n A b bs + (j - n A b bs) ≡ A + j = omega arith in
            let byte : (n A b bs) + (j - n A b bs) ≡ j = omega arith in
            ap (λ (i : ℕ). get_or w.memory i 0) (sym there)
            ∙ came.cells_and (j - n A b bs) (omega (arith, rest_long A b bs))
            ∙ ap (λ (i : ℕ). bit_and (get_or m₁ i 0) (get_or (rest A b bs) (j - n A b bs) 0)) there
            ∙ ap (λ (old : ℕ). bit_and old (get_or (rest A b bs) (j - n A b bs) 0)) (piece_others c m area able.ready A b more small bytes free below fits able.cells (A + j) (inr (omega (arith, data_long))))
            ∙ ap (bit_and (get_or m (A + j) 0)) (get_or-drop (n A b bs) (b ∷ bs) (j - n A b bs) 0 ∙ ap (λ (i : ℕ). get_or (b ∷ bs) i 0) byte)

    other : (i : ℕ) → (i < A) ⊎ (A + length (b ∷ bs) ≤ i) → get_or w.memory i 0 ≡ get_or m i 0
    other i out =
        came.others_same i (⊎_elim (λ low. inl (omega arith)) (λ high. inr (omega (arith, rest_long A b bs))) out)
        ∙ piece_others c m area able.ready A b more small bytes free below fits able.cells i (⊎_elim (λ low. inl low) (λ high. inr (omega (arith, data_long))) out)

    all_said : page_says (n A b bs) ++ w.written ≡ says A (length (b ∷ bs))
    unfolding says_for
    all_said =
        let pages : pages_touched A (length (b ∷ bs)) ≡ suc (pages_touched (A + n A b bs) (length (rest A b bs))) = omega (arith, one_more A b bs) in
        ap (λ (s : List ℕ). page_says (n A b bs) ++ s) (came.said ∙ ap (says_for (pages_touched (A + n A b bs) (length (rest A b bs))) (A + n A b bs)) (rest_long A b bs))
        ∙ sym (ap (λ (k : ℕ). says_for k A (length (b ∷ bs))) pages)

    came_all : Came c m A (b ∷ bs) joined
    came_all =
        record {
          cells_and = cell;
          others_same = other;
          as_long = came.as_long ∙ long;
          chip-is = came.chip-is ∙ cond_either (λ (q : Chip). q ≡ c₁) (eqb (length (rest A b bs)) 0) _ _ (λ _. refl) (λ _. refl) ∙ sym (cond_no (eqb (length (b ∷ bs)) 0) _ _ (ne_eqb (length (b ∷ bs)) 0 (λ z. omega arith)));
          ticks_are = omega (arith, came.ticks_are, one_more A b bs);
          said = all_said;
        }

-- Over all pieces.
comes : (fuel : ℕ) (c : Chip) (m area : List ℕ) (A : ℕ) (bs : List ℕ) → length bs ≤ fuel → Programmable c m area A bs
    → Came c m A bs (runs (setting_of (length m) area) (of_pieces (pieces A bs)) (world c m [] 0))
unfolding of_pieces
comes zero c m area A [] few able = came_none c m A (setting_of (length m) area)
comes zero c m area A (b ∷ bs) few able = absurd (omega arith)
comes (suc fuel) c m area A [] few able = came_none c m A (setting_of (length m) area)
comes (suc fuel) c m area A (b ∷ bs) few able =
    let U : Setting = setting_of (length m) area in
    let left : List Event = of_pieces (pieces (A + n A b bs) (rest A b bs)) in
    let later = comes fuel (c₁ c m area A b bs able) (m₁ c m area A b bs able) area (A + n A b bs) (rest A b bs) (omega (arith, rest_long A b bs, some A b bs)) (rest_able c m area A b bs able) in
    let there : runs (setting_of (length (m₁ c m area A b bs able)) area) left (world (c₁ c m area A b bs able) (m₁ c m area A b bs able) [] 0) ≡ runs U left (world (c₁ c m area A b bs able) (m₁ c m area A b bs able) [] 0) =
    ap (λ (k : ℕ). runs (setting_of k area) left (world (c₁ c m area A b bs able) (m₁ c m area A b bs able) [] 0)) (long c m area A b bs able) in
    subst (Came c m A (b ∷ bs))
    (sym
    (ap (λ (ps : List Piece). runs U (of_pieces ps) (world c m [] 0)) (cut_off A b bs)
    ∙ runs-add U (of_piece (piece A (front A b bs))) left (world c m [] 0)
    ∙ ap (runs U left) (first_is c m area A b bs able)
    ∙ runs-from U left (c₁ c m area A b bs able) (m₁ c m area A b bs able) (page_says (n A b bs)) 16))
    (came_all c m area A b bs able _ (subst (Came (c₁ c m area A b bs able) (m₁ c m area A b bs able) (A + n A b bs) (rest A b bs)) there later))

-- ---- the promise

module _ (c : Chip) (m area : List ℕ) (A : ℕ) (bs out : List ℕ) (able : Programmable c m area A bs) (roomy : 16 * pages_touched A (length bs) + 2 * length bs ≤ length out) where
  abbrev script : List ℕ
  script = program_script A bs

  abbrev answer : RunReply
  answer = our_run c m area script out

  -- the script is played, in its room
  plays : Plays script (of_pieces (pieces A bs)) × (room (of_pieces (pieces A bs)) ≡ 16 * pages_touched A (length bs) + 2 * length bs)
  plays = script_plays (length bs) A bs (omega arith) able.bytes

  sound : AllSound script unset (events script)
  sound = sound_script script plays.0.clean

  asked : room_needed (events script) ≡ 16 * pages_touched A (length bs) + 2 * length bs
  asked = sym (room-needed (events script)) ∙ plays.0.asks ∙ plays.1

  -- so nothing refuses the run
  done : answer.refusal ≡ 0
  done =
      (meets_1_run.numbers c m area script out).none.1 (
        record {
          length_permitted = (chip-facts c (length m) able.ready.quiet.fit.state_legal).length_permitted;
          area_short = able.ready.quiet.fit.area_short;
          state_legal = able.ready.quiet.fit.state_legal;
          script_short = omega (arith, (longest_is A bs able.few).0);
        },
        sound,
        omega (arith, asked, roomy),
      )

  -- and it comes to what the pieces come to
  abbrev end : World
  end = runs (setting_of (length m) area) (of_pieces (pieces A bs)) (world c m [] 0)

  answer_is : answer ≡ record { chip = end.chip; memory = end.memory; output = end.written ++ drop (length end.written) out; refusal = 0; offset = 0; written = length end.written; ticks = end.ticks }
  answer_is =
      meets_1_run.done_runs c m area script out done
      ∙ ap (λ (w : World). record { chip = w.chip; memory = w.memory; output = w.written ++ drop (length w.written) out; refusal = 0; offset = 0; written = length w.written; ticks = w.ticks })
      (runs-ours area (played script) (world c m [] 0) able.ready.quiet.fit (all-good script unset (events script) sound) ∙ plays.0.goes (setting_of (length m) area) (world c m [] 0))

  programmed : Programmed c m A bs out answer
  programmed =
      let came = comes (length bs) c m area A bs (omega arith) able in
      record {
        done = done;
        cells_and = λ j l. ap (λ (r : RunReply). get_or r.memory (A + j) 0) answer_is ∙ came.cells_and j l;
        others_same = λ i o. ap (λ (r : RunReply). get_or r.memory i 0) answer_is ∙ came.others_same i o;
        as_long = ap (λ (r : RunReply). length r.memory) answer_is ∙ came.as_long;
        chip-is = ap (λ (r : RunReply). r.chip) answer_is ∙ came.chip-is;
        ticks_are = ap (λ (r : RunReply). r.ticks) answer_is ∙ came.ticks_are;
        output_is = ap (λ (r : RunReply). r.output) answer_is ∙ ap (λ (s : List ℕ). s ++ drop (length s) out) came.said;
        written_is = ap (λ (r : RunReply). r.written) answer_is ∙ ap length came.said;
      }

-- the script of a piece, byte by byte
exchanges-as : (bs : List ℕ) → exchanges_of bs ≡ exchanges_for bs
unfolding exchanges_of exchanges_for
exchanges-as [] = refl
exchanges-as (b ∷ bs) = ap (λ (s : List ℕ). 0x02 ∷ b ∷ s) (exchanges-as bs)

piece-as : (A : ℕ) (bs : List ℕ) → piece_script (piece A bs) ≡ page_script A bs
unfolding exchanges_of
piece-as A bs =
    ap (λ (s : List ℕ). 0x01 ∷ 0x02 ∷ 0x06 ∷ 0x03 ∷ 0x00 ∷ 0x01 ∷ 0x02 ∷ 0x02 ∷ 0x02 ∷ A / 65536 % 256 ∷ 0x02 ∷ A / 256 % 256 ∷ 0x02 ∷ A % 256 ∷ s)
    (append_assoc (exchanges_of bs) (0x03 ∷ 0x00 ∷ []) (0x05 ∷ 0x00 ∷ 0x10 ∷ []) ∙ ap (λ (s : List ℕ). s ++ (0x03 ∷ 0x00 ∷ 0x05 ∷ 0x00 ∷ 0x10 ∷ [])) (exchanges-as bs))

-- the script of some bytes is that of their first page, and that of the rest
pages_as : (A : ℕ) (bs : List ℕ) → 0 < length bs
    → program_script A bs ≡ page_script A (take (in_first_page A (length bs)) bs) ++ program_script (A + in_first_page A (length bs)) (drop (in_first_page A (length bs)) bs)
unfolding script_of
pages_as A bs there =
    let k : ℕ = in_first_page A (length bs) in
    ap script_of (pieces_more A bs k there refl) ∙ ap (λ (s : List ℕ). s ++ program_script (A + k) (drop k bs)) (piece-as A (take k bs))

-- Our writer keeps the promise with our run.
pub keeps_promise : Programs program_script our_run
unfolding script_of
keeps_promise =
    record {
      none_for_none = λ A. ap script_of (pieces_none A);
      page_by_page = pages_as;
      short = λ A bs few. (longest_is A bs few).0;
      sound = λ A bs ok. sound_script (program_script A bs) (script_plays (length bs) A bs (omega arith) ok).0.clean;
      room = λ A bs ok. let plays = script_plays (length bs) A bs (omega arith) ok in sym (room-needed (events (program_script A bs))) ∙ plays.0.asks ∙ plays.1;
      programs = programmed;
    }

-- And no other writer does: whatever the runner, one that keeps it writes our scripts.
pub only-our_writer : (W : ScriptWriter) (R : Runner) → Programs W R → (A : ℕ) (bs : List ℕ) → W A bs ≡ program_script A bs
only-our_writer W R keeps A bs = go (length bs) A bs (omega arith)
  where
    go : (fuel A : ℕ) (bs : List ℕ) → length bs ≤ fuel → W A bs ≡ program_script A bs
    go zero A [] few = keeps.none_for_none A ∙ sym (keeps_promise.none_for_none A)
    go zero A (b ∷ bs) few = absurd (omega arith)
    go (suc fuel) A [] few = go fuel A [] (omega arith)
    go (suc fuel) A (b ∷ bs) few =
        keeps.page_by_page A (b ∷ bs) (omega arith)
        ∙ ap (λ (s : List ℕ). page_script A (front A b bs) ++ s) (go fuel (A + n A b bs) (rest A b bs) (omega (arith, rest_long A b bs, some A b bs)))
        ∙ sym (keeps_promise.page_by_page A (b ∷ bs) (omega arith))

-- What `writer::write_program` wrote and `script::run` has run, whatever meets the two contracts: the writer refuses nothing, the bytes that it says it wrote are run, on a memory of the
-- length that it was told, and the run's own answer, memory and output are those of the promise.
pub write_and_run : (c : Chip) (m area : List ℕ) (A : ℕ) (bs space out : List ℕ) (wrote : Written) (space' : List ℕ) (r : Ran) (m' out' : List ℕ)
    → (wrote ≡ Writer.answer_of (length m) A bs space) × (space' ≡ Writer.output_of (length m) A bs space) → wrote.refusal ≡ 0
    → (r ≡ Run.answer_of c m area (take wrote.written space') out) × (m' ≡ Run.memory_of c m area (take wrote.written space') out) × (out' ≡ Run.output_of c m area (take wrote.written space') out)
    → Ready c m area → ((j : ℕ) → j < length bs → is_protected c.core.level c.core.tb (sectors_in (length m)) ((A + j) / 65536) ≡ false)
    → AllBytes bs → ((i : ℕ) → get_or m i 0 ≤ 255) → script_room A (length bs) ≤ length out
    → Programmed c m A bs out (ran r m' out')
write_and_run c m area A bs space out wrote space' r m' out' written ok run ready free bytes cells roomy =
    let none : Writer.refusal (length m) A bs (length space) ≡ 0 = sym (WriterLaws.answer_number (length m) A bs space) ∙ ap (λ (w : Written). w.refusal) (sym written.0) ∙ ok in
    let why = (WriterLaws.refused-when (length m) A bs (length space)).none.0 none in
    let count : wrote.written ≡ length (program_script A bs) = ap (λ (w : Written). w.written) (written.0 ∙ WriterLaws.answer_done (length m) A bs space none) in
    let script-is : take wrote.written space' ≡ program_script A bs =
    ap (λ (k : ℕ). take k space') count ∙ ap (take (length (program_script A bs))) (written.1 ∙ WriterLaws.output_done (length m) A bs space none) ∙ take_at (program_script A bs) (drop (length (program_script A bs)) space) _ refl in
    let able : Programmable c m area A bs = record { ready = ready; few = why.1; inside = why.3; free = free; bytes = bytes; cells = cells } in
    subst (Programmed c m A bs out) (sym (runner_is_ours c m area (take wrote.written space') out r m' out' run ∙ ap (λ (s : List ℕ). our_run c m area s out) script-is)) (keeps_promise.programs c m area A bs out able roomy)
