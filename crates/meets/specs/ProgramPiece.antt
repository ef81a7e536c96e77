-- The events that program some bytes of one page, over the definitions: a write enable frame, a page program frame and 16 ticks, from a chip at rest to one at rest, and what
-- becomes of each cell (RULES, The script writer).
use Rattle.std.specs.Prelude.{ℕ, ◌+◌, ◌*◌, ◌/◌, ◌%◌, ◌^◌, ◌-◌, ◌<◌, ◌≤◌, true, ◌≡◌, ◌⊎◌, eqb, length, get_or}
use Rattle.std.proofs.Math.Bool.{false, not}
use mathlib.Core.List.{List, [], ◌∷◌, ◌++◌, append-nil}
use Rattle.std.proofs.Math.Path.{refl, sym, ap}
use Rattle.std.proofs.Common.{subst, ◌∙◌, inl, inr, ⊎_elim, mod-eq_of_lt, eq-eqb}
use Rattle.std.proofs.Math.Decide.{dec_lt}
use native.Mathlib.Omega.{arith}
use Rattle.std.specs.Int.Bits.{bit_and}
use Rattle.std.proofs.lemmas.Nat.{and_mask, and_le_l}
use Rattle.cells.specs.Choice.{cond_no}
use Rattle.part.specs.Part.{Setting, sectors_in, setting_of}
use Rattle.commands.specs.Table.{row_of, row_in, fits_rule, is_read, is_program}
use Rattle.chip.specs.declared.Chip.{Chip}
use Rattle.chip.specs.declared.Core.{Core}
use Rattle.chip.specs.declared.JobKind.TheVariants.{Program}
use Rattle.chip.specs.Fields.{with_wen, with_suspended, with_waiting, with_armed, with_job}
use Rattle.chip.specs.Job.{steps, whole_image, no_job}
use Rattle.chip.specs.Chip.{whole, empty_frame, blank_load}
use Rattle.legal.specs.Legal.{legal, is_blank}
use Rattle.frame.specs.Frame.{judge}
use Rattle.verdict.specs.Verdict.{job_of, command_verdict, listed, verdict, record_of}
use Rattle.verdict.specs.Effect.{instantly, acted, settled, held_after}
use Rattle.job.specs.Tick.{gone}
use Rattle.job.proofs.Laws.{ticks_end, ticks_load_end, ticks_memory_go, worked_go, length-steps}
use Rattle.event.specs.Event.{closes, applied}
use Rattle.event.proofs.Laws.{deselect-selected}
use Rattle.script.specs.Script.{Event}
use Rattle.script.specs.Run.{World, world, after, runs}
use Rattle.script.proofs.Laws.{runs-add}
use Rattle.demands.specs.Model.{event, sends, address}
use Rattle.demands.specs.Demand2.{AllBytes, LoadOf, Ready, FreeAt, powered_up}
use Rattle.demands.specs.Programming.{page_says}
use Rattle.meets.specs.Opening.{opcode_frame, opens_opcode, ready_takes}
use Rattle.meets.specs.Cut.{legal_runs, runs-from}
use Rattle.meets.specs.Load.{load_after, load_of}
use Rattle.meets.specs.JobWords.{jobs-in_numbers}
use Rattle.meets.specs.OursFrames.{as_long, address-bytes}
use Rattle.meets.specs.Meets2Jobs.{begun, framed_as, program_begun}
use Rattle.meets.specs.Stepwise as Stepwise

-- a frame of these bytes as events, and the events of a piece, by the bytes of its address
abbrev pub frame_events : List ℕ → List Event
frame_events bs = event 0x01 0 ∷ (sends bs ++ (event 0x03 0 ∷ []))

abbrev pub piece_events : List ℕ → List ℕ → List Event
piece_events to bs = frame_events (0x06 ∷ []) ++ frame_events (0x02 ∷ (to ++ bs)) ++ (event 0x05 16 ∷ [])

-- ---- the write enable

module _ (c : Chip) (m area : List ℕ) (ready : Ready c m area) where
  abbrev T : Setting
  T = setting_of (length m) area

  abbrev S : ℕ
  S = sectors_in (length m)

  -- the chip after it
  abbrev enabled : Chip
  enabled = whole (with_armed false (with_wen true c.core)) empty_frame blank_load c.held

  -- it is taken, and done at once
  enable_taken : judge c.core 0x06 ≡ 0
  unfolding row_of row_in
  enable_taken = ready_takes c m area ready 0x06 refl

  enable_one : verdict S c.core (opcode_frame 0x06 0) false ≡ 1
  unfolding verdict listed command_verdict fits_rule is_read job_of is_program row_of row_in
  enable_one = cond_no (not (eqb (judge c.core 0x06) 0)) _ _ (ap not (eq-eqb _ _ enable_taken))

  enable_runs : runs T (frame_events (0x06 ∷ [])) (world c m [] 0) ≡ world enabled m (0x80 ∷ 0x82 ∷ 1 ∷ []) 0
  unfolding runs applied settled acted instantly held_after record_of
  enable_runs =
      let open-chip : Chip = whole c.core (opcode_frame 0x06 0) c.load c.held in
      runs-add T (event 0x01 0 ∷ sends (0x06 ∷ [])) (event 0x03 0 ∷ []) (world c m [] 0)
      ∙ ap (runs T (event 0x03 0 ∷ []))
      (opens_opcode c m area ready.quiet.fit ready.quiet.unselected 0x06 (omega arith) ∙ ap (λ (v : ℕ). world (whole c.core (opcode_frame 0x06 v) c.load c.held) m (0x80 ∷ []) 0) enable_taken)
      ∙ ap (after (world open-chip m (0x80 ∷ []) 0)) (deselect-selected T open-chip m false refl ∙ ap (closes T open-chip m) enable_one)

  -- the chip is at rest again
  enabled_ready : Ready enabled m area
  enabled_ready =
      record {
        quiet =
            record {
              fit =
                  record {
                    state_legal = subst (λ (w : World). legal w.chip (length m) ≡ true) enable_runs (legal_runs T (length m) refl (frame_events (0x06 ∷ [])) (world c m [] 0) refl ready.quiet.fit.state_legal);
                    area_short = ready.quiet.fit.area_short;
                  };
              resting = ready.quiet.resting;
              awake = ready.quiet.awake;
              unselected = refl;
            };
        idle = ready.idle;
      }

  -- ---- the page program and its ticks

  module _ (A first : ℕ) (more : List ℕ) (small : A < 2 ^ 24) (bytes : AllBytes (first ∷ more)) (free : FreeAt c m A) where
    abbrev bs : List ℕ
    bs = first ∷ more

    -- the program's start and its load
    abbrev start : ℕ
    start = A % length m / 256 * 256

    abbrev load : List ℕ
    load = load_after bs (A % 256) blank_load

    -- the core while it is under way
    abbrev programming : Core
    programming = with_armed false (with_suspended false (with_waiting false (with_job (record { kind = Program; start = start; done = 0 }) enabled.core)))

    program_runs : runs T (frame_events (0x02 ∷ (address A ++ bs))) (world enabled m [] 0) ≡ begun enabled m area enabled_ready refl Program start load (0x02 ∷ (address A ++ bs))
    unfolding AllBytes
    program_runs =
        runs-add T (event 0x01 0 ∷ sends (0x02 ∷ (address A ++ bs))) (event 0x03 0 ∷ []) (world enabled m [] 0)
        ∙ sym (framed_as enabled m area enabled_ready refl (0x02 ∷ (address A ++ bs)) (omega arith, address-bytes A bs small bytes))
        ∙ program_begun enabled m area enabled_ready refl 0x02 A first more refl small bytes free

    -- 16 ticks do its 16 steps and end it
    ticks_run : (written : List ℕ)
        → runs T (event 0x05 16 ∷ []) (world (whole programming empty_frame blank_load load) m written 0)
        ≡ world (whole (gone programming) empty_frame blank_load blank_load) (steps Program start load 0 16 m) written 16
    unfolding runs applied
    ticks_run written =
        λ i. world (whole (ticks_end S programming refl 16 (omega arith) refl i) empty_frame blank_load (ticks_load_end S programming refl 16 (omega arith) load refl i)) (ticks_memory_go S programming refl load m 16 (omega arith) i) (append-nil written i)
        ((ap (λ (n : ℕ). 0 + n) (worked_go S programming refl 16 (omega arith))) i)

    -- which leaves the core at rest
    rested : gone programming ≡ powered_up c.core
    rested = λ i. record { level = c.core.level; tb = c.core.tb; srwp = c.core.srwp; wen = false; suspended = false; waiting = false; wp = c.core.wp; deep = ready.quiet.awake i; armed = false; job = no_job }

    -- The events of a piece, from a chip at rest to one at rest.
    pub piece_runs : runs T (piece_events (address A) bs) (world c m [] 0) ≡ world (whole (powered_up c.core) empty_frame blank_load blank_load) (steps Program start load 0 16 m) (page_says (length bs)) 16
    piece_runs =
        let frames : List Event = frame_events (0x06 ∷ []) ++ frame_events (0x02 ∷ (address A ++ bs)) in
        runs-add T frames (event 0x05 16 ∷ []) (world c m [] 0)
        ∙ ap (runs T (event 0x05 16 ∷ []))
        (runs-add T (frame_events (0x06 ∷ [])) (frame_events (0x02 ∷ (address A ++ bs))) (world c m [] 0)
        ∙ ap (runs T (frame_events (0x02 ∷ (address A ++ bs)))) enable_runs
        ∙ runs-from T (frame_events (0x02 ∷ (address A ++ bs))) enabled m (0x80 ∷ 0x82 ∷ 1 ∷ []) 0
        ∙ ap (λ (w : World). world w.chip w.memory ((0x80 ∷ 0x82 ∷ 1 ∷ []) ++ w.written) (0 + w.ticks)) program_runs)
        ∙ ticks_run (page_says (length bs))
        ∙ ap (λ (k : Core). world (whole k empty_frame blank_load blank_load) (steps Program start load 0 16 m) (page_says (length bs)) 16) rested

    -- ---- the cells

    module _ (below : A < length m) (in_page : A % 256 + length bs ≤ 256) (cells : (i : ℕ) → get_or m i 0 ≤ 255) where
      -- memory afterwards
      abbrev pub after-piece : List ℕ
      after-piece = steps Program start load 0 16 m

      -- the page lies inside the memory, and the address in the page
      starts_at : start ≡ A / 256 * 256
      starts_at = ap (λ (a : ℕ). a / 256 * 256) (mod-eq_of_lt below)

      page_inside : start + 256 ≤ length m
      page_inside = omega (arith, starts_at, below, as_long c m area ready.quiet.fit)

      -- the whole image, without steps
      image_is : after-piece ≡ whole_image Program S start load m
      image_is = Stepwise.all_steps T Program start load m

      -- the load has the bytes at their offsets, and FFh elsewhere
      load_is : LoadOf A bs load
      unfolding is_blank
      load_is = load_of A bs blank_load refl refl

      cell_in_page : (p : ℕ) → p < 256 → get_or after-piece (start + p) 0 ≡ bit_and (get_or m (start + p) 0) (get_or load p 0)
      cell_in_page p l =
          ap (λ (q : List ℕ). get_or q (start + p) 0) image_is
          ∙ (jobs-in_numbers S).program.image_inside start load m p l (omega (arith, page_inside))
          ∙ ap (λ (o : ℕ). bit_and (get_or m (start + p) 0) (get_or load o 0)) (mod-eq_of_lt l)

      pub piece_cells : (j : ℕ) → j < length bs → get_or after-piece (A + j) 0 ≡ bit_and (get_or m (A + j) 0) (get_or bs j 0)
      piece_cells j l =
          let p : ℕ = A % 256 + j in
          let here : start + p ≡ A + j = omega (arith, starts_at) in
          let offset : p ≡ (A + j) % 256 = omega (arith, in_page, l) in
          ap (λ (i : ℕ). get_or after-piece i 0) (sym here)
          ∙ cell_in_page p (omega (arith, in_page, l))
          ∙ ap (λ (i : ℕ). bit_and (get_or m i 0) (get_or load p 0)) here
          ∙ ap (λ (o : ℕ). bit_and (get_or m (A + j) 0) (get_or load o 0)) offset
          ∙ ap (bit_and (get_or m (A + j) 0)) (load_is.last_stay j l (omega (arith, in_page)))

      pub piece_others : (i : ℕ) → (i < A) ⊎ (A + length bs ≤ i) → get_or after-piece i 0 ≡ get_or m i 0
      piece_others i out = go (dec_lt i start) (dec_lt i (start + 256))
        where
          outside : (i < start) ⊎ (start + 256 ≤ i) → get_or after-piece i 0 ≡ get_or m i 0
          outside o = ap (λ (q : List ℕ). get_or q i 0) image_is ∙ (jobs-in_numbers S).program.image-outside start load m i o

          -- a cell of the page that no byte falls on meets FFh, and keeps its bits
          untouched : start ≤ i → i < start + 256 → get_or after-piece i 0 ≡ get_or m i 0
          untouched low high =
              let p : ℕ = i - start in
              let here : start + p ≡ i = omega arith in
              let none : (j : ℕ) → j < length bs → (A + j) % 256 ≡ p → ⊥ = λ j l e. ⊎_elim (λ b. omega (arith, starts_at, in_page, b)) (λ b. omega (arith, starts_at, in_page, b)) out in
              ap (λ (k : ℕ). get_or after-piece k 0) (sym here)
              ∙ cell_in_page p (omega arith)
              ∙ ap (λ (k : ℕ). bit_and (get_or m k 0) (get_or load p 0)) here
              ∙ ap (bit_and (get_or m i 0)) (load_is.rest_blank p (omega arith) none)
              ∙ and_mask (get_or m i 0) 8
              ∙ mod-eq_of_lt (omega (arith, cells i))

          go : Dec (i < start) → Dec (i < start + 256) → get_or after-piece i 0 ≡ get_or m i 0
          go (yes l) h = outside (inl l)
          go (no l) (no h) = outside (inr (omega arith))
          go (no l) (yes h) = untouched (omega arith) h

      pub piece_long : length after-piece ≡ length m
      piece_long = length-steps Program start load 0 16 m

      -- a cell stays a byte
      pub piece_bytes : (i : ℕ) → get_or after-piece i 0 ≤ 255
      piece_bytes i = go (dec_lt i A) (dec_lt i (A + length bs))
        where
          same : get_or after-piece i 0 ≡ get_or m i 0 → get_or after-piece i 0 ≤ 255
          same e = omega (arith, e, cells i)

          go : Dec (i < A) → Dec (i < A + length bs) → get_or after-piece i 0 ≤ 255
          go (yes l) h = same (piece_others i (inl l))
          go (no l) (no h) = same (piece_others i (inr (omega arith)))
          go (no l) (yes h) =
              let here : A + (i - A) ≡ i = omega arith in
              let anded : get_or after-piece i 0 ≡ bit_and (get_or m i 0) (get_or bs (i - A) 0) =
              ap (λ (k : ℕ). get_or after-piece k 0) (sym here) ∙ piece_cells (i - A) (omega arith) ∙ ap (λ (k : ℕ). bit_and (get_or m k 0) (get_or bs (i - A) 0)) here in
              omega (arith, anded, and_le_l (get_or m i 0) (get_or bs (i - A) 0), cells i)
