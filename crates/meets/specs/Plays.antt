-- A script as a row of events: nothing is wrong with it, it asks for the row's room, running it is running the row, and it leaves no clock. What is said of a script's parts so is
-- said of the script.
use Rattle.std.specs.Prelude.{ℕ, ◌+◌, ◌≤◌, List, [], ◌∷◌, ◌++◌, ◌≡◌, refl, length}
use Rattle.std.proofs.Common.{sym, ap, ◌∙◌, zero-add, arith, eq-eqb}
use Rattle.cells.specs.Choice.{cond_yes}
use Rattle.part.specs.Part.{Setting}
use Rattle.kinds.specs.Kinds.{known_in_script, kind_row_in, kind_row}
use Rattle.clock.specs.declared.Clock.{Clock}
use Rattle.clock.specs.Clock.{unset}
use Rattle.script.specs.Script.{Event, fault_at, walk, events_from, events, clock_over, timed, played, Refusal, first_bad, room}
use Rattle.script.specs.Run.{World, runs}
use Rattle.script.proofs.Laws.{runs-add, exchange-good}
use Rattle.writer.specs.Writer.{exchanges_of, frame_of}
use Rattle.demands.specs.Model.{event, sends}
use Rattle.demands.specs.Demand2.{AllBytes}
use Rattle.meets.specs.Cut.{moved_bad, room-append, run_cut, clock_cut, bad_cut, room_cut}

pub record Plays (s : List ℕ) (es : List Event) : Type 0 where
  pub clean : (first_bad unset (events s)).number ≡ 0
  pub asks : room (events s) ≡ room es
  pub goes : (T : Setting) (w : World) → runs T (played s) w ≡ runs T es w
  pub clockless : clock_over unset (events s) ≡ unset

pub plays_none : Plays [] []
unfolding events_from walk first_bad timed clock_over
plays_none = record { clean = refl; asks = refl; goes = λ T w. refl; clockless = refl }

-- one script after the other
pub plays_then : {s t : List ℕ} {es fs : List Event} → Plays s es → Plays t fs → Plays (s ++ t) (es ++ fs)
plays_then {s} {t} {es} {fs} p q =
    record {
      clean = ap (λ (r : Refusal). r.number) (bad_cut s t p.clean ∙ ap (λ (k : Clock). moved_bad (length s) (first_bad k (events t))) p.clockless ∙ cond_yes _ _ _ (eq-eqb _ _ q.clean));
      asks = room_cut s t p.clean ∙ ap (λ (n : ℕ). n + room (events t)) p.asks ∙ ap (λ (n : ℕ). room es + n) q.asks ∙ sym (room-append es fs);
      goes = λ T w.
          run_cut s t p.clean T w
          ∙ ap (λ (k : Clock). runs T (timed k (events t)) (runs T (played s) w)) p.clockless
          ∙ ap (runs T (played t)) (p.goes T w)
          ∙ q.goes T (runs T es w)
          ∙ sym (runs-add T es fs w);
      clockless = clock_cut s t p.clean ∙ ap (λ (k : Clock). clock_over k (events t)) p.clockless ∙ q.clockless;
    }

-- ---- single events

pub plays_select : Plays (0x01 ∷ []) (event 0x01 0 ∷ [])
unfolding events_from walk first_bad fault_at timed clock_over known_in_script kind_row kind_row_in runs room
plays_select = record { clean = refl; asks = refl; goes = λ T w. refl; clockless = refl }

pub plays_deselect : Plays (0x03 ∷ 0x00 ∷ []) (event 0x03 0 ∷ [])
unfolding events_from walk first_bad fault_at timed clock_over known_in_script kind_row kind_row_in runs room
plays_deselect = record { clean = refl; asks = refl; goes = λ T w. refl; clockless = refl }

pub plays_16_ticks : Plays (0x05 ∷ 0x00 ∷ 0x10 ∷ []) (event 0x05 16 ∷ [])
unfolding events_from walk first_bad fault_at timed clock_over known_in_script kind_row kind_row_in runs room
plays_16_ticks = record { clean = refl; asks = refl; goes = λ T w. refl; clockless = refl }

pub plays_exchange : (b : ℕ) → b ≤ 255 → Plays (0x02 ∷ b ∷ []) (event 0x02 b ∷ [])
unfolding events_from walk first_bad timed clock_over kind_row kind_row_in runs room
plays_exchange b byte =
    record {
      clean = ap (λ (r : Refusal). r.number) (cond_yes _ _ _ (eq-eqb _ _ (exchange-good unset (0x02 ∷ b ∷ []) 0 refl (omega arith) (omega arith))));
      asks = refl;
      goes = λ T w. ap (λ (n : ℕ). runs T (event 0x02 n ∷ []) w) (zero-add b);
      clockless = refl;
    }

-- ---- frames

-- exchanges of some bytes
pub plays_exchanges : (bs : List ℕ) → AllBytes bs → Plays (exchanges_of bs) (sends bs)
unfolding exchanges_of AllBytes
plays_exchanges [] bytes = plays_none
plays_exchanges (b ∷ bs) bytes = plays_then (plays_exchange b bytes.0) (plays_exchanges bs bytes.1)

-- a frame of them
pub plays_frame : (bs : List ℕ) → AllBytes bs → Plays (frame_of bs) (event 0x01 0 ∷ (sends bs ++ (event 0x03 0 ∷ [])))
plays_frame bs bytes = plays_then plays_select (plays_then (plays_exchanges bs bytes) plays_deselect)
