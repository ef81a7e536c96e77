-- Each wrong writer of `WrongWriters` breaks the promise: it is run on a blank part of one sector, at the end of a page, and the promise says something false of what it leaves.
use Rattle.std.specs.Prelude.{ℕ, zero, suc, ◌≤◌, List, [], ◌∷◌, refl, length, get_or, replicate}
use Rattle.std.proofs.Common.{ap, inl, arith}
use Rattle.cells.specs.Cells.{sweep}
use Rattle.part.specs.Part.{permitted}
use Rattle.part.specs.Protection.{protected_count, protected_sectors}
use Rattle.commands.specs.Table.{row_of, row_in, fits_rule, is_read, is_program}
use Rattle.kinds.specs.Kinds.{known_in_script, kind_row_in, known_kind, kind_row}
use Rattle.chip.specs.declared.Chip.{Chip}
use Rattle.chip.specs.Chip.{fresh}
use Rattle.legal.specs.Legal.{legal_job, legal_core, legal_frame, is_empty, is_blank, legal}
use Rattle.job.specs.Tick.{tick_core, ticks_core, tick_load, ticks_load, tick_memory, ticks_memory, worked}
use Rattle.frame.specs.Frame.{judge, taken, exchanged}
use Rattle.verdict.specs.Verdict.{job_of, job_verdict, command_verdict, listed, verdict, record_of}
use Rattle.verdict.specs.Effect.{instantly, acted, settled, held_after}
use Rattle.event.specs.Event.{applied}
use Rattle.script.specs.Script.{fault_at, walk, events_from, timed, first_bad, room}
use Rattle.script.specs.Run.{runs, refusal, world_after, memory_of}
use Rattle.writer.specs.Writer.{cut, pieces, exchanges_of, script_of}
use Rattle.demands.specs.Demand1.{our_run}
use Rattle.demands.specs.Demand2.{AllBytes, Ready}
use Rattle.demands.specs.Programming.{Programmable, Programs}
use Rattle.refuted.specs.WrongWriters.{over_the_edge, but_last, loses_the_last, too_short, fifteen_ticks, bodiless, leaves_bodies_out, all_at, address_stays, with_all_left, bytes_beyond, enables_for_none}

-- ---- the moment

-- a blank memory of one sector, and a fresh chip on it
abbrev blank : List ℕ
blank = replicate 65536 0xFF

abbrev chip : Chip
chip = fresh 0

-- room enough for the records
abbrev output : List ℕ
output = replicate 64 0

row_small : (n i : ℕ) → get_or (replicate n 0xFF) i 0 ≤ 255
row_small zero i = omega arith
row_small (suc n) zero = omega arith
row_small (suc n) (suc i) = row_small n i

ready : Ready chip blank []
unfolding fresh legal legal_core legal_job legal_frame is_empty is_blank permitted
ready =
    record {
      quiet = record { fit = record { state_legal = refl; area_short = omega arith }; resting = refl; awake = refl; unselected = refl };
      idle = refl;
    }

-- one byte 00h or two at the last cell of the first page: the second belongs to the next page
one_byte : Programmable chip blank [] 0xFF (0 ∷ [])
unfolding fresh AllBytes protected_sectors protected_count
one_byte = record { ready = ready; few = omega arith; inside = omega arith; free = λ j l. refl; bytes = (omega arith, tt); cells = row_small 65536 }

two_bytes : Programmable chip blank [] 0xFF (0 ∷ 0 ∷ [])
unfolding fresh AllBytes protected_sectors protected_count
two_bytes = record { ready = ready; few = omega arith; inside = omega arith; free = λ j l. refl; bytes = (omega arith, (omega arith, tt)); cells = row_small 65536 }

-- ---- the promise is broken

pub record WrongWriters : Type 0 where
  -- the second byte is folded back into the first page, or lost, or laid over the first: cell 256 is as it was
  pub over_the_edge_lem : Programs over_the_edge our_run → ⊥
  pub loses_the_last_lem : Programs loses_the_last our_run → ⊥
  pub address_stays_lem : Programs address_stays our_run → ⊥
  -- the last step of the page is not done: cell 255 is as it was
  pub fifteen_ticks_lem : Programs fifteen_ticks our_run → ⊥
  -- the run ends at a byte that is no kind: cell 255 is as it was
  pub leaves_bodies_out_lem : Programs leaves_bodies_out our_run → ⊥
  -- the first page takes the second byte too: cell 0 is not as it was
  pub bytes_beyond_lem : Programs bytes_beyond our_run → ⊥
  -- no bytes, and yet a script
  pub enables_for_none_lem : Programs enables_for_none our_run → ⊥

-- The promise refutes them.
pub wrong_writers : WrongWriters
unfolding fresh memory_of world_after refusal legal legal_core legal_job legal_frame is_empty is_blank permitted known_kind known_in_script kind_row kind_row_in applied exchanged taken judge row_of row_in is_program verdict record_of listed is_read command_verdict job_verdict job_of fits_rule settled acted held_after instantly protected_sectors protected_count ticks_core tick_core tick_load ticks_load tick_memory ticks_memory worked sweep runs timed first_bad room events_from walk fault_at cut pieces exchanges_of script_of but_last too_short bodiless all_at with_all_left
wrong_writers =
    record {
      over_the_edge_lem = λ d. absurd (omega (arith, (d.programs chip blank [] 0xFF (0 ∷ 0 ∷ []) output two_bytes (omega arith)).cells_and 1 (omega arith)));
      loses_the_last_lem = λ d. absurd (omega (arith, (d.programs chip blank [] 0xFF (0 ∷ 0 ∷ []) output two_bytes (omega arith)).cells_and 1 (omega arith)));
      address_stays_lem = λ d. absurd (omega (arith, (d.programs chip blank [] 0xFF (0 ∷ 0 ∷ []) output two_bytes (omega arith)).cells_and 1 (omega arith)));
      fifteen_ticks_lem = λ d. absurd (omega (arith, (d.programs chip blank [] 0xFF (0 ∷ []) output one_byte (omega arith)).cells_and 0 (omega arith)));
      leaves_bodies_out_lem = λ d. absurd (omega (arith, (d.programs chip blank [] 0xFF (0 ∷ []) output one_byte (omega arith)).cells_and 0 (omega arith)));
      bytes_beyond_lem = λ d. absurd (omega (arith, (d.programs chip blank [] 0xFF (0 ∷ 0 ∷ []) output two_bytes (omega arith)).others_same 0 (inl (omega arith))));
      enables_for_none_lem = λ d. absurd (omega (arith, ap length (d.none_for_none 0)));
    }
