-- What can refuse a script that the program runs: one of at most 4,096 bytes, fresh from status 00h, on one sector with an empty area and 12,288 bytes of output
-- (RULES, The program). Only 4, 5, 6 and 8 can.
use Rattle.std.specs.Prelude.{ℕ, zero, suc, ◌+◌, ◌*◌, ◌≤◌, cond, List, [], ◌∷◌, ◌≡◌, eqb, leb, length}
use Rattle.std.proofs.Common.{true≢false, sym, ap, ◌∙◌, arith}
use Rattle.cells.specs.Choice.{cond_either}
use Rattle.part.specs.Part.{permitted}
use Rattle.chip.specs.Chip.{fresh}
use Rattle.legal.specs.Legal.{legal}
use Rattle.kinds.specs.Body.{next_at}
use Rattle.script.specs.Script.{Event, event_at, walk, events_from, events}
use Rattle.demands.specs.Demand1.{RunRefusedWhen, room_needed, our_run}
use Rattle.meets.specs.Meets1.{meets_1_run}
use Rattle.meets.specs.Met.{legal-met}

-- a script has no more events than bytes, and each of them asks for three bytes of output at the most
room_most : (s : List ℕ) (fuel at : ℕ) → room_needed (walk fuel s at) ≤ 3 * fuel
unfolding walk room_needed
room_most s zero at = omega arith
room_most s (suc fuel) at =
    cond_either (λ (es : List Event). room_needed es ≤ 3 * suc fuel) (leb (length s) at) [] (event_at s at ∷ walk fuel s (next_at s at)) (λ _. omega arith)
    (λ _. more (event_at s at).kind (room_most s fuel (next_at s at)))
  where
    more : (kind : ℕ) {rest : ℕ} → rest ≤ 3 * fuel → cond (eqb kind 0x02) 2 (cond (eqb kind 0x03) 3 0) + rest ≤ 3 * suc fuel
    more kind {rest} h =
        cond_either (λ (room : ℕ). room + rest ≤ 3 * suc fuel) (eqb kind 0x02) _ _ (λ _. omega arith)
        (λ _. cond_either (λ (room : ℕ). room + rest ≤ 3 * suc fuel) (eqb kind 0x03) _ _ (λ _. omega arith) (λ _. omega arith))

-- so three times the script's length is room enough
pub room-enough : (s : List ℕ) → room_needed (events s) ≤ 3 * length s
unfolding events_from
room-enough s = room_most s (length s) 0

-- The program's runs are not refused by 1, 13, 2, 3 or 7.
pub record OnlyBadEvents (number : ℕ) : Type 0 where
  pub length_fine : number ≡ 1 → ⊥
  pub area_fine : number ≡ 13 → ⊥
  pub state_fine : number ≡ 2 → ⊥
  pub script_fine : number ≡ 3 → ⊥
  pub room_fine : number ≡ 7 → ⊥

pub program-refusals : (m s out : List ℕ) → length m ≡ 65536 → length s ≤ 4096 → 12288 ≤ length out → OnlyBadEvents (our_run (fresh 0x00) m [] s out).refusal
unfolding permitted
program-refusals m s out one-sector short roomy =
    let when : RunRefusedWhen (our_run (fresh 0x00) m [] s out).refusal (our_run (fresh 0x00) m [] s out).offset (fresh 0x00) (length m) 0 s (length out) = meets_1_run.numbers (fresh 0x00) m [] s out in
    record {
      length_fine = λ e. true≢false (sym (ap permitted one-sector) ∙ when.one.0 e);
      area_fine = λ e. absurd (omega (arith, (when.thirteen.0 e).1));
      state_fine = λ e. true≢false (sym (ap (legal (fresh 0x00)) one-sector ∙ legal-met.0) ∙ (when.two.0 e).2);
      script_fine = λ e. absurd (omega (arith, (when.three.0 e).3));
      room_fine = λ e. absurd (omega (arith, (when.seven.0 e).2, room-enough s));
    }
