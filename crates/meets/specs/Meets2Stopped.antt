-- Demand 2 of ours: a frame that is stopped at its opcode byte floats to its end, and its verdict is what stopped it.
use Rattle.std.specs.Prelude.{ℕ, ◌+◌, ◌%◌, ◌≤◌, Bool, true, List, [], ◌∷◌, ◌≡◌, refl, ltb, length}
use Rattle.std.proofs.lemmas.Bool.{false≢true}
use Rattle.std.proofs.Common.{sym, ap, subst, ◌∙◌, arith}
use Rattle.cells.specs.Choice.{cond_either}
use Rattle.part.specs.Part.{Setting, setting_of}
use Rattle.chip.specs.declared.Core.{Core}
use Rattle.chip.specs.declared.Frame.{Frame}
use Rattle.chip.specs.declared.Record.TheVariants.{Floating}
use Rattle.chip.specs.Record.{record_bytes}
use Rattle.frame.specs.Frame.{judge, counting, Exchange, exchange, exchanged}
use Rattle.frame.specs.Laws.{exchanged_judged}
use Rattle.legal.specs.Legal.{judgement_known}
use Rattle.frame.specs.Legality.{judge-known}
use Rattle.verdict.specs.Verdict.{verdict, record_of}
use Rattle.verdict.proofs.Laws.{record_plain}
use Rattle.event.specs.Event.{Outcome, applied}
use Rattle.event.proofs.Laws.{deselect-selected}
use Rattle.script.specs.Run.{World, does}
use Rattle.demands.specs.Model.{Reply, ours, event, runs_by}
use Rattle.demands.specs.Demand2.{AllBytes, bytes_of, opened, stop_of, StoppedFrame}
use Rattle.meets.specs.Verdicts.{verdict-judged}
use Rattle.meets.specs.EventRules.{deselect-good}
use Rattle.meets.specs.Inside.{GoesOn}
use Rattle.meets.specs.Opening.{opcode_frame, Opens, opens_opcode}
use Rattle.meets.specs.OursFrames.{byte-good, does_as, frame_there}

-- an open frame with a byte and this judgement
record Judged (v j : ℕ) (f : Frame) : Type 0 where
  is_open : f.selected ≡ true
  begun : 1 ≤ f.count
  judged : f.judgement ≡ v

module _ (T : Setting) (v : ℕ) (stops : v ≡ 0 → ⊥) where
  -- its next byte floats
  floats_on : (j : ℕ) (k : Core) (f : Frame) (load m : List ℕ) (b : ℕ) → Judged v j f → exchanged T k f load m b ≡ exchange Floating (counting f) load
  floats_on j k f load m b at = exchanged_judged T k f load m b at.is_open (λ z. omega (arith, at.begun, z)) (λ z. stops (sym at.judged ∙ z))

  -- and it goes on so
  judged_goes_on : GoesOn T (Judged v)
  judged_goes_on =
      record {
        is_open = λ j f at. at.is_open;
        next_byte = λ j k f load m b at. subst (λ (e : Exchange). Judged v (j + 1) e.frame) (sym (floats_on j k f load m b at))
            (record {
              is_open = at.is_open;
              begun = cond_either (λ (n : ℕ). 1 ≤ n) (ltb f.count 6) (f.count + 1) 6 (λ _. omega arith) (λ _. omega arith);
              judged = at.judged;
            });
      }

-- its verdict is its judgement
judged_verdict : (S : ℕ) (k : Core) (v j : ℕ) (f : Frame) (loose : Bool) → (v ≡ 0 → ⊥) → Judged v j f → verdict S k f loose ≡ v
judged_verdict S k v j f loose stops at = verdict-judged S k f loose (λ (z : f.count ≡ 0). omega (arith, at.begun, z)) (λ z. stops (sym at.judged ∙ z)) ∙ at.judged

-- a deselect of an open frame tells the verdict; a judgement is told by its number
deselect-says : (T : Setting) (w : World) (bits : ℕ) → w.chip.frame.selected ≡ true
    → record_bytes (does T (event 0x03 bits) w).said ≡ record_bytes (record_of T.sectors w.chip.core (verdict T.sectors w.chip.core w.chip.frame (ltb 0 bits)))
unfolding applied
deselect-says T w bits selected = ap (λ (o : Outcome). record_bytes o.said) (deselect-selected T w.chip w.memory (ltb 0 bits) selected)

-- A frame of ours that is stopped at its opcode byte is as the demand says.
pub ours-stopped_frame : StoppedFrame ours
unfolding AllBytes judge applied
ours-stopped_frame c m area opcode fit unselected byte stops es inside =
    let T : Setting = setting_of (length m) area in
    let v : ℕ = stop_of c.core opcode in
    let w : World = runs_by ours area es (opened ours c m area (opcode ∷ [])) in
    let small : AllBytes (opcode ∷ []) = (byte, _) in
    let f : Frame = opcode_frame opcode (judge c.core opcode) in
    let opens : Opens c m area (opcode ∷ []) f = opens_opcode c m area fit unselected opcode byte in
    let at : Judged v (bytes_of es) w.chip.frame =
    frame_there c m area fit (opcode ∷ []) small f opens es inside (Judged v) (judged_goes_on T v stops) (record { is_open = refl; begun = omega arith; judged = refl }) in (
      (λ b small-byte.
          ap (λ (q : Reply). q.says) (does_as c m area fit (opcode ∷ []) small f opens es inside (event 0x02 b) (byte-good b small-byte))
          ∙ ap (λ (x : Exchange). record_bytes x.said) (floats_on T v stops (bytes_of es) w.chip.core w.chip.frame w.chip.load w.memory (b % 256) at)),
      (λ bits few.
          ap (λ (q : Reply). q.says) (does_as c m area fit (opcode ∷ []) small f opens es inside (event 0x03 bits) (deselect-good bits few))
          ∙ deselect-says T w bits at.is_open
          ∙ ap (λ (q : ℕ). record_bytes (record_of T.sectors w.chip.core q)) (judged_verdict T.sectors w.chip.core v (bytes_of es) w.chip.frame (ltb 0 bits) stops at)
          ∙ ap record_bytes (record_plain T.sectors w.chip.core v (λ nine. false≢true (sym (ap judgement_known nine) ∙ judge-known c.core opcode)))),
    )
