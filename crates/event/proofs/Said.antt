-- What a legal state says at an event: a verdict of the list, which ends at 11, with 8 only where WEN is 0; and sectors of the largest part (RULES, Records).
use Prim.Native.Nat.{ℕ, ◌≤◌}
use Rattle.std.specs.Prelude.{Bool, true, false, List, ◌≡◌, refl, eqb, ltb, length, None, Some}
use Rattle.std.proofs.Common.{sym, ap, ◌∙◌}
use native.Mathlib.Omega.{arith}
use Rattle.cells.specs.Choice.{cond_either}
use Rattle.part.specs.Part.{sectors_in, Setting}
use Rattle.part.specs.Protection.{Protected, protected_sectors}
use Rattle.part.proofs.Laws.{ends-small}
use Rattle.chip.specs.declared.Chip.{Chip}
use Rattle.chip.specs.declared.Core.{Core}
use Rattle.chip.specs.declared.Record.{Record}
use Rattle.chip.specs.declared.Record.TheVariants.{Nothing, Floating, Driven, Verdict, InTheWay}
use Rattle.legal.specs.Legal.{legal, judgement_known}
use Rattle.legal.proofs.Legality.{LegalChip, chip-facts}
use Rattle.frame.specs.Frame.{Exchange, exchanged}
use Rattle.frame.specs.Legality.{taken-each, exchanged-each}
use Rattle.verdict.specs.Verdict.{verdict, in_the_way, record_of}
use Rattle.verdict.proofs.Laws.{verdict_most, verdict_eight}
use Rattle.event.specs.Event.{Outcome, deselect, applied}
use Rattle.event.proofs.Laws.{applied-each}

-- a record that a legal state with this core can say
abbrev pub Told : Core → Record → Type 0
Told k Nothing = Unit {0}
Told k Floating = Unit {0}
Told k (Driven b) = Unit {0}
Told k (Verdict v) = (v ≤ 11) × (v ≡ 8 → k.wen ≡ false)
Told k (InTheWay first last) = (first ≤ 31) × (last ≤ 31)

module _ (T : Setting) (c : Chip) (m : List ℕ) (same : T.sectors ≡ sectors_in (length m)) (l : legal c (length m) ≡ true) where
  abbrev facts : LegalChip c (length m)
  facts = chip-facts c (length m) l

  abbrev ToldBy : Outcome → Type 0
  ToldBy o = Told c.core o.said

  -- the ends of the protected sectors lie on the part
  ends_said : (range : Protected) → protected_sectors c.core.level c.core.tb T.sectors ≡ range → Told c.core (in_the_way range)
  ends_said None e = (omega arith, λ eight. absurd (omega arith))
  ends_said (Some ends) e =
      ends-small c.core.level c.core.tb (length m) ends.first ends.last facts.length_permitted (ap (protected_sectors c.core.level c.core.tb) (sym same) ∙ e)

  deselect_told : (loose : Bool) → ToldBy (deselect T c m loose)
  unfolding record_of
  deselect_told loose =
      cond_either ToldBy c.frame.selected _ _
      (λ _.
      cond_either (Told c.core) (eqb v 9) _ _ (λ _. ends_said _ refl)
      (λ _. (verdict_most T.sectors c.core c.frame loose known, verdict_eight T.sectors c.core c.frame loose known)))
      (λ _. (omega arith, λ eight. absurd (omega arith)))
    where
      v : ℕ
      v = verdict T.sectors c.core c.frame loose

      known : judgement_known c.frame.judgement ≡ true
      known = facts.frame_part.judgement_known_lem

  exchange_told : (b : ℕ) → Told c.core (exchanged T c.core c.frame c.load m b).said
  exchange_told b =
      exchanged-each T c.core c.frame c.load m b (λ (e : Exchange). Told c.core e.said) (λ _. tt) (λ _ _. tt) (λ _. tt)
      (λ _. taken-each T c.core c.frame c.load m b (λ (e : Exchange). Told c.core e.said) (λ _. tt) (λ _. tt) (λ _. tt) (λ _. tt) tt (λ _. tt) (λ _. tt))

  -- Whatever the event, what it says can be said.
  pub said_told : (kind body : ℕ) → ToldBy (applied T c m kind body)
  said_told kind body =
      applied-each T c m kind body ToldBy
      (λ _. tt) (λ _. exchange_told _) (λ _. deselect_told (ltb 0 body)) (λ _. tt) (λ _. tt) (λ _. tt) (λ _. tt) (λ _. tt)
