-- A legal state stays legal under every event.
use Rattle.std.specs.Prelude.{ℕ, ◌%◌, ◌≤◌, Bool, not, ◌&&◌, ◌||◌, List, ◌≡◌, eqb, ltb, length}
use Rattle.std.proofs.Math.Bool.{true, false}
use Rattle.std.proofs.Math.Path.{refl}
use Rattle.std.proofs.Common.{sym, subst, arith}
use Rattle.cells.specs.Choice.{cond_either}
use Rattle.part.specs.Part.{sectors_in, Setting}
use Rattle.part.proofs.Laws.{permitted-some}
use Rattle.chip.specs.declared.Chip.{Chip}
use Rattle.chip.specs.declared.Frame.{Frame}
use Rattle.chip.specs.Fields.{with_selected, with_wp}
use Rattle.legal.specs.Legal.{legal, is_empty, is_blank, tidy}
use Rattle.legal.proofs.Legality.{LegalCore, LegalFrame, LegalChip, chip-facts, chip-legal, idle-legal, empty_legal, empty_tidy}
use Rattle.job.proofs.Legality.{ticks-legal}
use Rattle.frame.specs.Frame.{exchanged}
use Rattle.frame.specs.Legality.{LegalExchange, exchange-legal}
use Rattle.verdict.proofs.Legality.{settled_legal}
use Rattle.event.specs.Event.{Outcome, powered_up, deselect, tick, applied}
use Rattle.event.proofs.Laws.{applied-each}

-- a chip that is legal on a part of S sectors
record LegalOn (S : ℕ) (c : Chip) : Type 0 where
  core_part : LegalCore S c.core
  frame_part : LegalFrame S c.frame
  tidy_part : tidy c.frame c.load ≡ true

module _ (T : Setting) (c : Chip) (m : List ℕ) (some : 1 ≤ T.sectors) (l : LegalOn T.sectors c) where
  abbrev S : ℕ
  S = T.sectors

  select_tidy : (f : Frame) (load : List ℕ) → tidy f load ≡ true → tidy (with_selected true f) load ≡ true
  unfolding is_empty
  select_tidy f load = go f.selected (not (eqb f.count 0)) (is_empty f && is_blank load)
    where
      go : (s z e : Bool) → (s && z || e) ≡ true → (z || e) ≡ true
      go true z e h = h
      go false true e h = refl
      go false false e h = h

  select_legal : LegalFrame S (with_selected true c.frame)
  select_legal =
      record {
        address_small = l.frame_part.address_small;
        place_inside = l.frame_part.place_inside;
        count_small = l.frame_part.count_small;
        judgement_known_lem = l.frame_part.judgement_known_lem;
      }

  wp_legal : (wp : Bool) → LegalCore S (with_wp wp c.core)
  wp_legal wp =
      record {
        level_small = l.core_part.level_small;
        job_placed = l.core_part.job_placed;
        job_unfinished = l.core_part.job_unfinished;
        job_enabled_lem = l.core_part.job_enabled_lem;
        suspended_cells = l.core_part.suspended_cells;
        waiting_runs_lem = l.core_part.waiting_runs_lem;
        deep_idle = l.core_part.deep_idle;
        deep_unarmed = l.core_part.deep_unarmed;
      }

  power_legal : LegalCore S (powered_up c.core)
  power_legal = idle-legal S (powered_up c.core) refl l.core_part.level_small refl refl (λ _. refl)

  abbrev Stays : Outcome → Type 0
  Stays o = LegalOn S o.chip

  deselect_legal : (loose : Bool) → Stays (deselect T c m loose)
  deselect_legal loose =
      cond_either Stays c.frame.selected _ _
      (λ _.
      record {
        core_part = settled_legal S c.core l.core_part c.frame loose some l.frame_part.judgement_known_lem;
        frame_part = empty_legal S some;
        tidy_part = empty_tidy;
      })
      (λ _. l)

  tick_legal : (t : ℕ) → Stays (tick T c m t)
  tick_legal t =
      record { core_part = ticks-legal S t c.core l.core_part; frame_part = l.frame_part; tidy_part = l.tidy_part }

  event_legal : (kind body : ℕ) → Stays (applied T c m kind body)
  event_legal kind body =
      applied-each T c m kind body Stays
      (λ _. record { core_part = l.core_part; frame_part = select_legal; tidy_part = select_tidy c.frame c.load l.tidy_part })
      (λ _.
      let e : LegalExchange S (exchanged T c.core c.frame c.load m (body % 256)) = exchange-legal T c.core c.frame c.load m (body % 256) some (omega arith) l.frame_part l.tidy_part in
      record { core_part = l.core_part; frame_part = e.frame_part; tidy_part = e.tidy_part })
      (λ _. deselect_legal (ltb 0 body))
      (λ _. tick_legal 1)
      (λ _. tick_legal body)
      (λ _. record { core_part = wp_legal (eqb body 1); frame_part = l.frame_part; tidy_part = l.tidy_part })
      (λ _. record { core_part = power_legal; frame_part = empty_legal S some; tidy_part = empty_tidy })
      (λ _. l)

-- A legal state stays legal under every event, on a part of the memory's length.
pub legal-applied : (T : Setting) (c : Chip) (m : List ℕ) (kind body : ℕ) → T.sectors ≡ sectors_in (length m) → legal c (length m) ≡ true → legal (applied T c m kind body).chip (length m) ≡ true
legal-applied T c m kind body same h = chip-legal _ _ (whole (event_legal T c m (subst (λ (S : ℕ). 1 ≤ S) (sym same) (permitted-some _ l.length_permitted)) (on (sym same) l) kind body))
  where
    l : LegalChip c (length m)
    l = chip-facts _ _ h

    on : {S : ℕ} {c : Chip} → sectors_in (length m) ≡ S → LegalChip c (length m) → LegalOn S c
    on {S} {c} e l = subst (λ (q : ℕ). LegalOn q c) e (record { core_part = l.core_part; frame_part = l.frame_part; tidy_part = l.tidy_part })

    whole : {c : Chip} → LegalOn T.sectors c → LegalChip c (length m)
    whole {c} l' =
        let there : LegalOn (sectors_in (length m)) c = subst (λ (q : ℕ). LegalOn q c) same l' in
        record { length_permitted = l.length_permitted; core_part = there.core_part; frame_part = there.frame_part; tidy_part = there.tidy_part }
