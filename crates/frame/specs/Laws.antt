-- What is true of a frame: each way that an exchange goes, and what it leaves alone.
use Rattle.std.specs.Prelude.{ℕ, Bool, true, false, cond, ◌&&◌, ◌||◌, List, ◌≡◌, refl, eqb, leb, get_or, set}
use Rattle.std.proofs.Math.Bool.{not}
use Rattle.std.proofs.lemmas.Bool.{false≢true}
use Rattle.std.proofs.Common.{sym, ap, subst, ◌∙◌, arith, eq-eqb, ne_eqb, eqb-true}
use Rattle.cells.specs.Choice.{cond_yes, cond_no}
use Rattle.part.specs.Part.{Setting, length_of, jedec_byte, jedec_cycle, device_byte}
use Rattle.part.specs.Area.{area_places, area_byte}
use Rattle.commands.specs.Table.{row_of, read_status, low_power_read, high_speed_read, jedec_id, wake}
use Rattle.chip.specs.declared.Core.{Core}
use Rattle.chip.specs.declared.Frame.{Frame}
use Rattle.chip.specs.declared.Record.TheVariants.{Floating, Driven}
use Rattle.chip.specs.Chip.{running, status_byte}
use Rattle.frame.specs.Frame.{judge, exchange, opened, counting, reading, loading, addressing, reads_cell, takes_data, reads_area, taken, exchanged}

-- ---- a read of cells

-- what holds of 03h and of 0Bh holds of the opcode of a read of cells
pub cell_each : (P : ℕ → Type 0) → P low_power_read → P high_speed_read → (f : Frame) → reads_cell f ≡ true → P f.opcode
cell_each P low high f h = go (eqb f.opcode low_power_read) (eqb f.opcode high_speed_read) refl refl h
  where
    go : (a b : Bool) → eqb f.opcode low_power_read ≡ a → eqb f.opcode high_speed_read ≡ b → (a && leb 4 f.count || b && leb 5 f.count) ≡ true → P f.opcode
    go true b p q e = subst P (sym (eqb-true f.opcode low_power_read p)) low
    go false true p q e = subst P (sym (eqb-true f.opcode high_speed_read q)) high
    go false false p q e = absurd (false≢true e)

-- ---- byte 2 and up, by what the frame is

module _ (T : Setting) (k : Core) (f : Frame) (load m : List ℕ) (b : ℕ) where
  pub taken_cell : reads_cell f ≡ true → taken T k f load m b ≡ exchange (Driven (get_or m f.place 0)) (reading (length_of T.sectors) f) load
  unfolding taken
  taken_cell h = cond_yes _ _ _ h

  module _ (no_cell : reads_cell f ≡ false) where
    pub taken_data : takes_data f ≡ true → taken T k f load m b ≡ exchange Floating (loading f) (set load f.slot b)
    unfolding taken
    taken_data h = cond_no _ _ _ no_cell ∙ cond_yes _ _ _ h

    module _ (no-data : takes_data f ≡ false) where
      pub taken_status : f.opcode ≡ read_status → taken T k f load m b ≡ exchange (Driven (status_byte k)) (counting f) load
      unfolding taken
      taken_status h = cond_no _ _ _ no_cell ∙ cond_no _ _ _ no-data ∙ cond_yes _ _ _ (eq-eqb _ _ h)

      module _ (no-status : f.opcode ≡ read_status → ⊥) where
        pub taken_jedec : f.opcode ≡ jedec_id → taken T k f load m b ≡ exchange (Driven (jedec_byte f.place)) (reading jedec_cycle f) load
        unfolding taken
        taken_jedec h = cond_no _ _ _ no_cell ∙ cond_no _ _ _ no-data ∙ cond_no _ _ _ (ne_eqb _ _ no-status) ∙ cond_yes _ _ _ (eq-eqb _ _ h)

        module _ (no-jedec : f.opcode ≡ jedec_id → ⊥) where
          pub taken_device : (eqb f.opcode wake && leb 4 f.count) ≡ true → taken T k f load m b ≡ exchange (Driven device_byte) (counting f) load
          unfolding taken
          taken_device h =
              cond_no _ _ _ no_cell ∙ cond_no _ _ _ no-data ∙ cond_no _ _ _ (ne_eqb _ _ no-status) ∙ cond_no _ _ _ (ne_eqb _ _ no-jedec) ∙ cond_yes _ _ _ h

          module _ (no-device : (eqb f.opcode wake && leb 4 f.count) ≡ false) where
            pub taken_area : reads_area f ≡ true → taken T k f load m b ≡ exchange (Driven (area_byte T.area f.place)) (reading area_places f) load
            unfolding taken
            taken_area h =
                cond_no _ _ _ no_cell ∙ cond_no _ _ _ no-data ∙ cond_no _ _ _ (ne_eqb _ _ no-status) ∙ cond_no _ _ _ (ne_eqb _ _ no-jedec) ∙ cond_no _ _ _ no-device ∙ cond_yes _ _ _ h

            pub taken_address : reads_area f ≡ false → taken T k f load m b ≡ exchange Floating (addressing T.sectors b f) load
            unfolding taken
            taken_address h =
                cond_no _ _ _ no_cell ∙ cond_no _ _ _ no-data ∙ cond_no _ _ _ (ne_eqb _ _ no-status) ∙ cond_no _ _ _ (ne_eqb _ _ no-jedec) ∙ cond_no _ _ _ no-device ∙ cond_no _ _ _ h

  -- ---- an exchange

  pub exchanged_unselected : f.selected ≡ false → exchanged T k f load m b ≡ exchange Floating f load
  unfolding exchanged
  exchanged_unselected h = cond_yes _ _ _ (ap not h)

  module _ (selected : f.selected ≡ true) where
    pub exchanged_opcode : f.count ≡ 0 → exchanged T k f load m b ≡ exchange Floating (opened k b f) load
    unfolding exchanged
    exchanged_opcode h = cond_no _ _ _ (ap not selected) ∙ cond_yes _ _ _ (eq-eqb _ _ h)

    module _ (begun : f.count ≡ 0 → ⊥) where
      pub exchanged_judged : (f.judgement ≡ 0 → ⊥) → exchanged T k f load m b ≡ exchange Floating (counting f) load
      unfolding exchanged
      exchanged_judged h = cond_no _ _ _ (ap not selected) ∙ cond_no _ _ _ (ne_eqb _ _ begun) ∙ cond_yes _ _ _ (ap not (ne_eqb _ _ h))

      pub exchanged_taken : f.judgement ≡ 0 → exchanged T k f load m b ≡ taken T k f load m b
      unfolding exchanged
      exchanged_taken h = cond_no _ _ _ (ap not selected) ∙ cond_no _ _ _ (ne_eqb _ _ begun) ∙ cond_no _ _ _ (ap not (eq-eqb _ _ h))

-- ---- judgement none

-- what it says: a known opcode, asleep only the waking one, and allowed where the chip is
pub record Allowed (k : Core) (opcode : ℕ) : Type 0 where
  pub known : (row_of opcode).known ≡ true
  pub asleep : k.deep ≡ true → opcode ≡ wake
  pub while_running : running k ≡ true → (row_of opcode).running ≡ true
  pub while_suspended : k.suspended ≡ true → (row_of opcode).suspended ≡ true

-- a test `a && not b` that failed says that a means b
means : (a b : Bool) → (a && not b) ≡ false → a ≡ true → b ≡ true
means true true h e = refl
means true false h e = sym h
means false b h e = absurd (false≢true e)

pub allowed : (k : Core) (opcode : ℕ) → judge k opcode ≡ 0 → Allowed k opcode
unfolding judge
allowed k opcode =
    go (row_of opcode).known (k.deep && not (eqb opcode wake)) (running k && not (row_of opcode).running) (k.suspended && not (row_of opcode).suspended) refl refl refl refl
  where
    go : (a d r s : Bool) → (row_of opcode).known ≡ a → (k.deep && not (eqb opcode wake)) ≡ d → (running k && not (row_of opcode).running) ≡ r
        → (k.suspended && not (row_of opcode).suspended) ≡ s → ◌≡◌ {A = ℕ} (cond (not a) 3 (cond d 5 (cond r 6 (cond s 7 0)))) 0
        → Allowed k opcode
    go true false false false p q u v h =
        record {
          known = p;
          asleep = λ e. eqb-true _ _ (means k.deep (eqb opcode wake) q e);
          while_running = means (running k) (row_of opcode).running u;
          while_suspended = means k.suspended (row_of opcode).suspended v;
        }
    go true false false true p q u v h = absurd (omega arith)
    go true false true s p q u v h = absurd (omega arith)
    go true true r s p q u v h = absurd (omega arith)
    go false d r s p q u v h = absurd (omega arith)
