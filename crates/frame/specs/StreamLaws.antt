-- What is true of a data byte: each way it goes, and that it is what the exchange does.
use Rattle.std.specs.Prelude.{ℕ, Bool, true, false, ◌&&◌, ◌||◌, List, ◌≡◌, refl, eqb, leb, get_or, set}
use Rattle.std.proofs.lemmas.Bool.{false≢true}
use Rattle.std.proofs.Common.{sym, subst, ◌∙◌, eqb-true}
use Rattle.cells.specs.Choice.{cond_yes, cond_no, and_left, and_right}
use Rattle.part.specs.Part.{Setting, length_of}
use Rattle.commands.specs.Table.{is_program, low_power_read, high_speed_read}
use Rattle.chip.specs.declared.Core.{Core}
use Rattle.chip.specs.declared.Frame.{Frame}
use Rattle.chip.specs.declared.Record.TheVariants.{Floating, Driven}
use Rattle.frame.specs.Frame.{exchange, reading, loading, reads_cell, takes_data, taken, exchanged}
use Rattle.frame.specs.Laws.{cell_each, taken_cell, taken_data, exchanged_taken}
use Rattle.frame.specs.Stream.{is_data, streams, streamed}

module _ (S : ℕ) (f : Frame) (load m : List ℕ) (b : ℕ) where
  pub streamed_load : is_program f.opcode ≡ true → streamed S f load m b ≡ exchange Floating (loading f) (set load f.slot b)
  unfolding streamed
  streamed_load h = cond_yes _ _ _ h

  pub streamed_cell : is_program f.opcode ≡ false → streamed S f load m b ≡ exchange (Driven (get_or m f.place 0)) (reading (length_of S) f) load
  unfolding streamed
  streamed_cell h = cond_no _ _ _ h

-- a read of cells is no program
pub cell_no_program : (f : Frame) → reads_cell f ≡ true → is_program f.opcode ≡ false
unfolding is_program
cell_no_program = cell_each (λ (opcode : ℕ). is_program opcode ≡ false) refl refl

-- a byte that is no data byte is of neither kind
neither : (a b : Bool) → (a || b) ≡ false → (a ≡ false) × (b ≡ false)
neither true b h = absurd (false≢true (sym h))
neither false b h = (refl, h)

pub no_cell : (f : Frame) → is_data f ≡ false → reads_cell f ≡ false
no_cell f h = (neither (reads_cell f) (takes_data f) h).0

pub no_load : (f : Frame) → is_data f ≡ false → takes_data f ≡ false
no_load f h = (neither (reads_cell f) (takes_data f) h).1

-- ---- it is what the exchange does

module _ (T : Setting) (k : Core) (f : Frame) (load m : List ℕ) (b : ℕ) where
  pub taken_stream : is_data f ≡ true → taken T k f load m b ≡ streamed T.sectors f load m b
  taken_stream h = go (reads_cell f) (takes_data f) refl refl h
    where
      go : (cell loads : Bool) → reads_cell f ≡ cell → takes_data f ≡ loads → (cell || loads) ≡ true → taken T k f load m b ≡ streamed T.sectors f load m b
      go true loads p q e = taken_cell T k f load m b p ∙ sym (streamed_cell T.sectors f load m b (cell_no_program f p))
      go false true p q e = taken_data T k f load m b p q ∙ sym (streamed_load T.sectors f load m b (and_left (is_program f.opcode) (leb 4 f.count) q))
      go false false p q e = absurd (false≢true e)

  -- data comes after the address
  begun : is_data f ≡ true → f.count ≡ 0 → ⊥
  begun h z =
      go (eqb f.opcode low_power_read) (eqb f.opcode high_speed_read) (is_program f.opcode)
      (subst (λ (n : ℕ). (eqb f.opcode low_power_read && leb 4 n || eqb f.opcode high_speed_read && leb 5 n || is_program f.opcode && leb 4 n) ≡ true) z h)
    where
      go : (low high program : Bool) → (low && false || high && false || program && false) ≡ true → ⊥
      go true true true e = false≢true e
      go true true false e = false≢true e
      go true false true e = false≢true e
      go true false false e = false≢true e
      go false true true e = false≢true e
      go false true false e = false≢true e
      go false false true e = false≢true e
      go false false false e = false≢true e

  pub exchanged_stream : streams f ≡ true → exchanged T k f load m b ≡ streamed T.sectors f load m b
  exchanged_stream h =
      let is : is_data f ≡ true = and_right (f.selected && eqb f.judgement 0) (is_data f) h in
      let ready : (f.selected && eqb f.judgement 0) ≡ true = and_left (f.selected && eqb f.judgement 0) (is_data f) h in
      exchanged_taken T k f load m b (and_left f.selected (eqb f.judgement 0) ready) (begun is) (eqb-true _ _ (and_right f.selected (eqb f.judgement 0) ready))
      ∙ taken_stream is
