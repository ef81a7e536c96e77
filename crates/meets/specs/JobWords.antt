-- The definitions of a job's steps and image say what `demands/specs/Jobs` says.
use Rattle.std.specs.Prelude.{ℕ, ◌+◌, ◌*◌, List, ◌≡◌, refl, get_or}
use Rattle.std.proofs.Common.{sym, ap, ◌∙◌, mul-zero, arith}
use Rattle.cells.specs.Cells.{Rule, sweep, later, image}
use Rattle.cells.proofs.Laws.{sweep-changes, sweep-outside, sweep-image, image-outside}
use Rattle.chip.specs.declared.JobKind.{JobKind}
use Rattle.chip.specs.declared.JobKind.TheVariants.{Program, SmallErase, SectorErase, ChipErase}
use Rattle.chip.specs.Job.{total, span, steps, whole_image}
use Rattle.demands.specs.Jobs.{CutInSteps, loses_bits, is_erased, JobsInNumbers}

-- a kind whose step is a range of cells changed by a rule, and whose image is the range of all of them
cut : (S : ℕ) (kind : JobKind) (count cells : ℕ) (becomes : List ℕ → Rule) → total kind S ≡ count → span kind S ≡ count * cells
    → ((start d : ℕ) (load m : List ℕ) → steps kind start load d 1 m ≡ sweep (later (becomes load) (d * cells)) m (start + d * cells) cells)
    → ((start : ℕ) (load m : List ℕ) → whole_image kind S start load m ≡ image (becomes load) start (count * cells) m)
    → CutInSteps S kind count cells becomes
cut S kind count cells becomes counted size step whole =
    record {
      steps_are = counted;
      size_is = size;
      step_inside = λ start d load m j l inside.
          ap (λ (q : List ℕ). get_or q (start + d * cells + j) 0) (step start d load m) ∙ sweep-changes (later (becomes load) (d * cells)) m (start + d * cells) cells j l inside;
      step_outside = λ start d load m i out. ap (λ (q : List ℕ). get_or q i 0) (step start d load m) ∙ sweep-outside (later (becomes load) (d * cells)) m (start + d * cells) cells i out;
      image_inside = λ start load m j l inside.
          ap (λ (q : List ℕ). get_or q (start + j) 0) (whole start load m ∙ sym (sweep-image (becomes load) m start (count * cells))) ∙ sweep-changes (becomes load) m start (count * cells) j l inside;
      image-outside = λ start load m i out. ap (λ (q : List ℕ). get_or q i 0) (whole start load m) ∙ image-outside (becomes load) start (count * cells) m i out;
    }

-- The jobs are the rule book's.
pub jobs-in_numbers : (S : ℕ) → JobsInNumbers S
unfolding sweep
jobs-in_numbers S =
    record {
      program = cut S Program 16 16 loses_bits refl refl (λ start d load m. refl) (λ start load m. refl);
      small_erase = cut S SmallErase 16 256 is_erased refl refl (λ start d load m. refl) (λ start load m. refl);
      sector_erase_lem = cut S SectorErase 256 256 is_erased refl refl (λ start d load m. refl) (λ start load m. refl);
      chip_erase_lem = cut S ChipErase (256 * S) 256 is_erased refl (all_cells S) (λ start d load m. refl) (λ start load m. ap (λ (n : ℕ). image (is_erased load) start n m) (all_cells S));
      write_status_lem = λ value. refl;
      no_cell = λ value start d k load m. ap (sweep (later (is_erased load) (d * 0)) m (start + d * 0)) (mul-zero k);
    }
  where
    all_cells : (S : ℕ) → S * 65536 ≡ 256 * S * 256
    all_cells S = omega arith
