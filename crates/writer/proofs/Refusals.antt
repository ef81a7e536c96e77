-- Which number refuses the writer, each exactly when the table of refusals has it, and what is left then (RULES, The script writer; Refusals).
use Rattle.std.specs.Prelude.{ℕ, ◌+◌, ◌<◌, ◌≤◌, true, false, List, ◌++◌, ◌≡◌, ◌↔◌, length, drop}
use Rattle.std.proofs.Math.Path.{refl}
use Rattle.std.proofs.Math.Logic.Iff
use Rattle.std.proofs.Common.{eq-eqb, ne_eqb}
use Rattle.cells.specs.Choice.{cond_yes, cond_no, chosen_number, decides_not, decides_less, decides_most, chain_tests, chain_last, flat_three, flat_four, flat_five}
use Rattle.part.specs.Part.{permitted}
use Rattle.writer.specs.Writer.{Written, program_script, refusal, answer_of, output_of}

-- Which number refuses the script for some bytes from address A on, for a memory of n cells and an output of `space` bytes: 1, 20, 21, 22, 23 or none, in that order.
pub record RefusedWhen (number n A : ℕ) (bs : List ℕ) (space : ℕ) : Type 0 where
  pub one : (number ≡ 1) ↔ (permitted n ≡ false)
  pub twenty : (number ≡ 20) ↔ ((permitted n ≡ true) × (4096 < length bs))
  pub twenty_one : (number ≡ 21) ↔ ((permitted n ≡ true) × (length bs ≤ 4096) × (n ≤ A))
  pub twenty_two : (number ≡ 22) ↔ ((permitted n ≡ true) × (length bs ≤ 4096) × (A < n) × (n < A + length bs))
  pub twenty_three : (number ≡ 23) ↔ ((permitted n ≡ true) × (length bs ≤ 4096) × (A < n) × (A + length bs ≤ n) × (space < length (program_script A bs)))
  pub none : (number ≡ 0) ↔ ((permitted n ≡ true) × (length bs ≤ 4096) × (A < n) × (A + length bs ≤ n) × (length (program_script A bs) ≤ space))

-- So it is, for every memory length, address, bytes and output.
pub refused-when : (n A : ℕ) (bs : List ℕ) (space : ℕ) → RefusedWhen (refusal n A bs space) n A bs space
unfolding refusal
refused-when n A bs space =
    let lines = chain_tests {number = λ (v : ℕ). v} 1 (decides_not (permitted n)) (chain_tests 20 (decides_less 4096 (length bs)) (chain_tests 21 (decides_most n A) (chain_tests 22 (decides_less n (A + length bs)) (chain_last 23 0 (decides_less space (length (program_script A bs))) refl) refl) refl) refl) refl in
    record {
      one = lines.exactly 1;
      twenty = lines.exactly 20;
      twenty_one = Iff.trans (lines.exactly 21) flat_three;
      twenty_two = Iff.trans (lines.exactly 22) flat_four;
      twenty_three = Iff.trans (lines.exactly 23) flat_five;
      none = Iff.trans (lines.exactly 0) flat_five;
    }

-- ---- the answer

module _ (n A : ℕ) (bs out : List ℕ) where
  -- the number in the answer is the refusal's
  pub answer_number : (answer_of n A bs out).refusal ≡ refusal n A bs (length out)
  unfolding answer_of
  answer_number = chosen_number (λ (a : Written). a.refusal) (refusal n A bs (length out)) _ _ refl refl

  -- Refused, nothing is written and the output is as it was.
  module _ (no : refusal n A bs (length out) ≡ 0 → ⊥) where
    pub answer_refused : answer_of n A bs out ≡ record { refusal = refusal n A bs (length out); written = 0 }
    unfolding answer_of
    answer_refused = cond_no _ _ _ (ne_eqb _ _ no)

    pub output_refused : output_of n A bs out ≡ out
    unfolding output_of
    output_refused = cond_no _ _ _ (ne_eqb _ _ no)

  -- Done, the script stands at the output's start, and beyond it what was there.
  module _ (ok : refusal n A bs (length out) ≡ 0) where
    pub answer_done : answer_of n A bs out ≡ record { refusal = 0; written = length (program_script A bs) }
    unfolding answer_of
    answer_done = cond_yes _ _ _ (eq-eqb _ _ ok)

    pub output_done : output_of n A bs out ≡ program_script A bs ++ drop (length (program_script A bs)) out
    unfolding output_of
    output_done = cond_yes _ _ _ (eq-eqb _ _ ok)
