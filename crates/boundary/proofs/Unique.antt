-- Unique answers: any two answers, memories and outputs at exit that a contract of this crate allows are equal.
use Rattle.std.specs.Prelude.{ℕ, Bool, List, Result, Ok, Err, ◌≡◌, refl}
use Rattle.std.proofs.Common.{sym, ap, ◌∙◌}
use Rattle.std.proofs.lemmas.Bool.{false≢true}
use Rattle.cells.specs.Choice.{same}
use Rattle.part.specs.Area.{own_area}
use Rattle.chip.specs.declared.Chip.{Chip}
use Rattle.chip.specs.Chip.{fresh}
use Rattle.sfdp.specs.Reader.{found_of}
use Rattle.writer.specs.Writer.{answer_of, output_of}
use Rattle.margins.specs.declared.Allowances.{Allowances}
use Rattle.margins.specs.declared.Report.{Report}
use Rattle.boundary.specs.declared.ChipNumbers.{ChipNumbers}
use Rattle.boundary.specs.declared.EventNumbers.{EventNumbers}
use Rattle.boundary.specs.declared.RunNumbers.{RunNumbers}
use Rattle.boundary.specs.declared.TableNumbers.{TableNumbers}
use Rattle.boundary.specs.declared.AreaNumbers.{AreaNumbers}
use Rattle.boundary.specs.declared.WrittenNumbers.{WrittenNumbers}
use Rattle.boundary.specs.declared.NoState.{NoState}
use Rattle.boundary.specs.Numbers.{Means, numbers_of, legal_numbers}
use Rattle.boundary.specs.Answers.{event_of, event_memory, run_of, run_memory, run_output, report_run_of, report_memory, report_output, report_numbers, table_numbers, area_numbers, written_numbers}

pub chip-fresh_unique : (status : ℕ) (r r' : ChipNumbers) → r ≡ numbers_of (fresh status) → r' ≡ numbers_of (fresh status) → r ≡ r'
chip-fresh_unique status r r' h h' = same h h'

pub chip-legal_unique : (c : ChipNumbers) (n : ℕ) (r r' : Bool) → r ≡ legal_numbers c n → r' ≡ legal_numbers c n → r ≡ r'
chip-legal_unique c n r r' h h' = same h h'

-- `chip_event` and `chip_event_lent`, which have one contract: r the answer, z the memory at exit
pub chip-event_unique : (c : ChipNumbers) (m area : List ℕ) (kind body : ℕ) (r r' : EventNumbers) (z z' : List ℕ)
    → (r ≡ event_of c m area kind body) × (z ≡ event_memory c m area kind body)
    → (r' ≡ event_of c m area kind body) × (z' ≡ event_memory c m area kind body)
    → (r ≡ r') × (z ≡ z')
chip-event_unique c m area kind body r r' z z' h h' = (same h.0 h'.0, same h.1 h'.1)

-- `chip_run`: r the answer, z the memory and o the output at exit
pub chip-run_unique : (c : ChipNumbers) (m area s out : List ℕ) (r r' : RunNumbers) (z z' o o' : List ℕ)
    → (r ≡ run_of c m area s out) × (z ≡ run_memory c m area s out) × (o ≡ run_output c m area s out)
    → (r' ≡ run_of c m area s out) × (z' ≡ run_memory c m area s out) × (o' ≡ run_output c m area s out)
    → (r ≡ r') × (z ≡ z') × (o ≡ o')
chip-run_unique c m area s out r r' z z' o o' h h' = (same h.0 h'.0, same h.1 h'.1, same h.2 h'.2)

-- `chip_run_report`: r the answer, z the memory, o the output and p the report at exit
pub chip-run_report_unique : (l : Allowances) (c : ChipNumbers) (m area s out : List ℕ) (p₀ : Report) (r r' : RunNumbers) (z z' o o' : List ℕ) (p p' : Report)
    → (r ≡ report_run_of l c m area s out) × (z ≡ report_memory l c m area s out) × (o ≡ report_output l c m area s out) × (p ≡ report_numbers l p₀ c m area s out)
    → (r' ≡ report_run_of l c m area s out) × (z' ≡ report_memory l c m area s out) × (o' ≡ report_output l c m area s out) × (p' ≡ report_numbers l p₀ c m area s out)
    → (r ≡ r') × (z ≡ z') × (o ≡ o') × (p ≡ p')
chip-run_report_unique l c m area s out p₀ r r' z z' o o' p p' h h' = (same h.0 h'.0, same h.1 h'.1, same h.2 h'.2, same h.3 h'.3)

pub sfdp_find_unique : (area : List ℕ) (identity : ℕ) (r r' : TableNumbers)
    → r ≡ table_numbers (found_of area identity) → r' ≡ table_numbers (found_of area identity) → r ≡ r'
sfdp_find_unique area identity r r' h h' = same h h'

pub sfdp_own_area_unique : (r r' : AreaNumbers) → r ≡ area_numbers own_area → r' ≡ area_numbers own_area → r ≡ r'
sfdp_own_area_unique r r' h h' = same h h'

-- `write_program`: r the answer, z the output at exit
pub write_program_unique : (n A : ℕ) (bs out : List ℕ) (r r' : WrittenNumbers) (z z' : List ℕ)
    → (r ≡ written_numbers (answer_of n A bs out)) × (z ≡ output_of n A bs out) → (r' ≡ written_numbers (answer_of n A bs out)) × (z' ≡ output_of n A bs out)
    → (r ≡ r') × (z ≡ z')
write_program_unique n A bs out r r' z z' h h' = (same h.0 h'.0, same h.1 h'.1)

-- `Chip::try_from`: numbers mean one chip, or none
pub chip_from_numbers_unique : (c : ChipNumbers) (r r' : Result Chip NoState) → Means c r → Means c r' → r ≡ r'
chip_from_numbers_unique c (Ok a) (Ok b) h h' = ap Ok (same h.1 h'.1)
chip_from_numbers_unique c (Ok a) (Err _) h h' = absurd (false≢true (sym h' ∙ h.0))
chip_from_numbers_unique c (Err _) (Ok b) h h' = absurd (false≢true (sym h ∙ h'.0))
chip_from_numbers_unique c (Err _) (Err _) h h' = refl
