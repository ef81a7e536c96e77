-- Unique answers: any two answers that the public contract of this crate allows are equal.
use Rattle.std.specs.Prelude.{ℕ, List, ◌≡◌, Result, Ok, Err}
use Rattle.std.proofs.Common.{sym, ap, ◌∙◌}
use Rattle.std.proofs.lemmas.Bool.{eqb-false}
use Rattle.cells.specs.Choice.{same}
use Rattle.refusal.specs.declared.Refusal.{Refusal}
use Rattle.refusal.specs.Laws.{refused, refusal_by, by_number}
use Rattle.refusal.specs.Table.{number_of}
use Rattle.writer.specs.Writer.{Written, written_as, answer_of, output_of}

-- how many bytes are written, or what refuses the writer, is known by its numbers
pub written_one : (r r' : Result ℕ Refusal) → written_as r ≡ written_as r' → r ≡ r'
written_one (Ok n) (Ok n') e = ap Ok (ap (λ (w : Written). w.written) e)
written_one (Ok n) (Err b) e = absurd (eqb-false (number_of b) 0 (refused b) (sym (ap (λ (w : Written). w.refusal) e)))
written_one (Err a) (Ok n') e = absurd (eqb-false (number_of a) 0 (refused a) (ap (λ (w : Written). w.refusal) e))
written_one (Err a) (Err b) e = ap Err (sym (by_number a) ∙ ap (λ (w : Written). refusal_by w.refusal) e ∙ by_number b)

-- `write_program`: the length or the refusal, and the output
pub unique_result : (n A : ℕ) (bs out : List ℕ) (r r' : Result ℕ Refusal) (out' out'' : List ℕ)
    → (written_as r ≡ answer_of n A bs out) × (out' ≡ output_of n A bs out) → (written_as r' ≡ answer_of n A bs out) × (out'' ≡ output_of n A bs out)
    → (r ≡ r') × (out' ≡ out'')
unique_result n A bs out r r' out' out'' p q = (written_one r r' (same p.0 q.0), same p.1 q.1)

-- `write_program`: the number, the bytes written, and the output
pub unique_write : (n A : ℕ) (bs out : List ℕ) (r r' : Written) (out' out'' : List ℕ)
    → (r ≡ answer_of n A bs out) × (out' ≡ output_of n A bs out) → (r' ≡ answer_of n A bs out) × (out'' ≡ output_of n A bs out)
    → (r ≡ r') × (out' ≡ out'')
unique_write n A bs out r r' out' out'' p q = (same p.0 q.0, same p.1 q.1)
