-- Unique answers: any two answers, chips at exit, memories at exit and records that a contract of this crate allows are equal.
use Rattle.std.specs.Prelude.{ℕ, List, Result, ◌≡◌}
use Rattle.cells.specs.Choice.{same}
use Rattle.chip.specs.declared.Chip.{Chip}
use Rattle.chip.specs.Record.{record_bytes}
use Rattle.refusal.specs.declared.Refusal.{Refusal}
use Rattle.event.specs.declared.Done.{Done}
use Rattle.event.specs.Alone.{Answer, answered, answer_of, memory_of, said_of}
use Rattle.event.proofs.Laws.{answered_one}

-- `event_on`: r the answer, d the lent chip at exit, z the memory at exit, and the record's bytes
pub event-on_unique : (c : Chip) (m area : List ℕ) (kind body : ℕ) (r r' : Answer) (d d' : Chip) (z z' : List ℕ)
    → (r ≡ answer_of c m area kind body) × (d ≡ (answer_of c m area kind body).chip) × (z ≡ memory_of c m area kind body) × (record_bytes r.said ≡ said_of c m area kind body)
    → (r' ≡ answer_of c m area kind body) × (d' ≡ (answer_of c m area kind body).chip) × (z' ≡ memory_of c m area kind body) × (record_bytes r'.said ≡ said_of c m area kind body)
    → (r ≡ r') × (d ≡ d') × (z ≡ z') × (record_bytes r.said ≡ record_bytes r'.said)
event-on_unique c m area kind body r r' d d' z z' h h' = (same h.0 h'.0, same h.1 h'.1, same h.2 h'.2, same h.3 h'.3)

-- `event_by_lending`: r the answer, z the memory at exit, and the record's bytes
pub event-by_lending_unique : (c : Chip) (m area : List ℕ) (kind body : ℕ) (r r' : Answer) (z z' : List ℕ)
    → (r ≡ answer_of c m area kind body) × (z ≡ memory_of c m area kind body) × (record_bytes r.said ≡ said_of c m area kind body)
    → (r' ≡ answer_of c m area kind body) × (z' ≡ memory_of c m area kind body) × (record_bytes r'.said ≡ said_of c m area kind body)
    → (r ≡ r') × (z ≡ z') × (record_bytes r.said ≡ record_bytes r'.said)
event-by_lending_unique c m area kind body r r' z z' h h' = (same h.0 h'.0, same h.1 h'.1, same h.2 h'.2)

-- the same of what each of them gives back: one `Ok` or one `Err`
pub event-on_unique_result : (c : Chip) (m area : List ℕ) (kind body : ℕ) (r r' : Result Done Refusal) (d d' : Chip) (z z' : List ℕ)
    → (answered c r ≡ answer_of c m area kind body) × (d ≡ (answer_of c m area kind body).chip) × (z ≡ memory_of c m area kind body) × (record_bytes (answered c r).said ≡ said_of c m area kind body)
    → (answered c r' ≡ answer_of c m area kind body) × (d' ≡ (answer_of c m area kind body).chip) × (z' ≡ memory_of c m area kind body) × (record_bytes (answered c r').said ≡ said_of c m area kind body)
    → (r ≡ r') × (d ≡ d') × (z ≡ z')
event-on_unique_result c m area kind body r r' d d' z z' h h' = (answered_one c r r' (same h.0 h'.0), same h.1 h'.1, same h.2 h'.2)

pub event-by_lending_unique_result : (c : Chip) (m area : List ℕ) (kind body : ℕ) (r r' : Result Done Refusal) (z z' : List ℕ)
    → (answered c r ≡ answer_of c m area kind body) × (z ≡ memory_of c m area kind body) × (record_bytes (answered c r).said ≡ said_of c m area kind body)
    → (answered c r' ≡ answer_of c m area kind body) × (z' ≡ memory_of c m area kind body) × (record_bytes (answered c r').said ≡ said_of c m area kind body)
    → (r ≡ r') × (z ≡ z')
event-by_lending_unique_result c m area kind body r r' z z' h h' = (answered_one c r r' (same h.0 h'.0), same h.1 h'.1)
