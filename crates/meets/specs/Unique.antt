-- Unique answers: any two answers that a public function's contract allows are equal, and so is what each lent buffer holds afterwards.
-- Every contract is an equation, so one law serves; the theorems below read it for the functions that a user calls and for the step between them.
use Rattle.std.specs.Prelude.{ℕ, Bool, List, Result, ◌≡◌}
use Rattle.std.proofs.Common.{ap}
use Rattle.cells.specs.Choice.{same}
use Rattle.part.specs.Part.{Setting}
use Rattle.chip.specs.declared.Chip.{Chip}
use Rattle.chip.specs.declared.Core.{Core}
use Rattle.chip.specs.declared.Frame.{Frame}
use Rattle.chip.specs.Chip.{fresh}
use Rattle.chip.specs.Record.{record_bytes}
use Rattle.legal.specs.Legal.{legal}
use Rattle.job.specs.Tick.{TicksAnswer}
use Rattle.frame.specs.Frame.{Exchange, exchange, exchanged}
use Rattle.frame.specs.Stream.{streamed}
use Rattle.frame.specs.declared.Exchanged.{Exchanged}
use Rattle.refusal.specs.declared.Refusal.{Refusal}
use Rattle.margins.specs.declared.Allowances.{Allowances}
use Rattle.margins.specs.declared.Report.{Report}
use Rattle.event.specs.declared.Done.{Done}
use Rattle.event.specs.Alone.{Answer, answered}
use Rattle.event.proofs.Laws.{answered_one}
use Rattle.event.specs.declared.Stepped.{Stepped}
use Rattle.event.specs.Event.{Outcome, outcome, applied}
use Rattle.event.specs.Alone as Alone
use Rattle.script.specs.declared.Done.{Done as RunDone}
use Rattle.script.specs.declared.Refused.{Refused}
use Rattle.script.specs.declared.Reported.{Reported}
use Rattle.script.specs.Run.{Ran, ran_as}
use Rattle.script.specs.Run as Run
use Rattle.script.specs.Report.{reported_as}
use Rattle.script.specs.Report as Report
use Rattle.script.proofs.Unique.{ran_one, reported_one}

-- `Chip::fresh`
pub unique_fresh : (status : ℕ) (r r' : Chip) → r ≡ fresh status → r' ≡ fresh status → r ≡ r'
unique_fresh status r r' p q = same p q

-- `legal::is_legal`
pub unique_legal : (c : Chip) (n : ℕ) (r r' : Bool) → r ≡ legal c n → r' ≡ legal c n → r ≡ r'
unique_legal c n r r' p q = same p q

-- `event::event`: the answer, the memory and the record's bytes
pub unique_event : (c : Chip) (m area : List ℕ) (kind body : ℕ) (r r' : Answer) (m₁ m₂ : List ℕ)
    → (r ≡ Alone.answer_of c m area kind body) × (m₁ ≡ Alone.memory_of c m area kind body) × (record_bytes r.said ≡ Alone.said_of c m area kind body)
    → (r' ≡ Alone.answer_of c m area kind body) × (m₂ ≡ Alone.memory_of c m area kind body) × (record_bytes r'.said ≡ Alone.said_of c m area kind body)
    → (r ≡ r') × (m₁ ≡ m₂) × (record_bytes r.said ≡ record_bytes r'.said)
unique_event c m area kind body r r' m₁ m₂ p q = (same p.0 q.0, same p.1 q.1, same p.2 q.2)

-- the same of what `event::event` gives back: one `Ok` with its chip, record and ticks, or one `Err` with its refusal
pub unique_event_result : (c : Chip) (m area : List ℕ) (kind body : ℕ) (r r' : Result Done Refusal) (m₁ m₂ : List ℕ)
    → (answered c r ≡ Alone.answer_of c m area kind body) × (m₁ ≡ Alone.memory_of c m area kind body) × (record_bytes (answered c r).said ≡ Alone.said_of c m area kind body)
    → (answered c r' ≡ Alone.answer_of c m area kind body) × (m₂ ≡ Alone.memory_of c m area kind body) × (record_bytes (answered c r').said ≡ Alone.said_of c m area kind body)
    → (r ≡ r') × (m₁ ≡ m₂)
unique_event_result c m area kind body r r' m₁ m₂ p q = (answered_one c r r' (same p.0 q.0), same p.1 q.1)

-- `script::run`: the answer, the memory and the output
pub unique_run : (c : Chip) (m area s out : List ℕ) (r r' : Ran) (m₁ m₂ o₁ o₂ : List ℕ)
    → (r ≡ Run.answer_of c m area s out) × (m₁ ≡ Run.memory_of c m area s out) × (o₁ ≡ Run.output_of c m area s out)
    → (r' ≡ Run.answer_of c m area s out) × (m₂ ≡ Run.memory_of c m area s out) × (o₂ ≡ Run.output_of c m area s out)
    → (r ≡ r') × (m₁ ≡ m₂) × (o₁ ≡ o₂)
unique_run c m area s out r r' m₁ m₂ o₁ o₂ p q = (same p.0 q.0, same p.1 q.1, same p.2 q.2)

-- the same of what `script::run` gives back
pub unique_run_result : (c : Chip) (m area s out : List ℕ) (r r' : Result RunDone Refused) (m₁ m₂ o₁ o₂ : List ℕ)
    → (ran_as c r ≡ Run.answer_of c m area s out) × (m₁ ≡ Run.memory_of c m area s out) × (o₁ ≡ Run.output_of c m area s out)
    → (ran_as c r' ≡ Run.answer_of c m area s out) × (m₂ ≡ Run.memory_of c m area s out) × (o₂ ≡ Run.output_of c m area s out)
    → (r ≡ r') × (m₁ ≡ m₂) × (o₁ ≡ o₂)
unique_run_result c m area s out r r' m₁ m₂ o₁ o₂ p q = (ran_one c r r' (same p.0 q.0), same p.1 q.1, same p.2 q.2)

-- `script::run_with_report`: what it gives back with its report, the memory and the output
pub unique_report_result : (a : Allowances) (p : Report) (c : Chip) (m area s out : List ℕ) (r r' : Result Reported Refused) (m₁ m₂ o₁ o₂ : List ℕ)
    → ((reported_as c p r).ran ≡ Report.answer_with a c m area s out) × (m₁ ≡ Report.memory_with a c m area s out) × (o₁ ≡ Report.output_with a c m area s out) × ((reported_as c p r).report ≡ Report.report_of a p c m area s out)
    → ((reported_as c p r').ran ≡ Report.answer_with a c m area s out) × (m₂ ≡ Report.memory_with a c m area s out) × (o₂ ≡ Report.output_with a c m area s out) × ((reported_as c p r').report ≡ Report.report_of a p c m area s out)
    → (r ≡ r') × (m₁ ≡ m₂) × (o₁ ≡ o₂)
unique_report_result a p c m area s out r r' m₁ m₂ o₁ o₂ x y =
    (reported_one c p r r' (λ i. record { ran = same x.0 y.0 i; report = same x.3 y.3 i }), same x.1 y.1, same x.2 y.2)

-- `event::step`, whose contract packs the answer and the buffers into one outcome: each part of it
pub unique_step : (T : Setting) (c : Chip) (m : List ℕ) (kind body : ℕ) (r r' : Stepped) (l₁ l₂ p₁ p₂ m₁ m₂ : List ℕ)
    → outcome r.core r.frame l₁ p₁ m₁ r.said r.ticks ≡ applied T c m kind body → outcome r'.core r'.frame l₂ p₂ m₂ r'.said r'.ticks ≡ applied T c m kind body
    → (r ≡ r') × (l₁ ≡ l₂) × (p₁ ≡ p₂) × (m₁ ≡ m₂)
unique_step T c m kind body r r' l₁ l₂ p₁ p₂ m₁ m₂ p q = (
  ap (λ (o : Outcome). stepped o) (same p q),
  ap (λ (o : Outcome). o.chip.load) (same p q),
  ap (λ (o : Outcome). o.chip.held) (same p q),
  ap (λ (o : Outcome). o.memory) (same p q),
)
  where
    stepped : Outcome → Stepped
    stepped o = record { core = o.chip.core; frame = o.chip.frame; said = o.said; ticks = o.ticks }

-- `frame::exchange` and `frame::stream`: the answer and the load
exchange-parts : (e : Exchange) (r r' : Exchanged) (l₁ l₂ : List ℕ) → exchange r.said r.frame l₁ ≡ e → exchange r'.said r'.frame l₂ ≡ e → (r ≡ r') × (l₁ ≡ l₂)
exchange-parts e r r' l₁ l₂ p q = (ap (λ (x : Exchange). told x) (same p q), ap (λ (x : Exchange). x.load) (same p q))
  where
    told : Exchange → Exchanged
    told x = record { said = x.said; frame = x.frame }

pub unique_exchange : (T : Setting) (k : Core) (f : Frame) (load m : List ℕ) (b : ℕ) (r r' : Exchanged) (l₁ l₂ : List ℕ)
    → exchange r.said r.frame l₁ ≡ exchanged T k f load m b → exchange r'.said r'.frame l₂ ≡ exchanged T k f load m b → (r ≡ r') × (l₁ ≡ l₂)
unique_exchange T k f load m b = exchange-parts (exchanged T k f load m b)

pub unique_stream : (S : ℕ) (f : Frame) (load m : List ℕ) (b : ℕ) (r r' : Exchanged) (l₁ l₂ : List ℕ)
    → exchange r.said r.frame l₁ ≡ streamed S f load m b → exchange r'.said r'.frame l₂ ≡ streamed S f load m b → (r ≡ r') × (l₁ ≡ l₂)
unique_stream S f load m b = exchange-parts (streamed S f load m b)

-- `job::ticks`: the core, the working ticks, the job's load and the memory
pub unique_ticks : (S n : ℕ) (k : Core) (held m : List ℕ) (k₁ k₂ : Core) (w₁ w₂ : ℕ) (h₁ h₂ m₁ m₂ : List ℕ)
    → TicksAnswer S n k held m k₁ w₁ h₁ m₁ → TicksAnswer S n k held m k₂ w₂ h₂ m₂ → (k₁ ≡ k₂) × (w₁ ≡ w₂) × (h₁ ≡ h₂) × (m₁ ≡ m₂)
unique_ticks S n k held m k₁ k₂ w₁ w₂ h₁ h₂ m₁ m₂ p q = (same p.core q.core, same p.working q.working, same p.load q.load, same p.memory q.memory)
