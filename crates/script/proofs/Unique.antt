-- What a run gives back is known by its answer: no two results tell the same.
use Rattle.std.specs.Prelude.{◌≡◌, Result, Ok, Err}
use Rattle.std.proofs.Common.{sym, ap, ◌∙◌}
use Rattle.std.proofs.lemmas.Bool.{eqb-false}
use Rattle.refusal.specs.Laws.{refused as is_told, refusal_by, by_number}
use Rattle.refusal.specs.Table.{number_of}
use Rattle.chip.specs.declared.Chip.{Chip}
use Rattle.margins.specs.declared.Report.{Report}
use Rattle.script.specs.declared.Done.{Done}
use Rattle.script.specs.declared.Refused.{Refused}
use Rattle.script.specs.declared.Reported.{Reported}
use Rattle.script.specs.Run.{Ran, told, finished, refused, ran_as}
use Rattle.script.specs.Report.{Reported as Answer, reported_as}

-- what is done is known by its answer
finished_one : (d d' : Done) → finished d.chip d.written d.ticks ≡ finished d'.chip d'.written d'.ticks → d ≡ d'
finished_one d d' e = λ i. record { chip = ap (λ (r : Ran). r.chip) e i; written = ap (λ (r : Ran). r.written) e i; ticks = ap (λ (r : Ran). r.ticks) e i }

-- so is what refuses
refused_one : (c : Chip) (a b : Refused) → refused c (told a) ≡ refused c (told b) → a ≡ b
refused_one c a b e =
    λ i. record { refusal = (sym (by_number a.refusal) ∙ ap (λ (r : Ran). refusal_by r.refusal) e ∙ by_number b.refusal) i; offset = ap (λ (r : Ran). r.offset) e i }

-- and what is done does not read as refused
not_refused : (c : Chip) (d : Done) (a : Refused) → refused c (told a) ≡ finished d.chip d.written d.ticks → ⊥
not_refused c d a e = eqb-false (number_of a.refusal) 0 (is_told a.refusal) (ap (λ (r : Ran). r.refusal) e)

-- a run's result is known by its answer
pub ran_one : (c : Chip) (r r' : Result Done Refused) → ran_as c r ≡ ran_as c r' → r ≡ r'
ran_one c (Ok d) (Ok d') e = ap Ok (finished_one d d' e)
ran_one c (Ok d) (Err a) e = absurd (not_refused c d a (sym e))
ran_one c (Err a) (Ok d) e = absurd (not_refused c d a e)
ran_one c (Err a) (Err b) e = ap Err (refused_one c a b e)

-- so is that of a run with a report
pub reported_one : (c : Chip) (p : Report) (r r' : Result Reported Refused) → reported_as c p r ≡ reported_as c p r' → r ≡ r'
reported_one c p (Ok d) (Ok d') e = λ i. Ok (record { done = finished_one d.done d'.done (ap (λ (a : Answer). a.ran) e) i; report = ap (λ (a : Answer). a.report) e i })
reported_one c p (Ok d) (Err a) e = absurd (not_refused c d.done a (sym (ap (λ (a : Answer). a.ran) e)))
reported_one c p (Err a) (Ok d) e = absurd (not_refused c d.done a (ap (λ (a : Answer). a.ran) e))
reported_one c p (Err a) (Err b) e = ap Err (refused_one c a b (ap (λ (a : Answer). a.ran) e))
