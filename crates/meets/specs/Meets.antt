-- Ours meets the three demands, and nothing else does: what the demands leave open is nothing.
use Rattle.std.specs.Prelude.{ℕ, true, false, ◌||◌, List, ◌≡◌, refl, eqb, length}
use Rattle.std.proofs.lemmas.Bool.{false≢true}
use Rattle.std.proofs.Common.{sym, subst, ◌∙◌, arith, ne_eqb}
use Rattle.std.proofs.Math.Decide.{ℕ_discrete}
use Rattle.chip.specs.declared.Chip.{Chip}
use Rattle.script.proofs.Laws as ScriptLaws
use Rattle.demands.specs.Model.{Model, ours}
use Rattle.demands.specs.Demand1.{Demand1Run, Runner, RunReply, RunRefusedWhen, our_run}
use Rattle.meets.specs.Refusals.{run_numbers_lem}
use Rattle.demands.specs.Words.{SmallWords, Words}
use Rattle.meets.specs.Array.{protection_in_numbers}
use Rattle.meets.specs.LegalStates.{length-among, legal-when, fresh-state}
use Rattle.meets.specs.ScriptWords.{kinds_in_numbers, events-in_numbers, stamps_in_numbers}
use Rattle.meets.specs.TableWords.{table_in_numbers}
use Rattle.meets.specs.JobWords.{jobs-in_numbers}
use Rattle.meets.specs.JobLives.{told-jobs_in_numbers}
use Rattle.meets.specs.Meets2Reads.{status_bits}
use Rattle.meets.specs.Meets1.{meets_1, meets_1_run}
use Rattle.meets.specs.Meets2.{meets_2}
use Rattle.meets.specs.Meets3.{meets_3}
use Rattle.meets.specs.Decided.{Meets, decided}

small : SmallWords
small =
    record {
      is_job_lem = (refl, (λ value. refl, (refl, (refl, (refl, (refl, tt))))));
      has_cells_lem = (refl, (λ value. refl, (refl, (refl, (refl, (refl, tt))))));
      runs = λ k. refl;
      bits_in_lem = λ byte. refl;
      bits_of_lem = λ k. refl;
      no_job_lem = refl;
      blank_load_lem = refl;
      empty_frame_lem = refl;
    }

-- The words that the demands take from the definitions mean what `demands/specs/Words` says.
pub words : Words
words =
    record {
      lengths = length-among;
      sectors = λ n. refl;
      states = legal-when;
      fresh_states = fresh-state;
      kinds = kinds_in_numbers;
      events = events-in_numbers;
      stamps = stamps_in_numbers;
      table = table_in_numbers;
      protection = protection_in_numbers;
      status = status_bits;
      jobs = jobs-in_numbers;
      told_jobs = told-jobs_in_numbers;
      small = small;
    }

-- Ours meets the three demands.
pub meets : Meets ours
meets = record { first = meets_1; second = meets_2; third = meets_3 }

-- Whatever meets them answers every event as ours does.
pub only-ours : (M : Model) → Meets M → (c : Chip) (m area : List ℕ) (kind body : ℕ) → M c m area kind body ≡ ours c m area kind body
only-ours M p = decided M ours p meets

-- ---- runs

module _ (R : Runner) (p : Demand1Run ours R) (c : Chip) (m area s out : List ℕ) where
  abbrev x : RunReply
  x = R c m area s out

  abbrev y : RunReply
  y = our_run c m area s out

  abbrev when-x : RunRefusedWhen x.refusal x.offset c (length m) (length area) s (length out)
  when-x = p.numbers c m area s out

  abbrev when-y : RunRefusedWhen y.refusal y.offset c (length m) (length area) s (length out)
  when-y = meets_1_run.numbers c m area s out

  abbrev SameRefusal : Type 0
  SameRefusal = (x.refusal ≡ y.refusal) × (x.offset ≡ y.offset)

  -- a number that has no offset
  without : (v : ℕ) → x.refusal ≡ v → y.refusal ≡ v → (v ≡ 4 → ⊥) → (v ≡ 5 → ⊥) → (v ≡ 6 → ⊥) → (v ≡ 8 → ⊥) → SameRefusal
  without v a b four five six eight = (
    a ∙ sym b,
    when-x.no_offset (λ e. four (sym a ∙ e)) (λ e. five (sym a ∙ e)) (λ e. six (sym a ∙ e)) (λ e. eight (sym a ∙ e))
        ∙ sym (when-y.no_offset (λ e. four (sym b ∙ e)) (λ e. five (sym b ∙ e)) (λ e. six (sym b ∙ e)) (λ e. eight (sym b ∙ e))),
  )

  -- a number that has one
  with : (v : ℕ) → (x.refusal ≡ v) × (x.offset ≡ y.offset) → y.refusal ≡ v → SameRefusal
  with v a b = (a.0 ∙ sym b, a.1)

  -- the table has no other number
  no_other : (v : ℕ) → v ≡ y.refusal → (v ≡ 1 → ⊥) → (v ≡ 13 → ⊥) → (v ≡ 2 → ⊥) → (v ≡ 3 → ⊥) → (v ≡ 5 → ⊥) → (v ≡ 4 → ⊥) → (v ≡ 6 → ⊥) → (v ≡ 8 → ⊥) → (v ≡ 0 → ⊥) → (v ≡ 7 → ⊥) → ⊥
  no_other v is n₁ n₁₃ n₂ n₃ n₅ n₄ n₆ n₈ n₀ n₇ =
      false≢true
      (sym (rw (not_so 1 n₁, not_so 13 n₁₃, not_so 2 n₂, not_so 3 n₃, not_so 5 n₅, not_so 4 n₄, not_so 6 n₆, not_so 8 n₈, not_so 0 n₀, not_so 7 n₇))
      ∙ subst (λ (u : ℕ). (eqb 1 u || (eqb 13 u || (eqb 2 u || (eqb 3 u || ((eqb 5 u || (eqb 4 u || (eqb 6 u || (eqb 8 u || eqb 0 u)))) || eqb 7 u))))) ≡ true) (sym (is ∙ ScriptLaws.answer_number c m area s out))
      (run_numbers_lem c (length m) (length area) s (length out)))
    where
      not_so : (u : ℕ) → (v ≡ u → ⊥) → eqb u v ≡ false
      not_so u n = ne_eqb u v (λ e. n (sym e))

  same_refusal : SameRefusal
  same_refusal =
      at 1 (λ e. without 1 (when-x.one.1 (when-y.one.0 e)) e (λ z. omega arith) (λ z. omega arith) (λ z. omega arith) (λ z. omega arith))
      (λ n₁. at 13 (λ e. without 13 (when-x.thirteen.1 (when-y.thirteen.0 e)) e (λ z. omega arith) (λ z. omega arith) (λ z. omega arith) (λ z. omega arith))
      (λ n₁₃. at 2 (λ e. without 2 (when-x.two.1 (when-y.two.0 e)) e (λ z. omega arith) (λ z. omega arith) (λ z. omega arith) (λ z. omega arith))
      (λ n₂. at 3 (λ e. without 3 (when-x.three.1 (when-y.three.0 e)) e (λ z. omega arith) (λ z. omega arith) (λ z. omega arith) (λ z. omega arith))
      (λ n₃. at 5 (λ e. with 5 ((when-x.five y.offset).1 ((when-y.five y.offset).0 (e, refl))) e)
      (λ n₅. at 4 (λ e. with 4 ((when-x.four y.offset).1 ((when-y.four y.offset).0 (e, refl))) e)
      (λ n₄. at 6 (λ e. with 6 ((when-x.six y.offset).1 ((when-y.six y.offset).0 (e, refl))) e)
      (λ n₆. at 8 (λ e. with 8 ((when-x.eight y.offset).1 ((when-y.eight y.offset).0 (e, refl))) e)
      (λ n₈. at 0 (λ e. without 0 (when-x.none.1 (when-y.none.0 e)) e (λ z. omega arith) (λ z. omega arith) (λ z. omega arith) (λ z. omega arith))
      (λ n₀. at 7 (λ e. without 7 (when-x.seven.1 (when-y.seven.0 e)) e (λ z. omega arith) (λ z. omega arith) (λ z. omega arith) (λ z. omega arith))
      (λ n₇. absurd (no_other y.refusal refl n₁ n₁₃ n₂ n₃ n₅ n₄ n₆ n₈ n₀ n₇)))))))))))
    where
      at : (v : ℕ) → (y.refusal ≡ v → SameRefusal) → ((y.refusal ≡ v → ⊥) → SameRefusal) → SameRefusal
      at v here there = go (ℕ_discrete y.refusal v)
        where
          go : Dec (y.refusal ≡ v) → SameRefusal
          go (yes e) = here e
          go (no n) = there n

  -- Whatever runs scripts over our model as Demand 1 asks answers every script as our run does.
  pub only_our_run : x ≡ y
  only_our_run = go (ℕ_discrete y.refusal 0)
    where
      go : Dec (y.refusal ≡ 0) → x ≡ y
      go (yes done) = p.done_runs c m area s out (same_refusal.0 ∙ done) ∙ sym (meets_1_run.done_runs c m area s out done)
      go (no refused) =
          p.refused_keeps c m area s out (λ z. refused (sym same_refusal.0 ∙ z))
          ∙ (λ i. record { chip = c; memory = m; output = out; refusal = same_refusal.0 i; offset = same_refusal.1 i; written = 0; ticks = 0 })
          ∙ sym (meets_1_run.refused_keeps c m area s out refused)
