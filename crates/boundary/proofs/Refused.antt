-- A refusal touches nothing (RULES, Refusals): an answer that refuses has exactly the numbers that were given, the free ones too. And which number refuses what is no state.
use Rattle.std.specs.Prelude.{ℕ, ◌≤◌, ◌<◌, true, false, ◌≡◌, refl, length}
use Rattle.std.proofs.Math.Bool.{not}
use mathlib.Core.List.{List}
use Rattle.std.proofs.Common.{sym, ◌∙◌, lt-ltb, le-ltb}
use Rattle.std.proofs.Math.Path.{ap}
use Rattle.cells.specs.Choice.{cond_yes, cond_no, cond_either, chosen_number}
use Rattle.part.specs.Part.{permitted}
use Rattle.part.specs.Area.{longest_area}
use Rattle.event.specs.Alone.{Answer}
use Rattle.event.specs.Alone as alone
use Rattle.event.proofs.Laws as alone-laws
use Rattle.script.specs.Run.{Ran}
use Rattle.script.specs.Run as script
use Rattle.script.proofs.Laws as script-laws
use Rattle.boundary.specs.declared.ChipNumbers.{ChipNumbers}
use Rattle.boundary.specs.declared.EventNumbers.{EventNumbers}
use Rattle.boundary.specs.declared.RunNumbers.{RunNumbers}
use Rattle.boundary.specs.Numbers.{is_state, chip_of}
use Rattle.boundary.specs.Answers.{no_state, refused_event, done_event, event_numbers, event_of, event_memory, refused_run, done_run, run_numbers, run_of, run_memory, run_output}
use Rattle.boundary.proofs.Laws.{event_no_state, event_state, event_refused, run_no_state, run_state, run_refused}

-- the number in an answer's numbers is the answer's
event-number : (c : ChipNumbers) (a : Answer) → (event_numbers c a).refusal ≡ a.refusal
unfolding event_numbers
event-number c a = chosen_number (λ (r : EventNumbers). r.refusal) a.refusal (done_event a) (refused_event c a.refusal) refl refl

run_number : (c : ChipNumbers) (a : Ran) → (run_numbers c a).refusal ≡ a.refusal
unfolding run_numbers
run_number c a = chosen_number (λ (r : RunNumbers). r.refusal) a.refusal (done_run a) (refused_run c a.refusal a.offset) refl refl

-- ---- one event

module _ (c : ChipNumbers) (m area : List ℕ) (kind body : ℕ) (no : (event_of c m area kind body).refusal ≡ 0 → ⊥) where
  pub event_numbers_as_given : (event_of c m area kind body).chip ≡ c
  unfolding event_of
  event_numbers_as_given =
      cond_either (λ (r : EventNumbers). (r.refusal ≡ 0 → ⊥) → r.chip ≡ c) (is_state c) _ _ (λ _ h. ap (λ (r : EventNumbers). r.chip) (event_refused c _ (λ z. h (event-number c _ ∙ z)))) (λ _ _. refl) no

  event_refused_inside : is_state c ≡ true → alone.refusal (chip_of c) (length m) (length area) kind body ≡ 0 → ⊥
  event_refused_inside is e =
      no (ap (λ (r : EventNumbers). r.refusal) (sym (event_state c m area kind body (chip_of c) _ _ is refl refl refl)) ∙ event-number c _ ∙ alone-laws.answer_number (chip_of c) m area kind body ∙ e)

  pub event_memory_as_given : event_memory c m area kind body ≡ m
  unfolding event_memory
  event_memory_as_given =
      cond_either (λ (z : List ℕ). z ≡ m) (is_state c) _ _ (λ is. alone-laws.memory_refused (chip_of c) m area kind body (event_refused_inside is)) (λ _. refl)

-- ---- a run

module _ (c : ChipNumbers) (m area s out : List ℕ) (no : (run_of c m area s out).refusal ≡ 0 → ⊥) where
  pub run_numbers_as_given : (run_of c m area s out).chip ≡ c
  unfolding run_of
  run_numbers_as_given =
      cond_either (λ (r : RunNumbers). (r.refusal ≡ 0 → ⊥) → r.chip ≡ c) (is_state c) _ _ (λ _ h. ap (λ (r : RunNumbers). r.chip) (run_refused c _ (λ z. h (run_number c _ ∙ z)))) (λ _ _. refl) no

  run_refused_inside : is_state c ≡ true → (script.refusal (chip_of c) (length m) (length area) s (length out)).number ≡ 0 → ⊥
  run_refused_inside is e =
      no (ap (λ (r : RunNumbers). r.refusal) (sym (run_state c m area s out (chip_of c) _ _ is refl refl refl)) ∙ run_number c _ ∙ script-laws.answer_number (chip_of c) m area s out ∙ e)

  pub run_memory_as_given : run_memory c m area s out ≡ m
  unfolding run_memory
  run_memory_as_given =
      cond_either (λ (z : List ℕ). z ≡ m) (is_state c) _ _ (λ is. script-laws.memory_refused (chip_of c) m area s out (run_refused_inside is)) (λ _. refl)

  pub run_output_as_given : run_output c m area s out ≡ out
  unfolding run_output
  run_output_as_given =
      cond_either (λ (o : List ℕ). o ≡ out) (is_state c) _ _ (λ is. script-laws.output_refused (chip_of c) m area s out (run_refused_inside is)) (λ _. refl)

-- ---- numbers that are no state

-- they are refused by 2, but by 1 where the memory is no part's, and by 13 where it is one and the area is too long (RULES, Legal states)
module _ (n extent : ℕ) where
  no_state_wrong_length : permitted n ≡ false → no_state n extent ≡ 1
  unfolding no_state
  no_state_wrong_length h = cond_yes _ _ _ (ap not h)

  no_state_long_area : permitted n ≡ true → longest_area < extent → no_state n extent ≡ 13
  unfolding no_state
  no_state_long_area h long = cond_no _ _ _ (ap not h) ∙ cond_yes _ _ _ (lt-ltb _ _ long)

  no_state_both_right : permitted n ≡ true → extent ≤ longest_area → no_state n extent ≡ 2
  unfolding no_state
  no_state_both_right h short = cond_no _ _ _ (ap not h) ∙ cond_no _ _ _ (le-ltb _ _ short)

module _ (c : ChipNumbers) (over : is_state c ≡ false) (m area : List ℕ) where
  pub no_state_event : (kind body : ℕ)
      → (permitted (length m) ≡ true → length area ≤ longest_area → (event_of c m area kind body).refusal ≡ 2)
      × (permitted (length m) ≡ true → longest_area < length area → (event_of c m area kind body).refusal ≡ 13)
      × (permitted (length m) ≡ false → (event_of c m area kind body).refusal ≡ 1)
  no_state_event kind body =
      let number : (event_of c m area kind body).refusal ≡ no_state (length m) (length area) = sym (ap (λ (r : EventNumbers). r.refusal) (event_no_state c m area kind body _ _ over refl refl)) in
      (λ h short. number ∙ no_state_both_right _ _ h short, λ h long. number ∙ no_state_long_area _ _ h long, λ h. number ∙ no_state_wrong_length _ _ h)

  pub no_state_run : (s out : List ℕ)
      → (permitted (length m) ≡ true → length area ≤ longest_area → (run_of c m area s out).refusal ≡ 2)
      × (permitted (length m) ≡ true → longest_area < length area → (run_of c m area s out).refusal ≡ 13)
      × (permitted (length m) ≡ false → (run_of c m area s out).refusal ≡ 1)
  no_state_run s out =
      let number : (run_of c m area s out).refusal ≡ no_state (length m) (length area) = sym (ap (λ (r : RunNumbers). r.refusal) (run_no_state c m area s out _ _ over refl refl)) in
      (λ h short. number ∙ no_state_both_right _ _ h short, λ h long. number ∙ no_state_long_area _ _ h long, λ h. number ∙ no_state_wrong_length _ _ h)
