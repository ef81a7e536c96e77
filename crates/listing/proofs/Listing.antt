-- How the lines that are read from a run's output get less: an event that yields a record takes its line in front of them, and one that yields none takes nothing.
use Rattle.std.specs.Prelude.{ℕ, ◌+◌, ◌<◌, ◌≤◌, true, false, List, [], ◌∷◌, ◌++◌, ◌≡◌, length, get_or, drop}
use Rattle.std.proofs.Common.{refl, sym, ap, ◌∙◌, add_assoc, zero-add, add-zero}
use Rattle.std.proofs.lemmas.List.{get_or-drop}
use Rattle.cells.specs.Choice.{cond_yes, cond_no}
use Rattle.kinds.specs.Kinds.{yields}
use Rattle.kinds.specs.Body.{next_at, step_to}
use Rattle.kinds.proofs.Laws.{step_inside}
use Rattle.chip.specs.declared.Record.{Record}
use Rattle.chip.specs.Record.{record_bytes}
use Rattle.script.specs.Script.{Event, events_from}
use Rattle.script.proofs.Laws.{events-none, events-more}
use Rattle.listing.specs.Text.{line_of}
use Rattle.listing.specs.Output.{record_at, read_lines}

-- a record that stands n places further on is the one of what is behind the first n
record-behind : (out : List ℕ) (n p : ℕ) → record_at (drop n out) p ≡ record_at out (n + p)
unfolding record_at
record-behind out n p = simp (get_or-drop, add_assoc)

-- so are the lines
lines-behind : (es : List Event) (out : List ℕ) (n p : ℕ) → read_lines es (drop n out) p ≡ read_lines es out (n + p)
unfolding read_lines
lines-behind [] out n p = refl
lines-behind (e ∷ es) out n p =
    rw (record-behind out n p, lines-behind es out n p, lines-behind es out n (p + length (record_bytes (record_at out (n + p)))), add_assoc n p (length (record_bytes (record_at out (n + p)))))

module _ (s out : List ℕ) (at at' : ℕ) (inside : at < length s) (is : at' ≡ step_to s at) where
  next : at' ≡ next_at s at
  next = is ∙ step_inside s at inside

  pub silent : yields (get_or s at 0) ≡ false → read_lines (events_from s at) out 0 ≡ read_lines (events_from s at') out 0
  unfolding read_lines
  silent none = ap (λ (es : List Event). read_lines es out 0) (events-more s at inside) ∙ cond_no _ _ _ none ∙ ap (λ (n : ℕ). read_lines (events_from s n) out 0) (sym next)

  pub spoken : yields (get_or s at 0) ≡ true → (said : Record) → said ≡ record_at out 0
      → read_lines (events_from s at) out 0 ≡ line_of at said ++ read_lines (events_from s at') (drop (length (record_bytes said)) out) 0
  unfolding read_lines
  spoken one said e =
      ap (λ (es : List Event). read_lines es out 0) (events-more s at inside)
      ∙ cond_yes (yields (get_or s at 0)) _ (read_lines (events_from s (next_at s at)) out 0) one
      ∙ ap (λ (r : Record). line_of at r ++ read_lines (events_from s (next_at s at)) out (0 + length (record_bytes r))) (sym e)
      ∙ ap (λ (n : ℕ). line_of at said ++ read_lines (events_from s (next_at s at)) out n) (zero-add (length (record_bytes said)) ∙ sym (add-zero (length (record_bytes said))))
      ∙ ap (λ (t : List ℕ). line_of at said ++ t) (sym (lines-behind (events_from s (next_at s at)) out (length (record_bytes said)) 0))
      ∙ ap (λ (n : ℕ). line_of at said ++ read_lines (events_from s n) (drop (length (record_bytes said)) out) 0) (sym next)

-- after the last event there is none
pub over : (s out : List ℕ) (at : ℕ) → length s ≤ at → read_lines (events_from s at) out 0 ≡ []
unfolding read_lines
over s out at end = ap (λ (es : List Event). read_lines es out 0) (events-none s at end)
