-- How long what is printed can be: a record's word and its line, the lines of a run, and the whole text, for which there is room.
use Rattle.std.specs.Prelude.{ℕ, zero, suc, ◌+◌, ◌*◌, ◌<◌, ◌≤◌, true, cond, List, [], ◌∷◌, ◌++◌, ◌≡◌, refl, eqb, leb, length, replicate}
use Rattle.std.proofs.Common.{sym, ap, ◌∙◌, arith, length-append, leb-false}
use Rattle.std.proofs.lemmas.List.{length-replicate}
use Rattle.cells.specs.Choice.{cond_either}
use Rattle.part.specs.Part.{permitted, sector, sectors_in, Setting, setting_of}
use Rattle.kinds.specs.Kinds.{yields}
use Rattle.kinds.specs.Body.{next_at}
use Rattle.chip.specs.declared.Chip.{Chip}
use Rattle.chip.specs.declared.Core.{Core}
use Rattle.chip.specs.declared.Record.{Record}
use Rattle.chip.specs.declared.Record.TheVariants.{Nothing, Floating, Driven, Verdict, InTheWay}
use Rattle.chip.specs.Chip.{fresh}
use Rattle.legal.specs.Legal.{legal, legal_job, legal_core, legal_frame, is_empty, is_blank}
use Rattle.event.proofs.Said.{Told, said_told}
use Rattle.event.proofs.Legality.{legal-applied}
use Rattle.event.proofs.Keeps.{length-applied}
use Rattle.clock.specs.declared.Clock.{Clock}
use Rattle.clock.specs.Clock.{unset, moved_on}
use Rattle.script.specs.Script.{Event, event_at, walk, events_from, is_stamp, clock_after, ticks_given, given, timed, played}
use Rattle.script.specs.Run.{Ran, World, world, does, onward, answer_of}
use Rattle.listing.specs.Text.{word_of, line_of, part_line, done_line, refused_line, longest_line}
use Rattle.listing.proofs.TextLaws.{spelled-most, spelled-below}
use Rattle.listing.specs.Report.{longest_script, output_room, text_room, lines_of, answer_text, program_area, run_text}

-- ---- a record's line

-- the word of a record that a legal state says is at most `V9 31 31`
word_most : (k : Core) (said : Record) → Told k said → length (word_of said) ≤ 8
word_most k Nothing told = omega arith
word_most k Floating told = omega arith
word_most k (Driven b) told = omega arith
word_most k (Verdict v) (most, lacks) = omega (arith, spelled-below 20 2 v (omega arith) (omega arith))
word_most k (InTheWay first last) (f, l) =
    simp length-append (omega (arith, spelled-below 20 2 first (omega arith) (omega arith), spelled-below 20 2 last (omega arith) (omega arith)))

-- and its line, where it is in the longest script, at most the longest line
line-most : (offset : ℕ) (k : Core) (said : Record) → offset < longest_script → Told k said → length (line_of offset said) ≤ longest_line
unfolding line_of
line-most offset k said early told = simp length-append (omega (arith, spelled-below 20 4 offset (omega arith) (omega arith), word_most k said told))

-- ---- the lines of a run

-- an event adds at most the longest line to what those behind it have from any legal state on this part
event-most : (T : Setting) (e : Event) (es : List Event) (w : World) (most : ℕ) → e.offset < longest_script → T.sectors ≡ sectors_in (length w.memory) → legal w.chip (length w.memory) ≡ true
    → ((v : World) → T.sectors ≡ sectors_in (length v.memory) → legal v.chip (length v.memory) ≡ true → length (lines_of T es v) ≤ most)
    → length (lines_of T (e ∷ es) w) ≤ longest_line + most
unfolding lines_of
event-most T e es w most early same l rest =
    let keeps : length (onward T e w).memory ≡ length w.memory = length-applied T w.chip w.memory e.kind e.body in
    let later : length (lines_of T es (onward T e w)) ≤ most =
    rest (onward T e w) (same ∙ ap sectors_in (sym keeps)) (ap (legal (onward T e w).chip) keeps ∙ legal-applied T w.chip w.memory e.kind e.body same l) in
    let line : List ℕ = cond (yields e.kind) (line_of e.offset (does T e w).said) [] in
    let short-line : length line ≤ longest_line =
    cond_either (λ (t : List ℕ). length t ≤ longest_line) (yields e.kind) _ _
    (λ _. line-most e.offset w.chip.core (does T e w).said early (said_told T w.chip w.memory same l e.kind e.body)) (λ _. omega arith) in
    omega (arith, length-append line (lines_of T es (onward T e w)), short-line, later)

-- what a run applies for an event is no event, or one at its offset
given-each : (k : Clock) (e : Event) (P : List Event → Type 0) → P [] → ((f : Event) → f.offset ≡ e.offset → P (f ∷ [])) → P (given k e)
given-each k e P none one = cond_either P (is_stamp e) _ _ (λ _. ticks (moved_on k e.body)) (λ _. one e refl)
  where
    ticks : (n : ℕ) → P (ticks_given e n)
    ticks zero = none
    ticks (suc n) = one _ refl

-- as many events as the fuel allows, as a run applies them, have at most so many lines, each at most the longest
lines_most : (T : Setting) (s : List ℕ) → length s ≤ longest_script → (fuel at : ℕ) (k : Clock) (w : World) → T.sectors ≡ sectors_in (length w.memory) → legal w.chip (length w.memory) ≡ true
    → length (lines_of T (timed k (walk fuel s at)) w) ≤ longest_line * fuel
unfolding walk timed lines_of
lines_most T s short zero at k w same l = omega arith
lines_most T s short (suc fuel) at k w same l =
    let e : Event = event_at s at in
    let es : List Event = timed (clock_after k e) (walk fuel s (next_at s at)) in
    let later : (v : World) → T.sectors ≡ sectors_in (length v.memory) → legal v.chip (length v.memory) ≡ true → length (lines_of T es v) ≤ longest_line * fuel =
    lines_most T s short fuel (next_at s at) (clock_after k e) in
    cond_either (λ (fs : List Event). length (lines_of T (timed k fs) w) ≤ longest_line * suc fuel) (leb (length s) at) [] (e ∷ walk fuel s (next_at s at)) (λ _. omega arith)
    (λ inside.
    given-each k e (λ (fs : List Event). length (lines_of T (fs ++ es) w) ≤ longest_line * suc fuel) (omega (arith, later w same l))
    (λ f there. omega (arith, event-most T f es w (longest_line * fuel) (omega (arith, there, leb-false (length s) at inside)) same l later)))

-- ---- the whole text

-- the first line, and what follows it: a number has at most 20 digits
part_most : (n : ℕ) → length (part_line n) ≤ 26
unfolding part_line
part_most n = simp length-append (omega (arith, spelled-most 20 n))

answer_most : (lines : List ℕ) (refusal offset ticks : ℕ) → length (answer_text lines refusal offset ticks) ≤ length lines + 52
unfolding answer_text done_line refused_line
answer_most lines refusal offset ticks =
    cond_either (λ (t : List ℕ). length t ≤ length lines + 52) (eqb refusal 0) _ _
    (λ _. simp length-append (omega (arith, spelled-most 20 ticks)))
    (λ _. simp length-append (omega (arith, spelled-most 20 refusal, spelled-most 20 offset)))

-- there is room for a run of a script that is not too long, from any legal state
pub run_fits : (c : Chip) (m s out : List ℕ) → legal c (length m) ≡ true → length s ≤ longest_script → length (run_text c m s out) ≤ text_room
unfolding run_text events_from
run_fits c m s out l short =
    let r : Ran = answer_of c m program_area s out in
    let lines : List ℕ = lines_of (setting_of (length m) program_area) (played s) (world c m [] 0) in
    omega (
      arith,
      length-append (part_line (length m)) (answer_text lines r.refusal r.offset r.ticks),
      part_most (length m),
      answer_most lines r.refusal r.offset r.ticks,
      lines_most (setting_of (length m) program_area) s short (length s) 0 unset (world c m [] 0) refl l,
    )

-- so there is for what the program prints
pub report_fits : (s : List ℕ) → length s ≤ longest_script → length (run_text (fresh 0) (replicate sector 255) s (replicate output_room 0)) ≤ text_room
unfolding permitted fresh legal_job legal_core legal_frame is_empty is_blank legal
report_fits s short =
    run_fits (fresh 0) (replicate sector 255) s (replicate output_room 0) (ap (legal (fresh 0)) (length-replicate {A = ℕ} sector 255)) short
