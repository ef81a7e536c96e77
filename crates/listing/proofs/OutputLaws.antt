-- What is true of a run's output: a record is read back as it was written, the lines read from it are those of the run, and a stamp has none.
use Rattle.std.specs.Prelude.{ℕ, zero, suc, ◌+◌, Bool, true, false, cond, List, [], ◌∷◌, ◌++◌, ◌≡◌, refl, length, get_or}
use Rattle.std.proofs.lemmas.Bool.{false≢true}
use Rattle.std.proofs.Common.{append_assoc, append-nil, sym, ap, ◌∙◌, add-zero, length-append, get_or-append-add, eqb-true}
use Rattle.cells.specs.Choice.{cond_no}
use Rattle.part.specs.Part.{Setting}
use Rattle.kinds.specs.Kinds.{STAMP, kind_row_in, kind_row, is_said, yields}
use Rattle.clock.specs.declared.Clock.{Clock}
use Rattle.clock.specs.Clock.{moved_on}
use Rattle.chip.specs.declared.Record.{Record}
use Rattle.chip.specs.declared.Record.TheVariants.{Nothing, Floating, Driven, Verdict, InTheWay}
use Rattle.chip.specs.Record.{record_bytes}
use Rattle.event.specs.Event.{sort_of}
use Rattle.event.proofs.Laws.{says-its_kind}
use Rattle.script.specs.Script.{Event, is_stamp, clock_after, ticks_given, timed}
use Rattle.script.specs.Run.{World, does, onward, runs}
use Rattle.listing.specs.Text.{line_of}
use Rattle.listing.specs.Output.{record_at, read_lines}
use Rattle.listing.specs.Report.{lines_of}

-- ---- a record

-- a record of a sort that is said is read back from where its bytes were written, whatever stands before and after
pub record_back : (p q : List ℕ) (said : Record) → is_said (sort_of said) ≡ true → record_at (p ++ (record_bytes said ++ q)) (length p) ≡ said
unfolding record_at
record_back p q said = go said
  where
    first : (bs : List ℕ) → get_or (p ++ bs) (length p) 0 ≡ get_or bs 0 0
    first bs = ap (λ (i : ℕ). get_or (p ++ bs) i 0) (sym (add-zero (length p))) ∙ get_or-append-add p bs 0 0

    second : (bs : List ℕ) → get_or (p ++ bs) (length p + 1) 0 ≡ get_or bs 1 0
    second bs = get_or-append-add p bs 1 0

    third : (bs : List ℕ) → get_or (p ++ bs) (length p + 2) 0 ≡ get_or bs 2 0
    third bs = get_or-append-add p bs 2 0

    go : (said : Record) → is_said (sort_of said) ≡ true → record_at (p ++ (record_bytes said ++ q)) (length p) ≡ said
    go Nothing h = absurd (false≢true h)
    go Floating h = rw (first (record_bytes Floating ++ q))
    go (Driven b) h = rw (first (record_bytes (Driven b) ++ q), second (record_bytes (Driven b) ++ q))
    go (Verdict v) h = rw (first (record_bytes (Verdict v) ++ q), second (record_bytes (Verdict v) ++ q))
    go (InTheWay from to) h = rw (first (record_bytes (InTheWay from to) ++ q), second (record_bytes (InTheWay from to) ++ q), third (record_bytes (InTheWay from to) ++ q))

-- a silent one has no bytes
no_bytes : (said : Record) → is_said (sort_of said) ≡ false → record_bytes said ≡ []
no_bytes Nothing h = refl
no_bytes Floating h = absurd (false≢true (sym h))
no_bytes (Driven b) h = absurd (false≢true (sym h))
no_bytes (Verdict v) h = absurd (false≢true (sym h))
no_bytes (InTheWay first last) h = absurd (false≢true (sym h))

-- ---- the lines of a run

-- a run adds to what is written, and takes nothing away
record Longer (old new : List ℕ) : Type 0 where
  rest : List ℕ
  is : new ≡ old ++ rest

runs-longer : (T : Setting) (es : List Event) (w : World) → Longer w.written (runs T es w).written
unfolding runs
runs-longer T [] w = record { rest = []; is = sym (append-nil w.written) }
runs-longer T (e ∷ es) w =
    let later : Longer (onward T e w).written (runs T es (onward T e w)).written = runs-longer T es (onward T e w) in
    record {
      rest = record_bytes (does T e w).said ++ later.rest;
      is = later.is ∙ append_assoc w.written (record_bytes (does T e w).said) later.rest;
    }

-- the lines that are read from what a run wrote are those of its events as they happened
pub read-lines : (T : Setting) (tail : List ℕ) (es : List Event) (w : World)
    → read_lines es ((runs T es w).written ++ tail) (length w.written) ≡ lines_of T es w
unfolding read_lines runs lines_of
read-lines T tail [] w = refl
read-lines T tail (e ∷ es) w = go (read-lines T tail es (onward T e w)) (yields e.kind) refl
  where
    said : Record
    said = (does T e w).said

    p : ℕ
    p = length w.written

    out : List ℕ
    out = (runs T es (onward T e w)).written ++ tail

    -- what the event says is of the sort that its kind has
    sort : is_said (sort_of said) ≡ yields e.kind
    sort = ap is_said (says-its_kind T w.chip w.memory e.kind e.body)

    back : yields e.kind ≡ true → record_at out p ≡ said
    back y =
        let l : Longer (onward T e w).written (runs T es (onward T e w)).written = runs-longer T es (onward T e w) in
        ap (λ (o : List ℕ). record_at (o ++ tail) p) l.is
        ∙ ap (λ (o : List ℕ). record_at o p) (simp append_assoc)
        ∙ record_back w.written (l.rest ++ tail) said (sort ∙ y)

    go : read_lines es out (length (w.written ++ record_bytes said)) ≡ lines_of T es (onward T e w) → (y : Bool) → yields e.kind ≡ y
        → cond y (line_of e.offset (record_at out p) ++ read_lines es out (p + length (record_bytes (record_at out p)))) (read_lines es out p)
        ≡ cond y (line_of e.offset said) [] ++ lines_of T es (onward T e w)
    go later true y =
        ap (λ (r : Record). line_of e.offset r ++ read_lines es out (p + length (record_bytes r))) (back y)
        ∙ ap (λ (n : ℕ). line_of e.offset said ++ read_lines es out n) (sym (length-append w.written (record_bytes said)))
        ∙ ap (λ (l : List ℕ). line_of e.offset said ++ l) later
    go later false y =
        ap (λ (l : List ℕ). read_lines es out (length l)) (sym (ap (λ (bs : List ℕ). w.written ++ bs) (no_bytes said (sort ∙ y)) ∙ append-nil w.written))
        ∙ later

-- ---- stamps

-- the ticks that a stamp gives have no record
read-ticks : (e : Event) (n : ℕ) (es : List Event) (out : List ℕ) (p : ℕ) → read_lines (ticks_given e n ++ es) out p ≡ read_lines es out p
unfolding kind_row_in kind_row read_lines
read-ticks e zero es out p = refl
read-ticks e (suc n) es out p = refl

-- and the stamp, as it is written, has none
read-stamp : (e : Event) (es : List Event) (out : List ℕ) (p : ℕ) → is_stamp e ≡ true → read_lines (e ∷ es) out p ≡ read_lines es out p
unfolding kind_row_in kind_row read_lines
read-stamp e es out p stamp = cond_no (yields e.kind) _ _ (ap yields (eqb-true e.kind STAMP stamp))

-- so the events as they are written have the lines of those that a run applies for them
pub read-timed : (k : Clock) (es : List Event) (out : List ℕ) (p : ℕ) → read_lines (timed k es) out p ≡ read_lines es out p
unfolding timed read_lines
read-timed k [] out p = refl
read-timed k (e ∷ es) out p = go (read-timed (clock_after k e) es out) (is_stamp e) refl
  where
    rest : List Event
    rest = timed (clock_after k e) es

    go : ((q : ℕ) → read_lines rest out q ≡ read_lines es out q) → (b : Bool) → is_stamp e ≡ b
        → read_lines (cond b (ticks_given e (moved_on k e.body)) (e ∷ []) ++ rest) out p ≡ read_lines (e ∷ es) out p
    go later true stamp = read-ticks e (moved_on k e.body) rest out p ∙ later p ∙ sym (read-stamp e es out p stamp)
    go later false other =
        ap (λ (l : List ℕ). cond (yields e.kind) (line_of e.offset (record_at out p) ++ l) (read_lines rest out p)) (later (p + length (record_bytes (record_at out p))))
        ∙ ap (λ (l : List ℕ). cond (yields e.kind) (line_of e.offset (record_at out p) ++ read_lines es out (p + length (record_bytes (record_at out p)))) l) (later p)
