-- What is true of one event: each way that it goes, and what it leaves alone.
use Rattle.std.specs.Prelude.{ℕ, ◌≤◌, ◌<◌, ◌%◌, Bool, not, ◌≡◌, length, eqb, ltb, None, Some, Result, Ok, Err, IsErrAnd}
use Rattle.std.proofs.Math.Bool.{true, false, cond}
use Rattle.std.proofs.lemmas.Bool.{false≢true, eqb-false}
use mathlib.Core.List.{List, []}
use Rattle.std.proofs.Math.Path.{refl, ap}
use Rattle.std.proofs.Common.{sym, subst, ◌∙◌, ⊎_elim, mod-eq_of_lt, arith, eq-eqb, ne_eqb, ltb-false}
use Rattle.cells.specs.Choice.{cond_yes, cond_no, cond_either, chosen_number}
use Rattle.part.specs.Part.{permitted, Setting, setting, sectors_in}
use Rattle.part.specs.Area.{longest_area}
use Rattle.part.specs.Protection.{Protected, protected_sectors}
use Rattle.kinds.specs.Kinds.{SELECT, EXCHANGE, DESELECT, TICK, TICKS, WP, POWER, Says, KindRow, kind_row_in, kind_row, known_kind, body_length, in_range, says_of, is_said, room_of}
use Rattle.kinds.proofs.Laws.{not-kind, kind_each, none_known, unknown_silent, range_small}
use Rattle.chip.specs.declared.Chip.{Chip}
use Rattle.legal.specs.Legal.{legal}
use Rattle.chip.specs.declared.Core.{Core}
use Rattle.chip.specs.declared.Frame.{Frame}
use Rattle.chip.specs.declared.Record.{Record}
use Rattle.chip.specs.declared.Record.TheVariants.{Nothing, Floating, Driven, Verdict, InTheWay}
use Rattle.chip.specs.Record.{record_bytes}
use Rattle.chip.proofs.Laws.{record_bytes-most}
use Rattle.frame.specs.Frame.{Exchange, exchanged, judge}
use Rattle.frame.specs.Legality.{taken-each, exchanged-each}
use Rattle.commands.specs.Table.{is_read}
use Rattle.chip.specs.Chip.{empty_frame, blank_load}
use Rattle.verdict.specs.Verdict.{verdict, in_the_way, record_of}
use Rattle.verdict.proofs.Laws.{verdict-read, settled-read, held_stays, record_plain}
use Rattle.refusal.specs.declared.Refusal.{Refusal}
use Rattle.refusal.specs.Table.{number_of}
use Rattle.refusal.specs.Laws.{refused as refused_by, refusal_by, by_number}
use Rattle.event.specs.declared.Done.{Done}
use Rattle.event.specs.Alone.{Answer, answered}
use Rattle.event.specs.Event.{Outcome, outcome, as_it_was, select, exchange_byte, deselect, closes, tick, set_wp, cut_power, applied, sort_of}
use Rattle.event.specs.Alone.{body_used, refusal, refused, done, happens, answer_of, memory_of, said_of}

-- ---- a deselect

pub deselect-unselected : (T : Setting) (c : Chip) (m : List ℕ) (loose : Bool) → c.frame.selected ≡ false
    → deselect T c m loose ≡ as_it_was c m (Verdict 0)
deselect-unselected T c m loose h = cond_no c.frame.selected _ _ h

pub deselect-selected : (T : Setting) (c : Chip) (m : List ℕ) (loose : Bool) → c.frame.selected ≡ true
    → deselect T c m loose ≡ closes T c m (verdict T.sectors c.core c.frame loose)
deselect-selected T c m loose h = cond_yes c.frame.selected _ _ h

-- the deselect of a read that is allowed where it stands, with no reset armed: verdict 0, and the empty frame
pub deselect-read : (T : Setting) (c : Chip) (m : List ℕ) (loose : Bool) → c.frame.selected ≡ true → c.frame.judgement ≡ 0 → judge c.core c.frame.opcode ≡ 0 → is_read c.frame.opcode ≡ true
    → c.core.armed ≡ false → deselect T c m loose ≡ outcome c.core empty_frame blank_load c.held m (Verdict 0) 0
deselect-read T c m loose selected unjudged allowed read unarmed =
    deselect-selected T c m loose selected
    ∙ ap (closes T c m) (verdict-read T.sectors c.core c.frame loose unjudged allowed read)
    ∙ (λ i. outcome (settled-read T.sectors c.core c.frame unarmed i) empty_frame blank_load (held_stays c.frame 0 c.load c.held (λ e. omega arith) (λ e _. omega arith) i) m
    (record_plain T.sectors c.core 0 (λ e. omega arith) i) 0)

-- ---- one event, by its kind

-- what holds of each kind's outcome, and of what is no kind, holds of the event's
pub applied-each : (T : Setting) (c : Chip) (m : List ℕ) (kind body : ℕ) (P : Outcome → Type 0)
    → (kind ≡ SELECT → P (select c m))
    → (kind ≡ EXCHANGE → P (exchange_byte T c m (body % 256)))
    → (kind ≡ DESELECT → P (deselect T c m (ltb 0 body)))
    → (kind ≡ TICK → P (tick T c m 1))
    → (kind ≡ TICKS → P (tick T c m body))
    → (kind ≡ WP → P (set_wp c m body))
    → (kind ≡ POWER → P (cut_power c m))
    → (known_kind kind ≡ false → P (as_it_was c m Nothing))
    → P (applied T c m kind body)
unfolding applied known_kind kind_row kind_row_in
applied-each T c m kind body P p₁ p₂ p₃ p₄ p₅ p₆ p₇ p₈ =
    kind_each (λ k. kind ≡ k → P (applied T c m k body)) p₁ p₂ p₃ p₄ p₅ p₆ p₇
    (λ e. p₈ (ap known_kind e))
    (λ k none e.
    let no = none_known none in
    rw (not-kind k no SELECT refl, not-kind k no EXCHANGE refl, not-kind k no DESELECT refl, not-kind k no TICK refl, not-kind k no TICKS refl, not-kind k no WP refl, not-kind k no POWER refl)
    (p₈ (ap known_kind e ∙ no)))
    kind refl

-- a select, as an event
pub applied-select : (T : Setting) (c : Chip) (m : List ℕ) (kind body : ℕ) → kind ≡ SELECT → applied T c m kind body ≡ select c m
unfolding applied
applied-select T c m kind body e = ap (λ (q : ℕ). applied T c m q body) e

-- a deselect, as an event
pub applied-deselect : (T : Setting) (c : Chip) (m : List ℕ) (kind body : ℕ) → kind ≡ DESELECT → applied T c m kind body ≡ deselect T c m (ltb 0 body)
unfolding applied
applied-deselect T c m kind body e = ap (λ (q : ℕ). applied T c m q body) e

-- the exchange of a byte, as an event
pub applied-exchange : (T : Setting) (c : Chip) (m : List ℕ) (kind b : ℕ) → kind ≡ EXCHANGE → b < 256 → applied T c m kind b ≡ exchange_byte T c m b
unfolding applied
applied-exchange T c m kind b e l = rw (e, mod-eq_of_lt l)

-- ticks, as an event
pub applied-ticks : (T : Setting) (c : Chip) (m : List ℕ) (kind n : ℕ) → kind ≡ TICKS → applied T c m kind n ≡ tick T c m n
unfolding applied
applied-ticks T c m kind n e = rw e

-- ---- an event alone

-- done means: a permitted length, an area that is not too long, a legal state, a known kind and a body in its range
pub record Accepted (c : Chip) (n extent kind body : ℕ) : Type 0 where
  pub length_permitted : permitted n ≡ true
  pub area_short : extent ≤ longest_area
  pub state_legal : legal c n ≡ true
  pub kind_known : known_kind kind ≡ true
  pub body_in_range : in_range kind body ≡ true

pub accepted : (c : Chip) (n extent kind body : ℕ) → refusal c n extent kind body ≡ 0 → Accepted c n extent kind body
unfolding refusal
accepted c n extent kind body = go (permitted n) (ltb longest_area extent) (legal c n) (known_kind kind) (in_range kind body) refl refl refl refl refl
  where
    go : (p a l k r : Bool) → permitted n ≡ p → ltb longest_area extent ≡ a → legal c n ≡ l → known_kind kind ≡ k → in_range kind body ≡ r
        → ◌≡◌ {A = ℕ} (cond (not p) 1 (cond a 13 (cond (not l) 2 (cond (not k) 5 (cond (not r) 6 0))))) 0
        → Accepted c n extent kind body
    go true false true true true p a l k r h = record { length_permitted = p; area_short = ltb-false _ _ a; state_legal = l; kind_known = k; body_in_range = r }
    go true false true true false p a l k r h = absurd (omega arith)
    go true false true false in-range p a l k r h = absurd (omega arith)
    go true false false known in-range p a l k r h = absurd (omega arith)
    go true true fine known in-range p a l k r h = absurd (omega arith)
    go false long fine known in-range p a l k r h = absurd (omega arith)

module _ (c : Chip) (m area : List ℕ) (kind body : ℕ) where
  abbrev number : ℕ
  number = refusal c (length m) (length area) kind body

  -- the number in the answer is the refusal's
  pub answer_number : (answer_of c m area kind body).refusal ≡ number
  unfolding answer_of
  answer_number = chosen_number (λ (a : Answer). a.refusal) number _ _ refl refl

  pub answer_refused : (number ≡ 0 → ⊥) → answer_of c m area kind body ≡ refused c number
  unfolding answer_of
  answer_refused h = cond_no _ _ _ (ne_eqb _ _ h)

  pub memory_refused : (number ≡ 0 → ⊥) → memory_of c m area kind body ≡ m
  unfolding memory_of
  memory_refused h = cond_no _ _ _ (ne_eqb _ _ h)

  pub answer_done : number ≡ 0 → answer_of c m area kind body ≡ done (happens c m area kind body)
  unfolding answer_of
  answer_done h = cond_yes _ _ _ (eq-eqb _ _ h)

  pub memory_done : number ≡ 0 → memory_of c m area kind body ≡ (happens c m area kind body).memory
  unfolding memory_of
  memory_done h = cond_yes _ _ _ (eq-eqb _ _ h)

  pub said_refused : (number ≡ 0 → ⊥) → said_of c m area kind body ≡ []
  unfolding said_of
  said_refused h = cond_no _ _ _ (ne_eqb _ _ h)

  pub said_done : number ≡ 0 → said_of c m area kind body ≡ record_bytes (happens c m area kind body).said
  unfolding said_of
  said_done h = cond_yes _ _ _ (eq-eqb _ _ h)

  -- the record of an answer has the bytes that the definition gives
  pub said_bytes : (r : Answer) → r ≡ answer_of c m area kind body → record_bytes r.said ≡ said_of c m area kind body
  unfolding answer_of said_of
  said_bytes r e = ap (λ (a : Answer). record_bytes a.said) e ∙ go (eqb number 0)
    where
      go : (ok : Bool) → record_bytes (cond ok (done (happens c m area kind body)) (refused c number)).said ≡ cond ok (record_bytes (happens c m area kind body).said) []
      go true = refl
      go false = refl

  -- a result that is refused by its number leaves all as it was
  pub all_refused : (r : Result Done Refusal) (why : Refusal) → IsErrAnd r (λ (e : Refusal). e ≡ why) → number ≡ number_of why
      → (answered c r ≡ answer_of c m area kind body) × (m ≡ memory_of c m area kind body) × (record_bytes (answered c r).said ≡ said_of c m area kind body)
  all_refused (Err e) why same by =
      let by_e : number ≡ number_of e = by ∙ sym (ap number_of same) in
      let ne : number ≡ 0 → ⊥ = λ z. eqb-false _ _ (refused_by e) (sym by_e ∙ z) in
      let told : answered c (Err e) ≡ answer_of c m area kind body = ap (refused c) (sym by_e) ∙ sym (answer_refused ne) in
      (told, sym (memory_refused ne), said_bytes _ told)
  all_refused (Ok d) why same by = absurd same

-- an event's result is known by its answer: no two results tell the same of a chip
pub answered_one : (c : Chip) (r r' : Result Done Refusal) → answered c r ≡ answered c r' → r ≡ r'
answered_one c (Ok d) (Ok d') e =
    λ i. Ok (record { chip = ap (λ (a : Answer). a.chip) e i; said = ap (λ (a : Answer). a.said) e i; ticks = ap (λ (a : Answer). a.ticks) e i })
answered_one c (Ok d) (Err b) e = absurd (eqb-false (number_of b) 0 (refused_by b) (sym (ap (λ (a : Answer). a.refusal) e)))
answered_one c (Err b) (Ok d) e = absurd (eqb-false (number_of b) 0 (refused_by b) (ap (λ (a : Answer). a.refusal) e))
answered_one c (Err b) (Err b') e = ap Err (sym (by_number b) ∙ ap (λ (a : Answer). refusal_by a.refusal) e ∙ by_number b')

-- a body in its range, or 0 for a kind that has none, is at most 65,535
pub used_small : (kind body : ℕ) → in_range kind body ≡ true → body_used kind body ≤ 65535
unfolding body_used
used_small kind body h =
    cond_either (λ (n : ℕ). n ≤ 65535) (eqb (body_length kind) 0) 0 body (λ _. omega arith)
    (λ some. ⊎_elim (λ none. absurd (eqb-false _ _ some none)) (λ small. small) (range_small kind body h))

-- what an event does, from the number of sectors and the body that are used for it
pub happens-as : (c : Chip) (m area : List ℕ) (kind body S used : ℕ) → S ≡ sectors_in (length m) → used ≡ body_used kind body → applied (setting S area) c m kind used ≡ happens c m area kind body
unfolding happens
happens-as c m area kind body S used e u = rw (e, u)

-- ---- what an event says

exchange-sort : (T : Setting) (k : Core) (f : Frame) (load m : List ℕ) (b : ℕ) → sort_of (exchanged T k f load m b).said ≡ Says.line
exchange-sort T k f load m b =
    exchanged-each T k f load m b (λ (e : Exchange). sort_of e.said ≡ Says.line) (λ _. refl) (λ _ _. refl) (λ _. refl)
    (λ _. taken-each T k f load m b (λ (e : Exchange). sort_of e.said ≡ Says.line) (λ _. refl) (λ _. refl) (λ _. refl) (λ _. refl) refl (λ _. refl) (λ _. refl))

-- whatever the verdict, it is one that is said
record_sort : (S : ℕ) (k : Core) (v : ℕ) → sort_of (record_of S k v) ≡ Says.verdict
unfolding record_of
record_sort S k v = cond_either (λ (r : Record). sort_of r ≡ Says.verdict) (eqb v 9) _ _ (λ _. at (protected_sectors k.level k.tb S)) (λ _. refl)
  where
    at : (range : Protected) → sort_of (in_the_way range) ≡ Says.verdict
    at None = refl
    at (Some ends) = refl

deselect-sort : (T : Setting) (c : Chip) (m : List ℕ) (loose : Bool) → sort_of (deselect T c m loose).said ≡ Says.verdict
deselect-sort T c m loose = cond_either (λ (o : Outcome). sort_of o.said ≡ Says.verdict) c.frame.selected _ _ (λ _. record_sort T.sectors c.core _) (λ _. refl)

-- an event says what the table has for its kind; of what is no kind that is nothing
pub says-its_kind : (T : Setting) (c : Chip) (m : List ℕ) (kind body : ℕ) → sort_of (applied T c m kind body).said ≡ says_of kind
unfolding kind_row kind_row_in
says-its_kind T c m kind body =
    applied-each T c m kind body (λ (o : Outcome). sort_of o.said ≡ says_of kind)
    (λ e. sym (ap says_of e))
    (λ e. exchange-sort T c.core c.frame c.load m (body % 256) ∙ sym (ap says_of e))
    (λ e. deselect-sort T c m (ltb 0 body) ∙ sym (ap says_of e))
    (λ e. sym (ap says_of e))
    (λ e. sym (ap says_of e))
    (λ e. sym (ap says_of e))
    (λ e. sym (ap says_of e))
    (λ none. sym (unknown_silent kind none))

-- and the table gives it room
sort_room : (kind : ℕ) (r : Record) → sort_of r ≡ says_of kind → length (record_bytes r) ≤ room_of kind
unfolding kind_row kind_row_in
sort_room kind r =
    kind_each (λ kind. sort_of r ≡ says_of kind → length (record_bytes r) ≤ room_of kind)
    (silent r) (line r) (λ _. record_bytes-most r) (silent r) (silent r) (silent r) (silent r) (silent r)
    (λ kind none e. subst (λ (w : KindRow). length (record_bytes r) ≤ w.room) (sym none) (silent r (e ∙ ap (λ (w : KindRow). w.says) none))) kind
  where
    is_verdict : Says → Bool
    is_verdict Says.silent = false
    is_verdict Says.line = false
    is_verdict Says.verdict = true

    silent : (r : Record) → sort_of r ≡ Says.silent → length (record_bytes r) ≤ 0
    silent Nothing e = omega arith
    silent Floating e = absurd (false≢true (sym (ap is_said e)))
    silent (Driven b) e = absurd (false≢true (sym (ap is_said e)))
    silent (Verdict v) e = absurd (false≢true (sym (ap is_said e)))
    silent (InTheWay first last) e = absurd (false≢true (sym (ap is_said e)))

    line : (r : Record) → sort_of r ≡ Says.line → length (record_bytes r) ≤ 2
    line Nothing e = omega arith
    line Floating e = omega arith
    line (Driven b) e = omega arith
    line (Verdict v) e = absurd (false≢true (sym (ap is_verdict e)))
    line (InTheWay first last) e = absurd (false≢true (sym (ap is_verdict e)))

pub said_room : (T : Setting) (c : Chip) (m : List ℕ) (kind body : ℕ) → length (record_bytes (applied T c m kind body).said) ≤ room_of kind
said_room T c m kind body = sort_room kind (applied T c m kind body).said (says-its_kind T c m kind body)
