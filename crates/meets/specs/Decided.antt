-- The three demands decide a model: two models that meet them give the same answer to every event. So whoever believes the demands believes ours (`Meets`).
use Rattle.std.specs.Prelude.{ℕ, ◌+◌, ◌<◌, ◌≤◌, Bool, cond, ◌&&◌, ◌||◌, List, [], ◌∷◌, eqb, leb, length, get_or}
use Rattle.std.proofs.Math.Bool.{true, false, not}
use Rattle.std.proofs.Common.{true≢false, ap, subst, ◌∙◌, arith}
use Rattle.std.proofs.lemmas.Bool.{false≢true}
use Rattle.std.proofs.Math.Path.{◌≡◌, refl, sym}
use Rattle.std.proofs.Math.Decide.{ℕ_discrete, dec_lt}
use borrow.Author.Tests.{ne_eqb, leb-true, eqb-false, not-true}
use Rattle.cells.specs.Choice.{cond_yes, cond_no, means_holds, and_left, and_right}
use Rattle.part.specs.Part.{permitted}
use Rattle.commands.specs.Table.{Row}
use Rattle.commands.specs.Table.{rows, row_in, row_of}
use Rattle.chip.specs.declared.Chip.{Chip}
use Rattle.chip.specs.declared.Core.{Core}
use Rattle.chip.specs.declared.Frame.{Frame}
use Rattle.chip.specs.declared.Job.{Job}
use Rattle.chip.specs.Chip.{whole, running, bits_of}
use Rattle.chip.specs.Job.{is_job}
use Rattle.legal.specs.Legal.{judgement_known, legal}
use Rattle.legal.proofs.Legality.{chip-facts}
use Rattle.kinds.specs.Kinds.{known_kind, kind_row, kind_row_in, in_range}
use Rattle.kinds.proofs.Laws.{kind_each, none_known}
use Rattle.script.specs.Script.{Event}
use Rattle.script.specs.Run.{World, world}
use Rattle.demands.specs.Model.{Reply, Model, event, Good, AllGood, Fit, onward_by, runs_by, working_ticks, worked_by}
use Rattle.demands.specs.Demand1.{RefusedWhen, Demand1}
use Rattle.demands.specs.Moments.{gives, verdict-told}
use Rattle.demands.specs.Demand2.{Demand2, Test, first_of, among, begins_job, rules_list, verdict_of, says_verdict, Ending, After}
use Rattle.meets.specs.TickRules.{ticking-good}
use Rattle.demands.specs.Demand3.{Demand3, Ticking, one_tick_lem, many_ticks, AllSpare, NoneEnables, Spared, steps_of, Outlook}

-- a model that meets the three demands
pub record Meets (M : Model) : Type 0 where
  pub first : Demand1 M
  pub second : Demand2 M
  pub third : Demand3 M

-- ---- refusals

-- the table of refusals has one number for each event
one_number : (c : Chip) (n extent kind body r s : ℕ) → RefusedWhen r c n extent kind body → RefusedWhen s c n extent kind body → r ≡ s
one_number c n extent kind body r s p q = go (permitted n) (dec_lt 256 extent) (legal c n) (known_kind kind) (in_range kind body) refl refl refl refl
  where
    go : (part : Bool) → Dec (256 < extent) → (l k i : Bool) → permitted n ≡ part → legal c n ≡ l → known_kind kind ≡ k → in_range kind body ≡ i → r ≡ s
    go false d l k i a b e f = p.one.1 a ∙ sym (q.one.1 a)
    go true (yes long) l k i a b e f = p.thirteen.1 (a, long) ∙ sym (q.thirteen.1 (a, long))
    go true (no short) false k i a b e f = p.two.1 (a, omega arith, b) ∙ sym (q.two.1 (a, omega arith, b))
    go true (no short) true false i a b e f = p.five.1 (a, omega arith, b, e) ∙ sym (q.five.1 (a, omega arith, b, e))
    go true (no short) true true false a b e f = p.six.1 (a, omega arith, b, e, f) ∙ sym (q.six.1 (a, omega arith, b, e, f))
    go true (no short) true true true a b e f = p.none.1 (a, omega arith, b, e, f) ∙ sym (q.none.1 (a, omega arith, b, e, f))

-- ---- which commands get verdicts 1 and 2

-- a test that holds of the opcode of each row holds of every known opcode
abbrev pub every_row : (ℕ → Bool) → List (List ℕ) → Bool
every_row P [] = true
every_row P (r ∷ rs) = P (get_or r 0 0) && every_row P rs

pub known_test : (P : ℕ → Bool) (rs : List (List ℕ)) → every_row P rs ≡ true → (opcode : ℕ) → (row_in rs opcode).known ≡ true → P opcode ≡ true
unfolding row_in
known_test P [] every opcode known = absurd (false≢true known)
known_test P (r ∷ rs) every opcode known = go (λ h. known_test P rs (and_right (P (get_or r 0 0)) (every_row P rs) every) opcode h) (ℕ_discrete (get_or r 0 0) opcode)
  where
    go : ((row_in rs opcode).known ≡ true → P opcode ≡ true) → Dec (get_or r 0 0 ≡ opcode) → P opcode ≡ true
    go rest (yes e) = ap P (sym e) ∙ and_left (P (get_or r 0 0)) (every_row P rs) every
    go rest (no n) = rest (sym (ap (λ (row : Row). row.known) (cond_no (eqb (get_or r 0 0) opcode) _ _ (ne_eqb _ _ n))) ∙ known)

-- what holds of each of some numbers holds of a number that is among them
abbrev pub Each : (ℕ → Type 0) → List ℕ → Type 0
Each P [] = Unit {0}
Each P (y ∷ ys) = P y × Each P ys

pub among-each : (P : ℕ → Type 0) (ys : List ℕ) → Each P ys → (x : ℕ) → among ys x ≡ true → P x
among-each P [] each x is = absurd (false≢true is)
among-each P (y ∷ ys) each x is = go (λ h. among-each P ys each.1 x h) (ℕ_discrete x y)
  where
    go : (among ys x ≡ true → P x) → Dec (x ≡ y) → P x
    go rest (yes e) = subst P (sym e) each.0
    go rest (no n) = rest (sym (ap (λ (b : Bool). b || among ys x) (ne_eqb x y n)) ∙ is)

-- whether a number is none of some tests'
abbrev is_none_of : ℕ → List Test → Bool
is_none_of x [] = true
is_none_of x (t ∷ ts) = not (eqb t.number x) && is_none_of x ts

-- no test applies
abbrev NoneApply : List Test → Type 0
NoneApply [] = Unit {0}
NoneApply (t ∷ ts) = (t.applies ≡ false) × NoneApply ts

-- if the first that applies has a number that is none of theirs, none of them applies
none_apply : (x : ℕ) (ts : List Test) (otherwise : ℕ) → is_none_of x ts ≡ true → first_of ts otherwise ≡ x → NoneApply ts × (otherwise ≡ x)
none_apply x [] otherwise others is = (tt, is)
none_apply x (t ∷ ts) otherwise others is = go (λ h. none_apply x ts otherwise (and_right (not (eqb t.number x)) (is_none_of x ts) others) h) t.applies refl
  where
    another : t.number ≡ x → ⊥
    another = eqb-false t.number x (not-true (eqb t.number x) (and_left (not (eqb t.number x)) (is_none_of x ts) others))

    go : (first_of ts otherwise ≡ x → NoneApply ts × (otherwise ≡ x)) → (b : Bool) → t.applies ≡ b → NoneApply (t ∷ ts) × (otherwise ≡ x)
    go rest true e = absurd (another (sym (cond_yes t.applies t.number (first_of ts otherwise) e) ∙ is))
    go rest false e =
        let more = rest (sym (cond_no t.applies t.number (first_of ts otherwise) e) ∙ is) in
        ((e, more.0), more.1)

-- a list without its last
abbrev but_last : List Test → List Test
but_last [] = []
but_last (t ∷ []) = []
but_last (t ∷ (u ∷ ts)) = t ∷ but_last (u ∷ ts)

known_so : (b : Bool) → not b ≡ false → b ≡ true
known_so true e = refl
known_so false e = absurd (true≢false e)

-- a verdict that is neither 0 nor a judgement is the list's
listed-as : (n : ℕ) (k : Core) (f : Frame) (bits v : ℕ) → verdict_of n k f bits ≡ v → (0 ≡ v → ⊥) → (f.judgement ≡ v → ⊥) → first_of (rules_list n k f bits) 1 ≡ v
listed-as n k f bits v is some unjudged = go (eqb f.count 0) (eqb f.judgement 0) refl refl
  where
    go : (z j : Bool) → eqb f.count 0 ≡ z → eqb f.judgement 0 ≡ j → first_of (rules_list n k f bits) 1 ≡ v
    go true j e g = absurd (some (sym (cond_yes (eqb f.count 0) _ _ e) ∙ is))
    go false false e g = absurd (unjudged (sym (cond_no (eqb f.count 0) _ _ e ∙ cond_yes (not (eqb f.judgement 0)) _ _ (ap not g)) ∙ is))
    go false true e g = sym (cond_no (eqb f.count 0) _ _ e ∙ cond_no (not (eqb f.judgement 0)) _ _ (ap not g)) ∙ is

-- ---- two models

module _ (M N : Model) (p : Meets M) (q : Meets N) (c : Chip) (m area : List ℕ) where
  -- ---- a deselect

  module _ (fit : Fit c m area) (bits : ℕ) (selected : c.frame.selected ≡ true) (few : bits ≤ 7) where
    abbrev f : Frame
    f = c.frame

    abbrev v : ℕ
    v = verdict_of (length m) c.core f bits

    abbrev e : Ending c m area bits
    e = record { fit = fit; selected = selected; few = few }

    abbrev x : Reply
    x = M c m area 0x03 bits

    abbrev y : Reply
    y = N c m area 0x03 bits

    -- the two leave the same core and the same load of the job
    abbrev Acts : Type 0
    Acts = (x.chip.core ≡ y.chip.core) × (x.chip.held ≡ y.chip.held)

    -- both say the verdict
    says_x : (u : ℕ) → v ≡ u → x.says ≡ says_verdict (length m) c.core u
    says_x u = gives M u p.second c m area bits e

    says_y : (u : ℕ) → v ≡ u → y.says ≡ says_verdict (length m) c.core u
    says_y u = gives N u q.second c m area bits e

    -- 82h and another number are not said of it
    not_said : (z : Reply) (u : ℕ) → z.says ≡ says_verdict (length m) c.core v → (v ≡ u → ⊥) → z.says ≡ 0x82 ∷ u ∷ [] → ⊥
    not_said z u says other told = other (verdict-told (length m) c.core v u (sym says ∙ told))

    -- what both are said to leave is the same
    same_act : {core : Core} {held : List ℕ} → (x.chip.core ≡ core) × (x.chip.held ≡ held) → (y.chip.core ≡ core) × (y.chip.held ≡ held) → Acts
    same_act a b = (a.0 ∙ sym b.0, a.1 ∙ sym b.1)

    judgement_not : (u : ℕ) → judgement_known u ≡ false → f.judgement ≡ u → ⊥
    judgement_not u other is = false≢true (sym other ∙ subst (λ (w : ℕ). judgement_known w ≡ true) is (chip-facts c (length m) fit.state_legal).frame_part.judgement_known_lem)

    -- a row that both meet, for the verdict that both say
    both : (u : ℕ) → eqb u 9 ≡ false → (opcode : ℕ) {core : Chip → List ℕ → Core} {held : Chip → List ℕ} → v ≡ u → After M u opcode core held → After N u opcode core held → f.opcode ≡ opcode → Acts
    both u plain opcode is a b of-it =
        let by_number : says_verdict (length m) c.core u ≡ 0x82 ∷ u ∷ [] = cond_no (eqb u 9) _ _ plain in
        same_act (a c m area bits e of-it (says_x u is ∙ by_number)) (b c m area bits e of-it (says_y u is ∙ by_number))

    abbrev reads : ℕ → Bool
    reads = among (0x05 ∷ 0x03 ∷ 0x0B ∷ 0x9F ∷ 0x5A ∷ [])

    -- the tests of the list but the last
    abbrev tests : List Test
    tests = but_last (rules_list (length m) c.core f bits)

    -- a verdict of 1 or 2 comes from the list, with none of these tests
    from_list : (u : ℕ) → v ≡ u → (0 ≡ u → ⊥) → judgement_known u ≡ false → is_none_of u tests ≡ true → NoneApply tests × (◌≡◌ {A = ℕ} (cond (begins_job f.opcode) 2 1) u)
    from_list u is some unjudged others = none_apply u tests (cond (begins_job f.opcode) 2 1) others (listed-as (length m) c.core f bits u is some (judgement_not u unjudged))

    -- the commands that are done at once, and those that begin a job
    abbrev at_once : List ℕ
    at_once = 0x06 ∷ 0x04 ∷ 0xB0 ∷ 0x30 ∷ 0xAB ∷ 0xB9 ∷ 0x66 ∷ 0x99 ∷ []

    abbrev jobs : List ℕ
    jobs = 0x01 ∷ 0x02 ∷ 0x0A ∷ 0x20 ∷ 0xD7 ∷ 0xD8 ∷ 0x60 ∷ 0xC7 ∷ []

    -- verdict 1: a known opcode that is no read and no job's
    done : v ≡ 1 → Acts
    unfolding row_of
    done one =
        let off = from_list 1 one (λ z. omega arith) refl refl in
        let a = p.second.done_at_once in
        let b = q.second.done_at_once in
        let no_job_lem : begins_job f.opcode ≡ false = never (begins_job f.opcode) off.1 in
        let one_of : among at_once f.opcode ≡ true =
        third _ _ _ off.0.1.1.1.1.0 no_job_lem (known_test (λ o. reads o || (begins_job o || among at_once o)) rows refl f.opcode (known_so (row_of f.opcode).known off.0.0)) in
        among-each (λ opcode. f.opcode ≡ opcode → Acts) at_once (
          both 1 refl 0x06 one a.0 b.0,
          (
            both 1 refl 0x04 one a.1.0 b.1.0,
            (
              both 1 refl 0xB0 one a.1.1.0 b.1.1.0,
              (
                both 1 refl 0x30 one a.1.1.1.0 b.1.1.1.0,
                (
                  both 1 refl 0xAB one a.1.1.1.1.0 b.1.1.1.1.0,
                  (
                    both 1 refl 0xB9 one a.1.1.1.1.1.0 b.1.1.1.1.1.0,
                    (both 1 refl 0x66 one a.1.1.1.1.1.1.0 b.1.1.1.1.1.1.0, (both 1 refl 0x99 one a.1.1.1.1.1.1.1.0 b.1.1.1.1.1.1.1.0, tt)),
                  ),
                ),
              ),
            ),
          ),
        )
        f.opcode one_of refl
      where
        never : (b : Bool) → ◌≡◌ {A = ℕ} (cond b 2 1) 1 → b ≡ false
        never true z = absurd (omega arith)
        never false z = refl

        third : (a b c : Bool) → a ≡ false → b ≡ false → (a || (b || c)) ≡ true → c ≡ true
        third true b c h g e = absurd (true≢false h)
        third false true c h g e = absurd (true≢false g)
        third false false c h g e = e

    -- verdict 2: a known opcode that is a job's
    begun : v ≡ 2 → Acts
    unfolding row_of
    begun two =
        let off = from_list 2 two (λ z. omega arith) refl refl in
        let a = p.second.jobs_begun in
        let b = q.second.jobs_begun in
        let one_of : among jobs f.opcode ≡ true =
        means_holds (begins_job f.opcode) (among jobs f.opcode) (known_test (λ o. not (begins_job o) || among jobs o) rows refl f.opcode (known_so (row_of f.opcode).known off.0.0)) (always (begins_job f.opcode) off.1) in
        among-each (λ opcode. f.opcode ≡ opcode → Acts) jobs (
          both 2 refl 0x01 two a.0 b.0,
          (
            both 2 refl 0x02 two a.1.0 b.1.0,
            (
              both 2 refl 0x0A two a.1.1.0 b.1.1.0,
              (
                both 2 refl 0x20 two a.1.1.1.0 b.1.1.1.0,
                (
                  both 2 refl 0xD7 two a.1.1.1.1.0 b.1.1.1.1.0,
                  (
                    both 2 refl 0xD8 two a.1.1.1.1.1.0 b.1.1.1.1.1.0,
                    (both 2 refl 0x60 two a.1.1.1.1.1.1.0 b.1.1.1.1.1.1.0, (both 2 refl 0xC7 two a.1.1.1.1.1.1.1.0 b.1.1.1.1.1.1.1.0, tt)),
                  ),
                ),
              ),
            ),
          ),
        )
        f.opcode one_of refl
      where
        always : (b : Bool) → ◌≡◌ {A = ℕ} (cond b 2 1) 2 → b ≡ true
        always true z = refl
        always false z = absurd (omega arith)

    acts : Acts
    acts = go (ℕ_discrete v 1) (ℕ_discrete v 2)
      where
        go : Dec (v ≡ 1) → Dec (v ≡ 2) → Acts
        go (yes one) d = done one
        go (no one) (yes two) = begun two
        go (no one) (no two) =
            same_act (p.second.other_verdicts c m area bits e (not_said x 1 (says_x v refl) one) (not_said x 2 (says_x v refl) two))
            (q.second.other_verdicts c m area bits e (not_said y 1 (says_y v refl) one) (not_said y 2 (says_y v refl) two))

    -- a deselect of a frame
    deselects : x.refusal ≡ y.refusal → x ≡ y
    deselects refused =
        let a = p.second.closes c m area bits e in
        let b = q.second.closes c m area bits e in
        λ i.
        record {
          chip = whole (acts.0 i) ((a.frame_empty ∙ sym b.frame_empty) i) ((a.load_blank ∙ sym b.load_blank) i) (acts.1 i);
          memory = (a.cells_same ∙ sym b.cells_same) i;
          says = (a.says ∙ sym b.says) i;
          ticks = (a.works_none ∙ sym b.works_none) i;
          refusal = refused i;
        }

  -- ---- an exchange

  exchanges : Fit c m area → (b : ℕ) → b ≤ 255 → M c m area 0x02 b ≡ N c m area 0x02 b
  exchanges fit b small = go c.frame.selected (ℕ_discrete c.frame.count 0) refl
    where
      go : (s : Bool) → Dec (c.frame.count ≡ 0) → c.frame.selected ≡ s → M c m area 0x02 b ≡ N c m area 0x02 b
      go false d s = p.second.unselected_exchange c m area b fit small s ∙ sym (q.second.unselected_exchange c m area b fit small s)
      go true (yes none) s = p.second.opcode_byte c m area b fit small s none ∙ sym (q.second.opcode_byte c m area b fit small s none)
      go true (no some) s = p.second.later_byte c m area b fit small s some ∙ sym (q.second.later_byte c m area b fit small s some)

  -- ---- ticks

  module _ (fit : Fit c m area) (kind body n : ℕ) (ticking : Ticking kind body n) (refused : (M c m area kind body).refusal ≡ (N c m area kind body).refusal) where
    abbrev start-world : World
    start-world = world c m [] 0

    abbrev tick-event : Event
    tick-event = event kind body

    abbrev job : Job
    job = c.core.job

    -- the ticks that work, and the steps done then
    abbrev worked : ℕ
    worked = working_ticks start-world tick-event + 0

    good_ticks : Good tick-event
    good_ticks = ticking-good kind body n ticking

    no_power_cut : kind ≡ 0x07 → ⊥
    no_power_cut = go ticking
      where
        go : {kind body n : ℕ} → Ticking kind body n → kind ≡ 0x07 → ⊥
        go (one_tick_lem b) e = omega arith
        go (many_ticks t some most) e = omega arith

    -- what a model that meets the demands makes of a running job
    module _ (K : Model) (r : Meets K) (runs : running c.core ≡ true) where
      silent : {t : ℕ} → (K c m area kind body).says ≡ 0x82 ∷ t ∷ [] → ⊥
      silent e = absurd (omega (arith, ap (λ (says : List ℕ). length says) (sym (r.third.ticks_keep c m area kind body n fit ticking).says_nothing ∙ e)))

      spared : Spared K area job.kind job.start c.held job.done start-world (tick-event ∷ [])
      unfolding AllGood AllSpare
      spared =
          record {
            under_way = record { fit = fit; a_job = and_left (is_job job.kind) (not c.core.suspended) runs; job_is = refl; load_is = refl };
            good = (good_ticks, tt);
            spared = (record { no_power_cut = no_power_cut; no_reset = λ said _. silent said; begins_none = λ said. silent said }, tt);
          }

      lived : Outlook job.kind job.start c.held job.done worked start-world (onward_by K area tick-event start-world)
      unfolding runs_by worked_by
      lived = r.third.lives area job.kind job.start c.held job.done start-world (tick-event ∷ []) spared

      off : job.done + worked ≡ steps_of job.kind start-world → (K c m area kind body).chip.core.wen ≡ false
      unfolding runs_by worked_by NoneEnables
      off all = r.third.wen_off area job.kind job.start c.held job.done start-world (tick-event ∷ []) spared (λ said _. silent said, tt) all

    -- the two leave the same job, load, bits and WEN
    record SameJob : Type 0 where
      jobs : (M c m area kind body).chip.core.job ≡ (N c m area kind body).chip.core.job
      loads : (M c m area kind body).chip.held ≡ (N c m area kind body).chip.held
      bits : bits_of (M c m area kind body).chip.core ≡ bits_of (N c m area kind body).chip.core
      wens : (M c m area kind body).chip.core.wen ≡ (N c m area kind body).chip.core.wen

    same_job : running c.core ≡ true → SameJob
    same_job runs = go (dec_lt (job.done + worked) (steps_of job.kind start-world))
      where
        go : Dec (job.done + worked < steps_of job.kind start-world) → SameJob
        go (yes left) =
            record {
              jobs = ((lived M p runs).stands left).0 ∙ sym ((lived N q runs).stands left).0;
              loads = ((lived M p runs).stands left).1 ∙ sym ((lived N q runs).stands left).1;
              bits = ((lived M p runs).bits_stay left).0 ∙ sym ((lived N q runs).bits_stay left).0;
              wens = ((lived M p runs).bits_stay left).1 ∙ sym ((lived N q runs).bits_stay left).1;
            }
        go (no none) =
            let all : job.done + worked ≡ steps_of job.kind start-world = omega (arith, (lived M p runs).no_more) in
            record {
              jobs = (lived M p runs).gone_when.1 all ∙ sym ((lived N q runs).gone_when.1 all);
              loads = ((lived M p runs).bits_set all).1 ∙ sym ((lived N q runs).bits_set all).1;
              bits = ((lived M p runs).bits_set all).0 ∙ sym ((lived N q runs).bits_set all).0;
              wens = off M p runs all ∙ sym (off N q runs all);
            }

    work : running c.core ≡ true → M c m area kind body ≡ N c m area kind body
    work runs =
        let s : SameJob = same_job runs in
        let a = p.third.ticks_keep c m area kind body n fit ticking in
        let b = q.third.ticks_keep c m area kind body n fit ticking in
        let count = p.third.counts area tick-event start-world fit good_ticks ∙ sym (q.third.counts area tick-event start-world fit good_ticks) in
        λ i.
        record {
          chip =
              whole
              (record {
                level = (s.bits i).level;
                tb = (s.bits i).tb;
                srwp = (s.bits i).srwp;
                wen = s.wens i;
                suspended = (a.suspended_is ∙ sym b.suspended_is) i;
                waiting = (a.wait_over ∙ sym b.wait_over) i;
                wp = (a.wp_same ∙ sym b.wp_same) i;
                deep = (a.deep_same ∙ sym b.deep_same) i;
                armed = (a.armed_same ∙ sym b.armed_same) i;
                job = s.jobs i;
              })
              ((a.frame_same ∙ sym b.frame_same) i) ((a.load_same ∙ sym b.load_same) i) (s.loads i);
          memory = ((lived M p runs).memory_is ∙ sym (lived N q runs).memory_is) i;
          says = (a.says_nothing ∙ sym b.says_nothing) i;
          ticks = count i;
          refusal = refused i;
        }

    ticks_same : M c m area kind body ≡ N c m area kind body
    ticks_same = go (running c.core) refl
      where
        go : (r : Bool) → running c.core ≡ r → M c m area kind body ≡ N c m area kind body
        go true r = work r
        go false r = p.third.idle_ticks c m area kind body n fit ticking r ∙ sym (q.third.idle_ticks c m area kind body n fit ticking r)

  -- ---- every event

  module _ (fit : Fit c m area) where
    refusals_same : (kind body : ℕ) → (M c m area kind body).refusal ≡ (N c m area kind body).refusal
    refusals_same kind body = one_number c (length m) (length area) kind body _ _ (p.first.numbers c m area kind body) (q.first.numbers c m area kind body)

    closes_same : (bits : ℕ) → bits ≤ 7 → M c m area 0x03 bits ≡ N c m area 0x03 bits
    closes_same bits few = go c.frame.selected refl
      where
        go : (s : Bool) → c.frame.selected ≡ s → M c m area 0x03 bits ≡ N c m area 0x03 bits
        go true s = deselects fit bits s few (refusals_same 0x03 bits)
        go false s = p.second.unselected_deselect c m area bits fit few s ∙ sym (q.second.unselected_deselect c m area bits fit few s)

    -- a good event, by its kind
    good_same : (kind : ℕ) → known_kind kind ≡ true → (body : ℕ) → in_range kind body ≡ true → M c m area kind body ≡ N c m area kind body
    unfolding known_kind kind_row kind_row_in
    good_same =
        kind_each (λ kind. known_kind kind ≡ true → (body : ℕ) → in_range kind body ≡ true → M c m area kind body ≡ N c m area kind body)
        (λ _ body _. p.second.selects c m area body fit ∙ sym (q.second.selects c m area body fit))
        (λ _ body i. exchanges fit body (leb-true body 255 (and_right (leb 0 body) (leb body 255) i)))
        (λ _ bits i. closes_same bits (leb-true bits 7 (and_right (leb 0 bits) (leb bits 7) i)))
        (λ _ body _. ticks_same fit 0x04 body 1 (one_tick_lem body) (refusals_same 0x04 body))
        (λ _ body i. ticks_same fit 0x05 body body (many_ticks body (leb-true 1 body (and_left (leb 1 body) (leb body 65535) i)) (leb-true body 65535 (and_right (leb 1 body) (leb body 65535) i))) (refusals_same 0x05 body))
        (λ _ body i. let small : body ≤ 1 = leb-true body 1 (and_right (leb 0 body) (leb body 1) i) in p.second.levels c m area body fit small ∙ sym (q.second.levels c m area body fit small))
        (λ _ body _. p.second.power_cut c m area body fit ∙ sym (q.second.power_cut c m area body fit))
        (λ known body i. absurd (false≢true known))
        (λ kind none known body i. absurd (false≢true (sym (none_known none) ∙ known)))

  -- The demands leave no choice: whatever the event, the two models answer the same.
  pub decided : (kind body : ℕ) → M c m area kind body ≡ N c m area kind body
  decided kind body = go (ℕ_discrete (M c m area kind body).refusal 0)
    where
      same : (M c m area kind body).refusal ≡ (N c m area kind body).refusal
      same = one_number c (length m) (length area) kind body _ _ (p.first.numbers c m area kind body) (q.first.numbers c m area kind body)

      go : Dec ((M c m area kind body).refusal ≡ 0) → M c m area kind body ≡ N c m area kind body
      go (no refused) =
          p.first.refused_keeps c m area kind body refused
          ∙ ap (λ (number : ℕ). record { chip = c; memory = m; says = []; ticks = 0; refusal = number }) same
          ∙ sym (q.first.refused_keeps c m area kind body (λ z. refused (same ∙ z)))
      go (yes done) =
          let why = (p.first.numbers c m area kind body).none.0 done in
          good_same (record { state_legal = why.2; area_short = why.1 }) kind why.3 body why.4
