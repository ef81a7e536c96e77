-- Our run with a margin report meets `Reporting`, and nothing else does: what that demand leaves open is nothing.
use Rattle.std.specs.Prelude.{ℕ, zero, suc, ◌+◌, ◌<◌, ◌≤◌, min, Bool, true, false, cond, not, ◌&&◌, ◌||◌, List, [], ◌∷◌, ◌≡◌, refl, ◌⊎◌, T, eqb, leb, ℤ, pos, negsuc, ◌-ℤ◌, ◌≤ℤ◌, length}
use Rattle.std.proofs.Common.{true≢false, sym, ap, subst, ◌∙◌, inl, inr, le_antisymm, le_trans, le_of_lt, arith, leb→le, le→leb, ltb→lt, leb-false}
use Rattle.std.proofs.lemmas.Bool.{false≢true}
use Rattle.std.proofs.Math.Decide.{ℕ_discrete}
use Rattle.std.specs.Int.Signed.{lt_z, ≤ℤ_refl, lt_z_no}
use Rattle.cells.specs.Choice.{not_so}
use Rattle.part.specs.Part.{setting_of}
use Rattle.chip.specs.declared.Chip.{Chip}
use Rattle.chip.specs.declared.JobKind.{JobKind}
use Rattle.chip.specs.declared.JobKind.TheVariants.{Idle, WriteStatus, Program, SmallErase, SectorErase, ChipErase}
use Rattle.margins.specs.declared.Allowances.{Allowances}
use Rattle.margins.specs.declared.Line.{Line}
use Rattle.margins.specs.declared.Report.{Report}
use Rattle.margins.specs.Margins.{allowed, allowance_of, margin, line, lesser, greater, most_jobs, joined, tidy_line, tidied, counted}
use Rattle.margins.specs.Laws.{joined-first, joined-later, tidy-empty, tidy-kept, allowed-each}
use Rattle.script.specs.Run as Run
use Rattle.script.proofs.Laws as ScriptLaws
use Rattle.script.specs.Jobs.{Finished, jobs_of}
use Rattle.script.specs.Report.{report_after}
use Rattle.script.proofs.ReportLaws as ReportLaws
use Rattle.demands.specs.Demand1.{RunReply, ran, our_run}
use Rattle.demands.specs.Reporting.{ReportReply, Reporter, our_report, place, allowance_at, line_at, Over, margins_at, OneOf, AtMostEach, AtLeastEach, LineIs, Counts, Reporting}
use Rattle.meets.specs.Refusals.{run_numbers_lem}

-- ---- the order of margins

-- two numbers, each at most the other, are one
≤ℤ-antisym : (a b : ℤ) → a ≤ℤ b → b ≤ℤ a → a ≡ b
≤ℤ-antisym (pos a) (pos b) p q = ap pos (le_antisymm (leb→le a b p.le) (leb→le b a q.le))
≤ℤ-antisym (pos a) (negsuc b) p q = absurd p.le
≤ℤ-antisym (negsuc a) (pos b) p q = absurd q.le
≤ℤ-antisym (negsuc a) (negsuc b) p q = ap negsuc (le_antisymm (leb→le a b q.le) (leb→le b a p.le))

-- at most goes on
≤ℤ-trans : (a b c : ℤ) → a ≤ℤ b → b ≤ℤ c → a ≤ℤ c
≤ℤ-trans (pos a) (pos b) (pos c) p q = record { le = le→leb a c (le_trans (leb→le a b p.le) (leb→le b c q.le)) }
≤ℤ-trans (pos a) (pos b) (negsuc c) p q = absurd q.le
≤ℤ-trans (pos a) (negsuc b) c p q = absurd p.le
≤ℤ-trans (negsuc a) b (pos c) p q = record { le = tt }
≤ℤ-trans (negsuc a) (pos b) (negsuc c) p q = absurd q.le
≤ℤ-trans (negsuc a) (negsuc b) (negsuc c) p q = record { le = le→leb c a (le_trans (leb→le c b q.le) (leb→le b a p.le)) }

-- what is less is at most
less_most : (a b : ℤ) → T (lt_z a b) → a ≤ℤ b
less_most (pos a) (pos b) t = record { le = le→leb a b (le_of_lt (ltb→lt a b t)) }
less_most (pos a) (negsuc b) t = absurd t
less_most (negsuc a) (pos b) t = record { le = tt }
less_most (negsuc a) (negsuc b) t = record { le = le→leb b a (le_of_lt (ltb→lt b a t)) }

-- the lesser of two is one of them, and at most both; the greater is one of them, and at least both
lesser-is : (x y : ℤ) → ((lesser x y ≡ y) ⊎ (lesser x y ≡ x)) × (lesser x y ≤ℤ y) × (lesser x y ≤ℤ x)
lesser-is x y = go (lt_z x y) (less_most x y) (λ t. lt_z_no t)
  where
    go : (b : Bool) → (T b → x ≤ℤ y) → (T (not b) → y ≤ℤ x) → ((cond b x y ≡ y) ⊎ (cond b x y ≡ x)) × (cond b x y ≤ℤ y) × (cond b x y ≤ℤ x)
    go true less more = (inr refl, less tt, ≤ℤ_refl x)
    go false less more = (inl refl, ≤ℤ_refl y, more tt)

greater-is : (x y : ℤ) → ((greater x y ≡ y) ⊎ (greater x y ≡ x)) × (y ≤ℤ greater x y) × (x ≤ℤ greater x y)
greater-is x y = go (lt_z x y) (less_most x y) (λ t. lt_z_no t)
  where
    go : (b : Bool) → (T b → x ≤ℤ y) → (T (not b) → y ≤ℤ x) → ((cond b y x ≡ y) ⊎ (cond b y x ≡ x)) × (y ≤ℤ cond b y x) × (x ≤ℤ cond b y x)
    go true less more = (inl refl, ≤ℤ_refl y, less tt)
    go false less more = (inr refl, more tt, ≤ℤ_refl x)

-- ---- one line

-- some margins more, one after the other
unfoldable joined_all : List ℤ → Line → Line
joined_all [] l = l
joined_all (x ∷ xs) l = joined_all xs (joined x l)

-- a line that had jobs before, with these margins more
record Later (old : Line) (margins : List ℤ) (new : Line) : Type 0 where
  count_is : new.count ≡ min (old.count + length margins) 4294967295
  smallest_is : OneOf new.smallest (old.smallest ∷ margins) × AtMostEach new.smallest (old.smallest ∷ margins)
  largest_is : OneOf new.largest (old.largest ∷ margins) × AtLeastEach new.largest (old.largest ∷ margins)

-- one of some numbers, the first of which is one of two, is one of those two and the rest
one_more : (z w x y : ℤ) (xs : List ℤ) → (w ≡ y) ⊎ (w ≡ x) → OneOf z (w ∷ xs) → OneOf z (y ∷ x ∷ xs)
unfolding OneOf
one_more z w x y xs (inl e) (inl p) = inl (p ∙ e)
one_more z w x y xs (inr e) (inl p) = inr (inl (p ∙ e))
one_more z w x y xs which (inr p) = inr (inr p)

-- the count of such a line goes on to its ceiling, and each end is over the old one and the margins
later : (ms : List ℤ) (l : Line) → 1 ≤ l.count → l.count ≤ 4294967295 → Later l ms (joined_all ms l)
unfolding joined_all OneOf AtMostEach AtLeastEach
later [] l some few = record { count_is = omega arith; smallest_is = (inl refl, (≤ℤ_refl _, tt)); largest_is = (inl refl, (≤ℤ_refl _, tt)) }
later (x ∷ xs) l some few =
    let new = line (min (l.count + 1) most_jobs) (lesser x l.smallest) (greater x l.largest) in
    let rest = later xs new (omega arith) (omega arith) in
    let least = lesser-is x l.smallest in
    let most = greater-is x l.largest in
    subst (λ (k : Line). Later l (x ∷ xs) (joined_all xs k)) (sym (joined-later x l (λ z. omega arith)))
    (record {
      count_is = rest.count_is ∙ omega arith;
      smallest_is = (
        one_more _ _ x l.smallest xs least.0 rest.smallest_is.0,
        (≤ℤ-trans _ _ _ rest.smallest_is.1.0 least.1, (≤ℤ-trans _ _ _ rest.smallest_is.1.0 least.2, rest.smallest_is.1.1)),
      );
      largest_is = (
        one_more _ _ x l.largest xs most.0 rest.largest_is.0,
        (≤ℤ-trans _ _ _ most.1 rest.largest_is.1.0, (≤ℤ-trans _ _ _ most.2 rest.largest_is.1.0, rest.largest_is.1.1)),
      );
    })

-- a line as it was handed in, tidied and with some margins more, is what the demand says
line-is : (l : Line) (ms : List ℤ) → l.count ≤ 4294967295 → LineIs l ms (joined_all ms (tidy_line l))
unfolding joined_all
line-is l ms few = go (ℕ_discrete l.count 0)
  where
    -- none before: the first margin is both ends, whatever stood there
    fresh : (ms : List ℤ) → l.count ≡ 0 → LineIs l ms (joined_all ms (line 0 (pos 0) (pos 0)))
    fresh [] none =
        record {
          count_is = omega arith;
          none_is = λ _ _. (refl, refl);
          first_smallest = λ _ some. absurd (omega arith);
          first_largest = λ _ some. absurd (omega arith);
          later_smallest = λ some. absurd (omega arith);
          later_largest = λ some. absurd (omega arith);
        }
    fresh (x ∷ xs) none =
        let rest = later xs (line 1 x x) (omega arith) (omega arith) in
        subst (λ (k : Line). LineIs l (x ∷ xs) (joined_all xs k)) (sym (joined-first x (line 0 (pos 0) (pos 0)) refl))
        (record {
          count_is = rest.count_is ∙ omega arith;
          none_is = λ _ empty. absurd (omega arith);
          first_smallest = λ _ _. rest.smallest_is;
          first_largest = λ _ _. rest.largest_is;
          later_smallest = λ some. absurd (omega arith);
          later_largest = λ some. absurd (omega arith);
        })

    go : Dec (l.count ≡ 0) → LineIs l ms (joined_all ms (tidy_line l))
    go (yes none) = subst (λ (k : Line). LineIs l ms (joined_all ms k)) (sym (tidy-empty l none)) (fresh ms none)
    go (no some) =
        let all = later ms l (omega arith) few in
        subst (λ (k : Line). LineIs l ms (joined_all ms k)) (sym (tidy-kept l some))
        (record {
          count_is = all.count_is;
          none_is = λ none _. absurd (some none);
          first_smallest = λ none _. absurd (some none);
          first_largest = λ none _. absurd (some none);
          later_smallest = λ _. all.smallest_is;
          later_largest = λ _. all.largest_is;
        })

-- ---- the five lines

-- what holds of 0 to 4 holds of each number below 5
below_five : (P : ℕ → Type 0) → P 0 → P 1 → P 2 → P 3 → P 4 → (k : ℕ) → k < 5 → P k
below_five P p₀ p₁ p₂ p₃ p₄ zero h = p₀
below_five P p₀ p₁ p₂ p₃ p₄ (suc zero) h = p₁
below_five P p₀ p₁ p₂ p₃ p₄ (suc (suc zero)) h = p₂
below_five P p₀ p₁ p₂ p₃ p₄ (suc (suc (suc zero))) h = p₃
below_five P p₀ p₁ p₂ p₃ p₄ (suc (suc (suc (suc zero)))) h = p₄
below_five P p₀ p₁ p₂ p₃ p₄ (suc (suc (suc (suc (suc k))))) h = absurd (omega arith)

-- each line of a tidied report is tidied
line-tidied : (r : Report) (k : ℕ) → k < 5 → line_at (tidied r) k ≡ tidy_line (line_at r k)
line-tidied r = below_five (λ k. line_at (tidied r) k ≡ tidy_line (line_at r k)) refl refl refl refl refl

-- one job more joins the line of its kind, and no other; further margins come behind it
abbrev Joins : Allowances → ℕ → Report → List ℤ → JobKind → ℕ → Type 0
Joins a used r ms kind k =
    joined_all ms (line_at (counted kind (margin (allowance_of kind a) used) r) k)
    ≡ joined_all (cond (eqb (place kind) k) ((pos (allowance_at a k) -ℤ pos used) ∷ ms) ms) (line_at r k)

line-counted : (a : Allowances) (used : ℕ) (r : Report) (ms : List ℤ) (kind : JobKind) (k : ℕ) → k < 5 → Joins a used r ms kind k
unfolding joined_all
line-counted a used r ms Idle = below_five (Joins a used r ms Idle) refl refl refl refl refl
line-counted a used r ms (WriteStatus value) = below_five (Joins a used r ms (WriteStatus value)) refl refl refl refl refl
line-counted a used r ms Program = below_five (Joins a used r ms Program) refl refl refl refl refl
line-counted a used r ms SmallErase = below_five (Joins a used r ms SmallErase) refl refl refl refl refl
line-counted a used r ms SectorErase = below_five (Joins a used r ms SectorErase) refl refl refl refl refl
line-counted a used r ms ChipErase = below_five (Joins a used r ms ChipErase) refl refl refl refl refl

-- each line after some jobs has the margins of its kind joined to it
line_after : (a : Allowances) (js : List Finished) (r : Report) (k : ℕ) → k < 5 → line_at (report_after a js r) k ≡ joined_all (margins_at (allowance_at a k) k js) (line_at r k)
unfolding report_after margins_at joined_all
line_after a [] r k h = refl
line_after a (j ∷ js) r k h = line_after a js _ k h ∙ line-counted a j.used r (margins_at (allowance_at a k) k js) j.kind k h

-- ---- allowances

-- five tests that do not all hold: one fails
one-fails : (a b c d e : Bool) → (a && b && c && d && e) ≡ false → (a ≡ false) ⊎ ((b ≡ false) ⊎ ((c ≡ false) ⊎ ((d ≡ false) ⊎ (e ≡ false))))
one-fails false b c d e h = inl refl
one-fails true false c d e h = inr (inl refl)
one-fails true true false d e h = inr (inr (inl refl))
one-fails true true true false e h = inr (inr (inr (inl refl)))
one-fails true true true true e h = inr (inr (inr (inr h)))

-- allowances that are not allowed have one over 1,000,000
refused_over : (a : Allowances) → allowed a ≡ false → Over a
unfolding allowed
refused_over a h = go (one-fails (leb a.status 1000000) (leb a.program 1000000) (leb a.small 1000000) (leb a.sector 1000000) (leb a.chip 1000000) h)
  where
    Fails : ℕ → Type 0
    Fails n = leb n 1000000 ≡ false

    go : Fails a.status ⊎ (Fails a.program ⊎ (Fails a.small ⊎ (Fails a.sector ⊎ Fails a.chip))) → Over a
    go (inl e) = inl (leb-false _ _ e)
    go (inr (inl e)) = inr (inl (leb-false _ _ e))
    go (inr (inr (inl e))) = inr (inr (inl (leb-false _ _ e)))
    go (inr (inr (inr (inl e)))) = inr (inr (inr (inl (leb-false _ _ e))))
    go (inr (inr (inr (inr e)))) = inr (inr (inr (inr (leb-false _ _ e))))

-- and where one is over they are not allowed
over_refused : (a : Allowances) → Over a → allowed a ≡ false
over_refused a over = not_so (allowed a) (λ t. go (allowed-each a t) over)
  where
    go : (a.status ≤ 1000000) × (a.program ≤ 1000000) × (a.small ≤ 1000000) × (a.sector ≤ 1000000) × (a.chip ≤ 1000000) → Over a → ⊥
    go each (inl h) = omega arith
    go each (inr (inl h)) = omega arith
    go each (inr (inr (inl h))) = omega arith
    go each (inr (inr (inr (inl h)))) = omega arith
    go each (inr (inr (inr (inr h)))) = omega arith

-- where none is over they are allowed
none_allowed : (a : Allowances) → (Over a → ⊥) → allowed a ≡ true
none_allowed a none = go (allowed a) refl
  where
    go : (b : Bool) → allowed a ≡ b → allowed a ≡ true
    go true e = e
    go false e = absurd (none (refused_over a e))

-- ---- ours meets the demand

-- the number in a plain run's answer is its refusal's
number_told : (c : Chip) (m area s out : List ℕ) → (our_run c m area s out).refusal ≡ (Run.refusal c (length m) (length area) s (length out)).number
number_told c m area s out = ScriptLaws.answer_number c m area s out

-- a plain run never has the number 18
never_18 : (c : Chip) (m area s out : List ℕ) → (our_run c m area s out).refusal ≡ 18 → ⊥
never_18 c m area s out e =
    false≢true
    (subst (λ (u : ℕ). (eqb 1 u || (eqb 13 u || (eqb 2 u || (eqb 3 u || ((eqb 5 u || (eqb 4 u || (eqb 6 u || (eqb 8 u || eqb 0 u)))) || eqb 7 u))))) ≡ true) (sym (number_told c m area s out) ∙ e)
    (run_numbers_lem c (length m) (length area) s (length out)))

module _ (a : Allowances) (r : Report) (c : Chip) (m area s out : List ℕ) where
  -- an allowance out of range: 18, and all is as it was
  keeps_18 : Over a
      → our_report a r c m area s out ≡ record { run = record { chip = c; memory = m; output = out; refusal = 18; offset = 0; written = 0; ticks = 0 }; report = r }
  keeps_18 over =
      let bad = over_refused a over in
      λ i.
      record {
        run = ran (ReportLaws.answer_18 a c m area s out bad i) (ReportLaws.memory_18 a c m area s out bad i) (ReportLaws.output_18 a c m area s out bad i);
        report = ReportLaws.report_18 a c m area s out bad r i;
      }

  -- otherwise the answer is the plain run's
  as_plain : allowed a ≡ true → (our_report a r c m area s out).run ≡ our_run c m area s out
  as_plain good i = ran (ReportLaws.answer_with_lem a c m area s out good i) (ReportLaws.memory_with_lem a c m area s out good i) (ReportLaws.output_with_lem a c m area s out good i)

  -- so 18 tells that an allowance is out of range
  why_18 : (our_report a r c m area s out).run.refusal ≡ 18 → Over a
  why_18 e = go (allowed a) refl
    where
      go : (b : Bool) → allowed a ≡ b → Over a
      go true good = absurd (never_18 c m area s out (ap (λ (q : RunReply). q.refusal) (sym (as_plain good)) ∙ e))
      go false bad = refused_over a bad

  -- done, each line is the old one with the margins of its kind
  line_done : allowed a ≡ true → (our_run c m area s out).refusal ≡ 0 → Counts r → (k : ℕ) → k < 5
      → LineIs (line_at r k) (margins_at (allowance_at a k) k (jobs_of (setting_of (length m) area) s c m)) (line_at (our_report a r c m area s out).report k)
  line_done good done counts k h =
      let js : List Finished = jobs_of (setting_of (length m) area) s c m in
      let ms : List ℤ = margins_at (allowance_at a k) k js in
      subst (LineIs (line_at r k) ms)
      (sym (ap (λ (x : Report). line_at x k) (ReportLaws.report_done a c m area s out good r (sym (number_told c m area s out) ∙ done)) ∙ line_after a js (tidied r) k h ∙ ap (joined_all ms) (line-tidied r k h)))
      (line-is (line_at r k) ms (counts.each k))

-- Our run with a report meets the demand, over our run.
pub meets_report : Reporting our_run our_report
meets_report =
    record {
      eighteen = λ a r c m area s out. (why_18 a r c m area s out, λ over. ap (λ (x : ReportReply). x.run.refusal) (keeps_18 a r c m area s out over));
      eighteen_keeps = keeps_18;
      same_answer = λ a r c m area s out none. as_plain a r c m area s out (none_allowed a none);
      refused_keeps = λ a r c m area s out none some. ReportLaws.report_refused a c m area s out (none_allowed a none) r (λ z. some (number_told c m area s out ∙ z));
      lines = λ a r c m area s out none. line_done a r c m area s out (none_allowed a none);
    }

-- ---- nothing else does

-- what is at most, or at least, each of some numbers is so of any one of them
most_one : (x y : ℤ) (zs : List ℤ) → AtMostEach x zs → OneOf y zs → x ≤ℤ y
unfolding AtMostEach OneOf
most_one x y [] all one = absurd one
most_one x y (z ∷ zs) all (inl e) = subst (λ (w : ℤ). x ≤ℤ w) (sym e) all.0
most_one x y (z ∷ zs) all (inr one) = most_one x y zs all.1 one

least_one : (x y : ℤ) (zs : List ℤ) → AtLeastEach x zs → OneOf y zs → y ≤ℤ x
unfolding AtLeastEach OneOf
least_one x y [] all one = absurd one
least_one x y (z ∷ zs) all (inl e) = subst (λ (w : ℤ). w ≤ℤ x) (sym e) all.0
least_one x y (z ∷ zs) all (inr one) = least_one x y zs all.1 one

-- some numbers have one smallest and one largest
one-smallest : {x y : ℤ} (zs : List ℤ) → OneOf x zs × AtMostEach x zs → OneOf y zs × AtMostEach y zs → x ≡ y
one-smallest zs p q = ≤ℤ-antisym _ _ (most_one _ _ zs p.1 q.0) (most_one _ _ zs q.1 p.0)

one-largest : {x y : ℤ} (zs : List ℤ) → OneOf x zs × AtLeastEach x zs → OneOf y zs × AtLeastEach y zs → x ≡ y
one-largest zs p q = ≤ℤ-antisym _ _ (least_one _ _ zs q.1 p.0) (least_one _ _ zs p.1 q.0)

-- one old line and the same margins come to one line
one_line : {old : Line} {ms : List ℤ} {x y : Line} → LineIs old ms x → LineIs old ms y → x ≡ y
one_line {old} {ms} {x} {y} p q =
    let ends = go (ℕ_discrete old.count 0) (ℕ_discrete (length ms) 0) in
    λ i. line ((p.count_is ∙ sym q.count_is) i) (ends.0 i) (ends.1 i)
  where
    go : Dec (old.count ≡ 0) → Dec (length ms ≡ 0) → (x.smallest ≡ y.smallest) × (x.largest ≡ y.largest)
    go (yes none) (yes empty) = ((p.none_is none empty).0 ∙ sym (q.none_is none empty).0, (p.none_is none empty).1 ∙ sym (q.none_is none empty).1)
    go (yes none) (no some) =
        let first : 1 ≤ length ms = omega arith in
        (one-smallest ms (p.first_smallest none first) (q.first_smallest none first), one-largest ms (p.first_largest none first) (q.first_largest none first))
    go (no some) _ =
        let later : 1 ≤ old.count = omega arith in
        (one-smallest (old.smallest ∷ ms) (p.later_smallest later) (q.later_smallest later), one-largest (old.largest ∷ ms) (p.later_largest later) (q.later_largest later))

-- Whatever reports over our run as the demand asks answers as ours, the report with it.
pub only-our_report : (P : Reporter) → Reporting our_run P → (a : Allowances) (r : Report) (c : Chip) (m area s out : List ℕ) → Counts r
    → P a r c m area s out ≡ our_report a r c m area s out
only-our_report P p a r c m area s out counts = go (allowed a) refl
  where
    same_report : (Over a → ⊥) → Dec ((our_run c m area s out).refusal ≡ 0) → (P a r c m area s out).report ≡ (our_report a r c m area s out).report
    same_report none (yes done) =
        let at : (k : ℕ) → k < 5 → line_at (P a r c m area s out).report k ≡ line_at (our_report a r c m area s out).report k =
        (λ k h. one_line (p.lines a r c m area s out none done counts k h) (meets_report.lines a r c m area s out none done counts k h)) in
        λ i. record { status = at 0 (omega arith) i; program = at 1 (omega arith) i; small = at 2 (omega arith) i; sector = at 3 (omega arith) i; chip = at 4 (omega arith) i }
    same_report none (no refused) = p.refused_keeps a r c m area s out none refused ∙ sym (meets_report.refused_keeps a r c m area s out none refused)

    go : (b : Bool) → allowed a ≡ b → P a r c m area s out ≡ our_report a r c m area s out
    go true good =
        let none : Over a → ⊥ = (λ over. true≢false (sym good ∙ over_refused a over)) in
        let plain : (P a r c m area s out).run ≡ (our_report a r c m area s out).run = p.same_answer a r c m area s out none ∙ sym (meets_report.same_answer a r c m area s out none) in
        let report : (P a r c m area s out).report ≡ (our_report a r c m area s out).report = same_report none (ℕ_discrete (our_run c m area s out).refusal 0) in
        λ i. record { run = plain i; report = report i }
    go false bad =
        let over = refused_over a bad in
        p.eighteen_keeps a r c m area s out over ∙ sym (meets_report.eighteen_keeps a r c m area s out over)
