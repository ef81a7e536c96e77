-- What is true of stretches: one event is one, two that follow on each other are one, and so are a row of cells and a whole frame that reads.
use Rattle.std.specs.Prelude.{ℕ, ◌+◌, ◌<◌, ◌≤◌, true, false, List, [], ◌++◌, ◌≡◌, refl, length, get_or}
use Rattle.std.proofs.Common.{append-nil, append_assoc, sym, ap, subst, ◌∙◌, add-zero, arith, length-append}
use Rattle.part.specs.Part.{permitted, sectors_in, Setting, length_of}
use Rattle.part.proofs.Laws.{permitted-whole, permitted-length, permitted-some}
use Rattle.kinds.specs.Kinds.{SELECT, EXCHANGE, room_of, says_of, kind_row, kind_row_in}
use Rattle.kinds.specs.Body.{body_at, next_at}
use Rattle.clock.specs.declared.Clock.{Clock}
use Rattle.chip.specs.declared.Chip.{Chip}
use Rattle.chip.specs.declared.Frame.{Frame}
use Rattle.chip.specs.declared.Record.{Record}
use Rattle.chip.specs.declared.Record.TheVariants.{Nothing}
use Rattle.chip.specs.Chip.{whole}
use Rattle.chip.specs.Record.{record_bytes}
use Rattle.event.specs.Event.{Outcome, outcome, select, settle_exchange, applied, sort_of}
use Rattle.event.proofs.Laws.{applied-select, applied-exchange, says-its_kind, said_room}
use Rattle.frame.specs.Frame.{exchange, exchanged}
use Rattle.script.specs.Script.{event_at, events_from, timed, first_bad}
use Rattle.script.specs.Run.{world, runs}
use Rattle.script.specs.Jobs.{tick_by_tick, stands, is_two, jobs}
use Rattle.script.specs.Watch.{ticking}
use Rattle.script.proofs.Laws.{select-next, exchange-body, exchange-next, clean-later, room-more, runs-more, clock_stays}
use Rattle.script.proofs.WatchLaws.{not-ticking, jobs-plain, jobs_stay, line-not_two}
use Rattle.script.specs.Heard.{Heard, Went, WholePart}

-- a part of a permitted length
pub whole_part : (S n : ℕ) → permitted n ≡ true → S ≡ sectors_in n → WholePart S n
whole_part S n p e =
    let cells : length_of S ≡ n = ap length_of e ∙ permitted-whole n p in
    record { sectors = cells; some = omega (arith, cells, e, permitted-some n p); most = permitted-length n p }

-- no event at all
pub heard-none : (T : Setting) (s m : List ℕ) (at : ℕ) (c : Chip) → at ≤ length s → Heard T s m at c at c []
heard-none T s m at c inside =
    record {
      same = λ k written ticks. ap (λ (w : List ℕ). runs T (timed k (events_from s at)) (world c m w ticks)) (sym (append-nil written));
      told = λ k f there. refl;
      core_same = refl;
      clean = λ k e. e;
      roomy = omega arith;
      onward = omega arith;
      inside = inside;
    }

-- one stretch and then another
pub heard-then : {T : Setting} {s m : List ℕ} {at at' at'' : ℕ} {c c' c'' : Chip} {said said' : List ℕ} → Heard T s m at c at' c' said → Heard T s m at' c' at'' c'' said' → Heard T s m at c at'' c'' (said ++ said')
heard-then {T} {s} {m} {at} {at'} {at''} {c} {c'} {c''} {said} {said'} a b =
    record {
      same = λ k written ticks.
          a.same k written ticks ∙ b.same k (written ++ said) ticks ∙ ap (λ (w : List ℕ). runs T (timed k (events_from s at'')) (world c'' m w ticks)) (append_assoc written said said');
      told = λ k f there. a.told k f there ∙ b.told k f (λ on. ap stands a.core_same ∙ there on);
      core_same = b.core_same ∙ a.core_same;
      clean = λ k e. b.clean k (a.clean k e);
      roomy = omega (arith, a.roomy, b.roomy, length-append said said');
      onward = omega (arith, a.onward, b.onward);
      inside = b.inside;
    }

-- the same, with its end said in other words
pub went_as : {T : Setting} {s m : List ℕ} {at : ℕ} {c : Chip} {out : List ℕ} {pos at' at'' : ℕ} {c' c'' : Chip} {out' : List ℕ} {pos' : ℕ} → at'' ≡ at' → c'' ≡ c'
    → Went T s m at c out pos at' c' out' pos' → Went T s m at c out pos at'' c'' out' pos'
went_as {T} {s} {m} {at} {c} {out} {pos} {at'} {at''} {c'} {c''} {out'} {pos'} a e w =
    subst (λ (q : ℕ). Went T s m at c out pos q c'' out' pos') (sym a) (subst (λ (x : Chip). Went T s m at c out pos at' x out' pos') (sym e) w)

-- ---- one event

-- an event that is no tick, leaves the core and the cells, and begins no job
module _ (T : Setting) (s m : List ℕ) (at : ℕ) (c : Chip) (more : at < length s) (whole-event : next_at s at ≤ length s) (plain : ticking (get_or s at 0) ≡ false) where
  pub heard_event : (f : Frame) (load held : List ℕ) (said : Record) → is_two said ≡ false → outcome c.core f load held m said 0 ≡ applied T c m (get_or s at 0) (body_at s at)
      → Heard T s m at c (next_at s at) (whole c.core f load held) (record_bytes said)
  heard_event f load held said quiet e =
      let other = not-ticking (get_or s at 0) plain in
      let o : Outcome = applied T c m (get_or s at 0) (body_at s at) in
      record {
        same = λ k written ticks.
            runs-more T k s at (world c m written ticks) more other.not_stamp
            ∙ ap (λ (x : Outcome). runs T (timed k (events_from s (next_at s at))) (world x.chip x.memory (written ++ record_bytes x.said) (ticks + x.ticks))) (sym e)
            ∙ ap (λ (n : ℕ). runs T (timed k (events_from s (next_at s at))) (world (whole c.core f load held) m (written ++ record_bytes said) n)) (add-zero ticks);
        told = λ k g there.
            jobs-plain T g k s at c m more other
            ∙ jobs_stay T (event_at s at) _ c m other.not_one g there (ap (λ (x : Outcome). x.chip.core) (sym e)) (ap (λ (x : Outcome). is_two x.said) (sym e) ∙ quiet)
            ∙ ap (λ (x : Outcome). jobs T g (tick_by_tick (timed k (events_from s (next_at s at)))) x.chip x.memory) (sym e);
        core_same = refl;
        clean = λ k first. ap (λ (q : Clock). (first_bad q (events_from s (next_at s at))).number) (sym (clock_stays k (event_at s at) other.not_stamp)) ∙ clean-later k s at more first;
        roomy =
            let r : length (record_bytes o.said) ≤ room_of (get_or s at 0) = said_room T c m (get_or s at 0) (body_at s at) in
            let q : length (record_bytes said) ≡ length (record_bytes o.said) = ap (λ (x : Outcome). length (record_bytes x.said)) e in
            omega (arith, room-more s at more);
        onward = omega arith;
        inside = whole-event;
      }

-- a select opens the frame, and no more
pub heard-select : (T : Setting) (s m : List ℕ) (at : ℕ) (c : Chip) → at < length s → get_or s at 0 ≡ SELECT → Heard T s m at c (at + 1) (select c m).chip []
heard-select T s m at c more is =
    subst (λ (next : ℕ). Heard T s m at c next (select c m).chip []) (select-next s at is)
    (heard_event T s m at c more (omega (arith, select-next s at is)) (ap ticking is) _ _ _ Nothing refl (sym (applied-select T c m (get_or s at 0) (body_at s at) is)))

-- an exchange, whose byte stands behind its kind
pub heard-exchange : (T : Setting) (s m : List ℕ) (at : ℕ) (c : Chip) → at + 2 ≤ length s → get_or s at 0 ≡ EXCHANGE → get_or s (at + 1) 0 < 256 → (said : Record) (f : Frame) (load : List ℕ)
    → exchange said f load ≡ exchanged T c.core c.frame c.load m (get_or s (at + 1) 0) → Heard T s m at c (at + 2) (whole c.core f load c.held) (record_bytes said)
unfolding kind_row kind_row_in
heard-exchange T s m at c inside is byte said f load e =
    let does : outcome c.core f load c.held m said 0 ≡ applied T c m (get_or s at 0) (body_at s at) =
    ap (settle_exchange c m) e
    ∙ sym (applied-exchange T c m (get_or s at 0) (get_or s (at + 1) 0) is byte)
    ∙ ap (applied T c m (get_or s at 0)) (sym (exchange-body s at is)) in
    subst (λ (next : ℕ). Heard T s m at c next (whole c.core f load c.held) (record_bytes said)) (exchange-next s at is)
    (heard_event T s m at c (omega arith) (omega (arith, exchange-next s at is)) (ap ticking is) f load c.held said
    (line-not_two said (ap (λ (o : Outcome). sort_of o.said) does ∙ says-its_kind T c m (get_or s at 0) (body_at s at) ∙ ap says_of is)) does)
