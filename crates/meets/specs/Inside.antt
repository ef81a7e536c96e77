-- Events inside a frame, over the definitions: what each of them keeps, a row of them keeps; so a frame goes on byte by byte, and cells at rest stay.
use Prim.Native.Nat.{ℕ, ◌+◌}
use Rattle.std.specs.Prelude.{Bool, true, false, ◌≡◌, refl, eqb}
use Rattle.std.proofs.Math.Bool.{cond}
use Rattle.std.proofs.lemmas.Bool.{false≢true}
use mathlib.Core.List.{List, [], ◌∷◌}
use Rattle.std.proofs.Common.{sym, ap, ◌∙◌, add-zero, zero-add}
use Rattle.std.proofs.Math.Path.{subst}
use native.Mathlib.Omega.{arith}
use Rattle.part.specs.Part.{Setting}
use Rattle.chip.specs.declared.Chip.{Chip}
use Rattle.chip.specs.declared.Core.{Core}
use Rattle.chip.specs.declared.Frame.{Frame}
use Rattle.chip.specs.Fields.{with_selected}
use Rattle.chip.specs.Chip.{running}
use Rattle.job.proofs.Laws.{ticks-rest, ticks_memory-rest}
use Rattle.frame.specs.Frame.{exchanged}
use Rattle.event.specs.Event.{Outcome, select, exchange_byte, tick, set_wp, applied}
use Rattle.event.proofs.Laws.{applied-each}
use Rattle.script.specs.Script.{Event}
use Rattle.script.specs.Run.{World, onward, runs}
use Rattle.demands.specs.Model.{AllGood}
use Rattle.demands.specs.Demand2.{among, Inside, AllInside, bytes_of}

-- ---- one event

-- nothing is wrong with them
pub inside_good : (es : List Event) → AllInside es → AllGood es
unfolding AllInside AllGood
inside_good [] ok = ok
inside_good (e ∷ es) ok = (ok.0.0, inside_good es ok.1)

-- whether a kind is one of them
abbrev is_inside : ℕ → Bool
is_inside = among (0x01 ∷ 0x02 ∷ 0x04 ∷ 0x05 ∷ 0x06 ∷ [])

-- what holds of a select, of an exchange with its one byte, of ticks and of a WP level holds of an event inside a frame with its bytes
inside_each : (T : Setting) (c : Chip) (m : List ℕ) (e : Event) → Inside e → (P : ℕ → Outcome → Type 0)
    → P 0 (select c m) → ((b : ℕ) → P 1 (exchange_byte T c m b)) → ((n : ℕ) → P 0 (tick T c m n)) → ((b : ℕ) → P 0 (set_wp c m b))
    → P (cond (eqb e.kind 0x02) 1 0) (applied T c m e.kind e.body)
inside_each T c m e ok P selects bytes ticks levels =
    applied-each T c m e.kind e.body (P (cond (eqb e.kind 0x02) 1 0))
    (λ k. of k selects)
    (λ k. of k (bytes _))
    (λ k. outside k refl)
    (λ k. of k (ticks 1))
    (λ k. of k (ticks e.body))
    (λ k. of k (levels e.body))
    (λ k. outside k refl)
    (λ none. absurd (false≢true (sym none ∙ ok.0.0)))
  where
    of : {o : Outcome} {kind : ℕ} → e.kind ≡ kind → P (cond (eqb kind 0x02) 1 0) o → P (cond (eqb e.kind 0x02) 1 0) o
    of {o} k p = subst (λ (q : ℕ). P (cond (eqb q 0x02) 1 0) o) (sym k) p

    outside : {o : Outcome} {kind : ℕ} → e.kind ≡ kind → is_inside kind ≡ false → P (cond (eqb e.kind 0x02) 1 0) o
    outside k none = absurd (false≢true (sym none ∙ sym (ap is_inside k) ∙ ok.1))

-- ---- a row of events

-- a fact of chip and memory after j bytes that every event inside a frame keeps
pub record Keeps (T : Setting) (P : ℕ → Chip → List ℕ → Type 0) : Type 0 where
  pub at_select : (j : ℕ) (c : Chip) (m : List ℕ) → P j c m → P j (select c m).chip m
  pub at_byte : (j : ℕ) (c : Chip) (m : List ℕ) (b : ℕ) → P j c m → P (j + 1) (exchange_byte T c m b).chip m
  pub at_ticks : (j : ℕ) (c : Chip) (m : List ℕ) (n : ℕ) → P j c m → P j (tick T c m n).chip (tick T c m n).memory
  pub at_level : (j : ℕ) (c : Chip) (m : List ℕ) (b : ℕ) → P j c m → P j (set_wp c m b).chip m

module _ (T : Setting) (P : ℕ → Chip → List ℕ → Type 0) (keeps : Keeps T P) where
  -- one event keeps it, with the byte that it may exchange
  keeps_once : (e : Event) → Inside e → (j : ℕ) (w : World) → P j w.chip w.memory → P (j + cond (eqb e.kind 0x02) 1 0) (onward T e w).chip (onward T e w).memory
  keeps_once e ok j w p =
      inside_each T w.chip w.memory e ok (λ (n : ℕ) (o : Outcome). P (j + n) o.chip o.memory)
      (none (keeps.at_select j _ _ p)) (λ b. keeps.at_byte j _ _ b p) (λ n. none (keeps.at_ticks j _ _ n p)) (λ b. none (keeps.at_level j _ _ b p))
    where
      none : {c : Chip} {m : List ℕ} → P j c m → P (j + 0) c m
      none {c} {m} = subst (λ (n : ℕ). P n c m) (sym (add-zero j))

  -- a row does, from any number of bytes on
  keeps_on : (es : List Event) → AllInside es → (j : ℕ) (w : World) → P j w.chip w.memory → P (j + bytes_of es) (runs T es w).chip (runs T es w).memory
  unfolding runs bytes_of AllInside
  keeps_on [] ok j w p = subst (λ (n : ℕ). P n w.chip w.memory) (sym (add-zero j)) p
  keeps_on (e ∷ es) ok j w p =
      let count : ℕ = cond (eqb e.kind 0x02) 1 0 in
      let later : j + count + bytes_of es ≡ j + (count + bytes_of es) = omega arith in
      subst (λ (n : ℕ). P n (runs T es (onward T e w)).chip (runs T es (onward T e w)).memory) later (keeps_on es ok.1 (j + count) (onward T e w) (keeps_once e ok.0 j w p))

  -- A row of events inside a frame keeps it.
  pub keeps_along : (es : List Event) → AllInside es → (w : World) → P 0 w.chip w.memory → P (bytes_of es) (runs T es w).chip (runs T es w).memory
  keeps_along es ok w p = subst (λ (n : ℕ). P n (runs T es w).chip (runs T es w).memory) (zero-add (bytes_of es)) (keeps_on es ok 0 w p)

-- ---- the frame

-- a fact of an open frame after j bytes that the next byte carries on
pub record GoesOn (T : Setting) (F : ℕ → Frame → Type 0) : Type 0 where
  pub is_open : (j : ℕ) (f : Frame) → F j f → f.selected ≡ true
  pub next_byte : (j : ℕ) (k : Core) (f : Frame) (load m : List ℕ) (b : ℕ) → F j f → F (j + 1) (exchanged T k f load m b).frame

-- a select in an open frame changes nothing
select-same : (f : Frame) → f.selected ≡ true → with_selected true f ≡ f
select-same f h = λ i. with_selected (sym h i) f

-- It holds along every row of events inside the frame.
pub frame-along : (T : Setting) (F : ℕ → Frame → Type 0) → GoesOn T F → (es : List Event) → AllInside es → (w : World) → F 0 w.chip.frame → F (bytes_of es) (runs T es w).chip.frame
frame-along T F goes =
    keeps_along T (λ (j : ℕ) (c : Chip) (m : List ℕ). F j c.frame)
    (record {
      at_select = λ j c m p. subst (F j) (sym (select-same c.frame (goes.is_open j c.frame p))) p;
      at_byte = λ j c m b p. goes.next_byte j c.core c.frame c.load m b p;
      at_ticks = λ j c m n p. p;
      at_level = λ j c m b p. p;
    })

-- ---- the cells

-- Where no job runs, none begins inside a frame, and the cells stay.
pub cells_rest : (T : Setting) (es : List Event) → AllInside es → (w : World) → running w.chip.core ≡ false → (runs T es w).memory ≡ w.memory
cells_rest T es ok w rests =
    (keeps_along T (λ (j : ℕ) (c : Chip) (m : List ℕ). (running c.core ≡ false) × (m ≡ w.memory))
    (record {
      at_select = λ j c m p. p;
      at_byte = λ j c m b p. p;
      at_ticks = λ j c m n p. (ap running (ticks-rest T.sectors n c.core p.0) ∙ p.0, ticks_memory-rest T.sectors n c.core c.held m p.0 ∙ p.1);
      at_level = λ j c m b p. p;
    })
    es ok w (rests, refl)).1
