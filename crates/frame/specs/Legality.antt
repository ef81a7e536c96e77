-- A legal frame stays legal under an exchange.
use Rattle.std.specs.Prelude.{ℕ, ◌+◌, ◌<◌, ◌≤◌, ◌^◌, Bool, true, false, cond, not, ◌&&◌, ◌||◌, List, ◌≡◌, refl, eqb, ltb, leb, get_or, set}
use Rattle.std.proofs.lemmas.Bool.{false≢true, eqb-false, not-true, not-false}
use Rattle.std.proofs.Common.{sym, ap, subst, mod-lt, arith, eqb-true, eq-eqb, ne_eqb, ltb-true}
use Rattle.cells.specs.Choice.{cond_either, cond_yes, cond_no, and_left, and_right}
use Rattle.part.specs.Part.{Setting, length_of, reduced, jedec_byte, jedec_cycle, device_byte}
use Rattle.part.specs.Area.{area_places, area_byte}
use Rattle.commands.specs.Table.{row_of, read_status, jedec_id, wake, read_sfdp}
use Rattle.chip.specs.declared.Core.{Core}
use Rattle.chip.specs.declared.Frame.{Frame}
use Rattle.chip.specs.declared.Record.TheVariants.{Floating, Driven}
use Rattle.chip.specs.Chip.{running, status_byte}
use Rattle.legal.specs.Legal.{judgement_known, read_places, is_empty, is_blank, tidy}
use Rattle.legal.proofs.Legality.{LegalFrame, unbegun_empty}
use Rattle.frame.specs.Frame.{judge, counted, shifted, next_place, opened, counting, reading, loading, first_place, addressing, reads_cell, takes_data, reads_area, Exchange, exchange, taken, exchanged}
use Rattle.frame.specs.Laws.{cell_each}

-- ---- a judgement is none, 3, 5, 6 or 7

pub judge-known : (k : Core) (opcode : ℕ) → judgement_known (judge k opcode) ≡ true
unfolding judge
judge-known k opcode =
    cond_either (λ (v : ℕ). judgement_known v ≡ true) (not (row_of opcode).known) _ _ (λ _. refl)
    (λ _. cond_either (λ (v : ℕ). judgement_known v ≡ true) (k.deep && not (eqb opcode wake)) _ _ (λ _. refl)
    (λ _. cond_either (λ (v : ℕ). judgement_known v ≡ true) (running k && not (row_of opcode).running) _ _ (λ _. refl)
    (λ _. cond_either (λ (v : ℕ). judgement_known v ≡ true) (k.suspended && not (row_of opcode).suspended) _ _ (λ _. refl) (λ _. refl))))

-- ---- numbers

counted-small : (n : ℕ) → counted n ≤ 6
counted-small n = cond_either (λ (q : ℕ). q ≤ 6) (ltb n 6) _ _ (λ e. omega (arith, ltb-true n 6 e)) (λ _. omega arith)

counted-some : (n : ℕ) → counted n ≡ 0 → ⊥
counted-some n = cond_either (λ (q : ℕ). q ≡ 0 → ⊥) (ltb n 6) _ _ (λ e z. omega arith) (λ _ z. omega arith)

next_place-inside : (n place : ℕ) → 0 < n → next_place n place < n
next_place-inside n place h = cond_either (λ (q : ℕ). q < n) (ltb (place + 1) n) _ _ (λ e. ltb-true _ _ e) (λ _. h)

shifted-small : (address b : ℕ) → b < 256 → shifted address b < 2 ^ 24
shifted-small address b h = omega arith

read_places-some : (S opcode : ℕ) → 1 ≤ S → 0 < read_places S opcode
read_places-some S opcode h =
    cond_either (λ (q : ℕ). 0 < q) (eqb opcode jedec_id) _ _ (λ _. omega arith)
    (λ _. cond_either (λ (q : ℕ). 0 < q) (eqb opcode read_sfdp) _ _ (λ _. omega arith) (λ _. omega arith))

-- a read of cells has the cells for its places
cells-places : (S : ℕ) (f : Frame) → reads_cell f ≡ true → read_places S f.opcode ≡ length_of S
cells-places S f h = cell_each (λ (opcode : ℕ). read_places S opcode ≡ length_of S) refl refl f h

-- a read of the area has the places of 5Ah
area_places_lem : (S : ℕ) (f : Frame) → reads_area f ≡ true → read_places S f.opcode ≡ area_places
area_places_lem S f h = ap (λ (opcode : ℕ). read_places S opcode) (eqb-true f.opcode read_sfdp (and_left (eqb f.opcode read_sfdp) (leb 5 f.count) h))

-- an address sets a place that there is
first_place-inside : (S opcode address : ℕ) → 1 ≤ S → address < 2 ^ 24 → (opcode ≡ jedec_id → ⊥) → first_place S opcode address < read_places S opcode
first_place-inside S opcode address some small other = subst (λ (q : ℕ). first_place S opcode address < q) (sym (cond_no (eqb opcode jedec_id) _ _ (ne_eqb _ _ other))) (go (eqb opcode read_sfdp))
  where
    go : (sfdp : Bool) → ◌<◌ (cond sfdp address (reduced S address)) (cond sfdp area_places (length_of S))
    go true = small
    go false = mod-lt address (omega (arith, some))

-- ---- the frame after a byte

module _ (S : ℕ) (some : 1 ≤ S) (f : Frame) (l : LegalFrame S f) where
  counting_legal : LegalFrame S (counting f)
  counting_legal =
      record { address_small = l.address_small; place_inside = l.place_inside; count_small = counted-small f.count; judgement_known_lem = l.judgement_known_lem }

  loading_legal : LegalFrame S (loading f)
  loading_legal =
      record { address_small = l.address_small; place_inside = l.place_inside; count_small = counted-small f.count; judgement_known_lem = l.judgement_known_lem }

  reading_legal : (places : ℕ) → read_places S f.opcode ≡ places → LegalFrame S (reading places f)
  reading_legal places e =
      record {
        address_small = l.address_small;
        place_inside =
            subst (λ (q : ℕ). next_place places f.place < q) (sym e)
            (next_place-inside places f.place (subst (λ (q : ℕ). 0 < q) e (read_places-some S f.opcode some)));
        count_small = counted-small f.count;
        judgement_known_lem = l.judgement_known_lem;
      }

  addressing_legal : (b : ℕ) → b < 256 → (f.opcode ≡ jedec_id → ⊥) → LegalFrame S (addressing S b f)
  addressing_legal b h other =
      record {
        address_small = cond_either (λ (q : ℕ). q < 2 ^ 24) (ltb f.count 4) _ _ (λ _. shifted-small f.address b h) (λ _. l.address_small);
        place_inside =
            cond_either (λ (q : ℕ). q < read_places S f.opcode) (eqb f.count 3) _ _
            (λ _. first_place-inside S f.opcode (shifted f.address b) some (shifted-small f.address b h) other)
            (λ _. l.place_inside);
        count_small = counted-small f.count;
        judgement_known_lem = l.judgement_known_lem;
      }

  opened_legal : (k : Core) (b : ℕ) → f.place ≡ 0 → LegalFrame S (opened k b f)
  opened_legal k b z =
      record {
        address_small = l.address_small;
        place_inside = subst (λ (q : ℕ). q < read_places S b) (sym z) (read_places-some S b some);
        count_small = counted-small f.count;
        judgement_known_lem = judge-known k b;
      }

-- ---- an exchange

-- what holds of each way that an exchange goes holds of the exchange
pub taken-each : (T : Setting) (k : Core) (f : Frame) (load m : List ℕ) (b : ℕ) (P : Exchange → Type 0)
    → (reads_cell f ≡ true → P (exchange (Driven (get_or m f.place 0)) (reading (length_of T.sectors) f) load))
    → (takes_data f ≡ true → P (exchange Floating (loading f) (set load f.slot b)))
    → (f.opcode ≡ read_status → P (exchange (Driven (status_byte k)) (counting f) load))
    → (f.opcode ≡ jedec_id → P (exchange (Driven (jedec_byte f.place)) (reading jedec_cycle f) load))
    → P (exchange (Driven device_byte) (counting f) load)
    → (reads_area f ≡ true → P (exchange (Driven (area_byte T.area f.place)) (reading area_places f) load))
    → ((f.opcode ≡ jedec_id → ⊥) → P (exchange Floating (addressing T.sectors b f) load))
    → P (taken T k f load m b)
unfolding taken
taken-each T k f load m b P p₁ p₂ p₃ p₄ p₅ p₆ p₇ =
    cond_either P (reads_cell f) _ _ p₁
    (λ _. cond_either P (takes_data f) _ _ p₂
    (λ _. cond_either P (eqb f.opcode read_status) _ _ (λ e. p₃ (eqb-true _ _ e))
    (λ _. cond_either P (eqb f.opcode jedec_id) _ _ (λ e. p₄ (eqb-true _ _ e))
    (λ e. cond_either P (eqb f.opcode wake && leb 4 f.count) _ _ (λ _. p₅)
    (λ _. cond_either P (reads_area f) _ _ p₆ (λ _. p₇ (eqb-false _ _ e)))))))

pub exchanged-each : (T : Setting) (k : Core) (f : Frame) (load m : List ℕ) (b : ℕ) (P : Exchange → Type 0)
    → (f.selected ≡ false → P (exchange Floating f load))
    → (f.selected ≡ true → f.count ≡ 0 → P (exchange Floating (opened k b f) load))
    → (f.selected ≡ true → P (exchange Floating (counting f) load))
    → (f.selected ≡ true → P (taken T k f load m b))
    → P (exchanged T k f load m b)
unfolding exchanged
exchanged-each T k f load m b P p₁ p₂ p₃ p₄ =
    cond_either P (not f.selected) _ _ (λ e. p₁ (not-true _ e))
    (λ s. cond_either P (eqb f.count 0) _ _ (λ e. p₂ (not-false _ s) (eqb-true _ _ e))
    (λ _. cond_either P (not (eqb f.judgement 0)) _ _ (λ _. p₃ (not-false _ s)) (λ _. p₄ (not-false _ s))))

-- the frame that an exchange leaves is legal, and empty with a blank load where no byte has come
pub record LegalExchange (S : ℕ) (e : Exchange) : Type 0 where
  pub frame_part : LegalFrame S e.frame
  pub tidy_part : tidy e.frame e.load ≡ true

-- a selected frame with a byte more is begun
begun-tidy : (f : Frame) (load : List ℕ) → f.selected ≡ true → (f.count ≡ 0 → ⊥) → tidy f load ≡ true
begun-tidy f load s c = go f.selected (eqb f.count 0) s (ne_eqb _ _ c)
  where
    go : (a z : Bool) → a ≡ true → z ≡ false → (a && not z || is_empty f && is_blank load) ≡ true
    go true false p q = refl
    go true true p q = absurd (false≢true (sym q))
    go false z p q = absurd (false≢true p)

empty_place : (f : Frame) → is_empty f ≡ true → f.place ≡ 0
unfolding is_empty
empty_place f h =
    eqb-true f.place 0
    (and_right (eqb f.opcode 0 && eqb f.address 0) (eqb f.place 0)
    (and_left (eqb f.opcode 0 && eqb f.address 0 && eqb f.place 0) (eqb f.slot 0)
    (and_left (eqb f.opcode 0 && eqb f.address 0 && eqb f.place 0 && eqb f.slot 0) (eqb f.count 0)
    (and_left (eqb f.opcode 0 && eqb f.address 0 && eqb f.place 0 && eqb f.slot 0 && eqb f.count 0) (eqb f.judgement 0) h))))

pub exchange-legal : (T : Setting) (k : Core) (f : Frame) (load m : List ℕ) (b : ℕ) → 1 ≤ T.sectors → b < 256 → LegalFrame T.sectors f → tidy f load ≡ true
    → LegalExchange T.sectors (exchanged T k f load m b)
exchange-legal T k f load m b some byte l t =
    exchanged-each T k f load m b (LegalExchange T.sectors)
    (λ _. record { frame_part = l; tidy_part = t })
    (λ s c. record { frame_part = opened_legal T.sectors some f l k b (empty_place f (unbegun_empty f load t c)); tidy_part = begun-tidy (opened k b f) load s (counted-some f.count) })
    (λ s. record { frame_part = counting_legal T.sectors some f l; tidy_part = begun-tidy (counting f) load s (counted-some f.count) })
    (λ s.
    taken-each T k f load m b (LegalExchange T.sectors)
    (λ e. record { frame_part = reading_legal T.sectors some f l (length_of T.sectors) (cells-places T.sectors f e); tidy_part = begun-tidy (reading (length_of T.sectors) f) load s (counted-some f.count) })
    (λ _. record { frame_part = loading_legal T.sectors some f l; tidy_part = begun-tidy (loading f) _ s (counted-some f.count) })
    (λ _. record { frame_part = counting_legal T.sectors some f l; tidy_part = begun-tidy (counting f) load s (counted-some f.count) })
    (λ e. record { frame_part = reading_legal T.sectors some f l jedec_cycle (cond_yes (eqb f.opcode jedec_id) _ _ (eq-eqb _ _ e)); tidy_part = begun-tidy (reading jedec_cycle f) load s (counted-some f.count) })
    (record { frame_part = counting_legal T.sectors some f l; tidy_part = begun-tidy (counting f) load s (counted-some f.count) })
    (λ e. record { frame_part = reading_legal T.sectors some f l area_places (area_places_lem T.sectors f e); tidy_part = begun-tidy (reading area_places f) load s (counted-some f.count) })
    (λ e. record { frame_part = addressing_legal T.sectors some f l b byte e; tidy_part = begun-tidy (addressing T.sectors b f) load s (counted-some f.count) }))
