-- What Demand 2 says of a frame's later bytes, of ours: each does what its row says.
use Rattle.std.specs.Prelude.{ℕ, ◌+◌, ◌%◌, ◌^◌, ◌<◌, ◌≤◌, min, Bool, true, false, cond, not, ◌&&◌, ◌||◌, List, [], ◌∷◌, ◌≡◌, refl, ltb, length, set}
use Rattle.std.proofs.Common.{sym, subst, ◌∙◌, arith, eq-eqb, ne_eqb, eqb-true, lt-ltb, le-ltb, le-leb}
use Rattle.std.proofs.Math.Path.{ap}
use Rattle.std.proofs.Math.Decide.{ℕ_discrete, dec_lt}
use Rattle.std.proofs.Math.Dec.{eqb, leb}
use Rattle.std.proofs.Math.ListN.{get_or}
use Rattle.std.proofs.lemmas.Bool.{lt-leb}
use Rattle.cells.specs.Choice.{cond_yes, cond_no, and_left}
use Rattle.part.specs.Part.{sectors_in, length_of, setting_of}
use Rattle.part.proofs.Laws.{permitted-whole}
use Rattle.commands.specs.Table.{is_program}
use Rattle.chip.specs.declared.Chip.{Chip}
use Rattle.chip.specs.declared.Frame.{Frame}
use Rattle.chip.specs.Fields.{with_address, with_place, with_slot, with_count}
use Rattle.chip.specs.Chip.{whole, status_byte}
use Rattle.chip.specs.Record.{record_bytes}
use Rattle.legal.specs.Legal.{read_places}
use Rattle.legal.proofs.Legality.{LegalChip, chip-facts}
use Rattle.frame.specs.Frame.{counted, next_place, counting, reading, first_place, addressing, Exchange, taken, exchanged}
use Rattle.frame.specs.Laws.{exchanged_judged, exchanged_taken}
use Rattle.demands.specs.Model.{Reply, reply, ours, Fit}
use Rattle.demands.specs.Demand2.{Byte, byte, longer, shifted_in, byte_done}
use Rattle.meets.specs.Reads.{next_place-mod}
use Rattle.meets.specs.EventRules.{exchange_as}

-- ---- choices

-- a chosen answer changes with its parts
cond_same : {A : Type 0} (t : Bool) (x x' y y' : A) → (t ≡ true → x ≡ x') → y ≡ y' → cond t x y ≡ cond t x' y'
cond_same true x x' y y' p q = p refl
cond_same false x x' y y' p q = q

-- two tests with one answer are one test
cond-or : {A : Type 0} (s t : Bool) (x y : A) → cond (s || t) x y ≡ cond s x (cond t x y)
cond-or true t x y = refl
cond-or false t x y = refl

-- an exchange of the definitions, as a byte's answer
abbrev heard : Exchange → Byte
heard e = byte (record_bytes e.said) e.frame e.load

heard-cond : (t : Bool) (x y : Exchange) → heard (cond t x y) ≡ cond t (heard x) (heard y)
heard-cond true x y = refl
heard-cond false x y = refl

-- ---- the rows

module _ (c : Chip) (m area : List ℕ) (b : ℕ) (fit : Fit c m area) where
  abbrev f : Frame
  f = c.frame

  abbrev load : List ℕ
  load = c.load

  abbrev n : ℕ
  n = length m

  abbrev S : ℕ
  S = sectors_in n

  facts : LegalChip c n
  facts = chip-facts c n fit.state_legal

  whole_sectors : length_of S ≡ n
  whole_sectors = permitted-whole n facts.length_permitted

  -- one byte more is counted
  one_more : counting f ≡ longer f
  one_more = ap (λ (x : ℕ). with_count x f) (go (dec_lt f.count 6))
    where
      go : Dec (f.count < 6) → counted f.count ≡ min 6 (f.count + 1)
      go (yes l) = cond_yes (ltb f.count 6) _ _ (lt-ltb _ _ l) ∙ omega arith
      go (no l) = cond_no (ltb f.count 6) _ _ (le-ltb f.count 6 (omega arith)) ∙ omega (arith, facts.frame_part.count_small)

  -- a read place goes up by one, round its number of places, of which there are as many as the opcode has
  next_place_lem : (opcode places : ℕ) → f.opcode ≡ opcode → read_places S opcode ≡ places → reading places f ≡ with_place ((f.place + 1) % places) (longer f)
  next_place_lem opcode places is many =
      let inside : f.place < places = subst (λ (q : ℕ). f.place < q) (ap (read_places S) is ∙ many) facts.frame_part.place_inside in
      ap (λ (g : Frame). with_place (next_place places f.place) g) one_more ∙ ap (λ (p : ℕ). with_place p (longer f)) (next_place-mod places f.place inside)

  -- a byte that is only counted, or goes into the address
  abbrev placed : Frame
  placed = with_address (shifted_in f b) (with_place (cond (eqb f.opcode 0x5A) (shifted_in f b) (shifted_in f b % n)) (with_slot b (longer f)))

  -- the frame that such a byte leaves, by what is known of the count
  abbrev addressed : Bool → Bool → Frame → ℕ → Frame
  addressed short last g p =
      with_address (cond short (shifted_in f b) f.address) (with_place (cond last p f.place) (with_slot (cond last b f.slot) g))

  address_row : addressing S b f ≡ cond (leb 4 f.count) (longer f) (cond (eqb f.count 3) placed (with_address (shifted_in f b) (longer f)))
  address_row =
      ap (λ (g : Frame). addressed (ltb f.count 4) (eqb f.count 3) g (first_place S f.opcode (shifted_in f b))) one_more
      ∙ ap (λ (q : ℕ). addressed (ltb f.count 4) (eqb f.count 3) (longer f) (cond (eqb f.opcode 0x5A) (shifted_in f b) (shifted_in f b % q))) whole_sectors
      ∙ go (dec_lt f.count 4) (ℕ_discrete f.count 3)
    where
      by : (short last long : Bool) → ltb f.count 4 ≡ short → eqb f.count 3 ≡ last → leb 4 f.count ≡ long
          → addressed short last (longer f) (cond (eqb f.opcode 0x5A) (shifted_in f b) (shifted_in f b % n)) ≡ cond long (longer f) (cond last placed (with_address (shifted_in f b) (longer f)))
          → addressed (ltb f.count 4) (eqb f.count 3) (longer f) (cond (eqb f.opcode 0x5A) (shifted_in f b) (shifted_in f b % n))
          ≡ cond (leb 4 f.count) (longer f) (cond (eqb f.count 3) placed (with_address (shifted_in f b) (longer f)))
      by short last long p q r e =
          ap (λ (x : Bool). addressed x (eqb f.count 3) (longer f) (cond (eqb f.opcode 0x5A) (shifted_in f b) (shifted_in f b % n))) p
          ∙ ap (λ (y : Bool). addressed short y (longer f) (cond (eqb f.opcode 0x5A) (shifted_in f b) (shifted_in f b % n))) q
          ∙ e
          ∙ ap (λ (y : Bool). cond long (longer f) (cond y placed (with_address (shifted_in f b) (longer f)))) (sym q)
          ∙ ap (λ (z : Bool). cond z (longer f) (cond (eqb f.count 3) placed (with_address (shifted_in f b) (longer f)))) (sym r)

      go : Dec (f.count < 4) → Dec (f.count ≡ 3)
          → addressed (ltb f.count 4) (eqb f.count 3) (longer f) (cond (eqb f.opcode 0x5A) (shifted_in f b) (shifted_in f b % n))
          ≡ cond (leb 4 f.count) (longer f) (cond (eqb f.count 3) placed (with_address (shifted_in f b) (longer f)))
      go (yes s) (yes e) = by true true false (lt-ltb _ _ s) (eq-eqb _ _ e) (lt-leb _ _ s) refl
      go (yes s) (no e) = by true false false (lt-ltb _ _ s) (ne_eqb _ _ e) (lt-leb _ _ s) refl
      go (no s) (yes e) = absurd (omega arith)
      go (no s) (no e) = by false false true (le-ltb f.count 4 (omega arith)) (ne_eqb _ _ e) (le-leb 4 f.count (omega arith)) refl

  -- the rows of a frame with judgement none
  abbrev cell : Byte
  cell = byte (0x81 ∷ get_or m f.place 0 ∷ []) (with_place ((f.place + 1) % n) (longer f)) load

  taken_rows : heard (taken (setting_of n area) c.core f load m b)
      ≡ cond (eqb f.opcode 0x03 && leb 4 f.count) cell
      (cond (eqb f.opcode 0x0B && leb 5 f.count) cell
      (cond ((eqb f.opcode 0x02 || eqb f.opcode 0x0A) && leb 4 f.count) (byte (0x80 ∷ []) (with_slot ((f.slot + 1) % 256) (longer f)) (set load f.slot b))
      (cond (eqb f.opcode 0x05) (byte (0x81 ∷ status_byte c.core ∷ []) (longer f) load)
      (cond (eqb f.opcode 0x9F) (byte (0x81 ∷ get_or (0x62 ∷ 0x16 ∷ 0x15 ∷ 0x00 ∷ []) f.place 0 ∷ []) (with_place ((f.place + 1) % 4) (longer f)) load)
      (cond (eqb f.opcode 0xAB && leb 4 f.count) (byte (0x81 ∷ 0x88 ∷ []) (longer f) load)
      (cond (eqb f.opcode 0x5A && leb 5 f.count) (byte (0x81 ∷ get_or area f.place 0xFF ∷ []) (with_place ((f.place + 1) % 2 ^ 24) (longer f)) load)
      (cond (leb 4 f.count) (byte (0x80 ∷ []) (longer f) load) (cond (eqb f.count 3) (byte (0x80 ∷ []) placed load) (byte (0x80 ∷ []) (with_address (shifted_in f b) (longer f)) load)))))))))
  unfolding taken is_program
  taken_rows =
      heard-cond (eqb f.opcode 0x03 && leb 4 f.count || eqb f.opcode 0x0B && leb 5 f.count) _ _
      ∙ cond-or (eqb f.opcode 0x03 && leb 4 f.count) (eqb f.opcode 0x0B && leb 5 f.count) _ _
      ∙ cond_same (eqb f.opcode 0x03 && leb 4 f.count) _ _ _ _ (λ t. cell_row 0x03 (eqb-true f.opcode 0x03 (and_left _ _ t)) whole_sectors)
      (cond_same (eqb f.opcode 0x0B && leb 5 f.count) _ _ _ _ (λ t. cell_row 0x0B (eqb-true f.opcode 0x0B (and_left _ _ t)) whole_sectors)
      (heard-cond ((eqb f.opcode 0x02 || eqb f.opcode 0x0A) && leb 4 f.count) _ _
      ∙ cond_same ((eqb f.opcode 0x02 || eqb f.opcode 0x0A) && leb 4 f.count) _ _ _ _
      (λ _. ap (λ (g : Frame). byte (0x80 ∷ []) (with_slot ((f.slot + 1) % 256) g) (set load f.slot b)) one_more)
      (heard-cond (eqb f.opcode 0x05) _ _
      ∙ cond_same (eqb f.opcode 0x05) _ _ _ _ (λ _. ap (λ (g : Frame). byte (0x81 ∷ status_byte c.core ∷ []) g load) one_more)
      (heard-cond (eqb f.opcode 0x9F) _ _
      ∙ cond_same (eqb f.opcode 0x9F) _ _ _ _
      (λ t. ap (λ (g : Frame). byte (0x81 ∷ get_or (0x62 ∷ 0x16 ∷ 0x15 ∷ 0x00 ∷ []) f.place 0 ∷ []) g load) (next_place_lem 0x9F 4 (eqb-true f.opcode 0x9F t) refl))
      (heard-cond (eqb f.opcode 0xAB && leb 4 f.count) _ _
      ∙ cond_same (eqb f.opcode 0xAB && leb 4 f.count) _ _ _ _ (λ _. ap (λ (g : Frame). byte (0x81 ∷ 0x88 ∷ []) g load) one_more)
      (heard-cond (eqb f.opcode 0x5A && leb 5 f.count) _ _
      ∙ cond_same (eqb f.opcode 0x5A && leb 5 f.count) _ _ _ _
      (λ t. ap (λ (g : Frame). byte (0x81 ∷ get_or area f.place 0xFF ∷ []) g load) (next_place_lem 0x5A (2 ^ 24) (eqb-true f.opcode 0x5A (and_left _ _ t)) refl))
      (ap (λ (g : Frame). byte (0x80 ∷ []) g load) address_row ∙ floats (leb 4 f.count) (eqb f.count 3))))))))
    where
      cell_row : (opcode : ℕ) → f.opcode ≡ opcode → read_places S opcode ≡ n → byte (0x81 ∷ get_or m f.place 0 ∷ []) (reading (length_of S) f) load ≡ cell
      cell_row opcode is many =
          ap (λ (q : ℕ). byte (0x81 ∷ get_or m f.place 0 ∷ []) (reading q f) load) whole_sectors
          ∙ ap (λ (g : Frame). byte (0x81 ∷ get_or m f.place 0 ∷ []) g load) (next_place_lem opcode n is many)

      floats : (s t : Bool) → byte (0x80 ∷ []) (cond s (longer f) (cond t placed (with_address (shifted_in f b) (longer f)))) load
          ≡ cond s (byte (0x80 ∷ []) (longer f) load) (cond t (byte (0x80 ∷ []) placed load) (byte (0x80 ∷ []) (with_address (shifted_in f b) (longer f)) load))
      floats true t = refl
      floats false true = refl
      floats false false = refl

-- Every later byte of ours does what its row says.
pub ours-later_byte : (c : Chip) (m area : List ℕ) (b : ℕ) → Fit c m area → b ≤ 255 → c.frame.selected ≡ true → (c.frame.count ≡ 0 → ⊥)
    → let d : Byte = byte_done c.core c.frame c.load m area b in
    ours c m area 0x02 b ≡ reply (whole c.core d.frame d.load c.held) m d.says 0
ours-later_byte c m area b fit byte-sized selected some =
    exchange_as c m area b fit byte-sized ∙ ap settled (go (ℕ_discrete c.frame.judgement 0))
  where
    settled : Byte → Reply
    settled d = reply (whole c.core d.frame d.load c.held) m d.says 0

    go : Dec (c.frame.judgement ≡ 0) → heard (exchanged (setting_of (length m) area) c.core c.frame c.load m b) ≡ byte_done c.core c.frame c.load m area b
    go (yes none) =
        ap heard (exchanged_taken (setting_of (length m) area) c.core c.frame c.load m b selected some none)
        ∙ taken_rows c m area b fit
        ∙ sym (cond_no (not (eqb c.frame.judgement 0)) _ _ (ap not (eq-eqb _ _ none)))
    go (no judged) =
        ap heard (exchanged_judged (setting_of (length m) area) c.core c.frame c.load m b selected some judged)
        ∙ ap (λ (g : Frame). byte (0x80 ∷ []) g c.load) (one_more c m area b fit)
        ∙ sym (cond_yes (not (eqb c.frame.judgement 0)) _ _ (ap not (ne_eqb _ _ judged)))
