-- What Demand 2 says of single events, of ours: select, WP, power cut, exchange and deselect, and what a verdict does.
use Rattle.std.specs.Prelude.{ℕ, ◌*◌, ◌/◌, ◌%◌, ◌≤◌, Bool, true, false, cond, ◌&&◌, List, [], ◌∷◌, ◌≡◌, eqb, ltb, leb, length}
use Rattle.std.proofs.Common.{zero-le, sym, ◌∙◌, arith, le-leb, eqb-true, ne_eqb}
use Rattle.std.proofs.Math.Path.{refl, ap}
use Rattle.cells.specs.Choice.{and_left, and_right, and_both, and_four}
use Rattle.part.specs.Part.{Setting, sectors_in, length_of, setting_of, rounded_down}
use Rattle.part.proofs.Laws.{permitted-whole}
use Rattle.commands.specs.Table.{is_program}
use Rattle.chip.specs.declared.Chip.{Chip}
use Rattle.chip.specs.declared.Core.{Core}
use Rattle.chip.specs.declared.Frame.{Frame}
use Rattle.chip.specs.declared.JobKind.{JobKind}
use Rattle.chip.specs.declared.JobKind.TheVariants.{Program, SmallErase, SectorErase}
use Rattle.chip.specs.Fields.{with_suspended, with_waiting, with_armed, with_job, with_selected, with_wp}
use Rattle.chip.specs.Chip.{whole, empty_frame, blank_load}
use Rattle.legal.specs.Legal.{is_empty}
use Rattle.legal.proofs.Legality.{LegalChip, chip-facts, unbegun_empty}
use Rattle.kinds.specs.Kinds.{known_kind, known_in_script, kind_row, kind_row_in}
use Rattle.kinds.proofs.Laws.{deselect-range}
use Rattle.frame.specs.Frame.{judge, opened, Exchange, exchanged}
use Rattle.frame.specs.Laws.{exchanged_unselected, exchanged_opcode}
use Rattle.verdict.specs.Verdict.{job_of, start_of, verdict}
use Rattle.verdict.specs.Effect.{instantly, acted, settled, held_after}
use Rattle.verdict.proofs.Laws.{nine_finds, acted-nothing, held_stays}
use Rattle.event.specs.Event.{settle_exchange, closes, deselect, applied}
use Rattle.event.proofs.Laws.{deselect-unselected, deselect-selected}
use Rattle.demands.specs.Model.{Reply, reply, ours, event, Good, Fit}
use Rattle.demands.specs.Demand2.{stop_of, says_verdict, Ending, After, DoneAtOnce, rounded, Begun, JobsBegun, OtherVerdicts, Closes, powered_up}
use Rattle.meets.specs.Ours.{told, done_as}
use Rattle.demands.specs.Moments.{verdict-told}
use Rattle.meets.specs.Verdicts.{verdict-as, settled-acts, record_says}

-- ---- select, WP, power cut

pub ours-selects : (c : Chip) (m area : List ℕ) (body : ℕ) → Fit c m area → ours c m area 0x01 body ≡ reply (whole c.core (with_selected true c.frame) c.load c.held) m [] 0
unfolding applied known_kind known_in_script kind_row kind_row_in
ours-selects c m area body fit = done_as c m area fit 0x01 body refl refl

pub ours-levels : (c : Chip) (m area : List ℕ) (body : ℕ) → Fit c m area → body ≤ 1 → ours c m area 0x06 body ≡ reply (whole (with_wp (eqb body 1) c.core) c.frame c.load c.held) m [] 0
unfolding applied known_kind known_in_script kind_row kind_row_in
ours-levels c m area body fit small = done_as c m area fit 0x06 body refl (and_both (leb 0 body) (leb body 1) (le-leb 0 body zero-le) (le-leb body 1 small))

pub ours-power_cut : (c : Chip) (m area : List ℕ) (body : ℕ) → Fit c m area → ours c m area 0x07 body ≡ reply (whole (powered_up c.core) empty_frame blank_load blank_load) m [] 0
unfolding applied known_kind known_in_script kind_row kind_row_in
ours-power_cut c m area body fit = done_as c m area fit 0x07 body refl refl

-- ---- an exchange

module _ (c : Chip) (m area : List ℕ) (b : ℕ) (fit : Fit c m area) (byte : b ≤ 255) where
  abbrev T : Setting
  T = setting_of (length m) area

  -- the byte is taken as it is
  pub exchange_as : ours c m area 0x02 b ≡ told (settle_exchange c m (exchanged T c.core c.frame c.load m b))
  unfolding applied known_kind known_in_script kind_row kind_row_in
  exchange_as =
      done_as c m area fit 0x02 b refl (and_both (leb 0 b) (leb b 255) (le-leb 0 b zero-le) (le-leb b 255 byte))
      ∙ ap (λ (x : ℕ). told (settle_exchange c m (exchanged T c.core c.frame c.load m x))) (omega arith)

  pub ours_unselected_exchange : c.frame.selected ≡ false → ours c m area 0x02 b ≡ reply c m (0x80 ∷ []) 0
  ours_unselected_exchange unselected =
      exchange_as ∙ ap (λ (e : Exchange). told (settle_exchange c m e)) (exchanged_unselected T c.core c.frame c.load m b unselected)

-- an empty frame has nothing but its being selected
pub empty_frame_is : (f : Frame) → is_empty f ≡ true → f ≡ with_selected f.selected empty_frame
unfolding is_empty
empty_frame_is f empty =
    let four : Bool = eqb f.opcode 0 && eqb f.address 0 && eqb f.place 0 && eqb f.slot 0 in
    let five : (four && eqb f.count 0) ≡ true = and_left (four && eqb f.count 0) (eqb f.judgement 0) empty in
    let each = and_four (eqb f.opcode 0) (eqb f.address 0) (eqb f.place 0) (eqb f.slot 0) (and_left four (eqb f.count 0) five) in
    λ i.
    record {
      selected = f.selected;
      opcode = eqb-true f.opcode 0 each.0 i;
      address = eqb-true f.address 0 each.1 i;
      place = eqb-true f.place 0 each.2 i;
      slot = eqb-true f.slot 0 each.3 i;
      count = eqb-true f.count 0 (and_right four (eqb f.count 0) five) i;
      judgement = eqb-true f.judgement 0 (and_right (four && eqb f.count 0) (eqb f.judgement 0) empty) i;
    }

pub ours-opcode_byte : (c : Chip) (m area : List ℕ) (b : ℕ) → Fit c m area → b ≤ 255 → c.frame.selected ≡ true → c.frame.count ≡ 0
    → ours c m area 0x02 b
    ≡ reply (whole c.core (record { selected = true; opcode = b; address = 0; place = 0; slot = 0; count = 1; judgement = stop_of c.core b }) c.load c.held) m (0x80 ∷ []) 0
unfolding judge
ours-opcode_byte c m area b fit byte selected none =
    let l : LegalChip c (length m) = chip-facts c (length m) fit.state_legal in
    let open-frame : c.frame ≡ with_selected true empty_frame = empty_frame_is c.frame (unbegun_empty c.frame c.load l.tidy_part none) ∙ ap (λ (s : Bool). with_selected s empty_frame) selected in
    exchange_as c m area b fit byte
    ∙ ap (λ (e : Exchange). told (settle_exchange c m e)) (exchanged_opcode (setting_of (length m) area) c.core c.frame c.load m b selected none)
    ∙ ap (λ (f : Frame). reply (whole c.core (opened c.core b f) c.load c.held) m (0x80 ∷ []) 0) open-frame

-- ---- a deselect

-- nothing is wrong with a deselect of fewer bits than a byte has
pub deselect-good : (bits : ℕ) → bits ≤ 7 → Good (event 0x03 bits)
unfolding known_kind known_in_script kind_row kind_row_in
deselect-good bits few = (refl, deselect-range bits ∙ le-leb bits 7 few)

-- and it is what the definitions have for one, loose if some bits had gone in
deselect-as : (c : Chip) (m area : List ℕ) (bits : ℕ) → Fit c m area → bits ≤ 7 → ours c m area 0x03 bits ≡ told (deselect (setting_of (length m) area) c m (ltb 0 bits))
unfolding applied
deselect-as c m area bits fit few =
    let good : Good (event 0x03 bits) = deselect-good bits few in
    done_as c m area fit 0x03 bits good.0 good.1

pub ours-unselected_deselect : (c : Chip) (m area : List ℕ) (bits : ℕ) → Fit c m area → bits ≤ 7 → c.frame.selected ≡ false → ours c m area 0x03 bits ≡ reply c m (0x82 ∷ 0 ∷ []) 0
ours-unselected_deselect c m area bits fit few unselected = deselect-as c m area bits fit few ∙ ap told (deselect-unselected (setting_of (length m) area) c m (ltb 0 bits) unselected)

module _ (c : Chip) (m area : List ℕ) (bits : ℕ) (e : Ending c m area bits) where
  abbrev S : ℕ
  S = sectors_in (length m)

  abbrev v : ℕ
  v = verdict S c.core c.frame (ltb 0 bits)

  abbrev legal-chip : LegalChip c (length m)
  legal-chip = chip-facts c (length m) e.fit.state_legal

  -- a deselect of a frame is what its verdict does
  pub closes_as : ours c m area 0x03 bits ≡ told (closes (setting_of (length m) area) c m v)
  closes_as = deselect-as c m area bits e.fit e.few ∙ ap told (deselect-selected (setting_of (length m) area) c m (ltb 0 bits) e.selected)

  -- and says what Demand 2 has for it
  says-as : (ours c m area 0x03 bits).says ≡ says_verdict (length m) c.core v
  says-as =
      ap (λ (r : Reply). r.says) closes_as
      ∙ record_says (length m) c.core v (nine_finds S c.core c.frame (ltb 0 bits) legal-chip.frame_part.judgement_known_lem)

  pub ours_closes : Closes ours c m area bits
  ours_closes =
      record {
        says = says-as ∙ ap (says_verdict (length m) c.core) (verdict-as (length m) c.core c.frame bits legal-chip.length_permitted);
        frame_empty = ap (λ (r : Reply). r.chip.frame) closes_as;
        load_blank = ap (λ (r : Reply). r.chip.load) closes_as;
        cells_same = ap (λ (r : Reply). r.memory) closes_as;
        works_none = ap (λ (r : Reply). r.ticks) closes_as;
      }

  -- the verdict is what the record says
  pub verdict_said : (x : ℕ) → (ours c m area 0x03 bits).says ≡ 0x82 ∷ x ∷ [] → v ≡ x
  verdict_said x said = verdict-told (length m) c.core v x (sym says-as ∙ said)

  -- the core and the job's load after a verdict of which this is known
  core_after : (x : ℕ) → (ours c m area 0x03 bits).says ≡ 0x82 ∷ x ∷ [] → (x ≡ 0 → ⊥)
      → (ours c m area 0x03 bits).chip.core ≡ with_armed (eqb c.frame.opcode 0x66 && eqb x 1) (acted S c.core c.frame x)
  core_after x said some =
      ap (λ (r : Reply). r.chip.core) closes_as ∙ ap (λ (y : ℕ). settled S c.core c.frame y) (verdict_said x said) ∙ settled-acts S c.core c.frame (ltb 0 bits) x (verdict_said x said) some

  held_after_lem : (x : ℕ) → (ours c m area 0x03 bits).says ≡ 0x82 ∷ x ∷ [] → (ours c m area 0x03 bits).chip.held ≡ held_after c.frame x c.load c.held
  held_after_lem x said = ap (λ (r : Reply). r.chip.held) closes_as ∙ ap (λ (y : ℕ). held_after c.frame y c.load c.held) (verdict_said x said)

-- ---- what a verdict does, row by row

-- verdict 1: what the command changes, and arming, both by its opcode
at_once : (opcode : ℕ) → After ours 1 opcode (λ c m. with_armed (eqb opcode 0x66 && true) (instantly c.core opcode)) (λ c. cond (eqb opcode 0x99) blank_load c.held)
unfolding acted held_after
at_once opcode c m area bits e is-opcode said = (
  core_after c m area bits e 1 said (λ z. omega arith) ∙ ap (λ (o : ℕ). with_armed (eqb o 0x66 && true) (instantly c.core o)) is-opcode,
  held_after_lem c m area bits e 1 said ∙ ap (λ (o : ℕ). cond (eqb o 0x99) blank_load c.held) is-opcode,
)

pub ours-done_at_once : DoneAtOnce ours
unfolding instantly
ours-done_at_once = (at_once 0x06, (at_once 0x04, (at_once 0xB0, (at_once 0x30, (at_once 0xAB, (at_once 0xB9, (at_once 0x66, (at_once 0x99, tt))))))))

-- verdict 2: the job that the opcode asks for
begun : (opcode : ℕ)
    → After ours 2 opcode
    (λ c m.
    with_armed (eqb opcode 0x66 && false)
    (with_suspended false
    (with_waiting false
    (with_job (record { kind = job_of opcode c.frame.address; start = start_of (sectors_in (length m)) (job_of opcode c.frame.address) c.frame.address; done = 0 }) c.core))))
    (λ c. cond (is_program opcode) c.load blank_load)
unfolding acted held_after
begun opcode c m area bits e is-opcode said =
    let A : ℕ = c.frame.address in
    let S : ℕ = sectors_in (length m) in (
      core_after c m area bits e 2 said (λ z. omega arith)
          ∙ ap (λ (o : ℕ). with_armed (eqb o 0x66 && false) (with_suspended false (with_waiting false (with_job (record { kind = job_of o A; start = start_of S (job_of o A) A; done = 0 }) c.core)))) is-opcode,
      held_after_lem c m area bits e 2 said ∙ ap (λ (o : ℕ). cond (is_program o) c.load blank_load) is-opcode,
    )

-- rounded down to each of the three sizes, a number is so many of them
pub down_256 : (x : ℕ) → rounded_down 256 x ≡ x / 256 * 256
down_256 x = omega arith

pub down_4096 : (x : ℕ) → rounded_down 4096 x ≡ x / 4096 * 4096
down_4096 x = omega arith

pub down_65536 : (x : ℕ) → rounded_down 65536 x ≡ x / 65536 * 65536
down_65536 x = omega arith

-- a place counted on the part is one counted on the memory
on_memory : (opcode : ℕ) (kind : JobKind) (size : ℕ) (load : Chip → List ℕ) → ((x : ℕ) → rounded_down size x ≡ x / size * size)
    → After ours 2 opcode
    (λ c m. with_armed false (with_suspended false (with_waiting false (with_job (record { kind = kind; start = rounded_down size (c.frame.address % length_of (sectors_in (length m))); done = 0 }) c.core)))) load
    → Begun ours opcode (λ f. kind) (rounded size) load
on_memory opcode kind size load down row c m area bits e is-opcode said =
    let told-so = row c m area bits e is-opcode said in
    let whole_sectors : length_of (sectors_in (length m)) ≡ length m = permitted-whole (length m) (chip-facts c (length m) e.fit.state_legal).length_permitted in
    let there : rounded_down size (c.frame.address % length_of (sectors_in (length m))) ≡ rounded size (length m) c.frame =
    down (c.frame.address % length_of (sectors_in (length m))) ∙ ap (λ (n : ℕ). rounded size n c.frame) whole_sectors in (
      told-so.0 ∙ ap (λ (start : ℕ). with_armed false (with_suspended false (with_waiting false (with_job (record { kind = kind; start = start; done = 0 }) c.core)))) there,
      told-so.1,
    )

pub ours-jobs_begun : JobsBegun ours
unfolding job_of is_program
ours-jobs_begun = (
  begun 0x01,
  (
    on_memory 0x02 Program 256 (λ c. c.load) down_256 (begun 0x02),
    (
      on_memory 0x0A Program 256 (λ c. c.load) down_256 (begun 0x0A),
      (
        on_memory 0x20 SmallErase 4096 (λ c. blank_load) down_4096 (begun 0x20),
        (on_memory 0xD7 SmallErase 4096 (λ c. blank_load) down_4096 (begun 0xD7), (on_memory 0xD8 SectorErase 65536 (λ c. blank_load) down_65536 (begun 0xD8), (begun 0x60, (begun 0xC7, tt)))),
      ),
    ),
  ),
)

-- every other verdict
pub ours-other_verdicts : OtherVerdicts ours
unfolding settled
ours-other_verdicts c m area bits e not-told-one not-told-two =
    let S : ℕ = sectors_in (length m) in
    let x : ℕ = verdict S c.core c.frame (ltb 0 bits) in
    let says : (ours c m area 0x03 bits).says ≡ says_verdict (length m) c.core x = says-as c m area bits e in
    let not_one : x ≡ 1 → ⊥ = λ one. not-told-one (says ∙ ap (says_verdict (length m) c.core) one) in
    let not-two : x ≡ 2 → ⊥ = λ two. not-told-two (says ∙ ap (says_verdict (length m) c.core) two) in (
      ap (λ (r : Reply). r.chip.core) (closes_as c m area bits e)
          ∙ ap (λ (k : Core). cond (eqb c.frame.count 0) c.core (with_armed (eqb c.frame.opcode 0x66 && eqb x 1) k)) (acted-nothing S c.core c.frame x not_one not-two)
          ∙ ap (λ (b : Bool). cond (eqb c.frame.count 0) c.core (with_armed b c.core)) (arms_not (eqb c.frame.opcode 0x66) (eqb x 1) (ne_eqb x 1 not_one)),
      ap (λ (r : Reply). r.chip.held) (closes_as c m area bits e) ∙ held_stays c.frame x c.load c.held not-two (λ one _. not_one one),
    )
  where
    arms_not : (a b : Bool) → b ≡ false → (a && b) ≡ false
    arms_not true b h = h
    arms_not false b h = refl
