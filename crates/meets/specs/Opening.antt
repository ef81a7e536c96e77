-- The opening of a frame, over the definitions: on a legal unselected chip a select, the opcode byte and, for a command with one, an address of three bytes.
use Prim.Native.Nat.{ℕ, ◌/◌, ◌%◌, ◌^◌, ◌<◌, ◌≤◌}
use Rattle.std.specs.Prelude.{Bool, true, false, not, ◌&&◌, ◌||◌, ◌≡◌, eqb, leb, length, replicate}
use Rattle.std.proofs.lemmas.Bool.{false≢true, lt-leb}
use mathlib.Core.List.{List, [], ◌∷◌, ◌++◌}
use Rattle.std.proofs.Math.Path.{refl, ap}
use Rattle.std.proofs.Common.{sym, subst, ◌∙◌, mod-eq_of_lt, eqb-true, leb-true}
use native.Mathlib.Omega.{arith}
use Rattle.cells.specs.Choice.{cond_no, and_left, and_right, not_so}
use Rattle.part.specs.Part.{Setting, sectors_in, setting_of}
use Rattle.chip.proofs.Laws.{cells-job}
use Rattle.chip.specs.declared.Chip.{Chip}
use Rattle.chip.specs.declared.Core.{Core}
use Rattle.chip.specs.declared.Frame.{Frame}
use Rattle.chip.specs.declared.Record.TheVariants.{Floating}
use Rattle.chip.specs.Fields.{with_count, with_selected}
use Rattle.chip.specs.Job.{is_job, has_cells}
use Rattle.chip.specs.Chip.{whole, empty_frame, running}
use Rattle.legal.specs.Legal.{legal, is_empty, is_blank, tidy}
use Rattle.legal.proofs.Legality.{chip-facts}
use Rattle.commands.specs.Table.{row_of, is_program, low_power_read, high_speed_read, wake, read_sfdp}
use Rattle.frame.specs.Frame.{judge, shifted, first_place, addressing, exchange, taken, exchanged}
use Rattle.frame.specs.Laws.{taken_address, exchanged_taken}
use Rattle.event.specs.Event.{settle_exchange, applied}
use Rattle.script.specs.Script.{Event}
use Rattle.script.specs.Run.{World, world, after, onward, runs}
use Rattle.meets.specs.EventRules.{empty_frame_is}
use Rattle.demands.specs.Model.{event, sends, address, Fit}
use Rattle.demands.specs.Demand2.{among, Quiet, Ready}

-- ---- the frame of an unselected chip

-- of a legal chip without a frame the frame is empty and the load blank
unselected-tidy : (f : Frame) (load : List ℕ) → tidy f load ≡ true → f.selected ≡ false → (is_empty f && is_blank load) ≡ true
unselected-tidy f load h u = go f.selected u h
  where
    go : (s : Bool) → s ≡ false → (s && not (eqb f.count 0) || is_empty f && is_blank load) ≡ true → (is_empty f && is_blank load) ≡ true
    go true e q = absurd (false≢true (sym e))
    go false e q = q

module _ (c : Chip) (n : ℕ) (l : legal c n ≡ true) (unselected : c.frame.selected ≡ false) where
  -- so an unselected legal chip has the empty frame, and a blank load
  both : (is_empty c.frame && is_blank c.load) ≡ true
  both = unselected-tidy c.frame c.load (chip-facts c n l).tidy_part unselected

  pub frame_empty : c.frame ≡ empty_frame
  frame_empty = empty_frame_is c.frame (and_left (is_empty c.frame) (is_blank c.load) both) ∙ ap (λ (s : Bool). with_selected s empty_frame) unselected

  pub load_blank : is_blank c.load ≡ true
  load_blank = and_right (is_empty c.frame) (is_blank c.load) both

-- ---- the frames of an opening

-- after the opcode byte, with its judgement
abbrev pub opcode_frame : ℕ → ℕ → Frame
opcode_frame opcode v = record { selected = true; opcode = opcode; address = 0; place = 0; slot = 0; count = 1; judgement = v }

-- after three bytes of address, on a part of S sectors
abbrev pub address_frame : ℕ → ℕ → ℕ → Frame
address_frame S opcode A = record { selected = true; opcode = opcode; address = A; place = first_place S opcode A; slot = A % 256; count = 4; judgement = 0 }

-- ---- the bytes

-- an opcode byte after which three bytes are an address: any but a read of the status or of the cycle
abbrev pub has_address : ℕ → Bool
has_address opcode = leb opcode 255 && not (among (0x05 ∷ 0x9F ∷ []) opcode)

-- bytes 2 to 4 of such a frame float and are its address
address-taken : (T : Setting) (k : Core) (f : Frame) (load m : List ℕ) (b : ℕ) → has_address f.opcode ≡ true → f.count < 4
    → taken T k f load m b ≡ exchange Floating (addressing T.sectors b f) load
address-taken T k f load m b has few =
    let four : leb 4 f.count ≡ false = lt-leb 4 f.count few in
    let five : leb 5 f.count ≡ false = lt-leb 5 f.count (omega arith) in
    taken_address T k f load m b
    ((λ i. eqb f.opcode low_power_read && four i || eqb f.opcode high_speed_read && five i) ∙ neither (eqb f.opcode low_power_read) (eqb f.opcode high_speed_read))
    (early (is_program f.opcode) _ four) (λ e. false≢true (sym (ap has_address e) ∙ has)) (λ e. false≢true (sym (ap has_address e) ∙ has)) (early (eqb f.opcode wake) _ four) (early (eqb f.opcode read_sfdp) _ five)
  where
    early : (a b : Bool) → b ≡ false → (a && b) ≡ false
    early true b e = e
    early false b e = refl

    neither : (a b : Bool) → (a && false || b && false) ≡ false
    neither true b = early b false refl
    neither false b = early b false refl

module _ (T : Setting) (k : Core) (load held m : List ℕ) where
  -- a world in the middle of a frame
  abbrev pub amid : Frame → List ℕ → World
  amid f written = world (whole k f load held) m written 0

  -- The opcode byte floats and is judged.
  pub opcode_opens : (opcode : ℕ) (bs : List ℕ) → opcode ≤ 255
      → runs T (event 0x01 0 ∷ sends (opcode ∷ bs)) (amid empty_frame []) ≡ runs T (sends bs) (amid (opcode_frame opcode (judge k opcode)) (0x80 ∷ []))
  unfolding runs applied exchanged
  opcode_opens opcode bs small =
      ap (λ (b : ℕ). runs T (sends bs) (amid (opcode_frame b (judge k b)) (0x80 ∷ []))) (mod-eq_of_lt (omega arith))

  -- an address byte floats
  address_byte : (opcode A n b : ℕ) (written : List ℕ) → has_address opcode ≡ true → 0 < n → n < 4
      → let f : Frame = record { selected = true; opcode = opcode; address = A; place = 0; slot = 0; count = n; judgement = 0 } in
      onward T (event 0x02 b) (amid f written) ≡ amid (addressing T.sectors (b % 256) f) (written ++ (0x80 ∷ []))
  unfolding applied
  address_byte opcode A n b written has some few =
      let f : Frame = record { selected = true; opcode = opcode; address = A; place = 0; slot = 0; count = n; judgement = 0 } in
      ap (λ e. after (amid f written) (settle_exchange (whole k f load held) m e))
      (exchanged_taken T k f load m (b % 256) refl (λ z. omega arith) refl ∙ address-taken T k f load m (b % 256) has few)

  -- The opcode byte and three bytes of address float, and then the address stands in the frame.
  pub address_opens : (opcode A : ℕ) (bs : List ℕ) → A < 2 ^ 24 → has_address opcode ≡ true → judge k opcode ≡ 0
      → runs T (event 0x01 0 ∷ sends (opcode ∷ A / 65536 ∷ A / 256 % 256 ∷ A % 256 ∷ bs)) (amid empty_frame []) ≡ runs T (sends bs) (amid (address_frame T.sectors opcode A) (replicate 4 0x80))
  unfolding runs
  address_opens opcode A bs small has free =
      let high : ℕ = shifted 0 (A / 65536 % 256) in
      let middle : ℕ = shifted high (A / 256 % 256 % 256) in
      let all : shifted middle (A % 256 % 256) ≡ A = omega arith in
      let low : A % 256 % 256 ≡ A % 256 = omega arith in
      opcode_opens opcode (A / 65536 ∷ A / 256 % 256 ∷ A % 256 ∷ bs) (leb-true opcode 255 (and_left (leb opcode 255) _ has))
      ∙ ap (λ (v : ℕ). runs T (sends (A / 65536 ∷ A / 256 % 256 ∷ A % 256 ∷ bs)) (amid (opcode_frame opcode v) (0x80 ∷ []))) free
      ∙ ap (runs T (sends (A / 256 % 256 ∷ A % 256 ∷ bs))) (address_byte opcode 0 1 (A / 65536) (replicate 1 0x80) has (omega arith) (omega arith))
      ∙ ap (runs T (sends (A % 256 ∷ bs))) (address_byte opcode high 2 (A / 256 % 256) (replicate 2 0x80) has (omega arith) (omega arith))
      ∙ ap (runs T (sends bs)) (address_byte opcode middle 3 (A % 256) (replicate 3 0x80) has (omega arith) (omega arith))
      ∙ (λ i. runs T (sends bs) (amid (record { selected = true; opcode = opcode; address = all i; place = first_place T.sectors opcode (all i); slot = low i; count = 4; judgement = 0 }) (replicate 4 0x80)))

-- ---- what is taken

-- Nothing stops a known opcode that is allowed where the chip is.
pub unstopped : (k : Core) (opcode : ℕ) → (row_of opcode).known ≡ true → k.deep ≡ false → (running k && not (row_of opcode).running) ≡ false → (k.suspended && not (row_of opcode).suspended) ≡ false
    → judge k opcode ≡ 0
unfolding judge
unstopped k opcode known awake while_running while_suspended =
    cond_no (not (row_of opcode).known) _ _ (ap not known)
    ∙ cond_no (k.deep && not (eqb opcode wake)) _ _ (ap (λ (d : Bool). d && not (eqb opcode wake)) awake)
    ∙ cond_no (running k && not (row_of opcode).running) _ _ while_running
    ∙ cond_no (k.suspended && not (row_of opcode).suspended) _ _ while_suspended

-- an opcode that is allowed there
pub allowed : (a b : Bool) → b ≡ true → (a && not b) ≡ false
allowed true b h = ap not h
allowed false b h = refl

-- a legal chip without a job is not suspended
pub not-suspended : (c : Chip) (n : ℕ) → legal c n ≡ true → is_job c.core.job.kind ≡ false → c.core.suspended ≡ false
not-suspended c n l idle = not_so c.core.suspended (λ e. false≢true (sym idle ∙ cells-job c.core.job.kind ((chip-facts c n l).core_part.suspended_cells e)))

-- and does not wait to be
pub not-waiting : (c : Chip) (n : ℕ) → legal c n ≡ true → is_job c.core.job.kind ≡ false → c.core.waiting ≡ false
not-waiting c n l idle =
    not_so c.core.waiting (λ e.
    false≢true (sym idle ∙ cells-job c.core.job.kind (and_right (running c.core) (has_cells c.core.job.kind) ((chip-facts c n l).core_part.waiting_runs_lem e))))

-- A chip at rest, idle or suspended, takes the opcodes that are allowed while suspended.
pub quiet_takes : (c : Chip) (m area : List ℕ) → Quiet c m area → (opcode : ℕ) → (row_of opcode).known ≡ true → (row_of opcode).suspended ≡ true → judge c.core opcode ≡ 0
quiet_takes c m area quiet opcode known suspended =
    unstopped c.core opcode known quiet.awake (ap (λ (r : Bool). r && not (row_of opcode).running) quiet.resting) (allowed c.core.suspended (row_of opcode).suspended suspended)

-- An idle one takes every known opcode.
pub ready_takes : (c : Chip) (m area : List ℕ) → Ready c m area → (opcode : ℕ) → (row_of opcode).known ≡ true → judge c.core opcode ≡ 0
ready_takes c m area ready opcode known =
    let quiet : Quiet c m area = ready.quiet in
    unstopped c.core opcode known quiet.awake (ap (λ (r : Bool). r && not (row_of opcode).running) quiet.resting)
    (ap (λ (s : Bool). s && not (row_of opcode).suspended) (not-suspended c (length m) quiet.fit.state_legal ready.idle))

-- ---- the openings

-- what holds of each of two numbers holds of any number among them
pub among_two : (P : ℕ → Type 0) (a b : ℕ) → P a → P b → (x : ℕ) → among (a ∷ b ∷ []) x ≡ true → P x
among_two P a b p q x h = go (eqb x a) (eqb x b) refl refl h
  where
    go : (t u : Bool) → eqb x a ≡ t → eqb x b ≡ u → (t || (u || false)) ≡ true → P x
    go true u d e z = subst P (sym (eqb-true x a d)) p
    go false true d e z = subst P (sym (eqb-true x b e)) q
    go false false d e z = absurd (false≢true z)

-- after a select and these bytes, which float, there are this frame and this load, and the rest is as it was
abbrev pub Leaves : Chip → List ℕ → List ℕ → List ℕ → Frame → List ℕ → Type 0
Leaves c m area bs f load =
    runs (setting_of (length m) area) (event 0x01 0 ∷ sends bs) (world c m [] 0) ≡ world (whole c.core f load c.held) m (replicate (length bs) 0x80) 0

-- and if the load too is as it was
abbrev pub Opens : Chip → List ℕ → List ℕ → List ℕ → Frame → Type 0
Opens c m area bs f = Leaves c m area bs f c.load

module _ (c : Chip) (m area : List ℕ) (fit : Fit c m area) (unselected : c.frame.selected ≡ false) where
  abbrev T : Setting
  T = setting_of (length m) area

  -- any row of events begins with the empty frame
  pub from_empty : (es : List Event) → runs T es (world c m [] 0) ≡ runs T es (amid T c.core c.load c.held m empty_frame [])
  from_empty es = ap (λ (f : Frame). runs T es (world (whole c.core f c.load c.held) m [] 0)) (frame_empty c (length m) fit.state_legal unselected)

  -- an opcode alone
  pub opens_opcode : (opcode : ℕ) → opcode ≤ 255 → Opens c m area (opcode ∷ []) (opcode_frame opcode (judge c.core opcode))
  unfolding runs
  opens_opcode opcode byte = from_empty (event 0x01 0 ∷ sends (opcode ∷ [])) ∙ opcode_opens T c.core c.load c.held m opcode [] byte

  -- a write status has a value, which goes into the address
  pub opens_value : (value : ℕ) → value ≤ 255 → judge c.core 0x01 ≡ 0
      → Opens c m area (0x01 ∷ value ∷ []) (record { selected = true; opcode = 0x01; address = value; place = 0; slot = 0; count = 2; judgement = 0 })
  unfolding runs applied exchanged taken is_program
  opens_value value byte free =
      let all : shifted 0 (value % 256) ≡ value = omega arith in
      from_empty (event 0x01 0 ∷ sends (0x01 ∷ value ∷ []))
      ∙ opcode_opens T c.core c.load c.held m 0x01 (value ∷ []) (omega arith)
      ∙ ap (λ (v : ℕ). runs T (sends (value ∷ [])) (amid T c.core c.load c.held m (opcode_frame 0x01 v) (0x80 ∷ []))) free
      ∙ (λ i. amid T c.core c.load c.held m (record { selected = true; opcode = 0x01; address = all i; place = 0; slot = 0; count = 2; judgement = 0 }) (replicate 2 0x80))

  module _ (opcode A : ℕ) (small : A < 2 ^ 24) (has : has_address opcode ≡ true) (free : judge c.core opcode ≡ 0) where
    -- an opcode and an address, whatever bytes follow
    pub opens_address_and : (bs : List ℕ)
        → runs T (event 0x01 0 ∷ sends (opcode ∷ (address A ++ bs))) (world c m [] 0) ≡ runs T (sends bs) (amid T c.core c.load c.held m (address_frame (sectors_in (length m)) opcode A) (replicate 4 0x80))
    opens_address_and bs = from_empty _ ∙ address_opens T c.core c.load c.held m opcode A bs small has free

    -- and if none do
    pub opens_address : Opens c m area (opcode ∷ address A) (address_frame (sectors_in (length m)) opcode A)
    unfolding runs
    opens_address = opens_address_and []

    -- 0Bh and 5Ah have a dummy byte, which floats too
    pub opens_dummy : among (0x0B ∷ 0x5A ∷ []) opcode ≡ true → (dummy : ℕ) → Opens c m area (opcode ∷ (address A ++ (dummy ∷ []))) (with_count 5 (address_frame (sectors_in (length m)) opcode A))
    unfolding runs applied exchanged taken is_program
    opens_dummy dummied dummy =
        opens_address_and (dummy ∷ [])
        ∙ among_two
        (λ (q : ℕ). runs T (sends (dummy ∷ [])) (amid T c.core c.load c.held m (address_frame (sectors_in (length m)) q A) (replicate 4 0x80))
        ≡ amid T c.core c.load c.held m (with_count 5 (address_frame (sectors_in (length m)) q A)) (replicate 5 0x80))
        0x0B 0x5A refl refl opcode dummied
