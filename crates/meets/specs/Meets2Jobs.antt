-- Demand 2 of ours: from the bytes of a frame to its load, and to the job that it begins.
use Prim.Native.Nat.{ℕ, ◌*◌, ◌/◌, ◌%◌, ◌^◌, ◌<◌, ◌≤◌}
use Rattle.std.specs.Prelude.{Bool, true, cond, ◌&&◌, ◌≡◌, leb, replicate}
use Rattle.std.proofs.Math.Bool.{false, not}
use mathlib.Core.List.{List, [], ◌∷◌, ◌++◌}
use Rattle.std.proofs.Math.Path.{refl, ap}
use Rattle.std.proofs.Common.{sym, subst, ◌∙◌, le-leb, leb-true, eq-eqb}
use native.Mathlib.Omega.{arith}
use Rattle.std.proofs.Math.ListN.{length}
use Rattle.cells.specs.Choice.{cond_yes, and_left}
use Rattle.part.specs.Part.{Setting, setting_of, sectors_in, length_of, rounded_down}
use Rattle.part.specs.Protection.{is_protected}
use Rattle.part.proofs.Laws.{permitted-some, any_by_level}
use Rattle.kinds.specs.Kinds.{known_in_script, known_kind, kind_row_in, kind_row}
use Rattle.commands.specs.Table.{row_of, row_in, fits_rule, is_program}
use Rattle.chip.specs.declared.Chip.{Chip}
use Rattle.chip.specs.declared.Core.{Core}
use Rattle.chip.specs.declared.Frame.{Frame}
use Rattle.chip.specs.declared.JobKind.{JobKind}
use Rattle.chip.specs.declared.JobKind.TheVariants.{WriteStatus, Program, SmallErase, SectorErase, ChipErase}
use Rattle.chip.specs.Fields.{with_suspended, with_waiting, with_armed, with_job}
use Rattle.chip.specs.Job.{has_cells}
use Rattle.chip.specs.Chip.{whole, empty_frame, blank_load}
use Rattle.legal.proofs.Legality.{chip-facts}
use Rattle.frame.specs.Frame.{judge, loading}
use Rattle.verdict.specs.Verdict.{start_of, target_protected, start_protected, verdict, record_of}
use Rattle.verdict.specs.Effect.{held_after}
use Rattle.event.specs.Event.{closes, applied}
use Rattle.event.proofs.Laws.{deselect-selected}
use Rattle.script.specs.Run.{World, world, after, runs}
use Rattle.demands.specs.Model.{ours, event, sends, address, AllGood, Fit}
use Rattle.demands.specs.Demand2.{among, AllBytes, Quiet, Ready, opened, LoadOf, Loads, framed, Begins, FreeAt, JobsFromBytes}
use Rattle.meets.specs.EventRules.{down_256, down_4096, down_65536}
use Rattle.meets.specs.Opening.{opcode_frame, address_frame, has_address, among_two, Leaves, load_blank, quiet_takes, ready_takes, opens_opcode, opens_value, opens_address, opens_address_and}
use Rattle.meets.specs.OursFrames.{as_long, address-bytes, opened-as, runs_by-add, reached}
use Rattle.meets.specs.Load.{load_after, load_of}
use Rattle.meets.specs.JobFrames.{Holds, data_frame, data_keeps, data_runs, Command, programs, small_erases, sector-erases, chip-erases, status_writes, verdict_begins, settled_begun}

-- ---- a page program's load

module _ (c : Chip) (m area : List ℕ) (quiet : Quiet c m area) (opcode A first : ℕ) (more : List ℕ) (program : among (0x02 ∷ 0x0A ∷ []) opcode ≡ true) (small : A < 2 ^ 24) (bytes : AllBytes (first ∷ more)) where
  -- the bytes of such a frame, what they leave of the frame, and the load
  abbrev program-bytes : List ℕ
  program-bytes = opcode ∷ (address A ++ (first ∷ more))

  abbrev program-frame : Frame
  program-frame = data_frame (first ∷ more) (address_frame (sectors_in (length m)) opcode A)

  abbrev program-load : List ℕ
  program-load = load_after (first ∷ more) (A % 256) c.load

  all-bytes : AllBytes program-bytes
  unfolding AllBytes
  all-bytes = (among_two (λ (q : ℕ). q ≤ 255) 0x02 0x0A (omega arith) (omega arith) opcode program, address-bytes A (first ∷ more) small bytes)

  -- it is taken, idle or suspended, and its bytes leave these
  program_leaves : Leaves c m area program-bytes program-frame program-load
  unfolding row_of row_in
  program_leaves =
      opens_address_and c m area quiet.fit quiet.unselected opcode A small (among_two (λ (q : ℕ). has_address q ≡ true) 0x02 0x0A refl refl opcode program)
      (among_two (λ (q : ℕ). judge c.core q ≡ 0) 0x02 0x0A (quiet_takes c m area quiet 0x02 refl refl) (quiet_takes c m area quiet 0x0A refl refl) opcode program) (first ∷ more)
      ∙ data_runs (setting_of (length m) area) c.core c.held m opcode A program (first ∷ more) (address_frame (sectors_in (length m)) opcode A) c.load (replicate 4 0x80) bytes
      (record { is_open = refl; opcode_is = refl; address_is = refl; unjudged = refl; so_many = omega arith })

  -- the load is the one that the demand asks for
  program_load_of : length c.load ≡ 256 → LoadOf A (first ∷ more) program-load
  program_load_of page = load_of A (first ∷ more) c.load page (load_blank c (length m) quiet.fit.state_legal quiet.unselected)

  -- so, of ours
  program_loads : length c.load ≡ 256
      → ((opened ours c m area program-bytes).written ≡ replicate (length program-bytes) 0x80) × LoadOf A (first ∷ more) (opened ours c m area program-bytes).chip.load
  program_loads page =
      let as-left = opened-as c m area program-bytes quiet.fit all-bytes ∙ program_leaves in
      (ap (λ (w : World). w.written) as-left, subst (LoadOf A (first ∷ more)) (sym (ap (λ (w : World). w.chip.load) as-left)) (program_load_of page))

-- Ours takes a page program's data bytes into the load, as the demand says.
pub ours-page_loads : (c : Chip) (m area : List ℕ) → Quiet c m area → Loads ours c m area
ours-page_loads c m area quiet = record { floats_and_loads = λ opcode A first more page program small bytes. program_loads c m area quiet opcode A first more program small bytes page }

-- ---- jobs

module _ (c : Chip) (m area : List ℕ) (ready : Ready c m area) (enabled : c.core.wen ≡ true) where
  -- the part's sectors, and its setting
  abbrev S : ℕ
  S = sectors_in (length m)

  abbrev T : Setting
  T = setting_of (length m) area

  abbrev fit : Fit c m area
  fit = ready.quiet.fit

  -- the world after a frame of these bytes that has begun this job with this load
  abbrev pub begun : JobKind → ℕ → List ℕ → List ℕ → World
  begun kind start held bs =
      world (whole (with_armed false (with_suspended false (with_waiting false (with_job (record { kind = kind; start = start; done = 0 }) c.core)))) empty_frame blank_load held) m (replicate (length bs) 0x80 ++ (0x82 ∷ 2 ∷ [])) 0

  begins : (bs : List ℕ) (kind : JobKind) (start : ℕ) (held : List ℕ) → framed ours c m area bs ≡ begun kind start held bs → Begins ours c m area bs kind start
  begins bs kind start held e =
      record { verdict_two = ap (λ (w : World). w.written) e; job_is = ap (λ (w : World). w.chip.core.job) e; cells_same = ap (λ (w : World). w.memory) e }

  -- ---- a whole frame of ours, from its opening

  -- the definitions' own
  pub framed_as : (bs : List ℕ) → AllBytes bs → framed ours c m area bs ≡ runs T (event 0x03 0 ∷ []) (runs T (event 0x01 0 ∷ sends bs) (world c m [] 0))
  unfolding AllGood known_kind known_in_script kind_row kind_row_in
  framed_as bs bytes = runs_by-add ours area (event 0x01 0 ∷ sends bs) (event 0x03 0 ∷ []) (world c m [] 0) ∙ (reached c m area bs (event 0x03 0 ∷ []) fit bytes ((refl, refl), _)).as_defined

  -- closed with verdict 2
  closed_as : (bs load : List ℕ) (f : Frame) → AllBytes bs → Leaves c m area bs f load → f.selected ≡ true → verdict S c.core f false ≡ 2
      → framed ours c m area bs ≡ after (world (whole c.core f load c.held) m (replicate (length bs) 0x80) 0) (closes T (whole c.core f load c.held) m 2)
  unfolding runs applied
  closed_as bs load f bytes leaves selected two =
      let open-chip : Chip = whole c.core f load c.held in
      framed_as bs bytes
      ∙ ap (runs T (event 0x03 0 ∷ [])) leaves
      ∙ ap (after (world open-chip m (replicate (length bs) 0x80) 0)) (deselect-selected T open-chip m false selected ∙ ap (closes T open-chip m) two)

  module _ (bs load : List ℕ) (f : Frame) (bytes : AllBytes bs) (leaves : Leaves c m area bs f load) (opcode A rule n : ℕ) (kind : JobKind) (command : Command opcode A rule kind) (at : Holds opcode A n f) (some : 1 ≤ n)
      (right : fits_rule rule f.count ≡ true) (unlocked : (not (has_cells kind) && c.core.srwp && not c.core.wp) ≡ false) (free : target_protected S c.core kind (start_of S kind A) ≡ false) where
    -- a frame with nothing in its way is closed with verdict 2
    closed : framed ours c m area bs ≡ after (world (whole c.core f load c.held) m (replicate (length bs) 0x80) 0) (closes T (whole c.core f load c.held) m 2)
    closed =
        closed_as bs load f bytes leaves at.is_open
        (verdict_begins S c.core f opcode A rule n kind command at (ready_takes c m area ready opcode command.known) some right enabled unlocked free)

    -- it leaves its job; if that is a program, with this load
    begins_at : (start : ℕ) → start_of S kind A ≡ start → framed ours c m area bs ≡ begun kind start (cond (is_program opcode) load blank_load) bs
    unfolding held_after record_of
    begins_at start there =
        closed
        ∙ ap (λ (k : Core). world (whole k empty_frame blank_load (cond (is_program f.opcode) load blank_load)) m (replicate (length bs) 0x80 ++ (0x82 ∷ 2 ∷ [])) 0)
        (settled_begun S c.core f opcode A rule n kind command at some ∙ ap (λ (q : ℕ). with_armed false (with_suspended false (with_waiting false (with_job (record { kind = kind; start = q; done = 0 }) c.core)))) there)
        ∙ ap (λ (q : ℕ). begun kind start (cond (is_program q) load blank_load) bs) at.opcode_is

  -- ---- the places

  -- an address rounded down, on a part as long as the memory
  rounds : (size A : ℕ) → ((x : ℕ) → rounded_down size x ≡ x / size * size) → rounded_down size (A % length_of S) ≡ A % length m / size * size
  rounds size A down = down (A % length_of S) ∙ ap (λ (n : ℕ). A % n / size * size) (as_long c m area fit)

  -- rounded down inside its sector, an address is as free as it was
  free_start : (size A : ℕ) → ((x : ℕ) → rounded_down size x / 65536 ≡ x / 65536) → FreeAt c m A → start_protected S c.core (rounded_down size (A % length_of S)) ≡ false
  free_start size A same free = ap (is_protected c.core.level c.core.tb S) (same (A % length_of S) ∙ ap (λ (n : ℕ). A % n / 65536) (as_long c m area fit)) ∙ free

  -- ---- command by command

  -- a program, with its data bytes in its load
  pub program_begun : (opcode A first : ℕ) (more : List ℕ) → among (0x02 ∷ 0x0A ∷ []) opcode ≡ true → A < 2 ^ 24 → AllBytes (first ∷ more) → FreeAt c m A
      → framed ours c m area (opcode ∷ (address A ++ (first ∷ more)))
      ≡ begun Program (A % length m / 256 * 256) (load_after (first ∷ more) (A % 256) c.load) (opcode ∷ (address A ++ (first ∷ more)))
  unfolding AllBytes data_frame fits_rule is_program
  program_begun opcode A first more program small bytes free =
      let quiet : Quiet c m area = ready.quiet in
      let bs : List ℕ = opcode ∷ (address A ++ (first ∷ more)) in
      let load : List ℕ = load_after (first ∷ more) (A % 256) c.load in
      let f : Frame = data_frame (first ∷ more) (address_frame S opcode A) in
      let at : Holds opcode A 5 f =
      data_keeps opcode A 5 more (loading (address_frame S opcode A)) (omega arith) (record { is_open = refl; opcode_is = refl; address_is = refl; unjudged = refl; so_many = omega arith }) in
      begins_at bs load f (all-bytes c m area quiet opcode A first more program small bytes)
      (program_leaves c m area quiet opcode A first more program small bytes)
      opcode A 5 5 Program (programs opcode A program) at (omega arith) (le-leb 5 f.count at.so_many) refl (free_start 256 A (λ x. omega arith) free) (A % length m / 256 * 256) (rounds 256 A down_256)
      ∙ ap (λ (held : List ℕ). begun Program (A % length m / 256 * 256) held bs)
      (cond_yes (is_program opcode) load blank_load (among_two (λ (q : ℕ). is_program q ≡ true) 0x02 0x0A refl refl opcode program))

  program_begins : (opcode A first : ℕ) (more : List ℕ) → length c.load ≡ 256 → among (0x02 ∷ 0x0A ∷ []) opcode ≡ true → A < 2 ^ 24 → AllBytes (first ∷ more) → FreeAt c m A
      → Begins ours c m area (opcode ∷ (address A ++ (first ∷ more))) Program (A % length m / 256 * 256)
      × LoadOf A (first ∷ more) (framed ours c m area (opcode ∷ (address A ++ (first ∷ more)))).chip.held
  program_begins opcode A first more page program small bytes free =
      let e = program_begun opcode A first more program small bytes free in (
        begins _ _ _ _ e,
        subst (LoadOf A (first ∷ more)) (sym (ap (λ (w : World). w.chip.held) e)) (program_load_of c m area ready.quiet opcode A first more program small bytes page),
      )

  -- an erase at an address, which has four bytes
  erase_begins : (opcode A : ℕ) (kind : JobKind) → Command opcode A 4 kind → has_address opcode ≡ true → has_cells kind ≡ true → A < 2 ^ 24 → target_protected S c.core kind (start_of S kind A) ≡ false
      → (start : ℕ) → start_of S kind A ≡ start → Begins ours c m area (opcode ∷ address A) kind start
  unfolding AllBytes fits_rule
  erase_begins opcode A kind command has cells small free start there =
      begins _ _ _ _
      (begins_at (opcode ∷ address A) c.load (address_frame S opcode A) (leb-true opcode 255 (and_left (leb opcode 255) _ has), address-bytes A [] small _)
      (opens_address c m area fit ready.quiet.unselected opcode A small has (ready_takes c m area ready opcode command.known))
      opcode A 4 4 kind command (record { is_open = refl; opcode_is = refl; address_is = refl; unjudged = refl; so_many = omega arith }) (omega arith) refl
      (ap (λ (h : Bool). not h && c.core.srwp && not c.core.wp) cells) free start there)

  -- a chip erase, which has its opcode alone
  chip_erase_begins : (opcode : ℕ) → among (0x60 ∷ 0xC7 ∷ []) opcode ≡ true → c.core.level ≡ 0 → Begins ours c m area (opcode ∷ []) ChipErase 0
  unfolding AllBytes fits_rule
  chip_erase_begins opcode is level-none =
      let small : opcode ≤ 255 = among_two (λ (q : ℕ). q ≤ 255) 0x60 0xC7 (omega arith) (omega arith) opcode is in
      let command : Command opcode 0 1 ChipErase = chip-erases opcode is in
      let some : 1 ≤ S = permitted-some (length m) (chip-facts c (length m) fit.state_legal).length_permitted in
      begins _ _ _ _
      (begins_at (opcode ∷ []) c.load (opcode_frame opcode (judge c.core opcode)) (small, _) (opens_opcode c m area fit ready.quiet.unselected opcode small) opcode 0 1 1 ChipErase command
      (record { is_open = refl; opcode_is = refl; address_is = refl; unjudged = ready_takes c m area ready opcode command.known; so_many = omega arith }) (omega arith) refl refl
      (any_by_level c.core.level c.core.tb S some ∙ ap not (eq-eqb _ _ level-none)) 0 refl)

  -- a write status, with its value
  write_status_begins : (value : ℕ) → value ≤ 255 → (c.core.srwp && not c.core.wp) ≡ false → Begins ours c m area (0x01 ∷ value ∷ []) (WriteStatus value) 0
  unfolding AllBytes fits_rule
  write_status_begins value byte unlocked =
      let command : Command 0x01 value 2 (WriteStatus value) = status_writes value byte in
      begins _ _ _ _
      (begins_at (0x01 ∷ value ∷ []) c.load _ (omega arith, (byte, _)) (opens_value c m area fit ready.quiet.unselected value byte (ready_takes c m area ready 0x01 command.known))
      0x01 value 2 2 (WriteStatus value) command (record { is_open = refl; opcode_is = refl; address_is = refl; unjudged = refl; so_many = omega arith }) (omega arith) refl unlocked refl 0 refl)

  -- Ours begins its jobs from their bytes, as the demand says.
  pub ours_jobs_from_bytes : JobsFromBytes ours c m area
  ours_jobs_from_bytes =
      record {
        program = program_begins;
        small_erase = λ opcode A is small free.
            erase_begins opcode A SmallErase (small_erases opcode A is) (among_two (λ (q : ℕ). has_address q ≡ true) 0x20 0xD7 refl refl opcode is) refl small
            (free_start 4096 A (λ x. omega arith) free) (A % length m / 4096 * 4096) (rounds 4096 A down_4096);
        sector_erase_lem = λ A small free.
            erase_begins 0xD8 A SectorErase (sector-erases A) refl refl small
            (free_start 65536 A (λ x. omega arith) free) (A % length m / 65536 * 65536) (rounds 65536 A down_65536);
        chip_erase_lem = chip_erase_begins;
        write_status_lem = write_status_begins;
      }
