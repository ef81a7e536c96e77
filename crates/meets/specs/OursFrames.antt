-- Ours, in a frame: the bytes of its opening and the events inside it are good, so the world that they reach is the definitions' own.
use Rattle.std.specs.Prelude.{ℕ, ◌/◌, ◌%◌, ◌^◌, ◌<◌, ◌≤◌, false, List, [], ◌∷◌, ◌++◌, ◌≡◌, refl, length, replicate}
use Rattle.std.proofs.Common.{sym, ap, subst, ◌∙◌, arith, le-leb}
use Rattle.part.specs.Part.{Setting, setting_of, sectors_in, length_of}
use Rattle.kinds.specs.Kinds.{known_in_script, known_kind, kind_row_in, kind_row}
use Rattle.kinds.proofs.Laws.{exchange-range}
use Rattle.chip.specs.declared.Chip.{Chip}
use Rattle.chip.specs.declared.Frame.{Frame}
use Rattle.chip.specs.Chip.{whole, running}
use Rattle.legal.proofs.Legality.{chip-facts}
use Rattle.script.specs.Script.{Event}
use Rattle.script.specs.Run.{World, world, does, runs}
use Rattle.demands.specs.Model.{Model, ours, event, sends, Good, AllGood, Fit, does_by, onward_by, runs_by}
use Rattle.demands.specs.Demand2.{AllInside, AllBytes, bytes_of, opened}
use Rattle.meets.specs.Ours.{told, done_as, runs-ours, fit_runs}
use Rattle.meets.specs.Array.{part_is_memory}
use Rattle.meets.specs.Cut.{length_runs}
use Rattle.meets.specs.Inside.{GoesOn, inside_good, frame-along, cells_rest}
use Rattle.meets.specs.Opening.{Opens}

-- ---- the part

-- The part is as long as the memory that fits.
pub as_long : (c : Chip) (m area : List ℕ) → Fit c m area → length_of (sectors_in (length m)) ≡ length m
as_long c m area fit = part_is_memory m area (chip-facts c (length m) fit.state_legal).length_permitted

-- ---- bytes

-- the bytes of an address
pub address-bytes : (A : ℕ) (bs : List ℕ) → A < 2 ^ 24 → AllBytes bs → AllBytes (A / 65536 ∷ A / 256 % 256 ∷ A % 256 ∷ bs)
unfolding AllBytes
address-bytes A bs small rest = (omega arith, (omega arith, (omega arith, rest)))

-- nothing is wrong with a byte that is sent
pub byte-good : (b : ℕ) → b ≤ 255 → Good (event 0x02 b)
unfolding known_kind known_in_script kind_row kind_row_in
byte-good b small = (refl, exchange-range b ∙ le-leb b 255 small)

-- nor with a row of them
sends-good : (bs : List ℕ) → AllBytes bs → AllGood (sends bs)
unfolding AllBytes AllGood
sends-good [] small = small
sends-good (b ∷ bs) small = (byte-good b small.0, sends-good bs small.1)

-- nor with a select before it
opening_good : (bs : List ℕ) → AllBytes bs → AllGood (event 0x01 0 ∷ sends bs)
unfolding AllGood known_kind known_in_script kind_row kind_row_in
opening_good bs small = ((refl, refl), sends-good bs small)

-- ---- worlds

-- What an event says in a world that fits, with the setting of a memory of that length.
pub says-as : (n : ℕ) (area : List ℕ) (e : Event) (w : World) → Fit w.chip w.memory area → length w.memory ≡ n → Good e
    → does_by ours area e w ≡ told (does (setting_of n area) e w)
says-as n area e w fit long good =
    done_as w.chip w.memory area fit e.kind e.body good.0 good.1 ∙ ap (λ (q : ℕ). told (does (setting_of q area) e w)) long

-- The world after an opening of these bytes is the definitions' own.
pub opened-as : (c : Chip) (m area bs : List ℕ) → Fit c m area → AllBytes bs → opened ours c m area bs ≡ runs (setting_of (length m) area) (event 0x01 0 ∷ sends bs) (world c m [] 0)
opened-as c m area bs fit small = runs-ours area (event 0x01 0 ∷ sends bs) (world c m [] 0) fit (opening_good bs small)

-- a row in two parts
pub runs_by-add : (M : Model) (area : List ℕ) (es fs : List Event) (w : World) → runs_by M area (es ++ fs) w ≡ runs_by M area fs (runs_by M area es w)
unfolding runs_by
runs_by-add M area [] fs w = refl
runs_by-add M area (e ∷ es) fs w = runs_by-add M area es fs (onward_by M area e w)

-- the world after an opening of these bytes and then these events: it fits, and it is the definitions' own
pub record Reached (c : Chip) (m area bs : List ℕ) (es : List Event) : Type 0 where
  pub fits : Fit (runs_by ours area es (opened ours c m area bs)).chip (runs_by ours area es (opened ours c m area bs)).memory area
  pub long : length (runs_by ours area es (opened ours c m area bs)).memory ≡ length m
  pub as_defined : runs_by ours area es (opened ours c m area bs) ≡ runs (setting_of (length m) area) es (runs (setting_of (length m) area) (event 0x01 0 ∷ sends bs) (world c m [] 0))

-- An opening and any good events reach such a world.
pub reached : (c : Chip) (m area bs : List ℕ) (es : List Event) → Fit c m area → AllBytes bs → AllGood es → Reached c m area bs es
reached c m area bs es fit small good =
    let T : Setting = setting_of (length m) area in
    let first : World = runs T (event 0x01 0 ∷ sends bs) (world c m [] 0) in
    let opens : opened ours c m area bs ≡ first = opened-as c m area bs fit small in
    let open-fits : Fit (opened ours c m area bs).chip (opened ours c m area bs).memory area = fit_runs area (event 0x01 0 ∷ sends bs) (world c m [] 0) fit (opening_good bs small) in
    let open-long : length (opened ours c m area bs).memory ≡ length m = ap (λ (w : World). length w.memory) opens ∙ length_runs T (event 0x01 0 ∷ sends bs) (world c m [] 0) in
    let as_defined : runs_by ours area es (opened ours c m area bs) ≡ runs T es first =
    runs-ours area es (opened ours c m area bs) open-fits good ∙ (λ i. runs (setting_of (open-long i) area) es (opens i)) in
    record {
      fits = fit_runs area es (opened ours c m area bs) open-fits good;
      long = ap (λ (w : World). length w.memory) as_defined ∙ length_runs T es first ∙ length_runs T (event 0x01 0 ∷ sends bs) (world c m [] 0);
      as_defined = as_defined;
    }

-- ---- inside a frame

module _ (c : Chip) (m area : List ℕ) (fit : Fit c m area) (opening : List ℕ) (bytes : AllBytes opening) (f : Frame) (opens : Opens c m area opening f) where
  abbrev T : Setting
  T = setting_of (length m) area

  -- The bytes of an opening float.
  pub opening_floats : (opened ours c m area opening).written ≡ replicate (length opening) 0x80
  opening_floats = ap (λ (w : World). w.written) (opened-as c m area opening fit bytes ∙ opens)

  module _ (es : List Event) (inside : AllInside es) where
    -- the world after these events, and the one at the frame's opening
    abbrev there : World
    there = runs_by ours area es (opened ours c m area opening)

    abbrev first : World
    first = world (whole c.core f c.load c.held) m (replicate (length opening) 0x80) 0

    -- the definitions reach it from there
    arrived : Reached c m area opening es
    arrived = reached c m area opening es fit bytes (inside_good es inside)

    there_as : there ≡ runs T es first
    there_as = arrived.as_defined ∙ ap (runs T es) opens

    -- After any events inside the frame the chip still fits,
    pub still_fits : Fit there.chip there.memory area
    still_fits = arrived.fits

    -- a good event does what the definitions say,
    pub does_as : (e : Event) → Good e → does_by ours area e there ≡ told (does T e there)
    does_as e good = says-as (length m) area e there arrived.fits arrived.long good

    -- what the bytes carry on holds of the frame,
    pub frame_there : (F : ℕ → Frame → Type 0) → GoesOn T F → F 0 f → F (bytes_of es) there.chip.frame
    frame_there F goes begins = subst (λ (w : World). F (bytes_of es) w.chip.frame) (sym there_as) (frame-along T F goes es inside first begins)

    -- and where no job runs the cells are the same.
    pub same_cells : running c.core ≡ false → there.memory ≡ m
    same_cells rests = ap (λ (w : World). w.memory) there_as ∙ cells_rest T es inside first rests
