-- What is true of a row of data bytes: where it leads, that it goes on being one, and what is told of the cells of a read.
use Rattle.std.specs.Prelude.{ℕ, zero, suc, ◌+◌, ◌*◌, ◌-◌, ◌%◌, ◌<◌, ◌≤◌, Bool, true, false, cond, ◌&&◌, ◌||◌, List, ◌++◌, ◌≡◌, refl, eqb, ltb, leb, length, get_or}
use Rattle.std.proofs.Math.Bool.{or-true}
use Rattle.std.proofs.lemmas.Bool.{false≢true}
use Rattle.std.proofs.Common.{append-nil, append_assoc, sym, ap, ◌∙◌, add-zero, zero-add, add-suc, arith, length-append, lt-ltb, le-ltb, le-leb, leb-true, ltb-true, ltb-false}
use Rattle.cells.specs.Choice.{cond_yes, cond_no, cond_either, and_left, and_right, and_both}
use Rattle.chip.specs.declared.Frame.{Frame}
use Rattle.chip.specs.declared.Record.TheVariants.{Driven}
use Rattle.chip.specs.Record.{record_bytes}
use Rattle.commands.specs.Table.{is_program, low_power_read, high_speed_read}
use Rattle.frame.specs.Frame.{counted, next_place, next_slot, reads_cell, takes_data}
use Rattle.frame.specs.Stream.{is_data, streams, place_on, count_on, read_on, slot_on, load_on, cells_on, cells_up}
use Rattle.frame.specs.StreamLaws.{cell_no_program}

-- ---- places

-- inside the row each place is the next one up
pub place_up : (N place n : ℕ) → place + n < N → place_on N place n ≡ place + n
unfolding place_on
place_up N place zero h = sym (add-zero place)
place_up N place (suc n) h =
    ap (next_place N) (place_up N place n (omega arith)) ∙ cond_yes (ltb (place + n + 1) N) _ _ (lt-ltb (place + n + 1) N (omega arith)) ∙ omega arith

-- past its end it goes on at 0
pub place-over : (N place a n : ℕ) → place + a ≡ N → 0 < a → n < N → place_on N place (a + n) ≡ n
unfolding place_on
place-over N place zero n e some h = absurd (omega arith)
place-over N place (suc a) zero e some h =
    ap (place_on N place) (add-zero (suc a))
    ∙ ap (next_place N) (place_up N place a (omega arith))
    ∙ cond_no (ltb (place + a + 1) N) _ _ (le-ltb (place + a + 1) N (omega arith))
place-over N place (suc a) (suc n) e some h =
    ap (place_on N place) (add-suc (suc a) n)
    ∙ ap (next_place N) (place-over N place (suc a) n e some (omega arith))
    ∙ cond_yes (ltb (n + 1) N) _ _ (lt-ltb (n + 1) N (omega arith))
    ∙ omega arith

-- both as one test
pub place-as : (N place n : ℕ) → place < N → n ≤ N → place_on N place n ≡ cond (ltb (place + n) N) (place + n) (place + n - N)
place-as N place n inside few =
    cond_either (λ (q : ℕ). place_on N place n ≡ q) (ltb (place + n) N) _ _ (λ e. place_up N place n (ltb-true _ _ e))
    (λ e.
    let over : N ≤ place + n = ltb-false _ _ e in
    let apart : N - place + (place + n - N) ≡ n = omega arith in
    sym (ap (place_on N place) apart) ∙ place-over N place (N - place) (place + n - N) (omega arith) (omega arith) (omega arith))

-- load places are counted modulo 256
pub slot_as : (slot n : ℕ) → slot < 256 → slot_on slot n ≡ (slot + n) % 256
unfolding slot_on
slot_as slot zero h = omega arith
slot_as slot (suc n) h = ap next_slot (slot_as slot n h) ∙ omega arith

-- ---- counts

pub count_as : (count n : ℕ) → 0 < n → count_on count n ≡ cond (ltb (count + n) 6) (count + n) 6
unfolding count_on
count_as count zero some = absurd (omega arith)
count_as count (suc zero) some =
    cond_either (λ (q : ℕ). counted count ≡ q) (ltb (count + 1) 6) _ _ (λ e. cond_yes (ltb count 6) _ _ (lt-ltb count 6 (omega (arith, ltb-true (count + 1) 6 e))))
    (λ e. go (ltb count 6) refl (ltb-false _ _ e))
  where
    go : (b : Bool) → ltb count 6 ≡ b → 6 ≤ count + 1 → cond b (count + 1) 6 ≡ 6
    go true p over = omega (arith, ltb-true count 6 p)
    go false p over = refl
count_as count (suc (suc n)) some =
    ap counted (count_as count (suc n) (omega arith))
    ∙ cond_either (λ (q : ℕ). counted q ≡ cond (ltb (count + suc (suc n)) 6) (count + suc (suc n)) 6) (ltb (count + suc n) 6) _ _ (λ e. below (ltb-true _ _ e)) (λ e. above (ltb-false _ _ e))
  where
    below : count + suc n < 6 → counted (count + suc n) ≡ cond (ltb (count + suc (suc n)) 6) (count + suc (suc n)) 6
    below h =
        cond_yes (ltb (count + suc n) 6) _ _ (lt-ltb _ _ h)
        ∙ cond_either (λ (q : ℕ). count + suc n + 1 ≡ q) (ltb (count + suc (suc n)) 6) _ _ (λ _. omega arith) (λ e. omega (arith, ltb-false (count + suc (suc n)) 6 e))

    above : 6 ≤ count + suc n → counted 6 ≡ cond (ltb (count + suc (suc n)) 6) (count + suc (suc n)) 6
    above h = sym (cond_no (ltb (count + suc (suc n)) 6) _ _ (le-ltb (count + suc (suc n)) 6 (omega arith)))

-- a count only goes up
count_up : (count n k : ℕ) → k ≤ count → k ≤ 6 → k ≤ count_on count n
unfolding count_on
count_up count zero k h small = h
count_up count (suc n) k h small =
    cond_either (λ (q : ℕ). k ≤ q) (ltb (count_on count n) 6) _ _ (λ _. omega (arith, count_up count n k h small)) (λ _. small)

-- ---- a read goes on being one

reads_on : (N n : ℕ) (f : Frame) → reads_cell f ≡ true → reads_cell (read_on N n f) ≡ true
reads_on N n f h = go (eqb f.opcode low_power_read) (eqb f.opcode high_speed_read) (leb 4 f.count) (leb 5 f.count) refl refl h
  where
    later : (k : ℕ) → k ≤ 6 → leb k f.count ≡ true → leb k (count_on f.count n) ≡ true
    later k small e = le-leb k (count_on f.count n) (count_up f.count n k (leb-true k f.count e) small)

    go : (low high four five : Bool) → leb 4 f.count ≡ four → leb 5 f.count ≡ five → (low && four || high && five) ≡ true
        → (low && leb 4 (count_on f.count n) || high && leb 5 (count_on f.count n)) ≡ true
    go true high true five p q e = ap (λ (b : Bool). b || high && leb 5 (count_on f.count n)) (later 4 (omega arith) p)
    go true true false true p q e = absurd (false≢true (sym p ∙ le-leb 4 f.count (omega (arith, leb-true 5 f.count q))))
    go true true false false p q e = absurd (false≢true e)
    go true false false five p q e = absurd (false≢true e)
    go false true four true p q e = later 5 (omega arith) q
    go false true four false p q e = absurd (false≢true e)
    go false false four five p q e = absurd (false≢true e)

pub streams-on : (N n : ℕ) (f : Frame) → streams f ≡ true → reads_cell f ≡ true → streams (read_on N n f) ≡ true
streams-on N n f h cell =
    and_both (f.selected && eqb f.judgement 0) (is_data (read_on N n f)) (and_left (f.selected && eqb f.judgement 0) (is_data f) h)
    (ap (λ (b : Bool). b || takes_data (read_on N n f)) (reads_on N n f cell))

-- and a load one of its own
stream_load : (f : Frame) → streams f ≡ true → is_program f.opcode ≡ true → takes_data f ≡ true
stream_load f h is = go (reads_cell f) (takes_data f) refl refl (and_right (f.selected && eqb f.judgement 0) (is_data f) h)
  where
    go : (cell load : Bool) → reads_cell f ≡ cell → takes_data f ≡ load → (cell || load) ≡ true → takes_data f ≡ true
    go true load p q e = absurd (false≢true (sym (cell_no_program f p) ∙ is))
    go false load p q e = q ∙ e

pub loads_on : (n : ℕ) (f : Frame) → streams f ≡ true → is_program f.opcode ≡ true → streams (load_on n f) ≡ true
loads_on n f h is =
    let four : leb 4 f.count ≡ true = and_right (is_program f.opcode) (leb 4 f.count) (stream_load f h is) in
    let later : leb 4 (count_on f.count n) ≡ true = le-leb 4 (count_on f.count n) (count_up f.count n 4 (leb-true 4 f.count four) (omega arith)) in
    and_both (f.selected && eqb f.judgement 0) (is_data (load_on n f)) (and_left (f.selected && eqb f.judgement 0) (is_data f) h)
    (ap (λ (b : Bool). reads_cell (load_on n f) || b) (and_both (is_program f.opcode) (leb 4 (count_on f.count n)) is later) ∙ or-true (reads_cell (load_on n f)))

-- a data byte of no program is a cell
pub stream_cell : (f : Frame) → streams f ≡ true → is_program f.opcode ≡ false → reads_cell f ≡ true
stream_cell f h none = go (reads_cell f) (takes_data f) refl (ap (λ (b : Bool). b && leb 4 f.count) none) (and_right (f.selected && eqb f.judgement 0) (is_data f) h)
  where
    go : (cell load : Bool) → takes_data f ≡ load → takes_data f ≡ false → (cell || load) ≡ true → cell ≡ true
    go true load p q e = refl
    go false load p q e = sym q ∙ p ∙ e

-- ---- the cells

-- n records of a byte each
pub cells-length : (m : List ℕ) (N place n : ℕ) → length (cells_on m N place n) ≡ 2 * n
unfolding cells_on
cells-length m N place zero = refl
cells-length m N place (suc n) = length-append (cells_on m N place n) _ ∙ omega (arith, cells-length m N place n)

-- up to the end of the row they stand one behind the other
pub cells_up_lem : (m : List ℕ) (N place n : ℕ) → place + n ≤ N → cells_on m N place n ≡ cells_up m place n
unfolding cells_on cells_up
cells_up_lem m N place zero h = refl
cells_up_lem m N place (suc n) h = λ i. cells_up_lem m N place n (omega arith) i ++ record_bytes (Driven (get_or m (place_up N place n (omega arith) i) 0))

-- and past it from 0 on
pub cells_over : (m : List ℕ) (N place a n : ℕ) → place + a ≡ N → 0 < a → n ≤ N → cells_on m N place (a + n) ≡ cells_up m place a ++ cells_up m 0 n
unfolding cells_on cells_up
cells_over m N place a zero e some h = ap (cells_on m N place) (add-zero a) ∙ cells_up_lem m N place a (omega arith) ∙ sym (append-nil (cells_up m place a))
cells_over m N place a (suc n) e some h =
    ap (cells_on m N place) (add-suc a n)
    ∙ (λ i. cells_over m N place a n e some (omega arith) i ++ record_bytes (Driven (get_or m (place-over N place a n e some (omega arith) i) 0)))
    ∙ append_assoc (cells_up m place a) (cells_up m 0 n) _
    ∙ ap (λ (q : ℕ). cells_up m place a ++ (cells_up m 0 n ++ record_bytes (Driven (get_or m q 0)))) (sym (zero-add n))
