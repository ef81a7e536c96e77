-- The verdict of the definitions is that of Demand 2's list: the job part, command by command, and the list above it.
use Rattle.std.specs.Prelude.{ℕ, ◌/◌, ◌%◌, Bool, true, false, cond, not, ◌&&◌, ◌||◌, [], ◌∷◌, ◌≡◌, eqb, ltb}
use Rattle.std.proofs.Math.Path.{refl}
use Rattle.std.proofs.Common.{sym, ap, subst, ◌∙◌, arith, ne_eqb}
use Rattle.std.proofs.Math.Decide.{ℕ_discrete}
use Rattle.cells.specs.Choice.{cond_yes, cond_no, not_so}
use Rattle.part.specs.Part.{permitted, sectors_in, length_of, page, small_sector, sector, rounded_down}
use Rattle.part.specs.Protection.{protected_count, protected_sectors, protects_any, is_protected}
use Rattle.part.proofs.Laws.{permitted-whole, permitted-some, any_by_level}
use Rattle.commands.specs.Table.{row_of, fits_rule, is_read, is_program}
use Rattle.chip.specs.declared.Core.{Core}
use Rattle.chip.specs.declared.Frame.{Frame}
use Rattle.chip.specs.Fields.{with_armed}
use Rattle.chip.specs.Job.{is_job}
use Rattle.chip.specs.Chip.{running, suspendable}
use Rattle.chip.specs.Record.{record_bytes}
use Rattle.frame.specs.Frame.{judge}
use Rattle.verdict.specs.Verdict.{job_of, start_of, job_verdict, command_verdict, listed, verdict, record_of}
use Rattle.verdict.specs.Effect.{acted, settled}
use Rattle.verdict.proofs.Laws.{record_plain, record_nine}
use Rattle.demands.specs.Demand2.{among, in_one_sector, of_the_chip, begins_job, verdict_of, says_verdict}

-- ---- the commands that begin a job

-- what holds of each of them, and of an opcode that is none of them, holds of every opcode
job_each : (P : ℕ → Type 0) → P 0x01 → P 0x02 → P 0x0A → P 0x20 → P 0xD7 → P 0xD8 → P 0x60 → P 0xC7
    → ((opcode : ℕ) → eqb opcode 0x01 ≡ false → eqb opcode 0x02 ≡ false → eqb opcode 0x0A ≡ false → eqb opcode 0x20 ≡ false → eqb opcode 0xD7 ≡ false → eqb opcode 0xD8 ≡ false → eqb opcode 0x60 ≡ false → eqb opcode 0xC7 ≡ false → P opcode)
    → (opcode : ℕ) → P opcode
job_each P p₁ p₂ p₃ p₄ p₅ p₆ p₇ p₈ other opcode =
    go (ℕ_discrete opcode 0x01) (ℕ_discrete opcode 0x02) (ℕ_discrete opcode 0x0A) (ℕ_discrete opcode 0x20) (ℕ_discrete opcode 0xD7) (ℕ_discrete opcode 0xD8) (ℕ_discrete opcode 0x60) (ℕ_discrete opcode 0xC7)
  where
    at : {x : ℕ} → opcode ≡ x → P x → P opcode
    at e p = subst P (sym e) p

    go : Dec (opcode ≡ 0x01) → Dec (opcode ≡ 0x02) → Dec (opcode ≡ 0x0A) → Dec (opcode ≡ 0x20) → Dec (opcode ≡ 0xD7) → Dec (opcode ≡ 0xD8) → Dec (opcode ≡ 0x60) → Dec (opcode ≡ 0xC7) → P opcode
    go (yes e) b c d f g h i = at e p₁
    go (no a) (yes e) c d f g h i = at e p₂
    go (no a) (no b) (yes e) d f g h i = at e p₃
    go (no a) (no b) (no c) (yes e) f g h i = at e p₄
    go (no a) (no b) (no c) (no d) (yes e) g h i = at e p₅
    go (no a) (no b) (no c) (no d) (no f) (yes e) h i = at e p₆
    go (no a) (no b) (no c) (no d) (no f) (no g) (yes e) i = at e p₇
    go (no a) (no b) (no c) (no d) (no f) (no g) (no h) (yes e) = at e p₈
    go (no a) (no b) (no c) (no d) (no f) (no g) (no h) (no i) = other opcode (ne_eqb _ _ a) (ne_eqb _ _ b) (ne_eqb _ _ c) (ne_eqb _ _ d) (ne_eqb _ _ f) (ne_eqb _ _ g) (ne_eqb _ _ h) (ne_eqb _ _ i)

-- ---- from test 8 on

module _ (n : ℕ) (p : permitted n ≡ true) (k : Core) (address : ℕ) where
  -- the definitions' job verdict, and the end of the list, for an opcode
  abbrev defined : ℕ → ℕ
  defined opcode =
      cond (is_job (job_of opcode address))
      (job_verdict (sectors_in n) k (record { kind = job_of opcode address; start = start_of (sectors_in n) (job_of opcode address) address; done = 0 })) 1

  abbrev in_list : ℕ → ℕ
  in_list opcode =
      cond (begins_job opcode && not k.wen) 8
      (cond (eqb opcode 0x01 && k.srwp && not k.wp) 10
      (cond (in_one_sector opcode && is_protected k.level k.tb (sectors_in n) (address % n / 65536)) 9
      (cond (of_the_chip opcode && not (eqb k.level 0)) 9
      (cond (begins_job opcode) 2 1))))

  -- the verdict of a job in one sector, that sector being x
  abbrev of_sector : ℕ → ℕ
  of_sector x = cond (not k.wen) 8 (cond (is_protected k.level k.tb (sectors_in n) x) 9 2)

  -- a job's place lies in the sector of its address
  same_sector : (size : ℕ) → rounded_down size (address % length_of (sectors_in n)) / sector ≡ address % length_of (sectors_in n) / sector
      → of_sector (rounded_down size (address % length_of (sectors_in n)) / sector) ≡ of_sector (address % n / 65536)
  same_sector size same = ap of_sector (same ∙ ap (λ (q : ℕ). address % q / 65536) (permitted-whole n p))

  -- a chip erase is kept off by every level but 0
  abbrev of_chip : Bool → ℕ
  of_chip kept_off = cond (not k.wen) 8 (cond kept_off 9 2)

  by_level : of_chip (protects_any (protected_sectors k.level k.tb (sectors_in n))) ≡ of_chip (not (eqb k.level 0))
  by_level = ap of_chip (any_by_level k.level k.tb (sectors_in n) (permitted-some n p))

  job_part : (opcode : ℕ) → defined opcode ≡ in_list opcode
  unfolding job_of job_verdict is_program
  job_part =
      job_each (λ opcode. defined opcode ≡ in_list opcode)
      status
      (same_sector page (omega arith))
      (same_sector page (omega arith))
      (same_sector small_sector (omega arith))
      (same_sector small_sector (omega arith))
      (same_sector sector (omega arith))
      by_level
      by_level
      none
    where
      status : defined 0x01 ≡ in_list 0x01
      status = refl

      none : (opcode : ℕ) → eqb opcode 0x01 ≡ false → eqb opcode 0x02 ≡ false → eqb opcode 0x0A ≡ false → eqb opcode 0x20 ≡ false → eqb opcode 0xD7 ≡ false → eqb opcode 0xD8 ≡ false → eqb opcode 0x60 ≡ false → eqb opcode 0xC7 ≡ false → defined opcode ≡ in_list opcode
      none opcode a b c d e f g h = rw (a, b, c, d, e, f, g, h)

-- ---- the whole list

-- five tests in a row, written either way
pub five_tests : (a b c d e : Bool) → (a || b || c || d || e) ≡ (a || (b || (c || (d || (e || false)))))
five_tests true b c d e = refl
five_tests false true c d e = refl
five_tests false false true d e = refl
five_tests false false false true e = refl
five_tests false false false false true = refl
five_tests false false false false false = refl

-- the reads of the definitions are those of the list
read-among : (opcode : ℕ) → is_read opcode ≡ among (0x05 ∷ 0x03 ∷ 0x0B ∷ 0x9F ∷ 0x5A ∷ []) opcode
unfolding is_read
read-among opcode = five_tests (eqb opcode 0x05) (eqb opcode 0x03) (eqb opcode 0x0B) (eqb opcode 0x9F) (eqb opcode 0x5A)

-- The verdict is the judgement, or the first of the list that applies; it is loose if some bits of a byte had gone in.
pub verdict-as : (n : ℕ) (k : Core) (f : Frame) (bits : ℕ) → permitted n ≡ true → verdict (sectors_in n) k f (ltb 0 bits) ≡ verdict_of n k f bits
unfolding verdict listed command_verdict judge
verdict-as n k f bits p =
    ap (λ (v : ℕ). cond (eqb f.count 0) 0 (cond (not (eqb f.judgement 0)) f.judgement v))
    (ap (above (is_read f.opcode) suspendless) (job_part n p k f.address f.opcode)
    ∙ ap (λ (i : Bool). above i suspendless (in_list n p k f.address f.opcode)) (read-among f.opcode)
    ∙ ap (λ (s : Bool). above (among (0x05 ∷ 0x03 ∷ 0x0B ∷ 0x9F ∷ 0x5A ∷ []) f.opcode) s (in_list n p k f.address f.opcode)) (none_or_waits (eqb f.opcode 0xB0) (suspendable k) k.waiting)
    ∙ go (row_of f.opcode).known (k.deep && not (eqb f.opcode 0xAB)) (running k && not (row_of f.opcode).running) (k.suspended && not (row_of f.opcode).suspended)
    (eqb f.opcode 0xB0 && not (suspendable k)) (eqb f.opcode 0xB0 && k.waiting) (eqb f.opcode 0x30 && not k.suspended) (eqb f.opcode 0x99 && not k.armed)
    (among (0x05 ∷ 0x03 ∷ 0x0B ∷ 0x9F ∷ 0x5A ∷ []) f.opcode) (ltb 0 bits || not (fits_rule (row_of f.opcode).rule f.count)) (in_list n p k f.address f.opcode))
  where
    -- a suspend with nothing to act on: there is no program or erase running, or it waits already
    suspendless : Bool
    suspendless = eqb f.opcode 0xB0 && not (suspendable k && not k.waiting)

    none_or_waits : (b s w : Bool) → (b && not (s && not w)) ≡ (b && not s || b && w)
    none_or_waits true true true = refl
    none_or_waits true true false = refl
    none_or_waits true false w = refl
    none_or_waits false s w = refl

    above : Bool → Bool → ℕ → ℕ
    above read suspends-none v =
        cond (not (eqb (judge k f.opcode) 0)) (judge k f.opcode)
        (cond read 0
        (cond (ltb 0 bits || not (fits_rule (row_of f.opcode).rule f.count)) 4
        (cond (suspends-none || eqb f.opcode 0x30 && not k.suspended || eqb f.opcode 0x99 && not k.armed) 11 v)))

    go : (a d r s p₀ p₁ p₂ p₃ i b : Bool) (v : ℕ)
        → ◌≡◌ {A = ℕ}
        (cond (not (eqb (cond (not a) 3 (cond d 5 (cond r 6 (cond s 7 0)))) 0)) (cond (not a) 3 (cond d 5 (cond r 6 (cond s 7 0)))) (cond i 0 (cond b 4 (cond (p₀ || p₁ || p₂ || p₃) 11 v))))
        (cond (not a) 3 (cond d 5 (cond r 6 (cond s 7 (cond i 0 (cond b 4 (cond p₀ 11 (cond p₁ 11 (cond p₂ 11 (cond p₃ 11 v))))))))))
    go false d r s p₀ p₁ p₂ p₃ i b v = refl
    go true true r s p₀ p₁ p₂ p₃ i b v = refl
    go true false true s p₀ p₁ p₂ p₃ i b v = refl
    go true false false true p₀ p₁ p₂ p₃ i b v = refl
    go true false false false true p₁ p₂ p₃ i b v = refl
    go true false false false false true p₂ p₃ i b v = refl
    go true false false false false false true p₃ i b v = refl
    go true false false false false false false p₃ i b v = refl

-- The judgement of a frame with a byte is its verdict.
pub verdict-judged : (S : ℕ) (k : Core) (f : Frame) (loose : Bool) → (f.count ≡ 0 → ⊥) → (f.judgement ≡ 0 → ⊥) → verdict S k f loose ≡ f.judgement
unfolding verdict
verdict-judged S k f loose c j = cond_no (eqb f.count 0) _ _ (ne_eqb _ _ c) ∙ cond_yes (not (eqb f.judgement 0)) _ _ (ap not (ne_eqb _ _ j))

-- A verdict other than 0 has a byte to speak of, so it acts, and then arms or disarms.
pub settled-acts : (S : ℕ) (k : Core) (f : Frame) (loose : Bool) (v : ℕ) → verdict S k f loose ≡ v → (v ≡ 0 → ⊥) → settled S k f v ≡ with_armed (eqb f.opcode 0x66 && eqb v 1) (acted S k f v)
unfolding verdict settled
settled-acts S k f loose v is some = cond_no (eqb f.count 0) _ _ (not_so (eqb f.count 0) (λ none. some (sym is ∙ cond_yes (eqb f.count 0) _ _ none)))

-- ---- what is said of a verdict

-- The record of a verdict has the bytes of Demand 2; where verdict 9 falls there are sectors to tell.
pub record_says : (n : ℕ) (k : Core) (v : ℕ) → (v ≡ 9 → protected_count k.level (sectors_in n) ≡ 0 → ⊥) → record_bytes (record_of (sectors_in n) k v) ≡ says_verdict n k v
record_says n k v finds = go (ℕ_discrete v 9)
  where
    go : Dec (v ≡ 9) → record_bytes (record_of (sectors_in n) k v) ≡ says_verdict n k v
    go (yes nine) = ap (λ (u : ℕ). record_bytes (record_of (sectors_in n) k u)) nine ∙ ap record_bytes (record_nine (sectors_in n) k (finds nine)) ∙ sym (ap (says_verdict n k) nine)
    go (no other) = ap record_bytes (record_plain (sectors_in n) k v other) ∙ sym (cond_no (eqb v 9) _ _ (ne_eqb v 9 other))
