-- Demand 2 of 5Ah: when it is taken, its verdict, and that what the wire shows is what the reader hands back (RULES, The SFDP area).
use Rattle.std.specs.Prelude.{ℕ, ◌+◌, ◌%◌, ◌^◌, ◌<◌, ◌≤◌, Bool, true, false, cond, not, ◌&&◌, List, [], ◌∷◌, ◌++◌, ◌≡◌, refl, eqb, length, get_or}
use Rattle.std.proofs.Common.{sym, ap, subst, ◌∙◌, mod-eq_of_lt, arith, eq-eqb, ne_eqb}
use Rattle.std.proofs.Math.Decide.{ℕ_discrete}
use Rattle.cells.specs.Choice.{cond_yes, cond_no}
use Rattle.part.specs.Area.{area_byte}
use Rattle.part.proofs.Laws.{area_byte-inside}
use Rattle.commands.specs.Table.{row_of, row_in, is_read}
use Rattle.chip.specs.declared.Chip.{Chip}
use Rattle.chip.specs.declared.Core.{Core}
use Rattle.chip.specs.declared.Frame.{Frame}
use Rattle.chip.specs.Chip.{running}
use Rattle.frame.specs.Frame.{judge}
use Rattle.verdict.specs.Verdict.{listed, verdict}
use Rattle.script.specs.Script.{Event}
use Rattle.sfdp.specs.Reader as Reader
use Rattle.sfdp.proofs.Laws as ReaderLaws
use Rattle.demands.specs.Model.{ours, address, runs_by}
use Rattle.demands.specs.Demand2.{AllInside, bytes_of, Ready, opened, said_next}
use Rattle.meets.specs.Meets2Reads.{ours_other_reads}

-- ---- when 5Ah is taken

-- Asleep it is judged 5, while a job runs 6, while one is suspended 7, and otherwise not at all.
pub sfdp_judged : (k : Core) → judge k 0x5A ≡ cond k.deep 5 (cond (running k) 6 (cond k.suspended 7 0))
unfolding judge row_of row_in
sfdp_judged k = go k.deep (running k) k.suspended
  where
    go : (d r s : Bool) → ◌≡◌ {A = ℕ} (cond (d && true) 5 (cond (r && true) 6 (cond (s && true) 7 0))) (cond d 5 (cond r 6 (cond s 7 0)))
    go true r s = refl
    go false true s = refl
    go false false true = refl
    go false false false = refl

-- The verdict of a 5Ah frame that was not judged is what it would be judged at its end: 0, at any length and loose or not, if nothing stops it.
pub sfdp_verdict : (S : ℕ) (k : Core) (f : Frame) (loose : Bool) → f.opcode ≡ 0x5A → (f.count ≡ 0 → ⊥) → f.judgement ≡ 0 → verdict S k f loose ≡ judge k 0x5A
unfolding verdict listed is_read
sfdp_verdict S k f loose is-sfdp some none =
    cond_no (eqb f.count 0) _ _ (ne_eqb _ _ some) ∙ cond_no (not (eqb f.judgement 0)) _ _ (ap not (eq-eqb _ _ none)) ∙ go (ℕ_discrete (judge k f.opcode) 0) ∙ ap (judge k) is-sfdp
  where
    go : Dec (judge k f.opcode ≡ 0) → listed S k f loose ≡ judge k f.opcode
    go (yes z) = cond_no (not (eqb (judge k f.opcode) 0)) _ _ (ap not (eq-eqb _ _ z)) ∙ cond_yes (is_read f.opcode) _ _ (ap is_read is-sfdp) ∙ sym z
    go (no z) = cond_yes (not (eqb (judge k f.opcode) 0)) _ _ (ap not (ne_eqb _ _ z))

-- ---- what the wire shows

-- what ours says to byte b in a 5Ah frame at address p, after these events
abbrev pub sfdp_says : Chip → List ℕ → List ℕ → ℕ → ℕ → List Event → ℕ → List ℕ
sfdp_says c m area p dummy es b = said_next ours area (runs_by ours area es (opened ours c m area (0x5A ∷ (address p ++ (dummy ∷ []))))) b

module _ (c : Chip) (m area : List ℕ) (ready : Ready c m area) (dummy b : ℕ) (dummy-byte : dummy ≤ 255) (byte : b ≤ 255) (es : List Event) (inside : AllInside es) where
  -- The j-th data byte, j bytes having gone before, is what stands at (address + j) mod 2^24.
  pub sfdp_goes_round : (p : ℕ) → p < 2 ^ 24 → sfdp_says c m area p dummy es b ≡ 0x81 ∷ get_or area ((p + bytes_of es) % 2 ^ 24) 0xFF ∷ []
  sfdp_goes_round p small = ((ours_other_reads c m area ready).sfdp p dummy small dummy-byte).byte_driven es inside b byte

  -- What the wire shows is what the reader gives: the j-th data byte of a 5Ah frame at a table's pointer is byte j of the part that the reader hands back.
  pub wire_is_table : (identity : ℕ) → Reader.refusal area identity ≡ 0 → bytes_of es < length (Reader.table_of area identity)
      → sfdp_says c m area (Reader.found_of area identity).place dummy es b ≡ 0x81 ∷ get_or (Reader.table_of area identity) (bytes_of es) 0 ∷ []
  wire_is_table identity done early =
      let p : ℕ = (Reader.found_of area identity).place in
      let j : ℕ = bytes_of es in
      let within : j < (Reader.found_of area identity).length = subst (λ (n : ℕ). j < n) (ReaderLaws.table_length_lem area identity) early in
      let small : p + j < 2 ^ 24 = omega (arith, within, ReaderLaws.found_inside area identity, ReaderLaws.area_short area identity done) in
      sfdp_goes_round p (omega (arith, small))
      ∙ ap (λ (q : ℕ). 0x81 ∷ area_byte area q ∷ []) (mod-eq_of_lt small)
      ∙ ap (λ (q : ℕ). 0x81 ∷ q ∷ []) (area_byte-inside area (p + j) (omega (arith, within, ReaderLaws.found_inside area identity)) ∙ sym (ReaderLaws.table_byte area identity j within))
