-- Laws of the margin report: the cases of a line, what is tidy stays so, and a margin in plain numbers.
use Rattle.std.specs.Prelude.{ℕ, ◌+◌, ◌-◌, ◌≤◌, ◌<◌, min, zero, suc, Bool, true, false, ◌&&◌, ◌≡◌, refl, eqb, leb, ℤ, pos, negsuc}
use Rattle.std.proofs.Common.{arith, sym, ap, ◌∙◌, subst, SFits, to_z, of_z, to_z-of_z, leb-true, leb-false, lt-ltb, le-ltb, eq-eqb, ne_eqb}
use Rattle.std.specs.Int.Signed.{lt_z}
use Rattle.std.specs.Int.{w32}
use Rattle.cells.specs.Choice.{cond_yes, cond_no, cond_either, and_left, and_right, and_four}
use Rattle.chip.specs.declared.JobKind.{JobKind}
use Rattle.chip.specs.declared.JobKind.TheVariants.{Idle, WriteStatus, Program, SmallErase, SectorErase, ChipErase}
use Rattle.margins.specs.declared.Line.{Line}
use Rattle.margins.specs.declared.Report.{Report}
use Rattle.margins.specs.declared.Allowances.{Allowances}
use Rattle.margins.specs.Margins.{allowed, allowance_of, margin, line, lesser, greater, most_jobs, joined, tidy_line, tidied, counted}

-- ---- a line

-- two margins compared by their bits are compared as numbers
pub bits_less : {a b : ℤ} {t : Bool} → SFits w32 a → SFits w32 b → lt_z (to_z w32 (of_z w32 a)) (to_z w32 (of_z w32 b)) ≡ t → lt_z a b ≡ t
bits_less p q e = rw (to_z-of_z p, to_z-of_z q) at e

-- a line's first margin is both its smallest and its largest, whatever stood there
pub joined-first : (m : ℤ) (l : Line) → l.count ≡ 0 → joined m l ≡ line 1 m m
unfolding joined
joined-first m l h = cond_yes _ _ _ (eq-eqb _ _ h)

-- a later one joins those that stand there
pub joined-later : (m : ℤ) (l : Line) → (l.count ≡ 0 → ⊥) → joined m l ≡ line (min (l.count + 1) most_jobs) (lesser m l.smallest) (greater m l.largest)
unfolding joined
joined-later m l h = cond_no _ _ _ (ne_eqb _ _ h)

-- a line without jobs has no margins
pub tidy-empty : (l : Line) → l.count ≡ 0 → tidy_line l ≡ line 0 (pos 0) (pos 0)
unfolding tidy_line
tidy-empty l h = cond_yes _ _ _ (eq-eqb _ _ h)

-- a line with jobs is tidy
pub tidy-kept : (l : Line) → (l.count ≡ 0 → ⊥) → tidy_line l ≡ l
unfolding tidy_line
tidy-kept l h = cond_no _ _ _ (ne_eqb _ _ h)

-- a tidy line stays as it is
pub tidy-tidy : (l : Line) → tidy_line (tidy_line l) ≡ tidy_line l
unfolding tidy_line
tidy-tidy l = cond_either (λ k. tidy_line k ≡ k) (eqb l.count 0) (line 0 (pos 0) (pos 0)) l (λ _. refl) (λ e. cond_no _ _ _ e)

-- a line with one margin more has a job, and so is tidy
pub tidy-joined : (m : ℤ) (l : Line) → tidy_line (joined m l) ≡ joined m l
unfolding joined
tidy-joined m l =
    cond_either (λ k. tidy_line k ≡ k) (eqb l.count 0) (line 1 m m) (line (min (l.count + 1) most_jobs) (lesser m l.smallest) (greater m l.largest))
    (λ _. tidy-kept _ (λ e. omega arith))
    (λ _. tidy-kept _ (λ e. omega arith))

-- ---- the report

-- a tidy report stays as it is
pub tidied-tidied : (r : Report) → tidied (tidied r) ≡ tidied r
tidied-tidied r = rw (tidy-tidy r.status, tidy-tidy r.program, tidy-tidy r.small, tidy-tidy r.sector, tidy-tidy r.chip)

-- a tidy report with one job more is tidy
pub tidied-counted : (kind : JobKind) (m : ℤ) (r : Report) → tidied r ≡ r → tidied (counted kind m r) ≡ counted kind m r
tidied-counted kind m r h = go kind
  where
    status : tidy_line r.status ≡ r.status
    status = ap (λ (x : Report). x.status) h

    program : tidy_line r.program ≡ r.program
    program = ap (λ (x : Report). x.program) h

    small : tidy_line r.small ≡ r.small
    small = ap (λ (x : Report). x.small) h

    sector : tidy_line r.sector ≡ r.sector
    sector = ap (λ (x : Report). x.sector) h

    chip : tidy_line r.chip ≡ r.chip
    chip = ap (λ (x : Report). x.chip) h

    go : (kind : JobKind) → tidied (counted kind m r) ≡ counted kind m r
    go Idle = h
    go (WriteStatus value) = rw (tidy-joined m r.status, program, small, sector, chip)
    go Program = rw (status, tidy-joined m r.program, small, sector, chip)
    go SmallErase = rw (status, program, tidy-joined m r.small, sector, chip)
    go SectorErase = rw (status, program, small, tidy-joined m r.sector, chip)
    go ChipErase = rw (status, program, small, sector, tidy-joined m r.chip)

-- ---- allowances and margins

-- five tests that hold together hold one by one
and_five : (a b c d e : Bool) → (a && b && c && d && e) ≡ true → (a ≡ true) × (b ≡ true) × (c ≡ true) × (d ≡ true) × (e ≡ true)
and_five a b c d e h =
    let four = and_four a b c d (and_left (a && b && c && d) e h) in
    (four.0, four.1, four.2, four.3, and_right (a && b && c && d) e h)

-- allowances that are allowed are each in range
pub allowed-each : (a : Allowances) → allowed a ≡ true → (a.status ≤ 1000000) × (a.program ≤ 1000000) × (a.small ≤ 1000000) × (a.sector ≤ 1000000) × (a.chip ≤ 1000000)
unfolding allowed
allowed-each a h =
    let each = and_five (leb a.status 1000000) (leb a.program 1000000) (leb a.small 1000000) (leb a.sector 1000000) (leb a.chip 1000000) h in
    (leb-true _ _ each.0, leb-true _ _ each.1, leb-true _ _ each.2, leb-true _ _ each.3, leb-true _ _ each.4)

-- so the allowance of any kind of job is in range
pub allowed-most : (kind : JobKind) (a : Allowances) → allowed a ≡ true → allowance_of kind a ≤ 1000000
allowed-most Idle a h = omega arith
allowed-most (WriteStatus value) a h = (allowed-each a h).0
allowed-most Program a h = (allowed-each a h).1
allowed-most SmallErase a h = (allowed-each a h).2
allowed-most SectorErase a h = (allowed-each a h).3
allowed-most ChipErase a h = (allowed-each a h).4

-- a job that used no more than it was allowed has what is left as its margin
pub margin-early : (allowance used : ℕ) → used ≤ allowance → margin allowance used ≡ pos (allowance - used)
margin-early allowance zero h = ap pos (omega arith)
margin-early allowance (suc used) h = cond_no _ _ _ (le-ltb allowance (suc used) h)

-- a late job's margin is below 0 by what it used beyond its allowance
pub margin-late : (allowance used : ℕ) → allowance < used → margin allowance used ≡ negsuc (used - allowance - 1)
margin-late allowance zero h = absurd (omega arith)
margin-late allowance (suc used) h = cond_yes _ _ _ (lt-ltb allowance (suc used) h) ∙ ap negsuc (omega arith)

-- a margin fits 32 bits, for any allowance in range and any number of ticks that a job can use
pub margin-fits : (allowance used : ℕ) → allowance ≤ 1000000 → used ≤ 1431633920 → SFits w32 (margin allowance used)
margin-fits allowance used a u = go (leb used allowance) refl
  where
    go : (t : Bool) → leb used allowance ≡ t → SFits w32 (margin allowance used)
    go true e = subst (SFits w32) (sym (margin-early allowance used (leb-true _ _ e))) (record { sfits = omega arith })
    go false e = subst (SFits w32) (sym (margin-late allowance used (leb-false _ _ e))) (record { sfits = omega arith })
