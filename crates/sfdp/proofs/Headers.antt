-- The headers of an area: which one counts for an identity, and exactly when each number refuses (RULES, The SFDP area).
use Rattle.std.specs.Prelude.{ℕ, zero, suc, ◌+◌, ◌≤◌, ◌<◌, true, false, not, ◌||◌, List, [], ◌∷◌, ◌≡◌, ◌↔◌, ◌⊎◌, eqb, ltb, length, get_or, take}
use Rattle.std.proofs.Math.Path.{refl}
use Rattle.std.proofs.Common.{sym, ap, subst, ◌∙◌, ⊎_elim, arith, length-take, get_or-take, eq-eqb, ne_eqb, eqb-true, ltb-false, le-ltb}
use Rattle.std.proofs.Math.Logic.Iff
use Rattle.std.proofs.Math.Decide.{ℕ_discrete}
use Rattle.std.proofs.lemmas.Bool.{eqb-false, not-false}
use Rattle.cells.specs.Choice.{cond_either, and_four, four_and, either_false, Decides, decides_less, decides_absent, chain_tests, chain_last, flat_three, flat_four}
use Rattle.sfdp.specs.Reader.{signed, header_count, header_at, identity_at, table_length, table_place, first_from, header_of, refusal, found, found_of}
use Rattle.sfdp.proofs.Laws.{first_within, found-done}

-- ---- the header that counts

-- The first header of an identity: one of the area's headers, with that identity, and none before it has it.
pub record FirstHeader (area : List ℕ) (identity h : ℕ) : Type 0 where
  pub is_header : h < header_count area
  pub has_identity : identity_at area h ≡ identity
  pub none_before : (i : ℕ) → i < h → identity_at area i ≡ identity → ⊥

-- No header of the area has the identity.
abbrev pub NoHeader : List ℕ → ℕ → Type 0
NoHeader area identity = (i : ℕ) → i < header_count area → identity_at area i ≡ identity → ⊥

-- an identity has one first header at the most
pub first_unique : (area : List ℕ) (identity h k : ℕ) → FirstHeader area identity h → FirstHeader area identity k → h ≡ k
first_unique area identity h k p q =
    let not-less : h < k → ⊥ = (λ l. q.none_before h l p.has_identity) in
    let not_more : k < h → ⊥ = (λ l. p.none_before k l q.has_identity) in
    omega arith

-- a look passes only headers without the identity
first_passes : (area : List ℕ) (identity i n j : ℕ) → i ≤ j → j < first_from area identity i n → identity_at area j ≡ identity → ⊥
unfolding first_from
first_passes area identity i zero j from below e = omega arith
first_passes area identity i (suc n) j from below e =
    cond_either (λ (h : ℕ). j < h → ⊥) (eqb (identity_at area i) identity) i (first_from area identity (i + 1) n)
    (λ _ l. omega arith)
    (λ f l. go (first_passes area identity (i + 1) n j) f l (ℕ_discrete i j))
    below
  where
    go : (i + 1 ≤ j → j < first_from area identity (i + 1) n → identity_at area j ≡ identity → ⊥) → eqb (identity_at area i) identity ≡ false → j < first_from area identity (i + 1) n → Dec (i ≡ j) → ⊥
    go later f l (yes s) = eqb-false _ _ f (ap (identity_at area) s ∙ e)
    go later f l (no s) = later (omega arith) l e

-- and ends at one that has it, or after the last
first_has : (area : List ℕ) (identity i n : ℕ) → first_from area identity i n < i + n → identity_at area (first_from area identity i n) ≡ identity
unfolding first_from
first_has area identity i zero below = omega arith
first_has area identity i (suc n) below =
    cond_either (λ (h : ℕ). h < i + suc n → identity_at area h ≡ identity) (eqb (identity_at area i) identity) i (first_from area identity (i + 1) n)
    (λ e _. eqb-true _ _ e)
    (λ _ l. first_has area identity (i + 1) n (omega arith))
    below

-- ---- the conditions

-- The signature: the first four bytes are "SFDP"; an area of less than four has it not.
abbrev pub Signed : List ℕ → Type 0
Signed area = take 4 area ≡ 0x53 ∷ 0x46 ∷ 0x44 ∷ 0x50 ∷ []

-- The eight bytes at the start, and eight for each header, lie inside the area.
pub record Headed (area : List ℕ) : Type 0 where
  pub start : 8 ≤ length area
  pub headers : (i : ℕ) → i < header_count area → header_at i + 8 ≤ length area

-- The first header of the identity points at a table that ends past the area.
pub record PointsPast (area : List ℕ) (identity : ℕ) : Type 0 where
  pub header : ℕ
  pub first : FirstHeader area identity header
  pub past : length area < table_place area header + table_length area header

-- The first header of the identity points at a table that lies inside the area.
pub record PointsInside (area : List ℕ) (identity : ℕ) : Type 0 where
  pub header : ℕ
  pub first : FirstHeader area identity header
  pub inside : table_place area header + table_length area header ≤ length area

-- ---- the tests decide them

-- four bytes that are the letters are the signature
letters : (area : List ℕ) → 4 ≤ length area → get_or area 0 0 ≡ 0x53 → get_or area 1 0 ≡ 0x46 → get_or area 2 0 ≡ 0x44 → get_or area 3 0 ≡ 0x50 → Signed area
letters [] h p q r s = absurd (omega arith)
letters (a ∷ []) h p q r s = absurd (omega arith)
letters (a ∷ b ∷ []) h p q r s = absurd (omega arith)
letters (a ∷ b ∷ c ∷ []) h p q r s = absurd (omega arith)
letters (a ∷ b ∷ c ∷ d ∷ rest) h p q r s = cc

-- the test of 14
signature_decides : (area : List ℕ) → Decides (ltb (length area) 4 || not (signed area)) (Signed area → ⊥) (Signed area)
signature_decides area = decides_absent (has, is)
  where
    has : (ltb (length area) 4 || not (signed area)) ≡ false → Signed area
    has e =
        let both = (either_false (ltb (length area) 4) (not (signed area))).0 e in
        let four = and_four (eqb (get_or area 0 0) 0x53) (eqb (get_or area 1 0) 0x46) (eqb (get_or area 2 0) 0x44) (eqb (get_or area 3 0) 0x50) (not-false _ both.1) in
        letters area (ltb-false _ _ both.0) (eqb-true _ _ four.0) (eqb-true _ _ four.1) (eqb-true _ _ four.2) (eqb-true _ _ four.3)

    byte : (i : ℕ) → i < 4 → Signed area → get_or area i 0 ≡ get_or (0x53 ∷ 0x46 ∷ 0x44 ∷ 0x50 ∷ []) i 0
    byte i h e = sym (get_or-take 4 area i 0 h) ∙ ap (λ (l : List ℕ). get_or l i 0) e

    is : Signed area → (ltb (length area) 4 || not (signed area)) ≡ false
    is e =
        let long : 4 ≤ length area = omega (arith, length-take 4 area, ap length e) in
        let four : signed area ≡ true = four_and _ _ _ _ (eq-eqb _ _ (byte 0 (omega arith) e)) (eq-eqb _ _ (byte 1 (omega arith) e)) (eq-eqb _ _ (byte 2 (omega arith) e)) (eq-eqb _ _ (byte 3 (omega arith) e)) in
        (either_false (ltb (length area) 4) (not (signed area))).1 (le-ltb _ _ long, ap not four)

-- the test of 15
headers_decide : (area : List ℕ) → Decides (ltb (length area) 8 || ltb (length area) (header_at (header_count area))) (Headed area → ⊥) (Headed area)
headers_decide area = decides_absent (has, is)
  where
    has : (ltb (length area) 8 || ltb (length area) (header_at (header_count area))) ≡ false → Headed area
    has e =
        let both = (either_false (ltb (length area) 8) (ltb (length area) (header_at (header_count area)))).0 e in
        let all : header_at (header_count area) ≤ length area = ltb-false _ _ both.1 in
        record { start = ltb-false _ _ both.0; headers = λ i h. omega arith }

    is : Headed area → (ltb (length area) 8 || ltb (length area) (header_at (header_count area))) ≡ false
    is e =
        let last = e.headers (get_or area 6 0) (omega arith) in
        let all : header_at (header_count area) ≤ length area = omega arith in
        (either_false (ltb (length area) 8) (ltb (length area) (header_at (header_count area)))).1 (le-ltb _ _ e.start, le-ltb _ _ all)

-- the test of 16
identity_decides : (area : List ℕ) (identity : ℕ) → Decides (eqb (header_of area identity) (header_count area)) (NoHeader area identity) (FirstHeader area identity (header_of area identity))
identity_decides area identity =
    record {
      on_true = λ e i h. first_passes area identity 0 (header_count area) i (omega arith) (omega (arith, eqb-true (header_of area identity) (header_count area) e));
      on_false = λ e. first (eqb-false _ _ e);
      apart = λ none f. none (header_of area identity) f.is_header f.has_identity;
    }
  where
    first : (header_of area identity ≡ header_count area → ⊥) → FirstHeader area identity (header_of area identity)
    first e =
        let below : header_of area identity < header_count area = omega (arith, first_within area identity 0 (header_count area)) in
        record {
          is_header = below;
          has_identity = first_has area identity 0 (header_count area) (omega arith);
          none_before = λ i h. first_passes area identity 0 (header_count area) i (omega arith) h;
        }

-- the look through the headers finds the first, if there is one
pub first_found : (area : List ℕ) (identity h : ℕ) → FirstHeader area identity h → header_of area identity ≡ h
first_found area identity h f = go (ℕ_discrete (header_of area identity) (header_count area))
  where
    go : Dec (header_of area identity ≡ header_count area) → header_of area identity ≡ h
    go (yes e) = absurd ((identity_decides area identity).on_true (eq-eqb _ _ e) h f.is_header f.has_identity)
    go (no e) = first_unique area identity _ h ((identity_decides area identity).on_false (ne_eqb _ _ e)) f

-- ---- exactly when

-- Which number refuses: 13, 14, 15, 16, 17 or 0, each exactly when the table of refusals has it, in that table's order.
pub record RefusedWhen (number : ℕ) (area : List ℕ) (identity : ℕ) : Type 0 where
  pub thirteen : number ≡ 13 ↔ 256 < length area
  pub fourteen : number ≡ 14 ↔ (length area ≤ 256) × (Signed area → ⊥)
  pub fifteen : number ≡ 15 ↔ (length area ≤ 256) × Signed area × (Headed area → ⊥)
  pub sixteen : number ≡ 16 ↔ (length area ≤ 256) × Signed area × Headed area × NoHeader area identity
  pub seventeen : number ≡ 17 ↔ (length area ≤ 256) × Signed area × Headed area × PointsPast area identity
  pub none : number ≡ 0 ↔ (length area ≤ 256) × Signed area × Headed area × PointsInside area identity

module _ (area : List ℕ) (identity : ℕ) where
  abbrev h : ℕ
  h = header_of area identity

  abbrev end : ℕ
  end = table_place area h + table_length area h

  -- past the first three tests, by what the rest comes to
  gates : {R R' : Type 0} → R ↔ R' → ((length area ≤ 256) × (Signed area × (Headed area × R))) ↔ ((length area ≤ 256) × Signed area × Headed area × R')
  gates w = (λ p. (p.0, p.1.0, p.1.1.0, w.0 p.1.1.1), λ p. (p.0, (p.1, (p.2, w.1 p.3))))

  points_past : (FirstHeader area identity h × (length area < end)) ↔ PointsPast area identity
  points_past = (
    λ p. record { header = h; first = p.0; past = p.1 },
    λ p. subst (λ (k : ℕ). FirstHeader area identity k × (length area < table_place area k + table_length area k)) (sym (first_found area identity _ p.first)) (p.first, p.past),
  )

  points_inside : (FirstHeader area identity h × (end ≤ length area)) ↔ PointsInside area identity
  points_inside = (
    λ p. record { header = h; first = p.0; inside = p.1 },
    λ p. subst (λ (k : ℕ). FirstHeader area identity k × (table_place area k + table_length area k ≤ length area)) (sym (first_found area identity _ p.first)) (p.first, p.inside),
  )

  -- So it is for every area and identity.
  pub refused-when : RefusedWhen (refusal area identity) area identity
  unfolding refusal
  refused-when =
      let lines = chain_tests {number = λ (n : ℕ). n} 13 (decides_less 256 (length area)) (chain_tests 14 (signature_decides area) (chain_tests 15 (headers_decide area) (chain_tests 16 (identity_decides area identity) (chain_last 17 0 (decides_less (length area) end) refl) refl) refl) refl) refl in
      record {
        thirteen = lines.exactly 13;
        fourteen = lines.exactly 14;
        fifteen = Iff.trans (lines.exactly 15) flat_three;
        sixteen = Iff.trans (lines.exactly 16) flat_four;
        seventeen = Iff.trans (lines.exactly 17) (gates points_past);
        none = Iff.trans (lines.exactly 0) (gates points_inside);
      }

-- ---- what follows

-- Where there is a table to point at, the header that counts is the first of the identity.
pub first_header : (area : List ℕ) (identity : ℕ) → (refusal area identity ≡ 0) ⊎ (refusal area identity ≡ 17) → FirstHeader area identity (header_of area identity)
first_header area identity =
    ⊎_elim (λ e. counts _ ((refused-when area identity).none.0 e).3.first) (λ e. counts _ ((refused-when area identity).seventeen.0 e).3.first)
  where
    counts : (h : ℕ) → FirstHeader area identity h → FirstHeader area identity (header_of area identity)
    counts h f = subst (λ (k : ℕ). FirstHeader area identity k) (sym (first_found area identity h f)) f

-- Refused by 16: no header of the area has the identity.
pub no_header : (area : List ℕ) (identity : ℕ) → refusal area identity ≡ 16 → NoHeader area identity
no_header area identity e = ((refused-when area identity).sixteen.0 e).3

-- Past 15, every header lies inside the area.
pub header-inside : (area : List ℕ) (identity i : ℕ) → (refusal area identity ≡ 0) ⊎ ((refusal area identity ≡ 16) ⊎ (refusal area identity ≡ 17))
    → i < header_count area → header_at i + 8 ≤ length area
header-inside area identity i known h =
    (⊎_elim (λ e. ((refused-when area identity).none.0 e).2)
    (⊎_elim (λ e. ((refused-when area identity).sixteen.0 e).2) (λ e. ((refused-when area identity).seventeen.0 e).2))
    known).headers i h

-- What is found is what the first header of the identity says.
pub found_first : (area : List ℕ) (identity h : ℕ) → FirstHeader area identity h → refusal area identity ≡ 0 → found_of area identity ≡ found 0 (table_place area h) (table_length area h)
found_first area identity h f e = found-done area identity e ∙ ap (λ (k : ℕ). found 0 (table_place area k) (table_length area k)) (first_found area identity h f)
