-- What is true of a look through the headers, of the refusal, and of the table's place in the area.
use Rattle.std.specs.Prelude.{ℕ, zero, suc, ◌+◌, ◌-◌, ◌≤◌, ◌<◌, Bool, true, false, cond, not, ◌&&◌, ◌||◌, List, [], ◌∷◌, ◌≡◌, refl, eqb, ltb, length, get_or}
use Rattle.std.proofs.Common.{sym, ap, ◌∙◌, arith, length-take, length-drop, get_or-take, get_or-drop, eq-eqb, ne_eqb, eqb-true, le-ltb, ltb-false}
use Rattle.std.proofs.lemmas.Bool.{eqb-false}
use Rattle.std.specs.List.{starts_with}
use Rattle.cells.specs.Choice.{and_true, cond_yes, cond_no, cond_either, chosen_number}
use Rattle.part.specs.Area.{longest_area}
use Rattle.sfdp.specs.Reader.{Found, signed, header_count, header_at, identity_at, table_length, table_place, first_from, header_of, refusal, found, found_of, table_of}

-- ---- the look through the headers

-- a look that has come to header i of n ends there, if the header has the identity
pub first_hit : (area : List ℕ) (identity i n : ℕ) → i < n → identity_at area i ≡ identity → first_from area identity i (n - i) ≡ i
unfolding first_from
first_hit area identity i n h e =
    let more : n - i ≡ suc (n - (i + 1)) = omega arith in
    rw more (cond_yes _ _ _ (eq-eqb _ _ e))

-- and goes on at the next header, if it has not
pub first_miss : (area : List ℕ) (identity i n : ℕ) → i < n → (identity_at area i ≡ identity → ⊥) → first_from area identity i (n - i) ≡ first_from area identity (i + 1) (n - (i + 1))
unfolding first_from
first_miss area identity i n h e =
    let more : n - i ≡ suc (n - (i + 1)) = omega arith in
    rw more (cond_no _ _ _ (ne_eqb _ _ e))

-- after the last header it has ended
pub first_ends : (area : List ℕ) (identity n : ℕ) → first_from area identity n (n - n) ≡ n
unfolding first_from
first_ends area identity n =
    let none : n - n ≡ 0 = omega arith in
    rw none

-- it passes no more headers than there are
pub first_within : (area : List ℕ) (identity i n : ℕ) → first_from area identity i n ≤ i + n
unfolding first_from
first_within area identity i zero = omega arith
first_within area identity i (suc n) =
    let later : first_from area identity (i + 1) n ≤ i + 1 + n = first_within area identity (i + 1) n in
    cond_either (λ (h : ℕ). h ≤ i + suc n) (eqb (identity_at area i) identity) i (first_from area identity (i + 1) n) (λ _. omega arith) (λ _. omega arith)

-- ---- the signature

-- two numbers are compared either way round
either_way : (m n : ℕ) → eqb m n ≡ eqb n m
either_way m n = pick (eqb m n) refl
  where
    pick : (b : Bool) → eqb m n ≡ b → eqb m n ≡ eqb n m
    pick true e = e ∙ sym (eq-eqb n m (sym (eqb-true m n e)))
    pick false e = e ∙ sym (ne_eqb n m (λ s. eqb-false m n e (sym s)))

never : (b c : Bool) → c ≡ false → (b && c) ≡ false
never true c e = e
never false c e = refl

in_turn : (p q r s : Bool) → (p && (q && (r && s))) ≡ (((p && q) && r) && s)
in_turn true true r s = refl
in_turn true false r s = refl
in_turn false q r s = refl

twice : (b : Bool) → b ≡ not (not b)
twice true = refl
twice false = refl

-- an area begins with the letters if it has four bytes at least and they are the letters
signature_test : (area : List ℕ) → starts_with eqb area (0x53 ∷ 0x46 ∷ 0x44 ∷ 0x50 ∷ []) ≡ not (ltb (length area) 4 || not (signed area))
signature_test [] = refl
signature_test (a ∷ []) = never (eqb 0x53 a) _ refl
signature_test (a ∷ b ∷ []) = never (eqb 0x53 a) _ (never (eqb 0x46 b) _ refl)
signature_test (a ∷ b ∷ c ∷ []) = never (eqb 0x53 a) _ (never (eqb 0x46 b) _ (never (eqb 0x44 c) _ refl))
signature_test (a ∷ b ∷ c ∷ d ∷ rest) =
    let long : 4 ≤ length (a ∷ b ∷ c ∷ d ∷ rest) = omega arith in
    rw (le-ltb _ _ long, either_way 0x53 a, either_way 0x46 b, either_way 0x44 c, either_way 0x50 d, and_true) (in_turn (eqb a 0x53) (eqb b 0x46) (eqb c 0x44) (eqb d 0x50) ∙ twice _)

-- so one that begins with them passes the test of 14, and another does not
pub begins : (area : List ℕ) → true ≡ starts_with eqb area (0x53 ∷ 0x46 ∷ 0x44 ∷ 0x50 ∷ []) → (ltb (length area) 4 || not (signed area)) ≡ false
begins area e = twice _ ∙ ap not (sym (e ∙ signature_test area))

pub begins_not : (area : List ℕ) → false ≡ starts_with eqb area (0x53 ∷ 0x46 ∷ 0x44 ∷ 0x50 ∷ []) → (ltb (length area) 4 || not (signed area)) ≡ true
begins_not area e = twice _ ∙ ap not (sym (e ∙ signature_test area))

-- ---- the refusal

-- where the answer is not a test's own number, the test failed and the later ones answer
pub passed : (b : Bool) (own later answer : ℕ) → (own ≡ answer → ⊥) → cond b own later ≡ answer → (b ≡ false) × (later ≡ answer)
passed true own later answer other e = absurd (other e)
passed false own later answer other e = (refl, e)

-- an area that is not refused is no longer than an area may be
pub area_short : (area : List ℕ) (identity : ℕ) → refusal area identity ≡ 0 → length area ≤ longest_area
unfolding refusal
area_short area identity e = ltb-false _ _ (passed (ltb longest_area (length area)) 13 _ 0 (λ n. omega arith) e).0

-- and the table lies inside it
pub table_inside : (area : List ℕ) (identity : ℕ) → refusal area identity ≡ 0
    → table_place area (header_of area identity) + table_length area (header_of area identity) ≤ length area
unfolding refusal
table_inside area identity e =
    let a = passed (ltb longest_area (length area)) 13 _ 0 (λ n. omega arith) e in
    let b = passed (ltb (length area) 4 || not (signed area)) 14 _ 0 (λ n. omega arith) a.1 in
    let c = passed (ltb (length area) 8 || ltb (length area) (header_at (header_count area))) 15 _ 0 (λ n. omega arith) b.1 in
    let d = passed (eqb (header_of area identity) (header_count area)) 16 _ 0 (λ n. omega arith) c.1 in
    ltb-false _ _ (passed (ltb (length area) (table_place area (header_of area identity) + table_length area (header_of area identity))) 17 0 0 (λ n. omega arith) d.1).0

-- ---- the answer

-- not refused: the place and the length are those of the header that counts
pub found-done : (area : List ℕ) (identity : ℕ) → refusal area identity ≡ 0
    → found_of area identity ≡ found 0 (table_place area (header_of area identity)) (table_length area (header_of area identity))
unfolding found_of
found-done area identity e = cond_yes _ _ _ (eq-eqb _ _ e)

-- refused: the number, and no table
pub found-refused : (area : List ℕ) (identity : ℕ) → (refusal area identity ≡ 0 → ⊥) → found_of area identity ≡ found (refusal area identity) 0 0
unfolding found_of
found-refused area identity e = cond_no _ _ _ (ne_eqb _ _ e)

-- the number told is the refusal's
pub found_number : (area : List ℕ) (identity : ℕ) → (found_of area identity).refusal ≡ refusal area identity
unfolding found_of
found_number area identity = chosen_number (λ (f : Found). f.refusal) (refusal area identity) _ _ refl refl

-- the place and the length told lie inside the area, refused or not
pub found_inside : (area : List ℕ) (identity : ℕ) → (found_of area identity).place + (found_of area identity).length ≤ length area
unfolding found_of
found_inside area identity =
    cond_either (λ (f : Found). f.place + f.length ≤ length area) (eqb (refusal area identity) 0) _ _
    (λ e. table_inside area identity (eqb-true _ _ e))
    (λ _. omega arith)

-- the table is as long as told
pub table_length_lem : (area : List ℕ) (identity : ℕ) → length (table_of area identity) ≡ (found_of area identity).length
unfolding table_of
table_length_lem area identity = simp (length-take, length-drop) (omega (arith, found_inside area identity))

-- and its bytes are those of the area, from the place told on
pub table_byte : (area : List ℕ) (identity j : ℕ) → j < (found_of area identity).length
    → get_or (table_of area identity) j 0 ≡ get_or area ((found_of area identity).place + j) 0
unfolding table_of
table_byte area identity j h = rw (get_or-take, get_or-drop)

-- refused: the table is empty
pub table_refused : (area : List ℕ) (identity : ℕ) → (refusal area identity ≡ 0 → ⊥) → table_of area identity ≡ []
unfolding table_of
table_refused area identity e = rw (found-refused area identity e)

-- refused by a number that is not 0: just that is told
pub refused_by : (area : List ℕ) (identity n : ℕ) → (n ≡ 0 → ⊥) → refusal area identity ≡ n → found n 0 0 ≡ found_of area identity
refused_by area identity n some e = sym (found-refused area identity (λ z. some (sym e ∙ z)) ∙ ap (λ (k : ℕ). found k 0 0) e)
