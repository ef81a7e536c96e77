-- The part and its memory: a memory is the part's cells, and which of them are protected (RULES, The array; Protection).
use Rattle.std.specs.Prelude.{ℕ, ◌*◌, ◌/◌, ◌<◌, ◌≤◌, ◌-◌, Bool, true, false, ◌&&◌, List, ◌≡◌, refl, ◌↔◌, leb, length, Some}
use Rattle.std.proofs.Common.{zero-le, sym, ap, subst, ◌∙◌, arith, le-leb, leb-true}
use Rattle.std.proofs.lemmas.Bool.{false≢true}
use Rattle.std.proofs.Math.Logic.Iff
use Rattle.std.proofs.Math.Decide.{ℕ_discrete}
use Rattle.cells.specs.Choice.{and_left, and_right, and_both}
use Rattle.part.specs.Part.{permitted, sectors_in, setting_of, length_of}
use Rattle.part.specs.Protection.{Protected, ends, protected_count, first_end, last_end, protected_sectors, protects, is_protected}
use Rattle.part.proofs.Laws.{permitted-whole, no_ends, two_ends, ends-inside, ends-small}
use Rattle.chip.specs.declared.Core.{Core}
use Rattle.demands.specs.Demand2.{first_protected, last_protected}
use Rattle.demands.specs.Words.{ProtectionInNumbers}

-- ---- the part and its memory

-- The part that a memory goes with has as many cells as the memory, so that addresses and reads go round at the memory's end.
pub part_is_memory : (m area : List ℕ) → permitted (length m) ≡ true → length_of (setting_of (length m) area).sectors ≡ length m
part_is_memory m area p = permitted-whole (length m) p

-- ---- protection

-- a test by two orders holds exactly when both do
both : (a x b : ℕ) → ((leb a x && leb x b) ≡ true) ↔ ((a ≤ x) × (x ≤ b))
both a x b = (
  λ h. (leb-true a x (and_left (leb a x) (leb x b) h), leb-true x b (and_right (leb a x) (leb x b) h)),
  λ h. and_both (leb a x) (leb x b) (le-leb a x h.0) (le-leb x b h.1),
)

module _ (L : ℕ) (tb : Bool) (S : ℕ) where
  abbrev count : ℕ
  count = protected_count L S

  -- where the count is 0 no sector is protected, and where it is not those between the two ends
  none_protected : count ≡ 0 → (x : ℕ) → is_protected L tb S x ≡ false
  none_protected none x = ap (λ (range : Protected). protects range x) (no_ends L tb S none)

  protected_between : (count ≡ 0 → ⊥) → (x : ℕ) → (is_protected L tb S x ≡ true) ↔ ((first_end count tb S ≤ x) × (x ≤ last_end count tb S))
  protected_between some x =
      subst (λ (range : Protected). (protects range x ≡ true) ↔ ((first_end count tb S ≤ x) × (x ≤ last_end count tb S))) (sym (two_ends L tb S some))
      (both (first_end count tb S) x (last_end count tb S))

-- Protection by level and by address, and the two ends of it.
pub protection_in_numbers : ProtectionInNumbers
unfolding protected_count
protection_in_numbers =
    record {
      levels = λ S. (refl, (refl, (refl, (refl, (refl, (refl, (refl, (refl, tt))))))));
      bottom = λ L S cell. at_bottom L S cell (ℕ_discrete (protected_count L S) 0);
      top = λ L S cell inside. at_top L S cell inside (ℕ_discrete (protected_count L S) 0);
      between = λ S k x some. protected_between k.level k.tb S some x;
      at_most_31 = λ n k p some. in_order n k p some (two_ends k.level k.tb (sectors_in n) some);
    }
  where
    at_bottom : (L S cell : ℕ) → Dec (protected_count L S ≡ 0) → (is_protected L true S (cell / 65536) ≡ true) ↔ (cell < protected_count L S * 65536)
    at_bottom L S cell (yes none) = (λ h. absurd (false≢true (sym (none_protected L true S none (cell / 65536)) ∙ h)), λ h. absurd (omega (arith, h, none)))
    at_bottom L S cell (no some) =
        Iff.trans (protected_between L true S some (cell / 65536)) (λ h. omega (arith, h.1, some), λ h. (zero-le, omega (arith, h)))

    at_top : (L S cell : ℕ) → cell < S * 65536 → Dec (protected_count L S ≡ 0) → (is_protected L false S (cell / 65536) ≡ true) ↔ ((S - protected_count L S) * 65536 ≤ cell)
    at_top L S cell inside (yes none) = (λ h. absurd (false≢true (sym (none_protected L false S none (cell / 65536)) ∙ h)), λ h. absurd (omega (arith, h, none, inside)))
    at_top L S cell inside (no some) =
        Iff.trans (protected_between L false S some (cell / 65536)) (λ h. omega (arith, h.0), λ h. (omega (arith, h), omega (arith, inside)))

    in_order : (n : ℕ) (k : Core) → permitted n ≡ true → (protected_count k.level (sectors_in n) ≡ 0 → ⊥)
        → protected_sectors k.level k.tb (sectors_in n) ≡ Some (ends (first_protected (sectors_in n) k) (last_protected (sectors_in n) k))
        → (first_protected (sectors_in n) k ≤ last_protected (sectors_in n) k) × (last_protected (sectors_in n) k ≤ 31)
    in_order n k p some is =
        ((ends-inside k.level k.tb (sectors_in n) (first_protected (sectors_in n) k) (last_protected (sectors_in n) k) is).0, (ends-small k.level k.tb n (first_protected (sectors_in n) k) (last_protected (sectors_in n) k) p is).1)
