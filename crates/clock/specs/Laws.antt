-- What is true of the clock: what wraps is what moved on, and how far that can be.
use Rattle.std.specs.Prelude.{◌≡◌, ℕ, ◌+◌, ◌-◌, ◌%◌, ◌^◌, ◌<◌, ◌≤◌, false, None, Some, Option}
use Rattle.std.proofs.Common.{sym, ap, ◌∙◌, mod-eq_of_lt, mod-lt, arith, leb-false}
use Rattle.std.proofs.Math.Nat.{mod-eq-sub-mod, add-mod_right}
use Rattle.std.proofs.Math.Decide.{dec_le}
use Rattle.clock.specs.declared.Clock.{Clock}
use Rattle.clock.specs.Clock.{moved_since, moved_on, went_back}

-- the move that, added to the last stamp, comes round to this one
pub moved_as : (r last stamp : ℕ) → r < 65536 → last < 65536 → (r + last) % 2 ^ 16 ≡ stamp → r ≡ (stamp + 65536 - last) % 65536
moved_as r last stamp fits below round = go (dec_le 65536 (r + last))
  where
    go : Dec (65536 ≤ r + last) → r ≡ (stamp + 65536 - last) % 65536
    go (yes over) =
        let is : stamp ≡ r + last - 65536 = sym round ∙ mod-eq-sub-mod over ∙ mod-eq_of_lt (omega arith) in
        let whole : stamp + 65536 - last ≡ r = omega (arith, is) in
        sym (ap (λ (n : ℕ). n % 65536) whole ∙ mod-eq_of_lt fits)
    go (no under) =
        let is : stamp ≡ r + last = sym round ∙ mod-eq_of_lt (omega arith) in
        let whole : stamp + 65536 - last ≡ r + 65536 = omega (arith, is) in
        sym (ap (λ (n : ℕ). n % 65536) whole ∙ add-mod_right r 65536 ∙ mod-eq_of_lt fits)

-- before the first stamp there is no move
pub first_stamp : (k : Clock) (stamp : ℕ) → k.last ≡ None → moved_on k stamp ≡ 0
unfolding moved_on
first_stamp k stamp none = ap (λ (l : Option ℕ). moved_since l stamp) none

pub later-stamp : (k : Clock) (last stamp : ℕ) → k.last ≡ Some last → moved_on k stamp ≡ (stamp + 65536 - last) % 65536
unfolding moved_on
later-stamp k last stamp some = ap (λ (l : Option ℕ). moved_since l stamp) some

-- a move is at most 65,535, and one that did not go back at most 32,767
pub moved-most : (k : Clock) (stamp : ℕ) → moved_on k stamp ≤ 65535
unfolding moved_on
moved-most k stamp = since k.last
  where
    since : (l : Option ℕ) → moved_since l stamp ≤ 65535
    since None = omega arith
    since (Some last) = let some : 0 < 65536 = omega arith in omega (arith, mod-lt (stamp + 65536 - last) some)

pub moved-good : (k : Clock) (stamp : ℕ) → went_back k stamp ≡ false → moved_on k stamp ≤ 32767
unfolding went_back
moved-good k stamp good = omega (arith, leb-false 32768 (moved_on k stamp) good)
