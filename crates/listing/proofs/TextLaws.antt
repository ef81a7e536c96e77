-- What is true of texts: what is put at their start, and a number's digits.
use Rattle.std.specs.Prelude.{ℕ, zero, suc, ◌+◌, ◌*◌, ◌/◌, ◌%◌, ◌^◌, ◌-◌, ◌<◌, ◌≤◌, cond, List, [], ◌∷◌, ◌++◌, ◌≡◌, ltb, length, drop}
use Rattle.std.proofs.Common.{append_assoc, sym, ap, ◌∙◌, pow-suc, arith, length-append, length-take-le, lt-ltb, le-ltb}
use Rattle.std.proofs.Math.Nat.{one-le-pow, pow-le-pow_right}
use Rattle.std.proofs.Math.Decide.{dec_le}
use Rattle.io.specs.Counts.{IsPrefixLen}
use Rattle.io.specs.Digits.{hex_digit_ascii, last_digits, IsDigitCount}
use Rattle.cells.specs.Choice.{cond_yes, cond_no, cond_either}
use Rattle.cells.specs.Put.{Put}
use Rattle.cells.specs.PutLaws.{put_length, put_start}
use Rattle.chip.specs.declared.Record.TheVariants.{InTheWay}
use Rattle.listing.specs.Text.{ascii, spelled, decimal_of, line_of}

-- ---- lines

-- what is put at the start of a text stands there, is counted, and the rest is as it was
pub text_start : {t u : List ℕ} {r : ℕ} {new : List ℕ} → Put t 0 new r u → length new ≤ length t → ((r ≡ length new) × (u ≡ new ++ drop r t)) × IsPrefixLen r u
text_start {t} {u} {r} {new} a fit =
    let inside : r ≤ length u = omega (arith, a.end, put_length a) in
    (put_start a fit, (inside, sym (length-take-le r u inside)))

-- the line of verdict 9, in the three parts that are put
pub line-nine : (offset first last : ℕ) → line_of offset (InTheWay first last) ≡ decimal_of offset ++ ascii " " ++ ((ascii "V9 " ++ decimal_of first ++ ascii " ") ++ (decimal_of last ++ ascii "\n"))
unfolding line_of
line-nine offset first last = ap (λ (t : List ℕ). decimal_of offset ++ ascii " " ++ t) (append_assoc (ascii "V9 " ++ decimal_of first ++ ascii " ") (decimal_of last) (ascii "\n"))

-- ---- a number's digits

digit_decimal : (n : ℕ) → hex_digit_ascii (n % 10) ≡ 48 + n % 10
digit_decimal n = cond_yes (ltb (n % 10) 10) _ _ (lt-ltb (n % 10) 10 (omega arith))

-- the fewest digits that hold a number, which are those that `io::decimal` answers, are the number in decimal
digits_spelled : (most k n : ℕ) → IsDigitCount 10 1 n k → k ≤ most → last_digits 10 k n ≡ spelled most n
unfolding spelled
digits_spelled zero k n h l = absurd (omega (arith, h.0))
digits_spelled (suc most) zero n h l = absurd (omega (arith, h.0))
digits_spelled (suc most) (suc zero) n h l =
    let small : n < 10 = h.1 in
    ap (λ (d : ℕ). d ∷ []) (digit_decimal n)
    ∙ sym (ap (λ (x : List ℕ). x ++ (48 + n % 10) ∷ []) (cond_yes (ltb n 10) [] (spelled most (n / 10)) (lt-ltb n 10 small)))
digits_spelled (suc most) (suc (suc k)) n h l =
    let e : suc (suc k) - 1 ≡ suc k = omega arith in
    let e' : suc k - 1 ≡ k = omega arith in
    let above : 10 ^ suc k ≤ n = rw e at (h.2 (omega arith)) in
    let below : n < 10 ^ suc (suc k) = h.1 in
    let top : 10 ^ suc (suc k) ≡ 10 ^ suc k * 10 = pow-suc 10 (suc k) in
    let low : 10 ^ suc k ≡ 10 ^ k * 10 = pow-suc 10 k in
    let some : 1 ≤ 10 ^ k = one-le-pow k 10 (omega arith) in
    let fewest : IsDigitCount 10 1 (n / 10) (suc k) = (omega arith, omega (arith, below, top), λ _. rw e' (omega (arith, above, low))) in
    ap (λ (x : List ℕ). x ++ hex_digit_ascii (n % 10) ∷ []) (digits_spelled most (suc k) (n / 10) fewest (omega arith))
    ∙ ap (λ (d : ℕ). spelled most (n / 10) ++ d ∷ []) (digit_decimal n)
    ∙ sym (ap (λ (x : List ℕ). x ++ (48 + n % 10) ∷ []) (cond_no (ltb n 10) [] (spelled most (n / 10)) (le-ltb n 10 (omega (arith, above, low, some)))))

-- 20 digits hold a number of 64 bits
fewest_most : (n k : ℕ) → n < 2 ^ 64 → IsDigitCount 10 1 n k → k ≤ 20
fewest_most n k small h = go (dec_le k 20)
  where
    go : Dec (k ≤ 20) → k ≤ 20
    go (yes l) = l
    go (no l) =
        let far : 20 ≤ k - 1 = omega arith in
        let some : 0 < 10 = omega arith in
        let more : 10 ^ 20 ≤ 10 ^ (k - 1) = pow-le-pow_right some far in
        let above : 10 ^ (k - 1) ≤ n = h.2 (omega arith) in
        absurd (omega (arith, more, above, small))

-- so those of a number of 64 bits are its decimal
pub digits_decimal : (n k : ℕ) → n < 2 ^ 64 → IsDigitCount 10 1 n k → last_digits 10 k n ≡ decimal_of n
digits_decimal n k small h = digits_spelled 20 k n h (fewest_most n k small h)

-- the last digit is one more than those in front of it
one_more : (most d n : ℕ) → length (spelled most (n / 10)) ≤ d → length (spelled (suc most) n) ≤ suc d
unfolding spelled
one_more most d n few =
    cond_either (λ (front : List ℕ). length (front ++ (48 + n % 10) ∷ []) ≤ suc d) (ltb n 10) [] (spelled most (n / 10)) (λ _. omega arith)
    (λ _. omega (arith, few, length-append (spelled most (n / 10)) ((48 + n % 10) ∷ [])))

-- a number has no more digits than it may have
pub spelled-most : (most n : ℕ) → length (spelled most n) ≤ most
unfolding spelled
spelled-most zero n = omega arith
spelled-most (suc most) n = one_more most most n (spelled-most most (n / 10))

-- and below a power of ten no more than the power has zeros
pub spelled-below : (most d n : ℕ) → 1 ≤ d → n < 10 ^ d → length (spelled most n) ≤ d
unfolding spelled
spelled-below zero d n some small = omega arith
spelled-below (suc most) zero n some small = absurd (omega arith)
spelled-below (suc most) (suc zero) n some small =
    let one : cond (ltb n 10) [] (spelled most (n / 10)) ≡ [] = cond_yes (ltb n 10) _ _ (lt-ltb n 10 small) in
    rw one (omega arith)
spelled-below (suc most) (suc (suc d)) n some small =
    one_more most (suc d) n (spelled-below most (suc d) (n / 10) (omega arith) (omega (arith, small, pow-suc 10 (suc d))))
