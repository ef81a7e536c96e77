-- What is true of bytes put one after the other: two rows of them are one, the buffer keeps its length, and from its start they stand in front of the rest.
use Rattle.std.specs.Prelude.{ℕ, suc, ◌+◌, ◌<◌, ◌≤◌, List, [], ◌∷◌, ◌++◌, ◌≡◌, refl, length, get_or, set, take, drop}
use Rattle.std.proofs.Common.{sym, ap, ◌∙◌, add-zero, zero-add, add-suc, suc-add, add-one, arith, length-append, take-suc, length-take-le, take_at, drop_at}
use Rattle.std.proofs.lemmas.List.Edits.{sets, sets-eq}
use Rattle.std.proofs.Math.Seq.{length-sets}
use Rattle.cells.specs.Put.{Put}

-- two rows of stores, the second from where the first ends, are one
pub sets-add : (t : List ℕ) (p : ℕ) (xs ys : List ℕ) → sets t p (xs ++ ys) ≡ sets (sets t p xs) (p + length xs) ys
sets-add t p [] ys = rw add-zero
sets-add t p (x ∷ xs) ys = sets-add (set t p x) (suc p) xs ys ∙ ap (λ (q : ℕ). sets (sets (set t p x) (suc p) xs) q ys) (suc-add p (length xs) ∙ sym (add-suc p (length xs)))

-- one byte more of the bytes that are put
pub sets_more : (t : List ℕ) (p : ℕ) (xs : List ℕ) (i : ℕ) → i < length xs → set (sets t p (take i xs)) (p + i) (get_or xs i 0) ≡ sets t p (take (i + 1) xs)
sets_more t p xs i h =
    let n : length (take i xs) ≡ i = length-take-le i xs (omega arith) in
    sym
    (ap (λ (k : ℕ). sets t p (take k xs)) (add-one i)
    ∙ ap (sets t p) (take-suc xs i 0 h)
    ∙ sets-add t p (take i xs) (get_or xs i 0 ∷ [])
    ∙ ap (λ (k : ℕ). set (sets t p (take i xs)) (p + k) (get_or xs i 0)) n)

pub put_none : (t : List ℕ) (p : ℕ) → Put t p [] p t
put_none t p = record { end = sym (add-zero p); buffer = refl }

pub put_byte : (t : List ℕ) (p b : ℕ) → Put t p (b ∷ []) (p + 1) (set t p b)
put_byte t p b = record { end = refl; buffer = refl }

pub put_two : (t : List ℕ) (p a b : ℕ) → Put t p (a ∷ b ∷ []) (p + 2) (set (set t p a) (p + 1) b)
put_two t p a b = record { end = refl; buffer = ap (λ (q : ℕ). set (set t p a) q b) (add-one p) }

pub put_then : {t u v : List ℕ} {p q r : ℕ} {xs ys : List ℕ} → Put t p xs q u → Put u q ys r v → Put t p (xs ++ ys) r v
put_then {t} {u} {v} {p} {q} {r} {xs} {ys} a b =
    record {
      end = omega (arith, a.end, b.end, length-append xs ys);
      buffer = b.buffer ∙ ap (λ (w : List ℕ). sets w q ys) a.buffer ∙ ap (λ (k : ℕ). sets (sets t p xs) k ys) a.end ∙ sym (sets-add t p xs ys);
    }

pub put_as : {t u : List ℕ} {p q : ℕ} {xs ys : List ℕ} → ys ≡ xs → Put t p xs q u → Put t p ys q u
put_as e a = rw e a

pub put_end : {t u : List ℕ} {p q r : ℕ} {xs : List ℕ} → q ≡ r → Put t p xs q u → Put t p xs r u
put_end e a = rw e at a

-- a buffer keeps its length
pub put_length : {t u : List ℕ} {p q : ℕ} {xs : List ℕ} → Put t p xs q u → length u ≡ length t
put_length {t} {u} {p} {q} {xs} a = ap length a.buffer ∙ length-sets t p xs

-- where two rows fit one after the other, the second fits behind the first
pub room-then : {t u : List ℕ} {p q : ℕ} {xs : List ℕ} (ys : List ℕ) → Put t p xs q u → p + length (xs ++ ys) ≤ length t → q + length ys ≤ length u
room-then {t} {u} {p} {q} {xs} ys a fit = omega (arith, a.end, put_length a, length-append xs ys)

-- the same by their lengths
pub room-behind : {t u : List ℕ} {p q : ℕ} {xs : List ℕ} (k n : ℕ) → Put t p xs q u → length xs ≡ k → p + k + n ≤ length t → q + n ≤ length u
room-behind k n a long fit = omega (arith, a.end, put_length a, long, fit)

-- what is put stands between what was before it and what is behind it
pub put_between : {t u : List ℕ} {p q : ℕ} {xs : List ℕ} → Put t p xs q u → p + length xs ≤ length t → (take q u ≡ take p t ++ xs) × (drop q u ≡ drop q t)
put_between {t} {u} {p} {q} {xs} a fit =
    let front : length (take p t ++ xs) ≡ q = omega (arith, length-append (take p t) xs, length-take-le p t (omega arith), a.end) in
    let apart : u ≡ take p t ++ xs ++ drop q t = a.buffer ∙ sets-eq xs t p fit ∙ ap (λ (n : ℕ). take p t ++ xs ++ drop n t) (sym a.end) in
    (ap (take q) apart ∙ take_at (take p t ++ xs) (drop q t) q front, ap (drop q) apart ∙ drop_at (take p t ++ xs) (drop q t) q front)

-- what is put at the start of a buffer stands there, and the rest is as it was
pub put_start : {t u : List ℕ} {r : ℕ} {new : List ℕ} → Put t 0 new r u → length new ≤ length t → (r ≡ length new) × (u ≡ new ++ drop r t)
put_start {t} {u} {r} {new} a fit =
    (a.end ∙ zero-add (length new), a.buffer ∙ sets-eq new t 0 (omega (arith, zero-add (length new))) ∙ ap (λ (n : ℕ). new ++ drop n t) (sym a.end))
