-- What is true of bytes put one after the other: two rows of them are one, and what is left to put gets less.
use Rattle.std.specs.Prelude.{ℕ, ◌-◌, ◌≤◌, List, [], ◌++◌, ◌≡◌, refl, length, drop}
use Rattle.std.proofs.Common.{sym, ap, ◌∙◌, append_assoc, arith, length-append, length-drop}
use Rattle.std.proofs.lemmas.List.{drop-drop, take-append-drop, append-nil}
use Rattle.cells.specs.declared.output.Output.{Output}
use Rattle.cells.specs.Output.{so_far, rest, room, Puts, Putting}

-- there is less room by what was put
pub room_after : {o o' : Output} {xs : List ℕ} → Puts o xs o' → room o' ≡ room o - length xs
room_after {o} {o'} {xs} a = ap length a.behind ∙ length-drop (length xs) (rest o)

-- where two rows fit one after the other, the second fits behind the first
pub room_then : {o o' : Output} {xs : List ℕ} (ys : List ℕ) → Puts o xs o' → length (xs ++ ys) ≤ room o → length ys ≤ room o'
room_then {xs = xs} ys a fit = omega (arith, room_after a, length-append xs ys)

-- what is put is known whole: any two outputs that `Puts` allows hold the same bytes, and as many of them are written
pub puts_one : {o a b : Output} {xs : List ℕ} → Puts o xs a → Puts o xs b → (a.bytes.now ≡ b.bytes.now) × (so_far a ≡ so_far b) × (rest a ≡ rest b)
puts_one {o} {a} {b} p q =
    let written : so_far a ≡ so_far b = p.written ∙ sym q.written in
    let behind : rest a ≡ rest b = p.behind ∙ sym q.behind in
    (sym (take-append-drop a.written a.bytes.now) ∙ ap (λ (w : List ℕ). w ++ rest a) written ∙ ap (λ (w : List ℕ). so_far b ++ w) behind ∙ take-append-drop b.written b.bytes.now, written, behind)

-- so is a new one
pub new_one : (a b : Output) {t : List ℕ} → (so_far a ≡ []) × (rest a ≡ t) → (so_far b ≡ []) × (rest b ≡ t) → (so_far a ≡ so_far b) × (rest a ≡ rest b)
new_one a b p q = (p.0 ∙ sym q.0, p.1 ∙ sym q.1)

pub puts_as : {o o' : Output} {xs ys : List ℕ} → ys ≡ xs → Puts o xs o' → Puts o ys o'
puts_as e a = rw e a

pub puts_then : {o o' o'' : Output} {xs ys : List ℕ} → Puts o xs o' → Puts o' ys o'' → Puts o (xs ++ ys) o''
puts_then {o} {o'} {o''} {xs} {ys} a b = record {
  same = b.same ∙ a.same;
  written = b.written ∙ ap (λ (w : List ℕ). w ++ ys) a.written ∙ append_assoc (so_far o) xs ys;
  behind = b.behind ∙ ap (drop (length ys)) a.behind ∙ drop-drop (length ys) (length xs) (rest o) ∙ ap (λ (k : ℕ). drop k (rest o)) (sym (length-append xs ys));
}

-- what is put into a buffer with nothing written stands at its start, and the rest is as it was
pub puts_first : {o o' : Output} {t new : List ℕ} → so_far o ≡ [] → rest o ≡ t → Puts o new o' → (length (so_far o') ≡ length new) × (o'.bytes.now ≡ new ++ drop (length new) t)
puts_first {o} {o'} {t} {new} none all a =
    let written : so_far o' ≡ new = a.written ∙ ap (λ (w : List ℕ). w ++ new) none in
    (ap length written, sym (take-append-drop o'.written o'.bytes.now) ∙ ap (λ (w : List ℕ). w ++ rest o') written ∙ ap (λ (w : List ℕ). new ++ w) (a.behind ∙ ap (drop (length new)) all))

pub putting_starts : (o : Output) (all : List ℕ) → length all ≤ room o → Putting o all o all
putting_starts o all fit = record { same = refl; written = refl; behind = refl; fits = fit }

module _ {o₀ o : Output} {all left : List ℕ} (p : Putting o₀ all o left) where
  -- nothing is left
  pub putting_ends : left ≡ [] → Puts o₀ all o
  putting_ends e = record {
    same = p.same;
    written = sym (append-nil (so_far o)) ∙ ap (λ (w : List ℕ). so_far o ++ w) (sym e) ∙ p.written;
    behind = ap (λ (w : List ℕ). drop (length w) (rest o)) (sym e) ∙ p.behind;
  }

  -- some of what is left is put
  module _ (new left' : List ℕ) (e : left ≡ new ++ left') where
    pub putting_fits : length new ≤ room o
    putting_fits = omega (arith, p.fits, ap length e, length-append new left')

    pub putting_more : {o' : Output} → Puts o new o' → Putting o₀ all o' left'
    putting_more {o'} a = record {
      same = a.same ∙ p.same;
      written = ap (λ (w : List ℕ). w ++ left') a.written ∙ append_assoc (so_far o) new left' ∙ ap (λ (w : List ℕ). so_far o ++ w) (sym e) ∙ p.written;
      behind = ap (drop (length left')) a.behind ∙ drop-drop (length left') (length new) (rest o) ∙ ap (λ (k : ℕ). drop k (rest o)) (sym (length-append new left') ∙ ap length (sym e)) ∙ p.behind;
      fits = omega (arith, p.fits, room_after a, ap length e, length-append new left');
    }
