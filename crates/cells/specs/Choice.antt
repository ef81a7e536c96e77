-- Laws of equality and of `cond`, the choice by a test, over any type: what every layer's laws and proofs pass on.
use Rattle.std.specs.Prelude.{Bool, true, false, cond, not, ◌&&◌, ◌||◌, ◌≡◌, refl, ◌↔◌, ℕ, ◌<◌, ◌≤◌, eqb, ltb, leb}
use Rattle.std.proofs.Common.{true≢false, sym, ap, ◌∙◌, arith, eqb-true, ltb-true, ltb-false, leb-true, leb-false}
use Rattle.std.proofs.lemmas.Bool.{false≢true, eqb-false}
use Rattle.std.proofs.Math.Logic.Iff

-- two answers that are equal to one thing are equal
pub same : {A : Type 0} {a r r' : A} → r ≡ a → r' ≡ a → r ≡ r'
same p q = p ∙ sym q

pub cond_yes : {A : Type 0} (b : Bool) (x y : A) → b ≡ true → cond b x y ≡ x
cond_yes b x y h = ap (λ (t : Bool). cond t x y) h

pub cond_no : {A : Type 0} (b : Bool) (x y : A) → b ≡ false → cond b x y ≡ y
cond_no b x y h = ap (λ (t : Bool). cond t x y) h

-- what holds on each side holds of the choice
pub cond_either : {A : Type 0} (P : A → Type 0) (b : Bool) (x y : A) → (b ≡ true → P x) → (b ≡ false → P y) → P (cond b x y)
cond_either P true x y p q = p refl
cond_either P false x y p q = q refl

-- an answer chosen by a refusal's number, 0 for done, has that number
pub chosen_number : {A : Type 0} (number : A → ℕ) (n : ℕ) (done refused : A) → number done ≡ 0 → number refused ≡ n → number (cond (eqb n 0) done refused) ≡ n
chosen_number number n done refused d r = cond_either (λ a. number a ≡ n) (eqb n 0) done refused (λ e. d ∙ sym (eqb-true n 0 e)) (λ _. r)

-- both halves of a conjunction hold, and together they make it
pub and_left : (a b : Bool) → (a && b) ≡ true → a ≡ true
and_left true b h = refl
and_left false b h = h

pub and_right : (a b : Bool) → (a && b) ≡ true → b ≡ true
and_right true b h = h
and_right false b h = absurd (false≢true h)

pub and_both : (a b : Bool) → a ≡ true → b ≡ true → (a && b) ≡ true
and_both true b p q = q
and_both false b p q = p

pub and_true : (a : Bool) → (a && true) ≡ a
and_true true = refl
and_true false = refl

-- `not a || b` is the test that a means b
pub means_holds : (a b : Bool) → (not a || b) ≡ true → a ≡ true → b ≡ true
means_holds true b h e = h
means_holds false b h e = absurd (false≢true e)

pub means_shown : (a b : Bool) → (a ≡ true → b ≡ true) → (not a || b) ≡ true
means_shown true b h = h refl
means_shown false b h = refl

-- a Bool that is not true is false
pub not_so : (a : Bool) → (a ≡ true → ⊥) → a ≡ false
not_so true h = absurd (h refl)
not_so false h = refl

-- a conjunction of several, taken apart and put together
pub and_four : (a b c d : Bool) → (a && b && c && d) ≡ true → (a ≡ true) × (b ≡ true) × (c ≡ true) × (d ≡ true)
and_four a b c d h =
    let abc = and_left (a && b && c) d h in
    let ab = and_left (a && b) c abc in
    (and_left a b ab, and_right a b ab, and_right (a && b) c abc, and_right (a && b && c) d h)

pub four_and : (a b c d : Bool) → a ≡ true → b ≡ true → c ≡ true → d ≡ true → (a && b && c && d) ≡ true
four_and a b c d p q r s = and_both (a && b && c) d (and_both (a && b) c (and_both a b p q) r) s

-- neither of two tests holds exactly when both fail
pub either_false : (a b : Bool) → ((a || b) ≡ false) ↔ (a ≡ false) × (b ≡ false)
either_false true b = (λ e. absurd (true≢false e), λ e. e.0)
either_false false b = (λ e. (refl, e), λ e. e.1)

-- ---- chains of tests

-- A test decides between two facts that are never both so.
pub record Decides (b : Bool) (P Q : Type 0) : Type 0 where
  pub on_true : b ≡ true → P
  pub on_false : b ≡ false → Q
  pub apart : P → Q → ⊥

-- a test that is turned round decides what was tested
pub decides_not : (b : Bool) → Decides (not b) (b ≡ false) (b ≡ true)
decides_not true = record { on_true = λ e. absurd (false≢true e); on_false = λ _. refl; apart = λ f t. true≢false f }
decides_not false = record { on_true = λ _. refl; on_false = λ e. absurd (true≢false e); apart = λ f t. false≢true t }

-- a comparison decides which number is the larger
pub decides_less : (m n : ℕ) → Decides (ltb m n) (m < n) (n ≤ m)
decides_less m n = record { on_true = ltb-true m n; on_false = ltb-false m n; apart = λ p q. omega arith }

pub decides_most : (m n : ℕ) → Decides (leb m n) (m ≤ n) (n < m)
decides_most m n = record { on_true = leb-true m n; on_false = leb-false m n; apart = λ p q. omega arith }

-- a test that is false exactly when a fact holds decides between the fact's absence and the fact
pub decides_absent : {b : Bool} {Q : Type 0} → (b ≡ false ↔ Q) → Decides b (Q → ⊥) Q
decides_absent w = record { on_true = λ t q. true≢false (sym t ∙ w.1 q); on_false = w.0; apart = λ p q. p q }

-- The answer that a chain of tests comes to: it has a number exactly when that number's own condition holds, and some numbers never.
pub record Chain {A : Type 0} (number : A → ℕ) (answer : A) (has : ℕ → Bool) (When : ℕ → Type 0) : Type 0 where
  pub exactly : (n : ℕ) → (number answer ≡ n) ↔ When n
  pub never : (n : ℕ) → has n ≡ false → number answer ≡ n → ⊥

-- the end of a chain: one answer
pub chain_ends : {A : Type 0} (number : A → ℕ) (answer : A) → Chain number answer (eqb (number answer)) (λ n. number answer ≡ n)
chain_ends number answer = record { exactly = λ n. (λ e. e, λ e. e); never = λ n f. eqb-false _ n f }

-- one test more in front of it, whose own number the rest never has: that number exactly when the test holds, another when it does not and the rest comes to it
pub chain_tests : {A : Type 0} {number : A → ℕ} {b : Bool} {P Q : Type 0} {later : A} {has : ℕ → Bool} {When : ℕ → Type 0} (own : A)
    → Decides b P Q → Chain number later has When → has (number own) ≡ false → Chain number (cond b own later) (λ n. eqb (number own) n || has n) (λ n. cond (eqb (number own) n) P (Q × When n))
chain_tests {A} {number} {b} {P} {Q} {later} {has} {When} own d rest other = record { exactly = λ n. exact b d n (eqb (number own) n) refl; never = missed b }
  where
    exact : (b : Bool) → Decides b P Q → (n : ℕ) (mine : Bool) → eqb (number own) n ≡ mine → (number (cond b own later) ≡ n) ↔ cond mine P (Q × When n)
    exact true d n true e = (λ _. d.on_true refl, λ _. eqb-true _ n e)
    exact true d n false e = (λ q. absurd (eqb-false _ n e q), λ p. absurd (d.apart (d.on_true refl) p.0))
    exact false d n true e = (λ q. absurd (rest.never (number own) other (q ∙ sym (eqb-true _ n e))), λ p. absurd (d.apart p (d.on_false refl)))
    exact false d n false e = (λ q. (d.on_false refl, (rest.exactly n).0 q), λ p. (rest.exactly n).1 p.1)

    missed : (b : Bool) (n : ℕ) → (eqb (number own) n || has n) ≡ false → number (cond b own later) ≡ n → ⊥
    missed true n f = eqb-false _ n ((either_false _ _).0 f).0
    missed false n f = rest.never n ((either_false (eqb (number own) n) (has n)).0 f).1

-- the last test before the end, with no fact for the end itself
pub chain_last : {A : Type 0} {number : A → ℕ} {b : Bool} {P Q : Type 0} (own end : A)
    → Decides b P Q → eqb (number end) (number own) ≡ false → Chain number (cond b own end) (λ n. eqb (number own) n || eqb (number end) n) (λ n. cond (eqb (number own) n) P (cond (eqb (number end) n) Q ⊥))
chain_last {A} {number} {b} {P} {Q} own end d other = record { exactly = λ n. Iff.trans (all.exactly n) (drop n (eqb (number own) n) (eqb (number end) n) refl); never = all.never }
  where
    all : Chain number (cond b own end) (λ n. eqb (number own) n || eqb (number end) n) (λ n. cond (eqb (number own) n) P (Q × (number end ≡ n)))
    all = chain_tests own d (chain_ends number end) other

    drop : (n : ℕ) (mine last : Bool) → eqb (number end) n ≡ last → cond mine P (Q × (number end ≡ n)) ↔ cond mine P (cond last Q ⊥)
    drop n true last e = (λ p. p, λ p. p)
    drop n false true e = (λ p. p.0, λ q. (q, eqb-true _ n e))
    drop n false false e = (λ p. eqb-false _ n e p.1, λ q. absurd q)

-- nested facts, laid out in a row
pub flat_three : {A B C : Type 0} → (A × (B × C)) ↔ (A × B × C)
flat_three = (λ p. (p.0, p.1.0, p.1.1), λ p. (p.0, (p.1, p.2)))

pub flat_four : {A B C D : Type 0} → (A × (B × (C × D))) ↔ (A × B × C × D)
flat_four = (λ p. (p.0, p.1.0, p.1.1.0, p.1.1.1), λ p. (p.0, (p.1, (p.2, p.3))))

pub flat_five : {A B C D E : Type 0} → (A × (B × (C × (D × E)))) ↔ (A × B × C × D × E)
flat_five = (λ p. (p.0, p.1.0, p.1.1.0, p.1.1.1.0, p.1.1.1.1), λ p. (p.0, (p.1, (p.2, (p.3, p.4)))))
