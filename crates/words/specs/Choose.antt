-- Laws of tests: `cond`, the if-then-else of every definition that goes by a test; `&&` and `||`; how a test reads as a fact, and where it is the answer of a decision.
-- Assumes nothing.
use Rattle.std.specs.Prelude.{◌≡◌, refl, Bool, true, false, cond, ◌&&◌, ◌||◌, ◌≢◌, ◌⊎◌, ◌↔◌, ℕ, ◌≤◌, ◌<◌, ltb, leb, eqb}
use Rattle.std.proofs.Common.{sym, ap, ◌∙◌, true≢false, inl, inr, ⊎_elim, ltb-true, ltb-false, leb-true, leb-false, lt-ltb, le-ltb, le-leb, eqb-true, eq-eqb, ne_eqb}
use Rattle.std.proofs.lemmas.Bool.{false≢true, lt-leb, eqb-false}
use Rattle.std.proofs.Math.Decide.{dec_le, dec_lt}
use Rattle.words.specs.Decide.{does, does_true, true_does}

-- ---- one test

pub split : (b : Bool) → (b ≡ true) ⊎ (b ≡ false)
split true = inl refl
split false = inr refl

pub true_not_false : {b : Bool} → b ≡ true → b ≡ false → ⊥
true_not_false p q = true≢false (sym p ∙ q)

pub false_by : {b : Bool} → (b ≡ true → ⊥) → b ≡ false
false_by {b} h = ⊎_elim (λ e. absurd (h e)) (λ e. e) (split b)

-- tests that hold in the same cases are equal
pub bool_same : (a b : Bool) → (a ≡ true → b ≡ true) → (b ≡ true → a ≡ true) → a ≡ b
bool_same true b h k = sym (h refl)
bool_same false true h k = k refl
bool_same false false h k = refl

-- ---- numbers in order

pub lt_or_le : (m n : ℕ) → (m < n) ⊎ (n ≤ m)
lt_or_le m n = ⊎_elim (λ e. inl (ltb-true m n e)) (λ e. inr (ltb-false m n e)) (split (ltb m n))

pub eq_or_ne : (m n : ℕ) → (m ≡ n) ⊎ (m ≢ n)
eq_or_ne m n = ⊎_elim (λ e. inl (eqb-true m n e)) (λ e. inr (eqb-false m n e)) (split (eqb m n))

-- ---- the branch taken

module _ {A : Type 0} (x y : A) where
  pub cond_yes : {b : Bool} → b ≡ true → cond b x y ≡ x
  cond_yes e = rw e

  pub cond_no : {b : Bool} → b ≡ false → cond b x y ≡ y
  cond_no e = rw e

  pub cond_le : {m n : ℕ} → m ≤ n → cond (leb m n) x y ≡ x
  cond_le {m} {n} h = cond_yes (le-leb m n h)

  pub cond_nle : {m n : ℕ} → n < m → cond (leb m n) x y ≡ y
  cond_nle {m} {n} h = cond_no (lt-leb m n h)

  pub cond_lt : {m n : ℕ} → m < n → cond (ltb m n) x y ≡ x
  cond_lt {m} {n} h = cond_yes (lt-ltb m n h)

  pub cond_nlt : {m n : ℕ} → n ≤ m → cond (ltb m n) x y ≡ y
  cond_nlt {m} {n} h = cond_no (le-ltb m n h)

  pub cond_eq : {m n : ℕ} → m ≡ n → cond (eqb m n) x y ≡ x
  cond_eq {m} {n} h = cond_yes (eq-eqb m n h)

  pub cond_ne : {m n : ℕ} → m ≢ n → cond (eqb m n) x y ≡ y
  cond_ne {m} {n} h = cond_no (ne_eqb m n h)

-- both branches alike
pub cond_same : {A : Type 0} (b : Bool) (x : A) → cond b x x ≡ x
cond_same true x = refl
cond_same false x = refl

-- a function of a choice is a choice
pub cond_ap : {A B : Type 0} (f : A → B) (b : Bool) (x y : A) → f (cond b x y) ≡ cond b (f x) (f y)
cond_ap f true x y = refl
cond_ap f false x y = refl

-- what each branch has under its test, the whole has
module _ {A : Type 0} (P : A → Type 0) where
  pub cond_split : (b : Bool) (x y : A) → (b ≡ true → P x) → (b ≡ false → P y) → P (cond b x y)
  cond_split true x y h k = h refl
  cond_split false x y h k = k refl

  pub split_le : (m n : ℕ) (x y : A) → (m ≤ n → P x) → (n < m → P y) → P (cond (leb m n) x y)
  split_le m n x y h k = cond_split (leb m n) x y (λ e. h (leb-true m n e)) (λ e. k (leb-false m n e))

  pub split_lt : (m n : ℕ) (x y : A) → (m < n → P x) → (n ≤ m → P y) → P (cond (ltb m n) x y)
  split_lt m n x y h k = cond_split (ltb m n) x y (λ e. h (ltb-true m n e)) (λ e. k (ltb-false m n e))

  pub split_eq : (m n : ℕ) (x y : A) → (m ≡ n → P x) → (m ≢ n → P y) → P (cond (eqb m n) x y)
  split_eq m n x y h k = cond_split (eqb m n) x y (λ e. h (eqb-true m n e)) (λ e. k (eqb-false m n e))

-- the branch that a value came from, where it has what the other branch has not
pub came_no : {A : Type 0} (P : A → Type 0) (b : Bool) (x y : A) → (P x → ⊥) → P (cond b x y) → (b ≡ false) × P y
came_no P true x y h p = absurd (h p)
came_no P false x y h p = (refl, p)

-- ---- and, or: taken apart and put together

pub both : (a b : Bool) → a && b ≡ true → (a ≡ true) × (b ≡ true)
both true b e = (refl, e)
both false b e = absurd (false≢true e)

pub both_of : {a b : Bool} → a ≡ true → b ≡ true → a && b ≡ true
both_of {a} {b} p q = ap (λ (x : Bool). x && b) p ∙ q

pub either : (a b : Bool) → a || b ≡ true → (a ≡ true) ⊎ (b ≡ true)
either true b e = inl refl
either false b e = inr e

pub left_of : (a b : Bool) → a ≡ true → a || b ≡ true
left_of a b e = ap (λ (x : Bool). x || b) e

pub right_of : (a b : Bool) → b ≡ true → a || b ≡ true
right_of true b e = refl
right_of false b e = e

-- one of two fails
pub not_both : (a b : Bool) → a && b ≡ false → (a ≡ false) ⊎ (b ≡ false)
not_both true b e = inr e
not_both false b e = inl refl

pub and_no : (a b : Bool) → (a ≡ false) ⊎ (b ≡ false) → a && b ≡ false
and_no true b (inl e) = absurd (true≢false e)
and_no true b (inr e) = e
and_no false b h = refl

pub neither : (a b : Bool) → a || b ≡ false → (a ≡ false) × (b ≡ false)
neither true b e = absurd (true≢false e)
neither false b e = (refl, e)

pub neither_of : {a b : Bool} → a ≡ false → b ≡ false → a || b ≡ false
neither_of {a} {b} p q = ap (λ (x : Bool). x || b) p ∙ q

-- ---- how a test reads: one line for a clause of a larger test

pub lt_reads : (m n : ℕ) → (ltb m n ≡ true) ↔ (m < n)
lt_reads m n = (ltb-true m n, lt-ltb m n)

pub le_reads : (m n : ℕ) → (leb m n ≡ true) ↔ (m ≤ n)
le_reads m n = (leb-true m n, le-leb m n)

pub eq_reads : (m n : ℕ) → (eqb m n ≡ true) ↔ (m ≡ n)
eq_reads m n = (eqb-true m n, eq-eqb m n)

pub and_reads : {P Q : Type 0} {a b : Bool} → (a ≡ true) ↔ P → (b ≡ true) ↔ Q → (a && b ≡ true) ↔ (P × Q)
and_reads {a = a} {b = b} p q =
    (λ e. let h = both a b e in (p.0 h.0, q.0 h.1), λ h. both_of (p.1 h.0) (q.1 h.1))

pub or_reads : {P Q : Type 0} {a b : Bool} → (a ≡ true) ↔ P → (b ≡ true) ↔ Q → (a || b ≡ true) ↔ (P ⊎ Q)
or_reads {a = a} {b = b} p q =
    (λ e. ⊎_elim (λ x. inl (p.0 x)) (λ x. inr (q.0 x)) (either a b e), ⊎_elim (λ x. left_of a b (p.1 x)) (λ x. right_of a b (q.1 x)))

-- ---- a test as a decision's answer

-- a test that holds where the fact does is the answer
pub does_same : {A : Type 0} (b : Bool) (d : Dec A) → (b ≡ true → A) → (A → b ≡ true) → b ≡ does d
does_same b d h k = bool_same b (does d) (λ e. true_does d (h e)) (λ e. k (does_true d e))

pub does_lt : (m n : ℕ) → ltb m n ≡ does (dec_lt m n)
does_lt m n = does_same (ltb m n) (dec_lt m n) (ltb-true m n) (lt-ltb m n)

pub does_le : (m n : ℕ) → leb m n ≡ does (dec_le m n)
does_le m n = does_same (leb m n) (dec_le m n) (leb-true m n) (le-leb m n)
