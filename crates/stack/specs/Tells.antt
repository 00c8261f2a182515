-- What a test's answer says: it is true just where its fact holds. How answers are put together, how a scan that returns at the first
-- failure shows its answer, and that such an answer is that of any decision of the fact. Assumes nothing.
use Rattle.std.specs.Prelude.{◌≡◌, refl, Bool, true, false, not, ◌&&◌, ◌||◌, ◌⊎◌, ℕ, ◌+◌, ◌≤◌, ◌<◌, eqb, ltb, leb}
use Rattle.std.proofs.Common.{sym, ap, ◌∙◌, inl, inr, ⊎_elim, arith, ltb-true, lt-ltb, leb-true, le-leb, eqb-true, eq-eqb}
use Rattle.std.proofs.lemmas.Bool.{false≢true, not-true, not-false}
use Rattle.words.specs.Choose.{true_not_false, false_by, lt_or_le, both, both_of, either, left_of, right_of}
use Rattle.words.specs.Decide.{does, does_true}
use Rattle.typing.specs.Tests.{true_does}

pub record Tells (b : Bool) (P : Type 0) : Type 0 where
  pub holds : b ≡ true → P
  pub shows : P → b ≡ true

-- ---- one test

pub tells_lt : (m n : ℕ) → Tells (ltb m n) (m < n)
tells_lt m n = record { holds = ltb-true m n; shows = lt-ltb m n }

pub tells_le : (m n : ℕ) → Tells (leb m n) (m ≤ n)
tells_le m n = record { holds = leb-true m n; shows = le-leb m n }

pub tells_eq : (m n : ℕ) → Tells (eqb m n) (m ≡ n)
tells_eq m n = record { holds = eqb-true m n; shows = eq-eqb m n }

pub tells_yes : {P : Type 0} → P → Tells true P
tells_yes p = record { holds = λ e. p; shows = λ p. refl }

pub tells_no : {P : Type 0} → ¬ P → Tells false P
tells_no n = record { holds = λ e. absurd (false≢true e); shows = λ p. absurd (n p) }

-- ---- put together

pub tells_map : {b : Bool} {P Q : Type 0} → (P → Q) → (Q → P) → Tells b P → Tells b Q
tells_map to back t = record { holds = λ e. to (t.holds e); shows = λ q. t.shows (back q) }

pub tells_and : {a b : Bool} {P Q : Type 0} → Tells a P → Tells b Q → Tells (a && b) (P × Q)
tells_and {a} {b} s t =
    record { holds = λ e. let h = both a b e in (s.holds h.0, t.holds h.1); shows = λ p. both_of (s.shows p.0) (t.shows p.1) }

pub tells_or : {a b : Bool} {P Q : Type 0} → Tells a P → Tells b Q → Tells (a || b) (P ⊎ Q)
tells_or {a} {b} s t =
    record {
      holds = λ e. ⊎_elim (λ x. inl (s.holds x)) (λ x. inr (t.holds x)) (either a b e);
      shows = ⊎_elim (λ x. left_of a b (s.shows x)) (λ x. right_of a b (t.shows x));
    }

pub told_yes : {b : Bool} {P : Type 0} → Tells b P → not b ≡ false → P
told_yes {b} t e = t.holds (not-false b e)

pub told_no : {b : Bool} {P : Type 0} → Tells b P → not b ≡ true → ¬ P
told_no {b} t e p = true_not_false (t.shows p) (not-true b e)

pub tells_not : {b : Bool} {P : Type 0} → Tells b P → Tells (not b) (¬ P)
tells_not {b} t =
    record { holds = λ e. told_no t e; shows = λ n. ap not (false_by (λ e. n (t.holds e))) }

-- the contrary of a decided fact's contrary
pub tells_back : {b : Bool} {P : Type 0} → Dec P → Tells b (¬ P) → Tells (not b) P
tells_back {b} (yes p) t = tells_map (λ n. p) (λ q n. n q) (tells_not t)
tells_back {b} (no n) t = tells_map (λ m. absurd (m n)) (λ p m. n p) (tells_not t)

-- the answer of a decision
pub tells_does : {b : Bool} {P : Type 0} → Tells b P → (d : Dec P) → b ≡ does d
tells_does {b} {P} t d = go d
  where
    go : (d : Dec P) → b ≡ does d
    go (yes p) = t.shows p
    go (no n) = false_by (λ e. n (t.holds e))

pub does_tells : {b : Bool} {P : Type 0} (d : Dec P) → b ≡ does d → Tells b P
does_tells d q = record { holds = λ e. does_true d (sym q ∙ e); shows = λ p. q ∙ true_does d p }

-- ---- THE scan: indices from 0 on, false at the first failure

module _ (P : ℕ → Type 0) where
  pub scan_none : (j : ℕ) → j < 0 → P j
  scan_none j h = absurd (omega arith)

  pub scan_more : (i : ℕ) {b : Bool} → ((j : ℕ) → j < i → P j) → Tells b (P i) → not b ≡ false → (j : ℕ) → j < i + 1 → P j
  scan_more i h t e j l = ⊎_elim (h j) (λ a. let q : j ≡ i = omega arith in rw q (told_yes t e)) (lt_or_le j i)

  pub scan_broken : (n i : ℕ) {b : Bool} → i < n → Tells b (P i) → not b ≡ true → Tells false ((j : ℕ) → j < n → P j)
  scan_broken n i l t e = tells_no (λ h. told_no t e (h i l))

  pub scan_ended : (n i : ℕ) → ((j : ℕ) → j < i → P j) → n ≤ i → Tells true ((j : ℕ) → j < n → P j)
  scan_ended n i h l = tells_yes (λ j k. h j (omega arith))
