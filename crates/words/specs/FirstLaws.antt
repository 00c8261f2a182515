-- Laws of `first`, `all_below` and `sum_below`: what a scan shows at its end, and how it reads. Assumes nothing.
use Rattle.std.specs.Prelude.{◌≡◌, refl, Bool, true, false, ◌↔◌, ℕ, zero, suc, ◌+◌, ◌*◌, ◌≤◌, ◌<◌}
use Rattle.std.proofs.Common.{sym, ◌∙◌, ⊎_elim, add-one, arith}
use Rattle.std.proofs.lemmas.Bool.{false≢true}
use Rattle.std.proofs.Math.Nat.{zero-add}
use Rattle.std.proofs.Math.Decide.{dec_lt}
use Rattle.words.specs.First.{first_from, first, all_below, sum_below}
use Rattle.words.specs.Choose.{true_not_false, false_by, lt_or_le}

-- ---- the first failure

-- what makes p the first failure from i up to n
pub record Least (t : ℕ → Bool) (i n p : ℕ) : Type 0 where
  pub from : i ≤ p
  pub within : p ≤ n
  pub before : (j : ℕ) → i ≤ j → j < p → t j ≡ true
  pub fails : p < n → t p ≡ false

-- a failure later on is the first one, where the test holds here
later : (t : ℕ → Bool) (i n p : ℕ) → t i ≡ true → Least t (suc i) n p → Least t i n p
later t i n p e l =
    record {
      from = omega arith;
      within = l.within;
      before = λ j a b. at j a b (dec_lt i j);
      fails = l.fails;
    }
  where
    at : (j : ℕ) → i ≤ j → j < p → Dec (i < j) → t j ≡ true
    at j a b (yes h) = l.before j h b
    at j a b (no h) = let s : j ≡ i = omega arith in rw s e

pub first_from_least : (t : ℕ → Bool) (i k : ℕ) → Least t i (i + k) (first_from t i k)
unfolding first_from
first_from_least t i zero =
    record { from = omega arith; within = omega arith; before = λ j a b. absurd (omega arith); fails = λ h. absurd (omega arith) }
first_from_least t i (suc k) = go (t i) refl (first_from_least t (suc i) k)
  where
    go : (b : Bool) → t i ≡ b → Least t (suc i) (suc i + k) (first_from t (suc i) k)
        → Least t i (i + suc k) (elim b [ true ↦ first_from t (suc i) k | false ↦ i ])
    go true e l = let s : i + suc k ≡ suc i + k = omega arith in rw s (later t i _ _ e l)
    go false e l =
        record { from = omega arith; within = omega arith; before = λ j a b. absurd (omega arith); fails = λ h. e }

-- there is one least failure
least_unique : (t : ℕ → Bool) (i n p q : ℕ) → Least t i n p → Least t i n q → p < q → ⊥
least_unique t i n p q a b h =
    let w : q ≤ n = b.within in
    false≢true (sym (a.fails (omega arith)) ∙ b.before p a.from h)

pub least_is : (t : ℕ → Bool) (i n p q : ℕ) → Least t i n p → Least t i n q → p ≡ q
least_is t i n p q a b = same (dec_lt p q) (dec_lt q p)
  where
    same : Dec (p < q) → Dec (q < p) → p ≡ q
    same (yes h) d = absurd (least_unique t i n p q a b h)
    same (no h) (yes k) = absurd (least_unique t i n q p b a k)
    same (no h) (no k) = omega arith

module _ (n : ℕ) (t : ℕ → Bool) where
  pub first_least : Least t 0 n (first n t)
  unfolding first
  first_least = rw zero-add at (first_from_least t 0 n)

  pub first_le : first n t ≤ n
  first_le = first_least.within

  -- every index before the first failure passes
  pub first_before : (j : ℕ) → j < first n t → t j ≡ true
  first_before j h = first_least.before j (omega arith) h

  -- the one found fails
  pub first_fails : first n t < n → t (first n t) ≡ false
  first_fails h = first_least.fails h

  -- how a loop shows its result: all before p hold, and p fails unless it is n
  pub first_is : (p : ℕ) → p ≤ n → ((j : ℕ) → j < p → t j ≡ true) → (p < n → t p ≡ false) → first n t ≡ p
  first_is p h before fails =
      least_is t 0 n (first n t) p first_least
      (record { from = omega arith; within = h; before = λ j a b. before j b; fails = fails })

  pub first_none : ((j : ℕ) → j < n → t j ≡ true) → first n t ≡ n
  first_none h = first_is n (omega arith) h (λ a. absurd (omega arith))

  -- where none fails, every index below n passes
  pub first_all : n ≤ first n t → (j : ℕ) → j < n → t j ≡ true
  first_all h j l = first_before j (omega arith)

-- tests equal below n have one first failure
pub first_agree : (n : ℕ) (t u : ℕ → Bool) → ((j : ℕ) → j < n → t j ≡ u j) → first n t ≡ first n u
first_agree n t u h =
    let w : first n u ≤ n = first_le n u in
    first_is n t (first n u) w (λ j l. h j (omega arith) ∙ first_before n u j l) (λ l. h (first n u) l ∙ first_fails n u l)

-- ---- what a scan by `while i < n { if !t(i) { return i; } i += 1; }` has at its two ends
module _ (n : ℕ) (t : ℕ → Bool) (i : ℕ) (before : (j : ℕ) → j < i → t j ≡ true) where
  pub first_found : i < n → t i ≡ false → i ≡ first n t
  first_found l h = sym (first_is n t i (omega arith) before (λ _. h))

  pub first_ended : i ≤ n → n ≤ i → i ≡ first n t
  first_ended l h = sym (first_is n t i l before (λ a. absurd (omega arith)))

-- ---- every index below n

and_elim : (a b : Bool) → a ≡ true → b ≡ true → elim a [ true ↦ b | false ↦ false ] ≡ true
and_elim true b p q = q
and_elim false b p q = p

elim_left : (a b : Bool) → elim a [ true ↦ b | false ↦ false ] ≡ true → (a ≡ true) × (b ≡ true)
elim_left true b e = (refl, e)
elim_left false b e = absurd (false≢true e)

pub all_holds : (n : ℕ) (t : ℕ → Bool) → all_below n t ≡ true → (k : ℕ) → k < n → t k ≡ true
unfolding all_below
all_holds zero t e k l = absurd (omega arith)
all_holds (suc n) t e k l =
    let h = elim_left (all_below n t) (t n) e in
    ⊎_elim (λ m. all_holds n t h.0 k m) (λ m. let s : k ≡ n = omega arith in rw s h.1) (lt_or_le k n)

pub all_from : (n : ℕ) (t : ℕ → Bool) → ((k : ℕ) → k < n → t k ≡ true) → all_below n t ≡ true
unfolding all_below
all_from zero t h = refl
all_from (suc n) t h = and_elim (all_below n t) (t n) (all_from n t (λ k l. h k (omega arith))) (h n (omega arith))

-- the same for a test that reads as a fact
pub all_as : {P : ℕ → Type 0} (n : ℕ) (t : ℕ → Bool) → ((k : ℕ) → (t k ≡ true) ↔ P k) → (all_below n t ≡ true) ↔ ((k : ℕ) → k < n → P k)
all_as n t h = (λ e k l. (h k).0 (all_holds n t e k l), λ f. all_from n t (λ k l. (h k).1 (f k l)))

-- what a scan that returns false at the first failure has at its two ends
module _ (n : ℕ) (t : ℕ → Bool) (i : ℕ) where
  pub all_broken : i < n → t i ≡ false → false ≡ all_below n t
  all_broken l e = sym (false_by (λ h. true_not_false (all_holds n t h i l) e))

  pub all_ended : ((j : ℕ) → j < i → t j ≡ true) → n ≤ i → true ≡ all_below n t
  all_ended before h = sym (all_from n t (λ k l. before k (omega arith)))

-- ---- sums

-- one term more, as a loop counts
pub sum_below_more : (n : ℕ) (g : ℕ → ℕ) → sum_below (n + 1) g ≡ sum_below n g + g n
unfolding sum_below
sum_below_more n g = rw add-one

-- at most c a term
pub sum_below_bound : (n c : ℕ) (g : ℕ → ℕ) → ((k : ℕ) → k < n → g k ≤ c) → sum_below n g ≤ n * c
unfolding sum_below
sum_below_bound zero c g e = omega arith
sum_below_bound (suc n) c g e =
    let a = sum_below_bound n c g (λ k l. e k (omega arith)) in
    let b = e n (omega arith) in
    omega arith
