-- What `all` and `find` over a range of numbers answer where the closure makes a test: `all_below` and `first`. Assumes nothing.
use Rattle.std.specs.Prelude.{◌≡◌, refl, List, Bool, true, false, not, ℕ, zero, suc, ◌+◌, ◌<◌, ◌≤◌, Option, None, Some, unwrap_or, MatchOption}
use Rattle.std.specs.Bool.{⊤}
use Rattle.std.specs.Fn.{Mut, Called, CalledAt}
use Rattle.std.specs.Iterator.{YieldsThen}
use Rattle.std.specs.List.{FoldsTo, list_all, range_with_len}
use Rattle.std.specs.declared.ops.Range.{Range}
use Rattle.std.proofs.Common.{sym, ◌∙◌, arith, Bor}
use Rattle.std.proofs.Math.Decide.{ℕ_discrete}
use Rattle.std.proofs.iter.Yields.{nat_range_steps}
use Rattle.std.proofs.lemmas.Iterator.{YieldsList-from_range, first_from_Range}
use Rattle.std.proofs.lemmas.Iterator.Search.{all_from_yields_List}
use Rattle.words.specs.Choose.{bool_same, both, both_of}
use Rattle.words.specs.First.{all_below, first}
use Rattle.words.specs.FirstLaws.{all_holds, all_from, first_is, first_none}

-- ---- the list of a range

module _ (t : ℕ → Bool) where
  list_holds : (a n : ℕ) → list_all t (range_with_len a n) ≡ true → (k : ℕ) → a ≤ k → k < a + n → t k ≡ true
  list_holds a zero e k l m = absurd (omega arith)
  list_holds a (suc n) e k l m =
      let h = both (t a) (list_all t (range_with_len (a + 1) n)) e in
      elim (ℕ_discrete k a) [ yes q ↦ rw q h.0 | no q ↦ list_holds (a + 1) n h.1 k (omega arith) (omega arith) ]

  list_from : (a n : ℕ) → ((k : ℕ) → a ≤ k → k < a + n → t k ≡ true) → list_all t (range_with_len a n) ≡ true
  list_from a zero h = refl
  list_from a (suc n) h = both_of (h a (omega arith) (omega arith)) (list_from (a + 1) n (λ k l m. h k (omega arith) (omega arith)))

  list_is : (n : ℕ) → list_all t (range_with_len 0 n) ≡ all_below n t
  list_is n =
      bool_same (list_all t (range_with_len 0 n)) (all_below n t) (λ e. all_from n t (λ k l. list_holds 0 n e k (omega arith) (omega arith)))
      (λ e. list_from 0 n (λ k l m. all_holds n t e k (omega arith)))

-- ---- the two calls

-- `(0..count).all(..)`, where the closure makes the test
pub all_of_range : {F : Type 0} {g : Mut F (ℕ × Unit {0}) Bool} (t : ℕ → Bool) {count n : ℕ} → count ≡ n → {u : Range ℕ} {f : F} {r : Bool}
    → (xs : List ℕ) × (o : Option ℕ) × (j : F) × YieldsThen nat_range_steps (record { start = 0; end = count }) xs o u × FoldsTo (λ p x q. Called g p (x, tt) true q) f xs j × MatchOption o (r ≡ true) (λ x. (r ≡ false) × ((h : F) × Called g j (x, tt) false h))
    → ((x : ℕ) (b : Bool) (q : F) → Called g f (x, tt) b q → (q ≡ f) × (b ≡ t x))
    → r ≡ all_below n t
all_of_range t {count} {n} e {u} {f} {r} ran is = all_from_yields_List t u f r ran (YieldsList-from_range 0 count n refl (omega arith)) is ∙ list_is t n

-- `(0..n).find(..)`, where the closure makes the opposite of the test: the first that fails it, and n stands for none
pub find_of_range : {F : Type 0} {g : Mut F (Bor ℕ × Unit {0}) Bool} (t : ℕ → Bool) {n : ℕ} {f : F} (u : Range ℕ) (r : Option ℕ)
    → (xs : List ℕ) × (j : F) × YieldsThen nat_range_steps (record { start = 0; end = n }) xs r u × FoldsTo (λ p x q. CalledAt g p x false q) f xs j × MatchOption r ⊤ (λ x. (h : F) × CalledAt g j x true h)
    → ((x : ℕ) (b : Bool) (q : F) → CalledAt g f x b q → (q ≡ f) × (not b ≡ t x))
    → unwrap_or r n ≡ first n t
find_of_range t {n} {f} u r ran is =
    go r (first_from_Range (record { start = 0; end = n }) u f r (λ i. t i ≡ false) (λ i. t i ≡ true) ran (λ x q k. sym (is x true q k).1)
    (λ x q k. ((is x false q k).0, sym (is x false q k).1)))
  where
    go : (o : Option ℕ) → MatchOption o ((k : ℕ) → 0 ≤ k → k < n → t k ≡ true) (λ i. (0 ≤ i) × (i < n) × (t i ≡ false) × ((k : ℕ) → 0 ≤ k → k < i → t k ≡ true)) → unwrap_or o n ≡ first n t
    go None h = sym (first_none n t (λ j l. h j (omega arith) l))
    go (Some i) h = sym (first_is n t i (omega (arith, h.1)) (λ j l. h.3 j (omega arith) l) (λ l. h.2))
