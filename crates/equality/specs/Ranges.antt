-- What `all` over a range of numbers says, as the definitions say it: `all_below`. Assumes nothing.
use Rattle.std.specs.Prelude.{◌≡◌, refl, Bool, true, ℕ, zero, suc, ◌+◌, ◌-◌, ◌<◌}
use Rattle.std.proofs.Common.{subst, ⊎_elim, arith}
use Rattle.std.specs.List.{list_all, range_with_len}
use Rattle.words.specs.Choose.{bool_same, both, both_of, lt_or_le}
use Rattle.words.specs.First.{all_below}
use Rattle.words.specs.FirstLaws.{all_holds, all_from}

module _ (t : ℕ → Bool) where
  range_holds : (a n : ℕ) → list_all t (range_with_len a n) ≡ true → (k : ℕ) → k < n → t (a + k) ≡ true
  range_holds a zero e k l = absurd (omega arith)
  range_holds a (suc n) e k l =
      let b = both (t a) (list_all t (range_with_len (a + 1) n)) e in
      ⊎_elim
      (λ m. let z : a + k ≡ a = omega arith in rw z b.0)
      (λ m. let z : a + k ≡ a + 1 + (k - 1) = omega arith in rw z (range_holds (a + 1) n b.1 (k - 1) (omega arith)))
      (lt_or_le k 1)

  range_all : (a n : ℕ) → ((k : ℕ) → k < n → t (a + k) ≡ true) → list_all t (range_with_len a n) ≡ true
  range_all a zero h = refl
  range_all a (suc n) h =
      both_of
      (let z : a + 0 ≡ a = omega arith in subst (λ (j : ℕ). t j ≡ true) z (h 0 (omega arith)))
      (range_all (a + 1) n (λ k l. let z : a + suc k ≡ a + 1 + k = omega arith in subst (λ (j : ℕ). t j ≡ true) z (h (suc k) (omega arith))))

  -- of the first n numbers
  pub all_in_range : (n : ℕ) → list_all t (range_with_len 0 n) ≡ all_below n t
  all_in_range n = bool_same (list_all t (range_with_len 0 n)) (all_below n t)
      (λ e. all_from n t (λ k l. let z : 0 + k ≡ k = omega arith in subst (λ (j : ℕ). t j ≡ true) z (range_holds 0 n e k l)))
      (λ e. range_all 0 n (λ k l. let z : 0 + k ≡ k = omega arith in rw z (all_holds n t e k l)))
