-- The first index at which a test fails: one function for framing, every rule, the allocator and every scan.
-- Assumes nothing.
use Rattle.std.specs.Prelude.{Bool, true, false, ℕ, zero, suc, ◌+◌}

-- from i on, k indices; i + k where none fails
unfoldable pub first_from : (ℕ → Bool) → ℕ → ℕ → ℕ
first_from t i zero = i
first_from t i (suc k) = elim (t i) [ true ↦ first_from t (suc i) k | false ↦ i ]

-- below n, or n
unfoldable pub first : ℕ → (ℕ → Bool) → ℕ
first n t = first_from t 0 n

-- the test holds of every index below n
unfoldable pub all_below : ℕ → (ℕ → Bool) → Bool
all_below zero t = true
all_below (suc n) t = elim (all_below n t) [ true ↦ t n | false ↦ false ]

-- g 0 + g 1 + .. + g (n - 1)
unfoldable pub sum_below : ℕ → (ℕ → ℕ) → ℕ
sum_below zero g = 0
sum_below (suc n) g = sum_below n g + g n
