-- Bits of a number, by halving. Assumes nothing.
use Rattle.std.specs.Prelude.{ℕ, zero, suc, ◌+◌, ◌*◌, ◌/◌, ◌%◌}

-- bit i of b
unfoldable pub bit : ℕ → ℕ → ℕ
bit b zero = b % 2
bit b (suc i) = bit (b / 2) i

-- b with bit i set to v
unfoldable pub with_bit : ℕ → ℕ → ℕ → ℕ
with_bit b zero v = b / 2 * 2 + v
with_bit b (suc i) v = b % 2 + 2 * with_bit (b / 2) i v
