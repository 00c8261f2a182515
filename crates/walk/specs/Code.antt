-- Laws of the places of a function's instructions, for code that goes from one to the next: where they stand, and how far they can be.
-- Assumes nothing.
use Rattle.std.specs.Prelude.{◌≡◌, ltb, eqb}
use Prim.Native.Nat.{ℕ, zero, suc, ◌+◌, ◌*◌, ◌<◌, ◌≤◌}
use native.Mathlib.Omega.{arith}
use Rattle.words.specs.Bytes.{Bytes}
use Rattle.words.specs.Choose.{cond_split}
use Rattle.rules.specs.File.{record_of, regions_of, instructions_of, kind_call}
use Rattle.rules.specs.Decode.{registers_at, code_at, after, code_places, start_of, instruction_at}
use Rattle.typing.specs.Walk.{skip, place_at}

module _ (f : Bytes) where
  pub registers_far : (h : ℕ) → registers_at f h ≤ h + 2
  registers_far h = cond_split (λ (r : ℕ). r ≤ h + 2) (ltb 0 (regions_of (record_of f h))) (h + 2) (h + 1) (λ e. omega arith) (λ e. omega arith)

  pub after_far : (r : ℕ) → after f r ≤ r + 2
  after_far r = cond_split (λ (k : ℕ). k ≤ r + 2) (eqb (record_of f r).kind kind_call) (r + 2) (r + 1) (λ e. omega arith) (λ e. omega arith)

  pub skip_far : (r n : ℕ) → skip f r n ≤ r + 2 * n
  unfolding skip
  skip_far r zero = omega arith
  skip_far r (suc n) = let a = skip_far (after f r) n in let b = after_far r in omega arith

  -- instruction i of function g
  pub instruction_skip : (g i : ℕ) → i < instructions_of (record_of f (start_of f g)) → instruction_at f g i ≡ skip f (code_at f (start_of f g)) i
  unfolding instruction_at code_places
  instruction_skip g i h = place_at f (code_at f (start_of f g)) (instructions_of (record_of f (start_of f g))) i h
