-- "Lower numbers first (2 and 3 as said), then lower places": a refusal is the first of all rules that a file breaks
-- (`first_broken`, in proofs/Order). Places ascend: functions stand one behind the other, and the instructions of each in order. Assumes nothing.
use Rattle.std.specs.Prelude.{◌≡◌, refl, cond, ◌⊎◌, ℕ, zero, suc, ◌+◌, ◌*◌, ◌<◌, ◌≤◌, eqb}
use Rattle.std.proofs.Common.{sym, not-suc-le-zero, arith}
use Rattle.std.proofs.Math.Path.{subst}
use Rattle.std.proofs.Math.Decide.{ℕ_discrete}
use Rattle.words.specs.Bytes.{Bytes}
use Rattle.rules.specs.File.{record_of, instructions_of}
use Rattle.rules.specs.Decode.{code_at, code_places, function_of, module_of, start_of, instruction_at}
use Rattle.typing.specs.Walk.{Fits, end_of, skip, skip_from, skip_less, place_at, code_from, end_from, good}

-- "2 place or count of a block, 3 its check: block by block, 2 first": 2 and 3 stand in one row, two steps for each block
abbrev pub row : ℕ → ℕ
row n = cond (eqb n 3) 2 n

abbrev pub step_in : ℕ → ℕ → ℕ
step_in n p = cond (eqb n 2) (2 * p) (cond (eqb n 3) (2 * p + 1) p)

-- a refusal with number m and place q comes before one with n and p
abbrev pub Earlier : ℕ → ℕ → ℕ → ℕ → Type 0
Earlier m q n p = (row m < row n) ⊎ ((row m ≡ row n) × (step_in m q < step_in n p))

-- ---- places ascend

length_is : (f : Bytes) (g : ℕ) → ((module_of f).function g).code_length ≡ instructions_of (record_of f (start_of f g))
unfolding module_of function_of start_of
length_is f g = refl

at_skip : (f : Bytes) (g i : ℕ) → i < ((module_of f).function g).code_length → instruction_at f g i ≡ skip f (code_at f (start_of f g)) i
unfolding instruction_at code_places
at_skip f g i h = place_at f (code_at f (start_of f g)) (instructions_of (record_of f (start_of f g))) i (omega (arith, length_is f g))

-- an instruction stands between its function's record 7 and its end
pub instruction_from : (f : Bytes) (g i : ℕ) → i < ((module_of f).function g).code_length → start_of f g < instruction_at f g i
instruction_from f g i h = omega (arith, at_skip f g i h, code_from f (start_of f g), skip_from f (code_at f (start_of f g)) i)

pub instruction_below : (f : Bytes) (g i : ℕ) → i < ((module_of f).function g).code_length → instruction_at f g i < end_of f (start_of f g)
instruction_below f g i h =
    let l : i < instructions_of (record_of f (start_of f g)) = omega (arith, length_is f g) in
    omega (arith, at_skip f g i h, skip_less f (code_at f (start_of f g)) i (instructions_of (record_of f (start_of f g))) l)

pub instruction_less : (f : Bytes) (g i j : ℕ) → i < j → j < ((module_of f).function g).code_length → instruction_at f g i < instruction_at f g j
instruction_less f g i j h l = omega (arith, at_skip f g i (omega arith), at_skip f g j l, skip_less f (code_at f (start_of f g)) i j h)

module _ (f : Bytes) (ok : Fits f) where
  -- each function ends before the next starts
  pub next_start : (g : ℕ) → suc g < (module_of f).functions → end_of f (start_of f g) ≤ start_of f (suc g)
  unfolding module_of start_of
  next_start g h = (good f ok).behind g h

  -- a function lies whole before a later one
  pub start_behind : (g h : ℕ) → g < h → h < (module_of f).functions → end_of f (start_of f g) ≤ start_of f h
  start_behind g zero l k = absurd (not-suc-le-zero l)
  start_behind g (suc h) l k = go (ℕ_discrete g h) (λ z. start_behind g h z (omega arith))
    where
      go : Dec (g ≡ h) → (g < h → end_of f (start_of f g) ≤ start_of f h) → end_of f (start_of f g) ≤ start_of f (suc h)
      go (yes e) ih = subst (λ (i : ℕ). end_of f (start_of f i) ≤ start_of f (suc h)) (sym e) (next_start h k)
      go (no e) ih = omega (arith, ih (omega arith), end_from f (start_of f h), next_start h k)

  pub start_less : (g h : ℕ) → g < h → h < (module_of f).functions → start_of f g < start_of f h
  start_less g h l k = omega (arith, end_from f (start_of f g), start_behind g h l k)

  pub instruction_across : (g h i j : ℕ) → g < h → h < (module_of f).functions → i < ((module_of f).function g).code_length → j < ((module_of f).function h).code_length
      → instruction_at f g i < instruction_at f h j
  instruction_across g h i j l k a b = omega (arith, instruction_below f g i a, start_behind g h l k, instruction_from f h j b)
