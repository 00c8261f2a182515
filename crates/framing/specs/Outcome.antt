-- What some rules say of a file: it passes, or is refused. `outcome` is the verdict of stages before what comes behind them; with
-- `verdict_outcome` code goes on from it. Assumes nothing.
use Rattle.std.specs.Prelude.{◌≡◌, refl, Bool, true, false, cond, ℕ, ◌+◌, ◌*◌, ◌/◌, ◌%◌, ◌<◌, ◌≤◌, ltb, Result, Ok, Err, Option, Some, None}
use Rattle.std.proofs.Math.Path.{sym}
use Rattle.std.proofs.Common.{◌∙◌, arith, lit<, lit≤, lt-ltb, le-ltb, ltb-false, eq-eqb, below_more}
use mathlib.Core.List.{List, [], ◌∷◌}
use Rattle.words.specs.Bytes.{Bytes}
use Rattle.words.specs.First.{first}
use Rattle.words.specs.FirstLaws.{first_is, first_all, first_none, first_found}
use Rattle.rules.specs.Limits.{bad_file, bad_block}
use Rattle.rules.specs.Stages.{Stage, failure, refusal, verdict}
use Rattle.rules.specs.File.{blocks, length_right, place_right, check_right, block_test, length_stage, block_stage}
use Rattle.rules.specs.Verdict.{record_rules, verdict_of}
use Rattle.typing.specs.Stages.{Passes, AllPass}
use Rattle.rules.specs.Refusals.{Verdict, number_of, place_of}
use Rattle.rules.specs.Refusals as verdicts
use Rattle.rules.specs.declared.refusal.Refusal.{Refusal}

-- the answer of some rules: the file passes them, or is refused with a number and a place
pub data Outcome : Type 0 where
  Passed : Outcome
  Refused : (number place : ℕ) → Outcome

-- what the code's answer says, whatever it gives where the file passes
abbrev pub outcome_meant : {T : Type 0} → Result T Refusal → Outcome
outcome_meant (Ok x) = Passed
outcome_meant (Err e) = Refused (number_of e) (place_of e)

-- the first failure of the stages, or passed
unfoldable pub outcome : List Stage → Outcome
outcome [] = Passed
outcome (s ∷ ss) = cond (ltb (failure s) s.count) (Refused (s.number (failure s)) (s.place (failure s))) (outcome ss)

-- the first of n tests that fails, if one does
abbrev pub IsFirst : ℕ → (ℕ → Bool) → Option ℕ → Type 0
IsFirst n t None = first n t ≡ n
IsFirst n t (Some p) = (first n t ≡ p) × (p < n)

-- refusals 1, 2 and 3
unfoldable pub framing_of : Bytes → Outcome
framing_of f = outcome (length_stage f ∷ block_stage f ∷ [])

-- the verdict, where v is what comes behind the rules
abbrev pub and_then : Outcome → Verdict → Verdict
and_then Passed v = v
and_then (Refused n p) v = verdicts.Refused n p

pub verdict_outcome : (ss : List Stage) (v : Verdict) → verdict ss v ≡ and_then (outcome ss) v
unfolding verdict outcome
verdict_outcome [] v = refl
verdict_outcome (s ∷ ss) v = go (ltb (failure s) s.count) (verdict_outcome ss v)
  where
    go : (b : Bool) → verdict ss v ≡ and_then (outcome ss) v
        → cond b (refusal s (failure s)) (verdict ss v) ≡ and_then (cond b (Refused (s.number (failure s)) (s.place (failure s))) (outcome ss)) v
    go true h = refl
    go false h = h

-- the whole verdict, where it is made of these rules and `record_rules`
pub verdict_framing : (f : Bytes) → verdict_of f ≡ and_then (framing_of f) (record_rules f)
unfolding verdict_of framing_of
verdict_framing f = verdict_outcome (length_stage f ∷ block_stage f ∷ []) (record_rules f)

-- ---- stage by stage

-- a stage whose tests all pass is passed; where its first failure is p, p is the refusal
pub passes : (s : Stage) (ss : List Stage) {p : ℕ} → p ≡ failure s → s.count ≤ p → outcome (s ∷ ss) ≡ outcome ss
unfolding outcome
passes s ss {p} e h = rw (le-ltb (failure s) s.count (rw e at h))

pub refuses : (s : Stage) (ss : List Stage) {p : ℕ} → p ≡ failure s → p < s.count → outcome (s ∷ ss) ≡ Refused (s.number p) (s.place p)
unfolding outcome
refuses s ss {p} e h = rw (← e, lt-ltb p s.count h)

-- where no stage is left, passed
pub none : outcome [] ≡ Passed
unfolding outcome
none = refl

-- one stage, by the first of its tests that fails
pub first_passes : (s : Stage) → IsFirst s.count s.test None → Passed ≡ outcome (s ∷ [])
first_passes s h = sym (passes s [] (sym h) (omega arith) ∙ none)

pub first_refuses : (s : Stage) {p : ℕ} → IsFirst s.count s.test (Some p) → Refused (s.number p) (s.place p) ≡ outcome (s ∷ [])
first_refuses s h = sym (refuses s [] (sym h.0) h.1)

-- a stage of one test
one_passes : (t : ℕ → Bool) → t 0 ≡ true → 1 ≡ first 1 t
one_passes t e = sym (first_is 1 t 1 (omega arith) (λ j h. let z : j ≡ 0 = omega arith in rw z e) (λ h. absurd (omega arith)))

one_fails : (t : ℕ → Bool) → t 0 ≡ false → 0 ≡ first 1 t
one_fails t e = sym (first_is 1 t 0 (omega arith) (λ j h. absurd (omega arith)) (λ h. e))

-- stages are passed exactly where each of their tests passes
pub passed_all : (ss : List Stage) → outcome ss ≡ Passed → AllPass ss
unfolding outcome
passed_all [] e = tt
passed_all (s ∷ ss) e = go (ltb (failure s) s.count) refl e (passed_all ss)
  where
    go : (b : Bool) → ltb (failure s) s.count ≡ b → cond b (Refused (s.number (failure s)) (s.place (failure s))) (outcome ss) ≡ Passed
        → (outcome ss ≡ Passed → AllPass ss) → Passes s × AllPass ss
    go true q e h = let z : ◌≡◌ {A = ℕ} 0 1 = cc in absurd (omega arith)
    go false q e h = (first_all s.count s.test (ltb-false (failure s) s.count q), h e)

pub all_passed : (ss : List Stage) → AllPass ss → outcome ss ≡ Passed
unfolding outcome
all_passed [] p = refl
all_passed (s ∷ ss) p =
    let e : failure s ≡ s.count = first_none s.count s.test p.0 in
    passes s ss (sym e) (omega arith) ∙ all_passed ss p.1

-- ---- the cases of the code

-- block i has two tests: 2 first
place_first : (f : Bytes) (i : ℕ) → block_test f (2 * i) ≡ place_right f i
unfolding block_test
place_first f i = let r : 2 * i % 2 ≡ 0 = omega arith in let q : 2 * i / 2 ≡ i = omega arith in rw (eq-eqb (2 * i % 2) 0 r, q)

check_second : (f : Bytes) (i : ℕ) → block_test f (2 * i + 1) ≡ check_right f i
unfolding block_test
check_second f i = let r : (2 * i + 1) % 2 ≡ 1 = omega arith in let q : (2 * i + 1) / 2 ≡ i = omega arith in rw (r, q)

-- the tests of the blocks below i hold
pub Right : Bytes → ℕ → Type 0
Right f i = (j : ℕ) → j < 2 * i → block_test f j ≡ true

pub right_none : (f : Bytes) → Right f 0
unfolding Right
right_none f j h = absurd (omega arith)

module _ (f : Bytes) where
  pub wrong_length : length_right f ≡ false → Refused bad_file 0 ≡ framing_of f
  unfolding framing_of
  wrong_length e = sym (refuses (length_stage f) (block_stage f ∷ []) (one_fails _ e) (lit< tt))

  -- behind the length the blocks' tests decide
  pub wrong_block : length_right f ≡ true → {p : ℕ} → p ≡ first (2 * blocks f) (block_test f) → p < 2 * blocks f → Refused (bad_block + p % 2) (p / 2) ≡ framing_of f
  unfolding framing_of
  wrong_block e q h = sym (passes (length_stage f) (block_stage f ∷ []) (one_passes _ e) (lit≤ tt) ∙ refuses (block_stage f) [] q h)

  pub right_blocks : length_right f ≡ true → {p : ℕ} → p ≡ first (2 * blocks f) (block_test f) → 2 * blocks f ≤ p → Passed ≡ framing_of f
  unfolding framing_of
  right_blocks e q h = sym (passes (length_stage f) (block_stage f ∷ []) (one_passes _ e) (lit≤ tt) ∙ passes (block_stage f) [] q h ∙ none)

  pub wrong_place : length_right f ≡ true → {i : ℕ} → i < blocks f → Right f i → place_right f i ≡ false → Refused bad_block i ≡ framing_of f
  unfolding Right
  wrong_place e {i} h before d =
      let l : 2 * i < 2 * blocks f = omega arith in
      let n : bad_block ≡ bad_block + 2 * i % 2 = omega arith in
      let q : i ≡ 2 * i / 2 = omega arith in
      (λ k. Refused (n k) (q k)) ∙ wrong_block e (first_found _ _ _ before l (place_first f i ∙ d)) l

  pub wrong_check : length_right f ≡ true → {i : ℕ} → i < blocks f → Right f i → place_right f i ≡ true → check_right f i ≡ false → Refused (bad_block + 1) i ≡ framing_of f
  unfolding Right
  wrong_check e {i} h before r d =
      let l : 2 * i + 1 < 2 * blocks f = omega arith in
      let n : bad_block + 1 ≡ bad_block + (2 * i + 1) % 2 = omega arith in
      let q : i ≡ (2 * i + 1) / 2 = omega arith in
      (λ k. Refused (n k) (q k)) ∙ wrong_block e (first_found _ _ _ (below_more _ (2 * i) before (place_first f i ∙ r)) l (check_second f i ∙ d)) l

  pub right_more : (i : ℕ) → Right f i → place_right f i ≡ true → check_right f i ≡ true → Right f (i + 1)
  unfolding Right
  right_more i before r d j h = below_more _ (2 * i + 1) (below_more _ (2 * i) before (place_first f i ∙ r)) (check_second f i ∙ d) j (omega arith)

  -- where the tests of all blocks hold
  pub right_all : length_right f ≡ true → (i : ℕ) → i ≡ blocks f → Right f i → Passed ≡ framing_of f
  unfolding Right
  right_all e i q h = right_blocks e (sym (first_none (2 * blocks f) (block_test f) (λ j l. h j (omega arith)))) (omega arith)
