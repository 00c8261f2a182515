-- The first instruction of a function that breaks its rule, and the first function that has one, as stages of the verdict. Assumes
-- nothing.
use Rattle.std.specs.Prelude.{◌≡◌, refl, ℕ, suc, ◌<◌, ◌≤◌}
use Rattle.std.proofs.Math.Path.{sym, ap}
use Rattle.std.proofs.Common.{◌∙◌, arith}
use Rattle.words.specs.Bytes.{Bytes, list_from}
use Rattle.words.specs.First.{first}
use Rattle.words.specs.Decide.{does}
use Rattle.rules.specs.Limits.{bad_instruction}
use Rattle.rules.specs.Module.{Function}
use Rattle.rules.specs.Stages.{failure}
use Rattle.rules.specs.Decision.{dec_typed}
use Rattle.rules.specs.Decode.{module_of, start_of}
use Rattle.rules.specs.Verdict.{instruction_test, instruction_stage}
use Rattle.functions.specs.Functions.{function_at, function_at_law, instruction_in, place_in, place_in_law, code_at_law}
use Rattle.framing.specs.Outcome.{Outcome, Passed, Refused, outcome, passes, refuses}

-- the test of instruction i of the function with record 7 at h, which stands at record r
pub test_at_law : (f : Bytes) (h i r : ℕ) → r ≡ place_in f h i → does (dec_typed (module_of f) (function_at f h) (instruction_in f r)) ≡ instruction_test (module_of f) (function_at f h) i
unfolding instruction_test
test_at_law f h i r e = ap (λ (r : ℕ). does (dec_typed (module_of f) (function_at f h) (instruction_in f r))) e ∙ ap (λ c. does (dec_typed (module_of f) (function_at f h) c)) (sym (code_at_law f h i))

-- the instructions of the functions from g on, of c
unfoldable pub typed_from : Bytes → ℕ → ℕ → Outcome
typed_from f g n = outcome (list_from (instruction_stage f (module_of f)) g n)

module _ (f : Bytes) (g n h i place : ℕ) (at : h ≡ start_of f g) (is : i ≡ first (function_at f h).code_length (instruction_test (module_of f) (function_at f h))) where
  stage_is : first (function_at f h).code_length (instruction_test (module_of f) (function_at f h)) ≡ failure (instruction_stage f (module_of f) g)
  unfolding instruction_stage
  stage_is = ap (λ (F : Function). first F.code_length (instruction_test (module_of f) F)) (ap (function_at f) at ∙ sym (function_at_law f g))

  count_is : (function_at f h).code_length ≡ (instruction_stage f (module_of f) g).count
  unfolding instruction_stage
  count_is = ap (λ (F : Function). F.code_length) (ap (function_at f) at ∙ sym (function_at_law f g))

  pub typed_passes : (function_at f h).code_length ≤ i → typed_from f g (suc n) ≡ typed_from f (suc g) n
  unfolding typed_from list_from
  typed_passes l = passes (instruction_stage f (module_of f) g) (list_from (instruction_stage f (module_of f)) (suc g) n) (is ∙ stage_is) (omega (arith, count_is))

  pub typed_refuses : i < (function_at f h).code_length → place ≡ place_in f h i → typed_from f g (suc n) ≡ Refused bad_instruction place
  unfolding typed_from list_from
  typed_refuses l e = refuses (instruction_stage f (module_of f) g) (list_from (instruction_stage f (module_of f)) (suc g) n) (is ∙ stage_is) (omega (arith, count_is)) ∙ refusal_is
    where
      refusal_is : Refused ((instruction_stage f (module_of f) g).number i) ((instruction_stage f (module_of f) g).place i) ≡ Refused bad_instruction place
      refusal_is = unfold instruction_stage in ap (Refused bad_instruction) (place_in_law f g i ∙ ap (λ (h : ℕ). place_in f h i) (sym at) ∙ sym e)

pub typed_ended : (f : Bytes) (g : ℕ) → typed_from f g 0 ≡ Passed
unfolding typed_from outcome list_from
typed_ended f g = refl
