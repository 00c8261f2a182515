-- The verdict of refusals 5 to 8, rule by rule from the last to the first: what is left of it where the rules before have passed.
-- Assumes nothing.
use Rattle.std.specs.Prelude.{◌≡◌, Bool, true, false, [], ◌∷◌, ◌++◌, ℕ, ◌+◌, ◌-◌, ◌<◌, ◌≤◌, Option, Some, None}
use Rattle.std.specs.Option.{option_or}
use Rattle.std.proofs.Math.Path.{refl, sym, ap, subst}
use Rattle.std.proofs.Common.{◌∙◌, arith, below_more, lt-ltb, le-ltb}
use Rattle.words.specs.Bytes.{Bytes, list_of}
use Rattle.words.specs.First.{first}
use Rattle.words.specs.FirstLaws.{first_le, first_before, first_fails, first_is}
use Rattle.rules.specs.Stages.{Stage, verdict, failure}
use Rattle.rules.specs.Decode.{module_of, start_of, instruction_at}
use Rattle.rules.specs.Module.{Function}
use Rattle.rules.specs.Walk.{whole}
use Rattle.walk.specs.Tables.{instructions_below, instructions_all}
use Rattle.functions.specs.Functions.{function_at, function_at_law, place_in, place_in_law}
use Rattle.rules.specs.Verdict.{term_stage, struct_stage, function_stage, function_test, instruction_stage, last_stage, module_stages, accepted_as, module_rules, verdict_of}
use Rattle.rules.specs.Refusals.{Verdict}
use Rattle.rules.specs.Refusals as verdicts
use Rattle.typing.specs.Stages.{verdict_append}
use Rattle.framing.specs.Outcome.{Outcome, Passed, Refused, outcome, and_then, verdict_outcome, passed_all, IsFirst}
use Rattle.records.specs.Checked.{checked_of, checked_verdict}
use Rattle.instructions.specs.Scan.{typed_from}

-- one stage, and v behind it
pub stage_passes : (s : Stage) (v : Verdict) {p : ℕ} → p ≡ failure s → s.count ≤ p → v ≡ verdict (s ∷ []) v
unfolding verdict
stage_passes s v {p} e h = rw (le-ltb (failure s) s.count (rw e at h))

pub stage_refuses : (s : Stage) (v : Verdict) {p : ℕ} → p ≡ failure s → p < s.count → verdicts.Refused (s.number p) (s.place p) ≡ verdict (s ∷ []) v
unfolding verdict
stage_refuses s v {p} e h = rw (← e, lt-ltb p s.count h)

stage_passed : (s : Stage) (v : Verdict) → Passed ≡ outcome (s ∷ []) → v ≡ verdict (s ∷ []) v
stage_passed s v e = sym (verdict_outcome (s ∷ []) v ∙ ap (λ (o : Outcome). and_then o v) (sym e))

stage_refused : (s : Stage) (v : Verdict) {n p : ℕ} → Refused n p ≡ outcome (s ∷ []) → verdicts.Refused n p ≡ verdict (s ∷ []) v
stage_refused s v e = sym (verdict_outcome (s ∷ []) v ∙ ap (λ (o : Outcome). and_then o v) (sym e))

module _ (f : Bytes) where
  -- refusal 8; 7 and 8; 6 to 8; 5 to 8
  unfoldable pub last_rules : Verdict
  last_rules = verdict (last_stage f (module_of f) ∷ []) (accepted_as (module_of f))

  unfoldable pub typed_rules : Verdict
  typed_rules = and_then (typed_from f 0 (module_of f).functions) last_rules

  unfoldable pub function_rules : Verdict
  function_rules = verdict (function_stage f (module_of f) ∷ []) typed_rules

  unfoldable pub struct_rules : Verdict
  struct_rules = verdict (struct_stage (module_of f) ∷ []) function_rules

  unfoldable pub term_rules : Verdict
  term_rules = verdict (term_stage (module_of f) ∷ []) struct_rules

  pub module_rules_law : term_rules ≡ module_rules f
  unfolding term_rules struct_rules function_rules typed_rules last_rules typed_from module_rules module_stages
  module_rules_law =
      ap (λ (v : Verdict). verdict (term_stage (module_of f) ∷ []) (verdict (struct_stage (module_of f) ∷ []) (verdict (function_stage f (module_of f) ∷ []) v)))
      (sym (verdict_append (list_of (instruction_stage f (module_of f)) (module_of f).functions) (last_stage f (module_of f) ∷ []) (accepted_as (module_of f))
      ∙ verdict_outcome (list_of (instruction_stage f (module_of f)) (module_of f).functions) (verdict (last_stage f (module_of f) ∷ []) (accepted_as (module_of f)))))
      ∙ ap (λ (v : Verdict). verdict (term_stage (module_of f) ∷ []) (verdict (struct_stage (module_of f) ∷ []) v))
      (sym (verdict_append (function_stage f (module_of f) ∷ []) (list_of (instruction_stage f (module_of f)) (module_of f).functions ++ last_stage f (module_of f) ∷ []) (accepted_as (module_of f))))
      ∙ ap (λ (v : Verdict). verdict (term_stage (module_of f) ∷ []) v)
      (sym (verdict_append (struct_stage (module_of f) ∷ []) (function_stage f (module_of f) ∷ list_of (instruction_stage f (module_of f)) (module_of f).functions ++ last_stage f (module_of f) ∷ []) (accepted_as (module_of f))))
      ∙ sym (verdict_append (term_stage (module_of f) ∷ []) (struct_stage (module_of f) ∷ function_stage f (module_of f) ∷ list_of (instruction_stage f (module_of f)) (module_of f).functions ++ last_stage f (module_of f) ∷ []) (accepted_as (module_of f)))

  -- ---- the cases of the code, in order: a refusal, or on to what is behind

  pub form_refused : {n p : ℕ} → Refused n p ≡ checked_of f → verdicts.Refused n p ≡ verdict_of f
  form_refused e = ap (λ (o : Outcome). and_then o (module_rules f)) e ∙ sym (checked_verdict f)

  pub form_passed : Passed ≡ checked_of f → term_rules ≡ verdict_of f
  form_passed e = module_rules_law ∙ ap (λ (o : Outcome). and_then o (module_rules f)) e ∙ sym (checked_verdict f)

  pub terms_refused : {n p : ℕ} → Refused n p ≡ outcome (term_stage (module_of f) ∷ []) → verdicts.Refused n p ≡ term_rules
  unfolding term_rules
  terms_refused e = stage_refused (term_stage (module_of f)) struct_rules e

  pub terms_passed : Passed ≡ outcome (term_stage (module_of f) ∷ []) → struct_rules ≡ term_rules
  unfolding term_rules
  terms_passed e = stage_passed (term_stage (module_of f)) struct_rules e

  pub structs_refused : {n p : ℕ} → Refused n p ≡ outcome (struct_stage (module_of f) ∷ []) → verdicts.Refused n p ≡ struct_rules
  unfolding struct_rules
  structs_refused e = stage_refused (struct_stage (module_of f)) function_rules e

  pub structs_passed : Passed ≡ outcome (struct_stage (module_of f) ∷ []) → function_rules ≡ struct_rules
  unfolding struct_rules
  structs_passed e = stage_passed (struct_stage (module_of f)) function_rules e

  pub functions_refused : {n p : ℕ} → Refused n p ≡ outcome (function_stage f (module_of f) ∷ []) → verdicts.Refused n p ≡ function_rules
  unfolding function_rules
  functions_refused e = stage_refused (function_stage f (module_of f)) typed_rules e

  pub functions_passed : Passed ≡ outcome (function_stage f (module_of f) ∷ []) → typed_rules ≡ function_rules
  unfolding function_rules
  functions_passed e = stage_passed (function_stage f (module_of f)) typed_rules e

  -- of functions that pass refusal 6 each test holds
  pub functions_hold : Passed ≡ outcome (function_stage f (module_of f) ∷ []) → (g : ℕ) → g < (module_of f).functions → function_test (module_of f) g ≡ true
  functions_hold e = (passed_all (function_stage f (module_of f) ∷ []) (sym e)).0

  pub typed_refused : {n p c : ℕ} → c ≡ (module_of f).functions → Refused n p ≡ typed_from f 0 c → verdicts.Refused n p ≡ typed_rules
  unfolding typed_rules
  typed_refused q e = ap (λ (o : Outcome). and_then o last_rules) (e ∙ ap (typed_from f 0) q)

  pub typed_passed : {c : ℕ} → c ≡ (module_of f).functions → Passed ≡ typed_from f 0 c → last_rules ≡ typed_rules
  unfolding typed_rules
  typed_passed q e = ap (λ (o : Outcome). and_then o last_rules) (e ∙ ap (typed_from f 0) q)

  pub last_refused : {n p : ℕ} → Refused n p ≡ outcome (last_stage f (module_of f) ∷ []) → verdicts.Refused n p ≡ last_rules
  unfolding last_rules
  last_refused e = stage_refused (last_stage f (module_of f)) (accepted_as (module_of f)) e

  pub last_passed : Passed ≡ outcome (last_stage f (module_of f) ∷ []) → accepted_as (module_of f) ≡ last_rules
  unfolding last_rules
  last_passed e = stage_passed (last_stage f (module_of f)) (accepted_as (module_of f)) e

  pub last_place_is : (h g : ℕ) → h ≡ start_of f g → place_in f h ((function_at f h).code_length - 1) ≡ instruction_at f g (((module_of f).function g).code_length - 1)
  last_place_is h g e =
      ap (λ (h : ℕ). place_in f h ((function_at f h).code_length - 1)) e ∙ sym (place_in_law f g ((function_at f (start_of f g)).code_length - 1))
      ∙ ap (λ (F : Function). instruction_at f g (F.code_length - 1)) (sym (function_at_law f g))

  functions_are : (module_of f).functions ≡ (whole f).walk.functions
  unfolding module_of
  functions_are = refl

  pub accepted_is : {n k c i : ℕ} → n ≡ (module_of f).terms → k ≡ (module_of f).structs → c ≡ (module_of f).functions → i ≡ instructions_below f c → verdicts.Accepted n k c i ≡ accepted_as (module_of f)
  accepted_is {n} {k} {c} {i} a b d e =
      ap (λ (x : ℕ). verdicts.Accepted x k c i) a ∙ ap (λ (x : ℕ). verdicts.Accepted (module_of f).terms x c i) b
      ∙ ap (λ (x : ℕ). verdicts.Accepted (module_of f).terms (module_of f).structs x i) d
      ∙ ap (verdicts.Accepted (module_of f).terms (module_of f).structs (module_of f).functions) (e ∙ ap (instructions_below f) (d ∙ functions_are) ∙ instructions_all f)

-- ---- the first that fails of n tests, or n: where n is c

module _ {n c p : ℕ} (t : ℕ → Bool) (e : n ≡ c) (q : p ≡ first n t) where
  there : first c t ≡ p
  there = ap (λ (n : ℕ). first n t) (sym e) ∙ sym q

  pub found : p < n → IsFirst c t (Some p)
  found h = (there, omega arith)

  pub ended : n ≤ p → IsFirst c t None
  ended h = omega (arith, there, first_le c t)

-- ---- the first of so many tests, by the cases of an option

module _ {n c : ℕ} {o : Option ℕ} (t : ℕ → Bool) (e : n ≡ c) where
  pub first_some : {p : ℕ} → o ≡ Some p → IsFirst n t o → IsFirst c t (Some p)
  first_some {p} q h = subst (λ (n : ℕ). IsFirst n t (Some p)) e (subst (IsFirst n t) q h)

  pub first_no : o ≡ None → IsFirst n t o → IsFirst c t None
  first_no q h = subst (λ (n : ℕ). IsFirst n t None) e (subst (IsFirst n t) q h)

-- ---- the first of one test more

module _ (t : ℕ → Bool) (g : ℕ) where
  pub first_goes : (o : Option ℕ) → IsFirst g t o → t g ≡ true → IsFirst (g + 1) t o
  first_goes None is h = first_is (g + 1) t (g + 1) (omega arith) (below_more _ g (λ j l. first_before g t j (omega (arith, is))) h) (λ l. absurd (omega arith))
  first_goes (Some p) is h = (first_is (g + 1) t p (omega (arith, is.1)) (λ j l. first_before g t j (omega (arith, is.0))) (λ l. ap t (sym is.0) ∙ first_fails g t (omega (arith, is.0, is.1))), omega (arith, is.1))

  pub first_stays : (o : Option ℕ) → IsFirst g t o → t g ≡ false → IsFirst (g + 1) t (option_or o (Some g))
  first_stays None is h = (first_is (g + 1) t g (omega arith) (λ j l. first_before g t j (omega (arith, is))) (λ l. h), omega arith)
  first_stays (Some p) is h = (first_is (g + 1) t p (omega (arith, is.1)) (λ j l. first_before g t j (omega (arith, is.0))) (λ l. ap t (sym is.0) ∙ first_fails g t (omega (arith, is.0, is.1))), omega (arith, is.1))
