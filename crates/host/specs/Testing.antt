-- The state test's answer as rules' `Tested`, and `test_at` case by case, as the code goes. Assumes nothing.
use Rattle.std.specs.Prelude.{◌≡◌, refl, ◌≢◌, Bool, true, false, ◌&&◌, ℕ, eqb, length, Result, Ok, Err}
use Rattle.std.proofs.Common.{sym, ◌∙◌}
use Rattle.words.specs.Bytes.{Bytes}
use Rattle.words.specs.Choose.{cond_yes, cond_no, cond_eq, cond_ne}
use Rattle.words.specs.Decide.{does}
use Rattle.rules.specs.Limits.{state_bytes, bad_length, bad_state}
use Rattle.rules.specs.Decode.{module_of}
use Rattle.rules.specs.StateTest.{dec_passes}
use Rattle.rules.specs.Verdict.{verdict_of, IsAccepted}
use Rattle.rules.specs.Host as rules
use Rattle.rules.specs.declared.PageRange.{PageRange}
use Rattle.rules.specs.declared.refusal.Refusal.{Refusal}
use Rattle.rules.specs.Refusals.{Verdict, number_of, place_of}
use Rattle.rules.specs.Refusals as verdicts
use Rattle.guarantees.specs.Verdicts.{on_refused, on_accepted}

abbrev pub tested_meant : Result (Unit {0}) Refusal → rules.Tested
tested_meant (Ok x) = rules.passed
tested_meant (Err e) = rules.failed (number_of e) (place_of e)

-- where the range is the machine's, the state test decides
pub and_same : (a b : Bool) → b ≡ true → a && b ≡ a
and_same true b e = e
and_same false b e = refl

module _ (R : PageRange) (f s : Bytes) where
  pub test_refused : {v : Verdict} {n p : ℕ} → v ≡ verdict_of f → v ≡ verdicts.Refused n p → rules.failed n p ≡ rules.test_at R f s
  unfolding rules.test_at
  test_refused e d = on_refused rules.failed f _ e d

  module _ (acc : IsAccepted (verdict_of f)) where
    test_accepted : rules.test_at R f s ≡ rules.unless rules.failed (eqb (length s) state_bytes) bad_length
        (rules.unless rules.failed (does (dec_passes (module_of f) s) && rules.ranged R s) bad_state rules.passed)
    unfolding rules.test_at
    test_accepted = on_accepted rules.failed f _ acc

    pub test_length : length s ≢ state_bytes → rules.failed bad_length 0 ≡ rules.test_at R f s
    test_length h = sym (test_accepted ∙ cond_ne _ _ h)

    module _ (size : length s ≡ state_bytes) {b : Bool} (e : b ≡ does (dec_passes (module_of f) s) && rules.ranged R s) where
      pub test_passed : b ≡ true → rules.passed ≡ rules.test_at R f s
      test_passed d = sym (test_accepted ∙ cond_eq _ _ size ∙ cond_yes _ _ (sym e ∙ d))

      pub test_failed : b ≡ false → rules.failed bad_state 0 ≡ rules.test_at R f s
      test_failed d = sym (test_accepted ∙ cond_eq _ _ size ∙ cond_no _ _ (sym e ∙ d))
