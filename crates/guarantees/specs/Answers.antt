-- Every call of going on answers: with any file, form, state, output and budget it is refused, or it runs without a stuck step. So an
-- answer of the code needs no counterpart of `no_answer`. Assumes nothing.
use Rattle.std.specs.Prelude.{◌≡◌, refl, Bool, true, false, ◌&&◌, ◌≢◌, ℕ, eqb, leb, length}
use Rattle.std.proofs.Common.{sym, ◌∙◌, arith}
use Rattle.words.specs.Bytes.{Bytes, AllBytes}
use Rattle.words.specs.Choose.{both}
use Rattle.words.specs.Decide.{does, does_true}
use Rattle.rules.specs.Limits.{most_form, output_bytes, state_bytes, bad_input, bad_length, bad_state, not_running}
use Rattle.rules.specs.Decode.{module_of}
use Rattle.rules.specs.Verdict.{verdict_of, IsAccepted}
use Rattle.rules.specs.State.{view}
use Rattle.rules.specs.Run.{Trace, run_of}
use Rattle.rules.specs.StateTest.{dec_passes}
use Rattle.rules.specs.Host.{Outcome, Went, refused, went, no_answer, on_verdict, unless, go_at, ranged}
use Rattle.rules.specs.declared.PageRange.{PageRange}
use Rattle.rules.specs.Refusals.{Verdict, Accepted, Refused}
use Rattle.soundness.specs.Demand3.{went_is}
use Rattle.soundness.specs.ForCode.{accepted_moves}

refused_answers : (n p : ℕ) → refused n p ≢ no_answer
refused_answers n p e = let z : ◌≡◌ {A = ℕ} 0 1 = cc in omega arith

went_answers : (a : Outcome) (n : ℕ) (t u : Bytes) → went a n t u ≢ no_answer
went_answers a n t u e = let z : ◌≡◌ {A = ℕ} 0 1 = cc in omega arith

-- what answers where the test passes, answers
verdict_answers : (v : Verdict) (w : Went) → (IsAccepted v → w ≢ no_answer) → on_verdict refused v w ≢ no_answer
verdict_answers (Accepted t n f i) w h = h tt
verdict_answers (Refused n p) w h = refused_answers n p

unless_answers : (test : Bool) (n : ℕ) (w : Went) → (test ≡ true → w ≢ no_answer) → unless refused test n w ≢ no_answer
unless_answers true n w h = h refl
unless_answers false n w h = refused_answers n 0

pub every_answers : (R : PageRange) (f form s o : Bytes) (b : ℕ) → AllBytes form → AllBytes s → go_at R f form s o b ≢ no_answer
unfolding go_at
every_answers R f form s o b h l =
    let r : Trace = run_of (module_of f) form b s o in
    verdict_answers (verdict_of f) _ (λ acc.
    unless_answers (leb (length form) most_form) bad_input _ (λ few.
    unless_answers (eqb (length s) state_bytes && eqb (length o) output_bytes) bad_length _ (λ long.
    unless_answers (does (dec_passes (module_of f) s) && ranged R s) bad_state _ (λ p.
    unless_answers (eqb (view s).status 0) not_running _ (λ z e.
    went_answers _ _ _ _ (sym (went_is r (accepted_moves f form b s o acc h l (does_true (dec_passes (module_of f) s) (both (does (dec_passes (module_of f) s)) (ranged R s) p).0))) ∙ e))))))
