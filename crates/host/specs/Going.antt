-- Going on's answer as rules' `Went`, and `go_at` case by case, as the code goes. The answers of the code have no counterpart of `no_answer`, so
-- the contract says too that no step is stuck. Assumes nothing.
use Rattle.std.specs.Prelude.{◌≡◌, refl, ◌≢◌, Bool, true, false, ◌&&◌, ℕ, ◌<◌, ◌≤◌, eqb, length, Result, Ok, Err}
use Rattle.std.proofs.Common.{sym, ap, ◌∙◌, subst, eqb-true, eq-eqb}
use Rattle.words.specs.Bytes.{Bytes, AllBytes}
use Rattle.words.specs.Choose.{both, both_of, cond_yes, cond_no, cond_le, cond_nle, cond_ne}
use Rattle.words.specs.Decide.{does, does_true}
use Rattle.rules.specs.Limits.{most_form, output_bytes, state_bytes, bad_input, bad_length, bad_state, not_running}
use Rattle.rules.specs.Decode.{module_of}
use Rattle.rules.specs.State.{view}
use Rattle.rules.specs.Run.{run_of}
use Rattle.rules.specs.StateTest.{Passes, dec_passes}
use Rattle.rules.specs.Verdict.{verdict_of, IsAccepted}
use Rattle.rules.specs.Host as rules
use Rattle.rules.specs.declared.PageRange.{PageRange}
use Rattle.rules.specs.declared.refusal.Refusal.{Refusal}
use Rattle.rules.specs.Refusals.{Verdict, number_of, place_of}
use Rattle.rules.specs.Refusals as verdicts
use Rattle.soundness.specs.Demand3.{ranged_range}
use Rattle.soundness.specs.ForCode.{go_went}
use Rattle.turns.specs.Turns.{Came}
use Rattle.run.specs.Outcomes.{outcome_meant}
use Rattle.run.specs.declared.Outcome.{Outcome}
use Rattle.guarantees.specs.Verdicts.{on_refused, on_accepted}
use Rattle.host.specs.declared.go.Went.{Went}

-- the answer, where the state and output left are t and u
abbrev pub went_meant : Result Went Refusal → Bytes → Bytes → rules.Went
went_meant (Ok w) t u = rules.went (outcome_meant w.outcome) w.steps t u
went_meant (Err e) t u = rules.refused (number_of e) (place_of e)

-- the answer is w, and t and u are what it leaves of state s and output o
pub record WentBy (r : Result Went Refusal) (s t o u : Bytes) (w : rules.Went) : Type 0 where
  pub answer : went_meant r t u ≡ w
  pub state : t ≡ rules.left_state w s
  pub output : u ≡ rules.left_output w o

pub went_refused : {e : Refusal} {s t o u : Bytes} {w : rules.Went} → t ≡ s → u ≡ o → rules.refused (number_of e) (place_of e) ≡ w → WentBy (Err e) s t o u w
went_refused {e} {s} {t} {o} {u} h d q = subst (λ (w : rules.Went). WentBy (Err e) s t o u w) q (record { answer = refl; state = h; output = d })

-- ---- case by case

-- the code's state test
pub tested : (R : PageRange) (f s : Bytes) {c : Bool} → c ≡ does (dec_passes (module_of f) s) && rules.ranged R s → c ≡ true → Passes (module_of f) s × ((view s).range ≡ R)
tested R f s e d =
    let h = both (does (dec_passes (module_of f) s)) (rules.ranged R s) (sym e ∙ d) in
    (does_true (dec_passes (module_of f) s) h.0, ranged_range R s h.1)

-- the test of both lengths
pub lengths : (s o : Bytes) → eqb (length s) state_bytes && eqb (length o) output_bytes ≡ true → (length s ≡ state_bytes) × (length o ≡ output_bytes)
lengths s o e =
    let h = both (eqb (length s) state_bytes) (eqb (length o) output_bytes) e in
    (eqb-true (length s) state_bytes h.0, eqb-true (length o) output_bytes h.1)

module _ (R : PageRange) (f form s o : Bytes) (b : ℕ) where
  pub go_refused : {v : Verdict} {n p : ℕ} → v ≡ verdict_of f → v ≡ verdicts.Refused n p → rules.refused n p ≡ rules.go_at R f form s o b
  unfolding rules.go_at
  go_refused e d = on_refused rules.refused f _ e d

  module _ (acc : IsAccepted (verdict_of f)) where
    go_accepted : rules.go_at R f form s o b ≡ rules.go_with rules.refused R (module_of f) form s o (rules.went_of (run_of (module_of f) form b s o))
    unfolding rules.go_at
    go_accepted = on_accepted rules.refused f _ acc

    pub go_form : most_form < length form → rules.refused bad_input 0 ≡ rules.go_at R f form s o b
    go_form h = sym (go_accepted ∙ cond_nle _ _ h)

    module _ (few : length form ≤ most_form) where
      pub go_length : eqb (length s) state_bytes && eqb (length o) output_bytes ≡ false → rules.refused bad_length 0 ≡ rules.go_at R f form s o b
      go_length h = sym (go_accepted ∙ cond_le _ _ few ∙ cond_no _ _ h)

      module _ (size : length s ≡ state_bytes) (long : length o ≡ output_bytes) {c : Bool} (e : c ≡ does (dec_passes (module_of f) s) && rules.ranged R s) where
        pub go_failed : c ≡ false → rules.refused bad_state 0 ≡ rules.go_at R f form s o b
        go_failed d = sym (go_accepted ∙ cond_le _ _ few ∙ cond_yes _ _ (both_of (eq-eqb (length s) state_bytes size) (eq-eqb (length o) output_bytes long)) ∙ cond_no _ _ (sym e ∙ d))

        pub go_over : c ≡ true → {n : ℕ} → n ≡ (view s).status → n ≢ 0 → rules.refused not_running 0 ≡ rules.go_at R f form s o b
        go_over d q h = sym (go_accepted ∙ cond_le _ _ few ∙ cond_yes _ _ (both_of (eq-eqb (length s) state_bytes size) (eq-eqb (length o) output_bytes long)) ∙ cond_yes _ _ (sym e ∙ d) ∙ cond_ne _ _ (λ z. h (q ∙ z)))

      -- the answer of a run: the outcome of the state that it left
      pub go_ran : AllBytes form → AllBytes s → Passes (module_of f) s → (view s).range ≡ R → (view s).status ≡ 0 → length o ≡ output_bytes
          → {x : Outcome} {n : ℕ} {t u : Bytes} → Came (module_of f) form s o b n t u → outcome_meant x ≡ rules.outcome_of (view t)
          → WentBy (Ok (record { outcome = x; steps = n })) s t o u (rules.go_at R f form s o b)
      go_ran h l p y z k {x} {n} {t} {u} came a =
          let q : rules.go_at R f form s o b ≡ rules.went (rules.outcome_of (view t)) n t u
          = go_went R f form s o b acc h few l p y z k
          ∙ (λ i. rules.went (rules.outcome_of (view (sym came.state i))) (sym came.counted i) (sym came.state i) (sym came.output i)) in
          subst (λ (w : rules.Went). WentBy (Ok (record { outcome = x; steps = n })) s t o u w) (sym q)
          (record { answer = ap (λ (y : rules.Outcome). rules.went y n t u) a; state = refl; output = refl })
