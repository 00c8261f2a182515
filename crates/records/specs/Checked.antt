-- What refusals 1 to 4 say of a file: whoever goes on with refusals 5 to 8 goes on from here. Assumes nothing.
use Rattle.std.specs.Prelude.{◌≡◌, refl, ℕ, true, [], ◌∷◌}
use Rattle.std.proofs.Common.{ap, ◌∙◌, lit<, arith}
use Rattle.words.specs.Bytes.{Bytes}
use Rattle.rules.specs.File.{length_right, length_stage, block_stage}
use Rattle.rules.specs.Records.{record_stage}
use Rattle.typing.specs.Stages.{AllPass}
use Rattle.typing.specs.Walk.{Fits}
use Rattle.rules.specs.Verdict.{record_rules, module_rules, verdict_of}
use Rattle.framing.specs.Outcome.{Outcome, Passed, Refused, framing_of, and_then, verdict_framing, passed_all}
use Rattle.records.specs.Outcome.{records_of, verdict_records}

-- after the framing
abbrev pub checked_after : Outcome → Bytes → Outcome
checked_after Passed f = records_of f
checked_after (Refused n p) f = Refused n p

unfoldable pub checked_of : Bytes → Outcome
checked_of f = checked_after (framing_of f) f

-- the verdict is the refusal, or that of refusals 5 to 8
pub checked_verdict : (f : Bytes) → verdict_of f ≡ and_then (checked_of f) (module_rules f)
unfolding checked_of
checked_verdict f = verdict_framing f ∙ go (framing_of f)
  where
    go : (o : Outcome) → and_then o (record_rules f) ≡ and_then (checked_after o f) (module_rules f)
    go Passed = verdict_records f
    go (Refused n p) = refl

-- each test of refusals 1 to 4 passes
pub checked_all : (f : Bytes) → checked_of f ≡ Passed → AllPass (length_stage f ∷ block_stage f ∷ []) × AllPass (record_stage f ∷ [])
unfolding checked_of framing_of records_of
checked_all f = go (framing_of f) refl
  where
    go : (o : Outcome) → framing_of f ≡ o → checked_after o f ≡ Passed → AllPass (length_stage f ∷ block_stage f ∷ []) × AllPass (record_stage f ∷ [])
    go Passed q e = (passed_all (length_stage f ∷ block_stage f ∷ []) q, passed_all (record_stage f ∷ []) e)
    go (Refused n p) q e = absurd (let z : ◌≡◌ {A = ℕ} 0 1 = cc in omega arith)

-- the file's length, and that each record fits: what the laws of an accepted file ask (typing's specs/Walk.antt, walk's specs/Tables.antt)
pub checked_length : (f : Bytes) → checked_of f ≡ Passed → length_right f ≡ true
checked_length f e = (checked_all f e).0.0 0 (lit< tt)

pub checked_fits : (f : Bytes) → checked_of f ≡ Passed → Fits f
checked_fits f e = (checked_all f e).1.0

-- ---- the cases of the code

module _ (f : Bytes) {o : Outcome} where
  pub checked_framed : Passed ≡ framing_of f → o ≡ records_of f → o ≡ checked_of f
  unfolding checked_of
  checked_framed e h = h ∙ ap (λ (w : Outcome). checked_after w f) e

pub checked_refused : (f : Bytes) {n p : ℕ} → Refused n p ≡ framing_of f → Refused n p ≡ checked_of f
unfolding checked_of
checked_refused f e = ap (λ (w : Outcome). checked_after w f) e
