-- What refusal 4 says of a file, as an outcome and as the place of the first fault. Assumes nothing.
use Rattle.std.specs.Prelude.{◌≡◌, ℕ, ◌+◌, Option, Some, None}
use mathlib.Core.List.{[], ◌∷◌}
use Rattle.words.specs.Bytes.{Bytes}
use Rattle.rules.specs.Limits.{bad_record}
use Rattle.rules.specs.File.{records}
use Rattle.rules.specs.Records.{record_test, record_stage}
use Rattle.rules.specs.Verdict.{module_rules, record_rules}
use Rattle.framing.specs.Outcome.{Outcome, Passed, Refused, outcome, and_then, verdict_outcome, IsFirst, first_passes, first_refuses}

unfoldable pub records_of : Bytes → Outcome
records_of f = outcome (record_stage f ∷ [])

-- the verdict behind the framing, where it is made of this rule and `module_rules`
pub verdict_records : (f : Bytes) → record_rules f ≡ and_then (records_of f) (module_rules f)
unfolding record_rules records_of
verdict_records f = verdict_outcome (record_stage f ∷ []) (module_rules f)

-- the first place at which a test fails, if there is one: a record, or their number where the file ends too soon
abbrev pub IsFault : Bytes → Option ℕ → Type 0
IsFault f = IsFirst (records f + 1) (record_test f)

module _ (f : Bytes) where
  pub wrong_record : {p : ℕ} → IsFault f (Some p) → Refused bad_record p ≡ records_of f
  unfolding records_of
  wrong_record h = first_refuses (record_stage f) h

  pub right_records : IsFault f None → Passed ≡ records_of f
  unfolding records_of
  right_records h = first_passes (record_stage f) h
