-- "1 to 8 come first": what a verdict gives to the answers that go by it. Assumes nothing.
use Rattle.std.specs.Prelude.{◌≡◌, ℕ}
use Rattle.std.proofs.Common.{sym, ap, ◌∙◌}
use Rattle.words.specs.Bytes.{Bytes}
use Rattle.rules.specs.Verdict.{verdict_of, IsAccepted}
use Rattle.rules.specs.Host.{on_verdict}
use Rattle.rules.specs.Refusals.{Verdict, Refused}
use Rattle.typing.specs.Accepted.{counts}

module _ {B : Type 0} (refuse : ℕ → ℕ → B) (f : Bytes) (b : B) where
  pub on_refused : {v : Verdict} {n p : ℕ} → v ≡ verdict_of f → v ≡ Refused n p → refuse n p ≡ on_verdict refuse (verdict_of f) b
  on_refused e d = ap (λ (v : Verdict). on_verdict refuse v b) (sym d ∙ e)

  pub on_accepted : IsAccepted (verdict_of f) → on_verdict refuse (verdict_of f) b ≡ b
  on_accepted acc = ap (λ (v : Verdict). on_verdict refuse v b) (counts f acc)
