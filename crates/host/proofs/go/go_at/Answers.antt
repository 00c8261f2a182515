-- `host::go::go_at` meets its contract: the verdict first.
use mathlib.Core.Path.{refl}
use Rattle.std.proofs.lemmas.Result.{err_from_is_err_and}
use Rattle.guarantees.specs.Accepted.{says_accepted}
use Rattle.host.specs.Going.{go_refused, went_refused}
use Rattle.host.proofs.go.go_at.Goals as goal

pub go_accepted-requires : goal.go_accepted-requires
go_accepted-requires c = says_accepted _ c.in_ok-verdict.ensures refl

pub returns-in_err-verdict : goal.returns-in_err-verdict
returns-in_err-verdict c =
    let p = err_from_is_err_and c.from_residual.result c.from_residual.ensures.1 in
    rw (p.1, p.2) (went_refused refl refl (go_refused _ _ _ _ _ _ c.in_err-verdict.ensures refl))
