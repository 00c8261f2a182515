-- `opening::open_at` meets its contract: the verdict first.
use mathlib.Core.Path.{refl}
use Rattle.std.proofs.lemmas.Result.{err_from_is_err_and}
use Rattle.guarantees.specs.Accepted.{says_accepted}
use Rattle.opening.specs.Opening.{open_refused, opened_refused}
use Rattle.opening.proofs.open_at.Goals as goal

pub open_accepted-requires : goal.open_accepted-requires
open_accepted-requires c = says_accepted _ c.in_ok-verdict.ensures refl

pub returns-in_err-verdict : goal.returns-in_err-verdict
returns-in_err-verdict c =
    let p = err_from_is_err_and c.from_residual.result c.from_residual.ensures.1 in
    rw (p.1, p.2) (opened_refused refl (open_refused _ _ _ _ c.in_err-verdict.ensures refl))
