-- `open_and_go` meets its contract: opening's refusal, or going on's answer.
use Rattle.std.proofs.lemmas.Result.{err_from_is_err_and}
use Rattle.report.specs.Report.{second_refused, second_went}
use Rattle.report.proofs.open_and_go.Goals as goal

pub returns-in_err-open : goal.returns-in_err-open
returns-in_err-open c =
    let a = c.args in
    let p = err_from_is_err_and c.from_residual.result c.from_residual.ensures.1 in
    rw (p.1, p.2) (second_refused a.file.now a.form.now c.in_err-open.ensures)

pub returns : goal.returns
returns c = let a = c.args in second_went a.file.now a.form.now c.in_ok-open.ensures c.go.ensures
