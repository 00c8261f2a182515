-- `report` meets its contract: the verdict's line, and of an accepted module the second behind it.
use native.Mathlib.Omega.{arith}
use Rattle.lines.specs.Writing.{puts_then}
use Rattle.report.specs.Report.{printed_accepted, printed_refused, puts_inside}
use Rattle.report.proofs.report.Goals as goal

pub returns-in-Ok : goal.returns-in-Ok
returns-in-Ok c =
    let a = c.args in
    let v = c.checked_line-n.ensures in
    let w = c.went_line.ensures in
    rw (printed_accepted a.file.now a.form.now c.verdict-v.ensures c.in-Ok.is, c.open_and_go.ensures) (puts_inside (puts_then v.0 w.0) (omega arith))

pub returns-in-Err : goal.returns-in-Err
returns-in-Err c =
    let a = c.args in
    let v = c.checked_line-n.ensures in
    rw (printed_refused a.file.now a.form.now c.verdict-v.ensures c.in-Err.is) (puts_inside v.0 (omega arith))
