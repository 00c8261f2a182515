-- `records::form_rules` meets its contract: the framing, then refusal 4. Assumes nothing.
use Rattle.std.proofs.lemmas.Result.{err_from_is_err_and}
use Rattle.records.specs.Checked.{checked_framed, checked_refused}
use Rattle.records.proofs.form_rules.Goals as goal

pub returns-in_err-framing-clause-answer : goal.returns-in_err-framing-clause-answer
returns-in_err-framing-clause-answer c =
    let p = err_from_is_err_and c.from_residual.result c.from_residual.ensures.1 in
    rw (p.1, p.2) (checked_refused _ c.in_err-framing.ensures)

pub returns-clause-answer : goal.returns-clause-answer
returns-clause-answer c = checked_framed _ c.in_ok-framing.ensures c.fitting_tables.ensures.answer
