-- `records::fitting_tables` meets its contract: refusal 4.
use Rattle.std.proofs.lemmas.Result.{err_from_is_err_and}
use Rattle.records.proofs.fitting_tables.Goals as goal

pub returns-in_err-record_rules-clause-answer : goal.returns-in_err-record_rules-clause-answer
returns-in_err-record_rules-clause-answer c =
    let p = err_from_is_err_and c.from_residual.result c.from_residual.ensures.1 in
    rw (p.1, p.2) c.in_err-record_rules.ensures
