-- `records::record_rules` meets its contract: the two cases of its one stage. Assumes nothing.
use Rattle.records.specs.Outcome.{wrong_record, right_records}
use Rattle.records.proofs.record_rules.Goals as goal

pub returns-in-Some : goal.returns-in-Some
returns-in-Some c = wrong_record _ c.in-Some.ensures

pub returns-in-None : goal.returns-in-None
returns-in-None c = right_records _ c.in-None.ensures
