-- `host::object::object_accepted` meets its contract: the reader of tested states, behind the state test.
use Rattle.host.specs.Reading.{object_failed, object_no, object_read}
use Rattle.host.proofs.object.object_accepted.Goals as goal

pub returns-then-not-passes-clause-answer : goal.returns-then-not-passes-clause-answer
returns-then-not-passes-clause-answer c = object_failed _ _ _ _ c.requires c.passes.ensures c.if-not-passes.true

pub returns-then-a-eq0-clause-answer : goal.returns-then-a-eq0-clause-answer
returns-then-a-eq0-clause-answer c = object_no _ _ _ _ c.requires c.passes.ensures c.if-not-passes.false c.object-a.ensures c.if-a-eq0.true

pub returns-clause-answer : goal.returns-clause-answer
returns-clause-answer c = object_read _ _ _ _ c.requires c.passes.ensures c.if-not-passes.false c.object-a.ensures
