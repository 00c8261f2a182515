-- `host::test::test_accepted` meets its contract: rules' order of refusals.
use Rattle.host.specs.Testing.{test_length, test_passed, test_failed}
use Rattle.host.proofs.test.test_accepted.Goals as goal

pub returns-then-s-ne-STATE_BYTES : goal.returns-then-s-ne-STATE_BYTES
returns-then-s-ne-STATE_BYTES c = test_length _ _ _ c.requires c.if-s-ne-STATE_BYTES.true

pub returns-then-passes : goal.returns-then-passes
returns-then-passes c = test_passed _ _ _ c.requires c.if-s-ne-STATE_BYTES.false c.passes.ensures c.if-passes.true

pub returns-else-passes : goal.returns-else-passes
returns-else-passes c = test_failed _ _ _ c.requires c.if-s-ne-STATE_BYTES.false c.passes.ensures c.if-passes.false
