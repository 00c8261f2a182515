-- `host::test::state_test` meets its contract: that of `state_test_at` with all pages.
use Rattle.host.proofs.test.state_test.Goals as goal

pub returns : goal.returns
returns c = rw c.all_pages.ensures at c.state_test_at.ensures
