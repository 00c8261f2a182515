-- `host::object::object` meets its contract: that of `object_at` with all pages.
use Rattle.host.proofs.object.object.Goals as goal

pub returns-clause-answer : goal.returns-clause-answer
returns-clause-answer c = rw c.all_pages.ensures at c.object_at.ensures.answer
