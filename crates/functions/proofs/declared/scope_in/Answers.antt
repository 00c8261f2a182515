-- `functions::declared::scope_in` meets its contract: by the branch.
use Rattle.functions.specs.Functions.{scope_in}
use borrow.Author.Tests.{lt-ltb, le-ltb}
use Rattle.functions.proofs.declared.scope_in.Goals as goal

pub returns-then-j-n : goal.returns-then-j-n
unfolding scope_in
returns-then-j-n c = rw (lt-ltb _ _ c.if-j-n.true) c.from.ensures

pub returns-else-j-n : goal.returns-else-j-n
unfolding scope_in
returns-else-j-n c = rw (le-ltb _ _ c.if-j-n.false) c.regions_of.ensures
