-- `state::fields::frames` meets its contract: the field's bytes. Assumes nothing.
use Rattle.rules.specs.State.{view}
use borrow.Author.Rules.{rules}
use Rattle.state.proofs.fields.frames.Goals as goal

pub returns : goal.returns
unfolding view
returns c = search rules
