-- `state::total::range` meets its contract: the field's bytes. Assumes nothing.
use Rattle.rules.specs.State.{view}
use Rattle.state.proofs.total.range.Goals as goal

pub returns : goal.returns
unfolding view
returns c = λ i. record { below = c.byte.ensures i; above = c.byte-2.ensures i }
