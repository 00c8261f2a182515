-- `state::fields::mark` meets its contract: the bit at its place. Assumes nothing.
use Rattle.state.specs.Fields.{mark_read}
use mathlib.Core.Path.{refl}
use mathlib.Core.Path.{◌∙◌}
use Rattle.state.proofs.fields.mark.Goals as goal

pub returns : goal.returns
returns c = (c.bit_of.ensures.0 ∙ mark_read _ _ _ _ _ refl c.mark_place-i.ensures c.requires.1.0 c.requires.1.1, c.bit_of.ensures.1)
