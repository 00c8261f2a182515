-- `state::fields::clear_mark` meets its contract: the byte at its place, with its bit. Assumes nothing.
use Rattle.state.specs.Fields.{mark_written}
use mathlib.Core.Path.{◌∙◌}
use Rattle.state.proofs.fields.clear_mark.Goals as goal

pub returns : goal.returns
returns c = c.put_byte.ensures ∙ mark_written _ _ _ _ _ _ c.mark_place-i.ensures c.bit_clear-b.ensures
