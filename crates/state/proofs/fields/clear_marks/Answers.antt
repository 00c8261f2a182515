-- `state::fields::clear_marks` meets its contract: zeros at its place. Assumes nothing.
use Rattle.state.specs.Fields.{fill_at}
use mathlib.Core.Path.{◌∙◌}
use Rattle.state.proofs.fields.clear_marks.Goals as goal

pub returns : goal.returns
returns c = c.clear.ensures ∙ fill_at _ _ _ _ c.marks_place.ensures
