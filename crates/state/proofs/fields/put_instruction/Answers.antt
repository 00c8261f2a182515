-- `state::fields::put_instruction` meets its contract: a put at its place. Assumes nothing.
use Rattle.state.specs.Fields.{put_at}
use mathlib.Core.Path.{◌∙◌}
use Rattle.state.proofs.fields.put_instruction.Goals as goal

pub returns : goal.returns
returns c = c.put_half.ensures ∙ put_at _ _ _ _ _ c.instruction_place.ensures
