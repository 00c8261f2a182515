-- `state::fields::put_register` meets its contract: a put at its place. Assumes nothing.
use Rattle.state.specs.Fields.{put_at}
use mathlib.Core.Path.{◌∙◌}
use Rattle.state.proofs.fields.put_register.Goals as goal

pub returns : goal.returns
returns c = c.put_word.ensures ∙ put_at _ _ _ _ _ c.register_place.ensures
