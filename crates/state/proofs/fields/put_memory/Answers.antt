-- `state::fields::put_memory` meets its contract: a put at its place. Assumes nothing.
use Rattle.state.specs.Fields.{put_at}
use mathlib.Core.Path.{◌∙◌}
use Rattle.state.proofs.fields.put_memory.Goals as goal

pub returns : goal.returns
returns c = c.store.ensures ∙ put_at _ _ _ _ _ c.memory_place.ensures
