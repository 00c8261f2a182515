-- `state::fields::memory` meets its contract: the bytes at its place. Assumes nothing.
use Rattle.state.specs.Reads.{memory_number_is}
use Rattle.words.specs.Bytes.{number}
use mathlib.Core.Path.{sym, ap, ◌∙◌}
use Rattle.state.proofs.fields.memory.Goals as goal

pub returns : goal.returns
returns c = c.load.ensures ∙ ap (number _ _) c.memory_place.ensures ∙ sym (memory_number_is _ _ _ c.requires.1)
