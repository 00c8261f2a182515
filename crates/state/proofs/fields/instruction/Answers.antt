-- `state::fields::instruction` meets its contract: the bytes at its place. Assumes nothing.
use Rattle.state.specs.Reads.{instruction_is}
use Rattle.words.specs.Bytes.{number}
use mathlib.Core.Path.{sym, ap, ◌∙◌}
use Rattle.state.proofs.fields.instruction.Goals as goal

pub returns : goal.returns
returns c = (c.half_at.ensures.0 ∙ ap (number 2 _) c.instruction_place.ensures ∙ sym (instruction_is _ c.requires.1), c.half_at.ensures.1)
