-- `state::total::instruction` meets its contract: in range the bytes at its place, else 0. Assumes nothing.
use Rattle.state.specs.Reads.{instruction_is, instruction_past}
use Rattle.words.specs.Bytes.{number}
use mathlib.Core.Path.{sym, ap, ◌∙◌}
use Rattle.state.proofs.total.instruction.Goals as goal

pub returns-then-k-lt-MOST_FRAMES : goal.returns-then-k-lt-MOST_FRAMES
returns-then-k-lt-MOST_FRAMES c = c.half.ensures.0 ∙ ap (number 2 _) c.instruction_place.ensures ∙ sym (instruction_is _ c.if-k-lt-MOST_FRAMES.true)

pub returns-else-k-lt-MOST_FRAMES : goal.returns-else-k-lt-MOST_FRAMES
returns-else-k-lt-MOST_FRAMES c = sym (instruction_past _ c.if-k-lt-MOST_FRAMES.false)
