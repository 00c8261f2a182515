-- `state::total::function` meets its contract: in range the byte at its place, else 0. Assumes nothing.
use Rattle.state.specs.Reads.{function_is, function_past}
use Rattle.words.specs.Bytes.{byte_at}
use mathlib.Core.Path.{sym, ap, ◌∙◌}
use Rattle.state.proofs.total.function.Goals as goal

pub returns-then-k-lt-MOST_FRAMES : goal.returns-then-k-lt-MOST_FRAMES
returns-then-k-lt-MOST_FRAMES c = c.byte.ensures ∙ ap (byte_at c.args.s.now) c.function_place.ensures ∙ sym (function_is _ c.if-k-lt-MOST_FRAMES.true)

pub returns-else-k-lt-MOST_FRAMES : goal.returns-else-k-lt-MOST_FRAMES
returns-else-k-lt-MOST_FRAMES c = sym (function_past _ c.if-k-lt-MOST_FRAMES.false)
