-- `state::total::memory_byte` meets its contract: in range the byte at its place, else 0. Assumes nothing.
use Rattle.state.specs.Reads.{memory_is, memory_past}
use Rattle.words.specs.Bytes.{byte_at}
use mathlib.Core.Path.{sym, ap, ◌∙◌}
use Rattle.state.proofs.total.memory_byte.Goals as goal

pub returns-then-x-lt-MEMORY_BYTES : goal.returns-then-x-lt-MEMORY_BYTES
returns-then-x-lt-MEMORY_BYTES c = c.byte.ensures ∙ ap (byte_at c.args.s.now) c.memory_place.ensures ∙ sym (memory_is _ c.if-x-lt-MEMORY_BYTES.true)

pub returns-else-x-lt-MEMORY_BYTES : goal.returns-else-x-lt-MEMORY_BYTES
returns-else-x-lt-MEMORY_BYTES c = sym (memory_past _ c.if-x-lt-MEMORY_BYTES.false)
