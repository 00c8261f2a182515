-- `values::memory::word` meets its contract: the bytes at its place. Assumes nothing.
use mathlib.Core.Path.{sym, ap, ◌∙◌}
use Rattle.words.specs.Bytes.{number}
use Rattle.state.specs.Reads.{memory_number_is}
use Rattle.values.proofs.memory.word.Goals as goal

pub returns-then-x-le-MEMORY_BYTES : goal.returns-then-x-le-MEMORY_BYTES
returns-then-x-le-MEMORY_BYTES c = c.word.ensures ∙ ap (number _ _) c.memory_place.ensures ∙ sym (memory_number_is _ _ _ c.if-x-le-MEMORY_BYTES.true)
