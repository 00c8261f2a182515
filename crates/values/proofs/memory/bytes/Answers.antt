-- `values::memory::bytes` meets its contract: its four bytes. Assumes nothing.
use mathlib.Core.Path.{◌∙◌}
use Rattle.values.specs.Memory.{word_is}
use Rattle.values.proofs.memory.bytes.Goals as goal

pub returns : goal.returns
returns c = c.from_le_bytes.ensures ∙ word_is _ _ c.memory_byte.ensures c.memory_byte-2.ensures c.memory_byte-3.ensures c.memory_byte-4.ensures
