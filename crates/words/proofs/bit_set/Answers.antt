-- `words::bit_set` meets its contract: an or with the mask sets the bit. Assumes nothing.
use Rattle.words.specs.BitLaws.{or_sets, one_shifted}
use Rattle.words.proofs.bit_set.Goals as goal

pub returns : goal.returns
returns c = rw (one_shifted _ c.requires) (or_sets _ _)
