-- `words::put_half` meets its contract: the part of two bytes holds the number now. Assumes nothing.
use mathlib.Core.Path.{◌∙◌}
use Rattle.words.specs.ByteLaws.{little_two, put_part}
use Rattle.words.proofs.put_half.Goals as goal

pub returns : goal.returns
returns c = put_part _ _ _ c.args.v _ (c.copy_from_slice.ensures.after ∙ c.to_le_bytes.ensures ∙ little_two c.args.v) c.requires
