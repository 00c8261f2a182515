-- `arithmetic::add` meets its contract: the mask cuts to the width.
use mathlib.Core.Path.{◌∙◌}
use Rattle.arithmetic.specs.Laws.{mask_taken}
use Rattle.arithmetic.proofs.add.Goals as goal

pub returns : goal.returns
returns c = c.cut_by.ensures _ c.requires.width (mask_taken c.requires c.mask_in.ensures) ∙ cc
