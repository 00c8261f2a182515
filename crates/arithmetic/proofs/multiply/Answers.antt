-- `arithmetic::multiply` meets its contract: a product of two numbers of 32 bits stays within 64, and the mask cuts to the width.
use mathlib.Core.Path.{◌∙◌}
use Rattle.arithmetic.specs.Laws.{below, mask_taken}
use borrow.Author.Rules.{rules}
use Rattle.arithmetic.proofs.multiply.Goals as goal

pub overflow_mul-from : goal.overflow_mul-from
overflow_mul-from c = record { fits = below 32 (search rules) (search rules) }

pub returns : goal.returns
returns c = c.cut_by.ensures _ c.requires.width (mask_taken c.requires c.mask_in.ensures) ∙ cc
