-- `arithmetic::cut_by` meets its contract: with the largest number of a width an `and` cuts.
use mathlib.Core.Path.{ap, ◌∙◌}
use lib.Bits.{bit_and}
use Rattle.arithmetic.specs.Laws.{cut_mask}
use Rattle.arithmetic.proofs.cut_by.Goals as goal

pub returns : goal.returns
returns c = λ w h e. ap (bit_and c.args.n) c.from.ensures ∙ cut_mask c.args.n c.args.m w h e
