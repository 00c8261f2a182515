-- `arithmetic::less` meets its contract, by the definition.
use Rattle.arithmetic.specs.Laws.{width_taken}
use Rattle.arithmetic.proofs.less.Goals as goal

pub bias-requires : goal.bias-requires
bias-requires c = width_taken c.requires c.width_in-w.ensures

pub bias-requires-2 : goal.bias-requires-2
bias-requires-2 c = width_taken c.requires c.width_in-w.ensures

pub returns : goal.returns
returns c = cc
