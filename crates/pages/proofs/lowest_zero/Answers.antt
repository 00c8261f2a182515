-- `pages::lowest_zero` meets its contract: the ones at the low end of a byte end at its lowest bit that is 0.
use Rattle.std.proofs.Common.{◌∙◌}
use borrow.Author.Rules.{rules}
use Rattle.std.proofs.lemmas.Nat.{trailing_le}
use Rattle.pages.specs.Places.{ones_end}
use Rattle.pages.proofs.lowest_zero.Goals as goal

pub returns : goal.returns
returns c = (c.trailing_ones.ensures ∙ ones_end c.args.b (search rules), rw c.trailing_ones.ensures (trailing_le 8 _))
