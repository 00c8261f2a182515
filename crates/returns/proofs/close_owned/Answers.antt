-- `returns::close_owned` meets its contract: the set has no region where a page has no owner.
use mathlib.Core.Path.{sym, ◌∙◌}
use Rattle.returns.specs.Left.{from_unowned, word_unowned}
use Rattle.returns.proofs.close_owned.Goals as goal

pub returns-then-word_at-ne0 : goal.returns-then-word_at-ne0
returns-then-word_at-ne0 c = c.close_four.ensures

pub returns-else-word_at-ne0 : goal.returns-else-word_at-ne0
returns-else-word_at-ne0 c = (from_unowned c.args.a.now c.args.s.now c.args.p 4 c.requires.2 (word_unowned c.args.s.now c.args.p c.requires.1 (sym (rw c.owner_place.ensures at c.word_at.ensures) ∙ c.if-word_at-ne0.false)), c.requires.3)
