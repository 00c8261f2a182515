-- `marks::page_ends` meets its contract: by whether the page has an owner. Assumes nothing.
use mathlib.Core.Path.{◌∙◌}
use Rattle.stack.specs.Tells.{tells_yes}
use Rattle.marks.specs.Ends.{ends_none, ends_some}
use Rattle.marks.proofs.page_ends.Goals as goal

pub returns-then-owner-eq0 : goal.returns-then-owner-eq0
returns-then-owner-eq0 c = tells_yes (ends_none (c.from-owner.ensures ∙ c.owner.ensures) c.if-owner-eq0.true)

pub returns : goal.returns
returns c = ends_some (c.from-owner.ensures ∙ c.owner.ensures) c.if-owner-eq0.false c.size_of-size.ensures.0 c.end_marks.ensures
