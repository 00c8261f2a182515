-- `values::pages::term_at` meets its contract: one less, or past the last. Assumes nothing.
use Rattle.values.specs.Pages.{place_some, place_none}
use Rattle.values.proofs.pages.term_at.Goals as goal

pub returns-then-p-eq0 : goal.returns-then-p-eq0
returns-then-p-eq0 c = place_none _ _ c.if-p-eq0.true

pub returns-else-p-eq0 : goal.returns-else-p-eq0
returns-else-p-eq0 c = place_some _ _ c.requires c.if-p-eq0.false
