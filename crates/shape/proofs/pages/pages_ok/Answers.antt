-- `shape::pages::pages_ok` meets its contract: every page, with the bounds of the range. Assumes nothing.
use Rattle.std.proofs.Common.{refl, rules}
use Rattle.std.proofs.lemmas.Iterator.{YieldsList-from_range}
use mathlib.Core.Path.{ap, ◌∙◌}
use Rattle.rules.specs.State.{low_page, end_page}
use Rattle.stack.proofs.Scan.{tells_below}
use Rattle.shape.specs.Pages.{pages_by}
use Rattle.shape.proofs.pages.pages_ok.Goals as goal

pub returns : goal.returns
returns c =
    pages_by c.args.state.now.counted (c.low_page-low.ensures ∙ ap low_page c.range-range.ensures) (c.end_page-past.ensures.0 ∙ ap end_page c.range-range.ensures)
    (tells_below (YieldsList-from_range 0 _ _ refl refl) c.all.ensures.ran (λ x b q k. search rules))
