-- `shape::pages::page_ok` meets its contract: by whether the page has an owner. Assumes nothing.
use mathlib.Core.Path.{◌∙◌}
use Rattle.shape.specs.Pages.{page_unowned, page_owned}
use Rattle.shape.proofs.pages.page_ok.Goals as goal

pub returns-then-owner-eq0 : goal.returns-then-owner-eq0
returns-then-owner-eq0 c = page_unowned c.requires c.args.state.now.state_bytes (c.from-owner.ensures ∙ c.owner.ensures) c.if-owner-eq0.true c.marks_place-marks.ensures c.zero.ensures

pub returns : goal.returns
returns c = page_owned (c.from-owner.ensures ∙ c.owner.ensures) c.if-owner-eq0.false c.not_live-dead.ensures
