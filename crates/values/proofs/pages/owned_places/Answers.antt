-- `values::pages::owned_places` meets its contract: by the page's owner. Assumes nothing.
use Rattle.values.specs.Pages.{places_other, places_owned}
use Rattle.values.proofs.pages.owned_places.Goals as goal

pub returns-then-owner : goal.returns-then-owner
returns-then-owner c = (places_other c.owner.ensures c.if-owner.true, c.requires.holds)

pub returns : goal.returns
returns c = (places_owned c.owner.ensures c.if-owner.false c.places_ok.ensures.0, c.places_ok.ensures.1)
