-- `fits::list_fits` meets its contract: clause by clause. Assumes nothing.
use Rattle.rules.specs.Records.{list_fits}
use Rattle.fits.proofs.list_fits.Goals as goal

pub returns : goal.returns
unfolding list_fits
returns c = rw c.seven.ensures
