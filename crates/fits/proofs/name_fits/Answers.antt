-- `fits::name_fits` meets its contract: clause by clause. Assumes nothing.
use Rattle.rules.specs.Records.{name_fits}
use Rattle.fits.proofs.name_fits.Goals as goal

pub returns : goal.returns
unfolding name_fits
returns c = rw c.from.ensures
