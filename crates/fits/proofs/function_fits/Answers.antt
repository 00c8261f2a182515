-- `fits::function_fits` meets its contract: clause by clause. Assumes nothing.
use Rattle.rules.specs.Records.{function_fits}
use Rattle.fits.proofs.function_fits.Goals as goal

pub returns : goal.returns
unfolding function_fits
returns c = rw (c.head_ranges.ensures, c.return_of.ensures)
