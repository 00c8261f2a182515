-- `fits::head_ranges` meets its contract: clause by clause. Assumes nothing.
use Rattle.rules.specs.Records.{head_ranges}
use Rattle.fits.proofs.head_ranges.Goals as goal

pub returns : goal.returns
unfolding head_ranges
returns c = rw (c.instructions_of-instructions.ensures.0, c.parameters_of-parameters.ensures, c.regions_of.ensures, c.from.ensures)
