-- `walk::file::count` meets its contract: the definition as it stands. Assumes nothing.
use mathlib.Core.Path.{refl}
use Rattle.rules.specs.File.{records}
use Rattle.walk.proofs.file.count.Goals as goal

pub returns : goal.returns
unfolding records
returns c = refl
