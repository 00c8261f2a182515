-- `walk::file::record_start` meets its contract: the definition as it stands. Assumes nothing.
use mathlib.Core.Path.{refl}
use Rattle.rules.specs.File.{record_start}
use Rattle.walk.proofs.file.record_start.Goals as goal

pub returns-clause-place : goal.returns-clause-place
unfolding record_start
returns-clause-place c = refl
