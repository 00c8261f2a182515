-- `instructions::known::no_runs` meets its contract: no number of a run is 0.
use Rattle.instructions.specs.Known.{remembered_none}
use Rattle.instructions.proofs.known.no_runs.Goals as goal

pub returns : goal.returns
returns c = λ f. remembered_none f
