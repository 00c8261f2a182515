-- `memo::forget` meets its contract: there is no answer at any distance. Assumes nothing.
use Rattle.memo.specs.Memo.{forgotten}
use Rattle.memo.proofs.forget.Goals as goal

pub returns : goal.returns
returns c = forgotten 256
