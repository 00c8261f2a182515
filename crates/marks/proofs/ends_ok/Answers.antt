-- `marks::ends_ok` meets its contract: every page. Assumes nothing.
use Rattle.std.proofs.Common.{refl, rules}
use Rattle.std.proofs.lemmas.Iterator.{YieldsList-from_range}
use Rattle.stack.proofs.Scan.{tells_below}
use Rattle.marks.specs.Ends.{all_by}
use Rattle.marks.proofs.ends_ok.Goals as goal

pub returns : goal.returns
returns c = all_by c.args.typed.now.state.counted (tells_below (YieldsList-from_range 0 _ _ refl refl) c.all.ensures.ran (λ x b q k. search rules))
