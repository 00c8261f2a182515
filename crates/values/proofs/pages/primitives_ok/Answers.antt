-- `values::pages::primitives_ok` meets its contract: every page. Assumes nothing.
use Rattle.std.proofs.Common.{refl, rules}
use Rattle.std.proofs.lemmas.Iterator.{YieldsList-from_range}
use Rattle.stack.proofs.Scan.{tells_below}
use Rattle.values.specs.Pages.{all_by}
use Rattle.values.proofs.pages.primitives_ok.Goals as goal

pub returns : goal.returns
returns c = all_by c.args.mapped.now.typed.state.counted (tells_below (YieldsList-from_range 0 _ _ refl refl) c.all.ensures.ran (λ x b q k. search rules))
