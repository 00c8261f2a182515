-- `equality::identity` meets its contract: each region is its own number.
use Rattle.std.proofs.Common.{rules}
use Rattle.equality.proofs.identity.Goals as goal

pub returns : goal.returns
returns c = λ v l. let w = c.from_fn.ensures.items.at v 255 l in let k = w.2 in search rules
