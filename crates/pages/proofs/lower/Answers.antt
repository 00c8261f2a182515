-- `pages::lower` meets its contract, by the definition.
use Rattle.pages.specs.Known.{lowered_yes, lowered_no}
use Rattle.pages.proofs.lower.Goals as goal

pub returns-then-x-known : goal.returns-then-x-known
returns-then-x-known c = lowered_yes c.args.known.now c.args.i c.args.x c.if-x-known.true

pub returns-else-x-known : goal.returns-else-x-known
returns-else-x-known c = lowered_no c.args.known.now c.args.i c.args.x c.if-x-known.false
