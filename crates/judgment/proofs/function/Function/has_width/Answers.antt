-- `judgment::function::Function::has_width` meets its contract: by the register's type.
use Rattle.judgment.specs.Types.{width_in_law}
use Rattle.judgment.proofs.function.Function.has_width.Goals as goal

pub returns : goal.returns
returns c = width_in_law c.entry-e.ensures c.args.w
