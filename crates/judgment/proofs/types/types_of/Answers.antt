-- `judgment::types::types_of` meets its contract: each type is put behind those before it.
use Rattle.std.proofs.Common.{arith}
use Rattle.judgment.specs.Types.{described_none, described_more}
use Rattle.judgment.proofs.types.types_of.Goals as goal

pub loop-a-init : goal.loop-a-init
loop-a-init c = described_none _ _

pub loop-a-preserved : goal.loop-a-preserved
loop-a-preserved c = described_more _ (omega arith) c.description.ensures c.loop-a.invariant
