-- `state::fields::put_range` meets its contract: its two bytes, one after the other. Assumes nothing.
use Rattle.state.specs.Fields.{range_written}
use Rattle.state.proofs.fields.put_range.Goals as goal

pub returns : goal.returns
returns c = range_written c.args.range c.args.s.now
