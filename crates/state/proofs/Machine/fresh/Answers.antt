-- `state::Machine::fresh` meets its contract: the writes of its calls, one after the other.
use native.Mathlib.Omega.{arith}
use Rattle.state.specs.Fresh.{fresh_made}
use Rattle.state.proofs.Machine.fresh.Goals as goal

pub returns : goal.returns
returns c m ep en =
    let start = c in
    fresh_made start.args.range m start.args.s.now _ _ _ _ _ _ _ _ _ start.requires.0 (omega arith) start.requires.3 ep en
    c.clear.ensures
    c.put_range.ensures
    c.put_frames.ensures
    c.new_frame.ensures
    c.first_arguments.ensures
    c.first_regions.ensures
