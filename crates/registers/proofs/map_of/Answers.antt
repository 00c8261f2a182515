-- `registers::map_of` meets its contract: its seven entries. Assumes nothing.
use Rattle.std.proofs.Common.{rules}
use Rattle.rules.specs.State.{frame_map}
use Rattle.positions.specs.Maps.{map_list}
use Rattle.registers.proofs.Made.{made}
use Rattle.registers.proofs.map_of.Goals as goal

pub returns : goal.returns
unfolding map_list
returns c = made (frame_map c.args.s.now c.args.k) (λ i b q k. search rules) _ _ c.from_fn.ensures.items
