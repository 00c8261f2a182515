-- `chain::call_at` meets its contract: the record at the place. Assumes nothing.
use native.Mathlib.Omega.{arith}
use mathlib.Core.Path.{◌∙◌}
use Rattle.chain.specs.Chain.{call_small, call_inside, call_is}
use Rattle.chain.proofs.call_at.Goals as goal

pub place-p-requires : goal.place-p-requires
place-p-requires c = (omega arith, (call_small c.args.state.now.bytes.now _ c.args.state.now.state_bytes c.instruction-i.ensures, call_inside _ _ _ c.requires (c.from-g.ensures ∙ c.function.ensures) c.instruction-i.ensures))

pub returns : goal.returns
returns c = call_is _ _ _ c.record_at.ensures c.place-p.ensures (c.from-g.ensures ∙ c.function.ensures) c.instruction-i.ensures
