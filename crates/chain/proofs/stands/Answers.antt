-- `chain::stands` meets its contract: function and instruction in range. Assumes nothing.
use mathlib.Core.Path.{ap, ◌∙◌}
use Rattle.rules.specs.File.{instructions_of}
use Rattle.chain.specs.Chain.{stands_by}
use Rattle.chain.proofs.stands.Goals as goal

pub returns : goal.returns
returns c = stands_by c.args.state.now.known.count (c.from.ensures ∙ c.function-g.ensures) c.instruction-i.ensures (c.instructions_of-n.ensures.0 ∙ ap instructions_of c.head-h.ensures)
